-- The bytes are cut at the length that the first of them says.
use Rattle.std.proofs.Common.{◌∙◌, ap, subst, sym, take, drop, get_or, List, ℕ}
use Rattle.usb_descriptor.specs.Descriptor.{SplitsFirst}
use Rattle.usb_descriptor.proofs.Cuts.{splits_front}
use Rattle.usb_descriptor.proofs.descriptor.split_whole.Goals as goal

pub returns : goal.returns
returns c =
    let bytes = c.args.bytes.now in
    let P : List ℕ → Type 0 = λ d. SplitsFirst bytes d c.split_at.result.1.now in
    let Q : List ℕ → Type 0 = λ rest. SplitsFirst bytes (take (get_or bytes 0 0) bytes) rest in
    let front = c.split_at.ensures.front ∙ ap (λ n. take n bytes) c.from.ensures in
    let back = c.split_at.ensures.back ∙ ap (λ n. drop n bytes) c.from.ensures in
    subst P (sym front) (subst Q (sym back) (splits_front bytes c.requires))
