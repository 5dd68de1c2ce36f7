-- The flag is the usage's bit of its word.
use Rattle.std.proofs.Common.{arith, ap, sym, ◌∙◌, ◌/◌, ◌%◌, ◌==◌, get_or}
use Rattle.std.proofs.lemmas.Nat.Bits.{shr_and_one}
use Rattle.psd_base.specs.KeySet.{has_key}
use Rattle.psd_base.specs.KeyWordLaws.{has_key-flags_of}
use Rattle.psd_base.proofs.key_set.KeySet.has.Goals as goal

pub returns-clause-value : goal.returns-clause-value
returns-clause-value c =
    ap (λ bit. bit == 1) (shr_and_one (get_or c.self.inside.words (c.args.usage / 64) 0) (c.args.usage % 64))
    ∙ sym (has_key-flags_of c.self.inside.words c.args.usage (omega arith))
    ∙ ap (λ keys. has_key keys c.args.usage) c.self.view_is
