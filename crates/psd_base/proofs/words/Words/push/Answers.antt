-- Where the list is full, what a further word adds is cut off.
use Rattle.std.proofs.Common.{◌≡◌, length, sym, ap, ◌∙◌, arith}
use Rattle.std.proofs.lemmas.Bool.Decides.{nat_tests}
use Rattle.std.proofs.lemmas.List.{length-map, take_at}
use Rattle.psd_base.proofs.words.Words.push.Goals as goal

pub returns-then-is_full : goal.returns-then-is_full
returns-then-is_full c =
    let full : length c.self.inside.words.items ≡ 4 = grind (arith, nat_tests) in
    let same : length c.args.self.now ≡ 4 = ap length (sym c.self.view_is) ∙ (length-map _ _ ∙ full) in
    sym (take_at _ _ 4 same)
