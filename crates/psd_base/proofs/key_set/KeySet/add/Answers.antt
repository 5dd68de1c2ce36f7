-- The flag of the usage is set in its word.
use Rattle.std.proofs.Common.{arith, ap, ◌∙◌}
use Rattle.psd_base.specs.KeySet.{with_key}
use Rattle.psd_base.proofs.KeyWordLemmas.{flags_of-with, words_with}
use Rattle.psd_base.proofs.key_set.KeySet.add.Goals as goal

pub invariant_of-self : goal.invariant_of-self
invariant_of-self c = words_with c.self.inside.words c.args.usage c.self.invariant (omega arith) c.requires

pub returns : goal.returns
returns c =
    flags_of-with c.self.inside.words c.args.usage c.self.invariant (omega arith)
    ∙ ap (λ keys. with_key keys c.args.usage) c.self.view_is
