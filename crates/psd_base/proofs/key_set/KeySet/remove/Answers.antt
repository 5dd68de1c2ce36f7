-- The flag of the usage is cleared in its word.
use Rattle.std.proofs.Common.{arith, ap, ◌∙◌}
use Rattle.psd_base.specs.KeySet.{without_key}
use Rattle.psd_base.proofs.KeyWordLemmas.{flags_of-without, words_without}
use Rattle.psd_base.proofs.key_set.KeySet.remove.Goals as goal

pub invariant_of-self : goal.invariant_of-self
invariant_of-self c = words_without c.self.inside.words c.args.usage c.self.invariant (omega arith)

pub returns : goal.returns
returns c =
    flags_of-without c.self.inside.words c.args.usage c.self.invariant (omega arith)
    ∙ ap (λ keys. without_key keys c.args.usage) c.self.view_is
