-- The words' differences, place by place.
use Rattle.std.proofs.Common.{refl}
use Rattle.psd_base.proofs.KeyWordLemmas.{flags_of-difference, words_difference}
use Rattle.psd_base.proofs.key_set.KeySet.without.Goals as goal

pub invariant_of-result : goal.invariant_of-result
invariant_of-result c = words_difference c.self.inside.words c.other.inside.words c.self.invariant c.other.invariant

pub returns : goal.returns
returns c = rw (flags_of-difference c.self.inside.words c.other.inside.words c.self.invariant c.other.invariant, c.self.view_is, c.other.view_is) refl
