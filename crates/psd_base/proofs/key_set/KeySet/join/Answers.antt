-- The words are joined place by place.
use Rattle.std.proofs.Common.{refl}
use Rattle.psd_base.proofs.KeyWordLemmas.{flags_of-union, words_union}
use Rattle.psd_base.proofs.key_set.KeySet.join.Goals as goal

pub invariant_of-self : goal.invariant_of-self
invariant_of-self c = words_union c.self.inside.words c.other.inside.words c.self.invariant c.other.invariant

pub returns : goal.returns
returns c = rw (flags_of-union c.self.inside.words c.other.inside.words c.self.invariant c.other.invariant, c.self.view_is, c.other.view_is) refl
