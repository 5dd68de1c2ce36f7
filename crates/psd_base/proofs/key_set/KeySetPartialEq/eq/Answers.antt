-- The words are equal where their flags are.
use Rattle.psd_base.proofs.KeyWordLemmas.{words-Decides}
use Rattle.psd_base.proofs.key_set.KeySetPartialEq.eq.Goals as goal

pub returns : goal.returns
returns c =
    rw (← c.self.view_is, ← c.other.view_is)
    (words-Decides c.self.inside.words c.other.inside.words c.eq.result c.self.invariant c.other.invariant c.eq.ensures)
