-- No word has a bit that is set.
use Rattle.psd_base.proofs.KeyWordLemmas.{words-none}
use Rattle.psd_base.proofs.key_set.KeySet.is_empty.Goals as goal

pub returns : goal.returns
returns c = words-none c.self.inside.words c.args.self.now c.eq.result c.self.invariant c.self.view_is c.eq.ensures
