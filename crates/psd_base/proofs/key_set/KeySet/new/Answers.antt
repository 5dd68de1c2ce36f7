-- No flag is set in words that are 0.
use Rattle.psd_base.proofs.KeyWordLemmas.{flags_of-none, words_none}
use Rattle.psd_base.proofs.key_set.KeySet.new.Goals as goal

pub invariant_of-result : goal.invariant_of-result
invariant_of-result c = words_none

pub returns : goal.returns
returns c = flags_of-none
