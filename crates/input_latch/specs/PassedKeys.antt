-- Changes of keys that are passed on.
use Rattle.std.specs.Prelude.{Bool, true, ◌&&◌, ℕ, List, [], ◌∷◌}
use Rattle.psd_base.specs.KeySet.{is_passed_on}
use Rattle.input_latch.specs.declared.key_latch.KeyChange.{KeyChange}
use Rattle.input_latch.specs.declared.key_latch.KeyChange.TheVariants.{Press, Release}

abbrev pub usage_of : KeyChange → ℕ
usage_of (Press usage) = usage
usage_of (Release usage) = usage

-- whether all changes are those of keys that are passed on
unfoldable pub are_passed_on : List KeyChange → Bool
are_passed_on [] = true
are_passed_on (change ∷ changes) = is_passed_on (usage_of change) && are_passed_on changes
