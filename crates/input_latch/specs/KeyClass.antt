-- The keys of a set by their kind, ascending.
use Rattle.std.specs.Prelude.{ℕ, ◌+◌, ◌-◌, Bool, List, length}
use Rattle.psd_base.specs.KeySet.{keys_from}
use Rattle.input_latch.specs.declared.key_class.KeyClass.{KeyClass}
use Rattle.input_latch.specs.declared.key_class.KeyClass.TheVariants.{Ordinary, Modifier}

abbrev pub first_of : KeyClass → ℕ
first_of Ordinary = 0x04
first_of Modifier = 0xe0

abbrev pub last_of : KeyClass → ℕ
last_of Ordinary = 0xa4
last_of Modifier = 0xe7

-- the keys of the class that are in the set
abbrev pub keys_of : KeyClass → List Bool → List ℕ
keys_of class keys = keys_from keys (first_of class) (last_of class + 1 - first_of class)

abbrev pub number_in : KeyClass → List Bool → ℕ
number_in class keys = length (keys_of class keys)

-- how many keys are in the set
abbrev pub number_of_keys : List Bool → ℕ
number_of_keys keys = number_in Ordinary keys + number_in Modifier keys
