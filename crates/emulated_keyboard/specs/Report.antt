-- The boot report of a keyboard.
use Rattle.std.specs.Prelude.{ℕ, zero, suc, ◌+◌, Bool, List, [], ◌∷◌, if◌then◌else◌}
use Rattle.psd_base.specs.KeySet.{has_key, keys_from}

abbrev pub bit_of : List Bool → ℕ → ℕ → ℕ
bit_of keys usage bit = if has_key keys usage then bit else 0

-- a bit for each modifier, that of the left control key first
abbrev pub modifiers_of : List Bool → ℕ
modifiers_of keys =
    bit_of keys 0xe0 1 + bit_of keys 0xe1 2 + bit_of keys 0xe2 4 + bit_of keys 0xe3 8
    + bit_of keys 0xe4 16 + bit_of keys 0xe5 32 + bit_of keys 0xe6 64 + bit_of keys 0xe7 128

-- the first of a list in so many places, filled up with zeros
unfoldable pub filled : ℕ → List ℕ → List ℕ
filled zero usages = []
filled (suc n) [] = 0 ∷ filled n []
filled (suc n) (usage ∷ usages) = usage ∷ filled n usages

-- the modifiers, a zero byte, and the ordinary keys ascending in six places
unfoldable pub key_report : List Bool → List ℕ
key_report keys = modifiers_of keys ∷ 0 ∷ filled 6 (keys_from keys 0x04 161)
