-- Whether a descriptor is another one than in an earlier life of the device.
use Rattle.std.specs.Prelude.{ℕ, Bool, false, not, List, Option, Some, None}
use Rattle.std.specs.Str.{bytes_eq}

-- bytes were accepted before, and these differ from them
abbrev pub is_changed : Option (List ℕ) → List ℕ → Bool
is_changed None bytes = false
is_changed (Some before) bytes = not (bytes_eq before bytes)
