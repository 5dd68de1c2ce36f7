-- A set of keys as a list of flags: flag u says whether the keyboard usage u is in the set.
use Rattle.std.specs.Prelude.{◌≡◌, ℕ, zero, suc, ◌+◌, Bool, true, false, List, [], ◌∷◌, ◌&&◌, ◌||◌, not, length, replicate, nat_le, slice_set, slice_index_or, if◌then◌else◌}

-- the usages that are passed on: the ordinary keys, and the modifiers
abbrev pub is_ordinary : ℕ → Bool
is_ordinary usage = nat_le 0x04 usage && nat_le usage 0xa4

abbrev pub is_modifier : ℕ → Bool
is_modifier usage = nat_le 0xe0 usage && nat_le usage 0xe7

abbrev pub is_passed_on : ℕ → Bool
is_passed_on usage = is_ordinary usage || is_modifier usage

-- the empty set
unfoldable pub no_keys : List Bool
no_keys = replicate 256 false

abbrev pub has_key : List Bool → ℕ → Bool
has_key keys usage = slice_index_or keys usage false

-- the set with this usage in it
abbrev pub with_key : List Bool → ℕ → List Bool
with_key keys usage = slice_set keys usage true

abbrev pub has_no_key : List Bool → Bool
has_no_key [] = true
has_no_key (down ∷ keys) = not down && has_no_key keys

-- what is in one of two sets
abbrev pub union : List Bool → List Bool → List Bool
union [] others = []
union (down ∷ keys) [] = down ∷ keys
union (down ∷ keys) (other ∷ others) = (down || other) ∷ union keys others

-- the set without this usage
abbrev pub without_key : List Bool → ℕ → List Bool
without_key keys usage = slice_set keys usage false

-- what is in the first of two sets alone
abbrev pub difference : List Bool → List Bool → List Bool
difference [] others = []
difference (down ∷ keys) [] = down ∷ keys
difference (down ∷ keys) (other ∷ others) = (down && not other) ∷ difference keys others

-- the keys of the set among these n usages from the first one on, ascending
unfoldable pub keys_from : List Bool → ℕ → ℕ → List ℕ
keys_from keys usage zero = []
keys_from keys usage (suc n) = if has_key keys usage then usage ∷ keys_from keys (usage + 1) n else keys_from keys (usage + 1) n

-- the form of every set: a flag for each value of a byte, and only usages that are passed on
pub record IsKeySet (keys : List Bool) : Type 0 where
  pub one_each : length keys ≡ 256
  pub passed_on : (usage : ℕ) → is_passed_on usage ≡ false → has_key keys usage ≡ false
