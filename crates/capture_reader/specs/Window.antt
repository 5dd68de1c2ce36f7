-- The bytes of an input that are taken and not used up.
use Rattle.std.specs.Prelude.{◌≡◌, ℕ, ◌+◌, ◌≤◌, Bool, true, false, List, [], ◌++◌, length, take, Option, Some, None, option_map, IfSome, position, if◌then◌else◌}
use Rattle.capture_reader.specs.declared.line.TheConstants.{LINE_MAX}
use Rattle.capture_reader.specs.Script.{is_line_feed, first_line}

-- the bytes, and whether the end of the input was met
pub record Held : Type 0 where
  pub bytes : List ℕ
  pub ended : Bool

-- The bytes that are still to come, where the desk has these left. Behind an end that was met there is nothing.
abbrev pub coming : Held → List ℕ → List ℕ
coming held left = if held.ended then held.bytes else held.bytes ++ left

-- the same, where the desk may not tell
unfoldable pub still : Held → Option (List ℕ) → Option (List ℕ)
still held left = option_map (coming held) left

-- an end that was met is one: where the desk tells, nothing is left
abbrev pub EndIsTrue : Held → Option (List ℕ) → Type 0
EndIsTrue held left = held.ended ≡ true → IfSome left (λ rest. rest ≡ [])

-- the first begins the second
abbrev pub Begins : List ℕ → List ℕ → Type 0
Begins front whole = take (length front) whole ≡ front

-- the bytes that were taken of an input stood in front of what is left, and are held behind what was held
pub record HeldMore (old new : Held) (left left_after : Option (List ℕ)) : Type 0 where
  pub bytes : List ℕ
  pub left_is : left ≡ option_map (λ rest. bytes ++ rest) left_after
  pub held_is : new.bytes ≡ old.bytes ++ bytes

-- no whole line with its line feed
abbrev pub HasNoLine : List ℕ → Type 0
HasNoLine bytes = position is_line_feed bytes ≡ None

-- Whatever bytes the desk has left, the first line has so many bytes, or one more than the most and further ones. Where no line
-- feed ends it, nothing comes behind it.
pub record FrontLine (held : Held) (size : ℕ) : Type 0 where
  pub within : size ≤ length held.bytes
  pub most : size ≤ LINE_MAX + 1
  pub line : (left : List ℕ) → take (LINE_MAX + 1) (first_line (coming held left)) ≡ take size held.bytes
  pub last : size ≤ LINE_MAX → length held.bytes ≤ size → held.ended ≡ true
  pub feed : held.ended ≡ false → size ≤ LINE_MAX → position is_line_feed held.bytes ≡ Some size
