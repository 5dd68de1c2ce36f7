-- How far the mouse moved, and the pieces in which reports say it.
use Rattle.std.specs.Prelude.{ℕ, zero, suc, ◌+◌, ◌-◌, ◌/◌, max, nat_le, ℤ, pos, negsuc, Bool, ◌&&◌, List, [], ◌∷◌, if◌then◌else◌}
use Rattle.input_latch.specs.Motion.{is_zero}
use Rattle.emulated_mouse.specs.declared.motion.Motion.{Motion}
use Rattle.emulated_mouse.specs.declared.motion.Piece.{Piece}

abbrev pub motion : ℤ → ℤ → ℤ → Motion
motion x y wheel = record { x = x; y = y; wheel = wheel }

abbrev pub piece : ℤ → ℤ → ℤ → Piece
piece x y wheel = record { x = x; y = y; wheel = wheel }

-- no motion
abbrev pub still : Motion
still = motion (pos 0) (pos 0) (pos 0)

abbrev pub still_piece : Piece
still_piece = piece (pos 0) (pos 0) (pos 0)

abbrev pub is_still : Motion → Bool
is_still moved = is_zero moved.x && is_zero moved.y && is_zero moved.wheel

-- a count cut to -127 to 127, and what is left of it
abbrev pub cut : ℤ → ℤ
cut (pos n) = if nat_le n 127 then pos n else pos 127
cut (negsuc n) = if nat_le n 126 then negsuc n else negsuc 126

abbrev pub left : ℤ → ℤ
left (pos n) = pos (n - 127)
left (negsuc n) = if nat_le n 126 then pos 0 else negsuc (n - 127)

-- what the next report says of a motion, and what is left behind it
abbrev pub piece_of : Motion → Piece
piece_of moved = piece (cut moved.x) (cut moved.y) (cut moved.wheel)

abbrev pub left_of : Motion → Motion
left_of moved = motion (left moved.x) (left moved.y) (left moved.wheel)

-- a count without its sign, and the greatest of a motion
abbrev pub size : ℤ → ℕ
size (pos n) = n
size (negsuc n) = suc n

abbrev pub greatest : Motion → ℕ
greatest moved = max (size moved.x) (max (size moved.y) (size moved.wheel))

-- so many pieces of a motion: each is what is left, cut
unfoldable pub pieces : ℕ → Motion → List Piece
pieces zero moved = []
pieces (suc n) moved = piece_of moved ∷ pieces n (left_of moved)

-- The pieces of a motion that was begun: one for each 127 counts of its greatest component, the last of them for what
-- is left over. An entry has at least one piece.
abbrev pub pieces_left : Motion → List Piece
pieces_left moved = pieces ((greatest moved + 126) / 127) moved

abbrev pub pieces_of : Motion → List Piece
pieces_of moved = pieces (max 1 ((greatest moved + 126) / 127)) moved
