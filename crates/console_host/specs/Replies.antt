-- The replies of a life that count, newest first: the reply to order n is the n-th that came.
use Rattle.std.specs.Prelude.{ℕ, ◌+◌, ◌==◌, List, [], ◌∷◌, length, if◌then◌else◌}

-- a status, and the bytes that came
pub record Reply : Type 0 where
  pub status : ℕ
  pub bytes : List ℕ

abbrev pub reply_of : ℕ → List ℕ → Reply
reply_of status bytes = record { status = status; bytes = bytes }

-- the bytes of the reply to the order of this number; none where it didn't come yet
abbrev pub answered : ℕ → List Reply → List ℕ
answered number [] = []
answered number (reply ∷ earlier) = if number == length earlier + 1 then reply.bytes else answered number earlier
