-- The names of the token's endpoints.
use Rattle.std.specs.Prelude.{ℕ}

-- an endpoint other than 0: its direction and its number, 1 to 15
pub data Endpoint : Type 0 where
  In : ℕ → Endpoint
  Out : ℕ → Endpoint
