-- Calls that are counted from 1, and which of them are to fail.
use Rattle.std.specs.Prelude.{ℕ, List, [], ◌∷◌, ◌++◌, Option, option_map, find, ◌==◌}
use Rattle.psd_base.specs.FaultCounts.{one_more}
use Rattle.psd_base.specs.declared.calls.FailingCall.{FailingCall}

-- how many calls were made, and which are to fail
pub record Counted : Type 0 where
  pub made : ℕ
  pub failing : List FailingCall

abbrev pub no_calls : Counted
no_calls = record { made = 0; failing = [] }

-- the number of the next call
abbrev pub next_call : Counted → ℕ
next_call calls = one_more calls.made

abbrev pub with_next_call : Counted → Counted
with_next_call calls = record { made = next_call calls; failing = calls.failing }

-- how many bytes the next call keeps at most, where it is to fail; of several entries the first counts
abbrev pub next_failure : Counted → Option ℕ
next_failure calls = option_map (λ failure. failure.kept) (find (λ failure. failure.call == next_call calls) calls.failing)

-- the same calls, of which this one is to fail too
abbrev pub with_failing : Counted → ℕ → ℕ → Counted
with_failing calls call kept = record calls { failing = calls.failing ++ (record { call = call; kept = kept }) ∷ [] }
