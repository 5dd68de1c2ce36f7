-- How often the switch goes to a port while the acts of one lane are served: once at most.
use Rattle.std.proofs.Common.{◌≡◌, ◌≢◌, ℕ, ◌+◌, ◌≤◌, Bool, true, false, List, [], ◌∷◌, ◌++◌, Some, refl, arith}
use Rattle.switch_core.specs.declared.visits.Visits.{Visits}
use Rattle.port_model.specs.Chosen.{is_at}
use Rattle.switch_core.specs.Visits.{visited}
use Rattle.port_model.proofs.Numbers.{same_number}
use Rattle.switch_core.proofs.Owning.{at-port}
use Rattle.firmware_loop.specs.Batches.{PortEvent, one_if_some}

-- the last act was at the port, where there were acts, and the switch went to it once at most
pub record Visited (number base : ℕ) (acts : List PortEvent) (visits : Visits) : Type 0 where
  pub few : visits.count ≤ base + one_if_some acts
  pub last : acts ≢ [] → visits.last ≡ Some number

-- an act more at the port
pub visited-more : (number base : ℕ) (acts : List PortEvent) (event : PortEvent) (visits : Visits) → Visited number base acts visits
    → Visited number base (acts ++ event ∷ []) (visited number visits)
visited-more number base [] event visits before = by (is_at number visits.last) refl where
  by : (here : Bool) → is_at number visits.last ≡ here → Visited number base (event ∷ []) (visited number visits)
  by true here = rw here (record { few = omega (arith, before.few); last = λ some. at-port number visits.last here })
  by false here = rw here (record { few = omega (arith, before.few); last = λ some. refl })
visited-more number base (first ∷ acts) event visits before =
    let last = before.last (λ e. cc) in
    let here : is_at number visits.last ≡ true = rw last (same_number number) in
    rw here (record { few = before.few; last = λ some. last })
