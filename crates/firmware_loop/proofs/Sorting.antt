-- Acts sorted by their ports: nothing is lost, and each port keeps its own in their order.
use Rattle.std.proofs.Common.{◌≡◌, ◌≢◌, ℕ, zero, suc, ◌≤◌, Bool, true, false, List, [], ◌∷◌, ◌++◌, nat_eq, inl, inr, refl, sym, ap, ◌∙◌, arith}
use Rattle.std.proofs.lemmas.Bool.Decides.{eqb_tells, leb_tells}
use Rattle.std.proofs.lemmas.List.{append-nil}
use Rattle.psd_base.specs.declared.port.TheConstants.{MAX_PORTS}
use Rattle.psd_base.specs.Port.{IsPort}
use Rattle.port_model.proofs.Numbers.{other_number, same_number}
use Rattle.firmware_loop.specs.Batches.{AreActsOfPorts, PortEvent, at_port, by_lanes, kept_if}

-- The acts of a port

kept_if-append : (is : Bool) (event : PortEvent) (first second : List PortEvent) → kept_if is event (first ++ second) ≡ kept_if is event first ++ second
kept_if-append true event first second = refl
kept_if-append false event first second = refl

pub at_port-append : (port : ℕ) (first second : List PortEvent) → at_port port (first ++ second) ≡ at_port port first ++ at_port port second
at_port-append port [] second = refl
at_port-append port (event ∷ first) second =
    ap (kept_if (nat_eq event.port port) event) (at_port-append port first second)
    ∙ kept_if-append (nat_eq event.port port) event (at_port port first) (at_port port second)

pub at_port-own : (port : ℕ) (event : PortEvent) (events : List PortEvent) → event.port ≡ port → at_port port (event ∷ events) ≡ event ∷ at_port port events
at_port-own port event events own =
    ap (λ (is : Bool). kept_if is event (at_port port events)) (ap (λ (number : ℕ). nat_eq number port) own ∙ same_number port)

pub at_port-other : (port : ℕ) (event : PortEvent) (events : List PortEvent) → event.port ≢ port → at_port port (event ∷ events) ≡ at_port port events
at_port-other port event events other = ap (λ (is : Bool). kept_if is event (at_port port events)) (other_number event.port port other)

-- a port's acts are all its own
pub at_port-same : (port : ℕ) (events : List PortEvent) → at_port port (at_port port events) ≡ at_port port events
at_port-same port [] = refl
at_port-same port (event ∷ events) = elim (eqb_tells event.port port) [
  | inl own ↦
      ap (at_port port) (at_port-own port event events own.1) ∙ at_port-own port event (at_port port events) own.1
      ∙ ap (λ (kept : List PortEvent). event ∷ kept) (at_port-same port events) ∙ sym (at_port-own port event events own.1)
  | inr other ↦ ap (at_port port) (at_port-other port event events other.1) ∙ at_port-same port events ∙ sym (at_port-other port event events other.1)
]

pub at_port-apart : (port other : ℕ) (events : List PortEvent) → other ≢ port → at_port port (at_port other events) ≡ []
at_port-apart port other [] apart = refl
at_port-apart port other (event ∷ events) apart = elim (eqb_tells event.port other) [
  | inl own ↦
      ap (at_port port) (at_port-own other event events own.1)
      ∙ at_port-other port event (at_port other events) (λ is. apart (sym own.1 ∙ is)) ∙ at_port-apart port other events apart
  | inr is ↦ ap (at_port port) (at_port-other other event events is.1) ∙ at_port-apart port other events apart
]

-- no act is one of a number that isn't a port's
at_port-none : (port : ℕ) (events : List PortEvent) → AreActsOfPorts events → ((number : ℕ) → IsPort number → number ≢ port) → at_port port events ≡ []
at_port-none port [] acts none = refl
at_port-none port (event ∷ events) acts none =
    at_port-other port event events (none event.port (acts 0 event (omega arith)))
    ∙ at_port-none port events (λ place d within. acts (suc place) d (omega arith)) none

-- The acts of the first ports

-- a port behind them has none among them
pub by_lanes-behind : (port count : ℕ) (events : List PortEvent) → ((number : ℕ) → 1 ≤ number → number ≤ count → number ≢ port) → at_port port (by_lanes count events) ≡ []
by_lanes-behind port zero events apart = refl
by_lanes-behind port (suc count) events apart =
    at_port-append port (by_lanes count events) (at_port (suc count) events)
    ∙ (λ i. by_lanes-behind port count events (λ number from to. apart number from (omega arith)) i
    ++ at_port-apart port (suc count) events (apart (suc count) (omega arith) (omega arith)) i)

-- a port of them has all of its own
by_lanes-own : (port count : ℕ) (events : List PortEvent) → 1 ≤ port → port ≤ count → at_port port (by_lanes count events) ≡ at_port port events
by_lanes-own port zero events from to = absurd (omega arith)
by_lanes-own port (suc count) events from to = elim (eqb_tells port (suc count)) [
  | inl last ↦
      at_port-append port (by_lanes count events) (at_port (suc count) events)
      ∙ (λ i. by_lanes-behind port count events (λ number above below is. absurd (omega (arith, last.1, is))) i ++ at_port port (at_port (sym last.1 i) events))
      ∙ at_port-same port events
  | inr before ↦
      at_port-append port (by_lanes count events) (at_port (suc count) events)
      ∙ (λ i. by_lanes-own port count events from (omega (arith, before.1)) i ++ at_port-apart port (suc count) events (λ is. before.1 (sym is)) i)
      ∙ append-nil (at_port port events)
]

-- each port has its own in the order of the lanes as in that of the schedule
pub by_lanes-same : (port : ℕ) (events : List PortEvent) → AreActsOfPorts events → at_port port (by_lanes MAX_PORTS events) ≡ at_port port events
by_lanes-same port events acts = elim (leb_tells 1 port) [
  | inl from ↦ elim (leb_tells port MAX_PORTS) [
    | inl to ↦ by_lanes-own port MAX_PORTS events from.1 to.1
    | inr above ↦
        by_lanes-behind port MAX_PORTS events (λ number low high is. absurd (omega (arith, above.1, is)))
        ∙ sym (at_port-none port events acts (λ number within is. absurd (omega (arith, above.1, within.1, is))))
  ]
  | inr below ↦
      by_lanes-behind port MAX_PORTS events (λ number low high is. absurd (omega (arith, below.1, is)))
      ∙ sym (at_port-none port events acts (λ number within is. absurd (omega (arith, below.1, within.0, is))))
]
