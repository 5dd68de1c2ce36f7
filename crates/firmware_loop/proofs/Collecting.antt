-- Acts collected in the lanes of their ports: each lane has those of its port, and all lanes have all of them.
use Rattle.std.proofs.Common.{◌≡◌, ◌≢◌, ℕ, zero, suc, ◌+◌, ◌-◌, ◌<◌, ◌≤◌, List, [], ◌∷◌, ◌++◌, length, map, slice_index_or, slice_set, inl, inr, refl, sym, ap, ◌∙◌, subst, arith, length-append, get_or-set_other, get_or-set_same}
use Rattle.std.proofs.lemmas.Bool.Decides.{eqb_tells}
use Rattle.std.proofs.lemmas.List.{append-nil, drop_at, length-map, take_at}
use Rattle.std.proofs.lemmas.List.Elements.{All-append, All-cons, All-drop, All-head, All-nil, All-push, All-same, All-tail, All-take}
use Rattle.psd_base.specs.declared.line.Line.{Line}
use Rattle.psd_base.specs.declared.port.TheConstants.{MAX_PORTS}
use Rattle.psd_base.specs.Port.{IsPort}
use Rattle.firmware_loop.specs.declared.lanes.Lanes.{Lanes}
use Rattle.firmware_loop.specs.Batches.{AreKnown, PortEvent, act_of, acts_among, at_port, by_lanes, lanes_with_acts, one_if_some, ports_with_acts}
use Rattle.firmware_loop.specs.Lanes.{IsCollected, acts_in}
use Rattle.firmware_loop.proofs.Sorting.{at_port-append, at_port-other, at_port-own}

-- The acts of the first lanes

pub acts_among-next : (lanes : List (List Line)) (place : ℕ)
    → acts_among lanes (place + 1) ≡ acts_among lanes place ++ map (act_of (place + 1)) (slice_index_or lanes place [])
acts_among-next lanes place = let next : place + 1 ≡ suc place = omega arith in rw next refl

pub lanes_with_acts-next : (lanes : List (List Line)) (place : ℕ)
    → lanes_with_acts lanes (place + 1) ≡ lanes_with_acts lanes place + one_if_some (map (act_of (place + 1)) (slice_index_or lanes place []))
lanes_with_acts-next lanes place = let next : place + 1 ≡ suc place = omega arith in rw next refl

-- how many there are, with one lane more
pub acts_among-count : (lanes : List (List Line)) (place : ℕ)
    → length (acts_among lanes (suc place)) ≡ length (acts_among lanes place) + length (slice_index_or lanes place [])
acts_among-count lanes place =
    length-append (acts_among lanes place) (map (act_of (suc place)) (slice_index_or lanes place []))
    ∙ ap (λ (more : ℕ). length (acts_among lanes place) + more) (length-map (slice_index_or lanes place []) (act_of (suc place)))

-- those of a lane fit among all of them
pub acts_among-fits : (lanes : List (List Line)) (place count : ℕ) → place < count
    → length (acts_among lanes place) + length (slice_index_or lanes place []) ≤ length (acts_among lanes count)
acts_among-fits lanes place zero within = absurd (omega arith)
acts_among-fits lanes place (suc count) within = elim (eqb_tells place count) [
  | inl last ↦
      let parts = acts_among-count lanes count in
      let same : length (acts_among lanes place) + length (slice_index_or lanes place []) ≡ length (acts_among lanes count) + length (slice_index_or lanes count []) =
      ap (λ (at : ℕ). length (acts_among lanes at) + length (slice_index_or lanes at [])) last.1 in
      omega (arith, parts, same)
  | inr before ↦
      let fits = acts_among-fits lanes place count (omega (arith, before.1)) in
      let parts = acts_among-count lanes count in
      omega (arith, parts, fits)
]

-- lanes at this place and above that are empty have none
pub acts_among-unused : (lanes : List (List Line)) (used count : ℕ) → used ≤ count
    → ((place : ℕ) → used ≤ place → slice_index_or lanes place [] ≡ []) → acts_among lanes used ≡ acts_among lanes count
acts_among-unused lanes used zero within unused =
    let none : used ≡ zero = omega (arith, within) in ap (λ (at : ℕ). acts_among lanes at) none
acts_among-unused lanes used (suc count) within unused = elim (eqb_tells used (suc count)) [
  | inl all ↦ ap (λ (at : ℕ). acts_among lanes at) all.1
  | inr fewer ↦
      let below : used ≤ count = omega (arith, fewer.1) in
      sym ((λ i. sym (acts_among-unused lanes used count below unused) i ++ map (act_of (suc count)) (unused count below i))
      ∙ append-nil (acts_among lanes used))
]

pub lanes_with_acts-unused : (lanes : List (List Line)) (used count : ℕ) → used ≤ count
    → ((place : ℕ) → used ≤ place → slice_index_or lanes place [] ≡ []) → lanes_with_acts lanes used ≡ lanes_with_acts lanes count
lanes_with_acts-unused lanes used zero within unused =
    let none : used ≡ zero = omega (arith, within) in ap (λ (at : ℕ). lanes_with_acts lanes at) none
lanes_with_acts-unused lanes used (suc count) within unused = elim (eqb_tells used (suc count)) [
  | inl all ↦ ap (λ (at : ℕ). lanes_with_acts lanes at) all.1
  | inr fewer ↦
      let below : used ≤ count = omega (arith, fewer.1) in
      let before = lanes_with_acts-unused lanes used count below unused in
      let none : one_if_some (map (act_of (suc count)) (slice_index_or lanes count [])) ≡ 0 =
      ap (λ (lane : List Line). one_if_some (map (act_of (suc count)) lane)) (unused count below) in
      omega (arith, before, none)
]

-- lanes as long as others have as many
pub acts_among-lengths : (lanes other : List (List Line))
    → ((place : ℕ) → length (slice_index_or lanes place []) ≡ length (slice_index_or other place [])) → (count : ℕ)
    → length (acts_among lanes count) ≡ length (acts_among other count)
acts_among-lengths lanes other same zero = refl
acts_among-lengths lanes other same (suc count) =
    let one = acts_among-count lanes count in
    let all = acts_among-count other count in
    let before = acts_among-lengths lanes other same count in
    let here = same count in
    omega (arith, one, all, before, here)

-- a write to a lane behind them
acts_among-behind : (lanes : List (List Line)) (place count : ℕ) (lane : List Line) → count ≤ place
    → acts_among (slice_set lanes place lane) count ≡ acts_among lanes count
acts_among-behind lanes place zero lane behind = refl
acts_among-behind lanes place (suc count) lane behind =
    let apart : count ≢ place = omega arith in
    λ i. acts_among-behind lanes place count lane (omega arith) i
    ++ map (act_of (suc count)) (get_or-set_other lanes place count lane [] apart i)

-- a write to one of them that makes it longer by one
pub acts_among-more : (lanes : List (List Line)) (place count : ℕ) (lane : List Line) → place < length lanes → place < count
    → length lane ≡ length (slice_index_or lanes place []) + 1
    → length (acts_among (slice_set lanes place lane) count) ≡ length (acts_among lanes count) + 1
acts_among-more lanes place zero lane there within longer = absurd (omega arith)
acts_among-more lanes place (suc count) lane there within longer = elim (eqb_tells place count) [
  | inl last ↦
      let one = acts_among-count (slice_set lanes place lane) count in
      let all = acts_among-count lanes count in
      let before = ap (λ (acts : List PortEvent). length acts) (acts_among-behind lanes place count lane (omega (arith, last.1))) in
      let written : length (slice_index_or (slice_set lanes place lane) count []) ≡ length lane =
      ap (λ (at : ℕ). length (slice_index_or (slice_set lanes place lane) at [])) (sym last.1)
      ∙ ap (λ (lines : List Line). length lines) (get_or-set_same lanes place lane [] there) in
      let was : length (slice_index_or lanes place []) ≡ length (slice_index_or lanes count []) =
      ap (λ (at : ℕ). length (slice_index_or lanes at [])) last.1 in
      omega (arith, one, all, before, written, was, longer)
  | inr before ↦
      let one = acts_among-count (slice_set lanes place lane) count in
      let all = acts_among-count lanes count in
      let fewer = acts_among-more lanes place count lane there (omega (arith, before.1)) longer in
      let same : length (slice_index_or (slice_set lanes place lane) count []) ≡ length (slice_index_or lanes count []) =
      ap (λ (lines : List Line). length lines) (get_or-set_other lanes place count lane [] (λ is. before.1 (sym is))) in
      omega (arith, one, all, fewer, same)
]

-- Ports that a switch has

known-first : (ports : ℕ) (first second : List PortEvent) → AreKnown ports (first ++ second) → AreKnown ports first
known-first ports first second known =
    All-same (λ (event : PortEvent). event.port ≤ ports) first _ (sym (take_at first second (length first) refl))
    (All-take (λ (event : PortEvent). event.port ≤ ports) (length first) (first ++ second) known)

known-second : (ports : ℕ) (first second : List PortEvent) → AreKnown ports (first ++ second) → AreKnown ports second
known-second ports first second known =
    All-same (λ (event : PortEvent). event.port ≤ ports) second _ (sym (drop_at first second (length first) refl))
    (All-drop (λ (event : PortEvent). event.port ≤ ports) (length first) (first ++ second) known)

-- it has those of each lane
pub known-lane : (ports : ℕ) (lanes : List (List Line)) (place count : ℕ) → place < count → AreKnown ports (acts_among lanes count)
    → AreKnown ports (map (act_of (place + 1)) (slice_index_or lanes place []))
known-lane ports lanes place zero within known = absurd (omega arith)
known-lane ports lanes place (suc count) within known = elim (eqb_tells place count) [
  | inl last ↦
      let next : suc count ≡ place + 1 = omega (arith, last.1) in
      subst (λ (at : ℕ). AreKnown ports (map (act_of (place + 1)) (slice_index_or lanes at []))) (sym last.1)
      (subst (λ (port : ℕ). AreKnown ports (map (act_of port) (slice_index_or lanes count []))) next
      (known-second ports (acts_among lanes count) (map (act_of (suc count)) (slice_index_or lanes count [])) known))
  | inr before ↦
      known-lane ports lanes place count (omega (arith, before.1))
      (known-first ports (acts_among lanes count) (map (act_of (suc count)) (slice_index_or lanes count [])) known)
]

known-at_port : (ports port : ℕ) (events : List PortEvent) → AreKnown ports events → AreKnown ports (at_port port events)
known-at_port ports port [] known = known
known-at_port ports port (event ∷ events) known =
    let rest : AreKnown ports (at_port port events) =
    known-at_port ports port events (All-tail (λ (act : PortEvent). act.port ≤ ports) event events known) in
    elim (eqb_tells event.port port) [
      | inl own ↦
          All-same (λ (act : PortEvent). act.port ≤ ports) (at_port port (event ∷ events)) (event ∷ at_port port events)
          (at_port-own port event events own.1)
          (All-cons (λ (act : PortEvent). act.port ≤ ports) event (at_port port events)
          (All-head (λ (act : PortEvent). act.port ≤ ports) event events known) rest)
      | inr other ↦
          All-same (λ (act : PortEvent). act.port ≤ ports) (at_port port (event ∷ events)) (at_port port events)
          (at_port-other port event events other.1) rest
    ]

known-by_lanes : (ports count : ℕ) (events : List PortEvent) → AreKnown ports events → AreKnown ports (by_lanes count events)
known-by_lanes ports zero events known = All-nil (λ (act : PortEvent). act.port ≤ ports)
known-by_lanes ports (suc count) events known =
    All-append (λ (act : PortEvent). act.port ≤ ports) (by_lanes count events) (at_port (suc count) events)
    (known-by_lanes ports count events known) (known-at_port ports (suc count) events known)

-- What was collected

-- a lane has its port's acts
pub lane-collected : (events : List PortEvent) (lanes : Lanes) → IsCollected events lanes → (place : ℕ) → place < MAX_PORTS
    → map (act_of (place + 1)) (slice_index_or lanes.lanes.items place []) ≡ at_port (place + 1) events
lane-collected events lanes collected place within =
    let here : place ≡ place + 1 - 1 = omega arith in
    ap (λ (at : ℕ). map (act_of (place + 1)) (slice_index_or lanes.lanes.items at [])) here
    ∙ collected.acts (place + 1) (omega arith, omega arith)

lane-collected-next : (events : List PortEvent) (lanes : Lanes) → IsCollected events lanes → (place : ℕ) → place < MAX_PORTS
    → map (act_of (suc place)) (slice_index_or lanes.lanes.items place []) ≡ at_port (suc place) events
lane-collected-next events lanes collected place within =
    let next : place + 1 ≡ suc place = omega arith in
    subst (λ (port : ℕ). map (act_of port) (slice_index_or lanes.lanes.items place []) ≡ at_port port events) next
    (lane-collected events lanes collected place within)

pub acts_among-collected : (events : List PortEvent) (lanes : Lanes) → IsCollected events lanes → (count : ℕ) → count ≤ MAX_PORTS
    → acts_among lanes.lanes.items count ≡ by_lanes count events
acts_among-collected events lanes collected zero within = refl
acts_among-collected events lanes collected (suc count) within =
    λ i. acts_among-collected events lanes collected count (omega arith) i ++ lane-collected-next events lanes collected count (omega arith) i

pub lanes_with_acts-collected : (events : List PortEvent) (lanes : Lanes) → IsCollected events lanes → (count : ℕ) → count ≤ MAX_PORTS
    → lanes_with_acts lanes.lanes.items count ≡ ports_with_acts count events
lanes_with_acts-collected events lanes collected zero within = refl
lanes_with_acts-collected events lanes collected (suc count) within =
    λ i. lanes_with_acts-collected events lanes collected count (omega arith) i
    + one_if_some (lane-collected-next events lanes collected count (omega arith) i)

-- a switch that has the ports of the acts has those of the lanes
pub known_in : (ports : ℕ) (events : List PortEvent) (lanes : Lanes) → IsCollected events lanes → AreKnown ports events → AreKnown ports (acts_in lanes)
known_in ports events lanes collected known =
    All-same (λ (act : PortEvent). act.port ≤ ports) (acts_in lanes) (by_lanes MAX_PORTS events)
    (acts_among-collected events lanes collected MAX_PORTS (omega arith)) (known-by_lanes ports MAX_PORTS events known)

-- an act more
pub collected-more : (events : List PortEvent) (event : PortEvent) (before after : Lanes) (place : ℕ) (old new : List Line)
    → IsCollected events before → place < length before.lanes.items → IsPort event.port → place + 1 ≡ event.port
    → slice_index_or before.lanes.items place [] ≡ old → map (act_of event.port) new ≡ map (act_of event.port) old ++ event ∷ []
    → after.lanes.items ≡ slice_set before.lanes.items place new → after.count ≡ before.count + 1 → IsCollected (events ++ event ∷ []) after
collected-more events event before after place old new collected within is_port placed was appended changed counted = record {
  ports = All-push (λ (act : PortEvent). IsPort act.port) events event collected.ports is_port;
  acts = λ port is. elim (eqb_tells event.port port) [
    | inl own ↦
        let here : port - 1 ≡ place = omega (arith, own.1, placed) in
        ap (λ (lanes : List (List Line)). map (act_of port) (slice_index_or lanes (port - 1) [])) changed
        ∙ ap (λ (at : ℕ). map (act_of port) (slice_index_or (slice_set before.lanes.items place new) at [])) here
        ∙ ap (λ (lane : List Line). map (act_of port) lane) (get_or-set_same before.lanes.items place new [] within)
        ∙ subst (λ (number : ℕ). map (act_of number) new ≡ map (act_of number) old ++ event ∷ []) own.1 appended
        ∙ ap (λ (acts : List PortEvent). acts ++ event ∷ [])
        (ap (λ (lane : List Line). map (act_of port) lane) (sym was)
        ∙ ap (λ (at : ℕ). map (act_of port) (slice_index_or before.lanes.items at [])) (sym here)
        ∙ collected.acts port is)
        ∙ sym (at_port-append port events (event ∷ [])
        ∙ ap (λ (more : List PortEvent). at_port port events ++ more) (at_port-own port event [] own.1))
    | inr apart ↦
        let other : port - 1 ≢ place = λ same. apart.1 (omega (arith, same, placed, is.0)) in
        ap (λ (lanes : List (List Line)). map (act_of port) (slice_index_or lanes (port - 1) [])) changed
        ∙ ap (λ (lane : List Line). map (act_of port) lane) (get_or-set_other before.lanes.items place (port - 1) new [] other)
        ∙ collected.acts port is
        ∙ sym (at_port-append port events (event ∷ [])
        ∙ ap (λ (more : List PortEvent). at_port port events ++ more) (at_port-other port event [] apart.1)
        ∙ append-nil (at_port port events))
  ];
  count =
      let longer = length-append events (event ∷ []) in
      omega (arith, longer, counted, collected.count);
}
