-- The order of the lanes says the same as that in which the acts came.
use Rattle.std.proofs.Common.{◌≡◌, ℕ, ◌+◌, ◌-◌, ◌<◌, List, [], length, map, slice_index_or, ap, ◌∙◌, subst, arith}
use Rattle.std.specs.Vec.{with_items}
use Rattle.std.proofs.lemmas.List.{nil_from_length, with_items_is}
use Rattle.psd_base.specs.declared.line.Line.{Line}
use Rattle.psd_base.specs.declared.port.TheConstants.{MAX_PORTS}
use Rattle.psd_base.specs.History.{onto}
use Rattle.switch_core.specs.StandsFor.{StandsFor}
use Rattle.switch_core.proofs.Commuting.{same_words_same_switch}
use Rattle.firmware_loop.specs.Batches.{PortEvent, act_of, acts_among, at_port, by_lanes, lane_lines, lanes_with_acts, ports_with_acts, schedule, schedule_jobs}
use Rattle.firmware_loop.proofs.Collecting.{acts_among-collected, acts_among-lengths, lane-collected, lanes_with_acts-collected}
use Rattle.firmware_loop.proofs.Reordering.{lane_lines-after, same_jobs, same_words}
use Rattle.firmware_loop.proofs.serving.serve.Goals as goal

pub invariant_of-lanes : goal.invariant_of-lanes
invariant_of-lanes c =
    let lanes : List (List Line) = c.serve_lanes.new.lanes in
    let was = c.args.lanes.now in
    let same : (with_items was.lanes lanes).items ≡ lanes =
    with_items_is was.lanes lanes (omega (arith, c.serve_lanes.auto.lanes, c.deref_mut.ensures.len)) in
    record {
      full =
          ap (λ (all : List (List Line)). length all) same
          ∙ c.serve_lanes.auto.lanes
          ∙ ap (λ (all : List (List Line)). length all) c.deref_mut.ensures.value
          ∙ was.full;
      total =
          ap (λ (all : List (List Line)). length (acts_among all MAX_PORTS)) same
          ∙ acts_among-lengths lanes c.deref_mut.result.now c.serve_lanes.ensures.lengths MAX_PORTS
          ∙ ap (λ (all : List (List Line)). length (acts_among all MAX_PORTS)) c.deref_mut.ensures.value
          ∙ was.total;
      few_used = was.few_used;
      unused = λ place from. nil_from_length (slice_index_or (with_items was.lanes lanes).items place [])
          (ap (λ (all : List (List Line)). length (slice_index_or all place [])) same
          ∙ c.serve_lanes.ensures.lengths place
          ∙ ap (λ (all : List (List Line)). length (slice_index_or all place [])) c.deref_mut.ensures.value
          ∙ ap (λ (lines : List Line). length lines) (was.unused place from));
      few = was.few;
    }

pub returns-clause-stands : goal.returns-clause-stands
returns-clause-stands c = λ rules past events collected stands.
    let acts : acts_among c.deref_mut.result.now MAX_PORTS ≡ by_lanes MAX_PORTS events =
    ap (λ (all : List (List Line)). acts_among all MAX_PORTS) c.deref_mut.ensures.value
    ∙ acts_among-collected events c.args.lanes.now collected MAX_PORTS (omega arith) in
    same_words_same_switch rules c.serve_lanes.new.switch (onto (schedule (by_lanes MAX_PORTS events)) past) (onto (schedule events) past)
    (same_words rules events past collected.ports)
    (subst (λ (kept : List PortEvent). StandsFor rules c.serve_lanes.new.switch (onto (schedule kept) past)) acts
    (c.serve_lanes.ensures.stands rules past stands))

pub returns-clause-lines : goal.returns-clause-lines
returns-clause-lines c = λ rules past events collected stands port is_port.
    let lanes : List (List Line) = c.serve_lanes.new.lanes in
    let old : List (List Line) = c.deref_mut.result.now in
    let was = c.args.lanes.now in
    let place : ℕ = port - 1 in
    let number : place + 1 ≡ port = omega (arith, is_port) in
    let within : place < MAX_PORTS = omega (arith, is_port) in
    let same : (with_items was.lanes lanes).items ≡ lanes =
    with_items_is was.lanes lanes (omega (arith, c.serve_lanes.auto.lanes, c.deref_mut.ensures.len)) in
    let own : map (act_of (place + 1)) (slice_index_or old place []) ≡ at_port (place + 1) events =
    ap (λ (all : List (List Line)). map (act_of (place + 1)) (slice_index_or all place [])) c.deref_mut.ensures.value
    ∙ lane-collected events was collected place within in
    let before : acts_among old place ≡ by_lanes place events =
    ap (λ (all : List (List Line)). acts_among all place) c.deref_mut.ensures.value
    ∙ acts_among-collected events was collected place (omega arith) in
    ap (λ (all : List (List Line)). slice_index_or all place []) same
    ∙ c.serve_lanes.ensures.lines rules past stands place within
    ∙ (λ i. lane_lines rules (place + 1) (schedule (own i)) (onto (schedule (before i)) past))
    ∙ lane_lines-after rules place events past
    ∙ ap (λ (at : ℕ). lane_lines rules at (schedule events) past) number

pub returns-clause-jobs : goal.returns-clause-jobs
returns-clause-jobs c = λ rules past events collected stands.
    let acts : acts_among c.deref_mut.result.now MAX_PORTS ≡ by_lanes MAX_PORTS events =
    ap (λ (all : List (List Line)). acts_among all MAX_PORTS) c.deref_mut.ensures.value
    ∙ acts_among-collected events c.args.lanes.now collected MAX_PORTS (omega arith) in
    c.serve_lanes.ensures.jobs rules past stands
    ∙ ap (λ (kept : List PortEvent). schedule_jobs rules (schedule kept) past) acts
    ∙ same_jobs rules events past collected.ports

pub returns-clause-visits : goal.returns-clause-visits
returns-clause-visits c = λ events collected.
    let acts : lanes_with_acts c.deref_mut.result.now MAX_PORTS ≡ ports_with_acts MAX_PORTS events =
    ap (λ (all : List (List Line)). lanes_with_acts all MAX_PORTS) c.deref_mut.ensures.value
    ∙ lanes_with_acts-collected events c.args.lanes.now collected MAX_PORTS (omega arith) in
    omega (arith, acts, c.serve_lanes.ensures.visits)
