-- One lane more.
use Rattle.std.proofs.Common.{◌≡◌, ℕ, ◌+◌, ◌<◌, ◌≤◌, List, [], ◌++◌, length, map, slice_index_or, slice_set, inl, inr, sym, ap, ◌∙◌, subst, arith, length-append, get_or-set_other, get_or-set_same}
use Rattle.std.proofs.lemmas.Bool.Decides.{eqb_tells, leb_tells}
use Rattle.std.proofs.lemmas.List.{get_or_default, length-map, length-set}
use Rattle.psd_base.specs.declared.event.TheConstants.{EVENTS_MAX}
use Rattle.psd_base.specs.declared.line.Line.{Line}
use Rattle.psd_base.specs.declared.port.TheConstants.{MAX_PORTS}
use Rattle.psd_base.specs.Event.{Seen}
use Rattle.psd_base.specs.History.{onto}
use Rattle.switch_core.specs.StandsFor.{StandsFor, port_total}
use Rattle.firmware_loop.specs.Batches.{AreKnown, PortEvent, act_of, acts_among, lane_lines, lanes_with_acts, one_if_some, schedule, schedule_jobs}
use Rattle.firmware_loop.proofs.Collecting.{acts_among-fits, acts_among-next, acts_among-unused, known-lane, lanes_with_acts-next, lanes_with_acts-unused}
use Rattle.firmware_loop.proofs.Reordering.{onto-append, schedule_jobs-append}
use Rattle.firmware_loop.proofs.serving.serve_lanes.Goals as goal

-- a lane that waits is the one that was there
same_lane : (lanes old : List (List Line)) (index : ℕ) (lane : List Line) → length lanes ≡ MAX_PORTS → index < MAX_PORTS
    → ((place : ℕ) → index ≤ place → slice_index_or lanes place [] ≡ slice_index_or old place [])
    → slice_index_or lanes index lane ≡ slice_index_or old index []
same_lane lanes old index lane size within waiting =
    let there : index < length lanes = omega (arith, size) in
    get_or_default lanes index lane [] there ∙ waiting index (omega arith)

pub serve-requires-clause-known : goal.serve-requires-clause-known
serve-requires-clause-known c =
    let port : c.port_of.result ≡ c.loop-place.place + 1 = c.port_of.ensures in
    let here = same_lane c.loop-place.lanes c.args.lanes.now c.loop-place.place c.index-lanes-place.result c.loop-place.invariant.size (omega (arith, c.requires.few_used))
    c.loop-place.invariant.waiting in
    subst (λ (acts : List PortEvent). AreKnown (port_total c.loop-place.switch) acts) (λ i. map (act_of (sym port i)) (sym here i))
    (subst (λ (ports : ℕ). AreKnown ports (map (act_of (c.loop-place.place + 1)) (slice_index_or c.args.lanes.now c.loop-place.place [])))
    (sym c.loop-place.invariant.ports)
    (known-lane (port_total c.args.switch.now) c.args.lanes.now c.loop-place.place MAX_PORTS (omega (arith, c.requires.few_used)) c.requires.known))

pub serve-requires-clause-room : goal.serve-requires-clause-room
serve-requires-clause-room c =
    let fits = acts_among-fits c.args.lanes.now c.loop-place.place MAX_PORTS (omega (arith, c.requires.few_used)) in
    let here = same_lane c.loop-place.lanes c.args.lanes.now c.loop-place.place c.index-lanes-place.result c.loop-place.invariant.size (omega (arith, c.requires.few_used))
    c.loop-place.invariant.waiting in
    let same = ap (λ (lane : List Line). length lane) here in
    let room : c.loop-place.switch.served + length (slice_index_or c.loop-place.lanes c.loop-place.place c.index-lanes-place.result) ≤ EVENTS_MAX =
    omega (arith, fits, same, c.loop-place.invariant.served, c.requires.room) in
    room

pub serve-requires-clause-few_jobs : goal.serve-requires-clause-few_jobs
serve-requires-clause-few_jobs c =
    let fits = acts_among-fits c.args.lanes.now c.loop-place.place MAX_PORTS (omega (arith, c.requires.few_used)) in
    let here = same_lane c.loop-place.lanes c.args.lanes.now c.loop-place.place c.index-lanes-place.result c.loop-place.invariant.size (omega (arith, c.requires.few_used))
    c.loop-place.invariant.waiting in
    let same = ap (λ (lane : List Line). length lane) here in
    omega (arith, fits, same, c.loop-place.invariant.few_jobs, c.requires.few)

pub loop-place-preserved : goal.loop-place-preserved
loop-place-preserved c =
    let before = c.loop-place.invariant in
    let after = c.serve.ensures in
    let index = c.loop-place.place in
    let old : List (List Line) = c.args.lanes.now in
    let lanes : List (List Line) = c.loop-place.lanes in
    let lane : List Line = c.serve.new.self in
    let served : List PortEvent = map (act_of c.port_of.result) (slice_index_or lanes index c.index-lanes-place.result) in
    let first : List PortEvent = acts_among old index in
    let second : List PortEvent = map (act_of (index + 1)) (slice_index_or old index []) in
    let here : slice_index_or lanes index c.index-lanes-place.result ≡ slice_index_or old index [] =
    same_lane lanes old index c.index-lanes-place.result before.size (omega (arith, c.requires.few_used)) before.waiting in
    let port : c.port_of.result ≡ index + 1 = c.port_of.ensures in
    let own : served ≡ second = λ i. map (act_of (port i)) (here i) in
    let more : acts_among old (index + 1) ≡ first ++ second = acts_among-next old index in
    let size = ap (λ (lines : List Line). length lines) here in
    let count : length (acts_among old (index + 1)) ≡ length first + length (slice_index_or old index []) =
    ap (λ (all : List PortEvent). length all) more ∙ length-append first second
    ∙ ap (λ (some : ℕ). length first + some) (length-map (slice_index_or old index []) (act_of (index + 1))) in
    let within : index < length lanes = omega (arith, before.size, c.requires.few_used) in
    record {
      size = length-set lanes index lane ∙ before.size;
      stands = λ rules past stands.
          subst (λ (kept : List PortEvent). StandsFor rules c.serve.new.switch (onto (schedule kept) past)) (sym more)
          (subst (λ (history : List Seen). StandsFor rules c.serve.new.switch history) (sym (onto-append first second past))
          (subst (λ (acts : List PortEvent). StandsFor rules c.serve.new.switch (onto (schedule acts) (onto (schedule first) past))) own
          (after.stands rules (onto (schedule first) past) (before.stands rules past stands))));
      lines = λ rules past stands place below. elim (eqb_tells place index) [
        | inl is ↦
            subst (λ (at : ℕ). slice_index_or (slice_set lanes index lane) at []
            ≡ lane_lines rules (at + 1) (schedule (map (act_of (at + 1)) (slice_index_or old at []))) (onto (schedule (acts_among old at)) past)) (sym is.1)
            (get_or-set_same lanes index lane [] within
            ∙ after.lines rules (onto (schedule first) past) (before.stands rules past stands)
            ∙ (λ i. lane_lines rules (port i) (schedule (own i)) (onto (schedule first) past)))
        | inr apart ↦
            get_or-set_other lanes index place lane [] apart.1
            ∙ before.lines rules past stands place (omega (arith, below, apart.1))
      ];
      waiting = λ place from.
          get_or-set_other lanes index place lane [] (λ is. absurd (omega (arith, from, is)))
          ∙ before.waiting place (omega (arith, from));
      lengths = λ place. elim (eqb_tells place index) [
        | inl is ↦
            subst (λ (at : ℕ). length (slice_index_or (slice_set lanes index lane) at []) ≡ length (slice_index_or old at [])) (sym is.1)
            (ap (λ (lines : List Line). length lines) (get_or-set_same lanes index lane [] within) ∙ after.count ∙ size)
        | inr apart ↦
            ap (λ (lines : List Line). length lines) (get_or-set_other lanes index place lane [] apart.1) ∙ before.lengths place
      ];
      jobs = λ rules past stands.
          after.jobs rules (onto (schedule first) past) (before.stands rules past stands)
          ∙ (λ i. before.jobs rules past stands i ++ schedule_jobs rules (schedule (own i)) (onto (schedule first) past))
          ∙ sym (schedule_jobs-append rules first second past)
          ∙ ap (λ (kept : List PortEvent). schedule_jobs rules (schedule kept) past) (sym more);
      few_jobs = omega (arith, count, size, before.few_jobs, after.few_jobs);
      served = omega (arith, count, size, before.served, after.served);
      ports = after.ports ∙ before.ports;
      visits =
          let next = lanes_with_acts-next old index in
          let one = ap one_if_some own in
          omega (arith, next, one, before.visits, after.visits);
    }

-- the lanes that were gone over have all acts
all_acts : (lanes : List (List Line)) (place used : ℕ) → place ≡ used → used ≤ MAX_PORTS
    → ((place : ℕ) → used ≤ place → slice_index_or lanes place [] ≡ []) → acts_among lanes place ≡ acts_among lanes MAX_PORTS
all_acts lanes place used last few unused =
    ap (λ (count : ℕ). acts_among lanes count) last ∙ acts_among-unused lanes used MAX_PORTS few unused

pub returns-clause-stands : goal.returns-clause-stands
returns-clause-stands c = λ rules past stands.
    let all = all_acts c.args.lanes.now c.loop-place.place c.args.used (omega arith) c.requires.few_used c.requires.unused in
    subst (λ (acts : List PortEvent). StandsFor rules c.loop-place.switch (onto (schedule acts) past)) all
    (c.loop-place.invariant.stands rules past stands)

pub returns-clause-lines : goal.returns-clause-lines
returns-clause-lines c = λ rules past stands place within.
    let old : List (List Line) = c.args.lanes.now in
    let last : c.loop-place.place ≡ c.args.used = omega arith in
    elim (leb_tells c.args.used place) [
      | inl above ↦
          let none = c.requires.unused place above.1 in
          c.loop-place.invariant.waiting place (omega (arith, last, above.1))
          ∙ none
          ∙ ap (λ (lane : List Line). lane_lines rules (place + 1) (schedule (map (act_of (place + 1)) lane))
          (onto (schedule (acts_among old place)) past)) (sym none)
      | inr below ↦ c.loop-place.invariant.lines rules past stands place (omega (arith, last, below.1))
    ]

pub returns-clause-jobs : goal.returns-clause-jobs
returns-clause-jobs c = λ rules past stands.
    let all = all_acts c.args.lanes.now c.loop-place.place c.args.used (omega arith) c.requires.few_used c.requires.unused in
    c.loop-place.invariant.jobs rules past stands ∙ ap (λ (acts : List PortEvent). schedule_jobs rules (schedule acts) past) all

pub returns-clause-served : goal.returns-clause-served
returns-clause-served c =
    let all = ap (λ (acts : List PortEvent). length acts)
    (all_acts c.args.lanes.now c.loop-place.place c.args.used (omega arith) c.requires.few_used c.requires.unused) in
    omega (arith, all, c.loop-place.invariant.served)

pub returns-clause-visits : goal.returns-clause-visits
returns-clause-visits c =
    let last : c.loop-place.place ≡ c.args.used = omega arith in
    let all : lanes_with_acts c.args.lanes.now c.loop-place.place ≡ lanes_with_acts c.args.lanes.now MAX_PORTS =
    ap (λ (count : ℕ). lanes_with_acts c.args.lanes.now count) last
    ∙ lanes_with_acts-unused c.args.lanes.now c.args.used MAX_PORTS c.requires.few_used c.requires.unused in
    omega (arith, all, c.loop-place.invariant.visits)
