-- One act more of the port.
use Rattle.std.proofs.Common.{◌≡◌, ◌+◌, ◌<◌, ◌≤◌, ℕ, List, [], ◌∷◌, ◌++◌, length, map, take, drop, get_or, refl, sym, ap, ◌∙◌, subst, arith, append_assoc}
use Rattle.std.proofs.lemmas.List.{append-nil, drop-set-lt, drop_more, get_or-map, length-map, length-set, length-take-le, map_more, take_more_set}
use Rattle.psd_base.specs.declared.line.Line.{Line}
use Rattle.psd_base.specs.Event.{Seen}
use Rattle.psd_base.specs.History.{onto}
use Rattle.switch_core.specs.Orders.{orders_at}
use Rattle.switch_core.specs.StandsFor.{StandsFor, port_total}
use Rattle.switch_core.specs.declared.visits.Visits.{Visits}
use Rattle.firmware_loop.specs.declared.timed_job.TimedJob.{TimedJob}
use Rattle.firmware_loop.specs.Batches.{PortEvent, act_of, jobs_among, lane_lines, schedule, schedule_jobs, seen_of}
use Rattle.firmware_loop.proofs.Reordering.{lane_lines-append, line-own, onto-append, schedule_jobs-append}
use Rattle.firmware_loop.proofs.Visiting.{Visited, visited-more}
use Rattle.firmware_loop.proofs.lane.serve_lines.Goals as goal

-- what waits from a place on: the line there, and the others
here_waits : (lines others : List Line) (place : ℕ) (line : Line) → place < length lines → place < length others
    → drop place lines ≡ drop place others → get_or lines place line ≡ get_or others place line
here_waits lines others place line within there same =
    let first = drop_more lines place line within in
    let second = drop_more others place line there in
    cc

others_wait : (lines others : List Line) (place : ℕ) (line : Line) → place < length lines → place < length others
    → drop place lines ≡ drop place others → drop (place + 1) lines ≡ drop (place + 1) others
others_wait lines others place line within there same =
    let first = drop_more lines place line within in
    let second = drop_more others place line there in
    cc

-- the port of an act is one that the switch has
known_here : (ports port len place : ℕ) (lines : List Line) (line : Line) → place < len → len ≤ length lines
    → ((k : ℕ) (d : PortEvent) → k < length (map (act_of port) (take len lines)) → (get_or (map (act_of port) (take len lines)) k d).port ≤ ports)
    → port ≤ ports
known_here ports port len place lines line below within known =
    let size : length (map (act_of port) (take len lines)) ≡ len =
    length-map (take len lines) (act_of port) ∙ length-take-le len lines within in
    let there : place < length (take len lines) = let taken = length-take-le len lines within in omega (arith, taken) in
    let is : (get_or (map (act_of port) (take len lines)) place (act_of port line)).port ≡ port =
    ap (λ (event : PortEvent). event.port) (get_or-map (act_of port) (take len lines) place line (act_of port line) there) in
    subst (λ (number : ℕ). number ≤ ports) is (known place (act_of port line) (omega (arith, size)))

pub serve_line-requires-clause-known : goal.serve_line-requires-clause-known
serve_line-requires-clause-known c =
    subst (λ (ports : ℕ). c.args.port ≤ ports) (sym c.loop-place.invariant.ports)
    (known_here (port_total c.args.switch.now) c.args.port c.args.len c.loop-place.place c.args.places.now c.index-places-place.result
    c.loop-place-test.true c.requires.within c.requires.known)

pub loop-place-preserved : goal.loop-place-preserved
loop-place-preserved c =
    let before = c.loop-place.invariant in
    let after = c.serve_line.ensures in
    let port = c.args.port in
    let places : List Line = c.args.places.now in
    let lines : List Line = c.loop-place.places in
    let place : ℕ = c.loop-place.place in
    let answered : Line = c.serve_line.new.line in
    let there : place < length places = omega (arith, c.requires.within, c.loop-place-test.true) in
    let within : place < length lines = omega (arith, there, before.size) in
    let line : Line = get_or lines place c.index-places-place.result in
    let is : get_or places place c.index-places-place.result ≡ line =
    sym (here_waits lines places place c.index-places-place.result within there before.waiting) in
    let first : List PortEvent = map (act_of port) (take place places) in
    let second : List PortEvent = act_of port line ∷ [] in
    let more : map (act_of port) (take (place + 1) places) ≡ first ++ second =
    map_more (act_of port) places place c.index-places-place.result there ∙ ap (λ (next : Line). first ++ act_of port next ∷ []) is in
    record {
      stands = λ rules past stands.
          subst (λ (kept : List PortEvent). StandsFor rules c.serve_line.new.switch (onto (schedule kept) past)) (sym more)
          (subst (λ (history : List Seen). StandsFor rules c.serve_line.new.switch history) (sym (onto-append first second past))
          (after.stands rules (onto (schedule first) past) (before.stands rules past stands)));
      lines = λ rules past stands.
          take_more_set lines place answered within
          ∙ (λ i. before.lines rules past stands i ++ after.line rules (onto (schedule first) past) (before.stands rules past stands) i ∷ [])
          ∙ ap (λ (own : List Line). lane_lines rules port (schedule first) past ++ (own ++ []))
          (sym (line-own rules port (act_of port line) (onto (schedule first) past) refl))
          ∙ sym (lane_lines-append rules port first second past)
          ∙ ap (λ (kept : List PortEvent). lane_lines rules port (schedule kept) past) (sym more);
      waiting =
          drop-set-lt (place + 1) lines place answered (omega arith)
          ∙ others_wait lines places place c.index-places-place.result within there before.waiting;
      jobs = λ rules past stands.
          let ordered : List TimedJob = jobs_among line.tick (orders_at rules (seen_of (act_of port line)) (onto (schedule first) past)) in
          after.jobs rules (onto (schedule first) past) (before.stands rules past stands)
          ∙ (λ i. before.jobs rules past stands i ++ sym (append-nil ordered) i)
          ∙ append_assoc c.args.jobs.now (schedule_jobs rules (schedule first) past) (schedule_jobs rules (schedule second) (onto (schedule first) past))
          ∙ ap (λ (jobs : List TimedJob). c.args.jobs.now ++ jobs)
          (sym (schedule_jobs-append rules first second past) ∙ ap (λ (kept : List PortEvent). schedule_jobs rules (schedule kept) past) (sym more));
      size = length-set lines place answered ∙ before.size;
      few_jobs = omega (arith, before.few_jobs, after.few_jobs);
      served = omega (arith, before.served, after.served);
      ports = after.ports ∙ before.ports;
      visited =
          subst (λ (kept : List PortEvent). Visited port c.args.switch.now.visits.count kept c.serve_line.new.switch.visits) (sym more)
          (subst (λ (visits : Visits). Visited port c.args.switch.now.visits.count (first ++ second) visits) (sym after.visits)
          (visited-more port c.args.switch.now.visits.count first (act_of port line) c.loop-place.switch.visits before.visited));
    }

pub returns-clause-stands : goal.returns-clause-stands
returns-clause-stands c = λ rules past stands.
    let last : c.loop-place.place ≡ c.args.len = omega arith in
    subst (λ (count : ℕ). StandsFor rules c.loop-place.switch (onto (schedule (map (act_of c.args.port) (take count c.args.places.now))) past)) last
    (c.loop-place.invariant.stands rules past stands)
