-- The lane of the port has one act more.
use Rattle.std.proofs.Common.{◌≡◌, ◌+◌, ◌-◌, ◌<◌, ℕ, List, [], length, slice_index_or, refl, sym, ap, ◌∙◌, subst, arith, get_or-set_other}
use Rattle.std.proofs.lemmas.List.{get_or_read, length-set}
use Rattle.psd_base.specs.declared.line.Line.{Line}
use Rattle.psd_base.specs.declared.port.TheConstants.{MAX_PORTS}
use Rattle.psd_base.specs.Port.{IsPort}
use Rattle.firmware_loop.specs.Batches.{PortEvent}
use Rattle.firmware_loop.proofs.Collecting.{acts_among-more, collected-more}
use Rattle.firmware_loop.proofs.lanes.Lanes.collect.Goals as goal

pub invariant_of-self : goal.invariant_of-self
invariant_of-self c =
    let was = c.args.self.now in
    let place : ℕ = c.number.result - 1 in
    let lanes : List (List Line) = was.lanes.items in
    let lane : List Line = c.collect.new.self in
    let old : List Line = c.index_mut.result.now in
    let full : length lanes ≡ MAX_PORTS = was.full in
    let within : place < length lanes = omega (arith, full, c.number.ensures.port) in
    let below : place < MAX_PORTS = omega (arith, full, within) in
    let is : length old ≡ length (slice_index_or lanes place []) =
    ap (λ (lines : List Line). length lines) (get_or_read lanes place old within c.index_mut.ensures.value []) in
    let longer : length lane ≡ length (slice_index_or lanes place []) + 1 = omega (arith, is, c.collect.ensures.count) in
    record {
      full = length-set lanes place lane ∙ full;
      total = acts_among-more lanes place MAX_PORTS lane within below longer ∙ ap (λ (count : ℕ). count + 1) was.total;
      few_used = omega (arith, was.few_used, c.number.ensures.port);
      unused = λ place_above from.
          get_or-set_other lanes place place_above lane [] (λ is. absurd (omega (arith, from, is)))
          ∙ was.unused place_above (omega (arith, from));
      few = omega (arith, c.requires.room);
    }

pub returns-clause-collected : goal.returns-clause-collected
returns-clause-collected c = λ events collected.
    let place : ℕ = c.number.result - 1 in
    let event : PortEvent = record { tick = c.args.tick; port = c.args.port; side = c.args.side; act = c.args.act.now } in
    let lanes : List (List Line) = c.args.self.now.lanes.items in
    let lane : List Line = c.index_mut.result.now in
    let full : length lanes ≡ MAX_PORTS = c.args.self.now.full in
    let number = c.number.ensures.value in
    let within : place < length lanes = omega (arith, full, c.number.ensures.port) in
    let is_port : IsPort c.args.port = subst (λ (port : ℕ). IsPort port) number c.number.ensures.port in
    let placed : place + 1 ≡ c.args.port = omega (arith, number, c.number.ensures.port) in
    collected-more events event c.args.self.now _ place lane c.collect.new.self collected within is_port placed
    (sym (get_or_read lanes place lane within c.index_mut.ensures.value [])) (c.collect.ensures.acts c.args.port) refl refl
