-- What is left of the part that is held.
use Rattle.std.proofs.Common.{◌≡◌, ◌+◌, ◌-◌, ◌≤◌, length, drop, slice_range, sym, ap, subst, arith, length-take}
use Rattle.capture_reader.specs.Window.{Held}
use Rattle.capture_reader.proofs.Slices.{slice_range_past}
use Rattle.capture_reader.proofs.window.Window.drop_front.Goals as goal

pub returns : goal.returns
returns c =
    let w = c.self.inside in
    let size : length c.args.self.now.bytes ≤ w.end - w.start = omega (arith, ap (λ (held : Held). length held.bytes) (sym c.self.view_is), length-take (w.end - w.start) (drop w.start w.buffer.items)) in
    let left = slice_range_past w.buffer.items w.start w.end c.args.count (omega (arith, c.requires)) in
    let P : Held → Type 0 = λ held. record { bytes = slice_range w.buffer.items (w.start + c.args.count) w.end; ended = w.ended } ≡ record held { bytes = drop c.args.count held.bytes } in
    subst P c.self.view_is (ap (λ bytes. record { bytes = bytes; ended = w.ended }) left)
