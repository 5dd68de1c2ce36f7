-- Bytes move from the desk to what is held.
use Rattle.std.proofs.Common.{◌≡◌, ℕ, ◌+◌, ◌-◌, nat_eq, take, slice_range, Ok, sym, ap, ◌∙◌, arith}
use Rattle.std.specs.Vec.{with_items}
use Rattle.std.proofs.lemmas.List.{with_items_is}
use Rattle.capture_reader.specs.Window.{Held, still}
use Rattle.capture_reader.proofs.DeskReads.{still_after_read, all_read, end_after_read}
use Rattle.capture_reader.proofs.window.Window.refill.Goals as goal

pub returns-clause-still : goal.returns-clause-still
returns-clause-still g c =
    let w = c.self.inside in
    let now = c.args.self.now in
    let held : ℕ = w.end - w.start in
    let count : ℕ = c.in_ok-count.count in
    let buffer = c.read_behind.new.buffer in
    let before = (g.D.Desk.told c.args.desk.now).left c.args.from in
    let after = (g.D.Desk.told c.read_behind.new.desk).left c.args.from in
    let same : (with_items c.move_to_front.new.buffer buffer).items ≡ buffer = with_items_is c.move_to_front.new.buffer buffer (omega (arith, c.read_behind.auto.buffer, c.as_mut_slice.ensures.len)) in
    let front : take held buffer ≡ now.bytes = c.read_behind.ensures.kept ∙ ap (take held) c.as_mut_slice.ensures.value ∙ c.move_to_front.ensures.moved ∙ ap (λ (held : Held). held.bytes) c.self.view_is in
    let moved = still_after_read now.bytes buffer held count before after front c.in_ok-count.ensures.moved (λ empty. c.in_ok-count.ensures.ended (ap Ok empty)) in
    ap (λ items. still (record { bytes = slice_range items 0 (held + count); ended = nat_eq count 0 }) after) same
    ∙ moved ∙ ap (λ ended. still (record { bytes = now.bytes; ended = ended }) before) (sym c.requires.open)

pub returns-clause-took : goal.returns-clause-took
returns-clause-took g c =
    let w = c.self.inside in
    let now = c.args.self.now in
    let held : ℕ = w.end - w.start in
    let count : ℕ = c.in_ok-count.count in
    let buffer = c.read_behind.new.buffer in
    let same : (with_items c.move_to_front.new.buffer buffer).items ≡ buffer = with_items_is c.move_to_front.new.buffer buffer (omega (arith, c.read_behind.auto.buffer, c.as_mut_slice.ensures.len)) in
    let front : take held buffer ≡ now.bytes = c.read_behind.ensures.kept ∙ ap (take held) c.as_mut_slice.ensures.value ∙ c.move_to_front.ensures.moved ∙ ap (λ (held : Held). held.bytes) c.self.view_is in
    record {
      bytes = slice_range buffer held (held + count);
      left_is = c.in_ok-count.ensures.moved;
      held_is = ap (λ items. slice_range items 0 (held + count)) same ∙ all_read buffer now.bytes held count front;
    }

pub returns-clause-ends : goal.returns-clause-ends
returns-clause-ends g c =
    let w = c.self.inside in
    let count : ℕ = c.in_ok-count.count in
    end_after_read c.read_behind.new.buffer (w.end - w.start) count ((g.D.Desk.told c.args.desk.now).left c.args.from) ((g.D.Desk.told c.read_behind.new.desk).left c.args.from)
    c.in_ok-count.ensures.moved (λ empty. c.in_ok-count.ensures.ended (ap Ok empty))
