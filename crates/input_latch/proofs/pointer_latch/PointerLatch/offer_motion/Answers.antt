-- A motion by what it and the change before it come to.
use Rattle.std.proofs.Common.{sym, ◌∙◌, rules, w32}
use Rattle.std.proofs.lemmas.Int.{to_z-of_z}
use mir.Val.{SFits}
use Rattle.input_latch.specs.PointerLatch.{pointer_latch_of}
use Rattle.input_latch.proofs.PointerLatchLaws.{last_change-read, sum_step, far_step, apart_is_step}
use Rattle.input_latch.proofs.pointer_latch.PointerLatch.offer_motion.Goals as goal

pub returns-in-Sum : goal.returns-in-Sum
returns-in-Sum c =
    let x_fits : SFits w32 c.in-Sum.x = search rules in
    let y_fits : SFits w32 c.in-Sum.y = search rules in
    let wheel_fits : SFits w32 c.in-Sum.wheel = search rules in
    rw (c.replace_last.ensures, c.take.ensures, ← c.self.view_is, to_z-of_z, to_z-of_z, to_z-of_z)
    (sum_step (pointer_latch_of c.self.inside) c.args.offered.now c.args.sample.now.x c.args.sample.now.y c.args.sample.now.wheel c.copied.result
    (c.copied.ensures ∙ c.back.ensures ∙ sym (last_change-read c.self.inside.waiting.items)) c.in-Sum.x c.in-Sum.y c.in-Sum.wheel c.in-Sum.ensures)

pub returns-in-TooFar : goal.returns-in-TooFar
returns-in-TooFar c =
    rw (c.refuse.ensures, ← c.self.view_is)
    (far_step (pointer_latch_of c.self.inside) c.args.offered.now c.args.sample.now.x c.args.sample.now.y c.args.sample.now.wheel c.copied.result
    (c.copied.ensures ∙ c.back.ensures ∙ sym (last_change-read c.self.inside.waiting.items)) c.in-TooFar.ensures)

pub returns-in-Apart : goal.returns-in-Apart
returns-in-Apart c =
    c.append_motion.ensures
    ∙ rw (← c.self.view_is)
    (apart_is_step (pointer_latch_of c.self.inside) c.args.offered.now c.args.sample.now.x c.args.sample.now.y c.args.sample.now.wheel c.copied.result
    (c.copied.ensures ∙ c.back.ensures ∙ sym (last_change-read c.self.inside.waiting.items)) c.in-Apart.ensures)
