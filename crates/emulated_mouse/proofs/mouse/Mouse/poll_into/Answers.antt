-- The first case that applies is answered.
use Rattle.std.proofs.Common.{◌≡◌, true, false, List, Bool, ◌∷◌, sym, ap, ◌∙◌, subst}
use Rattle.input_latch.specs.PointerHistory.{PointerEntry, next_change}
use Rattle.input_latch.specs.PointerLatchStands.{PointerLatchStands}
use Rattle.emulated_mouse.specs.declared.given.Given.{Given}
use Rattle.emulated_mouse.specs.declared.report.Report.{Report}
use Rattle.emulated_mouse.specs.MouseHistory.{MouseEntry, Polled, begun, rest, last_made, made_by, is_unread, is_due, is_entered, toggle_of, given_next, given_at, answer_of}
use Rattle.emulated_mouse.specs.MouseStands.{MouseStands}
use Rattle.emulated_mouse.specs.MouseSteps.{made_report}
use Rattle.emulated_mouse.proofs.MouseLaws.{shows_span, not_due, left_where_due, case_of-is, same_made, stands_polled}
use Rattle.emulated_mouse.proofs.mouse.Mouse.poll_into.Goals as goal

module _ (c : goal.After-give) (past : List MouseEntry) (entries : List PointerEntry) (stands : MouseStands c.args.self.now past) (latch : PointerLatchStands c.args.latch.now entries) where
  case : c.case_at-given.result ≡ given_at (next_change entries) past
  case = c.case_at-given.ensures.case entries latch ∙ case_of-is c.args.self.now past stands (next_change entries)

  entered : is_entered past ≡ true
  entered = sym stands.entered ∙ c.requires

  ready : shows_span c.case_at-given.result ≡ true → is_due past ≡ false
  ready shows = not_due (is_unread past) (is_due past) (given_next (next_change entries) (rest past)) (ap (λ (g : Given). shows_span g) (sym case) ∙ shows)

  polled : MouseStands c.give.new.self (Polled c.case_at-given.result c.args.acked ∷ past)
  polled =
      rw c.give.ensures.step
      (stands_polled c.args.self.now past stands c.case_at-given.result c.args.acked entered ready
      (left_where_due (next_change entries) past c.case_at-given.result case))

pub returns-clause-stands : goal.returns-clause-stands
returns-clause-stands c = λ past entries stands latch.
    subst (λ (given : Given). MouseStands c.give.new.self (Polled given c.args.acked ∷ past)) (case c past entries stands latch) (polled c past entries stands latch)

pub returns-clause-answer : goal.returns-clause-answer
returns-clause-answer c = λ past entries stands latch.
    c.give.ensures.answer
    ∙ ap (λ (toggle : Bool). answer_of c.case_at-given.result toggle (made_report c.case_at-given.result c.args.self.now.rest c.args.self.now.last)) stands.toggle
    ∙ ap (λ (made : Report). answer_of c.case_at-given.result (toggle_of past) made)
    (same_made c.args.self.now past stands c.case_at-given.result (entered c past entries stands latch) (ready c past entries stands latch))
    ∙ ap (λ (given : Given). answer_of given (toggle_of past) (made_by given (begun past) (rest past) (last_made past))) (case c past entries stands latch)
