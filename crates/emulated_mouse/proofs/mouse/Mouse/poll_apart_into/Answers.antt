-- The first of two cases that applies is answered.
use Rattle.std.proofs.Common.{◌≡◌, Bool, false, List, ◌∷◌, sym, ap, ◌∙◌, subst}
use Rattle.emulated_mouse.specs.declared.given.Given.{Given}
use Rattle.emulated_mouse.specs.declared.report.Report.{Report}
use Rattle.emulated_mouse.specs.MouseHistory.{MouseEntry, PolledApart, begun, rest, last_made, made_by, is_unread, is_due, toggle_of, given_apart, answer_of}
use Rattle.emulated_mouse.specs.MouseStands.{MouseValue, MouseStands}
use Rattle.emulated_mouse.specs.MouseSteps.{made_report}
use Rattle.emulated_mouse.proofs.MouseLaws.{shows_span, not_shown, case_apart-is, same_made_apart, stands_polled_apart}
use Rattle.emulated_mouse.proofs.mouse.Mouse.poll_apart_into.Goals as goal

module _ (c : goal.After-give) (past : List MouseEntry) (stands : MouseStands c.args.self.now past) where
  case : c.case_apart.result ≡ given_apart past
  case = c.case_apart.ensures ∙ case_apart-is c.args.self.now past stands

  none_shown : shows_span c.case_apart.result ≡ false
  none_shown = ap (λ (g : Given). shows_span g) case ∙ not_shown (is_unread past) (is_due past)

pub returns-in_default-clause-stands : goal.returns-in_default-clause-stands
returns-in_default-clause-stands c = λ past stands.
    subst (λ (g : Given). MouseStands c.give.new.self (PolledApart g c.args.acked ∷ past)) (case c past stands)
    (subst (λ (v : MouseValue). MouseStands v (PolledApart c.case_apart.result c.args.acked ∷ past)) (sym c.give.ensures.step)
    (stands_polled_apart c.args.self.now past stands c.case_apart.result c.args.acked (sym stands.entered ∙ c.requires) (none_shown c past stands)))

pub returns-in_default-clause-answer : goal.returns-in_default-clause-answer
returns-in_default-clause-answer c = λ past stands.
    c.give.ensures.answer
    ∙ ap (λ (toggle : Bool). answer_of c.case_apart.result toggle (made_report c.case_apart.result c.args.self.now.rest c.args.self.now.last)) stands.toggle
    ∙ ap (λ (made : Report). answer_of c.case_apart.result (toggle_of past) made) (same_made_apart c.args.self.now past stands c.case_apart.result (none_shown c past stands))
    ∙ ap (λ (g : Given). answer_of g (toggle_of past) (made_by g (begun past) (rest past) (last_made past))) (case c past stands)
