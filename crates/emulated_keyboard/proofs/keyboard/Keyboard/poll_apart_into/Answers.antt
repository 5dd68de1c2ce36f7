-- The first of two cases that applies is answered.
use Rattle.std.proofs.Common.{◌≡◌, ℕ, Bool, false, List, ◌∷◌, sym, ap, ◌∙◌, subst}
use Rattle.emulated_keyboard.specs.declared.given.Given.{Given}
use Rattle.emulated_keyboard.specs.KeyboardHistory.{KeyboardEntry, PolledApart, shown, last_made, made_by, is_unread, is_due, toggle_of, given_apart, answer_of}
use Rattle.emulated_keyboard.specs.KeyboardStands.{KeyboardValue, KeyboardStands}
use Rattle.emulated_keyboard.specs.KeyboardSteps.{given_step, made_keys}
use Rattle.emulated_keyboard.proofs.KeyboardLaws.{shows_span, not_shown, case_apart-is, same_made_apart, stands_polled_apart}
use Rattle.emulated_keyboard.proofs.keyboard.Keyboard.poll_apart_into.Goals as goal

module _ (c : goal.After-give-in_default) (past : List KeyboardEntry) (stands : KeyboardStands c.args.self.now past) where
  case : c.case_apart.result ≡ given_apart past
  case = c.case_apart.ensures ∙ case_apart-is c.args.self.now past stands

  none_shown : shows_span c.case_apart.result ≡ false
  none_shown = ap (λ (g : Given). shows_span g) case ∙ not_shown (is_unread past) (is_due past)

  step : c.give-in_default.new.self ≡ given_step c.case_apart.result c.args.acked c.args.self.now.idle_since c.args.self.now
  step =
      c.give-in_default.ensures.step
      ∙ ap (λ (since : ℕ). given_step c.case_apart.result c.args.acked since c.args.self.now) (ap (λ (v : KeyboardValue). v.idle_since) c.give.view_is)

pub returns-in_default-clause-stands : goal.returns-in_default-clause-stands
returns-in_default-clause-stands c = λ past stands.
    subst (λ (g : Given). KeyboardStands c.give-in_default.new.self (PolledApart g c.args.acked ∷ past)) (case c past stands)
    (subst (λ (v : KeyboardValue). KeyboardStands v (PolledApart c.case_apart.result c.args.acked ∷ past)) (sym (step c past stands))
    (stands_polled_apart c.args.self.now past stands c.case_apart.result c.args.acked (sym stands.entered ∙ c.requires) (none_shown c past stands)))

pub returns-in_default-clause-answer : goal.returns-in_default-clause-answer
returns-in_default-clause-answer c = λ past stands.
    c.give-in_default.ensures.answer
    ∙ ap (λ (toggle : Bool). answer_of c.case_apart.result toggle (made_keys c.case_apart.result c.args.self.now.last)) stands.toggle
    ∙ ap (λ (down : List Bool). answer_of c.case_apart.result (toggle_of past) down) (same_made_apart c.args.self.now past stands c.case_apart.result (none_shown c past stands))
    ∙ ap (λ (g : Given). answer_of g (toggle_of past) (made_by g (shown past) (last_made past))) (case c past stands)
