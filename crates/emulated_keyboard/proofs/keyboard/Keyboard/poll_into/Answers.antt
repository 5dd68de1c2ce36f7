-- The first case that applies is answered.
use Rattle.std.proofs.Common.{◌≡◌, true, false, List, Bool, ◌∷◌, sym, ap, ◌∙◌, subst}
use Rattle.input_latch.specs.KeyHistory.{KeyEntry, next_change}
use Rattle.input_latch.specs.KeyLatchStands.{KeyLatchStands}
use Rattle.emulated_keyboard.specs.declared.given.Given.{Given}
use Rattle.emulated_keyboard.specs.KeyboardHistory.{KeyboardEntry, Polled, shown, last_made, made_by, is_unread, is_due, is_entered, toggle_of, given_next, given_at, answer_of}
use Rattle.emulated_keyboard.specs.KeyboardStands.{KeyboardStands}
use Rattle.emulated_keyboard.specs.KeyboardSteps.{made_keys}
use Rattle.emulated_keyboard.proofs.KeyboardLaws.{shows_span, not_due, left_where_due, case_of-is, same_made, stands_polled}
use Rattle.emulated_keyboard.proofs.keyboard.Keyboard.poll_into.Goals as goal

module _ (c : goal.After-give) (past : List KeyboardEntry) (keys : List KeyEntry) (stands : KeyboardStands c.args.self.now past) (latch : KeyLatchStands c.args.latch.now keys) where
  case : c.case_at-given.result ≡ given_at (next_change keys) c.args.tick past
  case = c.case_at-given.ensures.case keys latch ∙ case_of-is c.args.self.now past stands (next_change keys) c.args.tick

  entered : is_entered past ≡ true
  entered = sym stands.entered ∙ c.requires

  ready : shows_span c.case_at-given.result ≡ true → is_due past ≡ false
  ready shows = not_due (is_unread past) (is_due past) (given_next (next_change keys) c.args.tick past) (ap (λ (g : Given). shows_span g) (sym case) ∙ shows)

  polled : KeyboardStands c.give.new.self (Polled c.args.tick c.case_at-given.result c.args.acked ∷ past)
  polled =
      rw c.give.ensures.step
      (stands_polled c.args.self.now past stands c.case_at-given.result c.args.tick c.args.acked entered ready
      (left_where_due (next_change keys) c.args.tick past c.case_at-given.result case) c.case_at-given.ensures.key)

pub returns-clause-stands : goal.returns-clause-stands
returns-clause-stands c = λ past keys stands latch.
    subst (λ (given : Given). KeyboardStands c.give.new.self (Polled c.args.tick given c.args.acked ∷ past)) (case c past keys stands latch) (polled c past keys stands latch)

pub returns-clause-answer : goal.returns-clause-answer
returns-clause-answer c = λ past keys stands latch.
    c.give.ensures.answer
    ∙ ap (λ (toggle : Bool). answer_of c.case_at-given.result toggle (made_keys c.case_at-given.result c.args.self.now.last)) stands.toggle
    ∙ ap (λ (down : List Bool). answer_of c.case_at-given.result (toggle_of past) down)
    (same_made c.args.self.now past stands c.case_at-given.result (entered c past keys stands latch) (ready c past keys stands latch))
    ∙ ap (λ (given : Given). answer_of given (toggle_of past) (made_by given (shown past) (last_made past))) (case c past keys stands latch)
