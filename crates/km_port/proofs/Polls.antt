-- Which polls are answered NAK, and that nothing is read while the switch is dark.
use Rattle.std.proofs.Common.{◌≡◌, ℕ, nat_eq, Bool, true, false, List, [], ◌∷◌, refl, sym, ap, ◌∙◌, subst, if◌then◌else◌}
use Rattle.std.specs.Prelude.{◌==◌, ◌&&◌}
use Rattle.std.proofs.lemmas.Bool.{false≢true}
use Rattle.psd_base.specs.declared.act.Act.{Act}
use Rattle.psd_base.specs.declared.act.Act.TheVariants as act
use Rattle.psd_base.specs.declared.act.Answer.TheVariants as answer
use Rattle.psd_base.specs.declared.act.Side.TheVariants.{Km, Ua}
use Rattle.control_pipe.specs.Control.{address_after, is_configured_after, is_halted_after}
use Rattle.control_pipe.specs.declared.reaction.Effect.{Effect}
use Rattle.control_pipe.specs.declared.reaction.Effect.TheVariants as effect
use Rattle.input_latch.specs.KeyHistory as keys
use Rattle.emulated_keyboard.specs.KeyboardHistory as keyboard
use Rattle.emulated_keyboard.specs.declared.given.Given as key_given
use Rattle.emulated_keyboard.specs.declared.given.Given.TheVariants as key_case
use Rattle.emulated_mouse.specs.Delivery as moved
use Rattle.emulated_mouse.specs.MouseHistory as mouse
use Rattle.emulated_mouse.specs.declared.given.Given as pointer_given
use Rattle.emulated_mouse.specs.declared.given.Given.TheVariants as pointer_case
use Rattle.emulated_mouse.specs.declared.report.Report.{Report}
use Rattle.port_model.specs.Concerns.{Concern, Own, Wakes, Darkens, Selects, Leaves, Keys, Pointer, Token, Item, item, is_live}
use Rattle.port_model.specs.OnePort.{parts_of, key_sides, pointer_sides, poll_answer, km_answer, answer_to}
use Rattle.port_model.specs.Polled.{key_answer, key_report_selected, key_report_apart, pointer_answer, pointer_report_selected, pointer_report_apart}
use Rattle.km_port.specs.Reading.{Seen, Chosen, Left, Reader, is_selected, effect_of, with_act, with_effect, acknowledged, seen}
use Rattle.port_model.specs.declared.polled.Polled.TheVariants.{Nothing, Halted, Keyboard, Mouse}

-- the cases in which an emulation answers NAK
key_nak : (given : key_given.Given) (toggle : Bool) (shown : List Bool) → keyboard.answer_of given toggle shown ≡ answer.Nak → given ≡ key_case.Nothing
key_nak key_case.Again toggle shown is = absurd (cc)
key_nak key_case.Due toggle shown is = absurd (cc)
key_nak (key_case.Next change) toggle shown is = absurd (cc)
key_nak key_case.Repeated toggle shown is = absurd (cc)
key_nak key_case.Nothing toggle shown is = refl

pointer_nak : (given : pointer_given.Given) (toggle : Bool) (shown : Report) → mouse.answer_of given toggle shown ≡ answer.Nak → given ≡ pointer_case.Nothing
pointer_nak pointer_case.Again toggle shown is = absurd (cc)
pointer_nak pointer_case.Due toggle shown is = absurd (cc)
pointer_nak pointer_case.Rest toggle shown is = absurd (cc)
pointer_nak (pointer_case.Next change) toggle shown is = absurd (cc)
pointer_nak pointer_case.Nothing toggle shown is = refl

-- a poll that is answered NAK is answered so by the keyboard, or by the mouse
module _ (past : List Item) (tick address : ℕ) (acked : Bool) where
  keys_polled : (live there halted : Bool)
      → (if live then poll_answer tick (if there then (if halted then Halted else Keyboard acked) else Nothing) (parts_of past) else answer.Silent) ≡ answer.Nak
      → (live ≡ true) × (key_answer tick acked (key_sides past) ≡ answer.Nak)
  keys_polled true true false is = (refl, is)
  keys_polled true true true is = absurd (cc)
  keys_polled true false halted is = absurd (cc)
  keys_polled false there halted is = absurd (cc)

  pub key_poll : answer_to past tick Km (act.In address 1 acked) ≡ answer.Nak
      → (is_live past ≡ true) × (key_answer tick acked (key_sides past) ≡ answer.Nak)
  key_poll is =
      keys_polled (is_live past) (address == address_after (parts_of past).control && is_configured_after (parts_of past).control)
      (is_halted_after 1 (parts_of past).control) is

  pointer_polled : (live there halted : Bool)
      → (if live then poll_answer tick (if there then (if halted then Halted else Mouse acked) else Nothing) (parts_of past) else answer.Silent) ≡ answer.Nak
      → (live ≡ true) × (pointer_answer acked (pointer_sides past) ≡ answer.Nak)
  pointer_polled true true false is = (refl, is)
  pointer_polled true true true is = absurd (cc)
  pointer_polled true false halted is = absurd (cc)
  pointer_polled false there halted is = absurd (cc)

  pub pointer_poll : answer_to past tick Km (act.In address 2 acked) ≡ answer.Nak
      → (is_live past ≡ true) × (pointer_answer acked (pointer_sides past) ≡ answer.Nak)
  pointer_poll is =
      pointer_polled (is_live past) (address == address_after (parts_of past).control && is_configured_after (parts_of past).control)
      (is_halted_after 2 (parts_of past).control) is

  -- and there it has nothing to answer
  pub keys_nothing : keyboard.is_entered (key_sides past).keyboard ≡ true → key_answer tick acked (key_sides past) ≡ answer.Nak
      → keyboard.given_at (keys.next_change (key_sides past).latch) tick (key_sides past).keyboard ≡ key_case.Nothing
  keys_nothing entered is =
      let selected : key_report_selected tick acked (key_sides past) ≡ answer.Nak =
      sym (ap (λ (b : Bool). if b then key_report_selected tick acked (key_sides past) else key_report_apart acked (key_sides past)) entered) ∙ is
      in
      key_nak (keyboard.given_at (keys.next_change (key_sides past).latch) tick (key_sides past).keyboard) _ _ selected

  pub keys_nothing_apart : keyboard.is_entered (key_sides past).keyboard ≡ false → key_answer tick acked (key_sides past) ≡ answer.Nak
      → keyboard.given_apart (key_sides past).keyboard ≡ key_case.Nothing
  keys_nothing_apart apart is =
      let left : key_report_apart acked (key_sides past) ≡ answer.Nak =
      sym (ap (λ (b : Bool). if b then key_report_selected tick acked (key_sides past) else key_report_apart acked (key_sides past)) apart) ∙ is
      in
      key_nak (keyboard.given_apart (key_sides past).keyboard) _ _ left

  pub pointer_nothing : mouse.is_entered (pointer_sides past).mouse ≡ true → pointer_answer acked (pointer_sides past) ≡ answer.Nak
      → moved.given_by (pointer_sides past) ≡ pointer_case.Nothing
  pointer_nothing entered is =
      let selected : pointer_report_selected acked (pointer_sides past) ≡ answer.Nak =
      sym (ap (λ (b : Bool). if b then pointer_report_selected acked (pointer_sides past) else pointer_report_apart acked (pointer_sides past)) entered) ∙ is
      in
      pointer_nak (moved.given_by (pointer_sides past)) (mouse.toggle_of (pointer_sides past).mouse)
      (mouse.last_made (mouse.Polled (moved.given_by (pointer_sides past)) acked ∷ (pointer_sides past).mouse)) selected

  pub pointer_nothing_apart : mouse.is_entered (pointer_sides past).mouse ≡ false → pointer_answer acked (pointer_sides past) ≡ answer.Nak
      → mouse.given_apart (pointer_sides past).mouse ≡ pointer_case.Nothing
  pointer_nothing_apart apart is =
      let left : pointer_report_apart acked (pointer_sides past) ≡ answer.Nak =
      sym (ap (λ (b : Bool). if b then pointer_report_selected acked (pointer_sides past) else pointer_report_apart acked (pointer_sides past)) apart) ∙ is
      in
      pointer_nak (mouse.given_apart (pointer_sides past).mouse) (mouse.toggle_of (pointer_sides past).mouse)
      (mouse.last_made (mouse.PolledApart (mouse.given_apart (pointer_sides past).mouse) acked ∷ (pointer_sides past).mouse)) left

-- while the switch is dark nothing is read
module _ {R : Type 0} (reader : Reader R) where
  silent_act : (own : Act) (looked : List (Seen R)) → with_act reader own answer.Silent looked ≡ looked
  silent_act act.Reset looked = refl
  silent_act (act.Setup address setup) looked = refl
  silent_act (act.Out address endpoint toggle bytes) looked = refl
  silent_act (act.In address endpoint acked) looked = by (nat_eq endpoint reader.endpoint) where
    by : (b : Bool) → (if b then looked else looked) ≡ looked
    by true = refl
    by false = refl

  none_by_effect : (told : Effect) (selected : Bool) (looked : List (Seen R)) → acknowledged looked ≡ [] → acknowledged (with_effect told selected looked) ≡ []
  none_by_effect effect.Nothing selected looked none = none
  none_by_effect effect.Reset true looked none = refl
  none_by_effect effect.Reset false looked none = none
  none_by_effect effect.Configured true looked none = refl
  none_by_effect effect.Configured false looked none = none
  none_by_effect (effect.Restart endpoint) selected looked none = none

  none_by_selection : (selected : Bool) (looked : List (Seen R)) → acknowledged looked ≡ [] → acknowledged (if selected then looked else Chosen ∷ looked) ≡ []
  none_by_selection true looked none = none
  none_by_selection false looked none = refl

  none_by_leaving : (selected : Bool) (looked : List (Seen R)) → acknowledged looked ≡ [] → acknowledged (if selected then Left ∷ looked else looked) ≡ []
  none_by_leaving true looked none = refl
  none_by_leaving false looked none = none

  pub none_in_dark : (past : List Item) → is_live past ≡ false → acknowledged (seen reader past) ≡ []
  none_in_dark [] dark = refl
  none_in_dark (entry ∷ past) dark = by entry.concern dark (none_in_dark past) where
    by : (concern : Concern) → is_live (item entry.tick concern ∷ past) ≡ false → (is_live past ≡ false → acknowledged (seen reader past) ≡ [])
        → acknowledged (seen reader (item entry.tick concern ∷ past)) ≡ []
    by (Own Km own) dark before =
        subst
        (λ (b : Bool).
        acknowledged (with_effect (effect_of past own) (is_selected past) (with_act reader own (if b then km_answer entry.tick own (parts_of past) else answer.Silent) (seen reader past))) ≡ [])
        (sym dark)
        (none_by_effect (effect_of past own) (is_selected past) (with_act reader own answer.Silent (seen reader past))
        (ap (λ (looked : List (Seen R)). acknowledged looked) (silent_act own (seen reader past)) ∙ before dark))
    by (Own Ua own) dark before = before dark
    by Wakes dark before = absurd (false≢true (sym dark))
    by Darkens dark before = refl
    by Selects dark before = none_by_selection (is_selected past) (seen reader past) (before dark)
    by Leaves dark before = none_by_leaving (is_selected past) (seen reader past) (before dark)
    by (Keys shown) dark before = before dark
    by (Pointer sample) dark before = before dark
    by (Token news) dark before = before dark
