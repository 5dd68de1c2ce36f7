-- Where the idle rate was 0 throughout the span of a view, it was so for the keyboard.
use Rattle.std.proofs.Common.{◌≡◌, ℕ, nat_eq, Bool, true, false, ◌&&◌, List, [], ◌∷◌, Option, Some, None, refl, sym, ap, ◌∙◌, subst, if◌then◌else◌}
use Rattle.std.specs.Prelude.{◌==◌}
use Rattle.std.proofs.lemmas.Bool.{false≢true, and_parts}
use Rattle.psd_base.specs.declared.act.Act.{Act}
use Rattle.psd_base.specs.declared.act.Side.TheVariants.{Km, Ua}
use Rattle.control_pipe.specs.Control.{control_effect, transfer_completed, is_control_act}
use Rattle.control_pipe.specs.HidRequests.{hid_request}
use Rattle.control_pipe.specs.Transfer.{Transfer, received}
use Rattle.control_pipe.specs.declared.hid_request.HidRequest.{HidRequest}
use Rattle.control_pipe.specs.declared.reaction.Effect.{Effect}
use Rattle.control_pipe.specs.declared.reaction.Effect.TheVariants as effect
use Rattle.emulated_keyboard.specs.Delivery as typed
use Rattle.emulated_keyboard.specs.HostReading as host
use Rattle.emulated_keyboard.specs.KeyboardHistory as history
use Rattle.emulated_keyboard.specs.KeyboardHistory.{KeyboardEntry, idle_rate}
use Rattle.emulated_keyboard.specs.declared.keyboard.TheConstants as keyboard_constants
use Rattle.port_model.specs.Asked.{keys_with, keys_asked}
use Rattle.port_model.specs.Concerns.{Concern, Own, Wakes, Darkens, Selects, Leaves, Keys, Pointer, Token, Item, item}
use Rattle.km_port.specs.Delivery.{begins_span, never_repeats}
use Rattle.port_model.specs.OnePort.{Parts, parts_of, km_act, key_sides, with_key_effect, with_control_act, with_poll, with_km_act}
use Rattle.port_model.specs.Polled.{polled_by}
use Rattle.km_port.specs.Reading.{is_selected}
use Rattle.km_port.specs.Told.{keyboard_told}
use Rattle.port_model.specs.declared.polled.Polled.{Polled}
use Rattle.port_model.specs.declared.polled.Polled.TheVariants.{Nothing, Halted, Keyboard, Mouse}
use Rattle.km_port.proofs.KmFunctionLaws.{written_or_kept}
use Rattle.km_port.proofs.Showing.{shown-keyboard}
use Rattle.km_port.proofs.Sides.{keyboard-effect, keys_asked-entered}

-- the keyboard of some moments: whether its rate was 0 throughout the span, and is now
abbrev never : List typed.Moment → Bool
never moments = host.never_repeats (typed.sides_of moments).keyboard

abbrev is_zero : List typed.Moment → Bool
is_zero moments = idle_rate (typed.sides_of moments).keyboard == 0

-- whether the rate was 0 throughout the span, where an act is told to the keyboard
abbrev held_at : Effect → List KeyboardEntry → Bool → Bool
held_at told past before = if begins_span told then (idle_rate past == 0) else before && (idle_rate past == 0)

both_hold : (a b : Bool) → a ≡ true → b ≡ true → (a && b) ≡ true
both_hold true b first second = second
both_hold false b first second = absurd (false≢true first)

-- a class request that is completed
never_asked : (tick : ℕ) (done : Option Transfer) (moments : List typed.Moment) → never moments ≡ true → is_zero (keys_asked tick done moments) ≡ true
    → never (keys_asked tick done moments) ≡ true
unfolding typed.sides_of
never_asked tick None moments before = λ zero_now. before
never_asked tick (Some transfer) moments before =
    written_or_kept (λ (m : List typed.Moment) (_ : List typed.Moment). is_zero m ≡ true → never m ≡ true)
    transfer.setup (keys_with (hid_request keyboard_constants.INTERFACE transfer.setup) tick (received transfer.acts) moments) moments moments moments
    (by (hid_request keyboard_constants.INTERFACE transfer.setup) (received transfer.acts)) (λ zero_now. before)
  where
    by : (found : Option HidRequest) (bytes : List ℕ) → is_zero (keys_with found tick bytes moments) ≡ true → never (keys_with found tick bytes moments) ≡ true
    by None bytes zero_now = before
    by (Some request) bytes zero_now = both_hold (never moments) (is_zero (typed.Asked tick request bytes ∷ moments)) before zero_now

-- an act at the port's own keyboard and mouse
module _ (tick : ℕ) (parts : Parts) where
  abbrev told_now : Act → Effect
  told_now own = control_effect parts.control (km_act parts own)

  abbrev asked_now : Act → List typed.Moment
  asked_now own = keys_asked tick (transfer_completed parts.control own) parts.keys

  -- what the keyboard is told of it
  module _ (moments : List typed.Moment) where
    told_never : (told : Effect) (before : Bool) → (before ≡ true → is_zero moments ≡ true → never moments ≡ true)
        → held_at told (keyboard_told tick told (typed.sides_of moments).keyboard) before ≡ true
        → host.never_repeats (keyboard_told tick told (typed.sides_of moments).keyboard) ≡ true
    told_never effect.Nothing before step holds =
        let parts = and_parts before (is_zero moments) holds in
        step parts.0 parts.1
    told_never effect.Reset before step holds = absurd (false≢true holds)
    told_never effect.Configured before step holds = holds
    told_never (effect.Restart endpoint) before step holds = by (nat_eq endpoint 1) holds where
      by : (own : Bool)
          → (before && (idle_rate (if own then history.Restarted ∷ (typed.sides_of moments).keyboard else (typed.sides_of moments).keyboard) == 0)) ≡ true
          → host.never_repeats (if own then history.Restarted ∷ (typed.sides_of moments).keyboard else (typed.sides_of moments).keyboard) ≡ true
      by true holds =
          let parts = and_parts before (is_zero moments) holds in
          step parts.0 parts.1
      by false holds =
          let parts = and_parts before (is_zero moments) holds in
          step parts.0 parts.1

    told_moments : (told : Effect) (before : Bool) → (before ≡ true → is_zero moments ≡ true → never moments ≡ true)
        → held_at told (typed.sides_of (with_key_effect tick told moments)).keyboard before ≡ true → never (with_key_effect tick told moments) ≡ true
    told_moments told before step =
        subst (λ (k : List KeyboardEntry). held_at told k before ≡ true → host.never_repeats k ≡ true) (sym (keyboard-effect tick told moments)) (told_never told before step)

  -- a poll
  polled_never : (polled : Polled) → never parts.keys ≡ true → never (with_poll tick polled parts).keys ≡ true
  unfolding typed.sides_of
  polled_never Nothing before = before
  polled_never Halted before = before
  polled_never (Keyboard acked) before = by (history.is_entered (typed.sides_of parts.keys).keyboard) where
    by : (b : Bool) → host.never_repeats (typed.after (typed.Read tick acked) b (typed.sides_of parts.keys)).keyboard ≡ true
    by true = before
    by false = before
  polled_never (Mouse acked) before = before

  acted_never : (own : Act) (before : Bool) → (before ≡ true → never parts.keys ≡ true)
      → held_at (if is_control_act own then told_now own else effect.Nothing) (typed.sides_of (with_km_act tick own parts).keys).keyboard before ≡ true
      → never (with_km_act tick own parts).keys ≡ true
  acted_never own before step = by (is_control_act own) where
    by : (control : Bool)
        → held_at (if control then told_now own else effect.Nothing)
        (typed.sides_of (if control then with_control_act tick own parts else with_poll tick (polled_by own parts.control) parts).keys).keyboard before ≡ true
        → never (if control then with_control_act tick own parts else with_poll tick (polled_by own parts.control) parts).keys ≡ true
    by true holds =
        told_moments (asked_now own) (told_now own) before
        (λ was zero_now. never_asked tick (transfer_completed parts.control own) parts.keys (step was) zero_now) holds
    by false holds = polled_never (polled_by own parts.control) (step (and_parts before _ holds).0)

-- whether the keyboard was told that its port is selected
told_entered : (tick : ℕ) (told : Effect) (past : List KeyboardEntry) → history.is_entered (keyboard_told tick told past) ≡ history.is_entered past
told_entered tick effect.Nothing past = refl
told_entered tick effect.Reset past = refl
told_entered tick effect.Configured past = refl
told_entered tick (effect.Restart endpoint) past = by (nat_eq endpoint 1) where
  by : (own : Bool) → history.is_entered (if own then history.Restarted ∷ past else past) ≡ history.is_entered past
  by true = refl
  by false = refl

polled_entered : (tick : ℕ) (polled : Polled) (parts : Parts) → history.is_entered (typed.sides_of (with_poll tick polled parts).keys).keyboard ≡ history.is_entered (typed.sides_of parts.keys).keyboard
unfolding typed.sides_of
polled_entered tick Nothing parts = refl
polled_entered tick Halted parts = refl
polled_entered tick (Keyboard acked) parts = by (history.is_entered (typed.sides_of parts.keys).keyboard) where
  by : (b : Bool) → history.is_entered (typed.after (typed.Read tick acked) b (typed.sides_of parts.keys)).keyboard ≡ history.is_entered (typed.sides_of parts.keys).keyboard
  by true = refl
  by false = refl
polled_entered tick (Mouse acked) parts = refl

entered_acted : (tick : ℕ) (parts : Parts) (own : Act) → history.is_entered (typed.sides_of (with_km_act tick own parts).keys).keyboard ≡ history.is_entered (typed.sides_of parts.keys).keyboard
entered_acted tick parts own = by (is_control_act own) where
  by : (control : Bool)
      → history.is_entered (typed.sides_of (if control then with_control_act tick own parts else with_poll tick (polled_by own parts.control) parts).keys).keyboard
      ≡ history.is_entered (typed.sides_of parts.keys).keyboard
  by true =
      ap (λ (k : List KeyboardEntry). history.is_entered k) (keyboard-effect tick (told_now tick parts own) (asked_now tick parts own))
      ∙ told_entered tick (told_now tick parts own) (typed.sides_of (asked_now tick parts own)).keyboard
      ∙ keys_asked-entered tick (transfer_completed parts.control own) parts.keys
  by false = polled_entered tick (polled_by own parts.control) parts

entered_is : (past : List Item) → history.is_entered (key_sides past).keyboard ≡ is_selected past
unfolding typed.sides_of
entered_is [] = refl
entered_is (entry ∷ past) = by entry.concern (entered_is past) where
  by : (concern : Concern) → history.is_entered (key_sides past).keyboard ≡ is_selected past
      → history.is_entered (key_sides (item entry.tick concern ∷ past)).keyboard ≡ is_selected (item entry.tick concern ∷ past)
  by (Own Km own) before = entered_acted entry.tick (parts_of past) own ∙ before
  by (Own Ua own) before = before
  by Wakes before = refl
  by Darkens before = refl
  by Selects before = selects (history.is_entered (key_sides past).keyboard) refl where
    selects : (b : Bool) → history.is_entered (key_sides past).keyboard ≡ b → history.is_entered (typed.after (typed.Selected entry.tick) b (key_sides past)).keyboard ≡ true
    selects true is = is
    selects false is = refl
  by Leaves before = leaves (history.is_entered (key_sides past).keyboard) refl where
    leaves : (b : Bool) → history.is_entered (key_sides past).keyboard ≡ b → history.is_entered (typed.after typed.Left b (key_sides past)).keyboard ≡ false
    leaves true is = refl
    leaves false is = is
  by (Keys shown) before = ap (λ (k : List KeyboardEntry). history.is_entered k) (shown-keyboard shown (parts_of past).keys) ∙ before
  by (Pointer sample) before = before
  by (Token news) before = before

pub never_repeats-told : (past : List Item) → never_repeats past ≡ true → host.never_repeats (key_sides past).keyboard ≡ true
unfolding typed.sides_of
never_repeats-told [] holds = absurd (false≢true holds)
never_repeats-told (entry ∷ past) holds = by entry.concern (never_repeats-told past) holds where
  by : (concern : Concern) → (never_repeats past ≡ true → host.never_repeats (key_sides past).keyboard ≡ true)
      → never_repeats (item entry.tick concern ∷ past) ≡ true
      → host.never_repeats (key_sides (item entry.tick concern ∷ past)).keyboard ≡ true
  by (Own Km own) before holds = acted_never entry.tick (parts_of past) own (never_repeats past) before holds
  by (Own Ua own) before holds = before holds
  by Wakes before holds = absurd (false≢true holds)
  by Darkens before holds = absurd (false≢true holds)
  by Selects before holds = selects (is_selected past) (history.is_entered (key_sides past).keyboard) (entered_is past) holds where
    selects : (selected entered : Bool) → entered ≡ selected
        → (if selected then never_repeats past else (idle_rate (typed.after (typed.Selected entry.tick) entered (key_sides past)).keyboard == 0)) ≡ true
        → host.never_repeats (typed.after (typed.Selected entry.tick) entered (key_sides past)).keyboard ≡ true
    selects true true is holds = before holds
    selects true false is holds = absurd (false≢true is)
    selects false true is holds = absurd (false≢true (sym is))
    selects false false is holds = holds
  by Leaves before holds = absurd (false≢true holds)
  by (Keys shown) before holds = subst (λ (k : List KeyboardEntry). host.never_repeats k ≡ true) (sym (shown-keyboard shown (parts_of past).keys)) (before holds)
  by (Pointer sample) before holds = before holds
  by (Token news) before holds = before holds
