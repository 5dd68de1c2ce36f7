-- What the reader of a keyboard sees in a view of its port is what the keyboard was told.
use Rattle.std.proofs.Common.{◌≡◌, ℕ, nat_eq, Bool, true, false, List, ◌∷◌, Option, Some, None, refl, sym, subst, arith, if◌then◌else◌}
use Rattle.std.proofs.lemmas.Bool.{false≢true}
use Rattle.std.proofs.lemmas.Bool.Decides.{nat_tests}
use Rattle.control_pipe.specs.Control.{control_effect, transfer_completed}
use Rattle.control_pipe.specs.HidRequests.{hid_request}
use Rattle.control_pipe.specs.Transfer.{Transfer, received}
use Rattle.control_pipe.specs.declared.hid_request.HidRequest.{HidRequest}
use Rattle.control_pipe.specs.declared.reaction.Effect.{Effect}
use Rattle.control_pipe.specs.declared.reaction.Effect.TheVariants as effect
use Rattle.input_latch.specs.KeyHistory.{next_change}
use Rattle.emulated_keyboard.specs.Delivery as typed
use Rattle.emulated_keyboard.specs.KeyboardHistory as history
use Rattle.emulated_keyboard.specs.KeyboardHistory.{KeyboardEntry}
use Rattle.emulated_keyboard.specs.declared.keyboard.TheConstants as keyboard_constants
use Rattle.port_model.specs.Asked.{keys_with, keys_asked}
use Rattle.port_model.specs.Concerns.{Item, is_live}
use Rattle.port_model.specs.OnePort.{Parts, km_act, key_sides, with_key_effect, with_poll, poll_answer}
use Rattle.port_model.specs.Polled.{key_answer, key_report_selected, key_report_apart}
use Rattle.km_port.specs.Reading.{Seen, Chosen, Left, keyboard, is_selected, with_answer, with_effect, seen}
use Rattle.km_port.specs.Told.{keyboard_told}
use Rattle.km_port.proofs.KeyAgrees.{Agrees, answered, answered_apart, agrees-new, chosen, parted, restarted, dropped}
use Rattle.km_port.proofs.KeyReadable.{IsReadable, readable-made}
use Rattle.km_port.proofs.KmFunctionLaws.{written_or_kept}
use Rattle.km_port.proofs.SeenViews.{polled_in, Keeps, holds_after}
use Rattle.km_port.proofs.Showing.{shown-keyboard}
use Rattle.km_port.proofs.Sides.{keyboard-effect}

-- what the reader sees, and the moments of the keyboard
abbrev AgreesAt : Bool → List (Seen (List Bool)) → List typed.Moment → Type 0
AgreesAt selected looked moments = Agrees selected looked (typed.sides_of moments).keyboard

module _ (selected : Bool) (looked : List (Seen (List Bool))) (moments : List typed.Moment) (before : AgreesAt selected looked moments) where
  polled : (tick : ℕ) (acked : Bool)
      → AgreesAt selected (with_answer keyboard (key_answer tick acked (typed.sides_of moments)) acked looked) (typed.Read tick acked ∷ moments)
  unfolding typed.sides_of
  polled tick acked = by selected (history.is_entered (typed.sides_of moments).keyboard) before.entered before (readable-made (typed.Read tick acked ∷ moments)) where
    by : (selected entered : Bool) → entered ≡ selected → AgreesAt selected looked moments
        → IsReadable (history.last_made (typed.after (typed.Read tick acked) entered (typed.sides_of moments)).keyboard)
        → Agrees selected
        (with_answer keyboard (if entered then key_report_selected tick acked (typed.sides_of moments) else key_report_apart acked (typed.sides_of moments)) acked looked)
        (typed.after (typed.Read tick acked) entered (typed.sides_of moments)).keyboard
    by true true is agrees readable =
        answered looked (typed.sides_of moments).keyboard agrees tick acked (next_change (typed.sides_of moments).latch)
        (history.is_unread (typed.sides_of moments).keyboard) (history.is_due (typed.sides_of moments).keyboard) refl refl readable
    by true false is agrees readable = absurd (false≢true is)
    by false true is agrees readable = absurd (false≢true (sym is))
    by false false is agrees readable =
        answered_apart looked (typed.sides_of moments).keyboard agrees acked
        (history.is_unread (typed.sides_of moments).keyboard) (history.is_due (typed.sides_of moments).keyboard) refl refl readable

  asked : (tick : ℕ) (done : Option Transfer) → AgreesAt selected looked (keys_asked tick done moments)
  unfolding typed.sides_of
  asked tick None = before
  asked tick (Some transfer) =
      written_or_kept (λ (m : List typed.Moment) (_ : List typed.Moment). AgreesAt selected looked m)
      transfer.setup (keys_with (hid_request keyboard_constants.INTERFACE transfer.setup) tick (received transfer.acts) moments) moments moments moments
      (by (hid_request keyboard_constants.INTERFACE transfer.setup) (received transfer.acts)) before
    where
      by : (found : Option HidRequest) (bytes : List ℕ) → AgreesAt selected looked (keys_with found tick bytes moments)
      by None bytes = before
      by (Some request) bytes = before

  -- a bus reset and a configuration come to the same
  flushed : (selected : Bool) → AgreesAt selected looked moments
      → Agrees selected (with_effect effect.Configured selected looked) (history.Configured ∷ (typed.sides_of moments).keyboard)
  flushed true agrees = restarted looked (typed.sides_of moments).keyboard agrees
  flushed false agrees = dropped looked (typed.sides_of moments).keyboard agrees

  told_as : (tick : ℕ) (told : Effect) → Agrees selected (with_effect told selected looked) (keyboard_told tick told (typed.sides_of moments).keyboard)
  told_as tick effect.Nothing = before
  told_as tick effect.Reset = flushed selected before
  told_as tick effect.Configured = flushed selected before
  told_as tick (effect.Restart endpoint) = by (nat_eq endpoint 1) where
    by : (own : Bool) → Agrees selected looked (if own then history.Restarted ∷ (typed.sides_of moments).keyboard else (typed.sides_of moments).keyboard)
    by true = before
    by false = before

  told_effect : (tick : ℕ) (told : Effect) → AgreesAt selected (with_effect told selected looked) (with_key_effect tick told moments)
  told_effect tick told =
      subst (λ (k : List KeyboardEntry). Agrees selected (with_effect told selected looked) k) (sym (keyboard-effect tick told moments)) (told_as tick told)

-- a selection and a deselection
module _ (looked : List (Seen (List Bool))) (moments : List typed.Moment) where
  selects : (tick : ℕ) (selected entered : Bool) → entered ≡ selected → AgreesAt selected looked moments
      → Agrees true (if selected then looked else Chosen ∷ looked) (typed.after (typed.Selected tick) entered (typed.sides_of moments)).keyboard
  selects tick true true is before = before
  selects tick true false is before = absurd (false≢true is)
  selects tick false true is before = absurd (false≢true (sym is))
  selects tick false false is before = chosen looked (typed.sides_of moments).keyboard tick before

  leaves : (selected entered : Bool) → entered ≡ selected → AgreesAt selected looked moments
      → Agrees false (if selected then Left ∷ looked else looked) (typed.after typed.Left entered (typed.sides_of moments)).keyboard
  leaves true true is before = parted looked (typed.sides_of moments).keyboard before
  leaves true false is before = absurd (false≢true is)
  leaves false true is before = absurd (false≢true (sym is))
  leaves false false is before = before

-- what the parts of a port were told
abbrev Holds : Bool → List (Seen (List Bool)) → Parts → Type 0
Holds selected looked parts = AgreesAt selected looked parts.keys

looked_at : (parts : Parts) (selected : Bool) (looked : List (Seen (List Bool))) (tick : ℕ) → Holds selected looked parts
    → (acked there one halted two other_halted : Bool)
    → let polled = polled_in acked there one halted two other_halted in
    Holds selected (if one then with_answer keyboard (poll_answer tick polled parts) acked looked else looked) (with_poll tick polled parts)
looked_at parts selected looked tick before acked false true halted two other_halted = before
looked_at parts selected looked tick before acked false false halted two other_halted = before
looked_at parts selected looked tick before acked true true true two other_halted = before
looked_at parts selected looked tick before acked true true false two other_halted = polled selected looked parts.keys before tick acked
looked_at parts selected looked tick before acked true false halted true true = before
looked_at parts selected looked tick before acked true false halted true false = before
looked_at parts selected looked tick before acked true false halted false other_halted = before

kept : Keeps keyboard Holds
unfolding typed.sides_of
kept = record {
  new = agrees-new;
  controlled = λ parts selected looked tick own before.
      told_effect selected looked (keys_asked tick (transfer_completed parts.control own) parts.keys)
      (asked selected looked parts.keys before tick (transfer_completed parts.control own)) tick (control_effect parts.control (km_act parts own));
  polled = λ parts selected looked tick endpoint acked there halted other_halted before.
      looked_at parts selected looked tick before acked there (nat_eq endpoint 1) halted (nat_eq endpoint 2) other_halted;
  other_endpoint = λ endpoint is. grind (arith, nat_tests);
  selects = λ parts selected looked tick before.
      selects looked parts.keys tick selected (history.is_entered (typed.sides_of parts.keys).keyboard) before.entered before;
  leaves = λ parts selected looked tick before. leaves looked parts.keys selected (history.is_entered (typed.sides_of parts.keys).keyboard) before.entered before;
  keys = λ parts selected looked tick shown before. subst (λ (k : List KeyboardEntry). Agrees selected looked k) (sym (shown-keyboard shown parts.keys)) before;
  pointer = λ parts selected looked tick sample before. before;
}

-- while the switch is alive, the reader sees what the keyboard was told
pub keys_agree : (past : List Item) → is_live past ≡ true → Agrees (is_selected past) (seen keyboard past) (key_sides past).keyboard
keys_agree past live = holds_after keyboard Holds kept past live
