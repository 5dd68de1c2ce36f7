-- What the reader of a mouse sees in a view of its port is what the mouse was told.
use Rattle.std.proofs.Common.{◌≡◌, ℕ, nat_eq, Bool, true, false, List, ◌∷◌, Option, Some, None, refl, sym, subst, arith, if◌then◌else◌}
use Rattle.std.proofs.lemmas.Bool.{false≢true}
use Rattle.std.proofs.lemmas.Bool.Decides.{nat_tests}
use Rattle.control_pipe.specs.Control.{control_effect, transfer_completed}
use Rattle.control_pipe.specs.HidRequests.{hid_request}
use Rattle.control_pipe.specs.Transfer.{Transfer}
use Rattle.control_pipe.specs.declared.hid_request.HidRequest.{HidRequest}
use Rattle.control_pipe.specs.declared.reaction.Effect.{Effect}
use Rattle.control_pipe.specs.declared.reaction.Effect.TheVariants as effect
use Rattle.input_latch.specs.PointerHistory.{next_change}
use Rattle.emulated_mouse.specs.Delivery as moved
use Rattle.emulated_mouse.specs.MouseHistory as history
use Rattle.emulated_mouse.specs.MouseHistory.{MouseEntry}
use Rattle.emulated_mouse.specs.declared.mouse.TheConstants as mouse_constants
use Rattle.emulated_mouse.specs.declared.report.Report.{Report}
use Rattle.port_model.specs.Asked.{pointer_with, pointer_asked}
use Rattle.port_model.specs.Concerns.{Item, is_live}
use Rattle.port_model.specs.OnePort.{Parts, km_act, pointer_sides, with_pointer_effect, with_poll, poll_answer}
use Rattle.port_model.specs.Polled.{pointer_answer, pointer_report_selected, pointer_report_apart}
use Rattle.km_port.specs.Reading.{Seen, Chosen, Left, mouse, is_selected, with_answer, with_effect, seen}
use Rattle.km_port.specs.Told.{mouse_told}
use Rattle.km_port.proofs.KmFunctionLaws.{written_or_kept}
use Rattle.km_port.proofs.PointerAgrees.{Agrees, answered, answered_apart, agrees-new, chosen, parted, restarted, dropped}
use Rattle.km_port.proofs.SeenViews.{polled_in, Keeps, holds_after}
use Rattle.km_port.proofs.Showing.{shown-mouse}
use Rattle.km_port.proofs.Sides.{mouse-effect}

-- what the reader sees, and the moments of the mouse
abbrev AgreesAt : Bool → List (Seen Report) → List moved.Moment → Type 0
AgreesAt selected looked moments = Agrees selected looked (moved.sides_of moments).mouse

module _ (selected : Bool) (looked : List (Seen Report)) (moments : List moved.Moment) (before : AgreesAt selected looked moments) where
  polled : (acked : Bool)
      → AgreesAt selected (with_answer mouse (pointer_answer acked (moved.sides_of moments)) acked looked) (moved.Read acked ∷ moments)
  unfolding moved.sides_of
  polled acked = by selected (history.is_entered (moved.sides_of moments).mouse) before.entered before where
    by : (selected entered : Bool) → entered ≡ selected → AgreesAt selected looked moments
        → Agrees selected
        (with_answer mouse (if entered then pointer_report_selected acked (moved.sides_of moments) else pointer_report_apart acked (moved.sides_of moments)) acked looked)
        (moved.after (moved.Read acked) entered (moved.sides_of moments)).mouse
    by true true is agrees = answered looked (moved.sides_of moments).mouse acked agrees (next_change (moved.sides_of moments).latch)
    by true false is agrees = absurd (false≢true is)
    by false true is agrees = absurd (false≢true (sym is))
    by false false is agrees = answered_apart looked (moved.sides_of moments).mouse acked agrees

  asked : (done : Option Transfer) → AgreesAt selected looked (pointer_asked done moments)
  unfolding moved.sides_of
  asked None = before
  asked (Some transfer) =
      written_or_kept (λ (m : List moved.Moment) (_ : List moved.Moment). AgreesAt selected looked m)
      transfer.setup (pointer_with (hid_request mouse_constants.INTERFACE transfer.setup) moments) moments moments moments
      (by (hid_request mouse_constants.INTERFACE transfer.setup)) before
    where
      by : (found : Option HidRequest) → AgreesAt selected looked (pointer_with found moments)
      by None = before
      by (Some request) = before

  -- a bus reset and a configuration come to the same
  flushed : (selected : Bool) → AgreesAt selected looked moments
      → Agrees selected (with_effect effect.Configured selected looked) (history.Configured ∷ (moved.sides_of moments).mouse)
  flushed true agrees = restarted looked (moved.sides_of moments).mouse agrees
  flushed false agrees = dropped looked (moved.sides_of moments).mouse agrees

  told_as : (told : Effect) → Agrees selected (with_effect told selected looked) (mouse_told told (moved.sides_of moments).mouse)
  told_as effect.Nothing = before
  told_as effect.Reset = flushed selected before
  told_as effect.Configured = flushed selected before
  told_as (effect.Restart endpoint) = by (nat_eq endpoint 2) where
    by : (own : Bool) → Agrees selected looked (if own then history.Restarted ∷ (moved.sides_of moments).mouse else (moved.sides_of moments).mouse)
    by true = before
    by false = before

  told_effect : (told : Effect) → AgreesAt selected (with_effect told selected looked) (with_pointer_effect told moments)
  told_effect told =
      subst (λ (k : List MouseEntry). Agrees selected (with_effect told selected looked) k) (sym (mouse-effect told moments)) (told_as told)

-- a selection and a deselection
module _ (looked : List (Seen Report)) (moments : List moved.Moment) where
  selects : (selected entered : Bool) → entered ≡ selected → AgreesAt selected looked moments
      → Agrees true (if selected then looked else Chosen ∷ looked) (moved.after moved.Selected entered (moved.sides_of moments)).mouse
  selects true true is before = before
  selects true false is before = absurd (false≢true is)
  selects false true is before = absurd (false≢true (sym is))
  selects false false is before = chosen looked (moved.sides_of moments).mouse before

  leaves : (selected entered : Bool) → entered ≡ selected → AgreesAt selected looked moments
      → Agrees false (if selected then Left ∷ looked else looked) (moved.after moved.Left entered (moved.sides_of moments)).mouse
  leaves true true is before = parted looked (moved.sides_of moments).mouse before
  leaves true false is before = absurd (false≢true is)
  leaves false true is before = absurd (false≢true (sym is))
  leaves false false is before = before

-- what the parts of a port were told
abbrev Holds : Bool → List (Seen Report) → Parts → Type 0
Holds selected looked parts = AgreesAt selected looked parts.pointer

looked_at : (parts : Parts) (selected : Bool) (looked : List (Seen Report)) (tick : ℕ) → Holds selected looked parts
    → (acked there one other_halted two halted : Bool) → (one ≡ true → two ≡ false)
    → let polled = polled_in acked there one other_halted two halted in
    Holds selected (if two then with_answer mouse (poll_answer tick polled parts) acked looked else looked) (with_poll tick polled parts)
looked_at parts selected looked tick before acked false one other_halted true halted apart = before
looked_at parts selected looked tick before acked false one other_halted false halted apart = before
looked_at parts selected looked tick before acked true true other_halted true halted apart = absurd (false≢true (sym (apart refl)))
looked_at parts selected looked tick before acked true true true false halted apart = before
looked_at parts selected looked tick before acked true true false false halted apart = before
looked_at parts selected looked tick before acked true false other_halted true true apart = before
looked_at parts selected looked tick before acked true false other_halted true false apart = polled selected looked parts.pointer before acked
looked_at parts selected looked tick before acked true false other_halted false halted apart = before

kept : Keeps mouse Holds
unfolding moved.sides_of
kept = record {
  new = agrees-new;
  controlled = λ parts selected looked tick own before.
      told_effect selected looked (pointer_asked (transfer_completed parts.control own) parts.pointer)
      (asked selected looked parts.pointer before (transfer_completed parts.control own)) (control_effect parts.control (km_act parts own));
  polled = λ parts selected looked tick endpoint acked there other_halted halted before.
      looked_at parts selected looked tick before acked there (nat_eq endpoint 1) other_halted (nat_eq endpoint 2) halted (λ one. grind (arith, nat_tests));
  other_endpoint = λ endpoint is. grind (arith, nat_tests);
  selects = λ parts selected looked tick before. selects looked parts.pointer selected (history.is_entered (moved.sides_of parts.pointer).mouse) before.entered before;
  leaves = λ parts selected looked tick before. leaves looked parts.pointer selected (history.is_entered (moved.sides_of parts.pointer).mouse) before.entered before;
  keys = λ parts selected looked tick shown before. before;
  pointer = λ parts selected looked tick sample before. subst (λ (k : List MouseEntry). Agrees selected looked k) (sym (shown-mouse sample parts.pointer)) before;
}

-- while the switch is alive, the reader sees what the mouse was told
pub pointer_agrees : (past : List Item) → is_live past ≡ true → Agrees (is_selected past) (seen mouse past) (pointer_sides past).mouse
pointer_agrees past live = holds_after mouse Holds kept past live
