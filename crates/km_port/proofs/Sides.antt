-- What an act at the control endpoint leaves of what the keyboard, the mouse and the latches were told.
use Rattle.std.proofs.Common.{◌≡◌, ℕ, Bool, true, false, nat_eq, List, ◌∷◌, Option, Some, None, refl, ap, ◌∙◌, cond}
use Rattle.psd_base.specs.declared.act.Act.{Act}
use Rattle.psd_base.specs.declared.act.Act.TheVariants as act
use Rattle.psd_base.specs.declared.setup.Setup.{Setup}
use Rattle.control_pipe.specs.Control.{moment_of}
use Rattle.control_pipe.specs.HidRequests.{hid_request}
use Rattle.control_pipe.specs.Requests.{request_of, function_for}
use Rattle.control_pipe.specs.Transfer.{Transfer, received}
use Rattle.control_pipe.specs.declared.hid_request.HidRequest.{HidRequest}
use Rattle.control_pipe.specs.declared.reaction.Effect.{Effect}
use Rattle.control_pipe.specs.declared.reaction.Effect.TheVariants as effect
use Rattle.emulated_keyboard.specs.ClassRequests.{with_request}
use Rattle.emulated_keyboard.specs.Delivery as typed
use Rattle.emulated_keyboard.specs.KeyboardHistory as keyboard
use Rattle.emulated_keyboard.specs.declared.keyboard.TheConstants as keyboard_constants
use Rattle.emulated_mouse.specs.Delivery as moved
use Rattle.emulated_mouse.specs.MouseHistory as mouse
use Rattle.emulated_mouse.specs.declared.mouse.TheConstants as mouse_constants
use Rattle.port_model.specs.Asked.{keys_with, pointer_with, keys_asked, pointer_asked}
use Rattle.km_port.specs.ConsoleStands.{keys_flushed, pointer_flushed}
use Rattle.km_port.specs.KmFunction.{with_mouse_request, keyboard_with_completed, mouse_with_completed}
use Rattle.port_model.specs.OnePort.{with_key_effect, with_pointer_effect}
use Rattle.km_port.specs.Told.{keyboard_told, mouse_told}
use Rattle.km_port.proofs.KmFunctionLaws.{written_or_kept}

-- what the keyboard is told of a completed request, and of a bus reset
pub keyboard-effect : (tick : ℕ) (told : Effect) (moments : List typed.Moment) → (typed.sides_of (with_key_effect tick told moments)).keyboard ≡ keyboard_told tick told (typed.sides_of moments).keyboard
unfolding typed.sides_of
keyboard-effect tick effect.Nothing moments = refl
keyboard-effect tick effect.Reset moments = by (keyboard.is_entered (typed.sides_of moments).keyboard) where
  by : (selected : Bool) → (typed.after (typed.BusReset tick) selected (typed.sides_of moments)).keyboard ≡ keyboard.Reset tick ∷ (typed.sides_of moments).keyboard
  by true = refl
  by false = refl
keyboard-effect tick effect.Configured moments = by (keyboard.is_entered (typed.sides_of moments).keyboard) where
  by : (selected : Bool) → (typed.after typed.SetUp selected (typed.sides_of moments)).keyboard ≡ keyboard.Configured ∷ (typed.sides_of moments).keyboard
  by true = refl
  by false = refl
keyboard-effect tick (effect.Restart endpoint) moments = by (nat_eq endpoint 1) where
  by : (own : Bool) → (typed.sides_of (cond own (typed.ToggleRestarted ∷ moments) moments)).keyboard ≡ cond own (keyboard.Restarted ∷ (typed.sides_of moments).keyboard) (typed.sides_of moments).keyboard
  by true = refl
  by false = refl

pub mouse-effect : (told : Effect) (moments : List moved.Moment) → (moved.sides_of (with_pointer_effect told moments)).mouse ≡ mouse_told told (moved.sides_of moments).mouse
unfolding moved.sides_of
mouse-effect effect.Nothing moments = refl
mouse-effect effect.Reset moments = by (mouse.is_entered (moved.sides_of moments).mouse) where
  by : (selected : Bool) → (moved.after moved.BusReset selected (moved.sides_of moments)).mouse ≡ mouse.Reset ∷ (moved.sides_of moments).mouse
  by true = refl
  by false = refl
mouse-effect effect.Configured moments = by (mouse.is_entered (moved.sides_of moments).mouse) where
  by : (selected : Bool) → (moved.after moved.SetUp selected (moved.sides_of moments)).mouse ≡ mouse.Configured ∷ (moved.sides_of moments).mouse
  by true = refl
  by false = refl
mouse-effect (effect.Restart endpoint) moments = by (nat_eq endpoint 2) where
  by : (own : Bool) → (moved.sides_of (cond own (moved.ToggleRestarted ∷ moments) moments)).mouse ≡ cond own (mouse.Restarted ∷ (moved.sides_of moments).mouse) (moved.sides_of moments).mouse
  by true = refl
  by false = refl

-- while the port is selected, the latches are flushed at a bus reset and where the device is configured
pub keys-effect : (tick : ℕ) (told : Effect) (moments : List typed.Moment) → keyboard.is_entered (typed.sides_of moments).keyboard ≡ true
    → (typed.sides_of (with_key_effect tick told moments)).latch ≡ keys_flushed told (typed.sides_of moments).latch
unfolding typed.sides_of
keys-effect tick effect.Nothing moments selected = refl
keys-effect tick effect.Reset moments selected = rw selected refl
keys-effect tick effect.Configured moments selected = rw selected refl
keys-effect tick (effect.Restart endpoint) moments selected = by (nat_eq endpoint 1) where
  by : (own : Bool) → (typed.sides_of (cond own (typed.ToggleRestarted ∷ moments) moments)).latch ≡ (typed.sides_of moments).latch
  by true = refl
  by false = refl

pub pointer-effect : (told : Effect) (moments : List moved.Moment) → mouse.is_entered (moved.sides_of moments).mouse ≡ true
    → (moved.sides_of (with_pointer_effect told moments)).latch ≡ pointer_flushed told (moved.sides_of moments).latch
unfolding moved.sides_of
pointer-effect effect.Nothing moments selected = refl
pointer-effect effect.Reset moments selected = rw selected refl
pointer-effect effect.Configured moments selected = rw selected refl
pointer-effect (effect.Restart endpoint) moments selected = by (nat_eq endpoint 2) where
  by : (own : Bool) → (moved.sides_of (cond own (moved.ToggleRestarted ∷ moments) moments)).latch ≡ (moved.sides_of moments).latch
  by true = refl
  by false = refl

-- a class request is told to its interface, and to no latch
keys_with-is : (found : Option HidRequest) (tick : ℕ) (bytes : List ℕ) (moments : List typed.Moment)
    → typed.sides_of (keys_with found tick bytes moments) ≡ typed.both (typed.sides_of moments).latch (with_request found tick bytes (typed.sides_of moments).keyboard)
unfolding typed.sides_of
keys_with-is None tick bytes moments = refl
keys_with-is (Some request) tick bytes moments = refl

pointer_with-is : (found : Option HidRequest) (moments : List moved.Moment)
    → moved.sides_of (pointer_with found moments) ≡ moved.both (moved.sides_of moments).latch (with_mouse_request found (moved.sides_of moments).mouse)
unfolding moved.sides_of
pointer_with-is None moments = refl
pointer_with-is (Some request) moments = refl

-- what a completed request makes of two things, where it makes the same of each
told_alike : {D E : Type 0} (f : D → E) (setup : Setup) (written kept : D) → f (function_for (request_of setup) written kept) ≡ function_for (request_of setup) (f written) (f kept)
told_alike {D} {E} f setup written kept = written_or_kept (λ (d : D) (e : E). f d ≡ e) setup written kept (f written) (f kept) refl refl

told_kept : {D : Type 0} (setup : Setup) (kept : D) → function_for (request_of setup) kept kept ≡ kept
told_kept {D} setup kept = written_or_kept (λ (d e : D). d ≡ kept) setup kept kept kept kept refl refl

pub keys_asked-keyboard : (tick : ℕ) (done : Option Transfer) (moments : List typed.Moment)
    → (typed.sides_of (keys_asked tick done moments)).keyboard ≡ keyboard_with_completed tick done (typed.sides_of moments).keyboard
keys_asked-keyboard tick None moments = refl
keys_asked-keyboard tick (Some transfer) moments =
    told_alike (λ (m : List typed.Moment). (typed.sides_of m).keyboard) transfer.setup _ moments
    ∙ ap (λ (s : typed.Sides). function_for (request_of transfer.setup) s.keyboard (typed.sides_of moments).keyboard) (keys_with-is _ tick (received transfer.acts) moments)

pub keys_asked-latch : (tick : ℕ) (done : Option Transfer) (moments : List typed.Moment)
    → (typed.sides_of (keys_asked tick done moments)).latch ≡ (typed.sides_of moments).latch
keys_asked-latch tick None moments = refl
keys_asked-latch tick (Some transfer) moments =
    told_alike (λ (m : List typed.Moment). (typed.sides_of m).latch) transfer.setup _ moments
    ∙ ap (λ (s : typed.Sides). function_for (request_of transfer.setup) s.latch (typed.sides_of moments).latch) (keys_with-is _ tick (received transfer.acts) moments)
    ∙ told_kept transfer.setup (typed.sides_of moments).latch

pub pointer_asked-mouse : (done : Option Transfer) (moments : List moved.Moment)
    → (moved.sides_of (pointer_asked done moments)).mouse ≡ mouse_with_completed done (moved.sides_of moments).mouse
pointer_asked-mouse None moments = refl
pointer_asked-mouse (Some transfer) moments =
    told_alike (λ (m : List moved.Moment). (moved.sides_of m).mouse) transfer.setup _ moments
    ∙ ap (λ (s : moved.Sides). function_for (request_of transfer.setup) s.mouse (moved.sides_of moments).mouse) (pointer_with-is _ moments)

pub pointer_asked-latch : (done : Option Transfer) (moments : List moved.Moment) → (moved.sides_of (pointer_asked done moments)).latch ≡ (moved.sides_of moments).latch
pointer_asked-latch None moments = refl
pointer_asked-latch (Some transfer) moments =
    told_alike (λ (m : List moved.Moment). (moved.sides_of m).latch) transfer.setup _ moments
    ∙ ap (λ (s : moved.Sides). function_for (request_of transfer.setup) s.latch (moved.sides_of moments).latch) (pointer_with-is _ moments)
    ∙ told_kept transfer.setup (moved.sides_of moments).latch

-- an act with what the function has for its setup is the same where the function has the same
pub moment_of-same : (descriptor first second : Setup → Option (List ℕ)) (takes : Setup → Bool) (a : Act) → ((setup : Setup) → first setup ≡ second setup)
    → moment_of descriptor first takes a ≡ moment_of descriptor second takes a
moment_of-same descriptor first second takes act.Reset same = refl
moment_of-same descriptor first second takes (act.Setup address setup) same = rw (same setup) refl
moment_of-same descriptor first second takes (act.Out address endpoint toggle bytes) same = refl
moment_of-same descriptor first second takes (act.In address endpoint acked) same = refl

-- a class request doesn't select
pub keys_asked-entered : (tick : ℕ) (done : Option Transfer) (moments : List typed.Moment)
    → keyboard.is_entered (typed.sides_of (keys_asked tick done moments)).keyboard ≡ keyboard.is_entered (typed.sides_of moments).keyboard
keys_asked-entered tick None moments = refl
keys_asked-entered tick (Some transfer) moments =
    told_alike (λ (m : List typed.Moment). keyboard.is_entered (typed.sides_of m).keyboard) transfer.setup _ moments
    ∙ ap (λ (s : typed.Sides). function_for (request_of transfer.setup) (keyboard.is_entered s.keyboard) (keyboard.is_entered (typed.sides_of moments).keyboard))
    (keys_with-is _ tick (received transfer.acts) moments)
    ∙ ap (λ (b : Bool). function_for (request_of transfer.setup) b (keyboard.is_entered (typed.sides_of moments).keyboard))
    (with_request-entered (hid_request keyboard_constants.INTERFACE transfer.setup) tick (received transfer.acts) (typed.sides_of moments).keyboard)
    ∙ told_kept transfer.setup (keyboard.is_entered (typed.sides_of moments).keyboard)
  where
    with_request-entered : (found : Option HidRequest) (tick : ℕ) (bytes : List ℕ) (past : List keyboard.KeyboardEntry)
        → keyboard.is_entered (with_request found tick bytes past) ≡ keyboard.is_entered past
    with_request-entered None tick bytes past = refl
    with_request-entered (Some request) tick bytes past = refl

pub pointer_asked-entered : (done : Option Transfer) (moments : List moved.Moment)
    → mouse.is_entered (moved.sides_of (pointer_asked done moments)).mouse ≡ mouse.is_entered (moved.sides_of moments).mouse
pointer_asked-entered None moments = refl
pointer_asked-entered (Some transfer) moments =
    told_alike (λ (m : List moved.Moment). mouse.is_entered (moved.sides_of m).mouse) transfer.setup _ moments
    ∙ ap (λ (s : moved.Sides). function_for (request_of transfer.setup) (mouse.is_entered s.mouse) (mouse.is_entered (moved.sides_of moments).mouse))
    (pointer_with-is _ moments)
    ∙ ap (λ (b : Bool). function_for (request_of transfer.setup) b (mouse.is_entered (moved.sides_of moments).mouse))
    (with_request-entered (hid_request mouse_constants.INTERFACE transfer.setup) (moved.sides_of moments).mouse)
    ∙ told_kept transfer.setup (mouse.is_entered (moved.sides_of moments).mouse)
  where
    with_request-entered : (found : Option HidRequest) (past : List mouse.MouseEntry)
        → mouse.is_entered (with_mouse_request found past) ≡ mouse.is_entered past
    with_request-entered None past = refl
    with_request-entered (Some request) past = refl
