-- What the keyboard and the mouse of a connector stand for after a class request, and after an act at
-- endpoint 0.
use Rattle.std.proofs.Common.{◌≡◌, ℕ, List, [], ◌∷◌, Option, Some, None, refl, ap, ◌∙◌}
use Rattle.std.specs.Prelude.{◌==◌, option_map, slice_range}
use Rattle.std.proofs.lemmas.Bool.{cond_both}
use Rattle.psd_base.specs.declared.act.Act.{Act}
use Rattle.psd_base.specs.declared.packet.TheConstants.{PACKET_SIZE}
use Rattle.psd_base.specs.declared.setup.Setup.{Setup}
use Rattle.control_pipe.specs.declared.codes.TheConstants.{FROM_DEVICE, FROM_INTERFACE, CLASS_TO_INTERFACE, CLASS_FROM_INTERFACE, GET_DESCRIPTOR, GET_IDLE, SET_IDLE, REPORT_DESCRIPTOR}
use Rattle.control_pipe.specs.declared.hid_request.HidRequest.{HidRequest}
use Rattle.control_pipe.specs.declared.hid_request.HidRequest.TheVariants.{SetIdle}
use Rattle.control_pipe.specs.declared.hid_settings.HidSettings.{HidSettings}
use Rattle.control_pipe.specs.Control.{ControlAct, transfer_completed, function_of_completed, control_function}
use Rattle.control_pipe.specs.HidRequests.{hid_request}
use Rattle.control_pipe.specs.HidSettings.{settings_after}
use Rattle.control_pipe.specs.Requests.{is_request, request_of, function_for, standard_of}
use Rattle.control_pipe.specs.Transfer.{Transfer, received}
use Rattle.emulated_keyboard.proofs.RequestLaws as keyboard
use Rattle.emulated_keyboard.specs.ClassRequests.{with_class_request, after_request}
use Rattle.emulated_keyboard.specs.KeyboardHistory.{KeyboardEntry}
use Rattle.emulated_keyboard.specs.KeyboardStands.{KeyboardStands}
use Rattle.emulated_keyboard.specs.declared.descriptors.TheConstants.{KEYBOARD_HID}
use Rattle.emulated_keyboard.specs.declared.keyboard.TheConstants.{INTERFACE as KEYBOARD_INTERFACE}
use Rattle.emulated_mouse.specs.ClassRequests as mouse
use Rattle.emulated_mouse.specs.MouseHistory.{MouseEntry, Requested, last_made, request_answer}
use Rattle.emulated_mouse.specs.MouseStands.{MouseValue, MouseStands}
use Rattle.emulated_mouse.specs.MouseSteps.{requested_step}
use Rattle.emulated_mouse.specs.declared.descriptors.TheConstants.{MOUSE_HID, MOUSE_REPORT}
use Rattle.emulated_mouse.specs.declared.mouse.TheConstants.{INTERFACE as MOUSE_INTERFACE}
use Rattle.emulated_mouse.specs.declared.report.Report.{Report}
use Rattle.port_model.specs.declared.descriptors.TheConstants.{CONFIGURATION}
use Rattle.port_model.specs.Descriptors.{device_descriptor, km_descriptor}
use Rattle.emulated_keyboard.specs.Descriptors.{keyboard_descriptor}
use Rattle.emulated_mouse.specs.Descriptors.{mouse_descriptor}
use Rattle.km_port.specs.declared.km_function.KmFunction.{KmFunction}
use Rattle.km_port.specs.KmFunction.{class_answer, after_class_request, with_mouse_request, with_mouse_class_request, keyboard_with_completed, mouse_with_completed}
use Rattle.port_model.specs.ClassRequests.{mouse_read_for, mouse_answer_after, class_answer_after}

-- the HID descriptors of the configuration are those that the interfaces answer
keyboard_hid-is : slice_range CONFIGURATION 18 27 ≡ KEYBOARD_HID
keyboard_hid-is = refl

mouse_hid-is : slice_range CONFIGURATION 43 52 ≡ MOUSE_HID
mouse_hid-is = refl

-- a mouse stands for its calls with a completed class request after them
mouse_requested : (mouse : MouseValue) (pointer : List MouseEntry) (request : HidRequest)
    → MouseStands mouse pointer → MouseStands (requested_step request mouse) (Requested request ∷ pointer)
mouse_requested mouse pointer request stands = record {
  last = stands.last;
  rest = stands.rest;
  unread = stands.unread;
  left = stands.left;
  toggle = stands.toggle;
  set = ap (λ (s : HidSettings). settings_after request s) stands.set;
  entered = stands.entered;
  one_each = stands.one_each;
  shows = stands.shows;
  fresh = stands.fresh;
  apart = stands.apart;
}

-- the same for a setup, which is a request of the mouse or none
module _ (value : MouseValue) (pointer : List MouseEntry) (stands : MouseStands value pointer)
    (setup : Setup) where
  mouse_after_class :
      MouseStands (mouse.after_class_request value setup) (with_mouse_class_request setup pointer)
  mouse_after_class = by (hid_request MOUSE_INTERFACE setup) where
    by : (found : Option HidRequest)
        → MouseStands (mouse.after_request found value) (with_mouse_request found pointer)
    by None = stands
    by (Some request) = mouse_requested value pointer request stands

  mouse_answer-is : mouse.class_answer value setup ≡ mouse_answer_after pointer setup
  mouse_answer-is = by (hid_request MOUSE_INTERFACE setup) where
    by : (found : Option HidRequest) → mouse.answer_for found value ≡ mouse_read_for found pointer
    by None = refl
    by (Some request) =
        ap (λ (last : Report). request_answer request last value.settings) stands.last
        ∙ ap (λ (set : HidSettings). request_answer request (last_made pointer) set) stands.set

-- whether the port is selected isn't changed by a class request
pub keyboard_entered-kept : (value : KmFunction) (tick : ℕ) (setup : Setup) (bytes : List ℕ)
    → (after_class_request value tick setup bytes).keyboard.entered ≡ value.keyboard.entered
keyboard_entered-kept value tick setup bytes = by (hid_request KEYBOARD_INTERFACE setup) where
  by : (found : Option HidRequest)
      → (after_request found tick bytes value.keyboard).entered ≡ value.keyboard.entered
  by None = refl
  by (Some request) = refl

pub mouse_entered-kept : (value : KmFunction) (tick : ℕ) (setup : Setup) (bytes : List ℕ)
    → (after_class_request value tick setup bytes).mouse.entered ≡ value.mouse.entered
mouse_entered-kept value tick setup bytes = by (hid_request MOUSE_INTERFACE setup) where
  by : (found : Option HidRequest) → (mouse.after_request found value.mouse).entered ≡ value.mouse.entered
  by None = refl
  by (Some request) = refl

-- what the function answers, and what it stands for after a class request
module _ (value : KmFunction) (keys : List KeyboardEntry) (pointer : List MouseEntry)
    (typed : KeyboardStands value.keyboard keys) (pointed : MouseStands value.mouse pointer)
    (setup : Setup) where
  pub class_answer-is : class_answer value setup ≡ class_answer_after keys pointer setup
  class_answer-is =
      rw (
        keyboard.class_answer-is value.keyboard keys typed setup,
        mouse_answer-is value.mouse pointer pointed setup,
      ) refl

  pub keyboard_after_class : (tick : ℕ) (bytes : List ℕ)
      → KeyboardStands (after_class_request value tick setup bytes).keyboard
      (with_class_request tick setup bytes keys)
  keyboard_after_class tick bytes = keyboard.stands_after_class value.keyboard keys typed setup tick bytes

  pub mouse_stands_after_class : (tick : ℕ) (bytes : List ℕ)
      → MouseStands (after_class_request value tick setup bytes).mouse
      (with_mouse_class_request setup pointer)
  mouse_stands_after_class tick bytes = mouse_after_class value.mouse pointer pointed setup

by_option : {R S : Type 0} (name : S → R) (found : Option S) (P : Option R → Type 0)
    → P None → ((s : S) → P (Some (name s))) → P (option_map name found)
by_option name None P if_none if_some = if_none
by_option name (Some s) P if_none if_some = if_some s

-- A completed request makes of two things what a class request that writes makes of both, or leaves both.
module _ {D E : Type 0} (P : D → E → Type 0) (setup : Setup) (written kept : D) (with without : E) where
  pub written_or_kept : P written with → P kept without
      → P (function_for (request_of setup) written kept) (function_for (request_of setup) with without)
  written_or_kept if_written if_kept =
      cond_both (setup.kind == CLASS_FROM_INTERFACE) _ _
      (λ named. P (function_for named written kept) (function_for named with without)) (λ _. if_kept) (λ _.
      cond_both (setup.kind == CLASS_TO_INTERFACE) _ _
      (λ named. P (function_for named written kept) (function_for named with without)) (λ _. if_written) (λ _.
      cond_both (is_request FROM_DEVICE GET_DESCRIPTOR setup) _ _
      (λ named. P (function_for named written kept) (function_for named with without)) (λ _. if_kept) (λ _.
      cond_both (is_request FROM_INTERFACE GET_DESCRIPTOR setup) _ _
      (λ named. P (function_for named written kept) (function_for named with without)) (λ _. if_kept) (λ _.
      by_option _ (standard_of setup)
      (λ named. P (function_for named written kept) (function_for named with without))
      if_kept (λ _. if_kept)))))

-- what an act at endpoint 0 leaves of both
module _ (value : KmFunction) (past : List ControlAct) (tick : ℕ) (act : Act) where
  abbrev after : Option Transfer → KmFunction
  after done = function_of_completed after_class_request tick done value

  pub keyboard_after_act : (keys : List KeyboardEntry) → KeyboardStands value.keyboard keys
      → KeyboardStands (control_function after_class_request past tick act value).keyboard
      (keyboard_with_completed tick (transfer_completed past act) keys)
  keyboard_after_act keys typed = by (transfer_completed past act) where
    by : (done : Option Transfer)
        → KeyboardStands (after done).keyboard (keyboard_with_completed tick done keys)
    by None = typed
    by (Some transfer) =
        written_or_kept (λ (v : KmFunction) (k : List KeyboardEntry). KeyboardStands v.keyboard k)
        transfer.setup _ value _ keys
        (keyboard.stands_after_class value.keyboard keys typed transfer.setup tick (received transfer.acts))
        typed

  pub mouse_after_act : (pointer : List MouseEntry) → MouseStands value.mouse pointer
      → MouseStands (control_function after_class_request past tick act value).mouse
      (mouse_with_completed (transfer_completed past act) pointer)
  mouse_after_act pointer pointed = by (transfer_completed past act) where
    by : (done : Option Transfer) → MouseStands (after done).mouse (mouse_with_completed done pointer)
    by None = pointed
    by (Some transfer) =
        written_or_kept (λ (v : KmFunction) (p : List MouseEntry). MouseStands v.mouse p)
        transfer.setup _ value _ pointer
        (mouse_after_class value.mouse pointer pointed transfer.setup) pointed

  pub keyboard_entered-after_act :
      (control_function after_class_request past tick act value).keyboard.entered ≡ value.keyboard.entered
  keyboard_entered-after_act = by (transfer_completed past act) where
    by : (done : Option Transfer) → (after done).keyboard.entered ≡ value.keyboard.entered
    by None = refl
    by (Some transfer) =
        written_or_kept (λ (v : KmFunction) (_ : KmFunction). v.keyboard.entered ≡ value.keyboard.entered)
        transfer.setup _ value value value
        (keyboard_entered-kept value tick transfer.setup (received transfer.acts)) refl

  pub mouse_entered-after_act :
      (control_function after_class_request past tick act value).mouse.entered ≡ value.mouse.entered
  mouse_entered-after_act = by (transfer_completed past act) where
    by : (done : Option Transfer) → (after done).mouse.entered ≡ value.mouse.entered
    by None = refl
    by (Some transfer) =
        written_or_kept (λ (v : KmFunction) (_ : KmFunction). v.mouse.entered ≡ value.mouse.entered)
        transfer.setup _ value value value
        (mouse_entered-kept value tick transfer.setup (received transfer.acts)) refl

-- the definitions at work: the mouse's requests are answered though the keyboard has none of them, and a
-- completed one that writes is a call on the mouse alone

abbrev to_mouse : ℕ → ℕ → ℕ → Setup
to_mouse kind request value = record { kind = kind; request = request; value = value; index = 1; length = 0 }

abbrev completed : Setup → Option Transfer
completed setup = Some (record { setup = setup; due = Some []; maximum = PACKET_SIZE; acts = [] })

mouse_report-given : km_descriptor (to_mouse FROM_INTERFACE GET_DESCRIPTOR REPORT_DESCRIPTOR)
    ≡ Some MOUSE_REPORT
unfolding device_descriptor keyboard_descriptor mouse_descriptor
mouse_report-given = refl

mouse_idle-answered : class_answer_after [] [] (to_mouse CLASS_FROM_INTERFACE GET_IDLE 0) ≡ Some (0 ∷ [])
mouse_idle-answered = refl

mouse_idle-set : mouse_with_completed (completed (to_mouse CLASS_TO_INTERFACE SET_IDLE 0x0700)) []
    ≡ Requested (SetIdle 7) ∷ []
mouse_idle-set = refl

keyboard-not_told : keyboard_with_completed 5 (completed (to_mouse CLASS_TO_INTERFACE SET_IDLE 0x0700)) []
    ≡ []
keyboard-not_told = refl

reading-not_kept : mouse_with_completed (completed (to_mouse CLASS_FROM_INTERFACE GET_IDLE 0)) [] ≡ []
reading-not_kept = refl
