-- What an emulated keyboard stands for after a class request.
use Rattle.std.proofs.Common.{◌≡◌, ℕ, Bool, List, ◌∷◌, Option, Some, None, refl, ap, ◌∙◌}
use Rattle.control_pipe.specs.declared.hid_request.HidRequest.{HidRequest}
use Rattle.control_pipe.specs.declared.hid_settings.HidSettings.{HidSettings}
use Rattle.psd_base.specs.declared.setup.Setup.{Setup}
use Rattle.control_pipe.specs.HidRequests.{hid_request}
use Rattle.control_pipe.specs.HidSettings.{settings_after}
use Rattle.emulated_keyboard.specs.KeyboardHistory.{KeyboardEntry, Requested, last_made, lamps, lamps_after, since_after, request_answer}
use Rattle.emulated_keyboard.specs.declared.keyboard.TheConstants.{INTERFACE}
use Rattle.emulated_keyboard.specs.ClassRequests.{answer_for, class_answer, after_request, after_class_request, with_request, with_class_request, read_for, class_answer_after}
use Rattle.emulated_keyboard.specs.KeyboardStands.{KeyboardValue, KeyboardStands}
use Rattle.emulated_keyboard.specs.KeyboardSteps.{requested_step}

-- a keyboard stands for its calls with a completed class request after them
pub stands_requested : (keyboard : KeyboardValue) (past : List KeyboardEntry) (tick : ℕ) (request : HidRequest) (bytes : List ℕ) → KeyboardStands keyboard past
    → KeyboardStands (requested_step tick request bytes keyboard) (Requested tick request bytes ∷ past)
stands_requested keyboard past tick request bytes stands = record {
  last = stands.last;
  unread = stands.unread;
  left = stands.left;
  toggle = stands.toggle;
  set = ap (λ (s : HidSettings). settings_after request s) stands.set;
  lit = ap (λ (n : ℕ). lamps_after request bytes n) stands.lit;
  since = ap (λ (n : ℕ). since_after request tick n) stands.since;
  entered = stands.entered;
  form = stands.form;
  shows = stands.shows;
  fresh = stands.fresh;
  apart = stands.apart;
}

-- the same for a setup, which is a request of the keyboard or none
module _ (keyboard : KeyboardValue) (past : List KeyboardEntry) (stands : KeyboardStands keyboard past) (setup : Setup) where
  pub stands_after_class : (tick : ℕ) (bytes : List ℕ) → KeyboardStands (after_class_request keyboard tick setup bytes) (with_class_request tick setup bytes past)
  stands_after_class tick bytes = by (hid_request INTERFACE setup) where
    by : (found : Option HidRequest) → KeyboardStands (after_request found tick bytes keyboard) (with_request found tick bytes past)
    by None = stands
    by (Some request) = stands_requested keyboard past tick request bytes stands

  pub class_answer-is : class_answer keyboard setup ≡ class_answer_after past setup
  class_answer-is = by (hid_request INTERFACE setup) where
    by : (found : Option HidRequest) → answer_for found keyboard ≡ read_for found past
    by None = refl
    by (Some request) =
        ap (λ (keys : List Bool). request_answer request keys keyboard.lamps keyboard.settings) stands.last
        ∙ ap (λ (lit : ℕ). request_answer request (last_made past) lit keyboard.settings) stands.lit
        ∙ ap (λ (set : HidSettings). request_answer request (last_made past) (lamps past) set) stands.set
