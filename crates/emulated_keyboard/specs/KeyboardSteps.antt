-- One call, as an emulated keyboard takes it.
use Rattle.std.specs.Prelude.{ℕ, Bool, not, ◌&&◌, List, Option, Some, None, IsTrue, if◌then◌else◌}
use Rattle.psd_base.specs.KeySet.{is_passed_on, no_keys, has_no_key}
use Rattle.control_pipe.specs.declared.hid_request.HidRequest.{HidRequest}
use Rattle.control_pipe.specs.HidSettings.{settings_after}
use Rattle.input_latch.specs.declared.key_latch.KeyChange.{KeyChange}
use Rattle.input_latch.specs.KeyHistory.{held_with}
use Rattle.input_latch.specs.PassedKeys.{usage_of}
use Rattle.emulated_keyboard.specs.declared.given.Given.{Given}
use Rattle.emulated_keyboard.specs.declared.given.Given.TheVariants.{Again, Due, Next, Repeated, Nothing}
use Rattle.emulated_keyboard.specs.KeyboardHistory.{is_report, unread_after, left_after, toggled, lamps_after, since_after, request_answer}
pub use Rattle.emulated_keyboard.specs.KeyboardHistory.{is_time}
use Rattle.emulated_keyboard.specs.KeyboardStands.{KeyboardValue}

-- a change that a case names is that of a key that is passed on
abbrev pub IsPassedOn : Given → Type 0
IsPassedOn Again = Unit {0}
IsPassedOn Due = Unit {0}
IsPassedOn (Next change) = IsTrue (is_passed_on (usage_of change))
IsPassedOn Repeated = Unit {0}
IsPassedOn Nothing = Unit {0}

abbrev pub has_due : KeyboardValue → Bool
has_due keyboard = keyboard.left && not (has_no_key keyboard.last)

abbrev pub case_apart : KeyboardValue → Given
case_apart keyboard = if keyboard.unread then Again else if has_due keyboard then Due else Nothing

abbrev pub case_next : Option KeyChange → KeyboardValue → ℕ → Given
case_next None keyboard tick = if is_time keyboard.settings.idle_rate keyboard.idle_since tick then Repeated else Nothing
case_next (Some change) keyboard tick = Next change

abbrev pub case_of : KeyboardValue → ℕ → Option KeyChange → Given
case_of keyboard tick next = if keyboard.unread then Again else if has_due keyboard then Due else case_next next keyboard tick

-- the keys of the report after a case
abbrev pub made_keys : Given → List Bool → List Bool
made_keys Again keys = keys
made_keys Due keys = no_keys
made_keys (Next change) keys = held_with keys change
made_keys Repeated keys = keys
made_keys Nothing keys = keys

abbrev pub given_step : Given → Bool → ℕ → KeyboardValue → KeyboardValue
given_step given acked tick keyboard = record keyboard {
  last = made_keys given keyboard.last;
  unread = unread_after given acked keyboard.unread;
  left = left_after given keyboard.left;
  toggle = toggled given acked keyboard.toggle;
  idle_since = if is_report given && acked then tick else keyboard.idle_since;
}

abbrev pub sent_step : Bool → ℕ → KeyboardValue → KeyboardValue
sent_step acked tick keyboard = record keyboard {
  unread = not acked;
  toggle = if acked then not keyboard.toggle else keyboard.toggle;
  idle_since = if acked then tick else keyboard.idle_since;
}

-- a completed class request
abbrev pub requested_step : ℕ → HidRequest → List ℕ → KeyboardValue → KeyboardValue
requested_step tick request bytes keyboard = record keyboard {
  settings = settings_after request keyboard.settings;
  lamps = lamps_after request bytes keyboard.lamps;
  idle_since = since_after request tick keyboard.idle_since;
}

abbrev pub value_answer : HidRequest → KeyboardValue → Option (List ℕ)
value_answer request keyboard = request_answer request keyboard.last keyboard.lamps keyboard.settings
