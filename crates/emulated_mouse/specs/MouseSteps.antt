-- One call, as an emulated mouse takes it.
use Rattle.std.specs.Prelude.{ℕ, List, Bool, not, ◌&&◌, Option, if◌then◌else◌}
use Rattle.psd_base.specs.KeySet.{has_no_key}
use Rattle.control_pipe.specs.declared.hid_request.HidRequest.{HidRequest}
use Rattle.control_pipe.specs.HidSettings.{settings_after}
use Rattle.input_latch.specs.declared.pointer_latch.PointerChange.{PointerChange}
use Rattle.input_latch.specs.PointerHistory.{held_with}
use Rattle.emulated_mouse.specs.declared.given.Given.{Given}
use Rattle.emulated_mouse.specs.declared.given.Given.TheVariants.{Again, Due, Rest, Next, Nothing}
use Rattle.emulated_mouse.specs.declared.motion.Motion.{Motion}
use Rattle.emulated_mouse.specs.declared.report.Report.{Report}
use Rattle.emulated_mouse.specs.Motion.{piece_of, left_of}
use Rattle.emulated_mouse.specs.Report.{report, released}
use Rattle.emulated_mouse.specs.MouseHistory.{motion_of, rest_by, unread_after, left_after, toggled, given_next, request_answer}
use Rattle.emulated_mouse.specs.MouseStands.{MouseValue}

abbrev pub has_due : MouseValue → Bool
has_due mouse = mouse.left && not (has_no_key mouse.last.buttons)

abbrev pub case_apart : MouseValue → Given
case_apart mouse = if mouse.unread then Again else if has_due mouse then Due else Nothing

abbrev pub case_of : MouseValue → Option PointerChange → Given
case_of mouse next = if mouse.unread then Again else if has_due mouse then Due else given_next next mouse.rest

-- the report after a case
abbrev pub made_report : Given → Motion → Report → Report
made_report Again rest last = last
made_report Due rest last = released
made_report Rest rest last = report last.buttons (piece_of rest)
made_report (Next change) rest last = report (held_with last.buttons change) (piece_of (motion_of change))
made_report Nothing rest last = last

abbrev pub given_step : Given → Bool → MouseValue → MouseValue
given_step given acked mouse = record mouse {
  last = made_report given mouse.rest mouse.last;
  rest = rest_by given mouse.rest;
  unread = unread_after given acked mouse.unread;
  left = left_after given mouse.left;
  toggle = toggled given acked mouse.toggle;
}

abbrev pub sent_step : Bool → MouseValue → MouseValue
sent_step acked mouse = record mouse {
  unread = not acked;
  toggle = if acked then not mouse.toggle else mouse.toggle;
}

abbrev pub said_step : Motion → MouseValue → MouseValue
said_step motion mouse = record mouse { last = report mouse.last.buttons (piece_of motion); rest = left_of motion }

-- a completed class request
abbrev pub requested_step : HidRequest → MouseValue → MouseValue
requested_step request mouse = record mouse { settings = settings_after request mouse.settings }

abbrev pub value_answer : HidRequest → MouseValue → Option (List ℕ)
value_answer request mouse = request_answer request mouse.last mouse.settings
