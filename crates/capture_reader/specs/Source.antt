-- A capture as a source of events, which is read one record ahead.
use Rattle.std.specs.Prelude.{◌≡◌, ℕ, ◌≤◌, false, List, [], ◌++◌, length, Option, Some, None, option_map, Ok, Err, IfSome, IsTrue}
use Rattle.psd_base.specs.declared.outlet.Input.TheVariants as inputs
use Rattle.psd_base.specs.declared.stop.Stop.{Stop}
use Rattle.psd_base.specs.declared.stop.Stop.TheVariants as stops
use Rattle.psd_base.specs.Desk.{ReadFailed, Told}
use Rattle.psd_base.specs.Event.{Seen, HappensWithin}
use Rattle.capture_reader.specs.declared.decode.TheConstants.{PAYLOAD_MAX}
use Rattle.capture_reader.specs.declared.fault.RecordFault.{RecordFault}
use Rattle.capture_reader.specs.declared.fault.RecordFault.TheVariants.{Unread, Faulty}
use Rattle.capture_reader.specs.declared.form.Form.{Form}
use Rattle.capture_reader.specs.declared.form.Form.TheVariants as forms
use Rattle.capture_reader.specs.declared.form.Head.{Head}
use Rattle.capture_reader.specs.declared.source.CaptureSource.{CaptureSource}
use Rattle.capture_reader.specs.Capture.{header, head_of, has_fit_length, kind_in, announced, records}
use Rattle.capture_reader.specs.Schedule.{Schedule, in_front, over}
use Rattle.capture_reader.specs.Taken.{moves_panel}
use Rattle.capture_reader.specs.Window.{Held, coming, still}

-- What is still to come of a source, by what its bytes say from there on, where the desk has these bytes left or doesn't tell.
unfoldable pub later : (List ℕ → Schedule) → Held → Option (List ℕ) → Option Schedule
later walk held left = option_map walk (still held left)

-- nothing is still to come, whatever bytes the desk has left
abbrev pub Ends : (List ℕ → Schedule) → Held → Option Stop → Type 0
Ends walk held stop = (left : List ℕ) → walk (coming held left) ≡ over stop

-- what the records say that are still to come
abbrev pub later_of : CaptureSource → Option (List ℕ) → Option Schedule
later_of source left = later (records source.ports source.tick source.offset 0) source.window left

abbrev pub records_later : CaptureSource → Told → Option Schedule
records_later source told = later_of source (told.left inputs.Capture)

-- an event that was read ahead, and what comes after it
abbrev pub after_ahead : Option Seen → Schedule → Schedule
after_ahead None recording = recording
after_ahead (Some event) recording = in_front event recording

abbrev pub EndsNow : CaptureSource → Option Stop → Type 0
EndsNow source stop = Ends (records source.ports source.tick source.offset 0) source.window stop

-- the bytes that are held have no whole record at their front
abbrev pub IsPartial : ℕ → ℕ → ℕ → Held → Type 0
IsPartial ports last offset held = (records ports last offset 0 held.bytes).events ≡ []

-- how many whole records are in what is held and these bytes
unfoldable pub records_in : CaptureSource → List ℕ → ℕ
records_in source more = length (records source.ports source.tick source.offset 0 (source.window.bytes ++ more)).events

-- why looking ahead failed: a fault that the bytes show, or a failed read, whose count rose, before a record was whole
abbrev pub LookFailed : ℕ → ℕ → ℕ → Held → Told → Told → RecordFault → Type 0
LookFailed ports last offset held told told_after Unread = ReadFailed inputs.Capture told told_after × IsPartial ports last offset held × (held.ended ≡ false)
LookFailed ports last offset held told told_after (Faulty place why) = Ends (records ports last offset 0) held (Some (stops.Capture place why))

abbrev pub FailedLook : CaptureSource → Told → Told → RecordFault → Type 0
FailedLook source told told_after fault = LookFailed source.ports source.tick source.offset source.window told told_after fault

abbrev pub IsFaulty : RecordFault → Type 0
IsFaulty Unread = ⊥
IsFaulty (Faulty offset why) = Unit {0}

-- why a capture can't be opened: its header is faulty where the desk tells, or a read failed, whose count rose
abbrev pub OpenFailed : Told → Told → RecordFault → Type 0
OpenFailed told told_after Unread = ReadFailed inputs.Capture told told_after
OpenFailed told told_after (Faulty place why) = IfSome (told.left inputs.Capture) (λ bytes. header bytes ≡ Err (stops.Capture place why))

-- the port of a record of this form is one of so many
abbrev pub IsFormWithin : ℕ → Form → Type 0
IsFormWithin ports forms.Clock = Unit {0}
IsFormWithin ports (forms.Act port side kind) = port ≤ ports
IsFormWithin ports (forms.Plug plug kind) = Unit {0}
IsFormWithin ports forms.Job = Unit {0}

-- the bytes begin with a sound head
pub record Announces (ports last : ℕ) (bytes : List ℕ) (head : Head) (form : Form) : Type 0 where
  pub whole : 8 ≤ length bytes
  pub head_is : head_of bytes ≡ head
  pub form_is : announced ports last head ≡ Ok form
  pub ordered : last ≤ head.tick
  pub port_is_within : IsFormWithin ports form
  pub size_fits : IsTrue (has_fit_length (kind_in form) head.length)
  pub size_is_small : head.length ≤ PAYLOAD_MAX

abbrev pub AnnouncesNext : CaptureSource → Head → Form → Type 0
AnnouncesNext source head form = Announces source.ports source.tick source.window.bytes head form

-- the next event, whose tick is that of the last record that was read, at one of the ports
abbrev pub IsNext : CaptureSource → Seen → Type 0
IsNext source event = (event.tick ≡ source.tick) × HappensWithin source.ports event.happening × (moves_panel event.happening ≡ false)
