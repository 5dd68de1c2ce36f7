-- The capture: a header of eight bytes, then records to the end of the input. Numbers of several bytes have their low byte first.
use Rattle.std.specs.Prelude.{ℕ, zero, suc, ◌+◌, ◌-◌, ◌*◌, Bool, true, false, not, ◌&&◌, ◌==◌, nat_lt, nat_le, List, [], ◌∷◌, length, drop, slice_index, slice_range, Some, None, Result, Ok, Err, if◌then◌else◌}
use Rattle.psd_base.specs.declared.act.Act.{Act}
use Rattle.psd_base.specs.declared.act.Act.TheVariants as act
use Rattle.psd_base.specs.declared.act.Side.TheVariants.{Km, Ua}
use Rattle.psd_base.specs.declared.console.Plug.{Plug}
use Rattle.psd_base.specs.declared.console.Plug.TheVariants.{Keyboard, Mouse, Token}
use Rattle.psd_base.specs.declared.packet.TheConstants.{BLOCK_SIZE, PACKET_SIZE}
use Rattle.psd_base.specs.declared.port.TheConstants.{MAX_PORTS}
use Rattle.psd_base.specs.declared.stop.CaptureFault.{CaptureFault}
use Rattle.psd_base.specs.declared.stop.CaptureFault.TheVariants.{BadMagic, BadPorts, Truncated, TickBack, BadKind, BadWho, BadLength, BadField}
use Rattle.psd_base.specs.declared.stop.Stop.{Stop}
use Rattle.psd_base.specs.declared.stop.Stop.TheVariants as stops
use Rattle.psd_base.specs.Event.{Doing, TimePasses, Attaches, Detaches, Replies, Reports, Finishes, Happening, PortActs, AtFront, Seen}
use Rattle.psd_base.specs.Setup.{little_endian, setup_of}
use Rattle.capture_reader.specs.declared.form.ActKind.{ActKind}
use Rattle.capture_reader.specs.declared.form.ActKind.TheVariants as acts
use Rattle.capture_reader.specs.declared.form.PlugKind.{PlugKind}
use Rattle.capture_reader.specs.declared.form.PlugKind.TheVariants as plugs
use Rattle.capture_reader.specs.declared.form.Kind.{Kind}
use Rattle.capture_reader.specs.declared.form.Kind.TheVariants as kinds
use Rattle.capture_reader.specs.declared.form.Form.{Form}
use Rattle.capture_reader.specs.declared.form.Form.TheVariants as forms
use Rattle.capture_reader.specs.declared.form.Head.{Head}
use Rattle.capture_reader.specs.Schedule.{Schedule, in_front, over}

-- what is read, or the first fault that is met on the way
infixl 10 ◌>>=◌
abbrev pub ◌>>=◌ : {A B : Type 0} → Result A CaptureFault → (A → Result B CaptureFault) → Result B CaptureFault
(Ok value) >>= next = next value
(Err why) >>= next = Err why

-- The header is `KVC1`, the number of ports, and three zero bytes.
abbrev pub begins_with_magic : List ℕ → Bool
begins_with_magic bytes = (slice_index bytes 0 == 0x4b) && (slice_index bytes 1 == 0x56) && (slice_index bytes 2 == 0x43) && (slice_index bytes 3 == 0x31)

abbrev pub has_fit_ports : List ℕ → Bool
has_fit_ports bytes = nat_le 2 (slice_index bytes 4) && nat_le (slice_index bytes 4) MAX_PORTS && (slice_index bytes 5 == 0) && (slice_index bytes 6 == 0) && (slice_index bytes 7 == 0)

-- the number of ports, or why there is none
unfoldable pub header : List ℕ → Result ℕ Stop
header bytes =
    if nat_lt (length bytes) 8 then Err (stops.Capture 0 Truncated)
    else (if begins_with_magic bytes then (if has_fit_ports bytes then Ok (slice_index bytes 4) else Err (stops.Capture 4 BadPorts))
    else Err (stops.Capture 0 BadMagic))

-- the number of four bytes at this place
abbrev pub word_at : List ℕ → ℕ → ℕ
word_at bytes at = little_endian (slice_index bytes at) (slice_index bytes (at + 1)) + 65536 * little_endian (slice_index bytes (at + 2)) (slice_index bytes (at + 3))

-- A record begins with eight bytes: the tick in four, the kind and the acting party in one each, and in two the length of the payload that follows them.
abbrev pub head_of : List ℕ → Head
head_of bytes = record {
  tick = word_at bytes 0;
  kind = slice_index bytes 4;
  who = slice_index bytes 5;
  length = little_endian (slice_index bytes 6) (slice_index bytes 7);
}

abbrev pub size_of : Head → ℕ
size_of head = 8 + head.length

abbrev pub payload_of : List ℕ → List ℕ
payload_of bytes = slice_range bytes 8 (size_of (head_of bytes))

-- the kind of this number
unfoldable pub kind_of : ℕ → Result Kind CaptureFault
kind_of number =
    if number == 0x01 then Ok kinds.Clock
    else (if number == 0x10 then Ok (kinds.Act acts.Reset)
    else (if number == 0x11 then Ok (kinds.Act acts.Setup)
    else (if number == 0x12 then Ok (kinds.Act acts.Out)
    else (if number == 0x13 then Ok (kinds.Act acts.In)
    else (if number == 0x20 then Ok (kinds.Plug plugs.Attach)
    else (if number == 0x21 then Ok (kinds.Plug plugs.Detach)
    else (if number == 0x22 then Ok (kinds.Plug plugs.Reply)
    else (if number == 0x23 then Ok (kinds.Plug plugs.Report)
    else (if number == 0x24 then Ok kinds.Job
    else Err BadKind)))))))))

abbrev pub is_report : PlugKind → Bool
is_report plugs.Attach = false
is_report plugs.Detach = false
is_report plugs.Reply = false
is_report plugs.Report = true

-- Nobody acts at a Clock. The connectors of port p are 40 + p and 80 + p in hexadecimal. The plugs are 1 for the keyboard, 2 for
-- the mouse and 3 for the token, which sends no reports; it alone does jobs.
unfoldable pub form_of : Kind → ℕ → ℕ → Result Form CaptureFault
form_of kinds.Clock ports who = if who == 0 then Ok forms.Clock else Err BadWho
form_of (kinds.Act kind) ports who =
    if nat_lt 0x40 who && nat_le who (0x40 + ports) then Ok (forms.Act (who - 0x40) Km kind)
    else (if nat_lt 0x80 who && nat_le who (0x80 + ports) then Ok (forms.Act (who - 0x80) Ua kind)
    else Err BadWho)
form_of (kinds.Plug kind) ports who =
    if who == 1 then Ok (forms.Plug Keyboard kind)
    else (if who == 2 then Ok (forms.Plug Mouse kind)
    else (if (who == 3) && not (is_report kind) then Ok (forms.Plug Token kind)
    else Err BadWho))
form_of kinds.Job ports who = if who == 3 then Ok forms.Job else Err BadWho

-- Setup: address and eight setup bytes. Out: address, endpoint, toggle and 0 to 64 bytes. In: address, endpoint and acked.
-- Reply and JobDone: life and number in four bytes each, status and 0 to 1,024 bytes. Report: interface and 0 to 64 bytes.
unfoldable pub has_fit_length : Kind → ℕ → Bool
has_fit_length kinds.Clock size = size == 0
has_fit_length (kinds.Act acts.Reset) size = size == 0
has_fit_length (kinds.Act acts.Setup) size = size == 9
has_fit_length (kinds.Act acts.Out) size = nat_le 3 size && nat_le size (3 + PACKET_SIZE)
has_fit_length (kinds.Act acts.In) size = size == 3
has_fit_length (kinds.Plug plugs.Attach) size = size == 0
has_fit_length (kinds.Plug plugs.Detach) size = size == 0
has_fit_length (kinds.Plug plugs.Reply) size = nat_le 9 size && nat_le size (9 + BLOCK_SIZE)
has_fit_length (kinds.Plug plugs.Report) size = nat_le 1 size && nat_le size (1 + PACKET_SIZE)
has_fit_length kinds.Job size = nat_le 9 size && nat_le size (9 + BLOCK_SIZE)

-- the kind of record that has this form
abbrev pub kind_in : Form → Kind
kind_in forms.Clock = kinds.Clock
kind_in (forms.Act port side kind) = kinds.Act kind
kind_in (forms.Plug plug kind) = kinds.Plug kind
kind_in forms.Job = kinds.Job

-- what a head announces, or the first of its checks that fails
unfoldable pub announced : ℕ → ℕ → Head → Result Form CaptureFault
announced ports last head =
    if nat_lt head.tick last then Err TickBack else do
      kind ← kind_of head.kind
      form ← form_of kind ports head.who
      if has_fit_length kind head.length then Ok form else Err BadLength

-- Addresses are at most 127, endpoints at most 15, toggle and acked 0 or 1, a status at most 3.
abbrev pub has_fit_fields : List ℕ → Bool
has_fit_fields payload = nat_le (slice_index payload 0) 127 && nat_le (slice_index payload 1) 15 && nat_le (slice_index payload 2) 1

unfoldable pub act_of : ActKind → List ℕ → Result Act CaptureFault
act_of acts.Reset payload = Ok act.Reset
act_of acts.Setup payload =
    if nat_le (slice_index payload 0) 127 then Ok (act.Setup (slice_index payload 0) (setup_of (drop 1 payload))) else Err BadField
act_of acts.Out payload =
    if has_fit_fields payload then Ok (act.Out (slice_index payload 0) (slice_index payload 1) (slice_index payload 2 == 1) (drop 3 payload)) else Err BadField
act_of acts.In payload =
    if has_fit_fields payload then Ok (act.In (slice_index payload 0) (slice_index payload 1) (slice_index payload 2 == 1)) else Err BadField

unfoldable pub doing_of : PlugKind → Plug → List ℕ → Result Doing CaptureFault
doing_of plugs.Attach plug payload = Ok (Attaches plug)
doing_of plugs.Detach plug payload = Ok (Detaches plug)
doing_of plugs.Reply plug payload =
    if nat_le (slice_index payload 8) 3 then Ok (Replies plug (word_at payload 0) (word_at payload 4) (slice_index payload 8) (drop 9 payload)) else Err BadField
doing_of plugs.Report plug payload = Ok (Reports plug (slice_index payload 0) (drop 1 payload))

unfoldable pub finished_in : List ℕ → Result Doing CaptureFault
finished_in payload =
    if nat_le (slice_index payload 8) 3 then Ok (Finishes (word_at payload 0) (word_at payload 4) (slice_index payload 8) (drop 9 payload)) else Err BadField

unfoldable pub happening_in : Form → List ℕ → Result Happening CaptureFault
happening_in forms.Clock payload = Ok (AtFront TimePasses)
happening_in (forms.Act port side kind) payload = do
  acted ← act_of kind payload
  Ok (PortActs port side acted)
happening_in (forms.Plug plug kind) payload = do
  done ← doing_of kind plug payload
  Ok (AtFront done)
happening_in forms.Job payload = do
  done ← finished_in payload
  Ok (AtFront done)

-- the record at the front of the bytes, after one of tick `last`, or the first of its checks that fails
unfoldable pub record_at : ℕ → ℕ → List ℕ → Result Seen CaptureFault
record_at ports last bytes =
    if nat_lt (length bytes) 8 then Err Truncated else do
      form ← announced ports last (head_of bytes)
      happening ← if nat_lt (length bytes) (size_of (head_of bytes)) then Err Truncated else happening_in form (payload_of bytes)
      Ok (record { tick = (head_of bytes).tick; happening = happening })

-- The records after one of tick `last`, where the first byte stands at this offset, and the next record begins so many bytes on.
-- They end where no byte is left after a whole record.
unfoldable pub records : ℕ → ℕ → ℕ → ℕ → List ℕ → Schedule
records ports last offset skip [] = over None
records ports last offset zero (byte ∷ bytes) =
    elim (record_at ports last (byte ∷ bytes)) [
      | Ok event ↦ in_front event (records ports event.tick (offset + 1) (size_of (head_of (byte ∷ bytes)) - 1) bytes)
      | Err why ↦ over (Some (stops.Capture offset why))
    ]
records ports last offset (suc skip) (byte ∷ bytes) = records ports last (offset + 1) skip bytes
