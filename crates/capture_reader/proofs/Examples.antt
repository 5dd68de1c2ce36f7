-- Worked captures and scripts, computed.
use Rattle.std.proofs.Common.{◌≡◌, ℕ, zero, suc, List, [], ◌∷◌, ◌++◌, length, take, map, replicate, refl}
use Rattle.std.specs.Prelude.{Option, Some, None, Ok, Err, true, false, codes}
use Rattle.std.specs.List.{flat_map}
use Rattle.psd_base.specs.declared.act.Act.TheVariants as act
use Rattle.psd_base.specs.declared.act.Side.TheVariants.{Km}
use Rattle.psd_base.specs.declared.console.Panel.{Panel}
use Rattle.psd_base.specs.declared.console.Panel.TheVariants.{Guard, Button, Check, Tamper}
use Rattle.psd_base.specs.declared.console.Plug.TheVariants.{Keyboard, Mouse, Token}
use Rattle.psd_base.specs.declared.outlet.Input.TheVariants as inputs
use Rattle.psd_base.specs.declared.stop.CaptureFault.{CaptureFault}
use Rattle.psd_base.specs.declared.stop.CaptureFault.TheVariants.{Truncated, BadMagic, BadKind, BadWho, BadLength, BadField}
use Rattle.psd_base.specs.declared.stop.ScriptFault.TheVariants.{LineTooLong, NotALine, TickBack, NoSuchPort}
use Rattle.psd_base.specs.declared.stop.Stop.{Stop}
use Rattle.psd_base.specs.declared.stop.Stop.TheVariants.{Capture, Script, TooLong}
use Rattle.psd_base.specs.Event.{Seen, Doing, PortActs, AtFront, PanelMoves, TimePasses, Attaches, Detaches, Replies, Reports, Finishes}
use Rattle.psd_base.specs.Reading.{number_in, number_after, with_digit}
use Rattle.capture_reader.specs.Capture.{header, kind_of, form_of, has_fit_length, announced, act_of, doing_of, finished_in, happening_in, record_at, records}
use Rattle.capture_reader.specs.Merge.{before, merge_lines, merge, cut, schedule, port_count}
use Rattle.capture_reader.specs.Taken.{shortest, whole_lines, whole_records}
use Rattle.capture_reader.specs.Schedule.{over}
use Rattle.capture_reader.specs.Script.{buttons, checks, panel_text, first_line, move_among, panel_in, tick_in, said_in, judged, line_at, lines, script}

-- a port that asks for the device descriptor: a SETUP, an IN and an OUT
device_descriptor : List ℕ
device_descriptor =
    0x4b ∷ 0x56 ∷ 0x43 ∷ 0x31 ∷ 2 ∷ 0 ∷ 0 ∷ 0
    ∷ 1 ∷ 0 ∷ 0 ∷ 0 ∷ 0x11 ∷ 0x41 ∷ 9 ∷ 0 ∷ 0 ∷ 0x80 ∷ 6 ∷ 0 ∷ 1 ∷ 0 ∷ 0 ∷ 0x40 ∷ 0
    ∷ 1 ∷ 0 ∷ 0 ∷ 0 ∷ 0x13 ∷ 0x41 ∷ 3 ∷ 0 ∷ 0 ∷ 0 ∷ 1
    ∷ 1 ∷ 0 ∷ 0 ∷ 0 ∷ 0x12 ∷ 0x41 ∷ 3 ∷ 0 ∷ 0 ∷ 0 ∷ 1 ∷ []

-- the number of events, and the end, of the first so many bytes
outcome : ℕ → ℕ × Option Stop
outcome size = let whole = schedule 16777216 (take size device_descriptor) [] in (length whole.events, whole.stop)

upto : ℕ → List ℕ
upto zero = 0 ∷ []
upto (suc n) = upto n ++ suc n ∷ []

truncated : ℕ → Option Stop
truncated offset = Some (Capture offset Truncated)

-- cut to every length from 0 to 47
cut_to_every_length :
    map outcome (upto 47)
    ≡ replicate 8 (0, truncated 0) ++ (0, None) ∷ [] ++ replicate 16 (0, truncated 8) ++ (1, None) ∷ []
    ++ replicate 10 (1, truncated 25) ++ (2, None) ∷ [] ++ replicate 10 (2, truncated 36) ++ (3, None) ∷ []
unfolding device_descriptor outcome upto truncated header kind_of form_of has_fit_length announced act_of doing_of finished_in happening_in record_at records lines script before merge_lines merge cut schedule
cut_to_every_length = refl

-- all three events
whole_events :
    (schedule 16777216 device_descriptor []).events
    ≡ record { tick = 1; happening = PortActs 1 Km (act.Setup 0 (record { kind = 0x80; request = 6; value = 0x0100; index = 0; length = 0x40 })) }
    ∷ record { tick = 1; happening = PortActs 1 Km (act.In 0 0 true) }
    ∷ record { tick = 1; happening = PortActs 1 Km (act.Out 0 0 true []) } ∷ []
unfolding device_descriptor header kind_of form_of has_fit_length announced act_of doing_of finished_in happening_in record_at records lines script before merge_lines merge cut schedule
whole_events = refl

-- a limit below the number of events, and one that is met exactly
limits : ((schedule 2 device_descriptor []).stop ≡ Some TooLong) × ((schedule 3 device_descriptor []).stop ≡ None)
unfolding device_descriptor header kind_of form_of has_fit_length announced act_of doing_of finished_in happening_in record_at records lines script before merge_lines merge cut schedule
limits = (refl, refl)

ports_of_it : (port_count device_descriptor ≡ 2) × (port_count [] ≡ 0)
unfolding device_descriptor header port_count
ports_of_it = (refl, refl)

at : ℕ → Doing → Seen
at tick doing = record { tick = tick; happening = AtFront doing }

-- what these records of a capture of two ports say
at_plugs : List ℕ → List Seen × Option Stop
at_plugs records =
    let said = schedule 100 (0x4b ∷ 0x56 ∷ 0x43 ∷ 0x31 ∷ 2 ∷ 0 ∷ 0 ∷ 0 ∷ records) [] in (said.events, said.stop)

-- the head of a record of tick 0
head : ℕ → ℕ → ℕ → ℕ → List ℕ
head kind who low high = 0 ∷ 0 ∷ 0 ∷ 0 ∷ kind ∷ who ∷ low ∷ high ∷ []

-- an attachment, a reply without bytes and one with two, a report without bytes and one with a byte, a detachment; and of the
-- token an attachment, a reply, the end of a job with a byte, and a detachment
each_of_a_plug :
    at_plugs (head 0x20 1 0 0
    ++ head 0x22 1 9 0 ++ (1 ∷ 0 ∷ 0 ∷ 0 ∷ 2 ∷ 1 ∷ 0 ∷ 0 ∷ 0 ∷ []) ++ head 0x22 2 11 0 ++ (255 ∷ 255 ∷ 255 ∷ 255 ∷ 0 ∷ 0 ∷ 1 ∷ 0 ∷ 3 ∷ 7 ∷ 8 ∷ [])
    ++ head 0x23 1 1 0 ++ (0 ∷ []) ++ head 0x23 2 2 0 ++ (255 ∷ 9 ∷ []) ++ head 0x21 2 0 0
    ++ head 0x20 3 0 0 ++ head 0x22 3 9 0 ++ (1 ∷ 0 ∷ 0 ∷ 0 ∷ 1 ∷ 0 ∷ 0 ∷ 0 ∷ 1 ∷ []) ++ head 0x24 3 10 0 ++ (2 ∷ 0 ∷ 0 ∷ 0 ∷ 3 ∷ 1 ∷ 0 ∷ 0 ∷ 0 ∷ 9 ∷ []) ++ head 0x21 3 0 0)
    ≡ (
      at 0 (Attaches Keyboard) ∷ at 0 (Replies Keyboard 1 258 0 []) ∷ at 0 (Replies Mouse 4294967295 65536 3 (7 ∷ 8 ∷ []))
          ∷ at 0 (Reports Keyboard 0 []) ∷ at 0 (Reports Mouse 255 (9 ∷ [])) ∷ at 0 (Detaches Mouse)
          ∷ at 0 (Attaches Token) ∷ at 0 (Replies Token 1 1 1 []) ∷ at 0 (Finishes 2 259 0 (9 ∷ [])) ∷ at 0 (Detaches Token) ∷ [],
      None,
    )
unfolding at at_plugs head header kind_of form_of has_fit_length announced act_of doing_of finished_in happening_in record_at records lines script before merge_lines merge cut schedule
each_of_a_plug = refl

-- the fault of a capture of this record alone
plug_fault : List ℕ → Option CaptureFault
plug_fault record_bytes = elim (record_at 2 0 record_bytes) [ Ok event ↦ None | Err why ↦ Some why ]

-- the kinds beside these, the plugs that aren't there or can't do this, the lengths, what is cut off, and a status out of range,
-- each judged after those before it
faults_of_plugs :
    map plug_fault (head 0x1f 1 0 0 ∷ head 0x25 3 0 0 ∷ head 0x20 0 0 0 ∷ head 0x21 4 0 0 ∷ head 0x23 3 1 0 ∷ head 0x24 1 9 0 ∷ head 0x22 0x83 9 0 ∷ head 0x23 0x41 0 0
    ∷ head 0x20 1 1 0 ∷ head 0x21 2 1 0 ∷ head 0x22 1 8 0 ∷ head 0x22 1 10 4 ∷ head 0x23 1 0 0 ∷ head 0x23 1 66 0 ∷ head 0x24 3 8 0 ∷ head 0x24 3 10 4
    ∷ head 0x22 1 9 4 ∷ head 0x23 1 65 0 ∷ (head 0x22 2 9 0 ++ 0 ∷ 0 ∷ 0 ∷ 0 ∷ 0 ∷ 0 ∷ 0 ∷ 0 ∷ [])
    ∷ (head 0x22 2 9 0 ++ 0 ∷ 0 ∷ 0 ∷ 0 ∷ 0 ∷ 0 ∷ 0 ∷ 0 ∷ 4 ∷ []) ∷ (head 0x24 3 9 0 ++ 0 ∷ 0 ∷ 0 ∷ 0 ∷ 0 ∷ 0 ∷ 0 ∷ 0 ∷ 4 ∷ []) ∷ [])
    ≡ replicate 2 (Some BadKind) ++ replicate 6 (Some BadWho) ++ replicate 8 (Some BadLength) ++ replicate 3 (Some Truncated) ++ replicate 2 (Some BadField)
unfolding plug_fault head kind_of form_of has_fit_length announced act_of doing_of finished_in happening_in record_at
faults_of_plugs = refl

clock_at : ℕ → List ℕ
clock_at tick = tick ∷ 0 ∷ 0 ∷ 0 ∷ 1 ∷ 0 ∷ 0 ∷ 0 ∷ []

-- a capture of two ports with Clock records at these ticks
clocks : List ℕ → List ℕ
clocks ticks = 0x4b ∷ 0x56 ∷ 0x43 ∷ 0x31 ∷ 2 ∷ 0 ∷ 0 ∷ 0 ∷ flat_map clock_at ticks

-- ten Clock records, and six bytes of another
truncated_record : List ℕ
truncated_record = clocks (0 ∷ 1 ∷ 2 ∷ 3 ∷ 4 ∷ 5 ∷ 6 ∷ 7 ∷ 8 ∷ 9 ∷ []) ++ 10 ∷ 0 ∷ 0 ∷ 0 ∷ 1 ∷ 0 ∷ []

ten_and_six_bytes :
    (length (schedule 16777216 truncated_record []).events ≡ 10) × ((schedule 16777216 truncated_record []).stop ≡ Some (Capture 88 Truncated))
    × ((schedule 10 truncated_record []).stop ≡ Some (Capture 88 Truncated)) × ((schedule 9 truncated_record []).stop ≡ Some TooLong)
unfolding truncated_record clocks clock_at header kind_of form_of has_fit_length announced act_of doing_of finished_in happening_in record_at records lines script before merge_lines merge cut schedule
ten_and_six_bytes = (refl, refl, refl, refl)

line : List ℕ → List ℕ
line text = text ++ 10 ∷ []

-- every form of line, the last without a line feed
every_form :
    script 2 (line (codes "0 guard down") ++ line (codes "0 guard up") ++ line (codes "7 1 down") ++ line (codes "10 2 up") ++ line (codes "10 check 1 pass")
    ++ line (codes "65536 check 4 fail") ++ codes "4294967295 tamper")
    ≡ record {
      events = at 0 (PanelMoves (Guard true)) ∷ at 0 (PanelMoves (Guard false)) ∷ at 7 (PanelMoves (Button 1 true)) ∷ at 10 (PanelMoves (Button 2 false))
          ∷ at 10 (PanelMoves (Check 1 true)) ∷ at 65536 (PanelMoves (Check 4 false)) ∷ at 4294967295 (PanelMoves Tamper) ∷ [];
      stop = None;
    }
unfolding at line with_digit number_after number_in first_line move_among panel_in tick_in said_in judged line_at lines script
every_form = refl

-- every move, and each is read from its text
moves : List Panel
moves = Guard true ∷ Guard false ∷ Tamper ∷ (buttons 8 ++ checks 4)

texts_of_moves : map (λ panel. panel_in (panel_text panel)) moves ≡ map (λ panel. Some panel) moves
unfolding moves move_among panel_in
texts_of_moves = refl

-- the fault of a script of this line alone at a switch of two ports
fault : List ℕ → Option Stop
fault text = (script 2 text).stop

no_line : Option Stop
no_line = Some (Script 1 NotALine)

not_lines :
    map fault (codes "0 gaurd down" ∷ codes "00 guard down" ∷ codes " 0 guard down" ∷ codes "0  guard down" ∷ codes "0 guard down " ∷ codes "guard down"
    ∷ codes "0 guard" ∷ codes "4294967296 tamper" ∷ codes "0 9 down" ∷ codes "0 0 down" ∷ codes "0 check 5 pass" ∷ codes "0 check 0 pass" ∷ codes "0" ∷ codes "0 "
    ∷ (codes "0 tamper" ++ 13 ∷ 10 ∷ []) ∷ (10 ∷ []) ∷ [])
    ≡ replicate 16 no_line
unfolding fault no_line with_digit number_after number_in first_line move_among panel_in tick_in said_in judged line_at lines script
not_lines = refl

-- no lines, a line feed at the end, and an empty line behind a line
ends : (script 2 [] ≡ record { events = []; stop = None }) × (fault (line (codes "0 tamper")) ≡ None) × (fault (line (codes "0 tamper") ++ 10 ∷ []) ≡ Some (Script 2 NotALine))
unfolding fault line with_digit number_after number_in first_line move_among panel_in tick_in said_in judged line_at lines script
ends = (refl, refl, refl)

-- a port that isn't there, a line of 64 bytes and one of 65, and a tick that goes back, which is judged before the port
faults :
    (fault (codes "0 3 down") ≡ Some (Script 1 NoSuchPort)) × (fault (replicate 64 48) ≡ Some (Script 1 NotALine)) × (fault (line (replicate 65 48)) ≡ Some (Script 1 LineTooLong))
    × (fault (line (codes "5 tamper") ++ codes "4 3 down") ≡ Some (Script 2 TickBack)) × (fault (line (codes "5 tamper") ++ codes "5 3 down") ≡ Some (Script 2 NoSuchPort))
unfolding fault line with_digit number_after number_in first_line move_among panel_in tick_in said_in judged line_at lines script
faults = (refl, refl, refl, refl, refl)

-- at equal ticks the script comes before the capture
merged :
    schedule 100 (clocks (1 ∷ 2 ∷ 4 ∷ [])) (line (codes "2 guard down") ++ line (codes "2 guard up") ++ line (codes "5 tamper"))
    ≡ record {
      events = at 1 TimePasses ∷ at 2 (PanelMoves (Guard true)) ∷ at 2 (PanelMoves (Guard false)) ∷ at 2 TimePasses ∷ at 4 TimePasses ∷ at 5 (PanelMoves Tamper) ∷ [];
      stop = None;
    }
unfolding at line clocks clock_at with_digit number_after number_in first_line move_among panel_in tick_in said_in judged line_at lines script header kind_of form_of has_fit_length announced act_of doing_of finished_in happening_in record_at records before merge_lines merge cut schedule
merged = refl

-- the script's fault comes after its last line, and the capture's after its last record, whatever the other source still holds
ended_early :
    (schedule 100 (clocks (1 ∷ 2 ∷ 4 ∷ [])) (line (codes "2 guard down") ++ line (codes "2 gaurd up") ++ line (codes "5 tamper"))
    ≡ record { events = at 1 TimePasses ∷ at 2 (PanelMoves (Guard true)) ∷ []; stop = Some (Script 2 NotALine) })
    × (schedule 100 (clocks (1 ∷ 2 ∷ []) ++ 9 ∷ []) (codes "3 tamper")
    ≡ record { events = at 1 TimePasses ∷ at 2 TimePasses ∷ []; stop = Some (Capture 24 Truncated) })
unfolding at line clocks clock_at with_digit number_after number_in first_line move_among panel_in tick_in said_in judged line_at lines script header kind_of form_of has_fit_length announced act_of doing_of finished_in happening_in record_at records before merge_lines merge cut schedule
ended_early = (refl, refl)

-- a faulty header comes before a faulty first line, and that before a faulty first record
first_faults :
    (schedule 100 (0 ∷ clocks []) (codes "?") ≡ over (Some (Capture 0 BadMagic)))
    × (schedule 100 (clocks [] ++ 9 ∷ []) (codes "?") ≡ over (Some (Script 1 NotALine)))
    × (schedule 100 (clocks [] ++ 9 ∷ []) (codes "0 tamper") ≡ over (Some (Capture 8 Truncated)))
unfolding line clocks clock_at with_digit number_after number_in first_line move_among panel_in tick_in said_in judged line_at lines script header kind_of form_of has_fit_length announced act_of doing_of finished_in happening_in record_at records before merge_lines merge cut schedule
first_faults = (refl, refl, refl)

-- the whole records of the first bytes, and the lines that end with a line feed
whole_ones :
    (map (λ size. whole_records (take size device_descriptor)) (0 ∷ 8 ∷ 24 ∷ 25 ∷ 35 ∷ 36 ∷ 46 ∷ 47 ∷ []) ≡ 0 ∷ 0 ∷ 0 ∷ 1 ∷ 1 ∷ 2 ∷ 2 ∷ 3 ∷ [])
    × (map whole_lines ([] ∷ codes "0 tamper" ∷ line (codes "0 tamper") ∷ (line (codes "0 guard down") ++ codes "0 tam") ∷ []) ≡ 0 ∷ 0 ∷ 1 ∷ 1 ∷ [])
unfolding device_descriptor line header kind_of form_of has_fit_length announced act_of doing_of finished_in happening_in record_at records whole_records whole_lines
whole_ones = (refl, refl)

-- the shortest parts that hold so many records, and so many lines
shortest_parts :
    let events = at 1 TimePasses ∷ at 2 (PanelMoves Tamper) ∷ at 2 TimePasses ∷ at 4 (PanelMoves Tamper) ∷ [] in
    (map (λ count. length (shortest inputs.Capture count events)) (0 ∷ 1 ∷ 2 ∷ []) ≡ 0 ∷ 1 ∷ 3 ∷ [])
    × (map (λ count. length (shortest inputs.Script count events)) (0 ∷ 1 ∷ 2 ∷ []) ≡ 0 ∷ 2 ∷ 4 ∷ [])
unfolding at shortest
shortest_parts = (refl, refl)
