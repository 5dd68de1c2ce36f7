-- The script and the capture in one order: that of the ticks, and at equal ticks the script first. And what a run over them is.
use Rattle.std.specs.Prelude.{ℕ, zero, suc, nat_le, List, [], ◌∷◌, drop, Option, Some, None, Ok, Err, if◌then◌else◌}
use Rattle.psd_base.specs.declared.outlet.Input.TheVariants as inputs
use Rattle.psd_base.specs.declared.stop.Stop.{Stop}
use Rattle.psd_base.specs.declared.stop.Stop.TheVariants.{TooLong}
use Rattle.psd_base.specs.Desk.{Told}
use Rattle.psd_base.specs.Event.{Seen}
use Rattle.capture_reader.specs.Capture.{header, records}
use Rattle.capture_reader.specs.Schedule.{Schedule, in_front, over}
use Rattle.capture_reader.specs.Script.{script}

-- The event of a line among the records: it stands before the first record that isn't earlier. `later` puts the lines behind it
-- among the records behind it. A capture that isn't whole ends the run after its last record.
unfoldable pub before : Seen → (Schedule → Schedule) → List Seen → Option Stop → Schedule
before event later [] None = in_front event (later (over None))
before event later [] (Some stop) = over (Some stop)
before event later (record_event ∷ records) stop =
    if nat_le event.tick record_event.tick then in_front event (later (record { events = record_event ∷ records; stop = stop }))
    else in_front record_event (before event later records stop)

-- The lines among the records. A script that isn't whole ends the run after its last line.
unfoldable pub merge_lines : List Seen → Option Stop → Schedule → Schedule
merge_lines [] None records = records
merge_lines [] (Some stop) records = over (Some stop)
merge_lines (event ∷ lines) stop records = before event (merge_lines lines stop) records.events records.stop

-- a script and the records of a capture
unfoldable pub merge : Schedule → Schedule → Schedule
merge script records = merge_lines script.events script.stop records

-- at most so many events: more of them are too long
unfoldable pub cut : ℕ → List Seen → Option Stop → Schedule
cut limit [] stop = over stop
cut zero (event ∷ events) stop = over (Some TooLong)
cut (suc limit) (event ∷ events) stop = in_front event (cut limit events stop)

abbrev pub cut_to : ℕ → Schedule → Schedule
cut_to limit all = cut limit all.events all.stop

-- what these bytes of a capture and of a script say, with at most so many events
unfoldable pub schedule : ℕ → List ℕ → List ℕ → Schedule
schedule limit capture_bytes script_bytes =
    elim (header capture_bytes) [
      | Ok ports ↦ cut_to limit (merge (script ports script_bytes) (records ports 0 8 0 (drop 8 capture_bytes)))
      | Err stop ↦ over (Some stop)
    ]

-- a function of two values, where both are told
abbrev pub both : {A B C : Type 0} → (A → B → C) → Option A → Option B → Option C
both f None second = None
both f (Some first) None = None
both f (Some first) (Some second) = Some (f first second)

-- at most so many events of records and lines, where both are told
abbrev pub merged : ℕ → Option Schedule → Option Schedule → Option Schedule
merged limit records lines = both (λ capture script. cut_to limit (merge script capture)) records lines

-- the schedule where a desk tells the bytes of both inputs
abbrev pub schedule_told : ℕ → Told → Option Schedule
schedule_told limit told = both (schedule limit) (told.left inputs.Capture) (told.left inputs.Script)

-- the number of ports, or 0 where the header is faulty
unfoldable pub port_count : List ℕ → ℕ
port_count bytes = elim (header bytes) [ Ok ports ↦ ports | Err stop ↦ 0 ]
