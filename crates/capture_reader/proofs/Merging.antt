-- The next event of two sources that are merged.
use Rattle.std.proofs.Common.{◌≡◌, ℕ, suc, ◌+◌, ◌-◌, ◌<◌, Bool, true, false, nat_le, cond, Option, Some, None, IfNone, IsSomeAnd, refl, ap, arith}
use Rattle.psd_base.specs.declared.stop.Stop.{Stop}
use Rattle.psd_base.specs.declared.stop.Stop.TheVariants.{TooLong}
use Rattle.psd_base.specs.Event.{Seen}
use Rattle.capture_reader.specs.declared.next.Next.TheVariants as nexts
use Rattle.capture_reader.specs.Schedule.{Schedule, in_front, over}
use Rattle.capture_reader.specs.Merge.{before, merge_lines, merge, cut, cut_to}
use Rattle.capture_reader.specs.Progress.{next_of}
use Rattle.capture_reader.specs.Source.{after_ahead}

-- a choice between the sources is made by its test

chose_record : (test : Bool) → cond test nexts.Line nexts.Record ≡ nexts.Record → test ≡ false
chose_record true is = cc
chose_record false is = refl

chose_line : (test : Bool) → cond test nexts.Line nexts.Record ≡ nexts.Line → test ≡ true
chose_line true is = refl
chose_line false is = cc

never_end : (test : Bool) → cond test nexts.Line nexts.Record ≡ nexts.End → ⊥
never_end true is = cc
never_end false is = cc

record_alone : (event : Seen) (lines records : Schedule) → lines ≡ over None → merge lines (in_front event records) ≡ in_front event (merge lines records)
unfolding merge merge_lines
record_alone event lines records none = rw none refl

record_before : (event line_event : Seen) (lines records : Schedule) → nat_le line_event.tick event.tick ≡ false
    → merge (in_front line_event lines) (in_front event records) ≡ in_front event (merge (in_front line_event lines) records)
unfolding merge merge_lines before
record_before event line_event lines records test = rw test refl

line_alone : (event : Seen) (lines records : Schedule) → records ≡ over None → merge (in_front event lines) records ≡ in_front event (merge lines records)
unfolding merge merge_lines before
line_alone event lines records none = rw none refl

line_before : (event record_event : Seen) (lines records : Schedule) → nat_le event.tick record_event.tick ≡ true
    → merge (in_front event lines) (in_front record_event records) ≡ in_front event (merge lines (in_front record_event records))
unfolding merge merge_lines before
line_before event record_event lines records test = rw test refl

-- a record is next
pub record_step : (record_ahead line_ahead : Option Seen) (records lines : Schedule) → next_of record_ahead line_ahead ≡ nexts.Record → IfNone line_ahead (lines ≡ over None)
    → IsSomeAnd record_ahead (λ event. merge (after_ahead line_ahead lines) (after_ahead record_ahead records)
    ≡ in_front event (merge (after_ahead line_ahead lines) records))
record_step None None records lines is ends = cc
record_step None (Some line_event) records lines is ends = cc
record_step (Some event) None records lines is ends = record_alone event lines records ends
record_step (Some event) (Some line_event) records lines is ends =
    record_before event line_event lines records (chose_record (nat_le line_event.tick event.tick) is)

-- a line is next
pub line_step : (record_ahead line_ahead : Option Seen) (records lines : Schedule) → next_of record_ahead line_ahead ≡ nexts.Line → IfNone record_ahead (records ≡ over None)
    → IsSomeAnd line_ahead (λ event. merge (after_ahead line_ahead lines) (after_ahead record_ahead records)
    ≡ in_front event (merge lines (after_ahead record_ahead records)))
line_step None None records lines is ends = cc
line_step (Some record_event) None records lines is ends = cc
line_step None (Some event) records lines is ends = line_alone event lines records ends
line_step (Some record_event) (Some event) records lines is ends =
    line_before event record_event lines records (chose_line (nat_le event.tick record_event.tick) is)

-- neither is next
pub end_step : (record_ahead line_ahead : Option Seen) → next_of record_ahead line_ahead ≡ nexts.End → (record_ahead ≡ None) × (line_ahead ≡ None)
end_step None None is = (refl, refl)
end_step (Some record_event) None is = cc
end_step None (Some line_event) is = cc
end_step (Some record_event) (Some line_event) is = absurd (never_end (nat_le line_event.tick record_event.tick) is)

pub both_end : (records lines : Schedule) → records ≡ over None → lines ≡ over None → merge lines records ≡ over None
unfolding merge merge_lines
both_end records lines no_record no_line = rw (no_record, no_line) refl

-- the capture shows its fault
pub capture_over : (line_ahead : Option Seen) (records lines : Schedule) (stop : Stop) → records ≡ over (Some stop) → IfNone line_ahead (lines ≡ over None)
    → merge (after_ahead line_ahead lines) records ≡ over (Some stop)
unfolding merge merge_lines before
capture_over None records lines stop ends none = rw (ends, none) refl
capture_over (Some event) records lines stop ends none = rw ends refl

-- the script shows its fault
pub script_over : (records lines : Schedule) (stop : Stop) → lines ≡ over (Some stop) → merge lines records ≡ over (Some stop)
unfolding merge merge_lines
script_over records lines stop ends = rw ends refl

pub cut_next : (limit served : ℕ) (event : Seen) (recording : Schedule) → served < limit
    → cut_to (limit - served) (in_front event recording) ≡ in_front event (cut_to (limit - (served + 1)) recording)
unfolding cut
cut_next limit served event recording below =
    let more : limit - served ≡ suc (limit - (served + 1)) = omega arith in
    ap (λ n. cut_to n (in_front event recording)) more

pub cut_full : (limit served : ℕ) (event : Seen) (recording : Schedule) → served ≡ limit → cut_to (limit - served) (in_front event recording) ≡ over (Some TooLong)
unfolding cut
cut_full limit served event recording full =
    let none : limit - served ≡ 0 = omega arith in
    ap (λ n. cut_to n (in_front event recording)) none

pub cut_over : (limit : ℕ) (recording : Schedule) (stop : Option Stop) → recording ≡ over stop → cut_to limit recording ≡ over stop
unfolding cut
cut_over limit recording stop is = ap (cut_to limit) is

-- weaker facts

pub none_weaker : {X : Type 0} {P Q : Type 0} (found : Option X) → (P → Q) → IfNone found P → IfNone found Q
none_weaker None weaker is = weaker is
none_weaker (Some value) weaker is = is

pub of_some : {X : Type 0} {P : X → Type 0} {Q : Type 0} (found : Option X) → ((value : X) → P value → Q) → IsSomeAnd found P → Q
of_some None uses is = absurd is
of_some (Some value) uses is = uses value is
