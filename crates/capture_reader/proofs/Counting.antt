-- How many whole records, and whole lines, a look takes.
use Rattle.std.proofs.Common.{◌≡◌, ℕ, ◌+◌, Bool, false, List, [], ◌++◌, length, drop, Option, Some, None, Result, IfOk, OnOk, OnErr, Ok, Err, IsSomeAnd, position, refl, sym, ap, ◌∙◌, subst, arith, append_assoc, append-nil}
use Rattle.psd_base.specs.Event.{Seen}
use Rattle.capture_reader.specs.declared.ahead.Ahead.{Ahead}
use Rattle.capture_reader.specs.declared.form.Said.{Said}
use Rattle.capture_reader.specs.declared.script.ScriptSource.{ScriptSource}
use Rattle.capture_reader.specs.declared.source.CaptureSource.{CaptureSource}
use Rattle.capture_reader.specs.Ahead.{ahead_of, line_of}
use Rattle.capture_reader.specs.Capture.{records}
use Rattle.capture_reader.specs.Lines.{lines_in}
use Rattle.capture_reader.specs.Script.{is_line_feed}
use Rattle.capture_reader.specs.Schedule.{Schedule, in_front}
use Rattle.capture_reader.specs.Source.{records_in, IsPartial}
use Rattle.capture_reader.specs.Taken.{waiting, whole_lines, Took, TookNone}
use Rattle.capture_reader.specs.Window.{Held, HasNoLine, HeldMore, coming}
use Rattle.capture_reader.proofs.Merging.{of_some}
use Rattle.capture_reader.proofs.Taken.{held_on, took_on, no_whole_line, one_whole_line}

-- by the cases of a result
pub on_either : {A E : Type 0} {P Q : Type 0} (R : Type 0) (answer : Result A E) → OnOk answer P → OnErr answer Q → (P → R) → (Q → R) → R
on_either R (Ok value) ok err if_ok if_err = if_ok ok
on_either R (Err why) ok err if_ok if_err = if_err err

-- two facts of the same value
pub IfOk-both : {A E : Type 0} (answer : Result A E) (P Q R : A → Type 0) → ((value : A) → P value → Q value → R value) → IfOk answer P → IfOk answer Q → IfOk answer R
IfOk-both (Ok value) P Q R both one other = both value one other
IfOk-both (Err why) P Q R both one other = tt

-- what comes behind an end that wasn't met
coming_open : (held : Held) (more : List ℕ) → held.ended ≡ false → coming held more ≡ held.bytes ++ more
coming_open held more unmet = rw unmet refl

-- bytes that are held longer hold the same records
pub held_took : (now : CaptureSource) (held : Held) (ahead : Ahead) (ended : Bool) (left left_after : Option (List ℕ)) → HeldMore now.window held left left_after
    → Took (records_in now) (records_in (record now { window = held; ahead = ahead })) ended left left_after 0
unfolding records_in
held_took now held ahead ended left left_after more_held = record {
  bytes = more_held.bytes;
  left_is = more_held.left_is;
  counted = λ unmet more.
      let count : List ℕ → ℕ = λ bytes. length (records now.ports now.tick now.offset 0 bytes).events in
      let same : count (now.window.bytes ++ (more_held.bytes ++ more)) ≡ count (held.bytes ++ more) =
      ap count (sym (append_assoc now.window.bytes more_held.bytes more) ∙ ap (λ bytes. bytes ++ more) (sym more_held.held_is)) in
      omega arith;
}

-- a record that was taken is one of them
pub record_took : (now new : CaptureSource) (held : Held) (left left_after : Option (List ℕ)) (P : Seen → Type 0) → HeldMore now.window held left left_after → new.window.ended ≡ held.ended
    → IsSomeAnd (ahead_of new.ahead) (λ event. P event × ((more : List ℕ) → records now.ports now.tick now.offset 0 (coming held more)
    ≡ in_front event (records new.ports new.tick new.offset 0 (coming new.window more))))
    → Took (records_in now) (records_in new) new.window.ended left left_after 1
unfolding records_in
record_took now new held left left_after P more_held same_end found = record {
  bytes = more_held.bytes;
  left_is = more_held.left_is;
  counted = λ unmet more.
      let count : List ℕ → ℕ = λ bytes. length (records now.ports now.tick now.offset 0 bytes).events in
      let count_after : List ℕ → ℕ = λ bytes. length (records new.ports new.tick new.offset 0 bytes).events in
      let same : count (now.window.bytes ++ (more_held.bytes ++ more)) ≡ count (coming held more) =
      ap count (sym (append_assoc now.window.bytes more_held.bytes more) ∙ ap (λ bytes. bytes ++ more) (sym more_held.held_is) ∙ sym (coming_open held more (sym same_end ∙ unmet))) in
      let moved : count (coming held more) ≡ count_after (coming new.window more) + 1 = of_some (ahead_of new.ahead)
      (λ event is. one_more event (records now.ports now.tick now.offset 0 (coming held more)) (records new.ports new.tick new.offset 0 (coming new.window more)) (is.1 more)) found in
      let after : count_after (coming new.window more) ≡ count_after (new.window.bytes ++ more) = ap count_after (coming_open new.window more unmet) in
      omega arith;
} where
  one_more : (event : Seen) (whole rest : Schedule) → whole ≡ in_front event rest → length whole.events ≡ length rest.events + 1
  one_more event whole rest is =
      let same : length whole.events ≡ length (in_front event rest).events = ap (λ (schedule : Schedule). length schedule.events) is in
      omega arith

-- a look that held more first
pub took_held : (now new : CaptureSource) (held : Held) (left left_between left_after : Option (List ℕ)) (given : ℕ) → HeldMore now.window held left left_between
    → Took (records_in (record now { window = held })) (records_in new) new.window.ended left_between left_after given
    → Took (records_in now) (records_in new) new.window.ended left left_after given
took_held now new held left left_between left_after given more_held looked =
    let total : given ≡ 0 + given = omega arith in
    took_on (records_in now) (records_in (record now { window = held })) (records_in new) false new.window.ended left left_between left_after 0 given given total
    (held_took now held now.ahead false left left_between more_held) looked (λ unmet. refl)

pub one_waits : (ahead : Option Seen) (P : Seen → Type 0) → IsSomeAnd ahead P → waiting ahead ≡ 1
one_waits None P is = absurd is
one_waits (Some event) P is = refl

-- a look that failed
pub failed_took : (now looked : CaptureSource) (held : Held) (ahead : Ahead) (left left_between left_after : Option (List ℕ)) → HeldMore now.window held left left_between
    → HeldMore held looked.window left_between left_after → looked ≡ record now { window = looked.window }
    → Took (records_in now) (records_in (record looked { ahead = ahead })) looked.window.ended left left_after 0
unfolding records_in
failed_took now looked held ahead left left_between left_after first then same =
    let window : Held = looked.window in
    let took = held_took now window now.ahead window.ended left left_after (held_on now.window held window left left_between left_after first then) in
    let P : CaptureSource → Type 0 = λ source. Took (records_in now) (records_in (record source { window = window })) window.ended left left_after 0 in
    subst P (sym same) took

-- nothing whole was taken where nothing whole is held
pub none_taken : (now new : CaptureSource) (left left_after : Option (List ℕ)) → Took (records_in now) (records_in new) new.window.ended left left_after 0 → new.window.ended ≡ false
    → IsPartial new.ports new.tick new.offset new.window → TookNone (records_in now) left left_after
unfolding records_in
none_taken now new left left_after took unmet none = record {
  bytes = took.bytes;
  left_is = took.left_is;
  none =
      let count : List ℕ → ℕ = λ bytes. length (records now.ports now.tick now.offset 0 (now.window.bytes ++ bytes)).events in
      let count_after : List ℕ → ℕ = λ bytes. length (records new.ports new.tick new.offset 0 bytes).events in
      let all : count (took.bytes ++ []) ≡ count_after (new.window.bytes ++ []) + 0 = took.counted unmet [] in
      let bytes : count (took.bytes ++ []) ≡ count took.bytes = ap count (append-nil took.bytes) in
      let after : count_after (new.window.bytes ++ []) ≡ count_after new.window.bytes = ap count_after (append-nil new.window.bytes) in
      let nothing : count_after new.window.bytes ≡ 0 = ap length none in
      omega arith;
}

-- the same of lines

pub script_took : (now new : ScriptSource) (held : Held) (left left_after : Option (List ℕ)) → HeldMore now.window held left left_after → new.window.ended ≡ held.ended
    → (held.ended ≡ false → (more : List ℕ) → lines_in (record now { window = held; ahead = None }) more ≡ lines_in new more + waiting (line_of new.ahead))
    → Took (lines_in now) (lines_in new) new.window.ended left left_after (waiting (line_of new.ahead))
unfolding lines_in
script_took now new held left left_after more_held same_end counted = record {
  bytes = more_held.bytes;
  left_is = more_held.left_is;
  counted = λ unmet more.
      let same : whole_lines (now.window.bytes ++ (more_held.bytes ++ more)) ≡ whole_lines (held.bytes ++ more) =
      ap whole_lines (sym (append_assoc now.window.bytes more_held.bytes more) ∙ ap (λ bytes. bytes ++ more) (sym more_held.held_is)) in
      same ∙ counted (sym same_end ∙ unmet) more;
}

-- without a line that was taken none less is held
pub nothing_counted : (now new : ScriptSource) (more : List ℕ) → now.ahead ≡ None → new ≡ now → lines_in now more ≡ lines_in new more + waiting (line_of new.ahead)
nothing_counted now new more none same =
    let lines : lines_in new more ≡ lines_in now more = ap (λ (source : ScriptSource). lines_in source more) same in
    let waits : waiting (line_of new.ahead) ≡ 0 = ap (λ (source : ScriptSource). waiting (line_of source.ahead)) same ∙ ap (λ (ahead : Option Said). waiting (line_of ahead)) none in
    omega arith

-- a line that was taken is one of them
pub line_counted : (now new : ScriptSource) (size : ℕ) (said : Said) (more : List ℕ) → position is_line_feed now.window.bytes ≡ Some size → new.window.bytes ≡ drop (size + 1) now.window.bytes
    → new.ahead ≡ Some said → lines_in now more ≡ lines_in new more + waiting (line_of new.ahead)
unfolding lines_in
line_counted now new size said more feed rest ahead =
    let one : whole_lines (now.window.bytes ++ more) ≡ whole_lines (drop (size + 1) now.window.bytes ++ more) + 1 = one_whole_line now.window.bytes more size feed in
    let behind : whole_lines (new.window.bytes ++ more) ≡ whole_lines (drop (size + 1) now.window.bytes ++ more) = ap (λ bytes. whole_lines (bytes ++ more)) rest in
    let waits : waiting (line_of new.ahead) ≡ 1 = ap (λ (ahead : Option Said). waiting (line_of ahead)) ahead in
    omega arith

pub no_line_taken : (now new : ScriptSource) (left left_after : Option (List ℕ)) → Took (lines_in now) (lines_in new) new.window.ended left left_after 0 → new.window.ended ≡ false
    → HasNoLine new.window.bytes → TookNone (lines_in now) left left_after
unfolding lines_in
no_line_taken now new left left_after took unmet none = record {
  bytes = took.bytes;
  left_is = took.left_is;
  none =
      let all : whole_lines (now.window.bytes ++ (took.bytes ++ [])) ≡ whole_lines (new.window.bytes ++ []) + 0 = took.counted unmet [] in
      let bytes : whole_lines (now.window.bytes ++ (took.bytes ++ [])) ≡ whole_lines (now.window.bytes ++ took.bytes) = ap (λ bytes. whole_lines (now.window.bytes ++ bytes)) (append-nil took.bytes) in
      let after : whole_lines (new.window.bytes ++ []) ≡ whole_lines new.window.bytes = ap whole_lines (append-nil new.window.bytes) in
      let nothing : whole_lines new.window.bytes ≡ 0 = no_whole_line new.window.bytes none in
      omega arith;
}
