-- What looking one record ahead finds, whatever bytes come behind those that are held.
use Rattle.std.proofs.Common.{◌≡◌, ℕ, ◌+◌, ◌<◌, ◌≤◌, Bool, true, false, List, [], ◌∷◌, ◌++◌, length, drop, slice_range, Option, Some, None, option_map, IfSome, IsSomeAnd, Ok, Err, refl, sym, ap, ◌∙◌, subst, arith, append-nil, length-append, take-append-drop}
use Rattle.std.proofs.lemmas.List.{drop-append-le}
use Rattle.psd_base.specs.declared.stop.CaptureFault.{CaptureFault}
use Rattle.psd_base.specs.declared.stop.CaptureFault.TheVariants.{Truncated}
use Rattle.psd_base.specs.declared.stop.Stop.{Stop}
use Rattle.psd_base.specs.declared.stop.Stop.TheVariants as stops
use Rattle.psd_base.specs.Event.{Happening, HappensWithin, Seen}
use Rattle.capture_reader.specs.declared.form.Form.{Form}
use Rattle.capture_reader.specs.declared.form.Head.{Head}
use Rattle.capture_reader.specs.Capture.{head_of, size_of, payload_of, announced, happening_in, record_at, records}
use Rattle.capture_reader.specs.Schedule.{Schedule, in_front, over}
use Rattle.capture_reader.specs.Source.{later, after_ahead, Ends, IsPartial, Announces}
use Rattle.capture_reader.specs.Taken.{moves_panel}
use Rattle.capture_reader.specs.Window.{Held, coming, still, Begins}
use Rattle.capture_reader.proofs.Records.{records_valid, records_faulty, head_of-append, payload_of-append, record_at-short, record_at-head, record_at-cut, record_at-field, record_at-valid}

-- what comes is what is held, and something behind it
pub coming_is : (bytes : List ℕ) (ended : Bool) (left : List ℕ) → (more : List ℕ) × (coming (record { bytes = bytes; ended = ended }) left ≡ bytes ++ more)
coming_is bytes true left = ([], sym (append-nil bytes))
coming_is bytes false left = (left, refl)

ends_by : (ports last offset : ℕ) (held : Held) (why : CaptureFault) → 0 < length held.bytes
    → ((more : List ℕ) → record_at ports last (held.bytes ++ more) ≡ Err why) → Ends (records ports last offset 0) held (Some (stops.Capture offset why))
ends_by ports last offset held why some faulty left =
    let behind = coming_is held.bytes held.ended left in
    let size : 0 < length (held.bytes ++ behind.0) = omega (arith, length-append held.bytes behind.0) in
    ap (records ports last offset 0) behind.1 ∙ records_faulty ports last offset why (held.bytes ++ behind.0) size (faulty behind.0)

pub coming_ended : (held : Held) (left : List ℕ) → held.ended ≡ true → coming held left ≡ held.bytes
coming_ended held left ended = rw ended refl

pub ends_empty : (ports last offset : ℕ) (held : Held) → held.ended ≡ true → held.bytes ≡ [] → Ends (records ports last offset 0) held None
unfolding records
ends_empty ports last offset held ended empty left = ap (records ports last offset 0) (coming_ended held left ended ∙ empty)

pub ends_short : (ports last offset : ℕ) (held : Held) → held.ended ≡ true → 0 < length held.bytes → length held.bytes < 8
    → Ends (records ports last offset 0) held (Some (stops.Capture offset Truncated))
ends_short ports last offset held ended some short left =
    ap (records ports last offset 0) (coming_ended held left ended) ∙ records_faulty ports last offset Truncated held.bytes some (record_at-short ports last held.bytes short)

pub ends_head : (ports last offset : ℕ) (held : Held) (why : CaptureFault) → 8 ≤ length held.bytes → announced ports last (head_of held.bytes) ≡ Err why
    → Ends (records ports last offset 0) held (Some (stops.Capture offset why))
ends_head ports last offset held why whole faulty =
    ends_by ports last offset held why (omega arith) (λ more.
    record_at-head ports last (held.bytes ++ more) why (omega (arith, length-append held.bytes more)) (ap (announced ports last) (head_of-append held.bytes more whole) ∙ faulty))

pub ends_cut : (ports last offset : ℕ) (held : Held) (head : Head) (form : Form) → Announces ports last held.bytes head form → held.ended ≡ true
    → length held.bytes < size_of head → Ends (records ports last offset 0) held (Some (stops.Capture offset Truncated))
ends_cut ports last offset held head form sound ended short left =
    let size : length held.bytes < size_of (head_of held.bytes) = let P : Head → Type 0 = λ h. length held.bytes < size_of h in subst P (sym sound.head_is) short in
    ap (records ports last offset 0) (coming_ended held left ended)
    ∙ records_faulty ports last offset Truncated held.bytes (omega (arith, sound.whole)) (record_at-cut ports last held.bytes form sound.whole (ap (announced ports last) sound.head_is ∙ sound.form_is) size)

-- the same facts of longer bytes
record LongerSound (ports last : ℕ) (xs ys : List ℕ) (head : Head) (form : Form) : Type 0 where
  whole : 8 ≤ length (xs ++ ys)
  head_is : head_of (xs ++ ys) ≡ head
  form_is : announced ports last (head_of (xs ++ ys)) ≡ Ok form
  enough : size_of (head_of (xs ++ ys)) ≤ length (xs ++ ys)
  payload : payload_of (xs ++ ys) ≡ slice_range xs 8 (size_of head)

longer_sound : (ports last : ℕ) (xs ys : List ℕ) (head : Head) (form : Form) → Announces ports last xs head form → size_of head ≤ length xs
    → LongerSound ports last xs ys head form
longer_sound ports last xs ys head form sound enough =
    let same : head_of (xs ++ ys) ≡ head = head_of-append xs ys sound.whole ∙ sound.head_is in
    let size : size_of (head_of (xs ++ ys)) ≡ size_of head = ap (λ (h : Head). size_of h) same in
    let own : size_of (head_of xs) ≡ size_of head = ap (λ (h : Head). size_of h) sound.head_is in
    record {
      whole = omega (arith, length-append xs ys, sound.whole);
      head_is = same;
      form_is = ap (announced ports last) same ∙ sound.form_is;
      enough = omega (arith, length-append xs ys, size, enough);
      payload = payload_of-append xs ys sound.whole (omega (arith, own, enough)) ∙ ap (λ (h : Head). slice_range xs 8 (size_of h)) sound.head_is;
    }

pub ends_field : (ports last offset : ℕ) (held : Held) (head : Head) (form : Form) (why : CaptureFault) → Announces ports last held.bytes head form
    → size_of head ≤ length held.bytes → happening_in form (slice_range held.bytes 8 (size_of head)) ≡ Err why
    → Ends (records ports last offset 0) held (Some (stops.Capture offset why))
ends_field ports last offset held head form why sound enough faulty =
    ends_by ports last offset held why (omega (arith, sound.whole)) (λ more.
    let l = longer_sound ports last held.bytes more head form sound enough in
    record_at-field ports last (held.bytes ++ more) form why l.whole l.form_is l.enough (ap (happening_in form) l.payload ∙ faulty))

pub coming_past : (bytes : List ℕ) (ended : Bool) (left : List ℕ) (count : ℕ) → count ≤ length bytes
    → drop count (coming (record { bytes = bytes; ended = ended }) left) ≡ coming (record { bytes = drop count bytes; ended = ended }) left
coming_past bytes true left count within = refl
coming_past bytes false left count within = drop-append-le count bytes left within

-- a valid record, and what comes behind it
pub moves_on : (ports last offset : ℕ) (held : Held) (head : Head) (form : Form) (happening : Happening) → Announces ports last held.bytes head form
    → size_of head ≤ length held.bytes → happening_in form (slice_range held.bytes 8 (size_of head)) ≡ Ok happening → (left : List ℕ)
    → records ports last offset 0 (coming held left)
    ≡ in_front (record { tick = head.tick; happening = happening }) (records ports head.tick (offset + size_of head) 0 (coming (record held { bytes = drop (size_of head) held.bytes }) left))
moves_on ports last offset held head form happening sound enough valid left =
    let behind = coming_is held.bytes held.ended left in
    let l = longer_sound ports last held.bytes behind.0 head form sound enough in
    let whole : List ℕ = held.bytes ++ behind.0 in
    let event : Head → Seen = λ (h : Head). record { tick = h.tick; happening = happening } in
    let after : Head → Schedule = λ (h : Head). in_front (event h) (records ports h.tick (offset + size_of h) 0 (drop (size_of h) whole)) in
    let rest : drop (size_of head) whole ≡ coming (record held { bytes = drop (size_of head) held.bytes }) left =
    ap (drop (size_of head)) (sym behind.1) ∙ coming_past held.bytes held.ended left (size_of head) enough in
    ap (records ports last offset 0) behind.1
    ∙ records_valid ports last offset (event (head_of whole)) whole (omega (arith, l.whole)) (record_at-valid ports last whole form happening l.whole l.form_is l.enough (ap (happening_in form) l.payload ∙ valid))
    ∙ ap after l.head_is
    ∙ ap (λ bytes. in_front (event head) (records ports head.tick (offset + size_of head) 0 bytes)) rest

partial_by : (ports last offset : ℕ) (bytes : List ℕ) → record_at ports last bytes ≡ Err Truncated → (records ports last offset 0 bytes).events ≡ []
unfolding records
partial_by ports last offset [] cut = refl
partial_by ports last offset (byte ∷ bytes) cut = ap (λ (recording : Schedule). recording.events) (records_faulty ports last offset Truncated (byte ∷ bytes) (omega arith) cut)

pub partial_short : (ports last offset : ℕ) (held : Held) → length held.bytes < 8 → IsPartial ports last offset held
partial_short ports last offset held short = partial_by ports last offset held.bytes (record_at-short ports last held.bytes short)

pub partial_cut : (ports last offset : ℕ) (held : Held) (head : Head) (form : Form) → Announces ports last held.bytes head form
    → length held.bytes < size_of head → IsPartial ports last offset held
partial_cut ports last offset held head form sound short =
    let size : length held.bytes < size_of (head_of held.bytes) = let P : Head → Type 0 = λ h. length held.bytes < size_of h in subst P (sym sound.head_is) short in
    partial_by ports last offset held.bytes (record_at-cut ports last held.bytes form sound.whole (ap (announced ports last) sound.head_is ∙ sound.form_is) size)

-- the same where the desk may not tell what it has left
pub later_ends : (walk : List ℕ → Schedule) (held : Held) (stop : Option Stop) (left : Option (List ℕ)) → Ends walk held stop → IfSome (later walk held left) (λ recording. recording ≡ over stop)
unfolding later still
later_ends walk held stop None ends = tt
later_ends walk held stop (Some left) ends = ends left

pub later_still : (walk : List ℕ → Schedule) (held held_after : Held) (left left_after : Option (List ℕ)) → still held_after left_after ≡ still held left
    → later walk held left ≡ later walk held_after left_after
unfolding later
later_still walk held held_after left left_after same = ap (option_map walk) (sym same)

pub later_moves : (walk walk_after : List ℕ → Schedule) (held held_after : Held) (ahead : Option Seen) (left : Option (List ℕ))
    → ((bytes : List ℕ) → walk (coming held bytes) ≡ after_ahead ahead (walk_after (coming held_after bytes)))
    → later walk held left ≡ option_map (after_ahead ahead) (later walk_after held_after left)
unfolding later still
later_moves walk walk_after held held_after ahead None moves = refl
later_moves walk walk_after held held_after ahead (Some left) moves = ap Some (moves left)

-- more bytes behind a sound head
pub announces_longer : (ports last : ℕ) (xs ys : List ℕ) (head : Head) (form : Form) → Announces ports last xs head form → Begins xs ys → Announces ports last ys head form
announces_longer ports last xs ys head form sound begins =
    let whole : ys ≡ xs ++ drop (length xs) ys = sym (take-append-drop (length xs) ys) ∙ ap (λ front. front ++ drop (length xs) ys) begins in
    record {
      whole = omega (arith, ap length whole, length-append xs (drop (length xs) ys), sound.whole);
      head_is = ap head_of whole ∙ head_of-append xs (drop (length xs) ys) sound.whole ∙ sound.head_is;
      form_is = sound.form_is;
      ordered = sound.ordered;
      port_is_within = sound.port_is_within;
      size_fits = sound.size_fits;
      size_is_small = sound.size_is_small;
    }

-- a weaker fact of the value that is there
pub some_and : {X : Type 0} {P Q : X → Type 0} (found : Option X) → ((value : X) → P value → Q value) → IsSomeAnd found P → IsSomeAnd found Q
some_and None weaker is = is
some_and (Some value) weaker is = weaker value is

-- an event that was read ahead is the first of those that come
pub ahead_read : (ahead : Option Seen) (before after : Option Schedule) → IsSomeAnd ahead (λ event. before ≡ option_map (in_front event) after)
    → before ≡ option_map (after_ahead ahead) after
ahead_read None before after is = absurd is
ahead_read (Some event) before after is = is

pub nothing_ahead : (ahead : Option Seen) (recording : Option Schedule) → ahead ≡ None → recording ≡ option_map (after_ahead ahead) recording
nothing_ahead None None none = refl
nothing_ahead None (Some recording) none = refl
nothing_ahead (Some event) recording none = absurd (cc)

-- the event of a whole record is in its place
pub record_taken : (place : Option Seen) (ports last offset : ℕ) (held held_after : Held) (head : Head) (form : Form) → Announces ports last held.bytes head form
    → size_of head ≤ length held.bytes → held_after ≡ record held { bytes = drop (size_of head) held.bytes }
    → IsSomeAnd place (λ event. (event.tick ≡ head.tick) × (happening_in form (slice_range held.bytes 8 (size_of head)) ≡ Ok event.happening))
    → IfSome place (λ event. HappensWithin ports event.happening) → IfSome place (λ event. moves_panel event.happening ≡ false)
    → IsSomeAnd place (λ event. ((event.tick ≡ head.tick) × HappensWithin ports event.happening × (moves_panel event.happening ≡ false))
    × ((left : List ℕ) → records ports last offset 0 (coming held left) ≡ in_front event (records ports head.tick (offset + size_of head) 0 (coming held_after left))))
record_taken None ports last offset held held_after head form sound enough same valid within still = absurd valid
record_taken (Some event) ports last offset held held_after head form sound enough same valid within still = (
  (valid.0, within, still),
  λ left.
      moves_on ports last offset held head form event.happening sound enough valid.1 left
      ∙ ap (λ (after : Held). in_front (record { tick = head.tick; happening = event.happening }) (records ports head.tick (offset + size_of head) 0 (coming after left))) (sym same)
      ∙ ap (λ tick. in_front (record { tick = tick; happening = event.happening }) (records ports head.tick (offset + size_of head) 0 (coming held_after left))) (sym valid.0),
)
