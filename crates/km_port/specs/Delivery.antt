-- Delivery, as promises about what was sent: what a port's computer read, in each span of the port's view, of what was
-- typed and moved.
use Rattle.std.specs.Prelude.{◌≡◌, ℕ, ◌<◌, ◌≤◌, ◌==◌, Bool, true, false, ◌&&◌, List, [], ◌∷◌, ◌++◌, length, take, if◌then◌else◌}
use Rattle.psd_base.specs.KeySet.{no_keys, has_no_key}
use Rattle.psd_base.specs.declared.act.Act.TheVariants as act
use Rattle.psd_base.specs.declared.act.Answer.TheVariants as answer
use Rattle.psd_base.specs.declared.act.Side.TheVariants.{Km}
use Rattle.control_pipe.specs.declared.reaction.Effect.{Effect}
use Rattle.control_pipe.specs.declared.reaction.Effect.TheVariants as effect
use Rattle.input_latch.specs.KeyHistory as typed
use Rattle.input_latch.specs.KeyHistory.{changes_between}
use Rattle.input_latch.specs.PointerHistory as moved
use Rattle.input_latch.specs.declared.key_latch.KeyChange.{KeyChange}
use Rattle.input_latch.specs.declared.pointer_latch.PointerChange.{PointerChange}
use Rattle.emulated_keyboard.specs.KeyboardHistory.{idle_rate}
use Rattle.emulated_mouse.specs.Delivery.{ReadInOrder}
use Rattle.emulated_mouse.specs.HostReading.{reports_of, is_of_button}
use Rattle.emulated_mouse.specs.declared.report.Report.{Report}
use Rattle.port_model.specs.Concerns.{Concern, Own, Wakes, Darkens, Selects, Leaves, Item}
use Rattle.port_model.specs.OnePort.{key_sides, pointer_sides, answer_to}
use Rattle.km_port.specs.Reading.{keyboard, mouse, is_selected, effect_of, seen, last_read, acknowledged, owed, fresh, BeginsWith}

-- what the port accepted in the span, of the keys that were shown and of the samples, oldest first
abbrev pub keys_accepted : List Item → List KeyChange
keys_accepted past = typed.accepted (key_sides past).latch

abbrev pub pointer_accepted : List Item → List PointerChange
pointer_accepted past = moved.accepted (pointer_sides past).latch

-- the changes that a reader finds from each report to the next, beginning with these keys
abbrev pub changes_from : List Bool → List (List Bool) → List KeyChange
changes_from keys [] = []
changes_from keys (report ∷ reports) = changes_between keys report ++ changes_from report reports

-- the reports that tell it a change
abbrev pub if_some : {A : Type 0} → List KeyChange → A → A → A
if_some [] some none = none
if_some (change ∷ changes) some none = some

abbrev pub telling_from : List Bool → List (List Bool) → List (List Bool)
telling_from keys [] = []
telling_from keys (report ∷ reports) =
    if_some (changes_between keys report) (report ∷ telling_from report reports) (telling_from report reports)

-- Of the span in which a view ends: what it owed at the keyboard, what was acknowledged there, the fresh reports of that,
-- the changes that the computer read in these, and those of them that tell a change
abbrev pub owed_keys : List Item → List (List Bool)
owed_keys past = owed keyboard (seen keyboard past)

abbrev pub acknowledged_keys : List Item → List (List Bool)
acknowledged_keys past = acknowledged (seen keyboard past)

abbrev pub fresh_keys : List Item → List (List Bool)
fresh_keys past = fresh keyboard (seen keyboard past)

abbrev pub keys_read : List Item → List KeyChange
keys_read past = changes_from no_keys (fresh_keys past)

abbrev pub telling : List Item → List (List Bool)
telling past = telling_from no_keys (fresh_keys past)

-- and what it owed at the mouse, what was acknowledged there, and the fresh reports of that
abbrev pub owed_pointer : List Item → List Report
owed_pointer past = owed mouse (seen mouse past)

abbrev pub acknowledged_pointer : List Item → List Report
acknowledged_pointer past = acknowledged (seen mouse past)

abbrev pub pointer_read : List Item → List Report
pointer_read past = fresh mouse (seen mouse past)

-- the idle rate after a view, and whether it was 0 throughout the span
abbrev pub idle_rate_after : List Item → ℕ
idle_rate_after past = idle_rate (key_sides past).keyboard

abbrev pub begins_span : Effect → Bool
begins_span effect.Nothing = false
begins_span effect.Reset = true
begins_span effect.Configured = true
begins_span (effect.Restart endpoint) = false

abbrev pub never_repeats : List Item → Bool
never_repeats [] = false
never_repeats (item ∷ past) =
    with_concern item.concern past (never_repeats past) (idle_rate_after (item ∷ past) == 0)
  where
    with_concern : Concern → List Item → Bool → Bool → Bool
    with_concern (Own Km act) past before zero_now =
        if begins_span (effect_of past act) then zero_now else before && zero_now
    with_concern Selects past before zero_now = if is_selected past then before else zero_now
    with_concern Leaves past before zero_now = false
    with_concern Wakes past before zero_now = false
    with_concern Darkens past before zero_now = false
    with_concern _ past before zero_now = before

-- What the computer reads at its keyboard while its port is selected.
pub record KeysRead (past : List Item) : Type 0 where
  -- what is acknowledged is what the span owed, and then the fresh reports
  pub owed_first : BeginsWith (owed_keys past ++ fresh_keys past) (acknowledged_keys past)
  -- the changes read are the first accepted changes, as many as there are fresh reports that tell a change; and these
  -- reports alone give the same
  pub in_order : keys_read past ≡ take (length (telling past)) (keys_accepted past)
  pub by_telling : changes_from no_keys (telling past) ≡ take (length (telling past)) (keys_accepted past)
  pub within : length (telling past) ≤ length (keys_accepted past)
  -- a poll is answered NAK only where all accepted changes were read
  pub all_read : (tick address : ℕ) (acked : Bool)
      → answer_to past tick Km (act.In address 1 acked) ≡ answer.Nak → keys_read past ≡ keys_accepted past
  -- where the idle rate was 0 throughout the span, every fresh report tells a change
  pub all_telling : never_repeats past ≡ true → telling past ≡ fresh_keys past

-- What the computer reads at its mouse while its port is selected.
pub record PointerRead (past : List Item) : Type 0 where
  pub owed_first : BeginsWith (owed_pointer past ++ pointer_read past) (acknowledged_pointer past)
  -- the fresh reports are the first of those of the accepted changes
  pub in_order : BeginsWith (reports_of (pointer_accepted past)) (pointer_read past)
  -- a poll is answered NAK only where all of them were read
  pub all_read : (tick address : ℕ) (acked : Bool)
      → answer_to past tick Km (act.In address 2 acked) ≡ answer.Nak
      → pointer_read past ≡ reports_of (pointer_accepted past)
  -- Button changes are read in order, and the motions that are read before the first and between two of them add up
  -- to the accepted motions there. The later of two accepted button changes was read where more reports were than
  -- those of all changes before it.
  pub buttons : (before between after : List PointerChange) (first second : PointerChange)
      → pointer_accepted past ≡ before ++ first ∷ (between ++ second ∷ after)
      → is_of_button first ≡ true → is_of_button second ≡ true
      → length (reports_of (before ++ first ∷ between)) < length (pointer_read past)
      → ReadInOrder before between first second (pointer_read past)

-- What it reads while its port isn't selected: no more than was owed when the port was left, which is the report that it
-- hadn't acknowledged and then one with nothing pressed. A poll is answered NAK only where the report that was acknowledged
-- last since the last bus reset or configuration has nothing pressed, or there is none.
pub record ReleaseRead (past : List Item) : Type 0 where
  pub keys : BeginsWith (owed_keys past) (acknowledged_keys past)
  pub pointer : BeginsWith (owed_pointer past) (acknowledged_pointer past)
  pub keys_up : (tick address : ℕ) (acked : Bool)
      → answer_to past tick Km (act.In address 1 acked) ≡ answer.Nak
      → last_read keyboard (seen keyboard past) ≡ no_keys
  pub buttons_up : (tick address : ℕ) (acked : Bool)
      → answer_to past tick Km (act.In address 2 acked) ≡ answer.Nak
      → has_no_key (last_read mouse (seen mouse past)).buttons ≡ true

-- delivery for a port, after any view of it
pub record Delivery (past : List Item) : Type 0 where
  pub keys : is_selected past ≡ true → KeysRead past
  pub pointer : is_selected past ≡ true → PointerRead past
  pub apart : is_selected past ≡ false → ReleaseRead past
