-- What an accepted keyboard or mouse shows: of each accepted interface the last report that its layout reads, and the union of
-- these.
use Rattle.std.specs.Prelude.{ℕ, ◌==◌, Bool, List, [], ◌∷◌, map, Option, Some, None, bit_or, if◌then◌else◌}
use Rattle.std.specs.Option.{option_map}
use Rattle.psd_base.specs.declared.console.Plug.{Plug}
use Rattle.psd_base.specs.declared.console.Plug.TheVariants.{Keyboard, Mouse}
use Rattle.psd_base.specs.KeySet.{no_keys, union}
use Rattle.hid_report.specs.LayoutValue.{LayoutValue}
use Rattle.hid_report.specs.Keys.{keys_of}
use Rattle.hid_report.specs.Pointer.{pointer_of}
use Rattle.peripheral_filter.specs.declared.rule.RuleSet.{RuleSet}
use Rattle.console_host.specs.Lives.{Life, accepted_of, is_ready_in, layout_in, place_in}
use Rattle.console_plug.specs.Moments.{Moment, Attached, Detached, Replied, Reported, Ticked, Woke, Darkened}
use Rattle.console_plug.specs.Lives.{life_at}

-- what a report says, and the place of its interface among the accepted ones
pub record Snapshot (V : Type 0) : Type 0 where
  pub place : ℕ
  pub says : V

abbrev pub at_place : {V : Type 0} → ℕ → V → Snapshot V
at_place place says = record { place = place; says = says }

-- how a layout reads a report; it doesn't read those that aren't of its form
abbrev pub Reading : Type 0 → Type 0
Reading V = LayoutValue → List ℕ → Option V

abbrev pub read_by : {V : Type 0} → Reading V → Option ℕ → Option LayoutValue → List ℕ → Option (Snapshot V)
read_by read None layout bytes = None
read_by read (Some place) None bytes = None
read_by read (Some place) (Some layout) bytes = option_map (at_place place) (read layout bytes)

-- a report of an accepted interface of a peripheral that is ready; any other says nothing
abbrev pub snapshot_of : {V : Type 0} → Reading V → Plug → RuleSet → ℕ → List ℕ → Option Life → Option (Snapshot V)
snapshot_of read plug rules interface bytes life =
    if is_ready_in plug rules life
    then read_by read (place_in interface (accepted_of plug life)) (layout_in interface (accepted_of plug life)) bytes
    else None

abbrev pub with_snapshot : {V : Type 0} → Option (Snapshot V) → List (Snapshot V) → List (Snapshot V)
with_snapshot None snapshots = snapshots
with_snapshot (Some snapshot) snapshots = snapshot ∷ snapshots

-- The snapshots of the present life, newest first. A life in which a peripheral is ready ends where it is taken off, and where
-- the switch goes dark.
abbrev pub snapshots : {V : Type 0} → Reading V → Plug → RuleSet → List Moment → List (Snapshot V)
snapshots read plug rules [] = []
snapshots read plug rules (Attached tick ∷ past) = snapshots read plug rules past
snapshots read plug rules (Detached ∷ past) = []
snapshots read plug rules (Replied life number tick reply ∷ past) = snapshots read plug rules past
snapshots read plug rules (Reported interface bytes ∷ past) =
    with_snapshot (snapshot_of read plug rules interface bytes (life_at plug rules past)) (snapshots read plug rules past)
snapshots read plug rules (Ticked tick ∷ past) = snapshots read plug rules past
snapshots read plug rules (Woke tick ∷ past) = snapshots read plug rules past
snapshots read plug rules (Darkened ∷ past) = []

-- what the last snapshot at a place says, or that nothing is pressed
abbrev pub last_at : {V : Type 0} → V → List (Snapshot V) → ℕ → V
last_at nothing [] place = nothing
last_at nothing (snapshot ∷ snapshots) place = if snapshot.place == place then snapshot.says else last_at nothing snapshots place

-- the places that accepted interfaces can have
abbrev pub places : List ℕ
places = 0 ∷ 1 ∷ 2 ∷ 3 ∷ 4 ∷ 5 ∷ 6 ∷ 7 ∷ []

abbrev pub last_of_each : {V : Type 0} → V → List (Snapshot V) → List V
last_of_each nothing snapshots = map (last_at nothing snapshots) places

-- what is down at one of them

abbrev pub all_keys : List Bool → List (List Bool) → List Bool
all_keys keys [] = keys
all_keys keys (more ∷ others) = all_keys (union keys more) others

abbrev pub all_buttons : ℕ → List ℕ → ℕ
all_buttons buttons [] = buttons
all_buttons buttons (more ∷ others) = all_buttons (bit_or buttons more) others

abbrev pub buttons_of : LayoutValue → List ℕ → Option ℕ
buttons_of layout bytes = option_map (λ sample. sample.buttons) (pointer_of layout bytes)

abbrev pub key_snapshots : RuleSet → List Moment → List (Snapshot (List Bool))
key_snapshots rules past = snapshots keys_of Keyboard rules past

abbrev pub button_snapshots : RuleSet → List Moment → List (Snapshot ℕ)
button_snapshots rules past = snapshots buttons_of Mouse rules past

-- the keys that the keyboard shows, and the buttons that the mouse shows, each in its bit
unfoldable pub shown_keys : RuleSet → List Moment → List Bool
shown_keys rules past = all_keys no_keys (last_of_each no_keys (key_snapshots rules past))

unfoldable pub shown_buttons : RuleSet → List Moment → ℕ
shown_buttons rules past = all_buttons 0 (last_of_each 0 (button_snapshots rules past))
