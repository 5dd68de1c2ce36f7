-- One snapshot more.
use Rattle.std.proofs.Common.{◌≡◌, ℕ, zero, suc, ◌<◌, Bool, true, false, ◌&&◌, List, [], ◌∷◌, slice_set, Option, Some, refl, sym, ap, arith}
use Rattle.std.specs.Prelude.{IsTrue, bit_or}
use Rattle.std.specs.List.{list_all}
use Rattle.std.specs.Option.{option_map}
use Rattle.std.proofs.lemmas.Bool.{lt-ltb, ltb-true}
use Rattle.std.proofs.lemmas.Nat.{or_lt}
use Rattle.psd_base.specs.declared.sample.Sample.{Sample}
use Rattle.console_plug.specs.Given.{is_button_set, with_buttons}
use Rattle.console_plug.specs.Shown.{Snapshot, at_place, last_of_each, all_buttons, with_snapshot}

-- the last snapshot of its place is the new one, and those of the others stay
pub last_of_each-more : {V : Type 0} (nothing : V) (snapshots : List (Snapshot V)) (place : ℕ) (says : V) → place < 8
    → last_of_each nothing (at_place place says ∷ snapshots) ≡ slice_set (last_of_each nothing snapshots) place says
last_of_each-more nothing snapshots zero says within = refl
last_of_each-more nothing snapshots (suc zero) says within = refl
last_of_each-more nothing snapshots (suc (suc zero)) says within = refl
last_of_each-more nothing snapshots (suc (suc (suc zero))) says within = refl
last_of_each-more nothing snapshots (suc (suc (suc (suc zero)))) says within = refl
last_of_each-more nothing snapshots (suc (suc (suc (suc (suc zero))))) says within = refl
last_of_each-more nothing snapshots (suc (suc (suc (suc (suc (suc zero)))))) says within = refl
last_of_each-more nothing snapshots (suc (suc (suc (suc (suc (suc (suc zero))))))) says within = refl
last_of_each-more nothing snapshots (suc (suc (suc (suc (suc (suc (suc (suc place)))))))) says within = absurd (omega arith)

-- what is shown of the buttons after one snapshot more
pub all_buttons-more : (snapshots : List (Snapshot ℕ)) (place buttons : ℕ) (each : List ℕ) (said : Option (Snapshot ℕ)) → place < 8
    → Some (at_place place buttons) ≡ said → each ≡ last_of_each 0 snapshots
    → all_buttons 0 (slice_set each place buttons) ≡ all_buttons 0 (last_of_each 0 (with_snapshot said snapshots))
all_buttons-more snapshots place buttons each said within is kept =
    rw (sym is, kept) (ap (all_buttons 0) (sym (last_of_each-more 0 snapshots place buttons within)))

-- the sample of a snapshot, with these buttons
pub given-more : (place : ℕ) (sample : Sample) (buttons all : ℕ) (said : Option (Snapshot Sample)) → Some (at_place place sample) ≡ said → buttons ≡ all
    → Some (with_buttons buttons sample) ≡ option_map (λ (snapshot : Snapshot Sample). with_buttons all snapshot.says) said
given-more place sample buttons all said is same = rw (sym is, same) refl

both : {first second : Bool} → IsTrue first → IsTrue second → IsTrue (first && second)
both first second = rw (first, second) refl

left : (first second : Bool) → IsTrue (first && second) → IsTrue first
left true second holds = refl
left false second holds = absurd (cc)

right : (first second : Bool) → IsTrue (first && second) → IsTrue second
right true second holds = holds
right false second holds = absurd (cc)

-- one more set of buttons among such sets
pub button_sets-set : (sets : List ℕ) (place buttons : ℕ) → buttons < 32 → IsTrue (list_all is_button_set sets)
    → IsTrue (list_all is_button_set (slice_set sets place buttons))
button_sets-set [] place buttons small all = all
button_sets-set (set ∷ sets) zero buttons small all = both (lt-ltb buttons 32 small) (right (is_button_set set) (list_all is_button_set sets) all)
button_sets-set (set ∷ sets) (suc place) buttons small all =
    both (left (is_button_set set) (list_all is_button_set sets) all)
    (button_sets-set sets place buttons small (right (is_button_set set) (list_all is_button_set sets) all))

-- the union of sets of buttons is one
pub all_buttons-small : (buttons : ℕ) (sets : List ℕ) → buttons < 32 → IsTrue (list_all is_button_set sets) → all_buttons buttons sets < 32
all_buttons-small buttons [] small all = small
all_buttons-small buttons (set ∷ sets) small all =
    all_buttons-small (bit_or buttons set) sets
    (or_lt 5 buttons set small (ltb-true set 32 (left (is_button_set set) (list_all is_button_set sets) all)))
    (right (is_button_set set) (list_all is_button_set sets) all)

pub ruleset snapshot_laws = (last_of_each-more, button_sets-set, all_buttons-small)
