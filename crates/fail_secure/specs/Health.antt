-- What the self-test comes to, told by all that was reported to it. Histories are newest first.
use Rattle.std.specs.Prelude.{ℕ, ◌+◌, ◌<◌, Bool, true, false, not, ◌&&◌, ◌||◌, ◌==◌, List, [], ◌∷◌, if◌then◌else◌}
use Rattle.std.specs.List.{list_any}
use Rattle.fail_secure.specs.declared.health.Health.{Health}
use Rattle.fail_secure.specs.declared.health.TheConstants.{ALL_CHECKS}
use Rattle.fail_secure.specs.declared.health.Health.TheVariants.{Testing, Alive, Dark}

-- what is reported: that a check passed or failed, with whether no button is down then, and that the case was opened
pub data Report : Type 0 where
  Checked : ℕ → Bool → Bool → Report
  Tampered : Report

abbrev pub is_failure : Report → Bool
is_failure (Checked check passed buttons_up) = not passed
is_failure Tampered = true

abbrev pub is_pass_of : ℕ → Report → Bool
is_pass_of check (Checked other passed buttons_up) = other == check && passed
is_pass_of check Tampered = false

abbrev pub has_button_down : Report → Bool
has_button_down (Checked check passed buttons_up) = not buttons_up
has_button_down Tampered = false

-- whether a check passed so far
abbrev pub has_passed : ℕ → List Report → Bool
has_passed check past = list_any (is_pass_of check) past

-- whether each of the four checks passed
abbrev pub have_all_passed : List Report → Bool
have_all_passed past = has_passed 1 past && has_passed 2 past && has_passed 3 past && has_passed 4 past

-- whether a button was down when the last of the four checks passed
abbrev pub ended_with_button : List Report → Bool
ended_with_button [] = false
ended_with_button (report ∷ past) =
    if have_all_passed past then ended_with_button past else
    have_all_passed (report ∷ past) && has_button_down report

-- Dark from the first failure on, whenever it comes, and from a self-test on that ended with a button down.
abbrev pub has_failed : List Report → Bool
has_failed past = list_any is_failure past || ended_with_button past

-- the checks that passed, check n in bit n - 1
abbrev pub passed_bits : List Report → ℕ
passed_bits past =
    (if has_passed 1 past then 1 else 0) + (if has_passed 2 past then 2 else 0)
    + (if has_passed 3 past then 4 else 0) + (if has_passed 4 past then 8 else 0)

unfoldable pub health_after : List Report → Health
health_after past =
    if has_failed past then Dark else (if have_all_passed past then Alive else Testing (passed_bits past))

-- a self-test that goes on lacks a check
abbrev pub IsUnfinished : Health → Type 0
IsUnfinished (Testing passed) = passed < ALL_CHECKS
IsUnfinished Alive = Unit {0}
IsUnfinished Dark = Unit {0}
