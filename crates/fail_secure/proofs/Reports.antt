-- What one more report does to the health.
use Rattle.std.proofs.Common.{◌≡◌, ℕ, ◌+◌, ◌<◌, ◌≤◌, Bool, true, false, not, List, [], ◌∷◌, cond, refl, ap, arith}
use Rattle.std.specs.Prelude.{◌&&◌, ◌||◌}
use Rattle.std.specs.List.{list_any}
use Rattle.fail_secure.specs.declared.health.Health.{Health}
use Rattle.fail_secure.specs.declared.health.Health.TheVariants.{Testing, Alive, Dark}
use Rattle.fail_secure.specs.Health.{Report, Checked, Tampered, is_failure, is_pass_of, has_button_down, has_passed, have_all_passed, ended_with_button, passed_bits, health_after}

-- the health by whether it is dark, whether all checks passed, and which did
abbrev health_by : Bool → Bool → ℕ → Health
health_by dark all bits = cond dark Dark (cond all Alive (Testing bits))

pub record IsTesting (past : List Report) (passed : ℕ) : Type 0 where
  pub no_failure : list_any is_failure past ≡ false
  pub no_button : ended_with_button past ≡ false
  pub missing : have_all_passed past ≡ false
  pub bits : passed ≡ passed_bits past

pub record IsAlive (past : List Report) : Type 0 where
  pub no_failure : list_any is_failure past ≡ false
  pub no_button : ended_with_button past ≡ false
  pub passed : have_all_passed past ≡ true

testing_by : (failed ended all : Bool) (passed bits : ℕ) → Testing passed ≡ health_by (failed || ended) all bits
    → (failed ≡ false) × (ended ≡ false) × (all ≡ false) × (passed ≡ bits)
testing_by true ended all passed bits is = absurd (cc)
testing_by false true all passed bits is = absurd (cc)
testing_by false false true passed bits is = absurd (cc)
testing_by false false false passed bits is = (refl, refl, refl, cc)

pub testing-is : (past : List Report) (passed : ℕ) → Testing passed ≡ health_after past → IsTesting past passed
unfolding health_after
testing-is past passed is =
    let parts = testing_by (list_any is_failure past) (ended_with_button past) (have_all_passed past) passed (passed_bits past) is in
    record { no_failure = parts.0; no_button = parts.1; missing = parts.2; bits = parts.3 }

alive_by : (failed ended all : Bool) (bits : ℕ) → Alive ≡ health_by (failed || ended) all bits → (failed ≡ false) × (ended ≡ false) × (all ≡ true)
alive_by true ended all bits is = absurd (cc)
alive_by false true all bits is = absurd (cc)
alive_by false false true bits is = (refl, refl, refl)
alive_by false false false bits is = absurd (cc)

pub alive-is : (past : List Report) → Alive ≡ health_after past → IsAlive past
unfolding health_after
alive-is past is =
    let parts = alive_by (list_any is_failure past) (ended_with_button past) (have_all_passed past) (passed_bits past) is in
    record { no_failure = parts.0; no_button = parts.1; passed = parts.2 }

-- a failure, and an opened case, make it dark
pub dark-failed : (check : ℕ) (buttons_up : Bool) (past : List Report) → Dark ≡ health_after (Checked check false buttons_up ∷ past)
unfolding health_after
dark-failed check buttons_up past = refl

pub dark-tampered : (past : List Report) → Dark ≡ health_after (Tampered ∷ past)
unfolding health_after
dark-tampered past = refl

-- and what is dark stays so
dark_by : (failed ended all : Bool) (bits : ℕ) → Dark ≡ health_by (failed || ended) all bits → (failed || ended) ≡ true
dark_by true ended all bits is = refl
dark_by false true all bits is = refl
dark_by false false true bits is = absurd (cc)
dark_by false false false bits is = absurd (cc)

once_passed : (first second third fourth a b c d : Bool) → (first && second && third && fourth) ≡ true
    → ((a || first) && (b || second) && (c || third) && (d || fourth)) ≡ true
once_passed true true true true a b c d is = grind arith
once_passed true true true false a b c d is = absurd (cc)
once_passed true true false fourth a b c d is = absurd (cc)
once_passed true false third fourth a b c d is = absurd (cc)
once_passed false second third fourth a b c d is = absurd (cc)

have_all_passed-still : (report : Report) (past : List Report) → have_all_passed past ≡ true → have_all_passed (report ∷ past) ≡ true
have_all_passed-still report past all =
    once_passed (has_passed 1 past) (has_passed 2 past) (has_passed 3 past) (has_passed 4 past)
    (is_pass_of 1 report) (is_pass_of 2 report) (is_pass_of 3 report) (is_pass_of 4 report) all

ended_by : (all_before ended all down : Bool) → (ended ≡ true → all_before ≡ true) → (all_before ≡ true → all ≡ true)
    → cond all_before ended (all && down) ≡ true → all ≡ true
ended_by true ended all down before still is = still refl
ended_by false ended true down before still is = refl
ended_by false ended false down before still is = absurd (cc)

-- a self-test that ended with a button down has ended
have_all_passed-ended : (past : List Report) → ended_with_button past ≡ true → have_all_passed past ≡ true
have_all_passed-ended [] is = absurd (cc)
have_all_passed-ended (report ∷ past) is =
    ended_by (have_all_passed past) (ended_with_button past) (have_all_passed (report ∷ past)) (has_button_down report)
    (have_all_passed-ended past) (have_all_passed-still report past) is

still_dark : (new failed all_before ended all down : Bool) (bits : ℕ) → (failed || ended) ≡ true → (ended ≡ true → all_before ≡ true)
    → Dark ≡ health_by ((new || failed) || cond all_before ended (all && down)) all bits
still_dark true failed all_before ended all down bits is before = refl
still_dark false true all_before ended all down bits is before = refl
still_dark false false true true all down bits is before = refl
still_dark false false false true all down bits is before = absurd (cc (before refl))
still_dark false false all_before false all down bits is before = absurd (cc)

pub dark-still : (report : Report) (past : List Report) → Dark ≡ health_after past → Dark ≡ health_after (report ∷ past)
unfolding health_after
dark-still report past is =
    still_dark (is_failure report) (list_any is_failure past) (have_all_passed past) (ended_with_button past) (have_all_passed (report ∷ past)) (has_button_down report)
    (passed_bits (report ∷ past))
    (dark_by (list_any is_failure past) (ended_with_button past) (have_all_passed past) (passed_bits past) is)
    (have_all_passed-ended past)

-- a pass changes nothing once all checks passed
still_alive : (failed all_before ended all down : Bool) (bits : ℕ) → failed ≡ false → ended ≡ false → all_before ≡ true → all ≡ true
    → Alive ≡ health_by (failed || cond all_before ended (all && down)) all bits
still_alive failed all_before ended all down bits unfailed up before now = rw (unfailed, up, before, now) refl

pub alive-still : (check : ℕ) (buttons_up : Bool) (past : List Report) → Alive ≡ health_after past → Alive ≡ health_after (Checked check true buttons_up ∷ past)
unfolding health_after
alive-still check buttons_up past is =
    let alive = alive-is past is in
    let report = Checked check true buttons_up in
    still_alive (list_any is_failure past) (have_all_passed past) (ended_with_button past) (have_all_passed (report ∷ past)) (has_button_down report)
    (passed_bits (report ∷ past))
    alive.no_failure alive.no_button alive.passed (have_all_passed-still report past alive.passed)

-- the bits tell whether all checks passed
abbrev bits_by : Bool → Bool → Bool → Bool → ℕ
bits_by first second third fourth = (cond first 1 0) + (cond second 2 0) + (cond third 4 0) + (cond fourth 8 0)

all-full : (first second third fourth : Bool) → 15 ≤ bits_by first second third fourth → (first && second && third && fourth) ≡ true
all-full first second third fourth full = grind arith

all-missing : (first second third fourth : Bool) → bits_by first second third fourth < 15 → (first && second && third && fourth) ≡ false
all-missing first second third fourth missing = grind arith

-- a pass in a self-test that goes on
by_pass : (failed all_before ended all down : Bool) (bits : ℕ) → failed ≡ false → all_before ≡ false
    → health_by (failed || cond all_before ended (all && down)) all bits ≡ health_by (all && down) all bits
by_pass failed all_before ended all down bits unfailed before = rw (unfailed, before) refl

module _ (check : ℕ) (buttons_up : Bool) (past : List Report) (passed now : ℕ) (before : Testing passed ≡ health_after past)
    (bits : now ≡ passed_bits (Checked check true buttons_up ∷ past)) where
  abbrev after : List Report
  after = Checked check true buttons_up ∷ past

  passed_by : health_after after ≡ health_by (have_all_passed after && not buttons_up) (have_all_passed after) (passed_bits after)
  unfolding health_after
  passed_by =
      let testing = testing-is past passed before in
      by_pass (list_any is_failure past) (have_all_passed past) (ended_with_button past) (have_all_passed after) (not buttons_up) (passed_bits after)
      testing.no_failure testing.missing

  pub still_testing : now < 15 → Testing now ≡ health_after after
  still_testing short =
      rw (passed_by, all-missing (has_passed 1 after) (has_passed 2 after) (has_passed 3 after) (has_passed 4 after) (omega arith)) (ap Testing bits)

  ended : 15 ≤ now → have_all_passed after ≡ true
  ended full = all-full (has_passed 1 after) (has_passed 2 after) (has_passed 3 after) (has_passed 4 after) (omega arith)

  pub alive-passed : 15 ≤ now → buttons_up ≡ true → Alive ≡ health_after after
  alive-passed full up = rw (passed_by, ended full, up) refl

  pub dark-passed : 15 ≤ now → buttons_up ≡ false → Dark ≡ health_after after
  dark-passed full down = rw (passed_by, ended full, down) refl
