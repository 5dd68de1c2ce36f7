-- The definitions at work on small self-tests, each computed.
use Rattle.std.specs.Prelude.{◌≡◌, true, false, List, [], ◌∷◌, refl}
use Rattle.fail_secure.specs.declared.health.Health.TheVariants.{Testing, Alive, Dark}
use Rattle.fail_secure.specs.Health.{Report, Checked, Tampered, health_after}

-- checks 1, 2 and 3 passed, newest first
abbrev three : List Report
three = Checked 3 true true ∷ Checked 2 true true ∷ Checked 1 true true ∷ []

three_are_too_few : health_after three ≡ Testing 7
unfolding health_after
three_are_too_few = refl

a_pass_counts_once : health_after (Checked 2 true true ∷ three) ≡ Testing 7
unfolding health_after
a_pass_counts_once = refl

alive_by_the_fourth : health_after (Checked 4 true true ∷ three) ≡ Alive
unfolding health_after
alive_by_the_fourth = refl

alive_in_any_order : health_after (Checked 1 true true ∷ Checked 3 true false ∷ Checked 3 true true ∷ Checked 4 true false ∷ Checked 2 true true ∷ []) ≡ Alive
unfolding health_after
alive_in_any_order = refl

dark_by_a_button : health_after (Checked 4 true false ∷ three) ≡ Dark
unfolding health_after
dark_by_a_button = refl

a_late_button_changes_nothing : health_after (Checked 1 true false ∷ Checked 4 true true ∷ three) ≡ Alive
unfolding health_after
a_late_button_changes_nothing = refl

dark_by_a_failure : health_after (Checked 4 false true ∷ three) ≡ Dark
unfolding health_after
dark_by_a_failure = refl

dark_by_a_late_failure : health_after (Checked 2 false true ∷ Checked 4 true true ∷ three) ≡ Dark
unfolding health_after
dark_by_a_late_failure = refl

dark_by_tamper : health_after (Tampered ∷ three) ≡ Dark
unfolding health_after
dark_by_tamper = refl

dark_by_a_late_tamper : health_after (Tampered ∷ Checked 4 true true ∷ three) ≡ Dark
unfolding health_after
dark_by_a_late_tamper = refl

dark_stays : health_after (Checked 4 true true ∷ Checked 3 true true ∷ Checked 2 true true ∷ Checked 1 true true ∷ Tampered ∷ []) ≡ Dark
unfolding health_after
dark_stays = refl
