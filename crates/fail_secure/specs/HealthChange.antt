-- What becomes of the ports from one health to the next.
use Rattle.std.specs.Prelude.{Bool, true, false, not, ◌&&◌, ◌||◌, if◌then◌else◌}
use Rattle.fail_secure.specs.declared.health.Health.{Health}
use Rattle.fail_secure.specs.declared.health.Health.TheVariants.{Testing, Alive, Dark}
use Rattle.fail_secure.specs.declared.health_change.HealthChange.{HealthChange}
use Rattle.fail_secure.specs.declared.health_change.HealthChange.TheVariants as change

abbrev pub is_alive : Health → Bool
is_alive (Testing passed) = false
is_alive Alive = true
is_alive Dark = false

abbrev pub is_dark : Health → Bool
is_dark (Testing passed) = false
is_dark Alive = false
is_dark Dark = true

-- the ports wake where it becomes alive, and go dark where it stops being so, or goes dark from the self-test
abbrev pub change_of : Health → Health → HealthChange
change_of before after =
    if is_alive after then (if is_alive before then change.Stays else change.Wakes)
    else (if is_alive before || (is_dark after && not (is_dark before)) then change.Darkens else change.Stays)
