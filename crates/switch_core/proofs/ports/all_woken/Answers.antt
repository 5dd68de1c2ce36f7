-- Where no port has the console, none loses it.
use Rattle.std.proofs.Common.{None, refl}
use Rattle.switch_core.proofs.PortLists.{AllStand-same}
use Rattle.switch_core.proofs.ports.all_woken.Goals as goal

pub returns-clause-slots : goal.returns-clause-slots
returns-clause-slots c = λ views tick dark each nobody.
    c.wake_all.ensures.stand views tick dark (AllStand-same _ _ views (c.vacated-console.ensures.slots tick None views each nobody) (λ number. refl))
