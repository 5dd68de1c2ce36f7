-- A switch that served nothing.
use Rattle.fail_secure.specs.Health.{health_after}
use Rattle.switch_core.proofs.switch.Switch.new.Goals as goal

pub returns-clause-stands : goal.returns-clause-stands
unfolding health_after
returns-clause-stands c = record {
  ports_stand = c.in_ok-ports.ensures.stand;
  gives = c.in_ok-ports.ensures.gives;
  front_stands = c.in_ok-front.ensures.stands;
  within = tt;
}
