-- A plug at which nothing happened.
use Rattle.std.proofs.Common.{refl}
use Rattle.token_plug.proofs.plug.TokenPlug.new.Goals as goal

pub returns-clause-stands : goal.returns-clause-stands
returns-clause-stands c = λ rules. record {
  alive = refl;
  attached = refl;
  selected = refl;
  parts = record { slot = c.new.ensures.stands; attachment = c.new-2.ensures rules };
  bridge_is = c.new-3.ensures.stands;
  apart = λ same. refl;
}
