-- A plug at which nothing happened.
use Rattle.std.proofs.Common.{refl}
use Rattle.console_plug.proofs.plug.ConsolePlug.new.Goals as goal

pub returns-clause-stands : goal.returns-clause-stands
returns-clause-stands c = λ rules. record {
  plug_is = refl;
  alive = refl;
  attached = refl;
  life = refl;
  power = refl;
  attachment = c.new.ensures rules;
}
