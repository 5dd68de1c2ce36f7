-- What each event orders from the peripherals at the console.
use Rattle.std.specs.Prelude.{ℕ, List, [], ◌++◌, option_map}
use Rattle.psd_base.specs.declared.act.Act.{Act}
use Rattle.psd_base.specs.declared.act.Side.{Side}
use Rattle.psd_base.specs.declared.act.Side.TheVariants.{Km, Ua}
use Rattle.psd_base.specs.declared.console.Job.{Job}
use Rattle.psd_base.specs.declared.console.Order.{Order}
use Rattle.psd_base.specs.Event.{Happening, PortActs, AtFront, Seen}
use Rattle.peripheral_filter.specs.declared.rule.RuleSet.{RuleSet}
use Rattle.port_model.specs.FrontEvents.{FrontEvent, front_event, front_of}
use Rattle.token_plug.specs.Acts.{job_orders}
use Rattle.port_model.specs.TokenConnector.{job_to}
use Rattle.port_model.specs.Peripherals.{peripheral_orders}
use Rattle.port_model.specs.Token.{token_life, token_orders}
use Rattle.port_model.specs.View.{view}

-- what is ordered at an event at the front: from the keyboard, the mouse and the token in this order
abbrev pub front_orders : RuleSet → FrontEvent → List FrontEvent → List Order
front_orders rules event past = peripheral_orders rules event past ++ token_orders rules event past

-- a job of the token's life of this number
abbrev pub in_life : ℕ → Job → Job
in_life life job = record { life = life; number = job.number; kind = job.kind }

-- What an act of a port's computer orders: at its token connector the job that its view makes, in the token's present life.
-- From the keyboard and the mouse no computer orders anything.
abbrev pub act_orders : RuleSet → ℕ → Side → Act → List Seen → List Order
act_orders rules port Km act past = []
act_orders rules port Ua act past = job_orders (option_map (in_life (token_life rules (front_of past))) (job_to (view rules port past) act))

-- what is ordered at an event after a history
abbrev pub orders_at : RuleSet → Seen → List Seen → List Order
orders_at rules event past = orders_of event.tick event.happening past where
  orders_of : ℕ → Happening → List Seen → List Order
  orders_of tick (PortActs port side act) past = act_orders rules port side act past
  orders_of tick (AtFront doing) past = front_orders rules (front_event tick doing) (front_of past)
