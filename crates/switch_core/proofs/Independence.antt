-- What the log says and what is ordered doesn't depend on what computers do.
use Rattle.std.proofs.Common.{◌≡◌, ℕ, true, List, [], Option, Some, None, option_map, refl, sym, ◌∙◌}
use Rattle.psd_base.specs.declared.act.Act.{Act}
use Rattle.psd_base.specs.declared.act.Side.{Side}
use Rattle.psd_base.specs.declared.act.Side.TheVariants.{Km, Ua}
use Rattle.psd_base.specs.declared.console.Job.{Job}
use Rattle.psd_base.specs.Event.{Happening, PortActs, AtFront, Seen}
use Rattle.token_plug.specs.Acts.{job_orders}
use Rattle.port_model.specs.FrontEvents.{front_of}
use Rattle.port_model.specs.Independence.{is_act, without}
use Rattle.port_model.specs.Token.{token_life}
use Rattle.port_model.specs.TokenConnector.{job_to}
use Rattle.port_model.specs.View.{view}
use Rattle.port_model.proofs.Independence.{front_without_acts}
use Rattle.switch_core.specs.Independence.{but_jobs, ConsoleIgnoresActs}
use Rattle.switch_core.specs.Notes.{notes_at}
use Rattle.switch_core.specs.Orders.{act_orders, in_life, orders_at}

pub console_ignores_acts : ConsoleIgnoresActs
console_ignores_acts rules event past = (same_notes event.tick event.happening, same_orders event.tick event.happening, of_act event.tick event.happening) where
  same : front_of (without is_act past) ≡ front_of past
  same = front_without_acts past

  same_notes : (tick : ℕ) (happening : Happening) → notes_at rules (record { tick = tick; happening = happening }) (without is_act past) ≡ notes_at rules (record { tick = tick; happening = happening }) past
  same_notes tick (PortActs port side act) = refl
  same_notes tick (AtFront doing) = rw same refl

  act_jobs : (port : ℕ) (side : Side) (act : Act) (before : List Seen) → but_jobs (act_orders rules port side act before) ≡ []
  act_jobs port Km act before = refl
  act_jobs port Ua act before = by (option_map (in_life (token_life rules (front_of before))) (job_to (view rules port before) act)) where
    by : (job : Option Job) → but_jobs (job_orders job) ≡ []
    by None = refl
    by (Some job) = refl

  same_orders : (tick : ℕ) (happening : Happening)
      → but_jobs (orders_at rules (record { tick = tick; happening = happening }) (without is_act past)) ≡ but_jobs (orders_at rules (record { tick = tick; happening = happening }) past)
  same_orders tick (PortActs port side act) = act_jobs port side act (without is_act past) ∙ sym (act_jobs port side act past)
  same_orders tick (AtFront doing) = rw same refl

  of_act : (tick : ℕ) (happening : Happening) → is_act happening ≡ true
      → (notes_at rules (record { tick = tick; happening = happening }) past ≡ []) × (but_jobs (orders_at rules (record { tick = tick; happening = happening }) past) ≡ [])
  of_act tick (PortActs port side act) is = (refl, act_jobs port side act past)
  of_act tick (AtFront doing) is = absurd (cc)
