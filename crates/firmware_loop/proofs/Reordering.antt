-- A batch served lane by lane says the same to every part of the switch as in its own order, and gives the same.
use Rattle.std.proofs.Common.{◌≡◌, ◌≢◌, ℕ, ◌+◌, Bool, false, if◌then◌else◌, List, [], ◌∷◌, ◌++◌, Option, Some, None, nat_eq, inl, inr, refl, sym, ap, ◌∙◌, arith, append_assoc}
use Rattle.std.specs.Prelude.{option_map}
use Rattle.std.proofs.lemmas.Bool.Decides.{eqb_tells}
use Rattle.psd_base.specs.declared.act.Act.{Act}
use Rattle.psd_base.specs.declared.act.Side.{Side}
use Rattle.psd_base.specs.declared.act.Side.TheVariants.{Km, Ua}
use Rattle.psd_base.specs.declared.console.Job.{Job}
use Rattle.psd_base.specs.declared.line.Line.{Line}
use Rattle.psd_base.specs.declared.port.TheConstants.{MAX_PORTS}
use Rattle.psd_base.specs.Event.{Seen}
use Rattle.psd_base.specs.History.{onto}
use Rattle.peripheral_filter.specs.declared.rule.RuleSet.{RuleSet}
use Rattle.token_plug.specs.Acts.{job_orders}
use Rattle.port_model.specs.Concerns.{Item, Own}
use Rattle.port_model.specs.OnePort.{line_of}
use Rattle.port_model.specs.TokenConnector.{job_to}
use Rattle.switch_core.specs.Commuting.{SameWords}
use Rattle.port_model.specs.Independence.{acts}
use Rattle.port_model.specs.FrontEvents.{front_of}
use Rattle.port_model.specs.Lines.{line_at}
use Rattle.switch_core.specs.Orders.{act_orders, in_life, orders_at}
use Rattle.port_model.specs.Token.{token_life, token_port}
use Rattle.port_model.specs.View.{only_if, stamped, view}
use Rattle.port_model.proofs.Numbers.{other_number, same_number}
use Rattle.switch_core.proofs.Owning.{jobs_are_the_owners}
use Rattle.firmware_loop.specs.declared.timed_job.TimedJob.{TimedJob}
use Rattle.firmware_loop.specs.Batches.{AreActsOfPorts, PortEvent, at_port, by_lanes, first_job, jobs_among, lane_lines, line_for, schedule, schedule_jobs, seen_of}
use Rattle.firmware_loop.proofs.Sorting.{at_port-other, at_port-own, by_lanes-behind, by_lanes-same}

-- One schedule after another

pub schedule-append : (first second : List PortEvent) → schedule (first ++ second) ≡ schedule first ++ schedule second
schedule-append [] second = refl
schedule-append (event ∷ first) second = ap (λ (events : List Seen). seen_of event ∷ events) (schedule-append first second)

pub onto-append : (first second : List PortEvent) (past : List Seen)
    → onto (schedule (first ++ second)) past ≡ onto (schedule second) (onto (schedule first) past)
onto-append [] second past = refl
onto-append (event ∷ first) second past = onto-append first second (seen_of event ∷ past)

pub lane_lines-append : (rules : RuleSet) (port : ℕ) (first second : List PortEvent) (past : List Seen)
    → lane_lines rules port (schedule (first ++ second)) past
    ≡ lane_lines rules port (schedule first) past ++ lane_lines rules port (schedule second) (onto (schedule first) past)
lane_lines-append rules port [] second past = refl
lane_lines-append rules port (event ∷ first) second past =
    ap (λ (lines : List Line). line_for port (line_at rules (seen_of event) past) ++ lines) (lane_lines-append rules port first second (seen_of event ∷ past))
    ∙ sym (append_assoc (line_for port (line_at rules (seen_of event) past)) (lane_lines rules port (schedule first) (seen_of event ∷ past))
    (lane_lines rules port (schedule second) (onto (schedule first) (seen_of event ∷ past))))

pub schedule_jobs-append : (rules : RuleSet) (first second : List PortEvent) (past : List Seen)
    → schedule_jobs rules (schedule (first ++ second)) past
    ≡ schedule_jobs rules (schedule first) past ++ schedule_jobs rules (schedule second) (onto (schedule first) past)
schedule_jobs-append rules [] second past = refl
schedule_jobs-append rules (event ∷ first) second past =
    ap (λ (jobs : List TimedJob). jobs_among event.tick (orders_at rules (seen_of event) past) ++ jobs) (schedule_jobs-append rules first second (seen_of event ∷ past))
    ∙ sym (append_assoc (jobs_among event.tick (orders_at rules (seen_of event) past)) (schedule_jobs rules (schedule first) (seen_of event ∷ past))
    (schedule_jobs rules (schedule second) (onto (schedule first) (seen_of event ∷ past))))

-- What the parts of the switch know

-- acts are nothing at the front
front-acts : (events : List PortEvent) (past : List Seen) → front_of (onto (schedule events) past) ≡ front_of past
front-acts [] past = refl
front-acts (event ∷ events) past = front-acts events (seen_of event ∷ past)

-- an act in a view, where it is one of the port or not
view-act : (rules : RuleSet) (port : ℕ) (event : PortEvent) (past : List Seen) (is : Bool) → nat_eq event.port port ≡ is
    → view rules port (seen_of event ∷ past) ≡ stamped event.tick (only_if is (Own event.side event.act)) (view rules port past)
view-act rules port event past is tells =
    ap (λ (own : Bool). stamped event.tick (only_if own (Own event.side event.act)) (view rules port past)) tells

view-both : (rules : RuleSet) (port : ℕ) (event : PortEvent) (past other : List Seen) → view rules port past ≡ view rules port other
    → view rules port (seen_of event ∷ past) ≡ view rules port (seen_of event ∷ other)
view-both rules port event past other same =
    ap (λ (items : List Item). stamped event.tick (only_if (nat_eq event.port port) (Own event.side event.act)) items) same

-- the view of a port after acts is that after its own
pub view-acts : (rules : RuleSet) (port : ℕ) (events : List PortEvent) (past other : List Seen) → view rules port past ≡ view rules port other
    → view rules port (onto (schedule events) past) ≡ view rules port (onto (schedule (at_port port events)) other)
view-acts rules port [] past other same = same
view-acts rules port (event ∷ events) past other same = elim (eqb_tells event.port port) [
  | inl own ↦
      view-acts rules port events (seen_of event ∷ past) (seen_of event ∷ other) (view-both rules port event past other same)
      ∙ ap (λ (kept : List PortEvent). view rules port (onto (schedule kept) other)) (sym (at_port-own port event events own.1))
  | inr apart ↦
      view-acts rules port events (seen_of event ∷ past) other (view-act rules port event past false apart.0 ∙ same)
      ∙ ap (λ (kept : List PortEvent). view rules port (onto (schedule kept) other)) (sym (at_port-other port event events apart.1))
]

pub same_words : (rules : RuleSet) (events : List PortEvent) (past : List Seen) → AreActsOfPorts events
    → SameWords rules (onto (schedule (by_lanes MAX_PORTS events)) past) (onto (schedule events) past)
same_words rules events past numbered = record {
  front = front-acts (by_lanes MAX_PORTS events) past ∙ sym (front-acts events past);
  views = λ port.
      view-acts rules port (by_lanes MAX_PORTS events) past past refl
      ∙ ap (λ (kept : List PortEvent). view rules port (onto (schedule kept) past)) (by_lanes-same port events numbered)
      ∙ sym (view-acts rules port events past past refl);
}

-- The lines of a port

pub line-own : (rules : RuleSet) (port : ℕ) (event : PortEvent) (past : List Seen) → event.port ≡ port
    → line_for port (line_at rules (seen_of event) past) ≡ line_of (view rules port past) event.tick event.side event.act ∷ []
line-own rules port event past own =
    ap (λ (is : Bool). if is then line_of (view rules event.port past) event.tick event.side event.act ∷ [] else [])
    (ap (λ (number : ℕ). nat_eq number port) own ∙ same_number port)
    ∙ ap (λ (number : ℕ). line_of (view rules number past) event.tick event.side event.act ∷ []) own

line-other : (rules : RuleSet) (port : ℕ) (event : PortEvent) (past : List Seen) → event.port ≢ port
    → line_for port (line_at rules (seen_of event) past) ≡ []
line-other rules port event past apart =
    ap (λ (is : Bool). if is then line_of (view rules event.port past) event.tick event.side event.act ∷ [] else [])
    (other_number event.port port apart)

-- they are those of its own acts
lane_lines-own : (rules : RuleSet) (port : ℕ) (events : List PortEvent) (past other : List Seen) → view rules port past ≡ view rules port other
    → lane_lines rules port (schedule events) past ≡ lane_lines rules port (schedule (at_port port events)) other
lane_lines-own rules port [] past other same = refl
lane_lines-own rules port (event ∷ events) past other same = elim (eqb_tells event.port port) [
  | inl own ↦
      let here : line_for port (line_at rules (seen_of event) past) ≡ line_for port (line_at rules (seen_of event) other) =
      line-own rules port event past own.1
      ∙ ap (λ (items : List Item). line_of items event.tick event.side event.act ∷ []) same
      ∙ sym (line-own rules port event other own.1) in
      (λ i. here i ++ lane_lines-own rules port events (seen_of event ∷ past) (seen_of event ∷ other) (view-both rules port event past other same) i)
      ∙ ap (λ (kept : List PortEvent). lane_lines rules port (schedule kept) other) (sym (at_port-own port event events own.1))
  | inr apart ↦
      (λ i. line-other rules port event past apart.1 i
      ++ lane_lines-own rules port events (seen_of event ∷ past) other (view-act rules port event past false apart.0 ∙ same) i)
      ∙ ap (λ (kept : List PortEvent). lane_lines rules port (schedule kept) other) (sym (at_port-other port event events apart.1))
]

-- A port's lines after the acts of the ports before it are those of the schedule.
pub lane_lines-after : (rules : RuleSet) (place : ℕ) (events : List PortEvent) (past : List Seen)
    → lane_lines rules (place + 1) (schedule (at_port (place + 1) events)) (onto (schedule (by_lanes place events)) past)
    ≡ lane_lines rules (place + 1) (schedule events) past
lane_lines-after rules place events past =
    let unseen : view rules (place + 1) (onto (schedule (by_lanes place events)) past) ≡ view rules (place + 1) past =
    view-acts rules (place + 1) (by_lanes place events) past past refl
    ∙ ap (λ (kept : List PortEvent). view rules (place + 1) (onto (schedule kept) past))
    (by_lanes-behind (place + 1) place events (λ number from to is. absurd (omega (arith, is)))) in
    sym (lane_lines-own rules (place + 1) events past (onto (schedule (by_lanes place events)) past) (sym unseen))

-- The jobs

pub first_job-act : (rules : RuleSet) (tick port : ℕ) (side : Side) (act : Act) (past : List Seen)
    → first_job tick (act_orders rules port side act past) ≡ jobs_among tick (act_orders rules port side act past)
first_job-act rules tick port Km act past = refl
first_job-act rules tick port Ua act past =
    of_job (option_map (in_life (token_life rules (front_of past))) (job_to (view rules port past) act)) where
      of_job : (job : Option Job) → first_job tick (job_orders job) ≡ jobs_among tick (job_orders job)
      of_job None = refl
      of_job (Some job) = refl

-- only the port to which the token is routed makes a job
no_job : (rules : RuleSet) (tick port : ℕ) (side : Side) (act : Act) (past : List Seen) → token_port rules (front_of past) ≢ Some port
    → act_orders rules port side act past ≡ []
no_job rules tick port Km act past apart = refl
no_job rules tick port Ua act past apart =
    of_job (option_map (in_life (token_life rules (front_of past))) (job_to (view rules port past) act)) refl where
      of_job : (job : Option Job) → option_map (in_life (token_life rules (front_of past))) (job_to (view rules port past) act) ≡ job → job_orders job ≡ []
      of_job None is = refl
      of_job (Some job) is =
          absurd (apart (jobs_are_the_owners rules port job (acts tick port Ua act) past
          (record { side = Ua; act = act; happens = refl; ordered = ap job_orders is })).0)

act_orders-same : (rules : RuleSet) (port : ℕ) (side : Side) (act : Act) (past other : List Seen) → front_of past ≡ front_of other
    → view rules port past ≡ view rules port other → act_orders rules port side act past ≡ act_orders rules port side act other
act_orders-same rules port Km act past other front same = refl
act_orders-same rules port Ua act past other front same =
    λ i. job_orders (option_map (in_life (token_life rules (front i))) (job_to (same i) act))

schedule_jobs-none : (rules : RuleSet) (events : List PortEvent) (past : List Seen) → token_port rules (front_of past) ≡ None
    → schedule_jobs rules (schedule events) past ≡ []
schedule_jobs-none rules [] past none = refl
schedule_jobs-none rules (event ∷ events) past none =
    λ i. jobs_among event.tick (no_job rules event.tick event.port event.side event.act past (λ is. absurd (none_is_some event.port (sym none ∙ is))) i)
    ++ schedule_jobs-none rules events (seen_of event ∷ past) none i where
      none_is_some : (port : ℕ) → None ≡ Some port → ⊥
      none_is_some port is = absurd (cc)

-- they are those of that port's acts
schedule_jobs-own : (rules : RuleSet) (port : ℕ) (events : List PortEvent) (past other : List Seen) → token_port rules (front_of past) ≡ Some port
    → front_of past ≡ front_of other → view rules port past ≡ view rules port other
    → schedule_jobs rules (schedule events) past ≡ schedule_jobs rules (schedule (at_port port events)) other
schedule_jobs-own rules port [] past other routed front same = refl
schedule_jobs-own rules port (event ∷ events) past other routed front same = elim (eqb_tells event.port port) [
  | inl own ↦
      let here : act_orders rules event.port event.side event.act past ≡ act_orders rules event.port event.side event.act other =
      act_orders-same rules event.port event.side event.act past other front
      (ap (λ (number : ℕ). view rules number past) own.1 ∙ same ∙ ap (λ (number : ℕ). view rules number other) (sym own.1)) in
      (λ i. jobs_among event.tick (here i)
      ++ schedule_jobs-own rules port events (seen_of event ∷ past) (seen_of event ∷ other) routed front (view-both rules port event past other same) i)
      ∙ ap (λ (kept : List PortEvent). schedule_jobs rules (schedule kept) other) (sym (at_port-own port event events own.1))
  | inr apart ↦
      (λ i. jobs_among event.tick
      (no_job rules event.tick event.port event.side event.act past (λ is. apart.1 (same_port event.port port (sym is ∙ routed))) i)
      ++ schedule_jobs-own rules port events (seen_of event ∷ past) other routed front (view-act rules port event past false apart.0 ∙ same) i)
      ∙ ap (λ (kept : List PortEvent). schedule_jobs rules (schedule kept) other) (sym (at_port-other port event events apart.1))
] where
  same_port : (first second : ℕ) → Some first ≡ Some second → first ≡ second
  same_port first second is = cc

pub same_jobs : (rules : RuleSet) (events : List PortEvent) (past : List Seen) → AreActsOfPorts events
    → schedule_jobs rules (schedule (by_lanes MAX_PORTS events)) past ≡ schedule_jobs rules (schedule events) past
same_jobs rules events past numbered = by_port (token_port rules (front_of past)) refl where
  by_port : (routed : Option ℕ) → token_port rules (front_of past) ≡ routed
      → schedule_jobs rules (schedule (by_lanes MAX_PORTS events)) past ≡ schedule_jobs rules (schedule events) past
  by_port None is = schedule_jobs-none rules (by_lanes MAX_PORTS events) past is ∙ sym (schedule_jobs-none rules events past is)
  by_port (Some port) is =
      schedule_jobs-own rules port (by_lanes MAX_PORTS events) past past is refl refl
      ∙ ap (λ (kept : List PortEvent). schedule_jobs rules (schedule kept) past) (by_lanes-same port events numbered)
      ∙ sym (schedule_jobs-own rules port events past past is refl refl)
