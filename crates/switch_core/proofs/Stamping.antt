-- Jobs in the orders of a history: those of one life are one port's, and those of two lives are apart.
use Rattle.std.proofs.Common.{◌≡◌, ◌⊎◌, ℕ, true, false, List, [], ◌∷◌, ◌++◌, Option, Some, None, option_map, refl, sym, ap, subst, ◌∙◌, inl, inr}
use Rattle.std.proofs.lemmas.List.{append-nil, append_assoc}
use Rattle.psd_base.specs.declared.act.Act.{Act}
use Rattle.psd_base.specs.declared.act.Side.TheVariants.{Km, Ua}
use Rattle.psd_base.specs.declared.console.Job.{Job}
use Rattle.psd_base.specs.declared.console.Order.{Order}
use Rattle.psd_base.specs.declared.console.Order.TheVariants as order
use Rattle.psd_base.specs.Event.{Happening, PortActs, AtFront, Seen}
use Rattle.peripheral_filter.specs.declared.rule.RuleSet.{RuleSet}
use Rattle.token_plug.specs.Acts.{job_orders}
use Rattle.port_model.specs.TokenConnector.{job_to}
use Rattle.port_model.specs.FrontEvents.{FrontEvent, front_event, front_of}
use Rattle.switch_core.specs.Independence.{is_job}
use Rattle.switch_core.specs.Orders.{front_orders, in_life, orders_at}
use Rattle.switch_core.specs.Ownership.{MakesJob, moments_over}
use Rattle.switch_core.specs.Stamped.{StampedOrder, stamp, stamps, stamped_orders, powers_in, LifeIsOnePorts, LivesAreApart, MadeBy}
use Rattle.port_model.specs.Token.{token_history, token_life}
use Rattle.port_model.specs.View.{view}
use Rattle.switch_core.proofs.Owning.{front-act, jobs_of_one_life, jobs_of_two_lives}
use Rattle.switch_core.proofs.OrderKinds.{NoJobs, front-jobs}
use Rattle.switch_core.proofs.TokenPower.{stamped_over, switched_over, events-powers, cycle-in}

stamped-over : (rules : RuleSet) (past : List Seen) → stamped_orders rules past ≡ stamped_over rules past []
stamped-over rules [] = refl
stamped-over rules (event ∷ past) =
    ap (λ (orders : List StampedOrder). orders ++ stamps event.tick (orders_at rules event past)) (stamped-over rules past)
    ∙ ap (λ (before : List Seen). stamped_over rules past [] ++ stamps event.tick (orders_at rules event before)) (sym (append-nil past))

-- Where a job stands in a list of orders

nothing-in : (before : List StampedOrder) (y : StampedOrder) (rest : List StampedOrder) → [] ≡ before ++ y ∷ rest → ⊥
nothing-in [] y rest is = cc
nothing-in (b ∷ before) y rest is = cc

record OneIn (before rest : List StampedOrder) (x y : StampedOrder) : Type 0 where
  pub before_is : before ≡ []
  pub rest_is : rest ≡ []
  pub same : x ≡ y

one-in : (x y : StampedOrder) (before rest : List StampedOrder) → x ∷ [] ≡ before ++ y ∷ rest → OneIn before rest x y
one-in x y [] rest is = record { before_is = refl; rest_is = cc; same = cc }
one-in x y (b ∷ before) rest is = let tail : [] ≡ before ++ y ∷ rest = cc in absurd (nothing-in before y rest tail)

record InFirst (first second before : List StampedOrder) (x : StampedOrder) (rest : List StampedOrder) : Type 0 where
  pub after : List StampedOrder
  pub first_is : first ≡ before ++ x ∷ after
  pub rest_is : rest ≡ after ++ second

record InSecond (first second before : List StampedOrder) (x : StampedOrder) (rest : List StampedOrder) : Type 0 where
  pub earlier : List StampedOrder
  pub second_is : second ≡ earlier ++ x ∷ rest
  pub before_is : before ≡ first ++ earlier

split : (first second before : List StampedOrder) (x : StampedOrder) (rest : List StampedOrder) → first ++ second ≡ before ++ x ∷ rest
    → InFirst first second before x rest ⊎ InSecond first second before x rest
split [] second before x rest is = inr (record { earlier = before; second_is = is; before_is = refl })
split (y ∷ first) second [] x rest is =
    let head : y ≡ x = cc in
    let tail : first ++ second ≡ rest = cc in
    inl (record { after = first; first_is = ap (λ (s : StampedOrder). s ∷ first) head; rest_is = sym tail })
split (y ∷ first) second (b ∷ before) x rest is =
    let head : y ≡ b = cc in
    let tail : first ++ second ≡ before ++ x ∷ rest = cc in
    elim (split first second before x rest tail) [
      | inl g ↦ inl (record {
        after = g.after;
        first_is = ap (λ (s : StampedOrder). s ∷ first) head ∙ ap (λ (ss : List StampedOrder). b ∷ ss) g.first_is;
        rest_is = g.rest_is;
      })
      | inr g ↦ inr (record {
        earlier = g.earlier;
        second_is = g.second_is;
        before_is = ap (λ (s : StampedOrder). s ∷ before) (sym head) ∙ ap (λ (ss : List StampedOrder). y ∷ ss) g.before_is;
      })
    ]

-- a job stands where an act made it

no-job-in : (tick : ℕ) (orders : List Order) (before : List StampedOrder) (at : ℕ) (job : Job) (rest : List StampedOrder) → NoJobs orders
    → stamps tick orders ≡ before ++ stamp at (order.Job job) ∷ rest → ⊥
no-job-in tick [] before at job rest none is = nothing-in before (stamp at (order.Job job)) rest is
no-job-in tick (ordered ∷ orders) [] at job rest none is =
    let head : stamp tick ordered ≡ stamp at (order.Job job) = cc in
    let same : ordered ≡ order.Job job = ap (λ (s : StampedOrder). s.ordered) head in
    let never : true ≡ false = sym (ap is_job same) ∙ none.0 in
    cc
no-job-in tick (ordered ∷ orders) (b ∷ before) at job rest none is =
    let tail : stamps tick orders ≡ before ++ stamp at (order.Job job) ∷ rest = cc in
    no-job-in tick orders before at job rest none.1 tail

record MadeHere (rules : RuleSet) (event : Seen) (past : List Seen) (before rest : List StampedOrder) (at : ℕ) (job : Job) : Type 0 where
  pub port : ℕ
  pub ticked : event.tick ≡ at
  pub made : MakesJob rules port job event past
  pub before_is : before ≡ []
  pub rest_is : rest ≡ []

made-here : (rules : RuleSet) (event : Seen) (past : List Seen) (before : List StampedOrder) (at : ℕ) (job : Job) (rest : List StampedOrder)
    → stamps event.tick (orders_at rules event past) ≡ before ++ stamp at (order.Job job) ∷ rest → MadeHere rules event past before rest at job
made-here rules event past before at job rest is = by event.happening refl is where
  by_job : (port : ℕ) (act : Act) (made : Option Job) → event.happening ≡ PortActs port Ua act
      → option_map (in_life (token_life rules (front_of past))) (job_to (view rules port past) act) ≡ made
      → stamps event.tick (job_orders made) ≡ before ++ stamp at (order.Job job) ∷ rest → MadeHere rules event past before rest at job
  by_job port act None happens made is = absurd (nothing-in before (stamp at (order.Job job)) rest is)
  by_job port act (Some new) happens made is =
      let g = one-in (stamp event.tick (order.Job new)) (stamp at (order.Job job)) before rest is in
      record {
        port = port;
        ticked = ap (λ (s : StampedOrder). s.tick) g.same;
        made = record {
          side = Ua;
          act = act;
          happens = happens;
          ordered =
              subst (λ (h : Happening). orders_at rules (record { tick = event.tick; happening = h }) past ≡ order.Job job ∷ []) (sym happens)
              (ap job_orders made ∙ ap (λ (s : StampedOrder). s.ordered ∷ []) g.same);
        };
        before_is = g.before_is;
        rest_is = g.rest_is;
      }

  by : (happening : Happening) → event.happening ≡ happening
      → stamps event.tick (orders_at rules (record { tick = event.tick; happening = happening }) past) ≡ before ++ stamp at (order.Job job) ∷ rest
      → MadeHere rules event past before rest at job
  by (AtFront doing) happens is =
      absurd (no-job-in event.tick (front_orders rules (front_event event.tick doing) (front_of past)) before at job rest
      (front-jobs rules (front_event event.tick doing) (front_of past)) is)
  by (PortActs port Km act) happens is = absurd (nothing-in before (stamp at (order.Job job)) rest is)
  by (PortActs port Ua act) happens is =
      by_job port act (option_map (in_life (token_life rules (front_of past))) (job_to (view rules port past) act)) happens refl is

record Located (rules : RuleSet) (events past : List Seen) (before rest : List StampedOrder) (at : ℕ) (job : Job) : Type 0 where
  pub later : List Seen
  pub act : Seen
  pub ticked : act.tick ≡ at
  pub earlier : List Seen
  pub port : ℕ
  pub events_are : events ≡ later ++ act ∷ earlier
  pub made : MakesJob rules port job act (earlier ++ past)
  pub before_is : before ≡ stamped_over rules earlier past
  pub rest_is : rest ≡ stamped_over rules later (act ∷ earlier ++ past)

locate : (rules : RuleSet) (events past : List Seen) (before : List StampedOrder) (at : ℕ) (job : Job) (rest : List StampedOrder)
    → stamped_over rules events past ≡ before ++ stamp at (order.Job job) ∷ rest → Located rules events past before rest at job
locate rules [] past before at job rest is = absurd (nothing-in before (stamp at (order.Job job)) rest is)
locate rules (event ∷ events) past before at job rest is =
    elim (split (stamped_over rules events past) (stamps event.tick (orders_at rules event (events ++ past))) before (stamp at (order.Job job)) rest is) [
      | inl g ↦ further g.after g.rest_is (locate rules events past before at job g.after g.first_is)
      | inr g ↦ here g.earlier g.before_is (made-here rules event (events ++ past) g.earlier at job rest g.second_is)
    ] where
      further : (after : List StampedOrder) → rest ≡ after ++ stamps event.tick (orders_at rules event (events ++ past)) → Located rules events past before after at job
          → Located rules (event ∷ events) past before rest at job
      further after rest_is l = record {
        later = event ∷ l.later;
        act = l.act;
        ticked = l.ticked;
        earlier = l.earlier;
        port = l.port;
        events_are = ap (λ (es : List Seen). event ∷ es) l.events_are;
        made = l.made;
        before_is = l.before_is;
        rest_is =
            rest_is
            ∙ ap (λ (orders : List StampedOrder). orders ++ stamps event.tick (orders_at rules event (events ++ past))) l.rest_is
            ∙ ap (λ (history : List Seen). stamped_over rules l.later (l.act ∷ l.earlier ++ past) ++ stamps event.tick (orders_at rules event history))
            (ap (λ (es : List Seen). es ++ past) l.events_are ∙ append_assoc l.later (l.act ∷ l.earlier) past);
      }

      here : (earlier : List StampedOrder) → before ≡ stamped_over rules events past ++ earlier → MadeHere rules event (events ++ past) earlier rest at job
          → Located rules (event ∷ events) past before rest at job
      here earlier before_is m = record {
        later = [];
        act = event;
        ticked = m.ticked;
        earlier = events;
        port = m.port;
        events_are = refl;
        made = m.made;
        before_is =
            before_is ∙ ap (λ (orders : List StampedOrder). stamped_over rules events past ++ orders) m.before_is ∙ append-nil (stamped_over rules events past);
        rest_is = m.rest_is;
      }

-- Two jobs in the orders of a history

record TwoMade (rules : RuleSet) (past : List Seen) (between : List StampedOrder) (tick later : ℕ) (first second : Job) : Type 0 where
  pub port : ℕ
  pub other : ℕ
  pub acts : MadeBy rules port other past tick later first second
  pub between_is : between ≡ stamped_over rules acts.mid (acts.one ∷ acts.before)

two-made : (rules : RuleSet) (past : List Seen) (before between after : List StampedOrder) (tick later : ℕ) (first second : Job)
    → stamped_orders rules past ≡ before ++ stamp tick (order.Job first) ∷ between ++ stamp later (order.Job second) ∷ after
    → TwoMade rules past between tick later first second
two-made rules past before between after tick later first second is =
    by (locate rules past [] before tick first (between ++ stamp later (order.Job second) ∷ after) (sym (stamped-over rules past) ∙ is
    ∙ append_assoc before (stamp tick (order.Job first) ∷ between) (stamp later (order.Job second) ∷ after))) where
      by : Located rules past [] before (between ++ stamp later (order.Job second) ∷ after) tick first → TwoMade rules past between tick later first second
      by one =
          let plain = append-nil one.earlier in
          let rest : between ++ stamp later (order.Job second) ∷ after ≡ stamped_over rules one.later (one.act ∷ one.earlier)
          = one.rest_is ∙ ap (λ (history : List Seen). stamped_over rules one.later (one.act ∷ history)) plain in
          let two = locate rules one.later (one.act ∷ one.earlier) between later second after (sym rest) in
          record {
            port = one.port;
            other = two.port;
            acts = record {
              one = one.act;
              two = two.act;
              after = two.later;
              mid = two.earlier;
              before = one.earlier;
              past_is = one.events_are ∙ ap (λ (events : List Seen). events ++ one.act ∷ one.earlier) two.events_are;
              one_ticked = one.ticked;
              two_ticked = two.ticked;
              made = subst (λ (history : List Seen). MakesJob rules one.port first one.act history) plain one.made;
              again = two.made;
            };
            between_is = two.before_is;
          }

pub lives_are_apart : LivesAreApart
lives_are_apart rules past before between after tick later first second is apart =
    let g = two-made rules past before between after tick later first second is in
    let acts = g.acts in
    cycle-in rules (moments_over rules (front_of acts.mid) (front_of acts.before)) (token_history rules (front_of acts.before)) between
    (ap powers_in g.between_is
    ∙ events-powers rules acts.mid (acts.one ∷ acts.before)
    ∙ ap (λ (front : List FrontEvent). switched_over rules (front_of acts.mid) front)
    (front-act acts.one acts.before g.port acts.made.side acts.made.act acts.made.happens))
    (jobs_of_two_lives rules g.port g.other first second acts.one acts.two acts.mid acts.before acts.made acts.again apart)

pub life_is_one_ports : LifeIsOnePorts
life_is_one_ports rules past before between after tick later first second is same =
    let g = two-made rules past before between after tick later first second is in
    let acts = g.acts in
    let one = jobs_of_one_life rules g.port g.other first second acts.one acts.two acts.mid acts.before acts.made acts.again same in
    record { port = g.port; other = g.other; acts = acts; same = one.0; once = one.1 }
