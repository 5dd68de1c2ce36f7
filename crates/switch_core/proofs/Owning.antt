-- Whose the token is.
use Rattle.std.proofs.Common.{◌≡◌, ◌≢◌, ℕ, Bool, true, false, ◌&&◌, ◌==◌, List, [], ◌∷◌, ◌++◌, Option, Some, None, option_map, refl, sym, ap, subst, ◌∙◌, cond, inl, inr}
use Rattle.std.proofs.lemmas.Bool.{eqb-true}
use Rattle.std.proofs.lemmas.List.{append_assoc}
use Rattle.psd_base.specs.declared.act.Act.{Act}
use Rattle.psd_base.specs.declared.act.Side.{Side}
use Rattle.psd_base.specs.declared.act.Side.TheVariants.{Km, Ua}
use Rattle.psd_base.specs.declared.console.Job.{Job}
use Rattle.psd_base.specs.declared.console.Order.TheVariants as order
use Rattle.psd_base.specs.Event.{Happening, PortActs, AtFront, Seen}
use Rattle.fail_secure.specs.HealthChange.{is_alive}
use Rattle.peripheral_filter.specs.declared.rule.RuleSet.{RuleSet}
use Rattle.auth_router.specs.Bridge.{BridgePast, bridge_made}
use Rattle.token_plug.specs.Acts.{job_orders}
use Rattle.token_plug.specs.Moments.{Moment}
use Rattle.token_plug.specs.Routing.{routed_at}
use Rattle.token_plug.proofs.Following.{lives_at, other-life, routed-end, same-life}
use Rattle.token_plug.proofs.Ownership.{StaysRouted}
use Rattle.port_model.specs.Concerns.{TokenNews, Item}
use Rattle.port_model.specs.Concerns as news
use Rattle.switch_core.specs.Bridges.{bridges_of}
use Rattle.port_model.specs.Chosen.{given_after, is_at, selected_at, selections}
use Rattle.port_model.specs.FrontEvents.{FrontEvent, front_event, front_of}
use Rattle.port_model.specs.FrontHealth.{health_at}
use Rattle.switch_core.specs.Orders.{act_orders, in_life, orders_at}
use Rattle.port_model.specs.Token.{moments_at, token_history, token_life, token_news, token_port}
use Rattle.port_model.specs.View.{heard, view}
use Rattle.switch_core.specs.Ownership.{job_done, HearsAsOwner, HeardByOwnerAlone, MakesJob, JobsAreTheOwners, LifeIsRoutedOnce, JobsOfOneLife, JobsOfTwoLives, JobsOfTwoSelections, NoJobsUnselected, moments_over}
use Rattle.port_model.proofs.Numbers.{same_number}
use Rattle.switch_core.proofs.Selecting.{selected-alive}
use Rattle.switch_core.proofs.TokenSelection.{selected-token_port}
use Rattle.switch_core.proofs.TokenViews.{others_are_down}

-- what is routed to a port
pub at-port : (port : ℕ) (routed : Option ℕ) → is_at port routed ≡ true → routed ≡ Some port
at-port port None is = absurd (cc)
at-port port (Some own) is = ap Some (eqb-true own port is)

-- A job's end

pub heard_by_owner_alone : HeardByOwnerAlone
unfolding token_news
heard_by_owner_alone rules events port tick life number status bytes later past split grows =
    by (is_at port (token_port rules (front_of past))) (life == token_life rules (front_of past)) refl refl where
      view-done : (own same : Bool) → is_at port (token_port rules (front_of past)) ≡ own → (life == token_life rules (front_of past)) ≡ same
          → view rules port (job_done tick life number status bytes ∷ past)
          ≡ heard tick (cond (own && same) (news.Finishes number status bytes ∷ []) []) (view rules port past)
      view-done own same own_is same_is =
          ap (λ (b : Bool). heard tick (cond (b && (life == token_life rules (front_of past))) (news.Finishes number status bytes ∷ []) []) (view rules port past)) own_is
          ∙ ap (λ (b : Bool). heard tick (cond (own && b) (news.Finishes number status bytes ∷ []) []) (view rules port past)) same_is

      by : (own same : Bool) → is_at port (token_port rules (front_of past)) ≡ own → (life == token_life rules (front_of past)) ≡ same
          → HearsAsOwner rules port tick life number status bytes past
      by true true own_is same_is =
          let routed = at-port port (token_port rules (front_of past)) own_is in
          record {
            heard = view-done true true own_is same_is;
            routed = routed;
            selected = selected-token_port rules (front_of past) port routed;
            present = eqb-true life (token_life rules (front_of past)) same_is;
          }
      by true false own_is same_is = absurd (grows (view-done true false own_is same_is))
      by false same own_is same_is = absurd (grows (view-done false same own_is same_is))

-- An act that makes a job

job-in_life : (life : ℕ) (made : Option Job) (job : Job) → job_orders (option_map (in_life life) made) ≡ order.Job job ∷ [] → job.life ≡ life
job-in_life life None job is = absurd (cc)
job-in_life life (Some kind) job is = let same : in_life life kind ≡ job = cc in sym (ap (λ (j : Job). j.life) same)

-- the token is routed to its port, in the life of the job
pub record IsOwners (rules : RuleSet) (port : ℕ) (job : Job) (past : List Seen) : Type 0 where
  pub routed : token_port rules (front_of past) ≡ Some port
  pub present : job.life ≡ token_life rules (front_of past)

-- an act at a port to which the token isn't routed makes none
unrouted-act : (rules : RuleSet) (port : ℕ) (act : Act) (past : List Seen) → is_at port (token_port rules (front_of past)) ≡ false
    → act_orders rules port Ua act past ≡ []
unrouted-act rules port act past other =
    ap (λ (bridge : BridgePast). job_orders (option_map (in_life (token_life rules (front_of past))) (bridge_made bridge act))) (others_are_down rules past port other)

owns-act : (rules : RuleSet) (port : ℕ) (side : Side) (act : Act) (job : Job) (past : List Seen) → act_orders rules port side act past ≡ order.Job job ∷ []
    → IsOwners rules port job past
owns-act rules port Km act job past is = absurd (cc)
owns-act rules port Ua act job past is = by (is_at port (token_port rules (front_of past))) refl where
  by : (own : Bool) → is_at port (token_port rules (front_of past)) ≡ own → IsOwners rules port job past
  by true own = record {
    routed = at-port port (token_port rules (front_of past)) own;
    present = job-in_life (token_life rules (front_of past)) (bridge_made (bridges_of rules past port) act) job is;
  }
  by false other =
      let never : [] ≡ order.Job job ∷ [] = sym (unrouted-act rules port act past other) ∙ is in
      absurd (cc)

pub owns : (rules : RuleSet) (port : ℕ) (job : Job) (event : Seen) (past : List Seen) → MakesJob rules port job event past → IsOwners rules port job past
owns rules port job event past made =
    owns-act rules port made.side made.act job past
    (subst (λ (h : Happening). orders_at rules (record { tick = event.tick; happening = h }) past ≡ order.Job job ∷ []) made.happens made.ordered)

pub jobs_are_the_owners : JobsAreTheOwners
jobs_are_the_owners rules port job event past made =
    let own = owns rules port job event past made in
    (own.routed, selected-token_port rules (front_of past) port own.routed, own.present)

-- where the switch isn't alive no port is selected
selected-alive_not : (rules : RuleSet) (past : List FrontEvent) (port : ℕ) → is_alive (health_at past) ≡ false → selected_at rules past ≡ Some port → ⊥
selected-alive_not rules past port asleep is =
    let never : true ≡ false = sym (selected-alive rules past port is) ∙ asleep in
    cc

pub no_jobs_unselected : NoJobsUnselected
no_jobs_unselected rules port Km act past apart = refl
no_jobs_unselected rules port Ua act past apart = by (is_at port (token_port rules (front_of past))) refl where
  apart-from : selected_at rules (front_of past) ≡ Some port → ⊥
  apart-from is = elim apart [ inl other ↦ other is | inr asleep ↦ selected-alive_not rules (front_of past) port asleep is ]

  by : (own : Bool) → is_at port (token_port rules (front_of past)) ≡ own → act_orders rules port Ua act past ≡ []
  by false other = unrouted-act rules port act past other
  by true own =
      absurd (apart-from (selected-token_port rules (front_of past) port (at-port port (token_port rules (front_of past)) own)))

-- Histories in two parts

pub front-act : (event : Seen) (past : List Seen) (port : ℕ) (side : Side) (act : Act) → event.happening ≡ PortActs port side act → front_of (event ∷ past) ≡ front_of past
front-act event past port side act is = by event.happening is where
  by : (happening : Happening) → happening ≡ PortActs port side act → front_of (record { tick = event.tick; happening = happening } ∷ past) ≡ front_of past
  by (PortActs other connector taken) is = refl
  by (AtFront doing) is = absurd (cc)

pub front-append : (events past : List Seen) → front_of (events ++ past) ≡ front_of events ++ front_of past
front-append [] past = refl
front-append (event ∷ events) past = by event.tick event.happening (front-append events past) where
  by : (tick : ℕ) (happening : Happening) → front_of (events ++ past) ≡ front_of events ++ front_of past
      → front_of (record { tick = tick; happening = happening } ∷ events ++ past) ≡ front_of (record { tick = tick; happening = happening } ∷ events) ++ front_of past
  by tick (PortActs port side act) before = before
  by tick (AtFront doing) before = ap (λ (front : List FrontEvent). front_event tick doing ∷ front) before

pub history-over : (rules : RuleSet) (events past : List FrontEvent) → token_history rules (events ++ past) ≡ moments_over rules events past ++ token_history rules past
history-over rules [] past = refl
history-over rules (event ∷ events) past =
    ap (λ (moments : List Moment). moments_at rules event (events ++ past) ++ moments) (history-over rules events past)
    ∙ sym (append_assoc (moments_at rules event (events ++ past)) (moments_over rules events past) (token_history rules past))

-- Two moments of one life at which the token is routed

pub life_is_routed_once : LifeIsRoutedOnce
life_is_routed_once rules events port other later between past split was is same =
    let end : Some port ≡ Some other
    = sym (routed-end rules port (moments_over rules (front_of between) (front_of past)) (token_history rules (front_of past)) was stays) ∙ now in
    cc where
      history : token_history rules (front_of (between ++ past))
          ≡ moments_over rules (front_of between) (front_of past) ++ token_history rules (front_of past)
      history = ap (token_history rules) (front-append between past) ∙ history-over rules (front_of between) (front_of past)

      now : routed_at rules (moments_over rules (front_of between) (front_of past) ++ token_history rules (front_of past)) ≡ Some other
      now = ap (routed_at rules) (sym history) ∙ is

      stays : StaysRouted rules port (moments_over rules (front_of between) (front_of past)) (token_history rules (front_of past))
      stays =
          same-life rules port other (moments_over rules (front_of between) (front_of past)) (token_history rules (front_of past)) was now
          (same ∙ ap (lives_at rules) history)

-- Between two acts that make jobs

routed-before : (rules : RuleSet) (port : ℕ) (later moments past : List Moment) → StaysRouted rules port (later ++ moments) past → StaysRouted rules port moments past
routed-before rules port [] moments past stays = stays
routed-before rules port (moment ∷ later) moments past stays = routed-before rules port later moments past stays.1

routed-over : (rules : RuleSet) (port : ℕ) (events past : List FrontEvent) → token_port rules past ≡ Some port
    → StaysRouted rules port (moments_over rules events past) (token_history rules past) → token_port rules (events ++ past) ≡ Some port
routed-over rules port events past routed stays =
    ap (routed_at rules) (history-over rules events past) ∙ routed-end rules port (moments_over rules events past) (token_history rules past) routed stays

given-same : (port : ℕ) (before after : Option ℕ) (gives : ℕ) → before ≡ Some port → after ≡ Some port → given_after before after gives ≡ gives
given-same port before after gives was is = rw (was, is, same_number port) refl

selections-over : (rules : RuleSet) (port : ℕ) (events past : List FrontEvent) → token_port rules past ≡ Some port
    → StaysRouted rules port (moments_over rules events past) (token_history rules past) → selections rules (events ++ past) ≡ selections rules past
selections-over rules port [] past routed stays = refl
selections-over rules port (event ∷ events) past routed stays =
    let before = routed-before rules port (moments_at rules event (events ++ past)) (moments_over rules events past) (token_history rules past) stays in
    given-same port (selected_at rules (events ++ past)) (selected_at rules (event ∷ events ++ past)) (selections rules (events ++ past))
    (selected-token_port rules (events ++ past) port (routed-over rules port events past routed before))
    (selected-token_port rules (event ∷ events ++ past) port (routed-over rules port (event ∷ events) past routed stays))
    ∙ selections-over rules port events past routed before

-- two acts that make jobs, by what happened at the front
pub record TwoJobs (rules : RuleSet) (port other : ℕ) (one two : Job) (events past : List FrontEvent) : Type 0 where
  pub was : routed_at rules (token_history rules past) ≡ Some port
  pub now : routed_at rules (moments_over rules events past ++ token_history rules past) ≡ Some other
  pub first : one.life ≡ lives_at rules (token_history rules past)
  pub second : two.life ≡ lives_at rules (moments_over rules events past ++ token_history rules past)

front-between : (first : Seen) (between past : List Seen) (port : ℕ) (side : Side) (act : Act) → first.happening ≡ PortActs port side act
    → front_of (between ++ first ∷ past) ≡ front_of between ++ front_of past
front-between first between past port side act is =
    front-append between (first ∷ past) ∙ ap (λ (front : List FrontEvent). front_of between ++ front) (front-act first past port side act is)

two-jobs : (rules : RuleSet) (port other : ℕ) (one two : Job) (first second : Seen) (between past : List Seen)
    → MakesJob rules port one first past → MakesJob rules other two second (between ++ first ∷ past)
    → TwoJobs rules port other one two (front_of between) (front_of past)
two-jobs rules port other one two first second between past made again =
    let before = owns rules port one first past made in
    let after = owns rules other two second (between ++ first ∷ past) again in
    let history = ap (token_history rules) (front-between first between past port made.side made.act made.happens)
    ∙ history-over rules (front_of between) (front_of past) in
    record {
      was = before.routed;
      now = ap (routed_at rules) (sym history) ∙ after.routed;
      first = before.present;
      second = after.present ∙ ap (lives_at rules) history;
    }

pub jobs_of_one_life : JobsOfOneLife
jobs_of_one_life rules port other one two first second between past made again same =
    (one-port, ap (selections rules) (front-between first between past port made.side made.act made.happens) ∙ selections-over rules port (front_of between) (front_of past) g.was stays) where
      g : TwoJobs rules port other one two (front_of between) (front_of past)
      g = two-jobs rules port other one two first second between past made again

      moments : List Moment
      moments = moments_over rules (front_of between) (front_of past)

      stays : StaysRouted rules port moments (token_history rules (front_of past))
      stays = same-life rules port other moments (token_history rules (front_of past)) g.was g.now (sym g.first ∙ same ∙ g.second)

      one-port : port ≡ other
      one-port =
          let end : Some port ≡ Some other = sym (routed-end rules port moments (token_history rules (front_of past)) g.was stays) ∙ g.now in
          cc

pub jobs_of_two_lives : JobsOfTwoLives
jobs_of_two_lives rules port other one two first second between past made again apart =
    let g = two-jobs rules port other one two first second between past made again in
    other-life rules port other (moments_over rules (front_of between) (front_of past)) (token_history rules (front_of past)) g.was g.now
    (λ same. apart (g.first ∙ same ∙ sym g.second))

pub jobs_of_two_selections : JobsOfTwoSelections
jobs_of_two_selections rules port other one two first second between past made again which =
    (apart, jobs_of_two_lives rules port other one two first second between past made again apart) where
      apart : one.life ≢ two.life
      apart same = elim which [
        | inl ports ↦ ports (jobs_of_one_life rules port other one two first second between past made again same).0
        | inr times ↦ times (jobs_of_one_life rules port other one two first second between past made again same).1
      ]
