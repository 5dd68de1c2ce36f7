-- The bridge of the port to which the token is routed goes on as that port's view says, and those of all other ports are down.
use Rattle.std.proofs.Common.{if◌then◌else◌, ◌≡◌, ℕ, ◌+◌, Bool, true, false, nat_eq, List, [], ◌∷◌, ◌++◌, Option, Some, None, option_map, refl, sym, subst, ap, ◌∙◌, cond, inl, inr}
use Rattle.std.proofs.lemmas.Bool.Decides.{eqb_tells}
use Rattle.std.proofs.lemmas.List.{append-nil, append_assoc}
use Rattle.psd_base.specs.declared.act.Act.{Act}
use Rattle.psd_base.specs.declared.console.JobKind.{JobKind}
use Rattle.psd_base.specs.declared.console.Plug.TheVariants.{Token}
use Rattle.psd_base.specs.Event.{Finishes}
use Rattle.peripheral_filter.specs.declared.rule.RuleSet.{RuleSet}
use Rattle.console_host.specs.declared.descriptors.Shape.{Shape}
use Rattle.console_host.specs.Lives.{shape_of_life}
use Rattle.auth_router.specs.declared.up.Up.{Up}
use Rattle.auth_router.specs.Entries.{BridgeItem, Done, Entry}
use Rattle.auth_router.specs.Bridge.{BridgePast, IsDown, IsUp, after_act, after_done, answer_to, bridge_answer, bridge_made, entry_for, history_of, job_count, job_of_act}
use Rattle.auth_router.specs.Slot.{lives}
use Rattle.token_plug.specs.Acts.{acted_at, answer_at, job_orders, jobs_at}
use Rattle.token_plug.specs.Lives.{life_at, slot_calls}
use Rattle.token_plug.specs.Moments.{Moment}
use Rattle.token_plug.specs.Routing.{bridge_at, bridged, brought_up, routed_at, up_of}
use Rattle.token_plug.proofs.Staying.{lives_stay, stays_routed}
use Rattle.port_model.specs.Concerns.{TokenNews}
use Rattle.port_model.specs.Concerns as news
use Rattle.port_model.specs.Chosen.{is_at}
use Rattle.switch_core.specs.Orders.{in_life}
use Rattle.port_model.specs.Token.{comes_with, done_news, given_over, moment_news, news_between}
use Rattle.switch_core.specs.Bridges.{bridge_among, bridge_in_life, bridge_over, up_in_life}
use Rattle.port_model.proofs.Numbers.{other_number, same_number}
use Rattle.switch_core.proofs.Hearing.{told_over, told_over-append}

-- The number of the life is told in jobs alone

history-in_life : (life : ℕ) (up : Up) (items : List BridgeItem) → history_of (up_in_life life up) items ≡ history_of up items
history-in_life life up [] = refl
history-in_life life up (item ∷ items) = ap (λ (past : List Entry). entry_for up past item ∷ past) (history-in_life life up items)

pub answer-in_life : (life : ℕ) (bridge : BridgePast) (act : Act) → bridge_answer (bridge_in_life life bridge) act ≡ bridge_answer bridge act
answer-in_life life IsDown act = refl
answer-in_life life (IsUp up items) act = ap (λ (past : List Entry). answer_to up past act) (history-in_life life up items)

pub made-in_life : (life : ℕ) (bridge : BridgePast) (act : Act) → bridge_made (bridge_in_life life bridge) act ≡ option_map (in_life life) (bridge_made bridge act)
made-in_life life IsDown act = refl
made-in_life life (IsUp up items) act =
    ap (λ (past : List Entry). option_map (λ (k : JobKind). record { life = life; number = 1 + job_count past; kind = k }) (job_of_act up past act)) (history-in_life life up items)
    ∙ by (job_of_act up (history_of up items) act) where
      by : (made : Option JobKind) → option_map (λ (k : JobKind). record { life = life; number = 1 + job_count (history_of up items); kind = k }) made
          ≡ option_map (in_life life) (option_map (λ (k : JobKind). record { life = up.life; number = 1 + job_count (history_of up items); kind = k }) made)
      by None = refl
      by (Some kind) = refl

-- the bridges of all ports to which the token isn't routed are down
abbrev pub OthersDown : Option ℕ → (ℕ → BridgePast) → Type 0
OthersDown routed bridges = (port : ℕ) → is_at port routed ≡ false → bridges port ≡ IsDown

-- A moment at the token's plug

abbrev pub told_to : (ℕ → List TokenNews) → (ℕ → BridgePast) → ℕ → BridgePast
told_to news bridges port = told_over (news port) (bridges port)

comes_elsewhere : (port routed : ℕ) (shape : Option Shape) (bridge : BridgePast) → nat_eq routed port ≡ false → bridge ≡ IsDown
    → told_over (if nat_eq routed port then comes_with shape else []) bridge ≡ IsDown
comes_elsewhere port routed shape bridge apart down = rw apart down

pub others_down-moment : (rules : RuleSet) (moment : Moment) (past : List Moment) (bridges : ℕ → BridgePast) → OthersDown (routed_at rules past) bridges
    → OthersDown (routed_at rules (moment ∷ past)) (told_to (λ port. moment_news rules port moment past) bridges)
others_down-moment rules moment past bridges down port =
    by (routed_at rules past) (routed_at rules (moment ∷ past)) refl refl (down port) where
      shape : Option Shape
      shape = shape_of_life Token rules (life_at rules (moment ∷ past))

      goes : (own : Bool) → (own ≡ false → bridges port ≡ IsDown) → told_over (cond own (news.Goes ∷ []) []) (bridges port) ≡ IsDown
      goes true was = refl
      goes false was = was refl

      by : (before after : Option ℕ) → routed_at rules past ≡ before → routed_at rules (moment ∷ past) ≡ after → (is_at port before ≡ false → bridges port ≡ IsDown)
          → is_at port after ≡ false → told_over (news_between port before after shape) (bridges port) ≡ IsDown
      by None None was is before apart = before refl
      by None (Some routed) was is before apart = rw apart (before refl)
      by (Some routed) None was is before apart = goes (nat_eq routed port) before
      by (Some routed) (Some now) was is before apart =
          before (subst (λ (n : ℕ). nat_eq n port ≡ false) (sym (stays_routed rules moment past routed now was is)) apart)

pub bridge-moment : (rules : RuleSet) (moment : Moment) (past : List Moment) (bridges : ℕ → BridgePast) → OthersDown (routed_at rules past) bridges
    → bridge_at rules moment past (bridge_among (routed_at rules past) (lives (slot_calls rules past)) bridges)
    ≡ bridge_among (routed_at rules (moment ∷ past)) (lives (slot_calls rules (moment ∷ past))) (told_to (λ port. moment_news rules port moment past) bridges)
bridge-moment rules moment past bridges down =
    by (routed_at rules past) (routed_at rules (moment ∷ past)) refl refl where
      shape : Option Shape
      shape = shape_of_life Token rules (life_at rules (moment ∷ past))

      now_life : ℕ
      now_life = lives (slot_calls rules (moment ∷ past))

      comes : (shape : Option Shape) (bridge : BridgePast) → bridge ≡ IsDown → brought_up (up_of now_life shape) ≡ bridge_in_life now_life (told_over (comes_with shape) bridge)
      comes None bridge was = rw was refl
      comes (Some shape) bridge was = refl

      by : (before after : Option ℕ) → routed_at rules past ≡ before → routed_at rules (moment ∷ past) ≡ after
          → bridged before after (up_of now_life shape) (bridge_among before (lives (slot_calls rules past)) bridges)
          ≡ bridge_among after now_life (λ port. told_over (news_between port before after shape) (bridges port))
      by None None was is = refl
      by (Some routed) None was is = refl
      by None (Some now) was is =
          rw (same_number now) (comes shape (bridges now) (down now (subst (λ (at : Option ℕ). is_at now at ≡ false) (sym was) refl)))
      by (Some routed) (Some now) was is =
          ap (λ (life : ℕ). bridge_in_life life (bridges routed)) (sym (lives_stay rules moment past routed now was is))
          ∙ ap (λ (port : ℕ). bridge_in_life now_life (bridges port)) (stays_routed rules moment past routed now was is)

-- Moments one after another

abbrev pub news_over : RuleSet → List Moment → List Moment → ℕ → List TokenNews
news_over rules moments past port = given_over (moment_news rules port) moments past

told_to-later : (rules : RuleSet) (moment : Moment) (moments past : List Moment) (bridges : ℕ → BridgePast) (port : ℕ)
    → told_to (news_over rules (moment ∷ moments) past) bridges port
    ≡ told_to (λ own. moment_news rules own moment (moments ++ past)) (told_to (news_over rules moments past) bridges) port
told_to-later rules moment moments past bridges port =
    told_over-append (news_over rules moments past port) (moment_news rules port moment (moments ++ past)) (bridges port)

pub among-same : (routed : Option ℕ) (life : ℕ) (bridges same : ℕ → BridgePast) → ((port : ℕ) → bridges port ≡ same port)
    → bridge_among routed life bridges ≡ bridge_among routed life same
among-same None life bridges same is = refl
among-same (Some port) life bridges same is = ap (bridge_in_life life) (is port)

pub others_down-over : (rules : RuleSet) (moments past : List Moment) (bridges : ℕ → BridgePast) → OthersDown (routed_at rules past) bridges
    → OthersDown (routed_at rules (moments ++ past)) (told_to (news_over rules moments past) bridges)
others_down-over rules [] past bridges down = down
others_down-over rules (moment ∷ moments) past bridges down = λ port apart.
    told_to-later rules moment moments past bridges port
    ∙ others_down-moment rules moment (moments ++ past) (told_to (news_over rules moments past) bridges) (others_down-over rules moments past bridges down) port apart

pub bridge-over : (rules : RuleSet) (moments past : List Moment) (bridges : ℕ → BridgePast) → OthersDown (routed_at rules past) bridges
    → bridge_over rules moments past (bridge_among (routed_at rules past) (lives (slot_calls rules past)) bridges)
    ≡ bridge_among (routed_at rules (moments ++ past)) (lives (slot_calls rules (moments ++ past))) (told_to (news_over rules moments past) bridges)
bridge-over rules [] past bridges down = refl
bridge-over rules (moment ∷ moments) past bridges down =
    ap (bridge_at rules moment (moments ++ past)) (bridge-over rules moments past bridges down)
    ∙ bridge-moment rules moment (moments ++ past) (told_to (news_over rules moments past) bridges) (others_down-over rules moments past bridges down)
    ∙ among-same _ _ _ _ (λ port. sym (told_to-later rules moment moments past bridges port))

-- moments behind one that came first

pub bridge_over-behind : (rules : RuleSet) (moments : List Moment) (first : Moment) (past : List Moment) (bridge : BridgePast)
    → bridge_over rules (moments ++ first ∷ []) past bridge ≡ bridge_over rules moments (first ∷ past) (bridge_at rules first past bridge)
bridge_over-behind rules [] first past bridge = refl
bridge_over-behind rules (moment ∷ moments) first past bridge =
    ap (λ (before : List Moment). bridge_at rules moment before (bridge_over rules (moments ++ first ∷ []) past bridge)) (append_assoc moments (first ∷ []) past)
    ∙ ap (bridge_at rules moment (moments ++ first ∷ past)) (bridge_over-behind rules moments first past bridge)

pub given_over-behind : {A : Type 0} (gives : Moment → List Moment → List A) (moments : List Moment) (first : Moment) (past : List Moment)
    → given_over gives (moments ++ first ∷ []) past ≡ gives first past ++ given_over gives moments (first ∷ past)
given_over-behind gives [] first past = sym (append-nil (gives first past))
given_over-behind gives (moment ∷ moments) first past =
    ap (λ (before : List Moment). given_over gives (moments ++ first ∷ []) past ++ gives moment before) (append_assoc moments (first ∷ []) past)
    ∙ ap (λ given. given ++ gives moment (moments ++ first ∷ past)) (given_over-behind gives moments first past)
    ∙ append_assoc (gives first past) (given_over gives moments (first ∷ past)) (gives moment (moments ++ first ∷ past))

-- A job is done

done-in_life : (life done number status : ℕ) (bytes : List ℕ) (bridge : BridgePast)
    → after_done done number status bytes (bridge_in_life life bridge) ≡ bridge_in_life life (told_over (cond (nat_eq done life) (news.Finishes number status bytes ∷ []) []) bridge)
done-in_life life done number status bytes IsDown = by (nat_eq done life) where
  by : (own : Bool) → IsDown ≡ bridge_in_life life (told_over (cond own (news.Finishes number status bytes ∷ []) []) IsDown)
  by true = refl
  by false = refl
done-in_life life done number status bytes (IsUp up items) = by (nat_eq done life) where
  by : (own : Bool) → cond own (IsUp (up_in_life life up) (Done number status bytes ∷ items)) (IsUp (up_in_life life up) items)
      ≡ bridge_in_life life (told_over (cond own (news.Finishes number status bytes ∷ []) []) (IsUp up items))
  by true = refl
  by false = refl

pub others_down-done : (routed : Option ℕ) (life done number status : ℕ) (bytes : List ℕ) (bridges : ℕ → BridgePast) → OthersDown routed bridges
    → OthersDown routed (told_to (λ port. done_news port routed life (Finishes done number status bytes)) bridges)
others_down-done routed life done number status bytes bridges down port apart = rw apart (down port apart)

pub bridge-done : (routed : Option ℕ) (life done number status : ℕ) (bytes : List ℕ) (bridges : ℕ → BridgePast)
    → after_done done number status bytes (bridge_among routed life bridges)
    ≡ bridge_among routed life (told_to (λ port. done_news port routed life (Finishes done number status bytes)) bridges)
bridge-done None life done number status bytes bridges = refl
bridge-done (Some port) life done number status bytes bridges = rw (same_number port) (done-in_life life done number status bytes (bridges port))

-- The computer of a port acts at its token connector

abbrev pub bridges_acted : ℕ → Act → (ℕ → BridgePast) → ℕ → BridgePast
bridges_acted actor act bridges port = cond (nat_eq actor port) (after_act act (bridges port)) (bridges port)

act-in_life : (life : ℕ) (act : Act) (bridge : BridgePast) → after_act act (bridge_in_life life bridge) ≡ bridge_in_life life (after_act act bridge)
act-in_life life act IsDown = refl
act-in_life life act (IsUp up items) = refl

pub others_down-acted : (routed : Option ℕ) (actor : ℕ) (act : Act) (bridges : ℕ → BridgePast) → OthersDown routed bridges
    → OthersDown routed (bridges_acted actor act bridges)
others_down-acted routed actor act bridges down port apart = by (nat_eq actor port) where
  by : (own : Bool) → cond own (after_act act (bridges port)) (bridges port) ≡ IsDown
  by true = ap (after_act act) (down port apart)
  by false = down port apart

pub bridge-acted : (routed : Option ℕ) (life actor : ℕ) (act : Act) (bridges : ℕ → BridgePast)
    → acted_at actor act routed (bridge_among routed life bridges) ≡ bridge_among routed life (bridges_acted actor act bridges)
bridge-acted None life actor act bridges = refl
bridge-acted (Some port) life actor act bridges = elim (eqb_tells port actor) [
  | inl is ↦ rw is.0 (act-in_life life act (bridges port)
      ∙ ap (bridge_in_life life) (sym (ap (λ (own : Bool). cond own (after_act act (bridges port)) (bridges port)) (subst (λ (n : ℕ). nat_eq n port ≡ true) is.1 (same_number port)))))
  | inr is ↦ rw is.0 (ap (bridge_in_life life) (sym (ap (λ (own : Bool). cond own (after_act act (bridges port)) (bridges port)) (other_number actor port (λ same. is.1 (sym same))))))
]

pub answer-acted : (routed : Option ℕ) (life port : ℕ) (act : Act) (bridges : ℕ → BridgePast) → OthersDown routed bridges
    → answer_at port act routed (bridge_among routed life bridges) ≡ bridge_answer (bridges port) act
answer-acted None life port act bridges down = rw (down port refl) refl
answer-acted (Some routed) life port act bridges down = elim (eqb_tells routed port) [
  | inl is ↦ rw is.0 (answer-in_life life (bridges routed) act ∙ ap (λ (n : ℕ). bridge_answer (bridges n) act) is.1)
  | inr is ↦ rw is.0 (sym (ap (λ (bridge : BridgePast). bridge_answer bridge act) (down port is.0)))
]

pub jobs-acted : (routed : Option ℕ) (life port : ℕ) (act : Act) (bridges : ℕ → BridgePast) → OthersDown routed bridges
    → jobs_at port act routed (bridge_among routed life bridges) ≡ job_orders (option_map (in_life life) (bridge_made (bridges port) act))
jobs-acted None life port act bridges down = rw (down port refl) refl
jobs-acted (Some routed) life port act bridges down = elim (eqb_tells routed port) [
  | inl is ↦ rw is.0 (ap job_orders (made-in_life life (bridges routed) act ∙ ap (λ (n : ℕ). option_map (in_life life) (bridge_made (bridges n) act)) is.1))
  | inr is ↦ rw is.0 (sym (ap (λ (bridge : BridgePast). job_orders (option_map (in_life life) (bridge_made bridge act))) (down port is.0)))
]
