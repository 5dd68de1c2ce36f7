-- What a replay writes, and what it doesn't depend on.
use Rattle.std.proofs.Common.{◌≡◌, ℕ, Bool, true, false, List, [], ◌∷◌, ◌++◌, if◌then◌else◌, refl, sym, ap, ◌∙◌}
use Rattle.std.proofs.lemmas.List.{append-nil}
use Rattle.psd_base.specs.declared.console.Note.{Note}
use Rattle.psd_base.specs.declared.console.Order.{Order}
use Rattle.psd_base.specs.Event.{Happening, Seen}
use Rattle.psd_base.specs.History.{onto}
use Rattle.peripheral_filter.specs.declared.rule.RuleSet.{RuleSet}
use Rattle.switch_core.specs.Independence.{but_jobs}
use Rattle.port_model.specs.Independence.{is_act, is_act_elsewhere, without}
use Rattle.switch_core.specs.Notes.{notes_at}
use Rattle.switch_core.specs.Orders.{orders_at}
use Rattle.port_model.specs.View.{view}
use Rattle.switch_core.proofs.Independence.{console_ignores_acts}
use Rattle.port_model.proofs.Independence.{same_view_same_lines, view_ignores_others}
use Rattle.kvm_program.specs.Console.{orders_text, power_and_asks_after}
use Rattle.kvm_program.specs.Log.{log_after, notes_text}
use Rattle.kvm_program.specs.OneWay.{ConsoleGetsNoActs, LogGetsNoActs, OthersLeaveTranscript, SameViewSameTranscript}
use Rattle.kvm_program.specs.Transcript.{lines_text}

-- what is left out of a schedule is left out of its history
onto-without : (passes : Happening → Bool) (events past : List Seen) → onto (without passes events) (without passes past) ≡ without passes (onto events past)
onto-without passes [] past = refl
onto-without passes (event ∷ events) past = by_test (passes event.happening) (onto-without passes events (event ∷ past)) where
  by_test : (test : Bool)
      → onto (without passes events) (if test then without passes past else event ∷ without passes past) ≡ without passes (onto events (event ∷ past))
      → onto (if test then without passes events else event ∷ without passes events) (without passes past) ≡ without passes (onto events (event ∷ past))
  by_test true later = later
  by_test false later = later

-- an act adds nothing but a job, and what an event at the front adds doesn't depend on acts

console_without_acts : (rules : RuleSet) (past : List Seen) → power_and_asks_after rules (without is_act past) ≡ power_and_asks_after rules past
console_without_acts rules [] = refl
console_without_acts rules (event ∷ past) = by_test (is_act event.happening) refl (console_without_acts rules past) where
  by_test : (test : Bool) → is_act event.happening ≡ test → power_and_asks_after rules (without is_act past) ≡ power_and_asks_after rules past
      → power_and_asks_after rules (if test then without is_act past else event ∷ without is_act past) ≡ power_and_asks_after rules (event ∷ past)
  by_test true is before =
      before ∙ sym (ap (λ (orders : List Order). power_and_asks_after rules past ++ orders_text event.tick orders) ((console_ignores_acts rules event past).2 is).1
      ∙ append-nil (power_and_asks_after rules past))
  by_test false is before =
      ap (λ (text : List ℕ). text ++ orders_text event.tick (but_jobs (orders_at rules event (without is_act past)))) before
      ∙ ap (λ (orders : List Order). power_and_asks_after rules past ++ orders_text event.tick orders) (console_ignores_acts rules event past).1

log_without_acts : (rules : RuleSet) (past : List Seen) → log_after rules (without is_act past) ≡ log_after rules past
log_without_acts rules [] = refl
log_without_acts rules (event ∷ past) = by_test (is_act event.happening) refl (log_without_acts rules past) where
  by_test : (test : Bool) → is_act event.happening ≡ test → log_after rules (without is_act past) ≡ log_after rules past
      → log_after rules (if test then without is_act past else event ∷ without is_act past) ≡ log_after rules (event ∷ past)
  by_test true is before =
      before ∙ sym (ap (λ (notes : List Note). log_after rules past ++ notes_text event.tick notes) ((console_ignores_acts rules event past).2 is).0
      ∙ append-nil (log_after rules past))
  by_test false is before =
      ap (λ (text : List ℕ). text ++ notes_text event.tick (notes_at rules event (without is_act past))) before
      ∙ ap (λ (notes : List Note). log_after rules past ++ notes_text event.tick notes) (console_ignores_acts rules event past).0

pub console_gets_no_acts : ConsoleGetsNoActs
console_gets_no_acts rules events = ap (power_and_asks_after rules) (onto-without is_act events []) ∙ console_without_acts rules (onto events [])

pub log_gets_no_acts : LogGetsNoActs
log_gets_no_acts rules events = ap (log_after rules) (onto-without is_act events []) ∙ log_without_acts rules (onto events [])

pub same_view_same_transcript : SameViewSameTranscript
same_view_same_transcript rules others port events other same = ap lines_text (same_view_same_lines rules others port (onto events []) (onto other []) same)

-- the view of a schedule without what other computers do is that of the schedule
view_without_others : (rules : RuleSet) (port : ℕ) (events : List Seen)
    → view rules port (onto (without (is_act_elsewhere port) events) []) ≡ view rules port (onto events [])
view_without_others rules port events =
    ap (view rules port) (onto-without (is_act_elsewhere port) events []) ∙ view_ignores_others rules port (onto events [])

pub others_leave_transcript : OthersLeaveTranscript
others_leave_transcript rules port events other same =
    same_view_same_transcript rules rules port events other
    (sym (view_without_others rules port events)
    ∙ (ap (λ (kept : List Seen). view rules port (onto kept [])) same ∙ view_without_others rules port other))
