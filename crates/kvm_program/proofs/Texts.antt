-- What each outlet gets as events come.
use Rattle.std.proofs.Common.{◌≡◌, ℕ, List, [], ◌∷◌, ◌++◌, refl, sym, ap, ◌∙◌, append_assoc}
use Rattle.std.proofs.lemmas.List.{append-nil}
use Rattle.psd_base.specs.declared.outlet.Outlet.{Outlet}
use Rattle.psd_base.specs.declared.outlet.Outlet.TheVariants as outlet
use Rattle.psd_base.specs.Event.{Seen}
use Rattle.psd_base.specs.History.{onto}
use Rattle.peripheral_filter.specs.declared.rule.RuleSet.{RuleSet}
use Rattle.kvm_program.specs.Texts.{text_after, step_text}
use Rattle.kvm_program.proofs.Transcripts.{transcript_after-step}

-- an event adds its line, its orders and its notes
pub text_after-step : (rules : RuleSet) (to : Outlet) (event : Seen) (past : List Seen)
    → text_after rules to (event ∷ past) ≡ text_after rules to past ++ step_text rules to event past
text_after-step rules (outlet.Port port) event past = transcript_after-step rules port event past
text_after-step rules outlet.Console event past = refl
text_after-step rules outlet.Log event past = refl
text_after-step rules outlet.Report event past = refl
text_after-step rules outlet.Faults event past = refl

-- what is written stays, whatever comes
pub text_after-onto : (rules : RuleSet) (to : Outlet) (events past : List Seen)
    → (more : List ℕ) × (text_after rules to (onto events past) ≡ text_after rules to past ++ more)
text_after-onto rules to [] past = ([], sym (append-nil (text_after rules to past)))
text_after-onto rules to (event ∷ events) past =
    let later = text_after-onto rules to events (event ∷ past) in
    let here = step_text rules to event past in (
      here ++ later.0,
      later.1 ∙ (ap (λ (text : List ℕ). text ++ later.0) (text_after-step rules to event past) ∙ append_assoc (text_after rules to past) here later.0),
    )
