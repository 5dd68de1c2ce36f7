-- What a replay writes to each outlet while it serves.
use Rattle.std.specs.Prelude.{ℕ, List, []}
use Rattle.psd_base.specs.declared.outlet.Outlet.{Outlet}
use Rattle.psd_base.specs.declared.outlet.Outlet.TheVariants as outlet
use Rattle.psd_base.specs.Event.{Seen}
use Rattle.psd_base.specs.History.{onto}
use Rattle.peripheral_filter.specs.declared.rule.RuleSet.{RuleSet}
use Rattle.switch_core.specs.Gives.{Gives, gives_at}
use Rattle.kvm_program.specs.Console.{console_after, orders_text}
use Rattle.kvm_program.specs.Log.{log_after, notes_text}
use Rattle.kvm_program.specs.Transcript.{text_at, transcript_after}

-- what each outlet has got after a history, which is newest first
abbrev pub text_after : RuleSet → Outlet → List Seen → List ℕ
text_after rules (outlet.Port port) past = transcript_after rules port past
text_after rules outlet.Console past = console_after rules past
text_after rules outlet.Log past = log_after rules past
text_after rules outlet.Report past = []
text_after rules outlet.Faults past = []

-- the same over events, which are oldest first
abbrev pub text_of : RuleSet → Outlet → List Seen → List ℕ
text_of rules to events = text_after rules to (onto events [])

-- what the things that one event gives are to each outlet
abbrev pub turn_text : Outlet → ℕ → Gives → List ℕ
turn_text (outlet.Port port) tick gives = text_at port gives.line
turn_text outlet.Console tick gives = orders_text tick gives.orders
turn_text outlet.Log tick gives = notes_text tick gives.notes
turn_text outlet.Report tick gives = []
turn_text outlet.Faults tick gives = []

-- what an event after a history adds to each outlet
abbrev pub step_text : RuleSet → Outlet → Seen → List Seen → List ℕ
step_text rules to event past = turn_text to event.tick (gives_at rules event past)
