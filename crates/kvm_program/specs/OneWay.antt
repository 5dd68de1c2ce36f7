-- Nothing goes from the computers to the console, and nothing from one computer to another: said of what a replay writes.
use Rattle.std.specs.Prelude.{◌≡◌, ℕ, List, []}
use Rattle.psd_base.specs.Event.{Seen}
use Rattle.psd_base.specs.History.{onto}
use Rattle.peripheral_filter.specs.declared.rule.RuleSet.{RuleSet}
use Rattle.port_model.specs.Independence.{is_act, is_act_elsewhere, without}
use Rattle.port_model.specs.View.{view}
use Rattle.kvm_program.specs.Console.{power_and_asks_of}
use Rattle.kvm_program.specs.Log.{log_of}
use Rattle.kvm_program.specs.Transcript.{transcript_of}

-- What the keyboard, the mouse and the token are told over a schedule, but for the token's jobs, is what they are told over it
-- without all acts of all computers.
abbrev pub ConsoleGetsNoActs : Type 0
ConsoleGetsNoActs = (rules : RuleSet) (events : List Seen) → power_and_asks_of rules (without is_act events) ≡ power_and_asks_of rules events

-- What the log says over a schedule is what it says over it without all acts of all computers.
abbrev pub LogGetsNoActs : Type 0
LogGetsNoActs = (rules : RuleSet) (events : List Seen) → log_of rules (without is_act events) ≡ log_of rules events

-- Over two schedules in which the same concerns a port, its computer's transcript is the same, byte for byte.
abbrev pub SameViewSameTranscript : Type 0
SameViewSameTranscript = (rules others : RuleSet) (port : ℕ) (events other : List Seen)
    → view rules port (onto events []) ≡ view others port (onto other [])
    → transcript_of rules port events ≡ transcript_of others port other

-- Two schedules that are the same but for what other computers do give a port the same transcript: acts of other computers may be
-- put in, taken out or exchanged.
abbrev pub OthersLeaveTranscript : Type 0
OthersLeaveTranscript = (rules : RuleSet) (port : ℕ) (events other : List Seen)
    → without (is_act_elsewhere port) events ≡ without (is_act_elsewhere port) other
    → transcript_of rules port events ≡ transcript_of rules port other
