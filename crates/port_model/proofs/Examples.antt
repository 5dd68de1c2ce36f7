-- The definitions at work on small runs, each computed. Histories are newest first.
use Rattle.std.specs.Prelude.{◌≡◌, ℕ, true, List, [], ◌∷◌, Some, option_map, length, refl}
use Rattle.psd_base.specs.Event.{Seen, PortActs, PanelMoves, AtFront}
use Rattle.peripheral_filter.specs.declared.rule.RuleSet.{RuleSet}
use Rattle.psd_base.specs.Setup.{setup_of}
use Rattle.psd_base.specs.declared.act.Act.TheVariants as act
use Rattle.psd_base.specs.declared.act.Answer.TheVariants as answer
use Rattle.psd_base.specs.declared.act.Side.TheVariants.{Km}
use Rattle.psd_base.specs.declared.console.Panel.{Panel}
use Rattle.psd_base.specs.declared.console.Panel.TheVariants as panel
use Rattle.fail_secure.specs.Health.{health_after}
use Rattle.selector.specs.Panel.{ports_down}
use Rattle.port_model.specs.Lines.{line_at}
use Rattle.port_model.specs.OnePort.{one_port_lines}
use Rattle.port_model.specs.Peripherals.{shows_none}
use Rattle.port_model.specs.Token.{token_news}
use Rattle.port_model.specs.View.{view}

abbrev pub no_rules : RuleSet
no_rules = record { allow = record { items = [] }; deny = record { items = [] } }

-- a run: an act of port 1 in self-test, the four checks, and acts of ports 1 and 2
abbrev pub moved : ℕ → Panel → Seen
moved tick move = record { tick = tick; happening = AtFront (PanelMoves move) }

abbrev pub reset_of : ℕ → ℕ → Seen
reset_of tick port = record { tick = tick; happening = PortActs port Km act.Reset }

abbrev pub asked : ℕ → ℕ → Seen
asked tick port = record { tick = tick; happening = PortActs port Km (act.Setup 0 (setup_of (0x80 ∷ 6 ∷ 0 ∷ 1 ∷ 0 ∷ 0 ∷ 0x40 ∷ 0 ∷ []))) }

abbrev pub tested : List Seen
tested =
    moved 0 (panel.Check 4 true) ∷ moved 0 (panel.Check 3 true) ∷ moved 0 (panel.Check 2 true)
    ∷ moved 0 (panel.Check 1 true) ∷ asked 0 1 ∷ []

silent_in_self_test : option_map (λ line. line.1.answer) (line_at no_rules (asked 1 1) (asked 0 1 ∷ [])) ≡ Some answer.Silent
unfolding health_after
silent_in_self_test = refl

answers_when_alive : option_map (λ line. line.1.answer) (line_at no_rules (asked 1 1) tested) ≡ Some answer.Ack
unfolding health_after ports_down token_news shows_none
answers_when_alive = refl

-- the acts of port 2 are none of port 1's
own_lines_alone : length (one_port_lines (view no_rules 1 (asked 2 2 ∷ asked 1 1 ∷ tested))) ≡ 2
unfolding health_after ports_down token_news shows_none
own_lines_alone = refl
