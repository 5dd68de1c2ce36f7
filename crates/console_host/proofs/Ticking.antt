-- An attachment at a tick of the clock.
use Rattle.std.proofs.Common.{◌≡◌, ℕ, ◌+◌, Bool, true, false, cond, Option, Some, None, refl, ap, sym, subst, ◌∙◌}
use Rattle.std.specs.Prelude.{◌&&◌, nat_le}
use Rattle.std.specs.Option.{option_map}
use Rattle.psd_base.specs.declared.console.Plug.{Plug}
use Rattle.peripheral_filter.specs.declared.rule.RuleSet.{RuleSet}
use Rattle.console_host.specs.declared.attachment.Attachment.{Attachment}
use Rattle.console_host.specs.declared.descriptors.Descriptors.{Descriptors}
use Rattle.console_host.specs.declared.next.TheConstants.{SILENCE}
use Rattle.console_host.specs.declared.step.Step.{Step}
use Rattle.console_host.specs.declared.step.Phase.{Phase}
use Rattle.console_host.specs.declared.step.Phase.TheVariants as phase
use Rattle.console_host.specs.Machine.{is_overdue}
use Rattle.console_host.specs.Lives.{Life, Standing, asks, is_ready, is_waiting, after_tick, is_silent, is_silent_in}
use Rattle.console_host.specs.Stands.{WaitsFor, PhaseStands, StandsAt}
use Rattle.console_host.proofs.Standing.{waiting, not-waiting}

-- what the tick finds, and what stands after it
record Ticks (attachment : Attachment) (rules : RuleSet) (tick : ℕ) (now : Option Life) (accepted : Option Descriptors) (overdue : Bool) : Type 0 where
  is : overdue ≡ is_silent_in attachment.plug rules tick now
  stands : StandsAt attachment.plug rules (cond overdue (record attachment { phase = phase.Ended }) attachment) (record { life = option_map (after_tick attachment.plug rules tick) now; accepted = accepted })

-- a life that isn't silent goes on as it is
same-life : (attachment : Attachment) (rules : RuleSet) (tick : ℕ) (life : Life) (accepted : Option Descriptors) → false ≡ is_silent attachment.plug rules tick life
    → StandsAt attachment.plug rules attachment (record { life = Some life; accepted = accepted })
    → Ticks attachment rules tick (Some life) accepted false
same-life attachment rules tick life accepted loud stands = record {
  is = loud;
  stands = subst (λ (b : Bool). StandsAt attachment.plug rules attachment (record { life = Some (cond b (record life { is_given_up = true }) life); accepted = accepted })) loud stands;
}

ticks-idle : (attachment : Attachment) (rules : RuleSet) (tick : ℕ) (life : Life) (accepted : Option Descriptors) → is_waiting attachment.plug rules life ≡ false
    → StandsAt attachment.plug rules attachment (record { life = Some life; accepted = accepted })
    → Ticks attachment rules tick (Some life) accepted false
ticks-idle attachment rules tick life accepted idle stands =
    same-life attachment rules tick life accepted (ap (λ (b : Bool). b && nat_le (life.asked + SILENCE) tick) (sym idle)) stands

ticks-asking : (attachment : Attachment) (rules : RuleSet) (tick present since : ℕ) (asked : Step) (life : Life) (accepted : Option Descriptors) (overdue : Bool)
    → WaitsFor attachment.plug rules attachment present since asked life
    → overdue ≡ is_silent attachment.plug rules tick life
    → StandsAt attachment.plug rules attachment (record { life = Some life; accepted = accepted })
    → Ticks attachment rules tick (Some life) accepted overdue
ticks-asking attachment rules tick present since asked life accepted false waits is stands = same-life attachment rules tick life accepted is stands
ticks-asking attachment rules tick present since asked life accepted true waits is stands = record {
  is = is;
  stands = subst (λ (b : Bool). StandsAt attachment.plug rules (record attachment { phase = phase.Ended }) (record { life = Some (cond b (record life { is_given_up = true }) life); accepted = accepted })) is (record {
    plug_is = refl;
    known = stands.known;
    accepted = stands.accepted;
    few = stands.few;
    life = record { not_waiting = refl; not_ready = ap is_ready waits.plan };
  });
}

ticks-by : (attachment : Attachment) (rules : RuleSet) (tick : ℕ) (at : Phase) (now : Option Life) (accepted : Option Descriptors)
    → PhaseStands attachment.plug rules attachment at now → StandsAt attachment.plug rules attachment (record { life = now; accepted = accepted })
    → Ticks attachment rules tick now accepted (is_overdue tick at)
ticks-by attachment rules tick phase.Vacant None accepted at stands = record { is = refl; stands = stands }
ticks-by attachment rules tick phase.Vacant (Some life) accepted at stands = absurd at
ticks-by attachment rules tick (phase.Asking present since asked) None accepted at stands = absurd at
ticks-by attachment rules tick (phase.Asking present since asked) (Some life) accepted at stands =
    ticks-asking attachment rules tick present since asked life accepted (nat_le (since + SILENCE) tick) at
    (ap (λ (n : ℕ). nat_le (n + SILENCE) tick) (sym at.since_is)
    ∙ ap (λ (b : Bool). b && nat_le (life.asked + SILENCE) tick) (sym (waiting attachment.plug rules life at.kept (ap asks at.plan)))) stands
ticks-by attachment rules tick phase.Ready None accepted at stands = absurd at
ticks-by attachment rules tick phase.Ready (Some life) accepted at stands = ticks-idle attachment rules tick life accepted (not-waiting attachment.plug rules life (ap asks at.plan)) stands
ticks-by attachment rules tick phase.Ended None accepted at stands = absurd at
ticks-by attachment rules tick phase.Ended (Some life) accepted at stands = ticks-idle attachment rules tick life accepted at.not_waiting stands

ticks : (plug : Plug) (attachment : Attachment) (rules : RuleSet) (tick : ℕ) (now : Standing) → StandsAt plug rules attachment now
    → Ticks attachment rules tick now.life now.accepted (is_overdue tick attachment.phase)
ticks plug attachment rules tick now stands =
    let mine : StandsAt attachment.plug rules attachment now = subst (λ (p : Plug). StandsAt p rules attachment now) (sym stands.plug_is) stands in
    ticks-by attachment rules tick attachment.phase now.life now.accepted mine.life mine

pub silent-ticked : (plug : Plug) (attachment : Attachment) (rules : RuleSet) (tick : ℕ) (now : Standing) → StandsAt plug rules attachment now
    → is_overdue tick attachment.phase ≡ is_silent_in plug rules tick now.life
silent-ticked plug attachment rules tick now stands =
    subst (λ (p : Plug). is_overdue tick attachment.phase ≡ is_silent_in p rules tick now.life) stands.plug_is (ticks plug attachment rules tick now stands).is

pub stands-ticked : (plug : Plug) (attachment : Attachment) (rules : RuleSet) (tick : ℕ) (now : Standing) (overdue : Bool) → is_overdue tick attachment.phase ≡ overdue → StandsAt plug rules attachment now
    → StandsAt plug rules (cond overdue (record attachment { phase = phase.Ended }) attachment) (record now { life = option_map (after_tick plug rules tick) now.life })
stands-ticked plug attachment rules tick now overdue is stands =
    subst (λ (p : Plug). StandsAt p rules (cond overdue (record attachment { phase = phase.Ended }) attachment) (record now { life = option_map (after_tick p rules tick) now.life })) stands.plug_is
    (subst (λ (b : Bool). StandsAt attachment.plug rules (cond b (record attachment { phase = phase.Ended }) attachment) (record now { life = option_map (after_tick attachment.plug rules tick) now.life })) is
    (ticks plug attachment rules tick now stands).stands)
