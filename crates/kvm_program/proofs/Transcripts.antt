-- Transcripts as events come.
use Rattle.std.proofs.Common.{◌≡◌, ℕ, ◌<◌, List, [], ◌∷◌, ◌++◌, refl, sym, ap, ◌∙◌, inl, inr, arith}
use Rattle.std.proofs.lemmas.Bool.Decides.{eqb_tells}
use Rattle.std.proofs.lemmas.Grind.{flat_map-append}
use Rattle.std.proofs.lemmas.List.{append-nil}
use Rattle.psd_base.specs.declared.act.Act.{Act}
use Rattle.psd_base.specs.declared.act.Side.{Side}
use Rattle.psd_base.specs.declared.line.Line.{Line}
use Rattle.psd_base.specs.Event.{Seen, Happening, HappensWithin, PortActs, AtFront}
use Rattle.peripheral_filter.specs.declared.rule.RuleSet.{RuleSet}
use Rattle.port_transcript.specs.PortLine.{line_text}
use Rattle.port_model.specs.View.{view}
use Rattle.port_model.specs.OnePort.{one_port_lines, line_of}
use Rattle.port_model.specs.Lines.{line_at}
use Rattle.switch_core.proofs.Views.{one_port_lines-front}
use Rattle.kvm_program.specs.Transcript.{lines_text, transcript_after, text_at}

-- the text of one line more
lines_text-push : (lines : List Line) (line : Line) → lines_text (lines ++ line ∷ []) ≡ lines_text lines ++ line_text line
lines_text-push lines line = flat_map-append line_text lines (line ∷ []) ∙ ap (λ (text : List ℕ). lines_text lines ++ text) (append-nil (line_text line))

-- an act adds its line to the transcript of its port, and nothing to another
step_of_act : (rules : RuleSet) (port tick own : ℕ) (side : Side) (act : Act) (past : List Seen)
    → transcript_after rules port (record { tick = tick; happening = PortActs own side act } ∷ past)
    ≡ transcript_after rules port past ++ text_at port (line_at rules (record { tick = tick; happening = PortActs own side act }) past)
step_of_act rules port tick own side act past =
    elim (eqb_tells own port) [
      | inl same ↦ rw same.0 (lines_text-push (one_port_lines (view rules port past)) (line_of (view rules port past) tick side act)
          ∙ ap (λ (p : ℕ). transcript_after rules port past ++ line_text (line_of (view rules p past) tick side act)) (sym same.1))
      | inr apart ↦ rw apart.0 (sym (append-nil (transcript_after rules port past)))
    ]

-- an event adds to each port's transcript what its line is to this port
pub transcript_after-step : (rules : RuleSet) (port : ℕ) (event : Seen) (past : List Seen)
    → transcript_after rules port (event ∷ past) ≡ transcript_after rules port past ++ text_at port (line_at rules event past)
transcript_after-step rules port event past = by_happening event.tick event.happening where
  by_happening : (tick : ℕ) (happening : Happening)
      → transcript_after rules port (record { tick = tick; happening = happening } ∷ past)
      ≡ transcript_after rules port past ++ text_at port (line_at rules (record { tick = tick; happening = happening }) past)
  by_happening tick (PortActs own side act) = step_of_act rules port tick own side act past
  by_happening tick (AtFront doing) =
      ap lines_text (one_port_lines-front rules port tick doing past) ∙ sym (append-nil (transcript_after rules port past))

-- an event at one of so many ports has no line for a port above them
pub text_at-above : (rules : RuleSet) (ports port : ℕ) (event : Seen) (past : List Seen) → HappensWithin ports event.happening → ports < port
    → text_at port (line_at rules event past) ≡ []
text_at-above rules ports port event past within above = by_happening event.tick event.happening within where
  by_happening : (tick : ℕ) (happening : Happening) → HappensWithin ports happening
      → text_at port (line_at rules (record { tick = tick; happening = happening }) past) ≡ []
  by_happening tick (PortActs own side act) is = elim (eqb_tells own port) [ inl same ↦ absurd (omega (arith, is, above, same.1)) | inr apart ↦ rw apart.0 refl ]
  by_happening tick (AtFront doing) is = refl
