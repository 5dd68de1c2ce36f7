-- Counts as events come.
use Rattle.std.proofs.Common.{◌≡◌, ℕ, ◌+◌, ◌≤◌, List, ◌∷◌, length, Option, Result, Ok, Err, subst, ap, ◌∙◌, arith, length-append}
use Rattle.std.specs.Result.{OnOk}
use Rattle.psd_base.specs.declared.console.TheConstants.{NOTES_MAX}
use Rattle.psd_base.specs.declared.line.Line.{Line}
use Rattle.psd_base.specs.declared.stop.Stop.{Stop}
use Rattle.psd_base.specs.Event.{Seen}
use Rattle.psd_base.specs.History.{number_of}
use Rattle.psd_base.specs.Port.{IsPort}
use Rattle.peripheral_filter.specs.declared.rule.RuleSet.{RuleSet}
use Rattle.psd_base.specs.declared.render.TheConstants.{RENDERED_MAX}
use Rattle.switch_core.specs.Gives.{Gives, gives_at}
use Rattle.port_model.specs.Lines.{line_at}
use Rattle.kvm_program.specs.declared.tally.Tally.{Tally}
use Rattle.kvm_program.specs.Log.{is_leave, is_refusal, noted}
use Rattle.kvm_program.specs.Progress.{Counts, HasRoom}
use Rattle.kvm_program.specs.Tally.{bytes_at}
use Rattle.kvm_program.specs.Transcript.{text_at, transcript_after}
use Rattle.kvm_program.proofs.Transcripts.{transcript_after-step}

-- what one event gave was counted
pub Counts-more : (rules : RuleSet) (result : Result (Unit {0}) Stop) (old new : Tally) (gives : Gives) (event : Seen) (past : List Seen)
    → gives ≡ gives_at rules event past → Counts rules old past
    → OnOk result ((port : ℕ) → IsPort port → bytes_at new port ≡ bytes_at old port + length (text_at port gives.line))
    → OnOk result (new.left ≡ old.left + number_of is_leave gives.notes)
    → OnOk result (new.refused ≡ old.refused + number_of is_refusal gives.notes)
    → OnOk result (Counts rules new (event ∷ past))
Counts-more rules (Err why) old new gives event past is counts bytes left refused = tt
Counts-more rules (Ok done) old new gives event past is counts bytes left refused = record {
  bytes = λ port numbered.
      let before = counts.bytes port numbered in
      let more : bytes_at new port ≡ bytes_at old port + length (text_at port (line_at rules event past)) =
      subst (λ (g : Gives). bytes_at new port ≡ bytes_at old port + length (text_at port g.line)) is (bytes port numbered) in
      omega (arith, before, more, ap length (transcript_after-step rules port event past), length-append (transcript_after rules port past) (text_at port (line_at rules event past)));
  left = left ∙ (ap (λ (n : ℕ). n + number_of is_leave gives.notes) counts.left ∙ ap (λ (g : Gives). noted rules is_leave past + number_of is_leave g.notes) is);
  refused = refused ∙ (ap (λ (n : ℕ). n + number_of is_refusal gives.notes) counts.refused ∙ ap (λ (g : Gives). noted rules is_refusal past + number_of is_refusal g.notes) is);
}

-- there is room for one event more
pub HasRoom-more : (result : Result (Unit {0}) Stop) (old new : Tally) (line : Option (ℕ × Line)) (served served_after : ℕ)
    → served_after ≡ served + 1 → HasRoom old served
    → ((port : ℕ) → length (text_at port line) ≤ RENDERED_MAX)
    → OnOk result ((port : ℕ) → IsPort port → bytes_at new port ≡ bytes_at old port + length (text_at port line))
    → OnOk result (new.left ≤ old.left + NOTES_MAX) → OnOk result (new.refused ≤ old.refused + NOTES_MAX)
    → OnOk result (HasRoom new served_after)
HasRoom-more (Err why) old new line served served_after one room short bytes left refused = tt
HasRoom-more (Ok done) old new line served served_after one room short bytes left refused = record {
  bytes = λ port is. omega (arith, room.bytes port is, short port, bytes port is);
  left = omega (arith, room.left);
  refused = omega (arith, room.refused);
}
