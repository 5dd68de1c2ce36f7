-- One more port goes dark.
use Rattle.std.proofs.Common.{◌+◌, ◌<◌, ◌∷◌, ℕ, false, inl, inr, length, refl, subst, arith}
use Rattle.port_model.specs.Concerns.{Darkens, item}
use Rattle.switch_core.specs.declared.slot.Slot.{Slot}
use Rattle.switch_core.specs.SlotStands.{SlotStands}
use Rattle.switch_core.proofs.PortLists.{slice_get-set, slice_get-within, AreWired-at, AreWired-set}
use Rattle.switch_core.proofs.ports.darken_all.Goals as goal

pub loop-slot-preserved : goal.loop-slot-preserved
loop-slot-preserved c = record {
  wired =
      let within : c.loop-slot.slot-index < length c.loop-slot.slots = omega arith in
      AreWired-set _ _ _ (λ number. false) (λ number. false) c.loop-slot.invariant.wired
      (c.darken.ensures.slot _ (AreWired-at _ _ _ (λ number. false) within c.loop-slot.invariant.wired)) (λ number apart. refl);
  stand = λ views tick place port is below.
      let index = c.loop-slot.slot-index in
      elim (slice_get-set c.loop-slot.slots index c.darken.new.self place port is) [
        | inl same ↦
            subst (λ (n : ℕ). SlotStands port (item tick Darkens ∷ views (n + 1))) same.0
            (subst (λ (p : Slot). SlotStands p (item tick Darkens ∷ views (index + 1))) same.1 (c.darken.ensures.stands (views (index + 1)) tick))
        | inr apart ↦
            let lower : place < index = omega (arith, apart.0) in
            c.loop-slot.invariant.stand views tick place port apart.1 lower
      ];
}

pub returns-clause-stand : goal.returns-clause-stand
returns-clause-stand c = λ views tick place port is.
    let within = slice_get-within c.loop-slot.slots place port is in
    c.loop-slot.invariant.stand views tick place port is (omega arith)
