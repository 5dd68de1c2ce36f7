-- One more port wakes.
use Rattle.std.proofs.Common.{◌+◌, ◌<◌, ◌∷◌, ℕ, false, inl, inr, length, refl, subst, arith}
use Rattle.std.proofs.lemmas.Option.{slice_get-get_or}
use Rattle.port_model.specs.Concerns.{Wakes, item}
use Rattle.switch_core.specs.declared.slot.Slot.{Slot}
use Rattle.switch_core.specs.SlotStands.{SlotStands}
use Rattle.switch_core.proofs.PortLists.{slice_get-set, slice_get-within, AreWired-at, AreWired-set}
use Rattle.switch_core.proofs.ports.wake_all.Goals as goal

pub loop-slot-preserved : goal.loop-slot-preserved
loop-slot-preserved c = record {
  wired =
      let within : c.loop-slot.slot-index < length c.loop-slot.slots = omega arith in
      AreWired-set _ _ _ (λ number. false) (λ number. false) c.loop-slot.invariant.wired
      (c.wake.ensures.slot _ (AreWired-at _ _ _ (λ number. false) within c.loop-slot.invariant.wired)) (λ number apart. refl);
  stand = λ views tick dark each place port is.
      let ports = c.loop-slot.slots in
      let index = c.loop-slot.slot-index in
      elim (slice_get-set ports index c.wake.new.self place port is) [
        | inl same ↦
            let within : index < length ports = omega arith in
            let at = slice_get-get_or ports index c.slot-item.result within in
            let before = (c.loop-slot.invariant.stand views tick dark each index _ at).1 (omega arith) in
            let woken = c.wake.ensures.stands (views (index + 1)) tick (dark (index + 1)) before in
            let here = subst (λ (n : ℕ). SlotStands port (item tick Wakes ∷ views (n + 1))) same.0
            (subst (λ (p : Slot). SlotStands p (item tick Wakes ∷ views (index + 1))) same.1 woken) in
            ((λ below. here), (λ above. absurd (omega (arith, same.0))))
        | inr apart ↦
            let before = c.loop-slot.invariant.stand views tick dark each place port apart.1 in
            ((λ below. before.0 (let lower : place < index = omega (arith, apart.0) in lower)), (λ above. before.1 (omega arith)))
      ];
}

pub returns-clause-stand : goal.returns-clause-stand
returns-clause-stand c = λ views tick dark each place port is.
    let within = slice_get-within c.loop-slot.slots place port is in
    (c.loop-slot.invariant.stand views tick dark each place port is).0 (omega arith)

pub wake-requires : goal.wake-requires
wake-requires c =
    let within : c.loop-slot.slot-index < length c.loop-slot.slots = omega arith in
    (AreWired-at _ _ _ (λ number. false) within c.loop-slot.invariant.wired).told
