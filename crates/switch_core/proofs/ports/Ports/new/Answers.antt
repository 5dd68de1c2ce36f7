-- One more dark port.
use Rattle.std.proofs.Common.{◌≡◌, ◌+◌, ℕ, List, [], false, vec_len, length, refl, subst, sym, arith}
use Rattle.switch_core.specs.declared.slot.Slot.{Slot}
use Rattle.switch_core.specs.SlotStands.{AllStand}
use Rattle.switch_core.specs.Wired.{AreWired, IsSlot}
use Rattle.switch_core.proofs.PortLists.{AllStand-push, AreWired-push}
use Rattle.switch_core.proofs.ports.Ports.new.Goals as goal

pub loop-others-preserved : goal.loop-others-preserved
loop-others-preserved c = record {
  made = let one : vec_len c.push.new.self ≡ c.loop-others.others + 1 = omega (arith, c.in_ok-push.ensures.len) in one;
  wired =
      let next : c.loop-others.others + 1 ≡ length c.loop-others.made.items + 1 = omega (arith, c.loop-others.invariant.made) in
      subst (λ (ports : List Slot). AreWired ports (λ number. false)) (sym c.in_ok-push.ensures.items)
      (AreWired-push _ _ (λ number. false) c.loop-others.invariant.wired (subst (λ (n : ℕ). IsSlot false n c.dark_port.result) next c.dark_port.ensures.slot));
  stand = subst (λ (ports : List Slot). AllStand ports (λ number. [])) (sym c.in_ok-push.ensures.items)
      (AllStand-push _ _ _ c.loop-others.invariant.stand (λ number. c.dark_port.ensures.dark [] refl));
}
