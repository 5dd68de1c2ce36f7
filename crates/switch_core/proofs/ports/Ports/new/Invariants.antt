-- The ports made so far are dark, and numbered in their order.
use Rattle.std.proofs.Common.{◌≡◌, [], false, vec_len}
use Rattle.switch_core.specs.SlotStands.{AllStand}
use Rattle.switch_core.specs.Wired.{AreWired}
use Rattle.switch_core.proofs.ports.Ports.new.Given as goal

abbrev pub invariant-loop-others : goal.invariant-loop-others
invariant-loop-others l = record { made : vec_len l.made ≡ l.others; wired : AreWired l.made.items (λ number. false); stand : AllStand l.made.items (λ number. []) }
