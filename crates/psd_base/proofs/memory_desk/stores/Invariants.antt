use Rattle.std.proofs.Common.{◌≡◌, replicate}
use Rattle.psd_base.specs.MemoryDesk.{empty_store}
use Rattle.psd_base.proofs.memory_desk.stores.Given as goal

abbrev pub invariant-loop-i : goal.invariant-loop-i
invariant-loop-i l = l.stores.items ≡ replicate l._i (empty_store l.room)
