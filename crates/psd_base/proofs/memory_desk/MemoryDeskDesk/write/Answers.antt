-- A write that finds too little room touches its outlet alone.
use Rattle.std.proofs.Common.{rules}
use Rattle.psd_base.proofs.memory_desk.MemoryDeskDesk.write.Goals as goal

pub returns-else-keep-bytes-clause-only : goal.returns-else-keep-bytes-clause-only
returns-else-keep-bytes-clause-only c = record {
  inputs = search rules;
  outlets = search rules;
  read_counts = search rules;
  write_counts = search rules;
  other_reads = search rules;
  other_writes = search rules;
}
