-- The lines so far and those that are left are the lines of all ports.
use Rattle.std.proofs.Common.{◌≡◌, ◌+◌, ◌*◌, ◌≤◌, ◌++◌, drop}
use Rattle.arrayvec.specs.ArrayVec.{array_vec_len}
use Rattle.kvm_program.specs.Report.{counts_text}
use Rattle.kvm_program.proofs.report.append_ports.Given as goal

abbrev pub invariant-loop-place : goal.invariant-loop-place
invariant-loop-place l = record {
  room : array_vec_len l.text ≤ 160 + 80 * l.place;
  written : l.text.items ++ counts_text (l.place + 1) (drop l.place l.counts) ≡ l.fn.text.items ++ counts_text 1 l.counts;
}
