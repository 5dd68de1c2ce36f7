-- The notes so far are counted, and those that are left make up the whole count.
use Rattle.std.proofs.Common.{◌≡◌, ◌+◌, ◌≤◌, drop}
use Rattle.psd_base.specs.History.{number_of}
use Rattle.kvm_program.specs.Log.{is_refusal}
use Rattle.kvm_program.proofs.tally.count_refusals.Given as goal

abbrev pub invariant-loop-note : goal.invariant-loop-note
invariant-loop-note l = record {
  counted : l.count + number_of is_refusal (drop l.note-index l.notes) ≡ number_of is_refusal l.notes;
  few : l.count ≤ l.note-index;
}
