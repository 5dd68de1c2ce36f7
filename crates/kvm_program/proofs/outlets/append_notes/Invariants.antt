-- The lines so far and those that are left are the lines of all notes.
use Rattle.std.proofs.Common.{◌≡◌, ◌*◌, ◌≤◌, ◌++◌, drop}
use Rattle.arrayvec.specs.ArrayVec.{array_vec_len}
use Rattle.kvm_program.specs.Log.{notes_text}
use Rattle.port_transcript.specs.declared.log.TheConstants.{LOG_LINE_SIZE}
use Rattle.kvm_program.proofs.outlets.append_notes.Given as goal

abbrev pub invariant-loop-note : goal.invariant-loop-note
invariant-loop-note l = record {
  room : array_vec_len l.text ≤ LOG_LINE_SIZE * l.note-index;
  written : l.text.items ++ notes_text l.tick (drop l.note-index l.notes) ≡ notes_text l.tick l.notes;
}
