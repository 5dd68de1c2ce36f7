-- What a desk in memory holds, and what its calls do to it.
use Rattle.std.specs.Prelude.{ℕ, ◌-◌, ◌^◌, ◌<◌, ◌⊎◌, min, List, [], ◌∷◌, length, drop, replicate, slice_index_or, slice_set, unwrap_or, Some, IsSome}
use Rattle.psd_base.specs.declared.outlet.Input.{Input}
use Rattle.psd_base.specs.declared.outlet.Outlet.{Outlet}
use Rattle.psd_base.specs.declared.places.TheConstants.{OUTLETS}
use Rattle.psd_base.specs.Places.{place_of_input, place_of_outlet}
use Rattle.psd_base.specs.Desk.{Told}
use Rattle.psd_base.specs.FaultCounts.{Faults, no_faults, reads_failed, writes_failed, with_failed_read, with_failed_write}
use Rattle.psd_base.specs.Store.{Stored, room_left, append_to}
use Rattle.psd_base.specs.Calls.{Counted, no_calls, next_failure, with_next_call}

-- `inputs` has what is left of each, `outlets` what was sent to each; `piece` is the most bytes that one read gives
pub record Held : Type 0 where
  pub inputs : List (List ℕ)
  pub outlets : List Stored
  pub reads : Counted
  pub writes : Counted
  pub faults : Faults
  pub piece : ℕ

-- no bytes yet, and room for so many
abbrev pub empty_store : ℕ → Stored
empty_store room = record { bytes = []; room = room }

-- a desk with these inputs, and so much room for each outlet
abbrev pub new_desk : List ℕ → List ℕ → List ℕ → ℕ → Held
new_desk rules capture script room = record {
  inputs = rules ∷ capture ∷ script ∷ [];
  outlets = replicate OUTLETS (empty_store room);
  reads = no_calls;
  writes = no_calls;
  faults = no_faults;
  piece = 2 ^ 64 - 1;
}

abbrev pub left_of : Held → Input → List ℕ
left_of desk input = slice_index_or desk.inputs (place_of_input input) []

abbrev pub store_of : Held → Outlet → Stored
store_of desk outlet = slice_index_or desk.outlets (place_of_outlet outlet) (empty_store 0)

abbrev pub bytes_sent : Held → Outlet → List ℕ
bytes_sent desk outlet = (store_of desk outlet).bytes

-- it tells everything
abbrev pub told_by : Held → Told
told_by desk = record {
  left = λ input. Some (left_of desk input);
  sent = λ outlet. Some (bytes_sent desk outlet);
  read_faults = reads_failed desk.faults;
  write_faults = writes_failed desk.faults;
}

-- how many bytes a read gives that doesn't fail
abbrev pub bytes_given : Held → Input → ℕ → ℕ
bytes_given desk from room = min desk.piece (min room (length (left_of desk from)))

-- the desk after a read that gave so many bytes
abbrev pub after_read : Held → Input → ℕ → Held
after_read desk from count = record desk {
  inputs = slice_set desk.inputs (place_of_input from) (drop count (left_of desk from));
  reads = with_next_call desk.reads;
}

-- the desk after a read that failed
abbrev pub after_failed_read : Held → Input → Held
after_failed_read desk from = record desk {
  reads = with_next_call desk.reads;
  faults = with_failed_read desk.faults from;
}

-- a write fails where its call is listed, or where there is too little room for its bytes
abbrev pub WriteFails : Held → Outlet → List ℕ → Type 0
WriteFails desk to bytes = IsSome (next_failure desk.writes) ⊎ (room_left (store_of desk to) < length bytes)

-- how many bytes of a write are kept
abbrev pub bytes_kept : Held → Outlet → List ℕ → ℕ
bytes_kept desk to bytes = min (unwrap_or (next_failure desk.writes) (length bytes)) (min (length bytes) (room_left (store_of desk to)))

-- the desk after a write of which so many bytes were kept
abbrev pub after_write : Held → Outlet → List ℕ → Held
after_write desk to bytes = record desk {
  outlets = slice_set desk.outlets (place_of_outlet to) (append_to (store_of desk to) bytes);
  writes = with_next_call desk.writes;
}

-- the desk after a write that failed, of which so many bytes were kept
abbrev pub after_failed_write : Held → Outlet → List ℕ → Held
after_failed_write desk to bytes = record (after_write desk to bytes) {
  faults = with_failed_write desk.faults to;
}
