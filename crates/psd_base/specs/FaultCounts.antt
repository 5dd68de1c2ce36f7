-- How often reads and writes failed.
use Rattle.std.specs.Prelude.{ℕ, ◌+◌, ◌-◌, ◌^◌, min, List, replicate, slice_index, slice_set}
use Rattle.psd_base.specs.declared.outlet.Input.{Input}
use Rattle.psd_base.specs.declared.outlet.Outlet.{Outlet}
use Rattle.psd_base.specs.declared.places.TheConstants.{INPUTS, OUTLETS}
use Rattle.psd_base.specs.Places.{place_of_input, place_of_outlet}

-- a count for each input, and for each outlet, by their places
pub record Faults : Type 0 where
  pub reads : List ℕ
  pub writes : List ℕ

abbrev pub no_faults : Faults
no_faults = record { reads = replicate INPUTS 0; writes = replicate OUTLETS 0 }

abbrev pub reads_failed : Faults → Input → ℕ
reads_failed faults input = slice_index faults.reads (place_of_input input)

abbrev pub writes_failed : Faults → Outlet → ℕ
writes_failed faults outlet = slice_index faults.writes (place_of_outlet outlet)

-- one more, up to the last number of 64 bits
abbrev pub one_more : ℕ → ℕ
one_more count = min (count + 1) (2 ^ 64 - 1)

abbrev pub with_failed_read : Faults → Input → Faults
with_failed_read faults from = record faults { reads = slice_set faults.reads (place_of_input from) (one_more (reads_failed faults from)) }

abbrev pub with_failed_write : Faults → Outlet → Faults
with_failed_write faults to = record faults { writes = slice_set faults.writes (place_of_outlet to) (one_more (writes_failed faults to)) }
