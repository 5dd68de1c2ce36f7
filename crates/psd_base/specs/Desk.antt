-- What a desk tells, and what reads and writes do to it.
use Rattle.std.specs.Prelude.{◌≡◌, ℕ, ◌-◌, ◌^◌, ◌<◌, ◌≤◌, ◌⊎◌, List, ◌++◌, take, Option, None, option_map}
use Rattle.psd_base.specs.declared.outlet.Input.{Input}
use Rattle.psd_base.specs.declared.outlet.Input.TheVariants as input
use Rattle.psd_base.specs.declared.outlet.Outlet.{Outlet}
use Rattle.psd_base.specs.FaultCounts.{Faults, reads_failed, writes_failed}

-- What is left of each input and what was sent to each outlet, where the desk tells it, and how many reads of each input and
-- writes to each outlet failed.
pub record Told : Type 0 where
  pub left : Input → Option (List ℕ)
  pub sent : Outlet → Option (List ℕ)
  pub read_faults : Input → ℕ
  pub write_faults : Outlet → ℕ

-- a desk that tells nothing of bytes, and counts failures
abbrev pub silent : Faults → Told
silent faults = record { left = λ _. None; sent = λ _. None; read_faults = reads_failed faults; write_faults = writes_failed faults }

-- Only these inputs may have been read, and only these outlets written. All else stays, the counts of failures of the other
-- inputs and outlets too, and no count falls.
pub record Touches (reads : Input → Type 0) (writes : Outlet → Type 0) (before after : Told) : Type 0 where
  pub inputs : (input : Input) → ¬ reads input → after.left input ≡ before.left input
  pub outlets : (outlet : Outlet) → ¬ writes outlet → after.sent outlet ≡ before.sent outlet
  pub read_counts : (input : Input) → before.read_faults input ≤ after.read_faults input
  pub write_counts : (outlet : Outlet) → before.write_faults outlet ≤ after.write_faults outlet
  pub other_reads : (input : Input) → ¬ reads input → after.read_faults input ≡ before.read_faults input
  pub other_writes : (outlet : Outlet) → ¬ writes outlet → after.write_faults outlet ≡ before.write_faults outlet

-- which inputs, and which outlets

abbrev pub NoInput : Input → Type 0
NoInput input = ⊥

abbrev pub NoOutlet : Outlet → Type 0
NoOutlet outlet = ⊥

-- the inputs from which events come
abbrev pub IsSource : Input → Type 0
IsSource input.Rules = ⊥
IsSource input.Capture = Unit {0}
IsSource input.Script = Unit {0}

-- one input is read, and nothing is written
abbrev pub OnlyReads : Input → Told → Told → Type 0
OnlyReads from = Touches (λ input. input ≡ from) NoOutlet

-- the capture and the script are read, and nothing is written
abbrev pub ReadsSources : Told → Told → Type 0
ReadsSources = Touches IsSource NoOutlet

-- one outlet is written, and nothing is read
abbrev pub OnlyWrites : Outlet → Told → Told → Type 0
OnlyWrites to = Touches NoInput (λ outlet. outlet ≡ to)

-- a count rose: it is above what it was, or it stands at the last value of 64 bits and can't rise further
abbrev pub Rose : ℕ → ℕ → Type 0
Rose before after = (before < after) ⊎ (2 ^ 64 - 1 ≤ after)

-- a read of this input failed, and was counted
abbrev pub ReadFailed : Input → Told → Told → Type 0
ReadFailed from before after = Rose (before.read_faults from) (after.read_faults from)

-- a write to this outlet failed, and was counted
abbrev pub WriteFailed : Outlet → Told → Told → Type 0
WriteFailed to before after = Rose (before.write_faults to) (after.write_faults to)

-- the first so many of the bytes were appended
abbrev pub IsAppendedPart : Option (List ℕ) → Option (List ℕ) → List ℕ → Type 0
IsAppendedPart before after bytes = (count : ℕ) × (after ≡ option_map (λ sent. sent ++ take count bytes) before)
