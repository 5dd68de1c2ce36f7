-- Where the bytes of an outlet go in the current folder.
use Rattle.std.specs.Prelude.{ℕ, ◌≡◌, ◌+◌, ◌<◌, ◌≤◌, ◌⊎◌, List, [], ◌++◌, length}
use Rattle.psd_base.specs.declared.render.TheConstants.{RENDERED_MAX}
use Rattle.psd_base.specs.declared.sink.Sink.{Sink}
use Rattle.psd_base.specs.declared.sink.Sink.TheVariants.{Unused, Open, Failed}

-- the bytes that wait to be written out
abbrev pub waiting_in : {F : Type 0} → Sink F → List ℕ
waiting_in (Unused waiting) = []
waiting_in (Open buffered) = buffered.waiting.bytes
waiting_in Failed = []

-- how many bytes can wait
abbrev pub room_in : {F : Type 0} → Sink F → ℕ
room_in (Unused waiting) = waiting.room
room_in (Open buffered) = buffered.waiting.room
room_in Failed = 0

abbrev pub IsOpen : {F : Type 0} → Sink F → Type 0
IsOpen (Unused waiting) = ⊥
IsOpen (Open buffered) = Unit {0}
IsOpen Failed = ⊥

-- it is open, and has room for what is rendered at once
abbrev pub CanRender : {F : Type 0} → Sink F → Type 0
CanRender (Unused waiting) = ⊥
CanRender (Open buffered) = length buffered.waiting.bytes + RENDERED_MAX ≤ buffered.waiting.room
CanRender Failed = ⊥

-- nothing was written, and nothing waits
abbrev pub IsFresh : {F : Type 0} → Sink F → Type 0
IsFresh (Unused waiting) = waiting.bytes ≡ []
IsFresh (Open buffered) = ⊥
IsFresh Failed = ⊥

-- Further bytes wait behind those before them, or in their place when those were written out; only more bytes than there is room
-- for don't wait.
abbrev pub Takes : ℕ → List ℕ → List ℕ → List ℕ → Type 0
Takes room before after bytes = (after ≡ before ++ bytes) ⊎ ((after ≡ bytes) ⊎ ((room < length bytes) × (after ≡ [])))
