-- Small sessions of the bridge, as its definitions have them: what each step shows.
use Rattle.std.specs.Prelude.{ℕ, Bool, List, [], ◌∷◌, Option, Some, None}
use Rattle.psd_base.specs.Setup.{setup_of}
use Rattle.psd_base.specs.declared.act.Act.TheVariants as act
use Rattle.psd_base.specs.declared.act.Answer.{Answer}
use Rattle.psd_base.specs.declared.act.Answer.TheVariants as answer
use Rattle.psd_base.specs.declared.console.JobKind.{JobKind}
use Rattle.psd_base.specs.declared.console.JobKind.TheVariants as job
use Rattle.auth_router.specs.declared.up.Up.{Up}
use Rattle.auth_router.specs.Entries.{BridgeItem, Acted, Done, Entry}
use Rattle.auth_router.specs.Bridge.{entry_for}

-- what a step shows: the answer, and the job that it makes
pub data Shown : Type 0 where
  Ack : Shown
  Nak : Shown
  Stall : Shown
  Silent : Shown
  Data : Bool → List ℕ → Shown
  Asks : JobKind → Shown
  Sends : JobKind → Shown
  Odd : Shown

abbrev pub shown_answer : Answer → Shown
shown_answer answer.Ack = Ack
shown_answer answer.Nak = Nak
shown_answer answer.Stall = Stall
shown_answer answer.Silent = Silent
shown_answer (answer.Data toggle bytes) = Data toggle bytes

-- a NAK with a job, or an ACK with a job; no other answer comes with one
abbrev pub shown_with : Answer → Option JobKind → Shown
shown_with reply None = shown_answer reply
shown_with answer.Nak (Some kind) = Asks kind
shown_with answer.Ack (Some kind) = Sends kind
shown_with answer.Stall (Some kind) = Odd
shown_with answer.Silent (Some kind) = Odd
shown_with (answer.Data toggle bytes) (Some kind) = Odd

abbrev pub shown_entries : Up → List Entry → List BridgeItem → List Shown
shown_entries up past [] = []
shown_entries up past (item ∷ items) =
    let entry = entry_for up past item in
    shown_with entry.answer entry.job ∷ shown_entries up (entry ∷ past) items

abbrev pub session : Up → List BridgeItem → List Shown
session up items = shown_entries up [] items

-- a token with configuration value 1, IN endpoint 1 and OUT endpoint 2, and packets of 8 or of 64 bytes
abbrev pub small : Up
small = record { life = 1; value = 1; max0 = 8; ins = 2; outs = 4 }

abbrev pub large : Up
large = record { life = 1; value = 1; max0 = 64; ins = 2; outs = 4 }

abbrev pub asks : List ℕ → BridgeItem
asks bytes = Acted (act.Setup 0 (setup_of bytes))

abbrev pub get_device : List ℕ
get_device = 0x80 ∷ 6 ∷ 0 ∷ 1 ∷ 0 ∷ 0 ∷ 0x12 ∷ 0 ∷ []

abbrev pub polls : ℕ → Bool → BridgeItem
polls endpoint acked = Acted (act.In 0 endpoint acked)

abbrev pub sends : ℕ → Bool → List ℕ → BridgeItem
sends endpoint toggle bytes = Acted (act.Out 0 endpoint toggle bytes)

abbrev pub done : ℕ → ℕ → List ℕ → BridgeItem
done number status bytes = Done number status bytes

abbrev pub device : List ℕ
device = 0x12 ∷ 1 ∷ 0 ∷ 2 ∷ 0 ∷ 0 ∷ 0 ∷ 8 ∷ 0x34 ∷ 0x12 ∷ 3 ∷ 0 ∷ 0 ∷ 1 ∷ 0 ∷ 0 ∷ 0 ∷ 1 ∷ []

abbrev pub control : List ℕ → List ℕ → JobKind
control setup bytes = job.Control (setup_of setup) bytes

-- requests: three bytes from the computer, none, eight bytes to it, and those that concern the bridge itself
abbrev pub write_three : List ℕ
write_three = 64 ∷ 1 ∷ 0 ∷ 0 ∷ 0 ∷ 0 ∷ 3 ∷ 0 ∷ []

abbrev pub no_bytes : List ℕ
no_bytes = 64 ∷ 1 ∷ 0 ∷ 0 ∷ 0 ∷ 0 ∷ 0 ∷ 0 ∷ []

abbrev pub get_eight : List ℕ
get_eight = 128 ∷ 6 ∷ 0 ∷ 1 ∷ 0 ∷ 0 ∷ 8 ∷ 0 ∷ []

abbrev pub set_configuration : List ℕ
set_configuration = 0 ∷ 9 ∷ 1 ∷ 0 ∷ 0 ∷ 0 ∷ 0 ∷ 0 ∷ []

abbrev pub set_interface : List ℕ
set_interface = 1 ∷ 11 ∷ 0 ∷ 0 ∷ 0 ∷ 0 ∷ 0 ∷ 0 ∷ []

abbrev pub set_address : List ℕ
set_address = 0 ∷ 5 ∷ 5 ∷ 0 ∷ 0 ∷ 0 ∷ 0 ∷ 0 ∷ []
