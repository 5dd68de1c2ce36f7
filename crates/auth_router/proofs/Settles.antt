-- The packets of the token's answer.
use Rattle.std.proofs.Common.{ℕ, ◌+◌, ◌-◌, ◌*◌, ◌/◌, ◌<◌, ◌≤◌, arith, List, length, take}
use Rattle.std.specs.Prelude.{nat_lt}
use Rattle.std.proofs.lemmas.Bool.{cond_both, ltb-false}
use Rattle.std.proofs.lemmas.Nat.{le-div}
use Rattle.std.proofs.Math.Nat.{div-mul-le_self, add-mul}
use Rattle.psd_base.specs.declared.setup.Setup.{Setup}
use Rattle.psd_base.specs.declared.packet.TheConstants.{BLOCK_SIZE}
use Rattle.control_pipe.specs.Transfer.{packets_of}
use Rattle.auth_router.specs.declared.control.Stage.TheVariants as stage
use Rattle.auth_router.specs.ControlStep.{IsSoundAt}

-- there is at least one packet where the host asked for data
pub some_packets : (count asked maximum : ℕ) → 0 < asked → 0 < maximum → 0 < packets_of count asked maximum
some_packets count asked maximum some positive =
    cond_both (nat_lt count asked) (count / maximum + 1) ((count + (maximum - 1)) / maximum) (λ (n : ℕ). 0 < n)
    (λ _. omega arith)
    (λ h. let enough : asked ≤ count = ltb-false count asked h in
    let one : 1 ≤ (count + (maximum - 1)) / maximum = le-div 1 (count + (maximum - 1)) maximum positive (omega arith) in omega arith)

-- and together they have no more than one packet beyond the data
pub few_packets : (count asked maximum : ℕ) → 0 < maximum → packets_of count asked maximum * maximum ≤ count + maximum
few_packets count asked maximum positive =
    cond_both (nat_lt count asked) (count / maximum + 1) ((count + (maximum - 1)) / maximum) (λ (n : ℕ). n * maximum ≤ count + maximum)
    (λ _. omega (arith, add-mul (count / maximum) 1 maximum, div-mul-le_self count maximum))
    (λ _. omega (arith, div-mul-le_self (count + (maximum - 1)) maximum))

-- so each packet lies within the data
pub sound_supplied : (setup : Setup) (bytes : List ℕ) (maximum : ℕ) → 0 < maximum → 0 < setup.length → setup.length ≤ BLOCK_SIZE
    → IsSoundAt (stage.DataIn 0 (packets_of (length (take setup.length bytes)) setup.length maximum)) setup (take setup.length bytes) maximum
sound_supplied setup bytes maximum positive some short = (
  some_packets (length (take setup.length bytes)) setup.length maximum some positive,
  few_packets (length (take setup.length bytes)) setup.length maximum positive,
  some,
  short,
)
