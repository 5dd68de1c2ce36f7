-- The table of pairs has the two hexadecimal digits of each byte.
use Rattle.std.proofs.Common.{◌≡◌, ℕ, zero, suc, ◌+◌, ◌-◌, ◌*◌, ◌/◌, ◌%◌, ◌<◌, Bool, true, ◌&&◌, T, eqb, eqb→eq, eq-zero-or-pos, slice_index, inl, inr, arith}
use lib.Ieee.Fits.{and_l, and_r}
use Rattle.hex.specs.Hex.{lower_digits}
use Rattle.port_transcript.specs.declared.text.TheConstants.{PAIRS}

-- a test of all bytes below a number that computes
abbrev are_pairs : ℕ → Bool
are_pairs zero = true
are_pairs (suc byte) =
    (eqb (slice_index PAIRS (2 * byte)) (slice_index lower_digits (byte / 16))
    && eqb (slice_index PAIRS (2 * byte + 1)) (slice_index lower_digits (byte % 16)))
    && are_pairs byte

below : (n byte : ℕ) → T (are_pairs n) → byte < n
    → (slice_index PAIRS (2 * byte) ≡ slice_index lower_digits (byte / 16))
    × (slice_index PAIRS (2 * byte + 1) ≡ slice_index lower_digits (byte % 16))
below zero byte are small = absurd (omega arith)
below (suc n) byte are small =
    elim (eq-zero-or-pos (n - byte)) [
      | inl last ↦
          let same : byte ≡ n = omega arith in
          let pair = and_l _ (are_pairs n) are in
          rw same (eqb→eq _ _ (and_l _ _ pair), eqb→eq _ _ (and_r _ _ pair))
      | inr before ↦ below n byte (and_r _ (are_pairs n) are) (omega arith)
    ]

pub PAIRS_at : (byte : ℕ) → byte < 256
    → (slice_index PAIRS (2 * byte) ≡ slice_index lower_digits (byte / 16))
    × (slice_index PAIRS (2 * byte + 1) ≡ slice_index lower_digits (byte % 16))
PAIRS_at byte small = below 256 byte tt small
