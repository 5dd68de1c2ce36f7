-- The bits of one byte more.
use Rattle.std.proofs.Common.{◌≡◌, ℕ, ◌+◌, ◌*◌, ◌%◌, ◌^◌, ◌≤◌, arith, sym}
use Rattle.std.proofs.Math.Pow.{pow_mono}
use Rattle.hid_report.proofs.ElementLaws.{raw_bits-none, raw_bits-piece, next-fits}
use Rattle.hid_report.proofs.number.pieces_at.Goals as goal

shifted : (n : ℕ) → n ≤ 32 → 1 * 2 ^ n % 18446744073709551616 ≡ 2 ^ n
shifted n h = let most : 2 ^ n ≤ 2 ^ 32 = pow_mono h in omega (arith, most)

pub loop-taken-init : goal.loop-taken-init
loop-taken-init c = record {
  value_is = sym (raw_bits-none c.args.report.now c.args.place);
  fits = omega arith;
  within = omega arith;
}

pub loop-taken-preserved : goal.loop-taken-preserved
loop-taken-preserved c =
    let n = c.loop-taken.taken in
    let k = c.min-bits.result in
    let before = c.loop-taken.invariant in
    let weight = shifted n (omega (arith, before.within, c.bits-size.ensures.narrow)) in
    let one_byte : (c.args.place + c.loop-taken.taken) % 8 + c.min-bits.result ≤ 8 = omega (arith, c.min-bits.ensures) in
    let more = raw_bits-piece c.args.report.now c.args.place n k one_byte in
    record {
      value_is = rw (weight, c.piece_at.ensures.value, before.value_is) (sym more);
      fits = rw weight (next-fits c.loop-taken.value c.piece_at.result n k before.fits c.piece_at.ensures.narrow);
      within = omega (arith, c.min-bits.ensures, c.loop-taken-test.true, before.within);
    }
