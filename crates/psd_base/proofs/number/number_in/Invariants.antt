-- The digits that are left, after the number so far, give the whole number.
use Rattle.std.proofs.Common.{◌≡◌, drop}
use Rattle.psd_base.specs.Reading.{number_after, number_in}
use Rattle.psd_base.proofs.number.number_in.Given as goal

abbrev pub invariant-digits : goal.invariant-digits
invariant-digits l = number_after l.number (drop l.byte-index l.word) ≡ number_in l.word
