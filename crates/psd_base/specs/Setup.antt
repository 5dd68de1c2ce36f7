-- How the fields of a setup lie in its eight bytes.
use Rattle.std.specs.Prelude.{ℕ, ◌+◌, ◌*◌, ◌/◌, ◌%◌, List, [], ◌∷◌, slice_index}
use Rattle.psd_base.specs.declared.setup.Setup.{Setup}

-- the number whose low byte comes first
abbrev pub little_endian : ℕ → ℕ → ℕ
little_endian low high = low + 256 * high

-- the setup whose bytes begin the list
abbrev pub setup_of : List ℕ → Setup
setup_of bytes = record {
  kind = slice_index bytes 0;
  request = slice_index bytes 1;
  value = little_endian (slice_index bytes 2) (slice_index bytes 3);
  index = little_endian (slice_index bytes 4) (slice_index bytes 5);
  length = little_endian (slice_index bytes 6) (slice_index bytes 7);
}

-- the low byte and the high byte of each field of two bytes, in this order
abbrev pub setup_bytes : Setup → List ℕ
setup_bytes setup = setup.kind ∷ setup.request ∷ setup.value % 256 ∷ setup.value / 256 ∷ setup.index % 256 ∷ setup.index / 256 ∷ setup.length % 256 ∷ setup.length / 256 ∷ []
