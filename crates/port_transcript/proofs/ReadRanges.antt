-- The fields of what is read are in the ranges of their types.
use Rattle.std.proofs.Common.{◌≡◌, ℕ, ◌+◌, ◌-◌, ◌*◌, ◌/◌, ◌^◌, ◌<◌, ◌≤◌, Bool, true, false, cond, ◌&&◌, ◌⊎◌, inl, inr, List, [], ◌∷◌, length, Option, Some, None, Result, Ok, Err, codes, refl, sym, subst, ◌∙◌, arith}
use Rattle.std.specs.Prelude.{nat_lt}
use Rattle.std.proofs.lemmas.Bool.{and_parts}
use Rattle.std.proofs.lemmas.Bool.Decides.{nat_tests}
use Rattle.std.proofs.lemmas.List.Elements.{All-from_get_or}
use Rattle.std.proofs.lemmas.Option.{cond_some}
use Rattle.std.specs.Char.{is_ascii_digit}
use Rattle.std.specs.Result.{result_ok}
use Rattle.std.specs.Str.{bytes_eq}
use Rattle.hex.proofs.HexLemmas.{decode_of-ok, decode_sized-ok, decode_sized-twice}
use Rattle.hex.specs.Hex.{IsBytes, decode_sized}
use Rattle.hex.specs.declared.error.FromHexError.{FromHexError}
use Rattle.psd_base.specs.Reading.{number_after, number_in, with_digit, ◌>>=◌}
use Rattle.psd_base.specs.Setup.{setup_of}
use Rattle.psd_base.specs.declared.act.Act.{Act}
use Rattle.psd_base.specs.declared.act.Act.TheVariants as act
use Rattle.psd_base.specs.declared.act.Answer.{Answer}
use Rattle.psd_base.specs.declared.act.Answer.TheVariants as answer
use Rattle.psd_base.specs.declared.line.Line.{Line}
use Rattle.psd_base.specs.declared.setup.Setup.{Setup}
use Rattle.port_transcript.specs.PortLine.{IsAct, IsAnswer, IsLine, IsPacket, IsSetup}
use Rattle.port_transcript.specs.ReadBack.{act_at, answer_in, byte_of, data_in, first_word, flag_of, in_at, line_in, other_words, out_at, packet_of, setup_at, setup_in, side_of}

-- ---- tools

-- what a value after `>>=` shows
bind_some : {A B : Type 0} (o : Option A) (f : A → Option B) (y : B) → (o >>= f) ≡ Some y → (x : A) × (o ≡ Some x) × (f x ≡ Some y)
bind_some None f y is = cc is
bind_some (Some x) f y is = (x, refl, is)

-- which way a choice went
chosen : {A : Type 0} (b : Bool) (x y z : A) → cond b x y ≡ z → ((b ≡ true) × (x ≡ z)) ⊎ ((b ≡ false) × (y ≡ z))
chosen true x y z is = inl (refl, is)
chosen false x y z is = inr (refl, is)

-- a result that has a value
ok_value : (r : Result (List ℕ) FromHexError) (x : List ℕ) → result_ok r ≡ Some x → r ≡ Ok x
ok_value (Ok y) x is = cc
ok_value (Err e) x is = cc is

-- ---- numbers

with_digit-fits : (number byte more : ℕ) → with_digit number byte ≡ Some more → more < 2 ^ 32
unfolding with_digit
with_digit-fits number byte more is =
    let value = number * 10 + (byte - 48) in
    let found = cond_some (is_ascii_digit byte && nat_lt value (2 ^ 32)) value more is in
    let below = (and_parts (is_ascii_digit byte) (nat_lt value (2 ^ 32)) found.0).1 in
    let fits : value < 2 ^ 32 = grind (arith, nat_tests, below) in
    let P : ℕ → Type 0 = λ n. n < 2 ^ 32 in subst P found.1 fits

number_after-fits : (number : ℕ) (digits : List ℕ) (n : ℕ) → number < 2 ^ 32 → number_after number digits ≡ Some n → n < 2 ^ 32
unfolding number_after
number_after-fits number [] n small is = let same : number ≡ n = cc in omega (arith, same)
number_after-fits number (byte ∷ digits) n small is =
    let step = bind_some (with_digit number byte) (λ more. number_after more digits) n is in
    number_after-fits step.0 digits n (with_digit-fits number byte step.0 step.1) step.2

number_in-fits : (word : List ℕ) (n : ℕ) → number_in word ≡ Some n → n < 2 ^ 32
unfolding number_in
number_in-fits word n is = number_after-fits 0 word n (omega arith) is

byte_of-fits : (word : List ℕ) (n : ℕ) → byte_of word ≡ Some n → n < 2 ^ 8
unfolding byte_of
byte_of-fits word n is =
    let step = bind_some (number_in word) (λ number. cond (nat_lt number 256) (Some number) None) n is in
    let found = cond_some (nat_lt step.0 256) step.0 n step.2 in
    let fits : step.0 < 256 = grind (arith, nat_tests, found.0) in
    omega (arith, fits, found.1)

-- ---- bytes

decoded : (word : List ℕ) (n : ℕ) (bytes : List ℕ) → decode_sized word n ≡ Ok bytes → (length bytes ≡ n) × IsBytes bytes
decoded word n bytes is =
    let long = decode_sized-ok word n bytes is in
    let read = decode_of-ok word bytes (sym (decode_sized-twice word n long) ∙ is) in
    let twice = read.2 in
    (omega (arith, long, twice), read.3)

IsPacket-none : IsPacket []
IsPacket-none = record { size = omega arith; bytes_fit = All-from_get_or (λ byte. byte < 2 ^ 8) [] 0 (λ i below. absurd (omega arith)) }

packet_of-fits : (word bytes : List ℕ) → packet_of word ≡ Some bytes → IsPacket bytes
unfolding packet_of
packet_of-fits word bytes is =
    let rest = cond (nat_lt 64 (length word / 2)) None (result_ok (decode_sized word (length word / 2))) in
    elim (chosen (bytes_eq word (codes "-")) (Some []) rest (Some bytes) is) [
      | inl none ↦ let same : [] ≡ bytes = cc (none.1) in subst IsPacket same IsPacket-none
      | inr some ↦
          elim (chosen (nat_lt 64 (length word / 2)) None (result_ok (decode_sized word (length word / 2))) (Some bytes) some.1) [
            | inl long ↦ cc (long.1)
            | inr short ↦
                let read = decoded word (length word / 2) bytes (ok_value (decode_sized word (length word / 2)) bytes short.1) in
                let few : length word / 2 ≤ 64 = grind (arith, nat_tests, short.0) in
                let size = read.0 in
                record { size = omega (arith, few, size); bytes_fit = All-from_get_or (λ byte. byte < 2 ^ 8) bytes 0 (λ i below. read.1 i) }
          ]
    ]

IsSetup-setup_of : (bytes : List ℕ) → IsBytes bytes → IsSetup (setup_of bytes)
IsSetup-setup_of bytes fits = record {
  kind = fits 0;
  request = fits 1;
  value = omega (arith, fits 2, fits 3);
  index = omega (arith, fits 4, fits 5);
  length_fits = omega (arith, fits 6, fits 7);
}

setup_in-fits : (word : List ℕ) (setup : Setup) → setup_in word ≡ Some setup → IsSetup setup
unfolding setup_in
setup_in-fits word setup is =
    let step = bind_some (result_ok (decode_sized word 8)) (λ bytes. Some (setup_of bytes)) setup is in
    let fits = (decoded word 8 step.0 (ok_value (decode_sized word 8) step.0 step.1)).1 in
    let same : setup_of step.0 ≡ setup = cc (step.2) in
    subst IsSetup same (IsSetup-setup_of step.0 fits)

-- ---- acts, answers and lines

abbrev ActFits : Act × List ℕ → Type 0
ActFits found = IsAct found.0

act_from : (one : Act) (rest : List ℕ) (found : Act × List ℕ) → (one, rest) ≡ found → IsAct one → IsAct found.0
act_from one rest found same is = subst ActFits same is

answer_from : (one found : Answer) → one ≡ found → IsAnswer one → IsAnswer found
answer_from one found same is = let P : Answer → Type 0 = λ found. IsAnswer found in subst P same is

setup_at-fits : (bytes : List ℕ) (found : Act × List ℕ) → setup_at bytes ≡ Some found → IsAct found.0
unfolding setup_at
setup_at-fits bytes found is =
    let rest = other_words bytes in
    let address = bind_some (byte_of (first_word bytes)) (λ address. setup_in (first_word rest) >>= λ setup. Some (act.Setup address setup, other_words rest)) found is in
    let setup = bind_some (setup_in (first_word rest)) (λ setup. Some (act.Setup address.0 setup, other_words rest)) found address.2 in
    let same : (act.Setup address.0 setup.0, other_words rest) ≡ found = cc (setup.2) in
    act_from (act.Setup address.0 setup.0) (other_words rest) found same (byte_of-fits (first_word bytes) address.0 address.1, setup_in-fits (first_word rest) setup.0 setup.1)

out_at-fits : (bytes : List ℕ) (found : Act × List ℕ) → out_at bytes ≡ Some found → IsAct found.0
unfolding out_at
out_at-fits bytes found is =
    let second = other_words bytes in
    let third = other_words second in
    let fourth = other_words third in
    let address = bind_some (byte_of (first_word bytes)) (λ address. byte_of (first_word second) >>= λ endpoint. flag_of (first_word third) >>= λ toggle. packet_of (first_word fourth) >>= λ packet. Some (act.Out address endpoint toggle packet, other_words fourth)) found is in
    let endpoint = bind_some (byte_of (first_word second)) (λ endpoint. flag_of (first_word third) >>= λ toggle. packet_of (first_word fourth) >>= λ packet. Some (act.Out address.0 endpoint toggle packet, other_words fourth)) found address.2 in
    let toggle = bind_some (flag_of (first_word third)) (λ toggle. packet_of (first_word fourth) >>= λ packet. Some (act.Out address.0 endpoint.0 toggle packet, other_words fourth)) found endpoint.2 in
    let packet = bind_some (packet_of (first_word fourth)) (λ packet. Some (act.Out address.0 endpoint.0 toggle.0 packet, other_words fourth)) found toggle.2 in
    let same : (act.Out address.0 endpoint.0 toggle.0 packet.0, other_words fourth) ≡ found = cc (packet.2) in
    act_from (act.Out address.0 endpoint.0 toggle.0 packet.0) (other_words fourth) found same (byte_of-fits (first_word bytes) address.0 address.1, byte_of-fits (first_word second) endpoint.0 endpoint.1, packet_of-fits (first_word fourth) packet.0 packet.1)

in_at-fits : (bytes : List ℕ) (found : Act × List ℕ) → in_at bytes ≡ Some found → IsAct found.0
unfolding in_at
in_at-fits bytes found is =
    let second = other_words bytes in
    let third = other_words second in
    let address = bind_some (byte_of (first_word bytes)) (λ address. byte_of (first_word second) >>= λ endpoint. flag_of (first_word third) >>= λ acked. Some (act.In address endpoint acked, other_words third)) found is in
    let endpoint = bind_some (byte_of (first_word second)) (λ endpoint. flag_of (first_word third) >>= λ acked. Some (act.In address.0 endpoint acked, other_words third)) found address.2 in
    let acked = bind_some (flag_of (first_word third)) (λ acked. Some (act.In address.0 endpoint.0 acked, other_words third)) found endpoint.2 in
    let same : (act.In address.0 endpoint.0 acked.0, other_words third) ≡ found = cc (acked.2) in
    act_from (act.In address.0 endpoint.0 acked.0) (other_words third) found same (byte_of-fits (first_word bytes) address.0 address.1, byte_of-fits (first_word second) endpoint.0 endpoint.1)

act_at-fits : (bytes : List ℕ) (found : Act × List ℕ) → act_at bytes ≡ Some found → IsAct found.0
unfolding act_at
act_at-fits bytes found is =
    let name = first_word bytes in
    let rest = other_words bytes in
    let from_in = cond (bytes_eq name (codes "IN")) (in_at rest) None in
    let from_out = cond (bytes_eq name (codes "OUT")) (out_at rest) from_in in
    let from_setup = cond (bytes_eq name (codes "SETUP")) (setup_at rest) from_out in
    elim (chosen (bytes_eq name (codes "RESET")) (Some (act.Reset, rest)) from_setup (Some found) is) [
      | inl one ↦ act_from act.Reset rest found (cc (one.1)) tt
      | inr later ↦ elim (chosen (bytes_eq name (codes "SETUP")) (setup_at rest) from_out (Some found) later.1) [
        | inl one ↦ setup_at-fits rest found one.1
        | inr later ↦ elim (chosen (bytes_eq name (codes "OUT")) (out_at rest) from_in (Some found) later.1) [
          | inl one ↦ out_at-fits rest found one.1
          | inr later ↦ elim (chosen (bytes_eq name (codes "IN")) (in_at rest) None (Some found) later.1) [
            | inl one ↦ in_at-fits rest found one.1
            | inr none ↦ cc (none.1)
          ]
        ]
      ]
    ]

data_in-fits : (bytes : List ℕ) (one : Answer) → data_in bytes ≡ Some one → IsAnswer one
unfolding data_in
data_in-fits bytes one is =
    let rest = other_words bytes in
    let toggle = bind_some (flag_of (first_word bytes)) (λ toggle. packet_of (first_word rest) >>= λ packet. Some (answer.Data toggle packet)) one is in
    let packet = bind_some (packet_of (first_word rest)) (λ packet. Some (answer.Data toggle.0 packet)) one toggle.2 in
    let same : answer.Data toggle.0 packet.0 ≡ one = cc (packet.2) in
    answer_from (answer.Data toggle.0 packet.0) one same (packet_of-fits (first_word rest) packet.0 packet.1)

answer_in-fits : (bytes : List ℕ) (one : Answer) → answer_in bytes ≡ Some one → IsAnswer one
unfolding answer_in
answer_in-fits bytes one is =
    let name = first_word bytes in
    let from_data = cond (bytes_eq name (codes "DATA")) (data_in (other_words bytes)) None in
    let from_silent = cond (bytes_eq name (codes "SILENT")) (Some answer.Silent) from_data in
    let from_stall = cond (bytes_eq name (codes "STALL")) (Some answer.Stall) from_silent in
    let from_nak = cond (bytes_eq name (codes "NAK")) (Some answer.Nak) from_stall in
    elim (chosen (bytes_eq name (codes "ACK")) (Some answer.Ack) from_nak (Some one) is) [
      | inl found ↦ answer_from answer.Ack one (cc (found.1)) tt
      | inr later ↦ elim (chosen (bytes_eq name (codes "NAK")) (Some answer.Nak) from_stall (Some one) later.1) [
        | inl found ↦ answer_from answer.Nak one (cc (found.1)) tt
        | inr later ↦ elim (chosen (bytes_eq name (codes "STALL")) (Some answer.Stall) from_silent (Some one) later.1) [
          | inl found ↦ answer_from answer.Stall one (cc (found.1)) tt
          | inr later ↦ elim (chosen (bytes_eq name (codes "SILENT")) (Some answer.Silent) from_data (Some one) later.1) [
            | inl found ↦ answer_from answer.Silent one (cc (found.1)) tt
            | inr later ↦ elim (chosen (bytes_eq name (codes "DATA")) (data_in (other_words bytes)) None (Some one) later.1) [
              | inl found ↦ data_in-fits (other_words bytes) one found.1
              | inr none ↦ cc (none.1)
            ]
          ]
        ]
      ]
    ]

-- what is read is in range
pub line_in-fits : (bytes : List ℕ) (line : Line) → line_in bytes ≡ Some line → IsLine line
unfolding line_in
line_in-fits bytes line is =
    let second = other_words bytes in
    let third = other_words second in
    let tick = bind_some (number_in (first_word bytes)) (λ tick. side_of (first_word second) >>= λ side. act_at third >>= λ found. answer_in (other_words found.1) >>= λ one. Some (record { tick = tick; side = side; act = found.0; answer = one })) line is in
    let side = bind_some (side_of (first_word second)) (λ side. act_at third >>= λ found. answer_in (other_words found.1) >>= λ one. Some (record { tick = tick.0; side = side; act = found.0; answer = one })) line tick.2 in
    let found = bind_some (act_at third) (λ found. answer_in (other_words found.1) >>= λ one. Some (record { tick = tick.0; side = side.0; act = found.0; answer = one })) line side.2 in
    let one = bind_some (answer_in (other_words found.0.1)) (λ one. Some (record { tick = tick.0; side = side.0; act = found.0.0; answer = one })) line found.2 in
    let same : record { tick = tick.0; side = side.0; act = found.0.0; answer = one.0 } ≡ line = cc (one.2) in
    subst IsLine {x = record { tick = tick.0; side = side.0; act = found.0.0; answer = one.0 }} same (record {
      tick = number_in-fits (first_word bytes) tick.0 tick.1;
      act = act_at-fits third found.0 found.1;
      answer = answer_in-fits (other_words found.0.1) one.0 one.1;
    })
