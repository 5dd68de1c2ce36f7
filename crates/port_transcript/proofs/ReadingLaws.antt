-- The words of a line's text read back as the line's fields.
use Rattle.std.specs.Prelude.{nat_lt}
use Rattle.std.proofs.Common.{◌≡◌, ℕ, zero, suc, ◌+◌, ◌*◌, ◌/◌, ◌%◌, ◌^◌, ◌<◌, ◌≤◌, Bool, true, false, not, ◌&&◌, ◌==◌, List, [], ◌∷◌, ◌++◌, length, take, drop, get_or, slice_index, Option, Some, None, Result, Ok, inl, inr, codes, refl, sym, ap, ◌∙◌, arith}
use Rattle.std.proofs.lemmas.Bool.{and_parts, cases_lt}
use Rattle.std.proofs.lemmas.Bool.Decides.{nat_tests}
use Rattle.std.proofs.lemmas.Fmt.{decimal_by_steps}
use Rattle.std.proofs.lemmas.List.{append_assoc, drop_at, get_or_append_left, get_or_at, get_or_past, length-append, take_at}
use Rattle.std.proofs.lemmas.List.Elements.{All-cons, All-nil, All-push}
use Rattle.std.proofs.lemmas.List.Sums.{position_or_len_is}
use Rattle.std.specs.Fmt.{decimal}
use Rattle.std.specs.List.{All, position_or_len}
use Rattle.std.specs.Result.{result_ok}
use Rattle.std.specs.Str.{bytes_eq}
use Rattle.hex.proofs.HexLemmas.{decode_sized-encode_lower, length-encode_with}
use Rattle.hex.specs.Hex.{IsBytes, decode_sized, encode_lower, encode_with, lower_digits}
use Rattle.hex.specs.declared.error.FromHexError.{FromHexError}
use Rattle.psd_base.specs.Reading.{number_after, number_in, with_digit, ◌>>=◌}
use Rattle.psd_base.specs.Setup.{setup_bytes, setup_of}
use Rattle.psd_base.specs.declared.act.Act.{Act}
use Rattle.psd_base.specs.declared.act.Act.TheVariants as act
use Rattle.psd_base.specs.declared.act.Answer.{Answer}
use Rattle.psd_base.specs.declared.act.Answer.TheVariants as answer
use Rattle.psd_base.specs.declared.act.Side.{Side}
use Rattle.psd_base.specs.declared.act.Side.TheVariants.{Km, Ua}
use Rattle.psd_base.specs.declared.line.Line.{Line}
use Rattle.psd_base.specs.declared.setup.Setup.{Setup}
use Rattle.port_transcript.specs.PortLine.{IsAct, IsAnswer, IsLine, IsPacket, IsSetup, act_text, answer_text, line_text, side_text}
use Rattle.port_transcript.specs.ReadBack.{act_at, answer_in, byte_of, data_in, first_word, flag_of, in_at, is_break, line_in, other_words, out_at, packet_of, setup_at, setup_in, side_of}
use Rattle.port_transcript.specs.Text.{bytes_text, flag_text}

-- ---- words

-- no byte ends the word
abbrev IsWord : List ℕ → Type 0
IsWord word = All (λ byte. is_break byte ≡ false) word

word_end : (word rest : List ℕ) (byte : ℕ) → IsWord word → is_break byte ≡ true → position_or_len is_break (word ++ byte ∷ rest) ≡ length word
word_end word rest byte is ends =
    position_or_len_is is_break (word ++ byte ∷ rest) (length word) 0
    (omega (arith, length-append word (byte ∷ rest)))
    (λ k below. rw (get_or_append_left word (byte ∷ rest) 0 k below) (is k 0 below))
    (λ below. rw (get_or_at word byte rest 0 (length word) refl) ends)

first_word-ends : (word rest : List ℕ) (byte : ℕ) → IsWord word → is_break byte ≡ true → first_word (word ++ byte ∷ rest) ≡ word
unfolding first_word
first_word-ends word rest byte is ends =
    ap (λ (n : ℕ). take n (word ++ byte ∷ rest)) (word_end word rest byte is ends) ∙ take_at word (byte ∷ rest) (length word) refl

other_words-ends : (word rest : List ℕ) (byte : ℕ) → IsWord word → is_break byte ≡ true → other_words (word ++ byte ∷ rest) ≡ rest
unfolding other_words
other_words-ends word rest byte is ends =
    let whole : word ++ byte ∷ rest ≡ (word ++ byte ∷ []) ++ rest = sym (append_assoc word (byte ∷ []) rest) in
    ap (λ (n : ℕ). drop (n + 1) (word ++ byte ∷ rest)) (word_end word rest byte is ends)
    ∙ (ap (λ (bytes : List ℕ). drop (length word + 1) bytes) whole
    ∙ drop_at (word ++ byte ∷ []) rest (length word + 1) (length-append word (byte ∷ [])))

-- a test of words that computes
abbrev is_word : List ℕ → Bool
is_word [] = true
is_word (byte ∷ bytes) = not (is_break byte) && is_word bytes

not_true : (b : Bool) → not b ≡ true → b ≡ false
not_true true is = cc
not_true false is = refl

IsWord-from_test : (word : List ℕ) → is_word word ≡ true → IsWord word
IsWord-from_test [] is = All-nil (λ byte. is_break byte ≡ false)
IsWord-from_test (byte ∷ bytes) is =
    let parts = and_parts (not (is_break byte)) (is_word bytes) is in
    All-cons (λ byte. is_break byte ≡ false) byte bytes (not_true (is_break byte) parts.0) (IsWord-from_test bytes parts.1)

digit_in_word : (digit : ℕ) → digit < 10 → is_break (48 + digit) ≡ false
digit_in_word digit small = grind (arith, nat_tests)

IsWord-decimal : (n : ℕ) → n < 2 ^ 64 → IsWord (decimal n)
IsWord-decimal = decimal_by_steps (λ n digits. IsWord digits)
    (λ n small. All-cons (λ byte. is_break byte ≡ false) (48 + n) [] (digit_in_word n small) (All-nil (λ byte. is_break byte ≡ false)))
    (λ n digits large is. All-push (λ byte. is_break byte ≡ false) digits (48 + n % 10) is (digit_in_word (n % 10) (omega arith)))

in_word_at : (word : List ℕ) → is_word word ≡ true → (i : ℕ) → is_break (get_or word i 0) ≡ false
in_word_at [] is i = refl
in_word_at (byte ∷ bytes) is zero = not_true (is_break byte) (and_parts (not (is_break byte)) (is_word bytes) is).0
in_word_at (byte ∷ bytes) is (suc i) = in_word_at bytes (and_parts (not (is_break byte)) (is_word bytes) is).1 i

IsWord-encode_lower : (bytes : List ℕ) → IsWord (encode_lower bytes)
unfolding encode_with
IsWord-encode_lower [] = All-nil (λ byte. is_break byte ≡ false)
IsWord-encode_lower (byte ∷ bytes) =
    let high = get_or lower_digits (byte / 16) 0 in
    let low = get_or lower_digits (byte % 16) 0 in
    All-cons (λ byte. is_break byte ≡ false) high (low ∷ encode_lower bytes) (in_word_at lower_digits refl (byte / 16))
    (All-cons (λ byte. is_break byte ≡ false) low (encode_lower bytes) (in_word_at lower_digits refl (byte % 16)) (IsWord-encode_lower bytes))

IsWord-flag_text : (flag : Bool) → IsWord (flag_text flag)
IsWord-flag_text false = IsWord-from_test (codes "0") refl
IsWord-flag_text true = IsWord-from_test (codes "1") refl

IsWord-bytes_text : (bytes : List ℕ) → IsWord (bytes_text bytes)
IsWord-bytes_text [] = IsWord-from_test (codes "-") refl
IsWord-bytes_text (byte ∷ bytes) = IsWord-encode_lower (byte ∷ bytes)

IsWord-side_text : (side : Side) → IsWord (side_text side)
unfolding side_text
IsWord-side_text Km = IsWord-from_test (codes "KM") refl
IsWord-side_text Ua = IsWord-from_test (codes "UA") refl

-- ---- what words say

number_after-push : (number : ℕ) (digits : List ℕ) (byte : ℕ) → number_after number (digits ++ byte ∷ []) ≡ (number_after number digits >>= λ more. with_digit more byte)
unfolding number_after
number_after-push number [] byte = elim (with_digit number byte) as (λ o. (o >>= λ more. Some more) ≡ o) [ None ↦ refl | Some n ↦ refl ]
number_after-push number (digit ∷ digits) byte =
    elim (with_digit number digit) as (λ o. (o >>= λ more. number_after more (digits ++ byte ∷ [])) ≡ ((o >>= λ more. number_after more digits) >>= λ more. with_digit more byte))
    [ None ↦ refl | Some n ↦ number_after-push n digits byte ]

with_digit-last : (n : ℕ) → n < 2 ^ 32 → with_digit (n / 10) (48 + n % 10) ≡ Some n
unfolding with_digit
with_digit-last n small = grind (arith, nat_tests)

with_digit-only : (n : ℕ) → n < 10 → with_digit 0 (48 + n) ≡ Some n
unfolding with_digit
with_digit-only n small = grind (arith, nat_tests)

with_digit-after : (n : ℕ) (digits : List ℕ) → n < 2 ^ 32 → number_after 0 digits ≡ Some (n / 10) → number_after 0 (digits ++ (48 + n % 10) ∷ []) ≡ Some n
with_digit-after n digits small is =
    number_after-push 0 digits (48 + n % 10) ∙ (ap (λ (o : Option ℕ). o >>= λ more. with_digit more (48 + n % 10)) is ∙ with_digit-last n small)

number_in-decimal : (n : ℕ) → n < 2 ^ 32 → number_in (decimal n) ≡ Some n
unfolding number_in number_after
number_in-decimal n small =
    decimal_by_steps (λ n digits. n < 2 ^ 32 → number_after 0 digits ≡ Some n)
    (λ n one fits. rw (with_digit-only n one) refl)
    (λ n digits large is fits. with_digit-after n digits fits (is (omega arith)))
    n (omega arith) small

byte_of-decimal : (n : ℕ) → n < 2 ^ 8 → byte_of (decimal n) ≡ Some n
unfolding byte_of
byte_of-decimal n small = rw (number_in-decimal n (omega arith)) (grind (arith, nat_tests))

flag_of-flag_text : (flag : Bool) → flag_of (flag_text flag) ≡ Some flag
unfolding flag_of
flag_of-flag_text false = refl
flag_of-flag_text true = refl

side_of-side_text : (side : Side) → side_of (side_text side) ≡ Some side
unfolding side_of side_text
side_of-side_text Km = refl
side_of-side_text Ua = refl

IsBytes-from_all : (bytes : List ℕ) → All (λ byte. byte < 2 ^ 8) bytes → IsBytes bytes
IsBytes-from_all bytes are i =
    elim (cases_lt i (length bytes)) [ inl below ↦ are i 0 below | inr past ↦ rw (get_or_past bytes i 0 past) (omega arith) ]

-- hexadecimal digits of some bytes aren't the text of no bytes
not_none : (byte : ℕ) (bytes : List ℕ) → bytes_eq (encode_lower (byte ∷ bytes)) (codes "-") ≡ false
unfolding encode_with
not_none byte bytes = elim (slice_index lower_digits (byte / 16) == 45) as (λ b. (b && false) ≡ false) [ true ↦ refl | false ↦ refl ]

not_below : (m n : ℕ) → n ≤ m → nat_lt m n ≡ false
not_below m n most = grind (arith, nat_tests)

packet_of-none : packet_of (codes "-") ≡ Some []
unfolding packet_of
packet_of-none = refl

packet_of-word : (word bytes : List ℕ) → bytes_eq word (codes "-") ≡ false → nat_lt 64 (length word / 2) ≡ false
    → decode_sized word (length word / 2) ≡ Ok bytes → packet_of word ≡ Some bytes
unfolding packet_of
packet_of-word word bytes some few read = rw (some, few) (ap result_ok read)

packet_of-bytes_text : (bytes : List ℕ) → IsPacket bytes → packet_of (bytes_text bytes) ≡ Some bytes
packet_of-bytes_text [] is = packet_of-none
packet_of-bytes_text (byte ∷ bytes) is =
    let word = encode_lower (byte ∷ bytes) in
    let long : length word ≡ 2 * length (byte ∷ bytes) = length-encode_with lower_digits (byte ∷ bytes) in
    let half : length (byte ∷ bytes) ≡ length word / 2 = omega (arith, long) in
    let few : nat_lt 64 (length word / 2) ≡ false = not_below 64 (length word / 2) (omega (arith, half, is.size)) in
    packet_of-word word (byte ∷ bytes) (not_none byte bytes) few
    (decode_sized-encode_lower (byte ∷ bytes) (length word / 2) half (IsBytes-from_all (byte ∷ bytes) is.bytes_fit))

are_bytes : (a b c d e f g h : ℕ) → a < 256 → b < 256 → c < 256 → d < 256 → e < 256 → f < 256 → g < 256 → h < 256
    → IsBytes (a ∷ b ∷ c ∷ d ∷ e ∷ f ∷ g ∷ h ∷ [])
are_bytes a b c d e f g h fit_a fit_b fit_c fit_d fit_e fit_f fit_g fit_h zero = fit_a
are_bytes a b c d e f g h fit_a fit_b fit_c fit_d fit_e fit_f fit_g fit_h (suc zero) = fit_b
are_bytes a b c d e f g h fit_a fit_b fit_c fit_d fit_e fit_f fit_g fit_h (suc (suc zero)) = fit_c
are_bytes a b c d e f g h fit_a fit_b fit_c fit_d fit_e fit_f fit_g fit_h (suc (suc (suc zero))) = fit_d
are_bytes a b c d e f g h fit_a fit_b fit_c fit_d fit_e fit_f fit_g fit_h (suc (suc (suc (suc zero)))) = fit_e
are_bytes a b c d e f g h fit_a fit_b fit_c fit_d fit_e fit_f fit_g fit_h (suc (suc (suc (suc (suc zero))))) = fit_f
are_bytes a b c d e f g h fit_a fit_b fit_c fit_d fit_e fit_f fit_g fit_h (suc (suc (suc (suc (suc (suc zero)))))) = fit_g
are_bytes a b c d e f g h fit_a fit_b fit_c fit_d fit_e fit_f fit_g fit_h (suc (suc (suc (suc (suc (suc (suc zero))))))) = fit_h
are_bytes a b c d e f g h fit_a fit_b fit_c fit_d fit_e fit_f fit_g fit_h (suc (suc (suc (suc (suc (suc (suc (suc i)))))))) = omega arith

IsBytes-setup_bytes : (setup : Setup) → IsSetup setup → IsBytes (setup_bytes setup)
IsBytes-setup_bytes setup is =
    are_bytes setup.kind setup.request (setup.value % 256) (setup.value / 256) (setup.index % 256) (setup.index / 256) (setup.length % 256) (setup.length / 256)
    is.kind is.request (omega arith) (omega (arith, is.value)) (omega arith) (omega (arith, is.index)) (omega arith) (omega (arith, is.length_fits))

setup_of-setup_bytes : (setup : Setup) → setup_of (setup_bytes setup) ≡ setup
setup_of-setup_bytes setup =
    let value : setup.value % 256 + 256 * (setup.value / 256) ≡ setup.value = omega arith in
    let index : setup.index % 256 + 256 * (setup.index / 256) ≡ setup.index = omega arith in
    let size : setup.length % 256 + 256 * (setup.length / 256) ≡ setup.length = omega arith in
    rw (value, index, size) refl

setup_in-setup_bytes : (setup : Setup) → IsSetup setup → setup_in (encode_lower (setup_bytes setup)) ≡ Some setup
unfolding setup_in
setup_in-setup_bytes setup is =
    let read = decode_sized-encode_lower (setup_bytes setup) 8 refl (IsBytes-setup_bytes setup is) in
    ap (λ (r : Result (List ℕ) FromHexError). result_ok r >>= λ bytes. Some (setup_of bytes)) read ∙ ap Some (setup_of-setup_bytes setup)

-- ---- acts

setup_at-words : (address : ℕ) (setup : Setup) (rest : List ℕ) → address < 2 ^ 8 → IsSetup setup
    → setup_at (decimal address ++ 32 ∷ (encode_lower (setup_bytes setup) ++ 32 ∷ rest)) ≡ Some (act.Setup address setup, rest)
unfolding setup_at
setup_at-words address setup rest small is =
    rw (
      other_words-ends (decimal address) (encode_lower (setup_bytes setup) ++ 32 ∷ rest) 32 (IsWord-decimal address (omega arith)) refl,
      first_word-ends (decimal address) (encode_lower (setup_bytes setup) ++ 32 ∷ rest) 32 (IsWord-decimal address (omega arith)) refl,
      byte_of-decimal address small,
      other_words-ends (encode_lower (setup_bytes setup)) rest 32 (IsWord-encode_lower (setup_bytes setup)) refl,
      first_word-ends (encode_lower (setup_bytes setup)) rest 32 (IsWord-encode_lower (setup_bytes setup)) refl,
      setup_in-setup_bytes setup is,
    ) refl

in_at-words : (address endpoint : ℕ) (acked : Bool) (rest : List ℕ) → address < 2 ^ 8 → endpoint < 2 ^ 8
    → in_at (decimal address ++ 32 ∷ (decimal endpoint ++ 32 ∷ (flag_text acked ++ 32 ∷ rest))) ≡ Some (act.In address endpoint acked, rest)
unfolding in_at
in_at-words address endpoint acked rest small low =
    rw (
      other_words-ends (decimal address) (decimal endpoint ++ 32 ∷ (flag_text acked ++ 32 ∷ rest)) 32 (IsWord-decimal address (omega arith)) refl,
      first_word-ends (decimal address) (decimal endpoint ++ 32 ∷ (flag_text acked ++ 32 ∷ rest)) 32 (IsWord-decimal address (omega arith)) refl,
      byte_of-decimal address small,
      other_words-ends (decimal endpoint) (flag_text acked ++ 32 ∷ rest) 32 (IsWord-decimal endpoint (omega arith)) refl,
      first_word-ends (decimal endpoint) (flag_text acked ++ 32 ∷ rest) 32 (IsWord-decimal endpoint (omega arith)) refl,
      byte_of-decimal endpoint low,
      other_words-ends (flag_text acked) rest 32 (IsWord-flag_text acked) refl,
      first_word-ends (flag_text acked) rest 32 (IsWord-flag_text acked) refl,
      flag_of-flag_text acked,
    ) refl

out_at-words : (address endpoint : ℕ) (toggle : Bool) (bytes rest : List ℕ) → address < 2 ^ 8 → endpoint < 2 ^ 8 → IsPacket bytes
    → out_at (decimal address ++ 32 ∷ (decimal endpoint ++ 32 ∷ (flag_text toggle ++ 32 ∷ (bytes_text bytes ++ 32 ∷ rest)))) ≡ Some (act.Out address endpoint toggle bytes, rest)
unfolding out_at
out_at-words address endpoint toggle bytes rest small low is =
    rw (
      other_words-ends (decimal address) (decimal endpoint ++ 32 ∷ (flag_text toggle ++ 32 ∷ (bytes_text bytes ++ 32 ∷ rest))) 32 (IsWord-decimal address (omega arith)) refl,
      first_word-ends (decimal address) (decimal endpoint ++ 32 ∷ (flag_text toggle ++ 32 ∷ (bytes_text bytes ++ 32 ∷ rest))) 32 (IsWord-decimal address (omega arith)) refl,
      byte_of-decimal address small,
      other_words-ends (decimal endpoint) (flag_text toggle ++ 32 ∷ (bytes_text bytes ++ 32 ∷ rest)) 32 (IsWord-decimal endpoint (omega arith)) refl,
      first_word-ends (decimal endpoint) (flag_text toggle ++ 32 ∷ (bytes_text bytes ++ 32 ∷ rest)) 32 (IsWord-decimal endpoint (omega arith)) refl,
      byte_of-decimal endpoint low,
      other_words-ends (flag_text toggle) (bytes_text bytes ++ 32 ∷ rest) 32 (IsWord-flag_text toggle) refl,
      first_word-ends (flag_text toggle) (bytes_text bytes ++ 32 ∷ rest) 32 (IsWord-flag_text toggle) refl,
      flag_of-flag_text toggle,
      other_words-ends (bytes_text bytes) rest 32 (IsWord-bytes_text bytes) refl,
      first_word-ends (bytes_text bytes) rest 32 (IsWord-bytes_text bytes) refl,
      packet_of-bytes_text bytes is,
    ) refl

act_at-act_text : (one : Act) (rest : List ℕ) → IsAct one → act_at (act_text one ++ 32 ∷ rest) ≡ Some (one, rest)
unfolding act_at act_text first_word other_words
act_at-act_text act.Reset rest is = refl
act_at-act_text (act.Setup address setup) rest is =
    let regrouped : act_text (act.Setup address setup) ++ 32 ∷ rest ≡ codes "SETUP " ++ (decimal address ++ 32 ∷ (encode_lower (setup_bytes setup) ++ 32 ∷ rest)) = simp append_assoc in
    ap act_at regrouped ∙ setup_at-words address setup rest is.0 is.1
act_at-act_text (act.Out address endpoint toggle bytes) rest is =
    let regrouped : act_text (act.Out address endpoint toggle bytes) ++ 32 ∷ rest ≡ codes "OUT " ++ (decimal address ++ 32 ∷ (decimal endpoint ++ 32 ∷ (flag_text toggle ++ 32 ∷ (bytes_text bytes ++ 32 ∷ rest)))) = simp append_assoc in
    ap act_at regrouped ∙ out_at-words address endpoint toggle bytes rest is.0 is.1 is.2
act_at-act_text (act.In address endpoint acked) rest is =
    let regrouped : act_text (act.In address endpoint acked) ++ 32 ∷ rest ≡ codes "IN " ++ (decimal address ++ 32 ∷ (decimal endpoint ++ 32 ∷ (flag_text acked ++ 32 ∷ rest))) = simp append_assoc in
    ap act_at regrouped ∙ in_at-words address endpoint acked rest is.0 is.1

-- ---- answers

data_in-words : (toggle : Bool) (bytes rest : List ℕ) → IsPacket bytes
    → data_in (flag_text toggle ++ 32 ∷ (bytes_text bytes ++ 10 ∷ rest)) ≡ Some (answer.Data toggle bytes)
unfolding data_in
data_in-words toggle bytes rest is =
    rw (
      other_words-ends (flag_text toggle) (bytes_text bytes ++ 10 ∷ rest) 32 (IsWord-flag_text toggle) refl,
      first_word-ends (flag_text toggle) (bytes_text bytes ++ 10 ∷ rest) 32 (IsWord-flag_text toggle) refl,
      flag_of-flag_text toggle,
      first_word-ends (bytes_text bytes) rest 10 (IsWord-bytes_text bytes) refl,
      packet_of-bytes_text bytes is,
    ) refl

answer_in-answer_text : (one : Answer) (rest : List ℕ) → IsAnswer one → answer_in (answer_text one ++ 10 ∷ rest) ≡ Some one
unfolding answer_in answer_text first_word other_words
answer_in-answer_text answer.Ack rest is = refl
answer_in-answer_text answer.Nak rest is = refl
answer_in-answer_text answer.Stall rest is = refl
answer_in-answer_text answer.Silent rest is = refl
answer_in-answer_text (answer.Data toggle bytes) rest is =
    let regrouped : answer_text (answer.Data toggle bytes) ++ 10 ∷ rest ≡ codes "DATA " ++ (flag_text toggle ++ 32 ∷ (bytes_text bytes ++ 10 ∷ rest)) = simp append_assoc in
    ap answer_in regrouped ∙ data_in-words toggle bytes rest is

-- ---- lines

line_in-words : (line : Line) → IsLine line
    → line_in (decimal line.tick ++ 32 ∷ (side_text line.side ++ 32 ∷ (act_text line.act ++ 32 ∷ (45 ∷ 62 ∷ 32 ∷ (answer_text line.answer ++ 10 ∷ []))))) ≡ Some line
unfolding line_in
line_in-words line is =
    rw (
      other_words-ends (decimal line.tick) (side_text line.side ++ 32 ∷ (act_text line.act ++ 32 ∷ (45 ∷ 62 ∷ 32 ∷ (answer_text line.answer ++ 10 ∷ [])))) 32 (IsWord-decimal line.tick (omega (arith, is.tick))) refl,
      first_word-ends (decimal line.tick) (side_text line.side ++ 32 ∷ (act_text line.act ++ 32 ∷ (45 ∷ 62 ∷ 32 ∷ (answer_text line.answer ++ 10 ∷ [])))) 32 (IsWord-decimal line.tick (omega (arith, is.tick))) refl,
      number_in-decimal line.tick is.tick,
      other_words-ends (side_text line.side) (act_text line.act ++ 32 ∷ (45 ∷ 62 ∷ 32 ∷ (answer_text line.answer ++ 10 ∷ []))) 32 (IsWord-side_text line.side) refl,
      first_word-ends (side_text line.side) (act_text line.act ++ 32 ∷ (45 ∷ 62 ∷ 32 ∷ (answer_text line.answer ++ 10 ∷ []))) 32 (IsWord-side_text line.side) refl,
      side_of-side_text line.side,
      act_at-act_text line.act (45 ∷ 62 ∷ 32 ∷ (answer_text line.answer ++ 10 ∷ [])) is.act,
      other_words-ends (codes "->") (answer_text line.answer ++ 10 ∷ []) 32 (IsWord-from_test (codes "->") refl) refl,
      answer_in-answer_text line.answer [] is.answer,
    ) refl

-- the words of a line's text give the line
pub line_in-line_text : (line : Line) → IsLine line → line_in (line_text line) ≡ Some line
unfolding line_text
line_in-line_text line is =
    let regrouped : line_text line ≡ decimal line.tick ++ 32 ∷ (side_text line.side ++ 32 ∷ (act_text line.act ++ 32 ∷ (45 ∷ 62 ∷ 32 ∷ (answer_text line.answer ++ 10 ∷ [])))) = simp append_assoc in
    ap line_in regrouped ∙ line_in-words line is

pub some_same : (a b : Line) → Some a ≡ Some b → a ≡ b
some_same a b same = cc

-- no two lines have one text
pub line_text-injective : (a b : Line) → IsLine a → IsLine b → line_text a ≡ line_text b → a ≡ b
line_text-injective a b is_a is_b same =
    some_same a b (sym (line_in-line_text a is_a) ∙ (ap line_in same ∙ line_in-line_text b is_b))
