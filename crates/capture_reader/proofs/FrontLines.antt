-- The first line, whatever bytes come behind those that are held.
use Rattle.std.proofs.Common.{◌≡◌, ℕ, ◌+◌, ◌<◌, ◌≤◌, Bool, true, List, ◌++◌, length, take, drop, Some, None, position, sym, ap, ◌∙◌, arith, append_assoc, length-take, take-append-drop}
use Rattle.std.proofs.lemmas.List.{take_all, take-take, take-append-le}
use Rattle.std.specs.List.{position_or_len}
use Rattle.capture_reader.specs.Script.{is_line_feed, first_line}
use Rattle.capture_reader.specs.Window.{FrontLine, HasNoLine}
use Rattle.capture_reader.proofs.Looks.{coming_is, coming_ended}
use Rattle.capture_reader.proofs.Places.{position_found, position_within, found_at, position_missing, place_among, place_behind}

-- what comes, in the first bytes of what is held and what is behind them
in_two : (bytes more : List ℕ) → bytes ++ more ≡ take 65 bytes ++ (drop 65 bytes ++ more)
in_two bytes more = ap (λ xs. xs ++ more) (sym (take-append-drop 65 bytes)) ∙ append_assoc (take 65 bytes) (drop 65 bytes) more

-- a line feed is among the first bytes
found_in : (bytes more : List ℕ) (size : ℕ) → position is_line_feed (take 65 bytes) ≡ Some size → take 65 (first_line (bytes ++ more)) ≡ take size bytes
unfolding first_line
found_in bytes more size is =
    let within : size < length (take 65 bytes) = position_within is_line_feed (take 65 bytes) size is in
    let at : position_or_len is_line_feed (take 65 bytes) ≡ size = position_found is_line_feed (take 65 bytes) size is in
    let place : position_or_len is_line_feed (bytes ++ more) ≡ size =
    ap (position_or_len is_line_feed) (in_two bytes more) ∙ place_among is_line_feed (take 65 bytes) (drop 65 bytes ++ more) (omega arith) ∙ at in
    ap (λ n. take 65 (take n (bytes ++ more))) place
    ∙ take_all 65 (take size (bytes ++ more)) (omega (arith, length-take size (bytes ++ more), length-take 65 bytes))
    ∙ take-append-le size bytes more (omega (arith, length-take 65 bytes))

-- the first place among the first bytes is the first of all
first_place : (bytes : List ℕ) (size : ℕ) → position is_line_feed (take 65 bytes) ≡ Some size → position is_line_feed bytes ≡ Some size
first_place bytes size is =
    let within : size < length (take 65 bytes) = position_within is_line_feed (take 65 bytes) size is in
    let at : position_or_len is_line_feed (take 65 bytes) ≡ size = position_found is_line_feed (take 65 bytes) size is in
    let place : position_or_len is_line_feed bytes ≡ size =
    ap (position_or_len is_line_feed) (sym (take-append-drop 65 bytes)) ∙ place_among is_line_feed (take 65 bytes) (drop 65 bytes) (omega arith) ∙ at in
    found_at is_line_feed bytes size place (omega (arith, length-take 65 bytes))

pub found_line : (bytes : List ℕ) (ended : Bool) (size : ℕ) → position is_line_feed (take 65 bytes) ≡ Some size → FrontLine (record { bytes = bytes; ended = ended }) size
found_line bytes ended size is =
    let within : size < length (take 65 bytes) = position_within is_line_feed (take 65 bytes) size is in
    record {
      within = omega (arith, length-take 65 bytes);
      most = omega (arith, length-take 65 bytes);
      line = λ left. let behind = coming_is bytes ended left in ap (λ xs. take 65 (first_line xs)) behind.1 ∙ found_in bytes behind.0 size is;
      last = λ short all. absurd (omega (arith, length-take 65 bytes));
      feed = λ unmet short. first_place bytes size is;
    }

-- there is none among as many as a line can't have
long_in : (bytes more : List ℕ) → position is_line_feed (take 65 bytes) ≡ None → 65 ≤ length bytes → take 65 (first_line (bytes ++ more)) ≡ take 65 bytes
unfolding first_line
long_in bytes more is long =
    let size : length (take 65 bytes) ≡ 65 = omega (arith, length-take 65 bytes) in
    let place : position_or_len is_line_feed (bytes ++ more) ≡ length (take 65 bytes) + position_or_len is_line_feed (drop 65 bytes ++ more) =
    ap (position_or_len is_line_feed) (in_two bytes more) ∙ place_behind is_line_feed (take 65 bytes) (drop 65 bytes ++ more) (position_missing is_line_feed (take 65 bytes) is) in
    take-take 65 (position_or_len is_line_feed (bytes ++ more)) (bytes ++ more) (omega arith) ∙ take-append-le 65 bytes more long

-- there is none before the end
ended_in : (bytes : List ℕ) → position is_line_feed (take 65 bytes) ≡ None → length bytes < 65 → take 65 (first_line bytes) ≡ bytes
unfolding first_line
ended_in bytes is short =
    let whole : take 65 bytes ≡ bytes = take_all 65 bytes (omega arith) in
    let all : length bytes ≤ position_or_len is_line_feed bytes = position_missing is_line_feed bytes (ap (position is_line_feed) (sym whole) ∙ is) in
    ap (take 65) (take_all (position_or_len is_line_feed bytes) bytes all) ∙ whole

pub long_line : (bytes : List ℕ) (ended : Bool) → position is_line_feed (take 65 bytes) ≡ None → 65 ≤ length bytes → FrontLine (record { bytes = bytes; ended = ended }) 65
long_line bytes ended is long = record {
  within = long;
  most = omega arith;
  line = λ left. let behind = coming_is bytes ended left in ap (λ xs. take 65 (first_line xs)) behind.1 ∙ long_in bytes behind.0 is long;
  last = λ short all. absurd (omega arith);
  feed = λ unmet short. absurd (omega arith);
}

pub ended_line : (bytes : List ℕ) (ended : Bool) → position is_line_feed (take 65 bytes) ≡ None → ended ≡ true → length bytes < 65 → FrontLine (record { bytes = bytes; ended = ended }) (length bytes)
ended_line bytes ended is at_end short = record {
  within = omega arith;
  most = omega arith;
  line = λ left.
      ap (λ xs. take 65 (first_line xs)) (coming_ended (record { bytes = bytes; ended = ended }) left at_end) ∙ ended_in bytes is short ∙ sym (take_all (length bytes) bytes (omega arith));
  last = λ _ _. at_end;
  feed = λ unmet short. absurd (cc);
}

pub no_line : (bytes : List ℕ) → position is_line_feed (take 65 bytes) ≡ None → length (take 65 bytes) ≤ 64 → HasNoLine bytes × (length bytes ≤ 64)
no_line bytes is short =
    let few : length bytes ≤ 64 = omega (arith, length-take 65 bytes) in
    (ap (position is_line_feed) (sym (take_all 65 bytes (omega arith))) ∙ is, few)
