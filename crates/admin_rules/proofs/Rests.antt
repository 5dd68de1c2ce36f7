-- No reader of TOML's grammar leaves more text than it was given.
use Rattle.std.proofs.Common.{ℕ, zero, suc, ◌≤◌, unwrap_or, Bool, true, false, ◌==◌, if◌then◌else◌, List, [], ◌∷◌, ◌++◌, length, drop, length-drop, Option, Some, None, is_some, nat_lt, IfSome, option_map, option_and_then, encode_utf8, inl, inr, arith}
use Rattle.std.specs.List.{prefix_len}
use Rattle.std.proofs.lemmas.Bool.{cases_Bool}
use Rattle.toml_parser.specs.Lexical.{Read, line_feed, first, starts_newline, skip_ws, skip_from, skip_turn}
use Rattle.toml_parser.specs.Strings.{hex_escape, hex_len, simple_escape, escape_char, escape, at_delims, special, prepend, after_piece, body, trim_newline, one_line, quoted, simple_key, key_after, key}
use Rattle.toml_parser.specs.Numbers.{unquoted, word_len, word_value}

-- what is left has at most n bytes
pub record Leaves {A : Type 0} (n : ℕ) (r : Option (A × List ℕ)) : Type 0 where
  pub left : IfSome r (λ p. length p.1 ≤ n)

pub none_left : {A : Type 0} (n : ℕ) → Leaves {A = A} n None
none_left n = record { left = tt }

pub some_left : {A : Type 0} (n : ℕ) (a : A) (rest : List ℕ) → length rest ≤ n → Leaves n (Some (a, rest))
some_left n a rest fits = record { left = fits }

-- the first of two readers leaves at most n, and so the second at most m
pub bind_left : {A B : Type 0} (n m : ℕ) (r : Option (A × List ℕ)) (next : A × List ℕ → Option (B × List ℕ)) → Leaves n r
    → ((p : A × List ℕ) → length p.1 ≤ n → Leaves m (next p)) → Leaves m (option_and_then next r)
bind_left n m None next first_left second = none_left m
bind_left n m (Some p) next first_left second = second p first_left.left

pub if_left : {A : Type 0} (n : ℕ) (b : Bool) (x y : Option (A × List ℕ)) → Leaves n x → Leaves n y → Leaves n (if b then x else y)
if_left n true x y in_x in_y = in_x
if_left n false x y in_x in_y = in_y

-- what is read is changed, and what is left isn't
pub map_left : {A B : Type 0} (n : ℕ) (f : A × List ℕ → B × List ℕ) (r : Option (A × List ℕ)) → ((p : A × List ℕ) → length (f p).1 ≤ length p.1) → Leaves n r → Leaves n (option_map f r)
map_left n f None same r_left = none_left n
map_left n f (Some p) same r_left = let fits : length p.1 ≤ n = r_left.left in record { left = omega (arith, same p) }

-- what is read is found elsewhere
pub found_left : {A B : Type 0} (n : ℕ) (f : A → B × List ℕ) (o : Option A) → ((a : A) → length (f a).1 ≤ n) → Leaves n (option_map f o)
found_left n f None fits = none_left n
found_left n f (Some a) fits = record { left = fits a }

pub more_left : {A : Type 0} (n m : ℕ) (r : Option (A × List ℕ)) → n ≤ m → Leaves n r → Leaves m r
more_left n m None le r_left = none_left m
more_left n m (Some p) le r_left = let fits : length p.1 ≤ n = r_left.left in record { left = omega arith }

pub drop-left : (k : ℕ) (text : List ℕ) → length (drop k text) ≤ length text
drop-left k text = omega (arith, length-drop k text)

pub if_within : (n : ℕ) (b : Bool) (x y : List ℕ) → length x ≤ n → length y ≤ n → length (if b then x else y) ≤ n
if_within n true x y in_x in_y = in_x
if_within n false x y in_x in_y = in_y

-- ---- the lexical words

pub skip_ws-left : (text : List ℕ) → length (skip_ws text) ≤ length text
unfolding skip_ws
skip_ws-left text = drop-left _ text

pub skip_from-left : (comments inside : Bool) (text : List ℕ) → length (skip_from comments inside text) ≤ length text
unfolding skip_from
skip_from-left comments inside [] = omega arith
skip_from-left comments inside (c ∷ cs) =
    let next = skip_from-left comments (unwrap_or (skip_turn comments inside c (first cs)) false) cs in
    elim (cases_Bool (is_some (skip_turn comments inside c (first cs)))) [
      | inl more ↦ rw more (omega arith)
      | inr stop ↦ rw stop (omega arith)
    ]

-- ---- strings

hex_escape-left : (n : ℕ) (text : List ℕ) → Leaves (length text) (hex_escape n text)
unfolding hex_escape
hex_escape-left n text = if_left _ _ _ _ (some_left _ _ _ (drop-left n text)) (none_left _)

escape_char-left : (text : List ℕ) → Leaves (length text) (escape_char text)
unfolding escape_char
escape_char-left text =
    if_left _ _ _ _ (more_left _ _ _ (drop-left 1 text) (hex_escape-left (hex_len (first text)) (drop 1 text)))
    (found_left _ (λ (c : ℕ). (c, drop 1 text)) (simple_escape (first text)) (λ c. drop-left 1 text))

escape-left : (multi : Bool) (text : List ℕ) → Leaves (length text) (escape multi text)
unfolding escape
escape-left multi text =
    if_left _ _ _ _ (some_left _ _ _ (skip_from-left false false text))
    (map_left _ (λ (p : ℕ × List ℕ). (encode_utf8 p.0, p.1)) (escape_char text) (λ p. omega arith) (escape_char-left text))

delims-left : (delim count : ℕ) (text : List ℕ)
    → Leaves (length text) (if count == 3 then Some (None, drop 3 text) else if nat_lt count 6 then Some (Some (delim ∷ []), drop 1 text) else None)
delims-left delim count text =
    let one : Option (Option (List ℕ) × List ℕ) = Some (Some (delim ∷ []), drop 1 text) in
    if_left (length text) (count == 3) (Some (None, drop 3 text)) (if nat_lt count 6 then one else None)
    (some_left (length text) None (drop 3 text) (drop-left 3 text))
    (if_left (length text) (nat_lt count 6) one None (some_left (length text) (Some (delim ∷ [])) (drop 1 text) (drop-left 1 text)) (none_left (length text)))

at_delims-left : (delim : ℕ) (text : List ℕ) → Leaves (length text) (at_delims delim text)
at_delims-left delim text = delims-left delim (prefix_len (λ c. c == delim) text) text

special-left : (delim : ℕ) (multi : Bool) (text : List ℕ) → Leaves (length text) (special delim multi text)
unfolding special
special-left delim multi text =
    let after = drop-left 1 text in
    if_left _ _ _ _ (if_left _ _ _ _ (at_delims-left delim text) (some_left _ _ _ after))
    (
    if_left _ _ _ _ (map_left _ (λ (p : List ℕ × List ℕ). (Some p.0, p.1)) (escape multi (drop 1 text)) (λ p. omega arith) (more_left _ _ _ after (escape-left multi (drop 1 text))))
    (if_left _ _ _ _ (some_left _ _ _ after) (none_left _))
    )

prepend-left : (n : ℕ) (front : List ℕ) (r : Read (List ℕ)) → Leaves n r → Leaves n (prepend front r)
prepend-left n front r r_left = map_left n (λ (p : List ℕ × List ℕ). (front ++ p.0, p.1)) r (λ p. omega arith) r_left

after_piece-left : (n : ℕ) (more : List ℕ → Read (List ℕ)) (piece : Option (List ℕ)) (rest : List ℕ) → length rest ≤ n → Leaves n (more rest) → Leaves n (after_piece more piece rest)
after_piece-left n more None rest fits more_leaves = some_left n _ rest fits
after_piece-left n more (Some bytes) rest fits more_leaves = prepend-left n bytes (more rest) more_leaves

body-left : (delim : ℕ) (multi : Bool) (n : ℕ) (text : List ℕ) → Leaves (length text) (body delim multi n text)
unfolding body
body-left delim multi zero text = none_left _
body-left delim multi (suc n) text =
    if_left _ _ _ _ (prepend-left _ (first text ∷ []) (body delim multi n (drop 1 text)) (more_left _ _ _ (drop-left 1 text) (body-left delim multi n (drop 1 text))))
    (
    bind_left (length text) (length text) (special delim multi text) (λ (p : Option (List ℕ) × List ℕ). after_piece (body delim multi n) p.0 p.1) (special-left delim multi text)
    (λ p fits. after_piece-left (length text) (body delim multi n) p.0 p.1 fits (more_left _ _ _ fits (body-left delim multi n p.1)))
    )

trim_newline-left : (text : List ℕ) → length (trim_newline text) ≤ length text
trim_newline-left text =
    if_within (length text) (first text == line_feed) (drop 1 text) (if starts_newline text then drop 2 text else text) (drop-left 1 text)
    (if_within (length text) (starts_newline text) (drop 2 text) text (drop-left 2 text) (omega arith))

one_line-left : (text : List ℕ) → Leaves (length text) (one_line text)
unfolding one_line
one_line-left text = more_left _ _ _ (drop-left 1 text) (body-left (first text) false (length text) (drop 1 text))

pub quoted-left : (text : List ℕ) → Leaves (length text) (quoted text)
unfolding quoted
quoted-left text =
    let trimmed : length (trim_newline (drop 3 text)) ≤ length text = omega (arith, trim_newline-left (drop 3 text), drop-left 3 text) in
    if_left _ _ _ _ (more_left _ _ _ trimmed (body-left (first text) true (length text) (trim_newline (drop 3 text)))) (one_line-left text)

-- ---- keys

simple_key-left : (text : List ℕ) → Leaves (length text) (simple_key text)
unfolding simple_key
simple_key-left text =
    if_left _ _ _ _ (one_line-left text) (if_left _ _ _ _ (some_left _ _ _ (drop-left _ text)) (none_left _))

key_after-left : (n : ℕ) (path : List (List ℕ)) (text : List ℕ) → Leaves (length text) (key_after n path text)
unfolding key_after
key_after-left zero path text = none_left _
key_after-left (suc n) path text =
    bind_left (length text) (length text) (simple_key text) _ (simple_key-left text)
    (λ part fits.
    let rest = skip_ws part.1 in
    let rest_fits : length rest ≤ length text = omega (arith, skip_ws-left part.1) in
    let next_fits : length (skip_ws (drop 1 rest)) ≤ length text = omega (arith, skip_ws-left (drop 1 rest), drop-left 1 rest) in
    if_left _ _ _ _ (more_left _ _ _ next_fits (key_after-left n (path ++ part.0 ∷ []) (skip_ws (drop 1 rest)))) (some_left _ _ _ rest_fits))

pub key-left : (text : List ℕ) → Leaves (length text) (key text)
key-left text = key_after-left _ [] text

pub unquoted-left : (text : List ℕ) → Leaves (length text) (unquoted text)
unfolding unquoted
unquoted-left text =
    if_left _ _ _ _ (none_left _) (found_left _ _ (word_value _) (λ d. drop-left (word_len text) text))
