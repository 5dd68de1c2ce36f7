-- What the grammar's values and lines leave of a text, and how many items their arrays have.
use Rattle.std.proofs.Common.{◌≡◌, ℕ, zero, suc, ◌+◌, ◌≤◌, Bool, true, false, ◌==◌, if◌then◌else◌, List, length, drop, Option, Some, None, IfSome, option_map, option_and_then, refl, arith}
use Rattle.toml_parser.specs.Lexical.{Read, first, skip_ws, skip_blank, right_bracket, right_brace, comma, equals}
use Rattle.toml_parser.specs.Strings.{Key, key, quoted}
use Rattle.toml_parser.specs.Numbers.{unquoted}
use Rattle.toml_parser.specs.declared.scalar.Scalar.{Scalar}
use Rattle.toml_parser.specs.declared.scalar.Scalar.TheVariants.{Boolean, Integer, Float, Datetime}
use Rattle.toml.specs.Data.{Data, string, array, table, Items, no_items, item, push_item}
use Rattle.toml.specs.Tables.{Nodes, no_nodes, put}
use Rattle.toml.specs.Parse.{read_map, after_byte, after_element, key_equals, keyval, items, members, scalar_data, atom, val}
use Rattle.admin_rules.specs.Sizes.{item_count, array_size}
use Rattle.admin_rules.proofs.Rests.{Leaves, none_left, some_left, bind_left, if_left, map_left, more_left, drop-left, skip_ws-left, skip_from-left, key-left, quoted-left, unquoted-left}

-- what is left has at most n bytes
pub record RestLeaves (n : ℕ) (o : Option (List ℕ)) : Type 0 where
  pub left : IfSome o (λ rest. length rest ≤ n)

if_rest : (n : ℕ) (b : Bool) (x y : Option (List ℕ)) → RestLeaves n x → RestLeaves n y → RestLeaves n (if b then x else y)
if_rest n true x y in_x in_y = in_x
if_rest n false x y in_x in_y = in_y

no_rest : (n : ℕ) → RestLeaves n None
no_rest n = record { left = tt }

some_rest : (n : ℕ) (rest : List ℕ) → length rest ≤ n → RestLeaves n (Some rest)
some_rest n rest fits = record { left = fits }

bind_rest : {B : Type 0} (n m : ℕ) (o : Option (List ℕ)) (next : List ℕ → Option (B × List ℕ)) → RestLeaves n o
    → ((rest : List ℕ) → length rest ≤ n → Leaves m (next rest)) → Leaves m (option_and_then next o)
bind_rest n m None next o_left h = none_left m
bind_rest n m (Some rest) next o_left h = h rest o_left.left

bind_any : {A B : Type 0} (m : ℕ) (o : Option A) (next : A → Option (B × List ℕ)) → ((a : A) → Leaves m (next a)) → Leaves m (option_and_then next o)
bind_any m None next h = none_left m
bind_any m (Some a) next h = h a

pub map_rest : {B : Type 0} (n : ℕ) (f : List ℕ → B × List ℕ) (o : Option (List ℕ)) → ((rest : List ℕ) → length (f rest).1 ≤ length rest) → RestLeaves n o → Leaves n (option_map f o)
map_rest n f None same o_left = none_left n
map_rest n f (Some rest) same o_left = let fits : length rest ≤ n = o_left.left in record { left = omega (arith, same rest) }

pub after_byte-left : (byte : ℕ) (text : List ℕ) → RestLeaves (length text) (after_byte byte text)
after_byte-left byte text = if_rest (length text) (first text == byte) (Some (drop 1 text)) None (some_rest _ _ (drop-left 1 text)) (no_rest _)

after_element-left : (closing : ℕ) (text : List ℕ) → RestLeaves (length text) (after_element closing text)
unfolding after_element
after_element-left closing text =
    let start = skip_blank text in
    let start_fits : length start ≤ length text = skip_from-left true false text in
    let past_fits : length (drop 1 start) ≤ length text = omega (arith, drop-left 1 start) in
    if_rest (length text) (first start == comma) (Some (drop 1 start)) (if first start == closing then Some start else None) (some_rest _ _ past_fits)
    (if_rest (length text) (first start == closing) (Some start) None (some_rest _ _ start_fits) (no_rest _))

key_equals-left : (text : List ℕ) → Leaves (length text) (key_equals text)
unfolding key_equals
key_equals-left text =
    bind_left (length text) (length text) (key text) _ (key-left text)
    (λ k fits.
    let next = map_rest (length k.1) (λ (rest : List ℕ). (k.0, skip_ws rest)) (after_byte equals k.1) (λ rest. skip_ws-left rest) (after_byte-left equals k.1) in
    more_left _ _ _ fits next)

module _ (value : List ℕ → Read Data) (value-left : (text : List ℕ) → Leaves (length text) (value text)) where
  keyval-left : (text : List ℕ) → Leaves (length text) (keyval value text)
  keyval-left text =
      bind_left (length text) (length text) (key_equals text) _ (key_equals-left text)
      (λ k fits. map_left _ (λ (p : Data × List ℕ). ((k.0, p.0), p.1)) (value k.1) (λ p. omega arith) (more_left _ _ _ fits (value-left k.1)))

  items-left : (n : ℕ) (found : Items) (text : List ℕ) → Leaves (length text) (items value n found text)
  unfolding items
  items-left zero found text = none_left _
  items-left (suc n) found text =
      let start = skip_blank text in
      let start_fits : length start ≤ length text = skip_from-left true false text in
      let past_fits : length (drop 1 start) ≤ length text = omega (arith, drop-left 1 start) in
      if_left _ _ _ _ (some_left _ _ _ past_fits)
      (
      bind_left (length text) (length text) (value start) _ (more_left _ _ _ start_fits (value-left start))
      (λ v fits.
      bind_rest (length v.1) (length text) (after_element right_bracket v.1) _ (after_element-left right_bracket v.1)
      (λ rest rest_fits. let within : length rest ≤ length text = omega arith in more_left _ _ _ within (items-left n (push_item found v.0) rest)))
      )

  members-left : (n : ℕ) (found : Nodes) (text : List ℕ) → Leaves (length text) (members value n found text)
  unfolding members
  members-left zero found text = none_left _
  members-left (suc n) found text =
      let start = skip_blank text in
      let start_fits : length start ≤ length text = skip_from-left true false text in
      let past_fits : length (drop 1 start) ≤ length text = omega (arith, drop-left 1 start) in
      if_left _ _ _ _ (some_left _ _ _ past_fits)
      (
      bind_left (length text) (length text) (keyval value start) _ (more_left _ _ _ start_fits (keyval-left start))
      (λ e fits.
      bind_any (length text) (put e.0.0 e.0.1 found) _
      (λ more.
      bind_rest (length e.1) (length text) (after_element right_brace e.1) _ (after_element-left right_brace e.1)
      (λ rest rest_fits. let within : length rest ≤ length text = omega arith in more_left _ _ _ within (members-left n more rest))))
      )

atom-left : (text : List ℕ) → Leaves (length text) (atom text)
unfolding atom
atom-left text =
    if_left _ _ _ _ (map_left _ (λ (p : List ℕ × List ℕ). (string p.0, p.1)) (quoted text) (λ p. omega arith) (quoted-left text))
    (map_left _ _ (unquoted text) (λ p. omega arith) (unquoted-left text))

pub val-left : (depth : ℕ) (text : List ℕ) → Leaves (length text) (val depth text)
unfolding val
val-left zero text = atom-left text
val-left (suc depth) text =
    let past = drop-left 1 text in
    if_left _ _ _ _ (map_left _ (λ (p : Items × List ℕ). (array p.0, p.1)) (items (val depth) (length text) no_items (drop 1 text)) (λ p. omega arith) (more_left _ _ _ past (items-left (val depth) (val-left depth) (length text) no_items (drop 1 text))))
    (
    if_left _ _ _ _ (map_left _ _ (members (val depth) (length text) no_nodes (drop 1 text)) (λ p. omega arith) (more_left _ _ _ past (members-left (val depth) (val-left depth) (length text) no_nodes (drop 1 text))))
    (atom-left text)
    )

-- ---- how many items an array has

-- the size of what is read is at most n
pub record Found {A : Type 0} (size : A → ℕ) (n : ℕ) (r : Option (A × List ℕ)) : Type 0 where
  pub small : IfSome r (λ p. size p.0 ≤ n)

pub none_found : {A : Type 0} (size : A → ℕ) (n : ℕ) → Found size n None
none_found size n = record { small = tt }

pub some_found : {A : Type 0} (size : A → ℕ) (n : ℕ) (a : A) (rest : List ℕ) → size a ≤ n → Found size n (Some (a, rest))
some_found size n a rest fits = record { small = fits }

pub if_found : {A : Type 0} (size : A → ℕ) (n : ℕ) (b : Bool) (x y : Option (A × List ℕ)) → Found size n x → Found size n y → Found size n (if b then x else y)
if_found size n true x y in_x in_y = in_x
if_found size n false x y in_x in_y = in_y

pub bind_found : {A B : Type 0} (size : B → ℕ) (n : ℕ) (o : Option A) (next : A → Option (B × List ℕ)) → ((a : A) → Found size n (next a)) → Found size n (option_and_then next o)
bind_found size n None next h = none_found size n
bind_found size n (Some a) next h = h a

pub map_found : {A B : Type 0} (size : B → ℕ) (n : ℕ) (f : A → B) (r : Option (A × List ℕ)) → IfSome r (λ p. size (f p.0) ≤ n) → Found size n (read_map f r)
map_found size n f None small = none_found size n
map_found size n f (Some p) small = record { small = small }

pub item_count-push_item : (found : Items) (d : Data) → item_count (push_item found d) ≡ item_count found + 1
item_count-push_item no_items d = refl
item_count-push_item (item e found) d = rw (item_count-push_item found d)

items-count : (value : List ℕ → Read Data) (n most : ℕ) (found : Items) (text : List ℕ) → item_count found + n ≤ most + 1 → Found item_count most (items value n found text)
unfolding items
items-count value zero most found text room = none_found _ _
items-count value (suc n) most found text room =
    let start = skip_blank text in
    let fits : item_count found ≤ most = omega arith in
    if_found _ _ _ _ _ (some_found item_count most found (drop 1 start) fits)
    (
    bind_found item_count most (value start) _
    (λ v.
    bind_found item_count most (after_element right_bracket v.1) _
    (λ rest.
    let more : item_count (push_item found v.0) + n ≤ most + 1 = omega (arith, item_count-push_item found v.0) in
    items-count value n most (push_item found v.0) rest more))
    )

no_array : {A : Type 0} (f : A → Data) (n : ℕ) → ((a : A) → array_size (f a) ≡ 0) → (r : Option (A × List ℕ)) → Found array_size n (read_map f r)
no_array f n none None = none_found _ _
no_array f n none (Some p) = let none_here : array_size (f p.0) ≡ 0 = none p.0 in record { small = omega arith }

array_size-scalar : (s : Scalar) → array_size (scalar_data s) ≡ 0
array_size-scalar (Boolean b) = refl
array_size-scalar (Integer z) = refl
array_size-scalar (Float x) = refl
array_size-scalar (Datetime t) = refl

atom-count : (most : ℕ) (text : List ℕ) → Found array_size most (atom text)
unfolding atom
atom-count most text =
    if_found _ _ _ _ _ (no_array string most (λ s. refl) (quoted text)) (no_array scalar_data most array_size-scalar (unquoted text))

val-count : (depth most : ℕ) (text : List ℕ) → length text ≤ most + 1 → Found array_size most (val depth text)
unfolding val
val-count zero most text room = atom-count most text
val-count (suc depth) most text room =
    let counted = items-count (val depth) (length text) most no_items (drop 1 text) (omega arith) in
    if_found _ _ _ _ _ (map_found array_size most array (items (val depth) (length text) no_items (drop 1 text)) counted.small)
    (if_found _ _ _ _ _ (no_array table most (λ ms. refl) (members (val depth) (length text) no_nodes (drop 1 text))) (atom-count most text))

keyval-count_after : (depth most n : ℕ) → n ≤ most + 1 → (k : Option (Key × List ℕ)) → Leaves n k
    → Found (λ (e : Key × Data). array_size e.1) most (option_and_then (λ (p : Key × List ℕ). read_map (λ (d : Data). (p.0, d)) (val depth p.1)) k)
keyval-count_after depth most n room None k_left = none_found _ _
keyval-count_after depth most n room (Some p) k_left =
    let fits : length p.1 ≤ n = k_left.left in
    let counted = val-count depth most p.1 (omega arith) in
    map_found (λ (e : Key × Data). array_size e.1) most (λ (d : Data). (p.0, d)) (val depth p.1) counted.small

pub keyval-count : (depth most : ℕ) (text : List ℕ) → length text ≤ most + 1 → Found (λ (e : Key × Data). array_size e.1) most (keyval (val depth) text)
keyval-count depth most text room =
    keyval-count_after depth most (length text) room (key_equals text) (key_equals-left text)

pub keyval-left_of : (depth : ℕ) (text : List ℕ) → Leaves (length text) (keyval (val depth) text)
keyval-left_of depth text = keyval-left (val depth) (val-left depth) text
