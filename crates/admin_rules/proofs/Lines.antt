-- A document has no array with as many items as its text has bytes.
use Rattle.std.proofs.Common.{◌≡◌, ℕ, zero, suc, ◌+◌, ◌<◌, ◌≤◌, Bool, true, false, ◌&&◌, ◌==◌, if◌then◌else◌, List, [], length, length-drop, drop, Option, Some, None, IfSome, option_map, option_and_then, slice_index, refl, arith}
use Rattle.std.proofs.lemmas.Bool.Decides.{nat_tests}
use Rattle.toml_parser.specs.Lexical.{Read, first, skip_ws, skip_blank, left_bracket, right_bracket}
use Rattle.toml_parser.specs.Strings.{Key, key, recursion_limit}
use Rattle.toml_parser.proofs.LexicalLemmas.{within_from_byte}
use Rattle.toml.specs.Data.{Data}
use Rattle.toml.specs.Tables.{no_nodes, close, Definition, key_value, std_table, array_table, Expression, Document, define}
use Rattle.toml.specs.Parse.{read_map, after_byte, keyval, val, header_key, expression, ends_line, line, lines, skip_bom, parse_document}
use Rattle.admin_rules.specs.Sizes.{array_size, HasArraysWithin}
use Rattle.admin_rules.proofs.Rests.{Leaves, bind_left, more_left, drop-left, if_within, skip_ws-left, skip_from-left, key-left}
use Rattle.admin_rules.proofs.Tables.{NodesFit, nodes-less, DefinitionFits, DefineFits, define-fits, close-fits}
use Rattle.admin_rules.proofs.Values.{Found, RestLeaves, map_rest, after_byte-left, keyval-count, keyval-left_of}

-- ---- one line

-- what a line of a text with n bytes defines, where it leaves the text `rest`: values have at most `most` items
abbrev pub DefinesWithin : ℕ → ℕ → Definition → List ℕ → Type 0
DefinesWithin most n (key_value d) rest = (array_size d ≤ most) × (length rest ≤ n)
DefinesWithin most n std_table rest = length rest ≤ n
DefinesWithin most n array_table rest = length rest + 2 ≤ n

record ReadsWithin (most n : ℕ) (r : Read Expression) : Type 0 where
  within : IfSome r (λ p. DefinesWithin most n p.0.1 p.1)

header_key-left : (text : List ℕ) → Leaves (length text) (header_key text)
unfolding header_key
header_key-left text =
    bind_left (length text) (length text) (key (skip_ws text)) _ (more_left _ _ _ (skip_ws-left text) (key-left (skip_ws text)))
    (λ k fits.
    more_left _ _ _ fits (map_rest (length k.1) (λ (rest : List ℕ). (k.0, rest)) (after_byte right_bracket k.1) (λ rest. omega arith) (after_byte-left right_bracket k.1)))

array_table-within : (most n m : ℕ) → m + 2 ≤ n → (k : Option (Key × List ℕ)) → Leaves m k
    → ReadsWithin most n (option_and_then (λ (p : Key × List ℕ). option_map (λ (rest : List ℕ). ((p.0, array_table), rest)) (after_byte right_bracket p.1)) k)
array_table-within most n m room None k_left = record { within = tt }
array_table-within most n m room (Some p) k_left =
    let fits : length p.1 ≤ m = k_left.left in
    let after = after_byte-left right_bracket p.1 in
    closed most n (length p.1) p.0 (after_byte right_bracket p.1) after (omega arith)
  where
    closed : (most n m : ℕ) (k : Key) (o : Option (List ℕ)) → RestLeaves m o → m + 2 ≤ n → ReadsWithin most n (option_map (λ (rest : List ℕ). ((k, array_table), rest)) o)
    closed most n m k None o_left room = record { within = tt }
    closed most n m k (Some rest) o_left room = let fits : length rest ≤ m = o_left.left in record { within = omega arith }

std_table-within : (most n : ℕ) (k : Option (Key × List ℕ)) → Leaves n k → ReadsWithin most n (read_map (λ (k : Key). (k, std_table)) k)
std_table-within most n None k_left = record { within = tt }
std_table-within most n (Some p) k_left = record { within = k_left.left }

key_value-within : (most n : ℕ) (r : Option ((Key × Data) × List ℕ)) → Leaves n r → Found (λ (e : Key × Data). array_size e.1) most r
    → ReadsWithin most n (read_map (λ (p : Key × Data). (p.0, key_value p.1)) r)
key_value-within most n None r_left small = record { within = tt }
key_value-within most n (Some p) r_left small = record { within = (small.small, r_left.left) }

if_reads : (most n : ℕ) (b : Bool) (x y : Read Expression) → (b ≡ true → ReadsWithin most n x) → ReadsWithin most n y → ReadsWithin most n (if b then x else y)
if_reads most n true x y in_x in_y = in_x refl
if_reads most n false x y in_x in_y = in_y

two_bytes : (text : List ℕ) → (first text == left_bracket && slice_index text 1 == left_bracket) ≡ true → length (drop 2 text) + 2 ≤ length text
two_bytes text brackets =
    let second : slice_index text 1 ≡ 91 = grind (arith, nat_tests) in
    let inside : 1 < length text = within_from_byte text 1 (omega arith) in
    omega (arith, length-drop 2 text)

expression-within : (most : ℕ) (text : List ℕ) → length text ≤ most + 1 → ReadsWithin most (length text) (expression text)
unfolding expression
expression-within most text room =
    if_reads most (length text) (first text == left_bracket && slice_index text 1 == left_bracket) _ _
    (λ brackets. array_table-within most (length text) (length (drop 2 text)) (two_bytes text brackets) (header_key (drop 2 text)) (header_key-left (drop 2 text)))
    (
    if_reads most (length text) (first text == left_bracket) _ _
    (λ bracket. std_table-within most (length text) (header_key (drop 1 text)) (more_left _ _ _ (drop-left 1 text) (header_key-left (drop 1 text))))
    (key_value-within most (length text) (keyval (val recursion_limit) text) (keyval-left_of recursion_limit text) (keyval-count recursion_limit most text room))
    )

line-within : (most : ℕ) (text : List ℕ) → length text ≤ most + 1 → ReadsWithin most (length text) (line text)
unfolding line
line-within most text room = ended most (length text) (expression text) (expression-within most text room)
  where
    ended : (most n : ℕ) (r : Read Expression) → ReadsWithin most n r → ReadsWithin most n (option_and_then (λ (e : Expression × List ℕ). if ends_line (skip_ws e.1) then Some e else None) r)
    ended most n None reads = record { within = tt }
    ended most n (Some e) reads = if_reads most n (ends_line (skip_ws e.1)) (Some e) None (λ ends. reads) (record { within = tt })

-- ---- all lines

-- the root of the document fits, with no text left
record DocumentFits (most : ℕ) (o : Option Document) : Type 0 where
  fits : IfSome o (λ doc. NodesFit most 0 doc.0)

if_document : (most : ℕ) (b : Bool) (x y : Option Document) → DocumentFits most x → DocumentFits most y → DocumentFits most (if b then x else y)
if_document most true x y in_x in_y = in_x
if_document most false x y in_x in_y = in_y

-- what a line defines leaves room
definition-fits : (most n : ℕ) (what : Definition) (rest : List ℕ) → n ≤ most + 1 → DefinesWithin most n what rest → (length rest ≤ n) × DefinitionFits most n (length rest) what
definition-fits most n (key_value d) rest room within = (within.1, within.0)
definition-fits most n std_table rest room within = (within, tt)
definition-fits most n array_table rest room within = (omega arith, (omega arith, omega arith))

-- the lines after a line's definition, and after a line
after_definition : (most n : ℕ) (more : Document → Option Document) (o : Option Document) → ((doc : Document) → NodesFit most n doc.0 → DocumentFits most (more doc)) → DefineFits most n o
    → DocumentFits most (option_and_then more o)
after_definition most n more None h defined = record { fits = tt }
after_definition most n more (Some doc) h defined = h doc defined.fits

after_line : (most n : ℕ) (doc : Document) (more : Document → List ℕ → Option Document) (r : Read Expression) → n ≤ most + 1 → NodesFit most n doc.0
    → ((doc : Document) (rest : List ℕ) → length rest ≤ n → NodesFit most (length rest) doc.0 → DocumentFits most (more doc rest)) → ReadsWithin most n r
    → DocumentFits most (option_and_then (λ (e : Expression × List ℕ). option_and_then (λ (next : Document). more next e.1) (define doc e.0)) r)
after_line most n doc more None room fits h reads = record { fits = tt }
after_line most n doc more (Some e) room fits h reads =
    let (less, defines) = definition-fits most n e.0.1 e.1 room reads.within in
    after_definition most (length e.1) (λ (next : Document). more next e.1) (define doc e.0) (λ next next_fits. h next e.1 less next_fits)
    (define-fits most n (length e.1) doc e.0.0 e.0.1 less defines fits)

lines-fit : (most n : ℕ) (doc : Document) (text : List ℕ) → length text ≤ most + 1 → NodesFit most (length text) doc.0 → DocumentFits most (lines n doc text)
unfolding lines
lines-fit most zero doc text room fits = record { fits = tt }
lines-fit most (suc n) doc text room fits =
    let start = skip_blank text in
    let start_fits : length start ≤ length text = skip_from-left true false text in
    let start_room : length start ≤ most + 1 = omega arith in
    if_document most (length start == 0) (Some doc) _ (record { fits = nodes-less most (length text) 0 doc.0 (omega arith) fits })
    (
    after_line most (length start) doc (λ (next : Document) (rest : List ℕ). lines n next rest) (line start) start_room (nodes-less most (length text) (length start) doc.0 start_fits fits)
    (λ next rest less next_fits. lines-fit most n next rest (omega arith) next_fits) (line-within most start start_room)
    )

skip_bom-left : (text : List ℕ) → length (skip_bom text) ≤ length text
unfolding skip_bom
skip_bom-left text = if_within (length text) _ (drop 3 text) text (drop-left 3 text) (omega arith)

-- no array right in the document of a text has as many items as the text has bytes
pub parse_document-small : (most : ℕ) (text : List ℕ) → length text ≤ most + 1 → IfSome (parse_document text) (HasArraysWithin most)
unfolding parse_document
parse_document-small most text room =
    closed (lines (suc (length text)) (no_nodes, []) (skip_bom text))
    (lines-fit most (suc (length text)) (no_nodes, []) (skip_bom text) (omega (arith, skip_bom-left text)) tt)
  where
    closed : (o : Option Document) → DocumentFits most o → IfSome (option_map (λ (doc : Document). close doc.0) o) (HasArraysWithin most)
    closed None whole = tt
    closed (Some doc) whole = close-fits most doc.0 whole.fits
