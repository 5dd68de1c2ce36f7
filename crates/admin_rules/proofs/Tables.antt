-- What the rules for tables leave of the bounds on a document's arrays.
use Rattle.std.proofs.Common.{ℕ, ◌+◌, ◌≤◌, Bool, true, false, if◌then◌else◌, List, [], ◌∷◌, Option, Some, None, IfSome, option_map, Ordering, Less, Equal, Greater, nat_cmp, arith}
use Rattle.std.specs.Cmp.Lexicographic.{slice_cmp}
use Rattle.std.specs.Ordering.{match_ordering}
use Rattle.toml_parser.specs.Strings.{Key}
use Rattle.toml.specs.Data.{table, Items, same_key}
use Rattle.toml.specs.Tables.{Origin, implicit, dotted, header, Node, value, open_table, open_array, Nodes, no_nodes, node, get_node, insert, replace, close, close_node, Edit, header_node, dot_node, by_header, by_dot, along_header, along_dots, Definition, key_value, std_table, array_table, new_node, redefine, at_found, at_key, put, Document, define_as, define}
use Rattle.admin_rules.specs.Sizes.{item_count, array_size, HasArraysWithin}
use Rattle.admin_rules.proofs.Values.{item_count-push_item}

-- A value has at most `most` items. An open array has as many and one, and with the bytes of text that are left no more.
abbrev pub NodeFits : ℕ → ℕ → Node → Type 0
NodeFits most bytes (value d) = array_size d ≤ most
NodeFits most bytes (open_table origin inner) = Unit {0}
NodeFits most bytes (open_array done last) = item_count done + 1 + bytes ≤ most

abbrev pub NodesFit : ℕ → ℕ → Nodes → Type 0
NodesFit most bytes no_nodes = Unit {0}
NodesFit most bytes (node k x ns) = NodeFits most bytes x × NodesFit most bytes ns

-- the nodes that an edit gives fit
pub record EditFits (most bytes : ℕ) (o : Option Nodes) : Type 0 where
  pub fits : IfSome o (NodesFit most bytes)

node-less : (most bytes fewer : ℕ) (x : Node) → fewer ≤ bytes → NodeFits most bytes x → NodeFits most fewer x
node-less most bytes fewer (value d) less fits = fits
node-less most bytes fewer (open_table origin inner) less fits = tt
node-less most bytes fewer (open_array done last) less fits = omega arith

pub nodes-less : (most bytes fewer : ℕ) (ns : Nodes) → fewer ≤ bytes → NodesFit most bytes ns → NodesFit most fewer ns
nodes-less most bytes fewer no_nodes less fits = tt
nodes-less most bytes fewer (node k x ns) less fits = (node-less most bytes fewer x less fits.0, nodes-less most bytes fewer ns less fits.1)

by_order : (most bytes : ℕ) (o : Ordering) (a b c : Nodes) → NodesFit most bytes a → NodesFit most bytes b → NodesFit most bytes c → NodesFit most bytes (match_ordering o a b c)
by_order most bytes Less a b c in_a in_b in_c = in_a
by_order most bytes Equal a b c in_a in_b in_c = in_b
by_order most bytes Greater a b c in_a in_b in_c = in_c

insert-fits : (most bytes : ℕ) (k : List ℕ) (x : Node) (ns : Nodes) → NodeFits most bytes x → NodesFit most bytes ns → NodesFit most bytes (insert k x ns)
insert-fits most bytes k x no_nodes here fits = (here, tt)
insert-fits most bytes k x (node l y ns) here fits =
    by_order most bytes (slice_cmp nat_cmp k l) (node k x (node l y ns)) (node l x ns) (node l y (insert k x ns)) (here, fits) (here, fits.1)
    (fits.0, insert-fits most bytes k x ns here fits.1)

by_test : (most bytes : ℕ) (b : Bool) (x y : Nodes) → NodesFit most bytes x → NodesFit most bytes y → NodesFit most bytes (if b then x else y)
by_test most bytes true x y in_x in_y = in_x
by_test most bytes false x y in_x in_y = in_y

replace-fits : (most bytes : ℕ) (k : List ℕ) (x : Node) (ns : Nodes) → NodeFits most bytes x → NodesFit most bytes ns → NodesFit most bytes (replace k x ns)
replace-fits most bytes k x no_nodes here fits = tt
replace-fits most bytes k x (node l y ns) here fits =
    by_test most bytes (same_key k l) (node l x ns) (node l y (replace k x ns)) (here, fits.1) (fits.0, replace-fits most bytes k x ns here fits.1)

found_or : (most bytes : ℕ) (b : Bool) (x : Node) (rest : Option Node) → NodeFits most bytes x → IfSome rest (NodeFits most bytes) → IfSome (if b then Some x else rest) (NodeFits most bytes)
found_or most bytes true x rest in_x in_rest = in_x
found_or most bytes false x rest in_x in_rest = in_rest

get_node-fits : (most bytes : ℕ) (k : List ℕ) (ns : Nodes) → NodesFit most bytes ns → IfSome (get_node k ns) (NodeFits most bytes)
get_node-fits most bytes k no_nodes fits = tt
get_node-fits most bytes k (node l x ns) fits = found_or most bytes (same_key k l) x (get_node k ns) fits.0 (get_node-fits most bytes k ns fits.1)

inserted-fits : (most bytes : ℕ) (k : List ℕ) (origin : Origin) (ns : Nodes) (o : Option Nodes) → NodesFit most bytes ns → EditFits most bytes (option_map (λ new. insert k (open_table origin new) ns) o)
inserted-fits most bytes k origin ns None fits = record { fits = tt }
inserted-fits most bytes k origin ns (Some new) fits = record { fits = insert-fits most bytes k (open_table origin new) ns tt fits }

replaced-fits : (most bytes : ℕ) (k : List ℕ) (ns : Nodes) (o : Option Node) → IfSome o (NodeFits most bytes) → NodesFit most bytes ns → EditFits most bytes (option_map (λ new. replace k new ns) o)
replaced-fits most bytes k ns None here fits = record { fits = tt }
replaced-fits most bytes k ns (Some x) here fits = record { fits = replace-fits most bytes k x ns here fits }

inner_table : (most bytes : ℕ) (origin : Origin) (o : Option Nodes) → IfSome (option_map (open_table origin) o) (NodeFits most bytes)
inner_table most bytes origin None = tt
inner_table most bytes origin (Some inner) = tt

inner_array : (most bytes : ℕ) (done : Items) (o : Option Nodes) → item_count done + 1 + bytes ≤ most → IfSome (option_map (open_array done) o) (NodeFits most bytes)
inner_array most bytes done None room = tt
inner_array most bytes done (Some last) room = room

header_node-fits : (most bytes : ℕ) (edit : Edit) (x : Node) → NodeFits most bytes x → IfSome (header_node edit x) (NodeFits most bytes)
header_node-fits most bytes edit (value d) fits = tt
header_node-fits most bytes edit (open_table origin inner) fits = inner_table most bytes origin (edit inner)
header_node-fits most bytes edit (open_array done last) fits = inner_array most bytes done (edit last) fits

dot_node-fits : (most bytes : ℕ) (edit : Edit) (x : Node) → IfSome (dot_node edit x) (NodeFits most bytes)
dot_node-fits most bytes edit (value d) = tt
dot_node-fits most bytes edit (open_table header inner) = tt
dot_node-fits most bytes edit (open_table implicit inner) = inner_table most bytes dotted (edit inner)
dot_node-fits most bytes edit (open_table dotted inner) = inner_table most bytes dotted (edit inner)
dot_node-fits most bytes edit (open_array done last) = tt

by_header-fits : (most bytes : ℕ) (k : List ℕ) (edit : Edit) (ns : Nodes) (o : Option Node) → IfSome o (NodeFits most bytes) → NodesFit most bytes ns → EditFits most bytes (by_header k edit ns o)
by_header-fits most bytes k edit ns None here fits = inserted-fits most bytes k implicit ns (edit no_nodes) fits
by_header-fits most bytes k edit ns (Some x) here fits = replaced-fits most bytes k ns (header_node edit x) (header_node-fits most bytes edit x here) fits

by_dot-fits : (most bytes : ℕ) (k : List ℕ) (edit : Edit) (ns : Nodes) (o : Option Node) → NodesFit most bytes ns → EditFits most bytes (by_dot k edit ns o)
by_dot-fits most bytes k edit ns None fits = inserted-fits most bytes k dotted ns (edit no_nodes) fits
by_dot-fits most bytes k edit ns (Some x) fits = replaced-fits most bytes k ns (dot_node edit x) (dot_node-fits most bytes edit x) fits

-- an edit at the root keeps the bounds, where the edit at the end of an empty path does
pub along_header-fits : (most bytes : ℕ) (path : List (List ℕ)) (edit : Edit) (ns : Nodes) → EditFits most bytes (edit ns) → NodesFit most bytes ns → EditFits most bytes (along_header path edit ns)
unfolding along_header
along_header-fits most bytes [] edit ns here fits = here
along_header-fits most bytes (k ∷ path) edit ns here fits =
    by_header-fits most bytes k (along_header path edit) ns (get_node k ns) (get_node-fits most bytes k ns fits) fits

pub along_dots-fits : (most bytes : ℕ) (path : List (List ℕ)) (edit : Edit) (ns : Nodes) → EditFits most bytes (edit ns) → NodesFit most bytes ns → EditFits most bytes (along_dots path edit ns)
unfolding along_dots
along_dots-fits most bytes [] edit ns here fits = here
along_dots-fits most bytes (k ∷ path) edit ns here fits = by_dot-fits most bytes k (along_dots path edit) ns (get_node k ns) fits

-- ---- what stands at the last part of a key

-- what is defined fits, where the text had two bytes more before an array's header
abbrev pub DefinitionFits : ℕ → ℕ → ℕ → Definition → Type 0
DefinitionFits most before bytes (key_value d) = array_size d ≤ most
DefinitionFits most before bytes std_table = Unit {0}
DefinitionFits most before bytes array_table = (bytes + 1 ≤ before) × (bytes + 1 ≤ most)

new_node-fits : (most before bytes : ℕ) (what : Definition) → DefinitionFits most before bytes what → NodeFits most bytes (new_node what)
new_node-fits most before bytes (key_value d) fits = fits
new_node-fits most before bytes std_table fits = tt
new_node-fits most before bytes array_table fits = omega (arith, fits.1)

redefine-fits : (most before bytes : ℕ) (what : Definition) (x : Node) → DefinitionFits most before bytes what → NodeFits most before x → IfSome (redefine what x) (NodeFits most bytes)
redefine-fits most before bytes (key_value d) (value e) fits here = tt
redefine-fits most before bytes (key_value d) (open_table origin inner) fits here = tt
redefine-fits most before bytes (key_value d) (open_array done last) fits here = tt
redefine-fits most before bytes std_table (value e) fits here = tt
redefine-fits most before bytes std_table (open_table implicit inner) fits here = tt
redefine-fits most before bytes std_table (open_table dotted inner) fits here = tt
redefine-fits most before bytes std_table (open_table header inner) fits here = tt
redefine-fits most before bytes std_table (open_array done last) fits here = tt
redefine-fits most before bytes array_table (value e) fits here = tt
redefine-fits most before bytes array_table (open_table origin inner) fits here = tt
redefine-fits most before bytes array_table (open_array done last) fits here =
    let room : bytes + 1 ≤ before = fits.0 in
    omega (arith, item_count-push_item done (table (close last)))

at_found-fits : (most before bytes : ℕ) (k : List ℕ) (what : Definition) (ns : Nodes) (o : Option Node) → DefinitionFits most before bytes what → IfSome o (NodeFits most before) → NodesFit most bytes ns
    → EditFits most bytes (at_found k what ns o)
at_found-fits most before bytes k what ns None fits here all = record { fits = insert-fits most bytes k (new_node what) ns (new_node-fits most before bytes what fits) all }
at_found-fits most before bytes k what ns (Some x) fits here all = replaced-fits most bytes k ns (redefine what x) (redefine-fits most before bytes what x fits here) all

pub at_key-fits : (most before bytes : ℕ) (k : List ℕ) (what : Definition) (ns : Nodes) → bytes ≤ before → DefinitionFits most before bytes what → NodesFit most before ns → EditFits most bytes (at_key k what ns)
unfolding at_key
at_key-fits most before bytes k what ns less fits all =
    at_found-fits most before bytes k what ns (get_node k ns) fits (get_node-fits most before k ns all) (nodes-less most before bytes ns less all)

-- ---- a definition of a document

-- the root of the document that a definition gives fits
pub record DefineFits (most bytes : ℕ) (o : Option Document) : Type 0 where
  pub fits : IfSome o (λ doc. NodesFit most bytes doc.0)

with_path : (most bytes : ℕ) (path : List (List ℕ)) (o : Option Nodes) → EditFits most bytes o → DefineFits most bytes (option_map (λ (root : Nodes). (root, path)) o)
with_path most bytes path None edit = record { fits = tt }
with_path most bytes path (Some root) edit = record { fits = edit.fits }

define_as-fits : (most before bytes : ℕ) (doc : Document) (key : Key) (what : Definition) → bytes ≤ before → DefinitionFits most before bytes what → NodesFit most before doc.0 → DefineFits most bytes (define_as doc key what)
define_as-fits most before bytes doc key (key_value d) less fits all =
    let fewer = nodes-less most before bytes doc.0 less all in
    let here = at_key-fits most before bytes key.1 (key_value d) doc.0 less fits all in
    with_path most bytes doc.1 (along_header doc.1 (put key d) doc.0)
    (along_header-fits most bytes doc.1 (put key d) doc.0 (along_dots-fits most bytes key.0 (at_key key.1 (key_value d)) doc.0 here fewer) fewer)
define_as-fits most before bytes doc key std_table less fits all =
    let here = at_key-fits most before bytes key.1 std_table doc.0 less fits all in
    with_path most bytes _ (along_header key.0 (at_key key.1 std_table) doc.0)
    (along_header-fits most bytes key.0 (at_key key.1 std_table) doc.0 here (nodes-less most before bytes doc.0 less all))
define_as-fits most before bytes doc key array_table less fits all =
    let here = at_key-fits most before bytes key.1 array_table doc.0 less fits all in
    with_path most bytes _ (along_header key.0 (at_key key.1 array_table) doc.0)
    (along_header-fits most bytes key.0 (at_key key.1 array_table) doc.0 here (nodes-less most before bytes doc.0 less all))

pub define-fits : (most before bytes : ℕ) (doc : Document) (key : Key) (what : Definition) → bytes ≤ before → DefinitionFits most before bytes what → NodesFit most before doc.0 → DefineFits most bytes (define doc (key, what))
unfolding define
define-fits most before bytes doc key what less fits all = define_as-fits most before bytes doc key what less fits all

-- ---- the finished document

close_node-fits : (most : ℕ) (x : Node) → NodeFits most 0 x → array_size (close_node x) ≤ most
close_node-fits most (value d) fits = fits
close_node-fits most (open_table origin inner) fits = omega arith
close_node-fits most (open_array done last) fits = omega (arith, item_count-push_item done (table (close last)))

pub close-fits : (most : ℕ) (ns : Nodes) → NodesFit most 0 ns → HasArraysWithin most (close ns)
close-fits most no_nodes fits = tt
close-fits most (node k x ns) fits = (close_node-fits most x fits.0, close-fits most ns fits.1)
