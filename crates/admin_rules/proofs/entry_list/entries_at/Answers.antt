-- The entries at a key are those of the document, and they are few.
use Rattle.std.proofs.Common.{◌≡◌, ℕ, ◌≤◌, ◌∷◌, [], List, length, refl, ap, map, Option, Some, None, IfSome, option_map, Ordering, Less, Equal, Greater, nat_cmp, arith}
use Rattle.std.proofs.lemmas.List.{length-map}
use Rattle.std.specs.Cmp.Lexicographic.{slice_cmp}
use Rattle.std.specs.Ordering.{match_ordering}
use Rattle.toml.specs.Data.{Data, string, integer, float, boolean, datetime, array, table, Items, no_items, item, Members, no_members, member, as_array, get_member}
use Rattle.toml.specs.View.{view, items_of, table_view}
use Rattle.admin_rules.specs.RuleFile.{listed, entries_of}
use Rattle.admin_rules.specs.Sizes.{item_count, array_size, HasArraysWithin}
use Rattle.admin_rules.proofs.entry_list.entries_at.Goals as goal

listed-items_of : (entries : List Data) → listed (items_of entries) ≡ entries
listed-items_of [] = refl
listed-items_of (entry ∷ entries) = ap (λ rest. entry ∷ rest) (listed-items_of entries)

length-listed : (items : Items) → length (listed items) ≡ item_count items
length-listed no_items = refl
length-listed (item value rest) = omega (arith, length-listed rest)

by_order : (most : ℕ) (o : Ordering) (a b c : Option Data) → IfSome a (λ d. array_size d ≤ most) → IfSome b (λ d. array_size d ≤ most) → IfSome c (λ d. array_size d ≤ most)
    → IfSome (match_ordering o a b c) (λ d. array_size d ≤ most)
by_order most Less a b c in_a in_b in_c = in_a
by_order most Equal a b c in_a in_b in_c = in_b
by_order most Greater a b c in_a in_b in_c = in_c

get_member-small : (most : ℕ) (key : List ℕ) (table : Members) → HasArraysWithin most table → IfSome (get_member key table) (λ d. array_size d ≤ most)
get_member-small most key no_members small = tt
get_member-small most key (member k value rest) small =
    let later = get_member-small most key rest small.1 in
    by_order most (slice_cmp nat_cmp key k) (get_member key rest) (Some value) (get_member key rest) later small.0 later

array-small : (most : ℕ) (d : Data) → array_size d ≤ most → IfSome (option_map listed (as_array d)) (λ entries. length entries ≤ most)
array-small most (array items) small = omega (arith, length-listed items)
array-small most (string s) small = tt
array-small most (integer z) small = tt
array-small most (float x) small = tt
array-small most (boolean b) small = tt
array-small most (datetime t) small = tt
array-small most (table ms) small = tt

entries_of-small : (most : ℕ) (found : Option Data) → IfSome found (λ d. array_size d ≤ most) → IfSome (entries_of found) (λ entries. length entries ≤ most)
entries_of-small most None small = omega arith
entries_of-small most (Some d) small = array-small most d small

pub returns-in-Some-as_array-clause-entries : goal.returns-in-Some-as_array-clause-entries
returns-in-Some-as_array-clause-entries c =
    let found : Some (view c.in-Some.value.now) ≡ get_member c.args.key.now (table_view c.args.root.now) = c.in-Some.ensures in
    let held : Some (items_of (map view c.in-Some-as_array.array.now.items)) ≡ as_array (view c.in-Some.value.now) = c.in-Some-as_array.ensures in
    rw (← found, ← held, listed-items_of, c.as_slice.ensures.value)

pub returns-in-Some-as_array-clause-small : goal.returns-in-Some-as_array-clause-small
returns-in-Some-as_array-clause-small c =
    let found : Some (view c.in-Some.value.now) ≡ get_member c.args.key.now (table_view c.args.root.now) = c.in-Some.ensures in
    let held : Some (items_of (map view c.in-Some-as_array.array.now.items)) ≡ as_array (view c.in-Some.value.now) = c.in-Some-as_array.ensures in
    let small = entries_of-small 65535 _ (get_member-small 65535 c.args.key.now (table_view c.args.root.now) c.requires) in
    let listed_small : length (map view c.in-Some-as_array.array.now.items) ≤ 65535 = rw (← found, ← held, listed-items_of) at small in
    rw c.as_slice.ensures.value (omega (arith, length-map c.in-Some-as_array.array.now.items view))
