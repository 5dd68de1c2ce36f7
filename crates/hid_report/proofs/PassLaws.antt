-- What each item does to the pass agrees with what the definitions say of the items so far.
use Rattle.std.proofs.Common.{◌≡◌, ℕ, zero, suc, ◌+◌, ◌-◌, ◌*◌, ◌<◌, ◌≢◌, Bool, true, false, ◌&&◌, not, cond, List, [], ◌∷◌, ◌++◌, length, get_or, slice_index, slice_set, Some, None, Result, Ok, refl, sym, ap, ◌∙◌, arith, nat_eq, nat_lt, subst, length-set, replicate, length-append, get_or-set_same, get_or-set_other, ⊎_elim}
use Rattle.std.proofs.lemmas.List.{ext_get_or}
use Rattle.std.proofs.lemmas.Bool.{eq-eqb}
use Rattle.std.proofs.lemmas.Bool.Decides.{eqb_tells}
use Rattle.hid_report.specs.declared.item.Item.{Item}
use Rattle.hid_report.specs.declared.item.Item.TheVariants as item
use Rattle.hid_report.specs.declared.item.Flags.{Flags}
use Rattle.hid_report.specs.declared.item.Datum.{Datum}
use Rattle.hid_report.specs.declared.item.Global.{Global}
use Rattle.hid_report.specs.declared.item.Global.TheVariants.{UsagePage, LogicalMinimum, LogicalMaximum, ReportSize, ReportId, ReportCount}
use Rattle.hid_report.specs.declared.globals.Globals.{Globals}
use Rattle.hid_report.specs.declared.usage.UsageRange.{UsageRange}
use Rattle.hid_report.specs.declared.field.Field.{Field}
use Rattle.hid_report.specs.declared.pass.Pass.{Pass}
use Rattle.hid_report.specs.declared.fault.LayoutWhy.{LayoutWhy}
use Rattle.hid_report.specs.declared.fault.LayoutWhy.TheVariants as why
use Rattle.hid_report.specs.Globals.{no_globals, globals, globals_at, open_pushes, open_collections}
use Rattle.hid_report.specs.Usages.{usages, waiting_minimum, range_to}
use Rattle.hid_report.specs.Bits.{report_bits, is_numbered}
use Rattle.hid_report.specs.Fields.{fields, field_of}
use Rattle.hid_report.specs.Faults.{fault_of}
use Rattle.hid_report.specs.State.{state, saved_globals, table, verdict, input_fault, with_input, without_locals, global_fault, after_global, maximum_fault, next_field}

-- the saved values stay where an item changes nothing below the present level
pub saved_globals-kept : (item : Item) (past : List Item) → ((k : ℕ) → globals_at (suc k) (item ∷ past) ≡ globals_at (suc k) past)
    → (n k : ℕ) → saved_globals k n (item ∷ past) ≡ saved_globals k n past
unfolding saved_globals
saved_globals-kept item past same zero k = refl
saved_globals-kept item past same (suc n) k =
    rw (saved_globals-kept item past same n (suc k), same k) refl

saved_globals-push : (past : List Item) (n k : ℕ) → saved_globals (suc k) n (item.Push ∷ past) ≡ saved_globals k n past
unfolding saved_globals globals_at
saved_globals-push past zero k = refl
saved_globals-push past (suc n) k = rw (saved_globals-push past n (suc k)) refl

saved_globals-pop : (past : List Item) (n k : ℕ) → saved_globals k n (item.Pop ∷ past) ≡ saved_globals (suc k) n past
unfolding saved_globals globals_at
saved_globals-pop past zero k = refl
saved_globals-pop past (suc n) k = rw (saved_globals-pop past n (suc k)) refl

-- a table's entries
pub table-at : {A : Type 0} (n : ℕ) (f : ℕ → A) (i : ℕ) (d : A) → i < n → get_or (table n f) i d ≡ f i
unfolding table
table-at zero f i d h = absurd (omega arith)
table-at (suc n) f zero d h = refl
table-at (suc n) f (suc i) d h = table-at n (λ k. f (suc k)) i d (omega arith)

pub length-table : {A : Type 0} (n : ℕ) (f : ℕ → A) → length (table n f) ≡ n
unfolding table
length-table zero f = refl
length-table (suc n) f = ap suc (length-table n (λ k. f (suc k)))

-- one entry of a table that has changed
pub table-set : {A : Type 0} (n : ℕ) (f g : ℕ → A) (i : ℕ) (x : A) → i < n → g i ≡ x → ((k : ℕ) → k ≢ i → g k ≡ f k) → table n g ≡ slice_set (table n f) i x
table-set n f g i x h at others =
    ext_get_or x (table n g) (slice_set (table n f) i x) (length-table n g ∙ sym (length-set (table n f) i x ∙ length-table n f)) same
  where
    same : (k : ℕ) → k < length (table n g) → get_or (table n g) k x ≡ get_or (slice_set (table n f) i x) k x
    same k below = ⊎_elim here other (eqb_tells k i)
      where
        in_range : k < n
        in_range = subst (λ m. k < m) (length-table n g) below

        here : (nat_eq k i ≡ true) × (k ≡ i) → get_or (table n g) k x ≡ get_or (slice_set (table n f) i x) k x
        here e = let lt : i < length (table n f) = subst (λ m. i < m) (sym (length-table n f)) h in
            rw e.1 (table-at n g i x h ∙ at ∙ sym (get_or-set_same (table n f) i x x lt))

        other : (nat_eq k i ≡ false) × (k ≢ i) → get_or (table n g) k x ≡ get_or (slice_set (table n f) i x) k x
        other e = table-at n g k x in_range ∙ others k e.1 ∙ sym (table-at n f k x in_range) ∙ sym (get_or-set_other (table n f) i k x x e.1)

-- each item in turn: what it is refused for, and the pass after it

pub other_main-fault : (past : List Item) → verdict (fault_of past item.OtherMain) ≡ Ok tt
unfolding fault_of
other_main-fault past = refl

pub other_main-step : (past : List Item) → without_locals (state past) ≡ state (item.OtherMain ∷ past)
unfolding state globals_at open_collections open_pushes usages waiting_minimum fields report_bits is_numbered
other_main-step past = rw (saved_globals-kept item.OtherMain past (λ k. refl)) refl

pub other-fault : (past : List Item) → verdict (fault_of past item.Other) ≡ Ok tt
unfolding fault_of
other-fault past = refl

pub other-step : (past : List Item) → state past ≡ state (item.Other ∷ past)
unfolding state globals_at open_collections open_pushes usages waiting_minimum fields report_bits is_numbered
other-step past = rw (saved_globals-kept item.Other past (λ k. refl)) refl

pub collection-fault : (past : List Item) → verdict (cond (nat_lt 16 ((state past).depth + 1)) (Some why.Depth) None) ≡ verdict (fault_of past item.Collection)
unfolding fault_of state
collection-fault past = refl

pub collection-step : (past : List Item) → without_locals (record (state past) { depth = (state past).depth + 1 }) ≡ state (item.Collection ∷ past)
unfolding state globals_at open_collections open_pushes usages waiting_minimum fields report_bits is_numbered
collection-step past = rw (saved_globals-kept item.Collection past (λ k. refl)) refl

pub end_collection-fault : (past : List Item) → verdict (cond (nat_eq (state past).depth 0) (Some why.Unbalanced) None) ≡ verdict (fault_of past item.EndCollection)
unfolding fault_of state
end_collection-fault past = refl

pub end_collection-step : (past : List Item) → without_locals (record (state past) { depth = (state past).depth - 1 }) ≡ state (item.EndCollection ∷ past)
unfolding state globals_at open_collections open_pushes usages waiting_minimum fields report_bits is_numbered
end_collection-step past = rw (saved_globals-kept item.EndCollection past (λ k. refl)) refl

pub length-saved : (past : List Item) (n k : ℕ) → length (saved_globals k n past) ≡ n
unfolding saved_globals
length-saved past zero k = refl
length-saved past (suc n) k = simp (length-append, length-saved past n (suc k)) (omega arith)

pub push-fault : (past : List Item) → verdict (cond (nat_lt 4 (length (state past).saved.items + 1)) (Some why.Pushes) None) ≡ verdict (fault_of past item.Push)
unfolding fault_of state
push-fault past = rw (length-saved past (open_pushes past) 0) refl

pub push-step : (past : List Item) → record (state past) { saved = record { items = (state past).saved.items ++ (state past).current ∷ [] } } ≡ state (item.Push ∷ past)
unfolding state globals_at open_collections open_pushes usages waiting_minimum fields report_bits is_numbered saved_globals
push-step past = rw (saved_globals-push past (open_pushes past) 0) refl

pub pop-fault : (past : List Item) → verdict (cond (nat_eq (length (state past).saved.items) 0) (Some why.Unbalanced) None) ≡ verdict (fault_of past item.Pop)
unfolding fault_of state
pop-fault past = rw (length-saved past (open_pushes past) 0) refl

pub usage-fault : (past : List Item) (datum : Datum) → verdict (cond (nat_lt 32 (length (state past).usages.items + 1)) (Some why.Usages) None) ≡ verdict (fault_of past (item.Usage datum))
unfolding fault_of state
usage-fault past datum = refl

pub usage-step : (past : List Item) (datum : Datum) → record (state past) { usages = record { items = (state past).usages.items ++ record { low = datum; high = datum } ∷ [] } } ≡ state (item.Usage datum ∷ past)
unfolding state globals_at open_collections open_pushes usages waiting_minimum fields report_bits is_numbered
usage-step past datum = rw (saved_globals-kept (item.Usage datum) past (λ k. refl)) refl

pub minimum-fault : (past : List Item) (datum : Datum) → verdict (fault_of past (item.UsageMinimum datum)) ≡ Ok tt
unfolding fault_of
minimum-fault past datum = refl

pub minimum-step : (past : List Item) (datum : Datum) → record (state past) { minimum = Some datum } ≡ state (item.UsageMinimum datum ∷ past)
unfolding state globals_at open_collections open_pushes usages waiting_minimum fields report_bits is_numbered
minimum-step past datum = rw (saved_globals-kept (item.UsageMinimum datum) past (λ k. refl)) refl

pub maximum-fault : (past : List Item) (datum : Datum) → verdict (maximum_fault datum (state past)) ≡ verdict (fault_of past (item.UsageMaximum datum))
unfolding fault_of state
maximum-fault past datum = refl

pub maximum-step : (past : List Item) (datum : Datum)
    → record (state past) { usages = record { items = (state past).usages.items ++ range_to (state past).current.page (state past).minimum datum }; minimum = None } ≡ state (item.UsageMaximum datum ∷ past)
unfolding state globals_at open_collections open_pushes usages waiting_minimum fields report_bits is_numbered
maximum-step past datum = rw (saved_globals-kept (item.UsageMaximum datum) past (λ k. refl)) refl

pub global-fault : (past : List Item) (tag : Global) (datum : Datum) → verdict (global_fault tag datum (state past)) ≡ verdict (fault_of past (item.Global tag datum))
unfolding fault_of state report_bits is_numbered
global-fault past UsagePage datum = refl
global-fault past LogicalMinimum datum = refl
global-fault past LogicalMaximum datum = refl
global-fault past ReportSize datum = refl
global-fault past ReportCount datum = refl
global-fault past ReportId datum = rw (table-at 256 (λ id. report_bits id past) 0 0 (omega arith)) refl

pub global-step : (past : List Item) (tag : Global) (datum : Datum) → after_global tag datum (state past) ≡ state (item.Global tag datum ∷ past)
unfolding state globals_at open_collections open_pushes usages waiting_minimum fields report_bits is_numbered
global-step past UsagePage datum = rw (saved_globals-kept (item.Global UsagePage datum) past (λ k. refl)) refl
global-step past LogicalMinimum datum = rw (saved_globals-kept (item.Global LogicalMinimum datum) past (λ k. refl)) refl
global-step past LogicalMaximum datum = rw (saved_globals-kept (item.Global LogicalMaximum datum) past (λ k. refl)) refl
global-step past ReportSize datum = rw (saved_globals-kept (item.Global ReportSize datum) past (λ k. refl)) refl
global-step past ReportCount datum = rw (saved_globals-kept (item.Global ReportCount datum) past (λ k. refl)) refl
global-step past ReportId datum = rw (saved_globals-kept (item.Global ReportId datum) past (λ k. refl)) refl

-- the place of an element at the end of a list
snoc-init : {A : Type 0} (xs ys : List A) (x y : A) → xs ++ x ∷ [] ≡ ys ++ y ∷ [] → (xs ≡ ys) × (x ≡ y)
snoc-init [] [] x y e = (refl, cc)
snoc-init [] (b ∷ ys) x y e = absurd (omega (arith, length-append ys (y ∷ []), ap length e))
snoc-init (a ∷ xs) [] x y e = absurd (omega (arith, length-append xs (x ∷ []), ap length e))
snoc-init (a ∷ xs) (b ∷ ys) x y e =
    let tails : xs ++ x ∷ [] ≡ ys ++ y ∷ [] = cc in
    let heads : a ≡ b = cc in
    let rest = snoc-init xs ys x y tails in
    (cc (heads, rest.0), rest.1)

pop-parts : (past : List Item) (n : ℕ) (xs : List Globals) (x : Globals) → saved_globals 0 n past ≡ xs ++ x ∷ []
    → (xs ≡ saved_globals 0 (n - 1) (item.Pop ∷ past)) × (x ≡ globals_at 1 past)
unfolding saved_globals
pop-parts past zero xs x e = absurd (omega (arith, length-append xs (x ∷ []), ap length e))
pop-parts past (suc n) xs x e =
    let parts = snoc-init (saved_globals 1 n past) xs (globals_at 1 past) x e in
    let less : suc n - 1 ≡ n = omega arith in
    (rw less (sym parts.0 ∙ sym (saved_globals-pop past n 0)), sym parts.1)

pub pop-step : (past : List Item) (saved : List Globals) (current : Globals) → (state past).saved.items ≡ saved ++ current ∷ []
    → record (state past) { saved = record { items = saved }; current = current } ≡ state (item.Pop ∷ past)
unfolding state globals_at open_collections open_pushes usages waiting_minimum fields report_bits is_numbered
pop-step past saved current e =
    let parts = pop-parts past (open_pushes past) saved current e in
    rw (parts.0, parts.1) refl

-- what an Input item is refused for, by the tests in the order of the code and in the order of the faults
abbrev by_code : Bool → Bool → Bool → Bool → Bool → Result (Unit {0}) LayoutWhy
by_code constant zero_size full wide long =
    verdict (elim (cond constant None (cond zero_size (Some why.ZeroSize) (cond full (Some why.Fields) (cond wide (Some why.Wide) None)))) [
      | Some cause ↦ Some cause
      | None ↦ cond long (Some why.Long) None
    ])

abbrev by_rank : Bool → Bool → Bool → Bool → Bool → Result (Unit {0}) LayoutWhy
by_rank constant zero_size full wide long =
    verdict (cond (not constant && zero_size) (Some why.ZeroSize) (cond (not constant && full) (Some why.Fields) (cond (not constant && wide) (Some why.Wide) (cond long (Some why.Long) None))))

same_order : (constant zero_size full wide long : Bool) → by_code constant zero_size full wide long ≡ by_rank constant zero_size full wide long
same_order true zero_size full wide long = refl
same_order false true full wide long = refl
same_order false false true wide long = refl
same_order false false false true long = refl
same_order false false false false long = refl

pub input-fault : (past : List Item) (flags : Flags) → (globals past).id < 256 → verdict (input_fault flags (state past)) ≡ verdict (fault_of past (item.Input flags))
unfolding fault_of state report_bits is_numbered
input-fault past flags h =
    let own = (globals past).id in
    let before = report_bits own past in
    let added = (globals past).size * (globals past).count in
    let zero_size = nat_eq (globals past).size 0 && nat_lt 0 (globals past).count in
    let full = nat_lt 64 (length (fields past) + 1) in
    let wide = nat_lt 32 (globals past).size in
    ap (λ bits. by_code flags.constant zero_size full wide (nat_lt 512 (bits + added + cond (is_numbered past) 8 0))) (table-at 256 (λ id. report_bits id past) own 0 h)
    ∙ same_order flags.constant zero_size full wide (nat_lt 512 (before + added + cond (is_numbered past) 8 0))
    ∙ ap (λ same. by_rank flags.constant zero_size full wide (nat_lt 512 (cond same (before + added) before + cond (is_numbered past) 8 0))) (sym (eq-eqb own own refl))

input-bits : (past : List Item) (flags : Flags) → (globals past).id < 256
    → slice_set (table 256 (λ id. report_bits id past)) (globals past).id (slice_index (table 256 (λ id. report_bits id past)) (globals past).id + (globals past).size * (globals past).count)
    ≡ table 256 (λ id. report_bits id (item.Input flags ∷ past))
unfolding report_bits
input-bits past flags h =
    let own = (globals past).id in
    let added = (globals past).size * (globals past).count in
    rw (table-at 256 (λ id. report_bits id past) own 0 h)
    (sym (table-set 256 (λ id. report_bits id past) (λ id. report_bits id (item.Input flags ∷ past)) own (report_bits own past + added) h
    (rw (eq-eqb own own refl) refl)
    (λ k other. ⊎_elim (λ same. absurd (other (sym same.1))) (λ apart. rw apart.0 refl) (eqb_tells own k))))

pub input-step : (past : List Item) (flags : Flags) → (globals past).id < 256 → with_input flags (state past) ≡ state (item.Input flags ∷ past)
unfolding state globals_at open_collections open_pushes usages waiting_minimum fields field_of is_numbered
input-step past flags h = by_constant flags.constant
  where
    by_constant : (constant : Bool)
        → without_locals (record (cond constant (state past) (record (state past) { fields = record { items = (state past).fields.items ++ next_field flags (state past) ∷ [] } }))
        { bits = slice_set (state past).bits (globals past).id (slice_index (state past).bits (globals past).id + (globals past).size * (globals past).count) })
        ≡ record {
          current = globals past;
          saved = record { items = saved_globals 0 (open_pushes past) (item.Input flags ∷ past) };
          usages = record { items = [] };
          minimum = None;
          depth = open_collections past;
          fields = record { items = cond constant (fields past) (fields past ++ field_of flags past ∷ []) };
          bits = table 256 (λ id. report_bits id (item.Input flags ∷ past));
          numbered = is_numbered past;
        }
    by_constant true = rw (saved_globals-kept (item.Input flags) past (λ k. refl), input-bits past flags h) refl
    by_constant false = rw (saved_globals-kept (item.Input flags) past (λ k. refl), input-bits past flags h, table-at 256 (λ id. report_bits id past) (globals past).id 0 h) refl

-- the ID of a pass that stands for these items
pub id-of : (past : List Item) (pass : Pass) → pass ≡ state past → pass.current.id < 256 → (globals past).id < 256
unfolding state
id-of past pass is h = let P : Pass → Type 0 = λ p. p.current.id < 256 in subst P is h

pub input-fault-of : (past : List Item) (pass : Pass) (flags : Flags) → pass ≡ state past → pass.current.id < 256
    → verdict (input_fault flags pass) ≡ verdict (fault_of past (item.Input flags))
input-fault-of past pass flags is h =
    let P : Pass → Type 0 = λ p. verdict (input_fault flags p) ≡ verdict (fault_of past (item.Input flags)) in
    subst P (sym is) (input-fault past flags (id-of past pass is h))

-- the pass before the first item
pub pass-start : (saved : List Globals) (ranges : List UsageRange) (listed : List Field) → saved ≡ [] → ranges ≡ [] → listed ≡ []
    → record {
      current = no_globals;
      saved = record { items = saved };
      usages = record { items = ranges };
      minimum = None;
      depth = 0;
      fields = record { items = listed };
      bits = replicate 256 0;
      numbered = false;
    } ≡ state []
unfolding state globals_at open_collections open_pushes usages waiting_minimum fields report_bits is_numbered saved_globals table
pass-start saved ranges listed s r l = rw (s, r, l) refl
