-- From the pass to the layout, and from the places of the bytes to the verdict.
use Rattle.std.proofs.Common.{◌≡◌, ℕ, zero, suc, ◌+◌, ◌-◌, ◌/◌, ◌<◌, ◌≤◌, true, false, cond, List, [], ◌∷◌, ◌++◌, length, drop, Option, Some, None, IfSome, Result, Ok, Err, refl, sym, ap, ◌∙◌, arith, nat_eq, subst, length-drop, drop-drop, take}
use Rattle.std.proofs.lemmas.Bool.Decides.{nat_tests}
use Rattle.std.proofs.lemmas.List.{drop_all, take_all}
use Rattle.std.specs.Option.{option_map}
use Rattle.std.specs.List.{find}
use Rattle.hid_report.specs.declared.item.Item.{Item}
use Rattle.hid_report.specs.declared.item.Entry.{Entry}
use Rattle.hid_report.specs.declared.field.Field.{Field}
use Rattle.hid_report.specs.declared.pass.Pass.{Pass}
use Rattle.hid_report.specs.declared.report_form.ReportForm.{ReportForm}
use Rattle.hid_report.specs.declared.fault.LayoutFault.{LayoutFault}
use Rattle.hid_report.specs.declared.fault.LayoutWhy.{LayoutWhy}
use Rattle.hid_report.specs.declared.fault.LayoutWhy.TheVariants as why
use Rattle.hid_report.specs.Items.{whole, cut, end, first_item, places, onto, items}
use Rattle.hid_report.specs.Bits.{report_bits, is_numbered}
use Rattle.hid_report.specs.Fields.{fields}
use Rattle.hid_report.specs.Globals.{open_collections}
use Rattle.hid_report.specs.Faults.{fault_of, faults, fault_at}
use Rattle.hid_report.specs.Elements.{is_key_field, is_pointer_field}
use Rattle.hid_report.specs.LayoutValue.{LayoutValue, reading_of, layout_of, form_of}
use Rattle.hid_report.specs.State.{state, form_in, refusal, Takes}
use Rattle.hid_report.proofs.PassLaws.{table-at}

-- the form of a report by the pass and by the items
form-of : (past : List Item) (found : Option Field) (form : Option ReportForm) → form ≡ option_map (λ field. form_in (state past) field.id) found
    → IfSome form (λ r. r.id < 256) → form ≡ option_map (λ field. form_of past field.id) found
unfolding state
form-of past None form is h = is
form-of past (Some field) form is h =
    let P : Option ReportForm → Type 0 = λ o. IfSome o (λ r. r.id < 256) in
    let below : field.id < 256 = subst P is h in
    is ∙ ap (λ bits. Some (record { id = field.id; length = (bits + cond (is_numbered past) 8 0 + 7) / 8 })) (table-at 256 (λ id. report_bits id past) field.id 0 below)

layout-at : (past : List Item) (keys pointer : Option ReportForm)
    → keys ≡ option_map (λ field. form_in (state past) field.id) (find is_key_field (state past).fields.items) → IfSome keys (λ form. form.id < 256)
    → pointer ≡ option_map (λ field. form_in (state past) field.id) (find is_pointer_field (state past).fields.items) → IfSome pointer (λ form. form.id < 256)
    → record { fields = (state past).fields.items; numbered = (state past).numbered; keys = keys; pointer = pointer } ≡ reading_of past
unfolding reading_of state
layout-at past keys pointer k kb p pb =
    rw (form-of past (find is_key_field (fields past)) keys k kb, form-of past (find is_pointer_field (fields past)) pointer p pb) refl

pub layout-of : (past : List Item) (pass : Pass) (keys pointer : Option ReportForm) → pass ≡ state past
    → keys ≡ option_map (λ field. form_in pass field.id) (find is_key_field pass.fields.items) → IfSome keys (λ form. form.id < 256)
    → pointer ≡ option_map (λ field. form_in pass field.id) (find is_pointer_field pass.fields.items) → IfSome pointer (λ form. form.id < 256)
    → record { fields = pass.fields.items; numbered = pass.numbered; keys = keys; pointer = pointer } ≡ reading_of past
layout-of past pass keys pointer is k kb p pb =
    let P : Pass → Type 0 = λ q. keys ≡ option_map (λ field. form_in q field.id) (find is_key_field q.fields.items)
    → pointer ≡ option_map (λ field. form_in q field.id) (find is_pointer_field q.fields.items)
    → record { fields = q.fields.items; numbered = q.numbered; keys = keys; pointer = pointer } ≡ reading_of past in
    subst P (sym is) (λ a b. layout-at past keys pointer a kb b pb) k p

-- bytes that belong to the item before are skipped
places-skip : (k at : ℕ) (bytes : List ℕ) → k ≤ length bytes → places k at bytes ≡ places 0 (at + k) (drop k bytes)
unfolding places
places-skip zero at bytes h = let same : at + 0 ≡ at = omega arith in rw same refl
places-skip (suc k) at [] h = absurd (omega arith)
places-skip (suc k) at (byte ∷ bytes) h =
    let same : at + 1 + k ≡ at + suc k = omega arith in
    rw (places-skip k (at + 1) bytes (omega arith), same) refl

drop-one : (n byte : ℕ) (bytes : List ℕ) → 0 < n → drop n (byte ∷ bytes) ≡ drop (n - 1) bytes
drop-one zero byte bytes h = absurd (omega arith)
drop-one (suc n) byte bytes h = let less : suc n - 1 ≡ n = omega arith in rw less refl

places-whole : (at : ℕ) (bytes : List ℕ) (entry : Entry) → first_item bytes ≡ Some entry → 0 < entry.length → entry.length ≤ length bytes
    → places 0 at bytes ≡ whole at entry.item ∷ places 0 (at + entry.length) (drop entry.length bytes)
unfolding places
places-whole at [] entry is some within = absurd (omega arith)
places-whole at (byte ∷ bytes) entry is some within =
    let place : at + 1 + (entry.length - 1) ≡ at + entry.length = omega arith in
    let skipped = places-skip (entry.length - 1) (at + 1) bytes (omega arith) in
    let later : places (entry.length - 1) (at + 1) bytes ≡ places 0 (at + entry.length) (drop entry.length (byte ∷ bytes)) =
    skipped ∙ ap (λ n. places 0 n (drop (entry.length - 1) bytes)) place ∙ ap (places 0 (at + entry.length)) (sym (drop-one entry.length byte bytes some)) in
    subst (λ (o : Option Entry). (elim o [ Some e ↦ whole at e.item ∷ places (e.length - 1) (at + 1) bytes | None ↦ cut at ∷ [] ])
    ≡ whole at entry.item ∷ places 0 (at + entry.length) (drop entry.length (byte ∷ bytes))) (sym is) (ap (λ rest. whole at entry.item ∷ rest) later)

places-cut : (at : ℕ) (bytes : List ℕ) → first_item bytes ≡ None → 0 < length bytes → places 0 at bytes ≡ cut at ∷ []
unfolding places
places-cut at [] is some = absurd (omega arith)
places-cut at (byte ∷ bytes) is some =
    subst (λ (o : Option Entry). (elim o [ Some e ↦ whole at e.item ∷ places (e.length - 1) (at + 1) bytes | None ↦ cut at ∷ [] ]) ≡ cut at ∷ []) (sym is) refl

places-end : (at : ℕ) → places 0 at [] ≡ end at ∷ []
unfolding places
places-end at = refl

-- the pass has come to this byte without a fault
pub record Reached (bytes : List ℕ) (at : ℕ) (pass : Pass) : Type 0 where
  pub past : List Item
  pub stands : pass ≡ state past
  pub within : at ≤ length bytes
  pub no_fault : faults [] (places 0 0 bytes) ≡ faults past (places 0 at (drop at bytes))
  pub history : items bytes ≡ onto (places 0 at (drop at bytes)) past

pub reached-start : (bytes : List ℕ) (pass : Pass) → pass ≡ state [] → Reached bytes 0 pass
unfolding items
reached-start bytes pass is = record { past = []; stands = is; within = omega arith; no_fault = refl; history = refl }

-- the bytes from a place on
pub slice-from : (bytes : List ℕ) (at : ℕ) → take (length bytes - at) (drop at bytes) ≡ drop at bytes
slice-from bytes at = take_all (length bytes - at) (drop at bytes) (omega (arith, length-drop at bytes))

-- one item more
pub reached-more : (bytes : List ℕ) (at size : ℕ) (pass new : Pass) (r : Reached bytes at pass) → at < length bytes
    → (rest : List ℕ) → rest ≡ drop at bytes → Takes r.past rest size new → Reached bytes (at + size) new
unfolding faults
reached-more bytes at size pass new r h left is taken =
    let t = subst (λ xs. Takes r.past xs size new) is taken in
    let some : 0 < t.entry.length = omega (arith, t.size_is, t.some) in
    let rest_length : length (drop at bytes) ≡ length bytes - at = length-drop at bytes in
    let fits : t.entry.length ≤ length (drop at bytes) = omega (arith, t.size_is, t.within) in
    let first = places-whole at (drop at bytes) t.entry t.is_first some fits in
    let later : drop t.entry.length (drop at bytes) ≡ drop (at + size) bytes = rw t.size_is (drop-drop size at bytes) in
    let place : places 0 at (drop at bytes) ≡ whole at t.entry.item ∷ places 0 (at + size) (drop (at + size) bytes) =
    first ∙ ap (λ n. whole at t.entry.item ∷ places 0 (at + n) (drop t.entry.length (drop at bytes))) t.size_is ∙ ap (λ xs. whole at t.entry.item ∷ places 0 (at + size) xs) later in
    record {
      past = t.entry.item ∷ r.past;
      stands = t.stands;
      within = omega (arith, t.within);
      no_fault = r.no_fault ∙ ap (faults r.past) place
          ∙ ap (λ o. fault_at at o ++ faults (t.entry.item ∷ r.past) (places 0 (at + size) (drop (at + size) bytes))) t.passes;
      history = r.history ∙ ap (λ xs. onto xs r.past) place;
    }

-- the first fault
refused-at : (at : ℕ) (past : List Item) (bytes : List ℕ) (cause : LayoutWhy) → 0 < length bytes → refusal past bytes ≡ Some cause
    → (later : List LayoutFault) × (faults past (places 0 at bytes) ≡ record { at = at; why = cause } ∷ later)
unfolding faults places
refused-at at past [] cause some is = absurd (omega arith)
refused-at at past (byte ∷ bytes) cause some is = by_first (first_item (byte ∷ bytes)) is
  where
    by_first : (o : Option Entry) → (elim o [ None ↦ Some why.Truncated | Some entry ↦ fault_of past entry.item ]) ≡ Some cause
        → (later : List LayoutFault) × (faults past (elim o [ Some e ↦ whole at e.item ∷ places (e.length - 1) (at + 1) bytes | None ↦ cut at ∷ [] ]) ≡ record { at = at; why = cause } ∷ later)
    by_first None e = let same : why.Truncated ≡ cause = cc in (faults past [], ap (λ w. record { at = at; why = w } ∷ faults past []) same)
    by_first (Some entry) e = (
      faults (entry.item ∷ past) (places (entry.length - 1) (at + 1) bytes),
      ap (λ o. fault_at at o ++ faults (entry.item ∷ past) (places (entry.length - 1) (at + 1) bytes)) e,
    )

-- a verdict by the list of faults
abbrev by_faults : List Item → List LayoutFault → Result LayoutValue LayoutFault
by_faults past found = elim found [ [] ↦ Ok (reading_of past) | fault ∷ later ↦ Err fault ]

pub refused : (bytes : List ℕ) (at : ℕ) (pass : Pass) (r : Reached bytes at pass) (cause : LayoutWhy) → at < length bytes
    → (rest : List ℕ) → rest ≡ drop at bytes → refusal r.past rest ≡ Some cause → Err (record { at = at; why = cause }) ≡ layout_of bytes
unfolding layout_of
refused bytes at pass r cause h left same found_is =
    let is : refusal r.past (drop at bytes) ≡ Some cause = subst (λ xs. refusal r.past xs ≡ Some cause) same found_is in
    let some : 0 < length (drop at bytes) = omega (arith, length-drop at bytes) in
    let found = refused-at at r.past (drop at bytes) cause some is in
    sym (ap (by_faults (items bytes)) (r.no_fault ∙ found.1))

-- at the end of the bytes
at-end : (bytes : List ℕ) (at : ℕ) (past : List Item) → length bytes ≤ at
    → faults past (places 0 at (drop at bytes)) ≡ fault_at at (cond (nat_eq (open_collections past) 0) None (Some why.Unbalanced)) ++ []
unfolding faults
at-end bytes at past h = ap (λ xs. faults past (places 0 at xs)) (drop_all at bytes h) ∙ ap (faults past) (places-end at)

pub open-at-end : (bytes : List ℕ) (at : ℕ) (pass : Pass) (r : Reached bytes at pass) → length bytes ≤ at → 0 < pass.depth
    → Err (record { at = at; why = why.Unbalanced }) ≡ layout_of bytes
unfolding layout_of state
open-at-end bytes at pass r h deep =
    let depth_is : pass.depth ≡ open_collections r.past = ap (λ (p : Pass). p.depth) r.stands in
    let some_open : nat_eq (open_collections r.past) 0 ≡ false = grind (arith, nat_tests, depth_is, deep) in
    sym (ap (by_faults (items bytes)) (r.no_fault ∙ at-end bytes at r.past h ∙ ap (λ none. fault_at at (cond none None (Some why.Unbalanced)) ++ []) some_open))

pub read-whole : (bytes : List ℕ) (at : ℕ) (pass : Pass) (r : Reached bytes at pass) → length bytes ≤ at → pass.depth ≡ 0
    → Ok (reading_of r.past) ≡ layout_of bytes
unfolding layout_of state
read-whole bytes at pass r h closed =
    let depth_is : pass.depth ≡ open_collections r.past = ap (λ (p : Pass). p.depth) r.stands in
    let none_open : nat_eq (open_collections r.past) 0 ≡ true = grind (arith, nat_tests, depth_is, closed) in
    let all : items bytes ≡ r.past = r.history ∙ ap (λ xs. onto (places 0 at xs) r.past) (drop_all at bytes h) ∙ ap (λ xs. onto xs r.past) (places-end at) in
    sym (ap (by_faults (items bytes)) (r.no_fault ∙ at-end bytes at r.past h ∙ ap (λ none. fault_at at (cond none None (Some why.Unbalanced)) ++ []) none_open)
    ∙ ap (λ past. Ok (reading_of past)) all)
