-- What a usage is read from, as it is found once and as the definitions find it at each report.
use Rattle.std.proofs.Common.{ℤ, ◌≡◌, ℕ, ◌≤◌, Bool, true, false, cond, ◌&&◌, ◌||◌, List, [], ◌∷◌, Option, Some, None, IfSome, is_some, refl, sym, ap, ◌∙◌, subst, arith, nat_le, unwrap_or, pos, ◌<◌, length, get_or, drop, ◌*◌, slice_index}
use Rattle.std.proofs.lemmas.Bool.Decides.{nat_tests}
use Rattle.std.proofs.lemmas.List.{at_drop_all}
use Rattle.std.specs.Option.{option_map}
use Rattle.psd_base.specs.declared.sample.Sample.{Sample}
use Rattle.hid_report.specs.declared.field.Field.{Field}
use Rattle.hid_report.specs.declared.report_form.ReportForm.{ReportForm}
use Rattle.hid_report.specs.declared.source.Source.{Source}
use Rattle.hid_report.specs.declared.pointer_report.PointerReport.{PointerReport}
use Rattle.hid_report.specs.Elements.{counted, is_button, is_zero, raw_bits}
use Rattle.hid_report.specs.Keys.{is_report}
use Rattle.hid_report.specs.LayoutValue.{LayoutValue}
use Rattle.hid_report.specs.Pointer.{Element, find_for, first_element, value_in, counted_in, button_bit, sample_of, pointer_of}
use Rattle.hid_report.proofs.ReportLaws.{first-here}
use Rattle.hid_report.specs.Sources.{source_of, source_at, counted_by, value_from, weight_from, report_in, sample_by, form_in, pointer_by, IsNarrow, IsSound, bounded}
use Rattle.hid_report.proofs.ArrayLaws.{byte-at}

counted-by : (numbered : Bool) (field : Field) (j : ℕ) (report : List ℕ) → counted_by (source_of numbered field j) report ≡ counted field numbered report j
unfolding counted_by counted
counted-by numbered field j report = refl

-- an element that is a byte
pub counted-byte : (source : Source) (report : List ℕ) (index size byte : ℕ) (minimum maximum : ℤ) → source.size ≡ 8 → source.place ≡ index * 8
    → size ≡ 8 → minimum ≡ source.minimum → maximum ≡ source.maximum → byte ≡ slice_index report index → byte < 256
    → bounded size minimum maximum byte ≡ counted_by source report
unfolding counted_by
counted-byte source report index size byte minimum maximum narrow place eight low high read small =
    ap (λ m. bounded size m maximum byte) low
    ∙ ap (λ m. bounded size source.minimum m byte) high
    ∙ ap (λ raw. bounded size source.minimum source.maximum raw) (sym (byte-at report source.place index byte place read small))
    ∙ ap (λ n. bounded n source.minimum source.maximum (raw_bits report source.place 8)) eight
    ∙ ap (λ n. bounded n source.minimum source.maximum (raw_bits report source.place n)) (sym narrow)

-- what a usage is read from whose first element is this one
pub source-here : (numbered : Bool) (id usage : ℕ) (fields : List Field) (i j : ℕ) (field : Field) (source : Source)
    → first_element id usage fields ≡ first_element id usage (drop i fields) → i < length fields → field ≡ get_or fields i field
    → Some j ≡ find_for id usage field → source ≡ source_of numbered field j → Some source ≡ source_at numbered id usage fields
source-here numbered id usage fields i j field source from h here found is =
    let first = from ∙ first-here id usage fields i j field h here (sym found) in
    ap Some is ∙ sym (ap (option_map (λ (element : Element). source_of numbered element.field element.place)) first)

-- a usage that no element has
pub source-nowhere : (numbered : Bool) (id usage : ℕ) (fields : List Field) (i : ℕ)
    → first_element id usage fields ≡ first_element id usage (drop i fields) → length fields ≤ i → None ≡ source_at numbered id usage fields
unfolding first_element
source-nowhere numbered id usage fields i from h =
    let first : first_element id usage fields ≡ None = from ∙ at_drop_all (first_element id usage) fields i h in
    sym (ap (option_map (λ (element : Element). source_of numbered element.field element.place)) first)

-- what a report says of a usage
value-at : (id usage : ℕ) (reading : LayoutValue) (report : List ℕ)
    → value_from report (source_at reading.numbered id usage reading.fields) ≡ value_in id reading report usage
unfolding value_in
value-at id usage reading report = by_first (first_element id usage reading.fields)
  where
    by_first : (o : Option Element)
        → value_from report (option_map (λ (element : Element). source_of reading.numbered element.field element.place) o)
        ≡ unwrap_or (counted_in reading.numbered report o) (pos 0)
    by_first None = refl
    by_first (Some element) = ap (λ o. unwrap_or o (pos 0)) (counted-by reading.numbered element.field element.place report)

weight-at : (id usage weight : ℕ) (reading : LayoutValue) (report : List ℕ)
    → weight_from report (source_at reading.numbered id usage reading.fields) weight ≡ button_bit id reading report usage weight
weight-at id usage weight reading report = ap (λ value. cond (is_zero value) 0 weight) (value-at id usage reading report)

sample-at : (reading : LayoutValue) (form : ReportForm) (report : List ℕ)
    → sample_by (report_in reading.numbered reading.fields form) report ≡ sample_of form.id reading report
unfolding sample_by report_in sample_of
sample-at reading form report =
    rw (
      weight-at form.id 0x9_0001 1 reading report,
      weight-at form.id 0x9_0002 2 reading report,
      weight-at form.id 0x9_0003 4 reading report,
      weight-at form.id 0x9_0004 8 reading report,
      weight-at form.id 0x9_0005 16 reading report,
      value-at form.id 0x1_0030 reading report,
      value-at form.id 0x1_0031 reading report,
      value-at form.id 0x1_0038 reading report,
    ) refl

-- the sample of a report
by-form : (reading : LayoutValue) (report : List ℕ) (form : Option ReportForm)
    → pointer_by reading.numbered (option_map (report_in reading.numbered reading.fields) form) report
    ≡ elim form [ None ↦ None | Some f ↦ cond (is_report f reading.numbered report) (Some (sample_of f.id reading report)) None ]
unfolding report_in
by-form reading report None = refl
by-form reading report (Some form) =
    ap (λ (sample : Sample). cond (is_report form reading.numbered report) (Some sample) None) (sample-at reading form report)

pub sample-by_pointer : (reading : LayoutValue) (report : List ℕ) (numbered : Bool) (pointer : Option PointerReport) (result : Option Sample)
    → result ≡ pointer_by numbered pointer report → numbered ≡ reading.numbered
    → pointer ≡ option_map (report_in reading.numbered reading.fields) reading.pointer → result ≡ pointer_of reading report
unfolding pointer_of
sample-by_pointer reading report numbered pointer result is same all =
    is ∙ ap (λ b. pointer_by b pointer report) same ∙ ap (λ p. pointer_by reading.numbered p report) all ∙ by-form reading report reading.pointer

-- the form is kept
pub form-kept : (numbered : Bool) (fields : List Field) (form : Option ReportForm) → form_in (option_map (report_in numbered fields) form) ≡ form
unfolding report_in
form-kept numbered fields None = refl
form-kept numbered fields (Some form) = refl

pub kept-form : (numbered : Bool) (fields : List Field) (form : Option ReportForm) (pointer : Option PointerReport)
    → pointer ≡ option_map (report_in numbered fields) form → form_in pointer ≡ form
kept-form numbered fields form pointer is = ap form_in is ∙ form-kept numbered fields form

pub some-form : (pointer : Option PointerReport) → is_some pointer ≡ is_some (form_in pointer)
some-form None = refl
some-form (Some pointer) = refl

-- a motion has at most 16 bits
narrow-test : (same variable button relative narrow motion : Bool) (found : Option ℕ) (j : ℕ) → button ≡ false
    → cond (same && (variable && (button || (relative && (narrow && motion))))) found None ≡ Some j → narrow ≡ true
narrow-test same variable button relative true motion found j other is = refl
narrow-test false variable button relative false motion found j other is = absurd (cc)
narrow-test true false button relative false motion found j other is = absurd (cc)
narrow-test true true true relative false motion found j other is = absurd (cc)
narrow-test true true false false false motion found j other is = absurd (cc)
narrow-test true true false true false motion found j other is = absurd (cc)

narrow-at : (numbered : Bool) (id usage : ℕ) (fields : List Field) → is_button usage ≡ false → IsNarrow (source_at numbered id usage fields)
unfolding first_element
narrow-at numbered id usage [] other = tt
narrow-at numbered id usage (field ∷ fields) other = by_found (find_for id usage field) narrow (narrow-at numbered id usage fields other)
  where
    narrow : (j : ℕ) → find_for id usage field ≡ Some j → field.size ≤ 16
    narrow j found =
        let test = narrow-test _ _ (is_button usage) _ (nat_le field.size 16) _ _ j other found in
        grind (arith, nat_tests, test)

    by_found : (o : Option ℕ) → ((j : ℕ) → o ≡ Some j → field.size ≤ 16) → IsNarrow (source_at numbered id usage fields)
        → IsNarrow (option_map (λ (element : Element). source_of numbered element.field element.place)
        (elim o [ Some j ↦ Some (record { field = field; place = j }) | None ↦ first_element id usage fields ]))
    by_found None small later = later
    by_found (Some j) small later = small j refl

report-sound : (numbered : Bool) (fields : List Field) (form : ReportForm) → IsSound (report_in numbered fields form)
unfolding report_in
report-sound numbered fields form = record {
  x = narrow-at numbered form.id 0x1_0030 fields refl;
  y = narrow-at numbered form.id 0x1_0031 fields refl;
  wheel = narrow-at numbered form.id 0x1_0038 fields refl;
  row = refl;
}

pub some-sound : (numbered : Bool) (fields : List Field) (form : Option ReportForm) (pointer : Option PointerReport)
    → pointer ≡ option_map (report_in numbered fields) form → IfSome pointer IsSound
some-sound numbered fields form pointer is = subst (λ (o : Option PointerReport). IfSome o IsSound) (sym is) (by_form form)
  where
    by_form : (o : Option ReportForm) → IfSome (option_map (report_in numbered fields) o) IsSound
    by_form None = tt
    by_form (Some form) = report-sound numbered fields form

pub ruleset source_laws = (sample-by_pointer, some-sound)
