-- The layout of the items so far, and its pointer report.
use Rattle.std.proofs.Common.{ap, sym, ◌∙◌}
use Rattle.std.specs.Option.{option_map}
use Rattle.hid_report.specs.Sources.{report_in}
use Rattle.hid_report.proofs.LayoutLaws.{layout-of}
use Rattle.hid_report.proofs.SourceLaws.{kept-form}
use Rattle.hid_report.proofs.layout.Layout.of.Goals as goal

pub invariant_of-result : goal.invariant_of-result
invariant_of-result c =
    let pass = c.args.pass in
    let form = c.form_with-form.result in
    let is = c.pointer_report-pointer.ensures ∙ ap (λ fields. option_map (report_in pass.numbered fields) form) c.as_slice.ensures.value in
    is ∙ ap (option_map (report_in pass.numbered pass.fields.items)) (sym (kept-form pass.numbered pass.fields.items form c.pointer_report-pointer.result is))

pub returns : goal.returns
returns c = λ past is.
    let pass = c.args.pass in
    let keys = c.form_with-keys.result in
    let form = c.form_with-form.result in
    ap (λ f. record { fields = pass.fields.items; numbered = pass.numbered; keys = keys; pointer = f })
    (kept-form pass.numbered c.as_slice.result.now form c.pointer_report-pointer.result c.pointer_report-pointer.ensures)
    ∙ layout-of past pass keys form is c.form_with-keys.ensures.value c.form_with-keys.ensures.id c.form_with-form.ensures.value c.form_with-form.ensures.id
