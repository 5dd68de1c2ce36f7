-- What the invariant says.
use Rattle.std.proofs.Common.{◌≡◌, subst}
use Rattle.std.specs.Option.{option_map}
use Rattle.hid_report.specs.LayoutValue.{LayoutValue}
use Rattle.hid_report.specs.Sources.{report_in}
use Rattle.hid_report.proofs.layout.Layout.pointer_report.Goals as goal

pub returns : goal.returns
returns c =
    subst (λ (value : LayoutValue). c.self.inside.pointer ≡ option_map (report_in value.numbered value.fields) value.pointer) c.self.view_is c.self.invariant
