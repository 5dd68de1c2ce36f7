-- The rules of the steps at work, each computed.
use Rattle.std.specs.Prelude.{◌≡◌, true, false, [], ◌∷◌, ◌++◌, Some, None, refl}
use Rattle.psd_base.specs.declared.console.Plug.TheVariants.{Keyboard, Mouse}
use Rattle.psd_base.specs.declared.console.RuleName.TheVariants.{Deny}
use Rattle.usb_descriptor.specs.declared.device.DeviceDesc.{DeviceDesc}
use Rattle.hid_report.specs.declared.fault.LayoutWhy.TheVariants as why
use Rattle.peripheral_filter.specs.declared.fixed.TheConstants.{MALFORMED_REPORT, REPORT_LIMITS}
use Rattle.peripheral_filter.specs.declared.rule.Rule.{Rule}
use Rattle.peripheral_filter.specs.declared.rule.Verdict.TheVariants.{Refused}
use Rattle.peripheral_filter.specs.Rules.{matches, deny_rules, allow_rules}
use Rattle.peripheral_filter.specs.Steps.{refused_layout_rules}
use Rattle.peripheral_filter.specs.Verdicts.{first_that_holds}

abbrev keyboard : DeviceDesc
keyboard = record { class = 0; max0 = 8; vendor = 4660; product = 1 }

abbrev any : Rule
any = record { plug = None; vendor = None; product = None; class = None }

-- each part that is given has to agree
product_agrees : matches Keyboard keyboard (3 ∷ []) (record any { product = Some 1 }) ≡ true
product_agrees = refl

product_differs : matches Keyboard keyboard (3 ∷ []) (record any { product = Some 2 }) ≡ false
product_differs = refl

vendor_differs : matches Keyboard keyboard (3 ∷ []) (record any { vendor = Some 1; product = Some 1 }) ≡ false
vendor_differs = refl

plug_differs : matches Keyboard keyboard (3 ∷ []) (record any { plug = Some Mouse }) ≡ false
plug_differs = refl

class_of_an_interface : matches Keyboard keyboard (11 ∷ 3 ∷ []) (record any { class = Some 3 }) ≡ true
class_of_an_interface = refl

-- the deny list comes before the allow list, and its first entry that matches is named
deny_comes_first : first_that_holds (deny_rules (λ rule. true) 1 (any ∷ any ∷ []) ++ allow_rules (λ rule. false) (any ∷ []))
    ≡ Refused (Deny 1)
deny_comes_first = refl

-- a bad report ID is malformed, and too many fields are beyond a limit
bad_id_is_malformed : first_that_holds (refused_layout_rules why.BadId) ≡ Refused MALFORMED_REPORT
bad_id_is_malformed = refl

fields_are_a_limit : first_that_holds (refused_layout_rules why.Fields) ≡ Refused REPORT_LIMITS
fields_are_a_limit = refl
