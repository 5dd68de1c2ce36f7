-- A configuration that no rule refuses has no fault.
use Rattle.std.proofs.Common.{◌≡◌, ℕ, Bool, List, Option, Some, None, Result, Ok, Err, refl}
use Rattle.psd_base.specs.declared.console.Plug.{Plug}
use Rattle.psd_base.specs.declared.console.RuleName.{RuleName}
use Rattle.usb_descriptor.specs.declared.device.DeviceDesc.{DeviceDesc}
use Rattle.usb_descriptor.specs.declared.fault.DescWhy.{DescWhy}
use Rattle.usb_descriptor.specs.declared.fault.DescWhy.TheVariants as why
use Rattle.usb_descriptor.specs.declared.fault.DescFault.{DescFault}
use Rattle.usb_descriptor.specs.Fault.{config_fault}
use Rattle.peripheral_filter.specs.declared.rule.RuleSet.{RuleSet}
use Rattle.peripheral_filter.specs.declared.rule.Verdict.{Verdict}
use Rattle.peripheral_filter.specs.declared.rule.Verdict.TheVariants.{Accepted}
use Rattle.peripheral_filter.specs.Changes.{is_changed}
use Rattle.peripheral_filter.specs.Classes.{classes_of}
use Rattle.peripheral_filter.specs.Steps.{config_rules, read_config_rules, refused_config_rules}
use Rattle.peripheral_filter.specs.Verdicts.{first_that_holds}

refused-why : (cause : DescWhy) → first_that_holds (refused_config_rules cause) ≡ Accepted → ⊥
refused-why why.Short h = cc
refused-why why.Length h = cc
refused-why why.Kind h = cc
refused-why why.Total h = cc
refused-why why.Order h = cc
refused-why why.TooMany h = cc

abbrev verdict_by : List ℕ → Option DescFault → Result (List ℕ) DescFault
verdict_by bytes fault = elim fault [ None ↦ Ok bytes | Some first ↦ Err first ]

abbrev rules_by : Plug → RuleSet → DeviceDesc → List ℕ → Option (List ℕ) → Result (List ℕ) DescFault → List (RuleName × Bool)
rules_by plug rules device bytes before read = elim read [
  | Err fault ↦ refused_config_rules fault.why
  | Ok whole ↦ read_config_rules plug rules device (classes_of whole) (is_changed before bytes)
]

pub faultless : (plug : Plug) (rules : RuleSet) (device : DeviceDesc) (bytes : List ℕ) (before : Option (List ℕ))
    → first_that_holds (config_rules plug rules device bytes before) ≡ Accepted → config_fault bytes ≡ None
faultless plug rules device bytes before =
    elim (config_fault bytes) as (λ fault. first_that_holds (rules_by plug rules device bytes before (verdict_by bytes fault)) ≡ Accepted → fault ≡ None) [
      | None ↦ λ h. refl
      | Some fault ↦ λ h. absurd (refused-why fault.why h)
    ]

pub faultless_by : (plug : Plug) (rules : RuleSet) (device : DeviceDesc) (bytes : List ℕ) (before : Option (List ℕ)) (verdict : Verdict)
    → verdict ≡ first_that_holds (config_rules plug rules device bytes before) → verdict ≡ Accepted → config_fault bytes ≡ None
faultless_by plug rules device bytes before verdict is accepted = faultless plug rules device bytes before (cc)
