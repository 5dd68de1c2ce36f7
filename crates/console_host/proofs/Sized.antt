-- A device that no rule refuses by its descriptor has a size of endpoint 0 that USB 2.0 has.
use Rattle.std.proofs.Common.{◌≡◌, ℕ, ◌==◌, Bool, true, false, not, List, [], ◌∷◌, Option, Result, Ok, Err, refl}
use Rattle.std.specs.Prelude.{IsTrue}
use Rattle.psd_base.specs.declared.console.RuleName.{RuleName}
use Rattle.usb_descriptor.specs.declared.device.DeviceDesc.{DeviceDesc}
use Rattle.usb_descriptor.specs.declared.fault.DescFault.{DescFault}
use Rattle.usb_descriptor.specs.Device.{device_verdict}
use Rattle.peripheral_filter.specs.declared.fixed.TheConstants.{MALFORMED_DESCRIPTOR, HUB, SIZE_LIMITS, CHANGED}
use Rattle.peripheral_filter.specs.declared.rule.Verdict.{Verdict}
use Rattle.peripheral_filter.specs.declared.rule.Verdict.TheVariants.{Accepted}
use Rattle.peripheral_filter.specs.Changes.{is_changed}
use Rattle.peripheral_filter.specs.Steps.{device_rules, is_packet_size}
use Rattle.peripheral_filter.specs.Verdicts.{first_that_holds}

abbrev rules_by : List ℕ → Option (List ℕ) → Result DeviceDesc DescFault → List (RuleName × Bool)
rules_by bytes before read = elim read [
  | Err fault ↦ (MALFORMED_DESCRIPTOR, true) ∷ []
  | Ok device ↦
      (HUB, device.class == 9)
      ∷ (SIZE_LIMITS, not (is_packet_size device.max0))
      ∷ (CHANGED, is_changed before bytes)
      ∷ []
]

second : (a b c : Bool) → first_that_holds ((HUB, a) ∷ (SIZE_LIMITS, not b) ∷ (CHANGED, c) ∷ []) ≡ Accepted → b ≡ true
second true b c h = absurd (cc)
second false true c h = refl
second false false c h = absurd (cc)

sized-read : (bytes : List ℕ) (before : Option (List ℕ)) (read : Result DeviceDesc DescFault) (device : DeviceDesc) → read ≡ Ok device
    → first_that_holds (rules_by bytes before read) ≡ Accepted → is_packet_size device.max0 ≡ true
sized-read bytes before (Err fault) device is h = absurd (cc)
sized-read bytes before (Ok found) device is h =
    let same : found ≡ device = cc in
    let size : is_packet_size found.max0 ≡ true = second (found.class == 9) (is_packet_size found.max0) (is_changed before bytes) h in
    rw same at size

pub sized_by : (bytes : List ℕ) (before : Option (List ℕ)) (device : DeviceDesc) (verdict : Verdict) → device_verdict bytes ≡ Ok device
    → verdict ≡ first_that_holds (device_rules bytes before) → verdict ≡ Accepted → IsTrue (is_packet_size device.max0)
sized_by bytes before device verdict read is accepted =
    let h : first_that_holds (device_rules bytes before) ≡ Accepted = cc in
    sized-read bytes before (device_verdict bytes) device read h
