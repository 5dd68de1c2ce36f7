-- What a reply to the outstanding order comes to is what the plan says.
use Rattle.std.proofs.Common.{◌≡◌, ◌+◌, ◌<◌, ◌==◌, Bool, false, cond, List, [], ◌∷◌, ◌++◌, length, map, filter, Option, None, refl, ap, sym, ◌∙◌, arith}
use Rattle.std.proofs.lemmas.Bool.Decides.{nat_tests}
use Rattle.psd_base.specs.declared.console.Plug.{Plug}
use Rattle.psd_base.specs.declared.console.RuleName.{RuleName}
use Rattle.psd_base.specs.declared.console.Note.{Note}
use Rattle.usb_descriptor.specs.declared.device.DeviceDesc.{DeviceDesc}
use Rattle.usb_descriptor.specs.Device.{device_of, word_at}
use Rattle.usb_descriptor.specs.View.{configuration_value}
use Rattle.peripheral_filter.specs.declared.rule.Verdict.{Verdict}
use Rattle.peripheral_filter.specs.declared.rule.Verdict.TheVariants.{Accepted, Refused}
use Rattle.console_host.specs.declared.attachment.Attachment.{Attachment}
use Rattle.console_host.specs.declared.order.TheConstants.{CONFIGURATION, CONFIGURE}
use Rattle.console_host.specs.declared.step.Step.{Step}
use Rattle.console_host.specs.declared.step.Step.TheVariants as step
use Rattle.console_host.specs.declared.step.Outcome.{Outcome}
use Rattle.console_host.specs.declared.step.Outcome.TheVariants as outcome
use Rattle.console_host.specs.Replies.{Reply, answered}
use Rattle.console_host.specs.Fits.{fits, misfits, barred_from, barred_note, Barred}
use Rattle.console_host.specs.Judging.{least_from}
use Rattle.console_host.specs.Plan.{Asks, IsReady, Refuses, rule_of, plan_by, Found, found_at, found_notes, accepted_in, refused_in, interface_notes, standing_notes}
use Rattle.console_host.specs.Machine.{number_of, setup_of, unless_refused, device_outcome, with_device, plain_outcome, head_outcome, with_configuration, configuration_notes, shape_of}
use Rattle.console_host.specs.Stands.{HasDevice, HasRead, StepStands}
use Rattle.console_host.proofs.Asking.{no-barred, found-none}
use Rattle.console_host.proofs.Accepting.{accepted-early, refused-early}

-- the next order is outstanding
pub record GoesOn (plug : Plug) (replies : List Reply) (attachment : Attachment) (refused : Option RuleName) (after : Step) : Type 0 where
  pub none : refused ≡ None
  pub plan : plan_by plug replies refused ≡ Asks (setup_of after)
  pub order : number_of after ≡ length replies + 1
  pub least : attachment.least ≡ least_from None (refused_in plug replies)
  pub stands : StepStands plug attachment after replies

-- the peripheral is ready
pub record IsDone (plug : Plug) (replies : List Reply) (attachment : Attachment) (refused : Option RuleName) : Type 0 where
  pub plan : plan_by plug replies refused ≡ IsReady
  pub read : HasRead plug attachment replies

abbrev pub Comes : Plug → List Reply → Attachment → Option RuleName → Outcome → Type 0
Comes plug replies attachment refused (outcome.Ask after) = GoesOn plug replies attachment refused after
Comes plug replies attachment refused outcome.Ready = IsDone plug replies attachment refused
Comes plug replies attachment refused (outcome.Refused rule) = plan_by plug replies refused ≡ Refuses rule

-- what a reply comes to, what is kept then, and the lines of interfaces
pub record Turns (plug : Plug) (earlier : List Reply) (reply : Reply) (before after : Attachment) (refused : Option RuleName) (result : Outcome) (notes : List Note) : Type 0 where
  pub comes : Comes plug (reply ∷ earlier) after refused result
  pub accepted : after.accepted.items ≡ accepted_in plug (reply ∷ earlier)
  pub plug_is : after.plug ≡ before.plug
  pub known : after.known ≡ before.known
  pub notes_are : notes ≡ standing_notes plug earlier reply refused

-- no lines of interfaces come before the configuration
early-notes : (plug : Plug) (earlier : List Reply) (reply : Reply) → length earlier + 1 < CONFIGURATION → [] ≡ interface_notes plug earlier reply
early-notes plug earlier reply h =
    let other : (length earlier + 1 == CONFIGURATION) ≡ false = grind (arith, nat_tests) in
    let barred = no-barred (length earlier + 1) CONFIGURE (fits plug (answered CONFIGURATION earlier)) (omega arith) in
    let none = found-none plug earlier reply (omega arith) in
    sym (
    ap (λ (b : Bool). cond b (misfits plug reply.bytes) (found_notes plug (found_at plug earlier reply) ++ map (barred_note plug) (filter (λ (barred : Barred). barred.due == length earlier + 1) (barred_from CONFIGURE (fits plug (answered CONFIGURATION earlier)))))) other
    ∙ ap (λ (found : Option Found). found_notes plug found ++ map (barred_note plug) (filter (λ (barred : Barred). barred.due == length earlier + 1) (barred_from CONFIGURE (fits plug (answered CONFIGURATION earlier))))) none
    ∙ ap (λ (bs : List Barred). map (barred_note plug) bs) barred
    )

pub device-turns : (attachment : Attachment) (reply : Reply) (verdict : Verdict)
    → attachment.least ≡ None → attachment.accepted.items ≡ []
    → Turns attachment.plug [] reply attachment (with_device (unless_refused verdict (device_of reply.bytes)) reply.bytes attachment) (rule_of verdict)
    (device_outcome (unless_refused verdict (device_of reply.bytes))) []
device-turns attachment reply Accepted least accepted = record {
  comes = record {
    none = refl;
    plan = refl;
    order = refl;
    least = least ∙ ap (λ (rules : List RuleName). least_from None rules) (sym (refused-early attachment.plug [] reply (omega arith)));
    stands = record { read = refl; bytes = refl; size = refl };
  };
  accepted = accepted ∙ sym (accepted-early attachment.plug [] reply (omega arith));
  plug_is = refl;
  known = refl;
  notes_are = early-notes attachment.plug [] reply (omega arith);
}
device-turns attachment reply (Refused rule) least accepted = record {
  comes = refl;
  accepted = accepted ∙ sym (accepted-early attachment.plug [] reply (omega arith));
  plug_is = refl;
  known = refl;
  notes_are = refl;
}

pub address-turns : (attachment : Attachment) (first reply : Reply) (device : DeviceDesc) (verdict : Verdict)
    → attachment.least ≡ least_from None (refused_in attachment.plug (first ∷ [])) → attachment.accepted.items ≡ accepted_in attachment.plug (first ∷ [])
    → HasDevice attachment device first
    → Turns attachment.plug (first ∷ []) reply attachment attachment (rule_of verdict) (plain_outcome verdict (step.Head device)) []
address-turns attachment first reply device Accepted least accepted device_is = record {
  comes = record {
    none = refl;
    plan = refl;
    order = refl;
    least = least ∙ ap (λ (rules : List RuleName). least_from None rules) (sym (refused-early attachment.plug (first ∷ []) reply (omega arith)));
    stands = device_is;
  };
  accepted = accepted ∙ sym (accepted-early attachment.plug (first ∷ []) reply (omega arith));
  plug_is = refl;
  known = refl;
  notes_are = early-notes attachment.plug (first ∷ []) reply (omega arith);
}
address-turns attachment first reply device (Refused rule) least accepted device_is = record {
  comes = refl;
  accepted = accepted ∙ sym (accepted-early attachment.plug (first ∷ []) reply (omega arith));
  plug_is = refl;
  known = refl;
  notes_are = refl;
}

pub head-turns : (attachment : Attachment) (second first reply : Reply) (device : DeviceDesc) (verdict : Verdict)
    → attachment.least ≡ least_from None (refused_in attachment.plug (second ∷ first ∷ [])) → attachment.accepted.items ≡ accepted_in attachment.plug (second ∷ first ∷ [])
    → HasDevice attachment device first
    → Turns attachment.plug (second ∷ first ∷ []) reply attachment attachment (rule_of verdict) (head_outcome device (unless_refused verdict (word_at reply.bytes 2))) []
head-turns attachment second first reply device Accepted least accepted device_is = record {
  comes = record {
    none = refl;
    plan = refl;
    order = refl;
    least = least ∙ ap (λ (rules : List RuleName). least_from None rules) (sym (refused-early attachment.plug (second ∷ first ∷ []) reply (omega arith)));
    stands = (device_is, refl);
  };
  accepted = accepted ∙ sym (accepted-early attachment.plug (second ∷ first ∷ []) reply (omega arith));
  plug_is = refl;
  known = refl;
  notes_are = early-notes attachment.plug (second ∷ first ∷ []) reply (omega arith);
}
head-turns attachment second first reply device (Refused rule) least accepted device_is = record {
  comes = refl;
  accepted = accepted ∙ sym (accepted-early attachment.plug (second ∷ first ∷ []) reply (omega arith));
  plug_is = refl;
  known = refl;
  notes_are = refl;
}

pub configuration-turns : (attachment : Attachment) (third second first reply : Reply) (device : DeviceDesc) (verdict : Verdict)
    → attachment.least ≡ least_from None (refused_in attachment.plug (third ∷ second ∷ first ∷ []))
    → attachment.accepted.items ≡ accepted_in attachment.plug (third ∷ second ∷ first ∷ [])
    → HasDevice attachment device first
    → Turns attachment.plug (third ∷ second ∷ first ∷ []) reply attachment (with_configuration verdict device reply.bytes attachment) (rule_of verdict)
    (plain_outcome verdict (step.Configure (configuration_value reply.bytes))) (configuration_notes verdict attachment.plug reply.bytes)
configuration-turns attachment third second first reply device Accepted least accepted device_is = record {
  comes = record {
    none = refl;
    plan = refl;
    order = refl;
    least = least ∙ ap (λ (rules : List RuleName). least_from None rules) (sym (refused-early attachment.plug (third ∷ second ∷ first ∷ []) reply (omega arith)));
    stands = record { device = device_is.bytes; configuration = refl; size = device_is.size; shape = ap (λ (d : DeviceDesc). shape_of d reply.bytes) device_is.read; fits = refl };
  };
  accepted = accepted ∙ sym (accepted-early attachment.plug (third ∷ second ∷ first ∷ []) reply (omega arith));
  plug_is = refl;
  known = refl;
  notes_are = refl;
}
configuration-turns attachment third second first reply device (Refused rule) least accepted device_is = record {
  comes = refl;
  accepted = accepted ∙ sym (accepted-early attachment.plug (third ∷ second ∷ first ∷ []) reply (omega arith));
  plug_is = refl;
  known = refl;
  notes_are = refl;
}
