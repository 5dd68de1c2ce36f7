-- What is wrong with the first descriptor, or that nothing is.
use Rattle.std.proofs.Common.{◌∙◌, ap, sym}
use Rattle.std.proofs.lemmas.Bool.{lt-ltb, ne_eqb}
use Rattle.usb_descriptor.specs.Descriptor.{front_of, kind_of}
use Rattle.usb_descriptor.proofs.Cuts.{kind-front}
use Rattle.usb_descriptor.proofs.Faults.{config_fault-short, head_fault, head_kind, head_length, headed}
use Rattle.usb_descriptor.proofs.config.split_head.Goals as goal

pub returns-then-bytes-lt9 : goal.returns-then-bytes-lt9
returns-then-bytes-lt9 c = config_fault-short c.args.bytes.now (lt-ltb _ 9 c.if-bytes-lt9.true)

pub returns-then-bytes-ne-CONFIGURATION : goal.returns-then-bytes-ne-CONFIGURATION
returns-then-bytes-ne-CONFIGURATION c =
    let bytes = c.args.bytes.now in
    head_fault bytes _ c.if-bytes-lt9.false
    (head_kind (front_of bytes) (ne_eqb (kind_of (front_of bytes)) 2 (λ is. c.if-bytes-ne-CONFIGURATION.true (sym (kind-front bytes) ∙ is))))

pub returns-in_default : goal.returns-in_default
returns-in_default c =
    let bytes = c.args.bytes.now in
    head_fault bytes _ c.if-bytes-lt9.false (head_length (front_of bytes) (kind-front bytes ∙ c.if-bytes-ne-CONFIGURATION.false) c.in_default.ensures)

pub returns : goal.returns
returns c =
    let bytes = c.args.bytes.now in
    let split = c.in-Some.ensures in
    headed bytes c.in-Some.first.now c.in-Some.others.now split c.if-bytes-lt9.false
    (ap kind_of split.first ∙ kind-front bytes ∙ c.if-bytes-ne-CONFIGURATION.false)
