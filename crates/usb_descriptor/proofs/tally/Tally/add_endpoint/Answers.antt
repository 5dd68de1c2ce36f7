-- What an endpoint descriptor adds to the tally, by where it stands, the room and its direction.
use Rattle.std.proofs.Common.{arith, refl, sym, ap, cond, bit_or}
use Rattle.std.proofs.lemmas.Bool.{le-leb, lt-leb}
use Rattle.usb_descriptor.proofs.KindSteps.{endpoint_first, endpoint_alternate, seventeenth_endpoint, new_endpoint}
use Rattle.usb_descriptor.proofs.tally.Tally.add_endpoint.Goals as goal

pub returns-in-Configuration : goal.returns-in-Configuration
returns-in-Configuration c = λ ds h.
    endpoint_first ds c.args.descriptor.now c.args.self.now h c.requires.whole c.requires.kind c.in-Configuration.is

pub returns-in-Alternate : goal.returns-in-Alternate
returns-in-Alternate c = λ ds h.
    endpoint_alternate ds c.args.descriptor.now c.args.self.now h c.requires.whole c.requires.kind c.in-Alternate.is

pub returns-then-self-ge-MOST_ENDPOINTS : goal.returns-then-self-ge-MOST_ENDPOINTS
returns-then-self-ge-MOST_ENDPOINTS c = λ ds h.
    seventeenth_endpoint ds c.args.descriptor.now c.args.self.now h c.requires.whole c.requires.kind c.in-Interface.is (omega arith)

pub returns-then-descriptor-ge128 : goal.returns-then-descriptor-ge128
returns-then-descriptor-ge128 c = λ ds h.
    let t = c.args.self.now in
    let in_side = le-leb 128 _ c.if-descriptor-ge128.true in
    new_endpoint ds c.args.descriptor.now t h c.requires.whole _ c.endpoint_bit-bit.result c.endpoint_bit-bit.ensures c.requires.kind c.in-Interface.is
    (omega arith) refl refl c.in-Interface.is
    (ap (λ b. cond b (bit_or t.ins c.endpoint_bit-bit.result) t.ins) (sym in_side))
    (ap (λ b. cond b t.outs (bit_or t.outs c.endpoint_bit-bit.result)) (sym in_side))

pub returns-else-descriptor-ge128 : goal.returns-else-descriptor-ge128
returns-else-descriptor-ge128 c = λ ds h.
    let t = c.args.self.now in
    let out_side = lt-leb 128 _ c.if-descriptor-ge128.false in
    new_endpoint ds c.args.descriptor.now t h c.requires.whole _ c.endpoint_bit-bit.result c.endpoint_bit-bit.ensures c.requires.kind c.in-Interface.is
    (omega arith) refl refl c.in-Interface.is
    (ap (λ b. cond b (bit_or t.ins c.endpoint_bit-bit.result) t.ins) (sym out_side))
    (ap (λ b. cond b t.outs (bit_or t.outs c.endpoint_bit-bit.result)) (sym out_side))
