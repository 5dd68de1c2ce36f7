-- A reply is judged by the enumeration; a token that isn't asked has none to give.
use Rattle.std.proofs.Common.{List, ◌∷◌, ◌++◌, None, sym, ap, subst, ◌∙◌}
use Rattle.std.proofs.lemmas.List.{append-nil}
use Rattle.psd_base.specs.declared.console.Note.{Note}
use Rattle.psd_base.specs.declared.console.Order.{Order}
use Rattle.psd_base.specs.declared.console.Plug.TheVariants.{Token}
use Rattle.console_host.specs.Replies.{reply_of}
use Rattle.console_host.specs.Stands.{AttachmentStands}
use Rattle.console_host.specs.declared.attachment.Attachment.{Attachment}
use Rattle.token_plug.specs.Lives.{Told, slot_calls, host_calls}
use Rattle.token_plug.specs.Moments.{Replied}
use Rattle.token_plug.specs.TokenGives.{routing_notes}
use Rattle.token_plug.proofs.Replying.{idle, ignored-stands, ignored-orders, ignored-notes, ready-after, ready-stands, ready-notes}
use Rattle.token_plug.proofs.plug.TokenPlug.reply.Goals as goal

pub returns-then-not-is_asking-clause-stands : goal.returns-then-not-is_asking-clause-stands
returns-then-not-is_asking-clause-stands c = λ past bridge g.
    let waits = idle c.args.rules.now past (λ asks. c.is_asking.ensures.other c.if-not-is_asking.true (g.parts.slot.state_is ∙ asks)) in
    ignored-stands c.args.rules.now c.args.life c.args.number c.args.tick (reply_of c.args.status c.args.bytes.now) past c.args.self.now bridge waits g

pub returns-then-not-is_asking-clause-orders : goal.returns-then-not-is_asking-clause-orders
returns-then-not-is_asking-clause-orders c = λ past bridge g.
    let waits = idle c.args.rules.now past (λ asks. c.is_asking.ensures.other c.if-not-is_asking.true (g.parts.slot.state_is ∙ asks)) in
    sym (append-nil c.args.orders.now.items)
    ∙ ap (λ (more : List Order). c.args.orders.now.items ++ more) (sym (ignored-orders c.args.rules.now c.args.life c.args.number c.args.tick (reply_of c.args.status c.args.bytes.now) past waits))

pub returns-then-not-is_asking-clause-notes : goal.returns-then-not-is_asking-clause-notes
returns-then-not-is_asking-clause-notes c = λ past bridge g.
    let waits = idle c.args.rules.now past (λ asks. c.is_asking.ensures.other c.if-not-is_asking.true (g.parts.slot.state_is ∙ asks)) in
    c.requires.empty ∙ sym (ignored-notes c.args.rules.now c.args.life c.args.number c.args.tick (reply_of c.args.status c.args.bytes.now) past waits)

pub returns-in-Ready-clause-stands : goal.returns-in-Ready-clause-stands
returns-in-Ready-clause-stands c = λ past bridge g.
    let rules = c.args.rules.now in
    let reply = reply_of c.args.status c.args.bytes.now in
    let moment = Replied c.args.life c.args.number c.args.tick reply in
    let asking = c.is_asking.ensures.asking c.if-not-is_asking.false in
    let ready = sym (c.in-Ready.ensures.answer Token (host_calls rules past) g.parts.attachment) in
    let attachment = c.in-Ready.ensures.stands Token (host_calls rules past) g.parts.attachment in
    let told : Told = record { slot = slot_calls rules past; host = host_calls rules (moment ∷ past) } in
    let set = c.accept.ensures.setting in
    let is_ready = ready-after rules c.args.life c.args.number c.args.tick reply past ready in
    ready-stands rules c.args.life c.args.number c.args.tick reply past c.args.self.now c.accept.new.self bridge g asking ready set.0 set.1 set.2
    (subst (λ (a : Attachment). AttachmentStands Token rules a (host_calls rules (moment ∷ past))) (sym set.3) attachment)
    (c.accept.ensures.slot rules told (record { slot = g.parts.slot; attachment = attachment }) is_ready)
    (c.accept.ensures.bridge rules told (record { slot = g.parts.slot; attachment = attachment }) is_ready)

pub returns-in-Ready-clause-notes : goal.returns-in-Ready-clause-notes
returns-in-Ready-clause-notes c = λ past bridge g.
    let rules = c.args.rules.now in
    let reply = reply_of c.args.status c.args.bytes.now in
    let moment = Replied c.args.life c.args.number c.args.tick reply in
    let asking = c.is_asking.ensures.asking c.if-not-is_asking.false in
    let ready = sym (c.in-Ready.ensures.answer Token (host_calls rules past) g.parts.attachment) in
    let attachment = c.in-Ready.ensures.stands Token (host_calls rules past) g.parts.attachment in
    let told : Told = record { slot = slot_calls rules past; host = host_calls rules (moment ∷ past) } in
    let said = c.in-Ready.ensures.notes Token (host_calls rules past) g.parts.attachment in
    c.accept.ensures.notes rules told (record { slot = g.parts.slot; attachment = attachment }) (ready-after rules c.args.life c.args.number c.args.tick reply past ready)
    ∙ ap (λ (first : List Note). first ++ routing_notes None c.args.self.now.selected) said
    ∙ sym (ready-notes rules c.args.life c.args.number c.args.tick reply past c.args.self.now bridge g asking ready)
