-- What a reply makes of the power, by what comes next.
use Rattle.std.proofs.Common.{ℕ, List, ◌∷◌, ◌++◌, Option, None, sym, ap, subst, ◌∙◌}
use Rattle.std.proofs.lemmas.List.{append-nil}
use Rattle.psd_base.specs.declared.console.Order.{Order}
use Rattle.psd_base.specs.declared.console.Plug.{Plug}
use Rattle.console_host.specs.Replies.{reply_of}
use Rattle.console_host.specs.Stands.{AttachmentStands}
use Rattle.console_host.specs.declared.attachment.Attachment.{Attachment}
use Rattle.console_plug.specs.Lives.{host_calls}
use Rattle.console_plug.specs.Moments.{Replied}
use Rattle.console_plug.specs.PlugGives.{power_orders}
use Rattle.console_plug.specs.PlugStands.{power_of}
use Rattle.console_plug.proofs.Powering.{replied, replied-orders}
use Rattle.console_plug.proofs.plug.ConsolePlug.reply.Goals as goal

pub returns-in-Ask-clause-stands : goal.returns-in-Ask-clause-stands
returns-in-Ask-clause-stands c = λ plug past g.
    let answered = c.in-Ask.ensures.answer plug (host_calls past) g.attachment in
    let power = replied plug c.args.rules.now c.args.life c.args.number c.args.tick (reply_of c.args.status c.args.bytes.now) past _ answered in
    record {
      plug_is = g.plug_is;
      alive = g.alive;
      attached = g.attached;
      life = g.life;
      power = g.power ∙ sym power;
      attachment = c.in-Ask.ensures.stands plug (host_calls past) g.attachment;
    }

pub returns-in-Ready-clause-stands : goal.returns-in-Ready-clause-stands
returns-in-Ready-clause-stands c = λ plug past g.
    let answered = c.in-Ready.ensures.answer plug (host_calls past) g.attachment in
    let power = replied plug c.args.rules.now c.args.life c.args.number c.args.tick (reply_of c.args.status c.args.bytes.now) past _ answered in
    record {
      plug_is = g.plug_is;
      alive = g.alive;
      attached = g.attached;
      life = g.life;
      power = g.power ∙ sym power;
      attachment = c.in-Ready.ensures.stands plug (host_calls past) g.attachment;
    }

pub returns-in-Ask-clause-orders : goal.returns-in-Ask-clause-orders
returns-in-Ask-clause-orders c = λ plug past g.
    let answered = c.in-Ask.ensures.answer plug (host_calls past) g.attachment in
    let orders = replied-orders plug c.args.rules.now c.args.life c.args.number c.args.tick (reply_of c.args.status c.args.bytes.now) past _ answered in
    c.push.ensures ∙ ap (λ (more : List Order). c.args.orders.now.items ++ more) (sym orders)

pub returns-in-Ready-clause-orders : goal.returns-in-Ready-clause-orders
returns-in-Ready-clause-orders c = λ plug past g.
    let answered = c.in-Ready.ensures.answer plug (host_calls past) g.attachment in
    let orders = replied-orders plug c.args.rules.now c.args.life c.args.number c.args.tick (reply_of c.args.status c.args.bytes.now) past _ answered in
    sym (append-nil c.args.orders.now.items) ∙ ap (λ (more : List Order). c.args.orders.now.items ++ more) (sym orders)

pub returns-in-Refused-clause-stands : goal.returns-in-Refused-clause-stands
returns-in-Refused-clause-stands c = λ plug past g.
    let answered = c.in-Refused.ensures.answer plug (host_calls past) g.attachment in
    let power = replied plug c.args.rules.now c.args.life c.args.number c.args.tick (reply_of c.args.status c.args.bytes.now) past _ answered in
    let off = c.power_off.ensures in
    record {
      plug_is = off.place ∙ g.plug_is;
      alive = off.state.0 ∙ g.alive;
      attached = off.state.1 ∙ g.attached;
      life = off.power.0 ∙ g.life;
      power = rw off.power.1 (sym power);
      attachment = subst (λ (a : Attachment). AttachmentStands plug c.args.rules.now a (host_calls (Replied c.args.life c.args.number c.args.tick (reply_of c.args.status c.args.bytes.now) ∷ past))) (sym off.attachment) (c.in-Refused.ensures.stands plug (host_calls past) g.attachment);
    }

pub returns-in-Refused-clause-orders : goal.returns-in-Refused-clause-orders
returns-in-Refused-clause-orders c = λ plug past g.
    let answered = c.in-Refused.ensures.answer plug (host_calls past) g.attachment in
    let orders = replied-orders plug c.args.rules.now c.args.life c.args.number c.args.tick (reply_of c.args.status c.args.bytes.now) past _ answered in
    let taken = ap (λ (power : Option ℕ). power_orders plug power None) g.power in
    c.power_off.ensures.orders ∙ ap (λ (more : List Order). c.args.orders.now.items ++ more)
    (ap (λ (p : Plug). power_orders p (power_of c.args.self.now.powered c.args.self.now.life) None) g.plug_is ∙ taken ∙ sym orders)
