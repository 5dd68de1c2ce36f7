-- What an answer comes to is what the plan says, for each list of calls.
use Rattle.std.proofs.Common.{◌≤◌, length, sym, subst, ◌∙◌}
use Rattle.console_host.specs.declared.attachment.Attachment.{Attachment}
use Rattle.console_host.specs.declared.fit.TheConstants.{INTERFACES_MAX}
use Rattle.console_host.specs.Replies.{reply_of}
use Rattle.console_host.specs.Lives.{standing, after_reply}
use Rattle.console_host.specs.Stands.{StandsAt}
use Rattle.console_host.proofs.Standing.{stands-replied, next-replied, notes-replied}
use Rattle.console_host.proofs.attachment.Attachment.reply.Goals as goal

pub returns-clause-stands : goal.returns-clause-stands
returns-clause-stands c = λ plug past stands.
    let few : length c.answer.new.self.fits.items ≤ INTERFACES_MAX = c.answer.ensures.few stands.few in
    subst (λ (v : Attachment). StandsAt plug c.args.rules.now v (after_reply plug c.args.rules.now c.args.life c.args.number c.args.tick (reply_of c.args.status c.args.bytes.now) (standing plug c.args.rules.now past) (standing plug c.args.rules.now past).life))
    (sym c.answer.ensures.after)
    (stands-replied plug c.args.self.now c.args.rules.now c.args.life c.args.number c.args.tick (reply_of c.args.status c.args.bytes.now) (standing plug c.args.rules.now past) stands
    (subst (λ (v : Attachment). length v.fits.items ≤ INTERFACES_MAX) c.answer.ensures.after few))

pub returns-clause-answer : goal.returns-clause-answer
returns-clause-answer c = λ plug past stands.
    c.answer.ensures.next ∙ next-replied plug c.args.self.now c.args.rules.now c.args.life c.args.number c.args.tick (reply_of c.args.status c.args.bytes.now) (standing plug c.args.rules.now past) stands

pub returns-clause-notes : goal.returns-clause-notes
returns-clause-notes c = λ plug past stands.
    c.answer.ensures.notes ∙ notes-replied plug c.args.self.now c.args.rules.now c.args.life c.args.number c.args.tick (reply_of c.args.status c.args.bytes.now) (standing plug c.args.rules.now past) stands
