-- The token replies.
use Rattle.std.proofs.Common.{List, ◌++◌, sym, ap, ◌∙◌}
use Rattle.psd_base.specs.declared.console.Note.{Note}
use Rattle.console_host.specs.Replies.{reply_of}
use Rattle.token_plug.specs.Moments.{Replied}
use Rattle.token_plug.specs.TokenGives.{notes_at}
use Rattle.switch_core.proofs.token.reply_token.Goals as goal

pub returns-in-Token-clause-orders : goal.returns-in-Token-clause-orders
returns-in-Token-clause-orders c = λ past bridge stands. rw c.in-Token.is (c.reply.ensures.orders past bridge stands)

pub returns-in-Token-clause-notes : goal.returns-in-Token-clause-notes
returns-in-Token-clause-notes c = λ past bridge stands.
    rw c.in-Token.is
    (c.reply.ensures.notes past bridge stands
    ∙ sym (ap (λ (notes : List Note). notes ++ notes_at c.args.rules.now (Replied c.args.life c.args.number c.args.tick (reply_of c.args.status c.args.bytes.now)) past) (c.requires.empty c.in-Token.is)))
