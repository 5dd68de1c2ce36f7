-- A failure makes it dark; a pass changes nothing once it is alive, and nothing changes once it is dark.
use Rattle.std.proofs.Common.{◌∙◌, sym}
use Rattle.fail_secure.specs.Health.{Checked}
use Rattle.fail_secure.proofs.Reports.{dark-failed, dark-still, alive-still}
use Rattle.fail_secure.proofs.health.Health.report.Goals as goal

pub returns-in-Testing-2-clause-health : goal.returns-in-Testing-2-clause-health
returns-in-Testing-2-clause-health c = λ past before. rw c.if-pass.false (dark-failed c.args.check c.args.buttons_up past)

pub returns-in-Alive-clause-health : goal.returns-in-Alive-clause-health
returns-in-Alive-clause-health c = λ past before.
    rw c.if-pass-2.true (alive-still c.args.check c.args.buttons_up past (sym c.in-Alive.is ∙ before))

pub returns-in-Alive-2-clause-health : goal.returns-in-Alive-2-clause-health
returns-in-Alive-2-clause-health c = λ past before. rw c.if-pass-2.false (dark-failed c.args.check c.args.buttons_up past)

pub returns-in-Dark-clause-health : goal.returns-in-Dark-clause-health
returns-in-Dark-clause-health c = λ past before.
    dark-still (Checked c.args.check c.args.pass c.args.buttons_up) past (sym c.in-Dark.is ∙ before)
