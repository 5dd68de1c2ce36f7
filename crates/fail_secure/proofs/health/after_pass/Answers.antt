-- The bits tell whether all checks passed.
use Rattle.fail_secure.proofs.Reports.{testing-is, still_testing, alive-passed, dark-passed}
use Rattle.fail_secure.proofs.health.after_pass.Goals as goal

pub returns-then-passed-lt-ALL_CHECKS-clause-health : goal.returns-then-passed-lt-ALL_CHECKS-clause-health
returns-then-passed-lt-ALL_CHECKS-clause-health c = λ past before.
    still_testing c.args.check c.args.buttons_up past c.args.passed c.with_check-passed.result before
    (c.with_check-passed.ensures past c.args.buttons_up (testing-is past c.args.passed before).bits) c.if-passed-lt-ALL_CHECKS.true

pub returns-then-buttons_up-clause-health : goal.returns-then-buttons_up-clause-health
returns-then-buttons_up-clause-health c = λ past before.
    alive-passed c.args.check c.args.buttons_up past c.args.passed c.with_check-passed.result before
    (c.with_check-passed.ensures past c.args.buttons_up (testing-is past c.args.passed before).bits) c.if-passed-lt-ALL_CHECKS.false c.if-buttons_up.true

pub returns-else-buttons_up-clause-health : goal.returns-else-buttons_up-clause-health
returns-else-buttons_up-clause-health c = λ past before.
    dark-passed c.args.check c.args.buttons_up past c.args.passed c.with_check-passed.result before
    (c.with_check-passed.ensures past c.args.buttons_up (testing-is past c.args.passed before).bits) c.if-passed-lt-ALL_CHECKS.false c.if-buttons_up.false
