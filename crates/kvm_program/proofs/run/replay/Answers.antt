-- The rules are taken, and then the events are replayed under them.
use Rattle.std.proofs.lemmas.Result.{err_from_is_err_and}
use Rattle.kvm_program.proofs.Commands.{Replays-refused, Replays-run}
use Rattle.kvm_program.proofs.run.replay.Goals as goal

pub returns-in_err-rules-clause-promise : goal.returns-in_err-rules-clause-promise
returns-in_err-rules-clause-promise g c =
    let p = err_from_is_err_and c.from_residual.result c.from_residual.ensures.1 in
    rw (p.1, p.2) (Replays-refused _ (g.D.Desk.told c.args.desk.now) (g.D.Desk.told c.take_rules.new.desk) c.in_err-rules.ensures.stop c.take_rules.ensures.few c.take_rules.ensures.only)

pub returns-clause-promise : goal.returns-clause-promise
returns-clause-promise g c =
    Replays-run c.in_ok-rules.rules c.replay_events.result (g.D.Desk.told c.args.desk.now) (g.D.Desk.told c.take_rules.new.desk) (g.D.Desk.told c.replay_events.new.desk)
    c.take_rules.ensures.only c.take_rules.ensures.few c.in_ok-rules.ensures.rules c.replay_events.ensures.serves c.replay_events.ensures.stop c.replay_events.ensures.only
