-- What the event gave is written and counted.
use Rattle.std.proofs.Common.{subst}
use Rattle.psd_base.specs.Event.{seen}
use Rattle.switch_core.specs.Gives.{Gives, gives_of}
use Rattle.kvm_program.specs.Outlets.{WroteTo}
use Rattle.kvm_program.specs.Texts.{turn_text}
use Rattle.kvm_program.proofs.Counting.{Counts-more, HasRoom-more}
use Rattle.kvm_program.proofs.replay.Server.serve.Goals as goal

pub returns-clause-counted : goal.returns-clause-counted
returns-clause-counted g c = λ rules past stands counts.
    let wrote = c.write_turn.ensures in
    Counts-more rules c.write_turn.result _ _ (gives_of (seen c.args.event.now) c.step.new.turn) (seen c.args.event.now) past (c.step.ensures.gives rules past stands) counts wrote.counted wrote.left wrote.refused

pub returns-clause-wrote : goal.returns-clause-wrote
returns-clause-wrote g c = λ rules past stands to.
    subst (λ (gives : Gives). WroteTo to c.write_turn.result (g.D.Desk.told c.args.desk.now) (g.D.Desk.told c.write_turn.new.desk) (turn_text to c.args.event.now.tick gives))
    (c.step.ensures.gives rules past stands) (c.write_turn.ensures.wrote to)

pub returns-clause-room : goal.returns-clause-room
returns-clause-room g c =
    let wrote = c.write_turn.ensures in
    HasRoom-more c.write_turn.result _ _ _ _ _ c.step.ensures.served c.requires.room wrote.short wrote.counted wrote.few_left wrote.few_refused
