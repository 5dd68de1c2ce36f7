-- A completed SET_CONFIGURATION and a bus reset flush the latches.
use Rattle.std.proofs.Common.{◌∙◌, true, sym}
use Rattle.control_pipe.specs.Control.{control_effect, transfer_completed}
use Rattle.emulated_keyboard.specs.Delivery as typed
use Rattle.emulated_mouse.specs.Delivery as moved
use Rattle.port_model.specs.Asked.{keys_asked, pointer_asked}
use Rattle.port_model.specs.OnePort.{km_act}
use Rattle.km_port.proofs.Sides.{keys-effect, pointer-effect, keys_asked-latch, pointer_asked-latch, keys_asked-entered, pointer_asked-entered}
use Rattle.km_port.proofs.port.control_owned.Goals as goal

pub returns-clause-console : goal.returns-clause-console
returns-clause-console c = λ parts stands latches.
    let tick = c.args.tick in
    let act = c.args.act.now in
    let done = transfer_completed parts.control act in
    let told = control_effect parts.control (km_act parts act) in
    let after = c.control-effect.ensures.stands parts stands in
    let entered = c.control-effect.ensures.entered true c.requires.entered in
    let effect = c.control-effect.ensures.effect parts stands in
    let keys_selected = keys_asked-entered tick done parts.keys ∙ latches.selected.keyboard in
    let pointer_selected = pointer_asked-entered done parts.pointer ∙ latches.selected.mouse in
    record {
      selected = record {
        keyboard = sym after.keyboard.entered ∙ entered.keyboard;
        mouse = sym after.mouse.entered ∙ entered.mouse;
      };
      keys = rw (keys-effect tick told (keys_asked tick done parts.keys) keys_selected, keys_asked-latch tick done parts.keys, sym effect)
          (c.flush_at.ensures.keys (typed.sides_of parts.keys).latch latches.keys);
      pointer = rw (pointer-effect told (pointer_asked done parts.pointer) pointer_selected, pointer_asked-latch done parts.pointer, sym effect)
          (c.flush_at.ensures.pointer (moved.sides_of parts.pointer).latch latches.pointer);
    }
