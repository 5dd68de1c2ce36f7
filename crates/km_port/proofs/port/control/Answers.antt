-- The pipe answers, and the keyboard and the mouse are told what was completed.
use Rattle.std.proofs.Common.{◌∙◌, sym, subst}
use Rattle.control_pipe.specs.Control.{transfer_completed, control_effect}
use Rattle.emulated_keyboard.specs.Delivery as typed
use Rattle.emulated_keyboard.specs.KeyboardStands.{KeyboardStands}
use Rattle.emulated_mouse.specs.Delivery as moved
use Rattle.emulated_mouse.specs.MouseStands.{MouseStands}
use Rattle.port_model.specs.Asked.{keys_asked, pointer_asked}
use Rattle.port_model.specs.Descriptors.{km_descriptor}
use Rattle.km_port.specs.KmFunction.{class_answer, keyboard_with_completed, mouse_with_completed}
use Rattle.port_model.specs.ClassRequests.{class_answer_after, takes_class_request}
use Rattle.port_model.specs.OnePort.{km_act}
use Rattle.km_port.specs.declared.km_function.KmFunction.{KmFunction}
use Rattle.km_port.proofs.KmFunctionLaws.{class_answer-is, keyboard_entered-kept, mouse_entered-kept, keyboard_after_act, mouse_after_act}
use Rattle.km_port.proofs.Sides.{keyboard-effect, mouse-effect, keys_asked-keyboard, pointer_asked-mouse, moment_of-same}
use Rattle.km_port.proofs.port.control.Goals as goal

pub returns-clause-entered : goal.returns-clause-entered
returns-clause-entered c = λ entered before. c.tell.ensures.entered entered (record {
  keyboard = rw c.function_mut.ensures.value (c.answer-effect.ensures.keeps (λ f. f.keyboard.entered) keyboard_entered-kept ∙ before.keyboard);
  mouse = rw c.function_mut.ensures.value (c.answer-effect.ensures.keeps (λ f. f.mouse.entered) mouse_entered-kept ∙ before.mouse);
})

pub returns-clause-stands : goal.returns-clause-stands
returns-clause-stands c = λ parts stands.
    let tick = c.args.tick in
    let act = c.args.act.now in
    let done = transfer_completed parts.control act in
    let before = c.args.pipe.now.function in
    let same = moment_of-same km_descriptor (class_answer before) (class_answer_after (typed.sides_of parts.keys).keyboard (moved.sides_of parts.pointer).mouse) takes_class_request act
    (λ setup. class_answer-is before (typed.sides_of parts.keys).keyboard (moved.sides_of parts.pointer).mouse stands.keyboard stands.mouse setup) in
    let function = c.answer-effect.ensures.function parts.control stands.control in
    let effect = c.answer-effect.ensures.effect parts.control stands.control in
    let keys = keyboard_with_completed tick done (typed.sides_of parts.keys).keyboard in
    let pointer = mouse_with_completed done (moved.sides_of parts.pointer).mouse in
    let keyboard = subst (λ (f : KmFunction). KeyboardStands f.keyboard keys) (sym function) (keyboard_after_act before parts.control tick act _ stands.keyboard) in
    let mouse = subst (λ (f : KmFunction). MouseStands f.mouse pointer) (sym function) (mouse_after_act before parts.control tick act _ stands.mouse) in
    record {
      control = rw (sym same) (c.answer-effect.ensures.stands parts.control stands.control);
      keyboard = rw (keyboard-effect tick (control_effect parts.control (km_act parts act)) (keys_asked tick done parts.keys), keys_asked-keyboard tick done parts.keys, sym effect)
          (c.tell.ensures.keyboard keys (rw c.function_mut.ensures.value keyboard));
      mouse = rw (mouse-effect (control_effect parts.control (km_act parts act)) (pointer_asked done parts.pointer), pointer_asked-mouse done parts.pointer, sym effect)
          (c.tell.ensures.mouse pointer (rw c.function_mut.ensures.value mouse));
    }
