-- What the keyboard and mouse connector of a computer stands for.
use Rattle.std.specs.Prelude.{◌≡◌, Bool, true, List}
use Rattle.control_pipe.specs.PipeStands.{PipeValue, PipeStands}
use Rattle.emulated_keyboard.specs.KeyboardStands.{KeyboardStands}
use Rattle.emulated_keyboard.specs.Delivery as typed
use Rattle.emulated_mouse.specs.MouseStands.{MouseStands}
use Rattle.emulated_mouse.specs.Delivery as moved
use Rattle.port_model.specs.Concerns.{Item, is_live}
use Rattle.port_model.specs.OnePort.{Parts, parts_of}
use Rattle.km_port.specs.declared.km_function.KmFunction.{KmFunction}
use Rattle.km_port.specs.declared.port.Port.{Port}
use Rattle.km_port.specs.declared.port.Live.{Live}

-- each part stands for what it was told
pub record KmStands (pipe : PipeValue KmFunction) (parts : Parts) : Type 0 where
  pub control : PipeStands pipe parts.control
  pub keyboard : KeyboardStands pipe.function.keyboard (typed.sides_of parts.keys).keyboard
  pub mouse : MouseStands pipe.function.mouse (moved.sides_of parts.pointer).mouse

-- a live port answers by what concerned it since it woke
pub record LiveStands (port : Port Live) (past : List Item) : Type 0 where
  pub live : is_live past ≡ true
  pub parts : KmStands port.state.pipe (parts_of past)

-- whether keyboard and mouse are those of the selected port
pub record IsEntered (entered : Bool) (function : KmFunction) : Type 0 where
  pub keyboard : function.keyboard.entered ≡ entered
  pub mouse : function.mouse.entered ≡ entered
