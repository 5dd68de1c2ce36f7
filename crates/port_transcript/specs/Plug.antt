-- The names of plugs.
use Rattle.std.specs.Prelude.{ℕ, List, codes}
use Rattle.psd_base.specs.declared.console.Plug.{Plug}
use Rattle.psd_base.specs.declared.console.Plug.TheVariants.{Keyboard, Mouse, Token}

unfoldable pub plug_text : Plug → List ℕ
plug_text Keyboard = codes "KEYBOARD"
plug_text Mouse = codes "MOUSE"
plug_text Token = codes "TOKEN"
