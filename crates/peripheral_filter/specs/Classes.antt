-- The classes of a configuration's interfaces (USB 2.0, section 9.6.5).
use Rattle.std.specs.Prelude.{ℕ, ◌==◌, Bool, List, map}
use Rattle.std.specs.List.{list_any}
use Rattle.psd_base.specs.declared.console.Plug.{Plug}
use Rattle.psd_base.specs.declared.console.Plug.TheVariants.{Keyboard, Mouse, Token}
use Rattle.usb_descriptor.specs.Descriptor.{descriptors_of}
use Rattle.usb_descriptor.specs.Setting.{Setting, interfaces_of}
use Rattle.usb_descriptor.specs.View.{interface_fields}
use Rattle.peripheral_filter.specs.declared.class.TheConstants.{HID_CLASS, SMART_CARD_CLASS}

abbrev pub class_of : Setting → ℕ
class_of s = (interface_fields s.interface).class

-- the classes of the interfaces, in their order
abbrev pub classes_of : List ℕ → List ℕ
classes_of bytes = map class_of (interfaces_of (descriptors_of bytes))

abbrev pub has_class : ℕ → List ℕ → Bool
has_class wanted classes = list_any (λ class. class == wanted) classes

-- the class of the interfaces that this plug is for
abbrev pub class_for : Plug → ℕ
class_for Keyboard = HID_CLASS
class_for Mouse = HID_CLASS
class_for Token = SMART_CARD_CLASS
