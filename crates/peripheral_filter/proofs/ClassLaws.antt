-- The classes of a configuration's interfaces, one after the other.
use Rattle.std.proofs.Common.{◌≡◌, ℕ, ◌+◌, ◌<◌, List, [], ◌∷◌, ◌++◌, length, take, ap, ◌∙◌, subst, sym}
use Rattle.std.proofs.lemmas.List.{take_more, get_or-map, length-map}
use Rattle.usb_descriptor.specs.Descriptor.{descriptors_of}
use Rattle.usb_descriptor.specs.Setting.{Setting, interfaces_of}
use Rattle.usb_descriptor.specs.View.{interface_count, interface_at}
use Rattle.peripheral_filter.specs.Classes.{class_of, classes_of}

pub classes_more : (bytes : List ℕ) (i : ℕ) → i < interface_count bytes
    → take (i + 1) (classes_of bytes) ≡ take i (classes_of bytes) ++ (interface_at i bytes).class ∷ []
classes_more bytes i h =
    let settings = interfaces_of (descriptors_of bytes) in
    let nothing : Setting = record { interface = []; others = [] } in
    let within : i < length (classes_of bytes) = subst (λ n. i < n) (sym (length-map settings class_of)) h in
    take_more (classes_of bytes) i 0 within
    ∙ ap (λ class. take i (classes_of bytes) ++ class ∷ []) (get_or-map class_of settings i nothing 0 h)
