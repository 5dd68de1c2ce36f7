-- What an interface descriptor adds to the tally, by its alternate setting, its number and the room.
use Rattle.std.proofs.Common.{refl, sym, ◌∙◌, arith}
use Rattle.std.proofs.lemmas.Bool.{eqb-true, eqb-false}
use Rattle.usb_descriptor.proofs.KindSteps.{alternate_setting, repeated_interface, ninth_interface, new_interface}
use Rattle.usb_descriptor.proofs.tally.Tally.add_interface.Goals as goal

pub returns-then-not-begins_interface : goal.returns-then-not-begins_interface
returns-then-not-begins_interface c = λ ds h.
    alternate_setting ds c.args.descriptor.now c.args.self.now h c.requires.whole c.requires.kind
    (sym c.begins_interface.ensures ∙ c.if-not-begins_interface.true)

pub returns-then-has_number : goal.returns-then-has_number
returns-then-has_number c = λ ds h.
    repeated_interface ds c.args.descriptor.now c.args.self.now h c.requires.whole c.requires.kind
    (sym c.begins_interface.ensures ∙ c.if-not-begins_interface.false) (sym c.has_number.ensures ∙ c.if-has_number.true)

pub returns-then-is_full : goal.returns-then-is_full
returns-then-is_full c = λ ds h.
    ninth_interface ds c.args.descriptor.now c.args.self.now h c.requires.whole c.requires.kind
    (sym c.begins_interface.ensures ∙ c.if-not-begins_interface.false) (sym c.has_number.ensures ∙ c.if-has_number.false)
    (omega (arith, eqb-true _ 8 (sym c.is_full.ensures.value ∙ c.if-is_full.true)))

pub returns : goal.returns
returns c = λ ds h.
    new_interface ds c.args.descriptor.now c.args.self.now h c.requires.whole _ c.requires.kind
    (sym c.begins_interface.ensures ∙ c.if-not-begins_interface.false) (sym c.has_number.ensures ∙ c.if-has_number.false)
    (omega (arith, eqb-false _ 8 (sym c.is_full.ensures.value ∙ c.if-is_full.false), c.is_full.ensures.fits))
    c.push.ensures.items refl refl refl refl
