-- A port is selected where none was.
use Rattle.std.proofs.Common.{◌≡◌, List, ◌++◌, None, sym, ap, ◌∙◌}
use Rattle.psd_base.specs.declared.console.Note.{Note}
use Rattle.token_plug.specs.Lives.{selected_at, told_at}
use Rattle.token_plug.proofs.Choosing.{checked-ready, chosen-stands, chosen-notes}
use Rattle.token_plug.proofs.plug.TokenPlug.select.Goals as goal

pub returns-in-None-clause-stands : goal.returns-in-None-clause-stands
returns-in-None-clause-stands c = λ rules past bridge g.
    let none : selected_at past ≡ None = sym g.selected ∙ c.in-None.is in
    let set = c.choose.ensures.setting in
    chosen-stands rules c.args.port past none c.args.self.now c.choose.new.self bridge g set.0 set.1 set.2 set.3
    (c.choose.ensures.slot rules (told_at rules past) g.parts (checked-ready rules past))
    (c.choose.ensures.bridge rules (told_at rules past) g.parts (checked-ready rules past) bridge g.bridge_is)

pub returns-in-None-clause-notes : goal.returns-in-None-clause-notes
returns-in-None-clause-notes c = λ rules past bridge g.
    let none : selected_at past ≡ None = sym g.selected ∙ c.in-None.is in
    c.choose.ensures.notes rules (told_at rules past) g.parts (checked-ready rules past)
    ∙ ap (λ (more : List Note). c.args.notes.now.items ++ more) (sym (chosen-notes rules c.args.port past none))
