-- The definitions at work on small runs, each computed. Histories are newest first.
use Rattle.std.specs.Prelude.{◌≡◌, true, false, List, [], ◌∷◌, refl}
use Rattle.psd_base.specs.Event.{Seen, TimePasses, AtFront}
use Rattle.psd_base.specs.declared.console.Note.TheVariants as note
use Rattle.psd_base.specs.declared.console.Panel.TheVariants as panel
use Rattle.psd_base.specs.declared.console.Reason.TheVariants as reason
use Rattle.fail_secure.specs.Health.{health_after}
use Rattle.selector.specs.Panel.{ports_down}
use Rattle.selector.specs.Choice.{chosen}
use Rattle.psd_base.specs.KeySet.{no_keys}
use Rattle.console_plug.specs.Shown.{shown_keys, shown_buttons}
use Rattle.port_model.specs.Peripherals.{peripheral_notes, shows_none}
use Rattle.port_model.specs.Token.{early_token_notes, late_token_notes, token_news}
use Rattle.port_model.proofs.Examples.{no_rules, moved, tested}
use Rattle.switch_core.specs.Notes.{notes_at}

alive_is_noted : notes_at no_rules (moved 0 (panel.Check 4 true)) (moved 0 (panel.Check 3 true) ∷ moved 0 (panel.Check 2 true) ∷ moved 0 (panel.Check 1 true) ∷ [])
    ≡ note.Alive ∷ []
unfolding health_after ports_down peripheral_notes early_token_notes late_token_notes token_news shows_none
alive_is_noted = refl

failure_is_noted : notes_at no_rules (moved 9 (panel.Check 2 false)) tested ≡ note.Dark (reason.Check 2) ∷ []
unfolding health_after ports_down peripheral_notes early_token_notes late_token_notes token_news shows_none
failure_is_noted = refl

-- port 1 is selected at the clock event at 100
abbrev pressed : List Seen
pressed = moved 0 (panel.Button 1 true) ∷ moved 0 (panel.Guard true) ∷ tested

selection_is_noted : notes_at no_rules (record { tick = 100; happening = AtFront TimePasses }) pressed ≡ note.Select 1 ∷ []
unfolding health_after ports_down peripheral_notes early_token_notes late_token_notes token_news shows_none shown_keys shown_buttons no_keys chosen
selection_is_noted = refl

not_a_tick_earlier : notes_at no_rules (record { tick = 99; happening = AtFront TimePasses }) pressed ≡ []
unfolding health_after ports_down peripheral_notes early_token_notes late_token_notes token_news shows_none shown_keys shown_buttons no_keys chosen
not_a_tick_earlier = refl
