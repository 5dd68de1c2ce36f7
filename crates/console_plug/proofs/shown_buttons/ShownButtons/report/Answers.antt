-- A report gives its motion with the buttons of all interfaces.
use Rattle.std.proofs.Common.{◌≡◌, ℕ, ◌<◌, List, ◌∷◌, Some, slice_set, ap, ◌∙◌}
use Rattle.psd_base.specs.declared.sample.Sample.{Sample}
use Rattle.psd_base.specs.declared.console.Plug.TheVariants.{Mouse}
use Rattle.peripheral_filter.specs.declared.rule.RuleSet.{RuleSet}
use Rattle.console_plug.specs.Lives.{life_at}
use Rattle.console_plug.specs.Moments.{Moment, Reported}
use Rattle.console_plug.specs.Shown.{at_place, all_buttons, button_snapshots, buttons_of, last_of_each, shown_buttons, snapshot_of}
use Rattle.console_plug.proofs.Snapshots.{all_buttons-more, given-more}
use Rattle.console_plug.proofs.shown_buttons.ShownButtons.report.Goals as goal

shown-more : (rules : RuleSet) (interface : ℕ) (bytes : List ℕ) (past : List Moment) (place buttons : ℕ) (each : List ℕ) → place < 8
    → Some (at_place place buttons) ≡ snapshot_of buttons_of Mouse rules interface bytes (life_at Mouse rules past)
    → each ≡ last_of_each 0 (button_snapshots rules past)
    → all_buttons 0 (slice_set each place buttons) ≡ shown_buttons rules (Reported interface bytes ∷ past)
unfolding shown_buttons
shown-more rules interface bytes past place buttons each within said kept =
    all_buttons-more (button_snapshots rules past) place buttons each _ within said kept

pub returns-in-Some-clause-given : goal.returns-in-Some-clause-given
returns-in-Some-clause-given c = λ rules past stands g.
    let all = shown-more rules c.args.interface c.args.bytes.now past c.in-Some.snapshot.place c.in-Some.snapshot.sample.buttons c.args.self.now.each c.in-Some.ensures.within
    (c.in-Some.ensures.buttons rules past stands) g.each in
    ap (λ (s : Sample). Some s) c.with_buttons.ensures
    ∙ given-more c.in-Some.snapshot.place c.in-Some.snapshot.sample _ _ _ (c.in-Some.ensures.sample rules past stands) (c.all_buttons-self.ensures.value ∙ all)
