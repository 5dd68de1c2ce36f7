-- Two ports own the token one after another, computed.
use Rattle.std.specs.Prelude.{◌≡◌, ℕ, true, false, List, [], ◌∷◌, Some, take, refl}
use Rattle.std.specs.List.{filter}
use Rattle.psd_base.specs.Event.{Doing, Seen, TimePasses, PortActs, PanelMoves, AtFront, Attaches, Replies, Finishes}
use Rattle.psd_base.specs.Setup.{setup_of}
use Rattle.psd_base.specs.declared.setup.Setup.{Setup}
use Rattle.psd_base.specs.declared.act.Act.TheVariants as act
use Rattle.psd_base.specs.declared.act.Side.TheVariants.{Ua}
use Rattle.psd_base.specs.declared.console.JobKind.TheVariants as job
use Rattle.psd_base.specs.declared.console.Order.{Order}
use Rattle.psd_base.specs.declared.console.Order.TheVariants as order
use Rattle.psd_base.specs.declared.console.Panel.TheVariants as panel
use Rattle.psd_base.specs.declared.console.Plug.TheVariants.{Token}
use Rattle.peripheral_filter.specs.declared.rule.RuleSet.{RuleSet}
use Rattle.fail_secure.specs.Health.{health_after}
use Rattle.selector.specs.Panel.{ports_down}
use Rattle.selector.specs.Choice.{chosen}
use Rattle.psd_base.specs.KeySet.{no_keys}
use Rattle.usb_descriptor.specs.Descriptor.{cut_after}
use Rattle.usb_descriptor.specs.Endpoint.{bit_set}
use Rattle.usb_descriptor.specs.Fault.{fault_of, first_fault, total_fault, config_fault}
use Rattle.usb_descriptor.specs.Setting.{up_to_interface, settings_of}
use Rattle.usb_descriptor.specs.Tally.{within_after}
use Rattle.console_plug.specs.Shown.{shown_keys, shown_buttons}
use Rattle.port_model.specs.Peripherals.{peripheral_orders, shows_none}
use Rattle.switch_core.specs.Stamped.{stamp, stamped_orders, powers_in}
use Rattle.port_model.specs.Token.{token_news, token_orders, token_port}
use Rattle.port_model.specs.FrontEvents.{front_event, front_of}
use Rattle.switch_core.specs.Independence.{is_job}
use Rattle.port_model.specs.Concerns as news

abbrev no_rules : RuleSet
no_rules = record { allow = record { items = [] }; deny = record { items = [] } }

abbrev device : List ℕ
device =
    0x12 ∷ 0x01 ∷ 0x00 ∷ 0x02 ∷ 0x00 ∷ 0x00 ∷ 0x00 ∷ 0x08 ∷ 0x34 ∷ 0x12 ∷ 0x03 ∷ 0x00 ∷ 0x00 ∷ 0x01
    ∷ 0x00 ∷ 0x00 ∷ 0x00 ∷ 0x01 ∷ []

abbrev configuration : List ℕ
configuration =
    0x09 ∷ 0x02 ∷ 0x20 ∷ 0x00 ∷ 0x01 ∷ 0x01 ∷ 0x00 ∷ 0x80 ∷ 0x32 ∷ 0x09 ∷ 0x04 ∷ 0x00 ∷ 0x00 ∷ 0x02
    ∷ 0x0b ∷ 0x00 ∷ 0x00 ∷ 0x00 ∷ 0x07 ∷ 0x05 ∷ 0x81 ∷ 0x02 ∷ 0x40 ∷ 0x00 ∷ 0x00 ∷ 0x07 ∷ 0x05 ∷ 0x02
    ∷ 0x02 ∷ 0x40 ∷ 0x00 ∷ 0x00 ∷ []

abbrev front : ℕ → Doing → Seen
front tick doing = record { tick = tick; happening = AtFront doing }

-- the token answers in a life
abbrev answered : ℕ → ℕ → List Seen → List Seen
answered life tick past =
    front tick (Replies Token life 5 0 []) ∷ front tick (Replies Token life 4 0 configuration) ∷ front tick (Replies Token life 3 0 (take 9 configuration))
    ∷ front tick (Replies Token life 2 0 []) ∷ front tick (Replies Token life 1 0 device) ∷ past

-- a computer asks the token for its device descriptor

abbrev get_device : Setup
get_device = setup_of (0x80 ∷ 6 ∷ 0 ∷ 1 ∷ 0 ∷ 0 ∷ 0x12 ∷ 0 ∷ [])

abbrev asked : ℕ → ℕ → List Seen → List Seen
asked tick port past =
    record { tick = tick; happening = PortActs port Ua (act.In 0 0 false) }
    ∷ record { tick = tick; happening = PortActs port Ua (act.Setup 0 get_device) } ∷ past

-- port 1 is selected at 100, and port 2 at 350, whose token is asked again from 1350 on
abbrev first_half : List Seen
first_half =
    asked 101 2 (asked 101 1 (front 100 TimePasses
    ∷ front 0 (PanelMoves (panel.Button 1 true)) ∷ front 0 (PanelMoves (panel.Guard true))
    ∷ answered 1 0 (front 0 (Attaches Token)
    ∷ front 0 (PanelMoves (panel.Check 4 true)) ∷ front 0 (PanelMoves (panel.Check 3 true)) ∷ front 0 (PanelMoves (panel.Check 2 true))
    ∷ front 0 (PanelMoves (panel.Check 1 true)) ∷ [])))

abbrev both : List Seen
both =
    asked 1351 1 (asked 1351 2 (answered 2 1350 (front 1350 TimePasses ∷ front 1349 TimePasses ∷ front 350 TimePasses
    ∷ front 250 (PanelMoves (panel.Button 2 true)) ∷ front 250 (PanelMoves (panel.Button 1 false)) ∷ first_half)))

first_owner : token_port no_rules (front_of first_half) ≡ Some 1
unfolding health_after ports_down peripheral_orders token_orders token_news shows_none shown_keys shown_buttons no_keys chosen bit_set cut_after fault_of first_fault total_fault config_fault up_to_interface settings_of within_after
first_owner = refl

second_owner : token_port no_rules (front_of both) ≡ Some 2
unfolding health_after ports_down peripheral_orders token_orders token_news shows_none shown_keys shown_buttons no_keys chosen bit_set cut_after fault_of first_fault total_fault config_fault up_to_interface settings_of within_after
second_owner = refl

powers_of_both : powers_in (stamped_orders no_rules both)
    ≡ stamp 0 (order.On Token 1) ∷ stamp 350 (order.Off Token 1) ∷ stamp 1350 (order.On Token 2) ∷ []
unfolding health_after ports_down peripheral_orders token_orders token_news shows_none shown_keys shown_buttons no_keys chosen bit_set cut_after fault_of first_fault total_fault config_fault up_to_interface settings_of within_after
powers_of_both = refl

-- each port's job is one of its own life, and the other port makes none

abbrev device_job : ℕ → Order
device_job life = order.Job (record { life = life; number = 1; kind = job.Control get_device [] })

jobs_of_both : filter (λ s. is_job s.ordered) (stamped_orders no_rules both) ≡ stamp 101 (device_job 1) ∷ stamp 1351 (device_job 2) ∷ []
unfolding health_after ports_down peripheral_orders token_orders token_news shows_none shown_keys shown_buttons no_keys chosen bit_set cut_after fault_of first_fault total_fault config_fault up_to_interface settings_of within_after
jobs_of_both = refl

-- that it is done is heard by the second alone, and of the first life nobody hears any more

owner_hears : token_news no_rules 2 (front_event 1352 (Finishes 2 1 0 (0 ∷ 0 ∷ []))) (front_of both) ≡ news.Finishes 1 0 (0 ∷ 0 ∷ []) ∷ []
unfolding health_after ports_down peripheral_orders token_orders token_news shows_none shown_keys shown_buttons no_keys chosen bit_set cut_after fault_of first_fault total_fault config_fault up_to_interface settings_of within_after
owner_hears = refl

other_hears_nothing : token_news no_rules 1 (front_event 1352 (Finishes 2 1 0 (0 ∷ 0 ∷ []))) (front_of both) ≡ []
unfolding health_after ports_down peripheral_orders token_orders token_news shows_none shown_keys shown_buttons no_keys chosen bit_set cut_after fault_of first_fault total_fault config_fault up_to_interface settings_of within_after
other_hears_nothing = refl

past_life_is_not_heard : token_news no_rules 2 (front_event 1352 (Finishes 1 1 0 (0 ∷ 0 ∷ []))) (front_of both) ≡ []
unfolding health_after ports_down peripheral_orders token_orders token_news shows_none shown_keys shown_buttons no_keys chosen bit_set cut_after fault_of first_fault total_fault config_fault up_to_interface settings_of within_after
past_life_is_not_heard = refl
