-- The administrator's rules: which devices an entry matches, and what the lists refuse.
use Rattle.std.specs.Prelude.{ℕ, ◌+◌, ◌==◌, Bool, true, false, not, ◌&&◌, List, [], ◌∷◌, ◌++◌, Option, Some, None}
use Rattle.std.specs.List.{list_any}
use Rattle.psd_base.specs.declared.console.Plug.{Plug}
use Rattle.psd_base.specs.declared.console.Plug.TheVariants.{Keyboard, Mouse, Token}
use Rattle.psd_base.specs.declared.console.RuleName.{RuleName}
use Rattle.psd_base.specs.declared.console.RuleName.TheVariants.{Deny, NotAllowed}
use Rattle.usb_descriptor.specs.declared.device.DeviceDesc.{DeviceDesc}
use Rattle.peripheral_filter.specs.declared.rule.Rule.{Rule}
use Rattle.peripheral_filter.specs.declared.rule.RuleSet.{RuleSet}
use Rattle.peripheral_filter.specs.Classes.{has_class}

abbrev pub is_same_plug : Plug → Plug → Bool
is_same_plug Keyboard Keyboard = true
is_same_plug Mouse Mouse = true
is_same_plug Token Token = true
is_same_plug _ _ = false

-- a part of an entry agrees where it isn't given, or where what is given passes the test
abbrev pub agrees : {A : Type 0} → Option A → (A → Bool) → Bool
agrees None test = true
agrees (Some wanted) test = test wanted

-- whether an entry matches the device at this plug, whose interfaces have these classes: each part that is
-- given agrees
abbrev pub matches : Plug → DeviceDesc → List ℕ → Rule → Bool
matches plug device classes rule =
    agrees rule.plug (λ wanted. is_same_plug wanted plug)
    && agrees rule.vendor (λ wanted. wanted == device.vendor)
    && agrees rule.product (λ wanted. wanted == device.product)
    && agrees rule.class (λ wanted. has_class wanted classes)

-- the entries of a deny list, the first of them in this place, each with whether it matches
abbrev pub deny_rules : (Rule → Bool) → ℕ → List Rule → List (RuleName × Bool)
deny_rules test place [] = []
deny_rules test place (rule ∷ rules) = (Deny place, test rule) ∷ deny_rules test (place + 1) rules

-- the allow list has an entry, and none matches
abbrev pub is_not_allowed : (Rule → Bool) → List Rule → Bool
is_not_allowed test [] = false
is_not_allowed test (rule ∷ rules) = not (list_any test (rule ∷ rules))

-- the rule of the allow list
abbrev pub allow_rules : (Rule → Bool) → List Rule → List (RuleName × Bool)
allow_rules test rules = (NotAllowed, is_not_allowed test rules) ∷ []

-- the rules of both lists: the deny list's come first
abbrev pub list_rules : (Rule → Bool) → RuleSet → List (RuleName × Bool)
list_rules test rules = deny_rules test 1 rules.deny.items ++ allow_rules test rules.allow.items
