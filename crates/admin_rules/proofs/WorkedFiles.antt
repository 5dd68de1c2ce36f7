-- Small rule files, and what the definitions say of them.
use Rattle.std.proofs.Common.{◌≡◌, [], ◌∷◌, codes, Some, None, Ok, Err, refl}
use Rattle.std.specs.Str.{is_utf8, chars}
use Rattle.psd_base.specs.declared.console.Plug.TheVariants.{Token}
use Rattle.psd_base.specs.declared.stop.RuleList.TheVariants.{Root, Allow, Deny}
use Rattle.psd_base.specs.declared.stop.RulesFault.TheVariants.{Syntax, Shape}
use Rattle.toml.proofs.OnLiterals.{toml_on_literals}
use Rattle.admin_rules.specs.Document.{document_of}
use Rattle.admin_rules.specs.Entry.{is_entry_key, plug_named, rule_in}
use Rattle.admin_rules.specs.RuleFile.{rules_of, rules_in, is_list_key}

unfoldable on_rules : Unit {0}
unfolding toml_on_literals is_utf8 chars document_of is_entry_key plug_named rule_in rules_of rules_in is_list_key
on_rules = tt

empty : rules_of [] ≡ Ok (record { allow = []; deny = [] })
unfolding on_rules
empty = refl

not_toml : rules_of (codes "=") ≡ Err Syntax
unfolding on_rules
not_toml = refl

not_utf8 : rules_of (255 ∷ []) ≡ Err Syntax
unfolding on_rules
not_utf8 = refl

one_vendor : rules_of (codes "deny = [{vendor = 4660}]") ≡ Ok (record {
  allow = [];
  deny = record { plug = None; vendor = Some 4660; product = None; class = None } ∷ [];
})
unfolding on_rules
one_vendor = refl

each_part : rules_of (codes "[[allow]]\nclass = 255\nplug = \"token\"\nproduct = 0\nvendor = 65535\n") ≡ Ok (record {
  allow = record { plug = Some Token; vendor = Some 65535; product = Some 0; class = Some 255 } ∷ [];
  deny = [];
})
unfolding on_rules
each_part = refl

no_part : rules_of (codes "deny = [{}]") ≡ Err (Shape Deny 1)
unfolding on_rules
no_part = refl

no_list : rules_of (codes "deny = 1") ≡ Err (Shape Root 0)
unfolding on_rules
no_list = refl

allow_first : rules_of (codes "deny = [7]\nallow = [{class = 1}, {class = 256}]\n") ≡ Err (Shape Allow 2)
unfolding on_rules
allow_first = refl

large_vendor : rules_of (codes "[[deny]]\nvendor = 65536\n") ≡ Err (Shape Deny 1)
unfolding on_rules
large_vendor = refl
