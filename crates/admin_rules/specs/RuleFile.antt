-- What a rule file says: two lists of rules, or the first of the faults that it has.
use Rattle.std.specs.Prelude.{ℕ, nat_lt, Bool, ◌||◌, if◌then◌else◌, List, [], ◌∷◌, length, codes, bytes_eq, filter_map, Option, Some, None, option_map, Result, Ok, Err}
use Rattle.std.specs.List.{position_from}
use Rattle.std.specs.Option.{option_or}
use Rattle.peripheral_filter.specs.declared.rule.Rule.{Rule}
use Rattle.peripheral_filter.specs.declared.rule.RuleSet.{RuleSet}
use Rattle.peripheral_filter.specs.declared.rule.TheConstants.{RULES_MAX}
use Rattle.psd_base.specs.declared.stop.RuleList.{RuleList}
use Rattle.psd_base.specs.declared.stop.RuleList.TheVariants.{Root, Allow, Deny}
use Rattle.psd_base.specs.declared.stop.RulesFault.{RulesFault}
use Rattle.psd_base.specs.declared.stop.RulesFault.TheVariants.{TooBig, Syntax, Shape, TooMany}
use Rattle.toml.specs.Data.{Data, Items, no_items, item, Members, as_array, get_member}
use Rattle.admin_rules.specs.declared.read.TheConstants.{RULES_FILE_SIZE}
use Rattle.admin_rules.specs.Document.{document_of}
use Rattle.admin_rules.specs.Entry.{rule_of, is_faulty}
use Rattle.admin_rules.specs.Keys.{all_keys}

-- two lists of rules
pub record Lists : Type 0 where
  pub allow : List Rule
  pub deny : List Rule

abbrev pub lists_of : RuleSet → Lists
lists_of rules = record { allow = rules.allow.items; deny = rules.deny.items }

-- the lists of an answer, or its fault
abbrev pub given : Result RuleSet RulesFault → Result Lists RulesFault
given (Ok rules) = Ok (lists_of rules)
given (Err fault) = Err fault

-- ---- the entries of a list

abbrev pub listed : Items → List Data
listed no_items = []
listed (item entry rest) = entry ∷ listed rest

-- the entries that a key of the root holds: none where the key is missing, and no answer where it holds no array
abbrev pub entries_of : Option Data → Option (List Data)
entries_of None = Some []
entries_of (Some value) = option_map listed (as_array value)

-- ---- the faults of a list

-- the first faulty entry, by its number from 1
abbrev pub shape_fault : RuleList → List Data → Option RulesFault
shape_fault list entries = option_map (Shape list) (position_from is_faulty 1 entries)

abbrev pub count_fault : RuleList → List Data → Option RulesFault
count_fault list entries = if nat_lt RULES_MAX (length entries) then Some (TooMany list) else None

-- the first fault of the lists: both lists' entries come before their numbers
abbrev pub refusal : List Data → List Data → Option RulesFault
refusal allow deny =
    option_or (shape_fault Allow allow) (option_or (shape_fault Deny deny) (option_or (count_fault Allow allow) (count_fault Deny deny)))

-- ---- the whole file

-- the lists, if nothing is refused
abbrev pub unless : Option RulesFault → Lists → Result Lists RulesFault
unless (Some fault) lists = Err fault
unless None lists = Ok lists

abbrev pub rules_from : List Data → List Data → Result Lists RulesFault
rules_from allow deny = unless (refusal allow deny) (record { allow = filter_map rule_of allow; deny = filter_map rule_of deny })

-- the keys that the root may have
unfoldable pub is_list_key : List ℕ → Bool
is_list_key key = bytes_eq key (codes "allow") || bytes_eq key (codes "deny")

-- the rules of two keys of the root, if both hold lists
abbrev pub rules_at : Option (List Data) → Option (List Data) → Result Lists RulesFault
rules_at (Some allow) (Some deny) = rules_from allow deny
rules_at _ _ = Err (Shape Root 0)

unfoldable pub rules_in : Members → Result Lists RulesFault
rules_in root =
    if all_keys is_list_key root
    then rules_at (entries_of (get_member (codes "allow") root)) (entries_of (get_member (codes "deny") root))
    else Err (Shape Root 0)

abbrev pub rules_in_document : Option Members → Result Lists RulesFault
rules_in_document None = Err Syntax
rules_in_document (Some root) = rules_in root

-- what a rule file says
unfoldable pub rules_of : List ℕ → Result Lists RulesFault
rules_of bytes = if nat_lt RULES_FILE_SIZE (length bytes) then Err TooBig else rules_in_document (document_of bytes)
