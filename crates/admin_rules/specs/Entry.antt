-- What an entry of a list of rules says. An entry that gives no rule is faulty.
use Rattle.std.specs.Prelude.{ℕ, ℤ, pos, negsuc, nat_le, Bool, ◌||◌, not, ◌&&◌, if◌then◌else◌, List, codes, bytes_eq, Option, Some, None, is_none, option_map, option_and_then}
use Rattle.peripheral_filter.specs.declared.rule.Rule.{Rule}
use Rattle.psd_base.specs.declared.console.Plug.{Plug}
use Rattle.psd_base.specs.declared.console.Plug.TheVariants.{Keyboard, Mouse, Token}
use Rattle.toml.specs.Data.{Data, Members, as_integer, as_str, as_table, get_member}
use Rattle.admin_rules.specs.Keys.{all_keys, has_no_keys}

-- the keys that an entry may have
unfoldable pub is_entry_key : List ℕ → Bool
is_entry_key key =
    bytes_eq key (codes "plug") || bytes_eq key (codes "vendor") || bytes_eq key (codes "product") || bytes_eq key (codes "class")

-- the plug of this name
unfoldable pub plug_named : List ℕ → Option Plug
plug_named name =
    if bytes_eq name (codes "keyboard") then Some Keyboard
    else if bytes_eq name (codes "mouse") then Some Mouse
    else if bytes_eq name (codes "token") then Some Token
    else None

abbrev pub plug_of : Data → Option Plug
plug_of value = option_and_then plug_named (as_str value)

-- a whole number from 0 to most
abbrev pub number_in : ℕ → ℤ → Option ℕ
number_in most (pos n) = if nat_le n most then Some n else None
number_in most (negsuc n) = None

abbrev pub number_of : ℕ → Data → Option ℕ
number_of most value = option_and_then (number_in most) (as_integer value)

-- a part of a rule: not given where its key is missing, and no answer where the key's value is faulty
abbrev pub part : {A : Type 0} → (Data → Option A) → Option Data → Option (Option A)
part read None = Some None
part read (Some value) = option_map Some (read value)

-- the rule of the four parts, if none is faulty
abbrev pub rule_from : Option (Option Plug) → Option (Option ℕ) → Option (Option ℕ) → Option (Option ℕ) → Option Rule
rule_from (Some plug) (Some vendor) (Some product) (Some class) =
    Some (record { plug = plug; vendor = vendor; product = product; class = class })
rule_from _ _ _ _ = None

-- the rule of an entry's table: it has a key, and no unknown key
unfoldable pub rule_in : Members → Option Rule
rule_in table =
    if not (has_no_keys table) && all_keys is_entry_key table
    then rule_from (part plug_of (get_member (codes "plug") table))
    (part (number_of 65535) (get_member (codes "vendor") table))
    (part (number_of 65535) (get_member (codes "product") table))
    (part (number_of 255) (get_member (codes "class") table))
    else None

-- the rule of an entry
abbrev pub rule_of : Data → Option Rule
rule_of entry = option_and_then rule_in (as_table entry)

abbrev pub is_faulty : Data → Bool
is_faulty entry = is_none (rule_of entry)
