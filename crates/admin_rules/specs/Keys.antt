-- The keys of a table.
use Rattle.std.specs.Prelude.{ℕ, Bool, true, false, ◌&&◌, List}
use Rattle.toml.specs.Data.{Members, no_members, member}

-- each key of the table passes the test
abbrev pub all_keys : (List ℕ → Bool) → Members → Bool
all_keys test no_members = true
all_keys test (member key value rest) = test key && all_keys test rest

-- the table has no key
abbrev pub has_no_keys : Members → Bool
has_no_keys no_members = true
has_no_keys (member key value rest) = false
