-- How many items the arrays of a document have.
use Rattle.std.specs.Prelude.{⊤, ℕ, ◌+◌, ◌≤◌}
use Rattle.toml.specs.Data.{Data, array, Items, no_items, item, Members, no_members, member}

abbrev pub item_count : Items → ℕ
item_count no_items = 0
item_count (item value rest) = item_count rest + 1

-- the number of items of a value that is an array
abbrev pub array_size : Data → ℕ
array_size (array items) = item_count items
array_size _ = 0

-- no array right in the table has more than most items
abbrev pub HasArraysWithin : ℕ → Members → Type 0
HasArraysWithin most no_members = ⊤
HasArraysWithin most (member key value rest) = (array_size value ≤ most) × HasArraysWithin most rest
