-- A map of length 0 is a table without keys.
use Rattle.std.proofs.Common.{◌≡◌, ◌↔◌, IsTrue, Bool, true, false, List, [], ◌∷◌, length, refl, arith}
use Rattle.toml.proofs.Views.{Entry}
use Rattle.toml.specs.View.{members_view}
use Rattle.admin_rules.specs.Keys.{has_no_keys}
use Rattle.admin_rules.proofs.keys.has_no_keys.Goals as goal

has_no_keys-view : (entries : List Entry) (empty : Bool) → (IsTrue empty ↔ (length entries ≡ 0)) → empty ≡ has_no_keys (members_view entries)
has_no_keys-view [] true same = refl
has_no_keys-view [] false same = absurd (cc (same.1 refl))
has_no_keys-view (entry ∷ entries) true same = absurd (omega (arith, same.0 refl))
has_no_keys-view (entry ∷ entries) false same = refl

pub returns : goal.returns
returns c = has_no_keys-view c.args.table.now.entries c.is_empty.result c.is_empty.ensures
