-- What the map finds is what the table has at the key.
use Rattle.toml.proofs.Views.{table_get}
use Rattle.admin_rules.proofs.keys.value_at.Goals as goal

pub returns : goal.returns
returns c = table_get c.get.result c.args.key.now c.args.table.now.entries c.get.ensures.value
