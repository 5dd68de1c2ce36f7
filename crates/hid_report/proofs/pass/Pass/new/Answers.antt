-- The pass before the first item.
use Rattle.hid_report.proofs.PassLaws.{pass-start}
use Rattle.hid_report.proofs.pass.Pass.new.Goals as goal

pub returns : goal.returns
returns c = rw c.new.ensures (pass-start c.new-2.result.items c.new-3.result.items c.new-4.result.items c.new-2.ensures c.new-3.ensures c.new-4.ensures)
