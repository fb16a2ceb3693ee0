use Rattle.std.proofs.Common.{sym}
use Rattle.rh_pages.proofs.Tables.{length_there}
use Rattle.rh_pages.proofs.table.PageTable.len.Goals as goal

pub returns : goal.returns
returns c = λ numbers long. sym (length_there numbers c.args.self.now c.args.k c.requires long)
