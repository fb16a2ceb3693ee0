use Rattle.rh_pages.proofs.Common.{refl, LISTS, lists_of}
use Rattle.rh_pages.proofs.Rows.{empty_rows, no_length}
use Rattle.rh_pages.proofs.table.PageTable.new.Goals as goal

pub invariant_of-result : goal.invariant_of-result
invariant_of-result c = record { few = c.requires; count = refl; fits = no_length c.args.room LISTS }

pub returns-clause-lists : goal.returns-clause-lists
unfolding lists_of
returns-clause-lists c = λ numbers. empty_rows numbers c.args.room LISTS
