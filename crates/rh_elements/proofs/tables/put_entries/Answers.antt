use Rattle.rh_elements.proofs.Common.{codes, message_entry_text}
use Rattle.rh_elements.proofs.EscapedItems.{escape-first}
use Rattle.rh_elements.proofs.RowLemmas.{added}
use Rattle.rh_elements.proofs.WriteLemmas.{offered_as}
use Rattle.rh_elements.proofs.tables.put_entries.Goals as goal

pub returns : goal.returns
returns g c =
    offered_as _ (escape-first message_entry_text (codes ", ") _ _ _ c.in-Some.ensures.cases.0)
    (added _ _ _ c.put_entry.ensures c.put_others.ensures)
