use Rattle.rh_elements.proofs.Common.{codes, join_by, message_entry_text}
use Rattle.rh_figure.specs.Phrases.{and_more}
use Rattle.rh_elements.proofs.EscapedItems.{escape-both}
use Rattle.rh_elements.proofs.RowLemmas.{added}
use Rattle.rh_elements.proofs.WriteLemmas.{offered_as}
use Rattle.rh_elements.proofs.tables.put_waits.Goals as goal

pub returns : goal.returns
returns g c =
    offered_as _ (escape-both (join_by message_entry_text (codes ", ") c.args.waits.now) (and_more c.args.count))
    (added _ _ _ c.put_entries.ensures c.put_more.ensures)
