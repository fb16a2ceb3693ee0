use Rattle.std.proofs.Common.{refl}
use Rattle.rh_wide_slot.proofs.EditLaws.{open_edits, open_block}
use Rattle.rh_wide_slot.proofs.flex.open.Goals as goal

pub returns-clause-edits : goal.returns-clause-edits
returns-clause-edits c =
    open_edits _ _ _ _ _ _ _ _ _ _ _ c.requires.within c.requires.old c.requires.few c.requires.table c.requires.offset c.requires.out refl
    c.slide_in.ensures c.zero_in.ensures c.put_entry.ensures

pub returns-clause-block : goal.returns-clause-block
returns-clause-block c =
    open_block _ _ _ _ _ _ _ _ _ _ _ c.requires.within c.requires.old c.requires.few c.requires.table c.requires.offset c.requires.out refl
    c.slide_in.ensures c.zero_in.ensures c.put_entry.ensures
