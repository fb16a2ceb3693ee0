use Rattle.rh_pictures.proofs.LensTells.{told-bare}
use Rattle.rh_pictures.proofs.lens.slots.SlotContentsContents.tell.Goals as goal

pub tell_flex-requires-clause-nothing : goal.tell_flex-requires-clause-nothing
tell_flex-requires-clause-nothing g c = c.tell_nothing.ensures c.args.piece.now

pub tell_block-requires-clause-nothing : goal.tell_block-requires-clause-nothing
tell_block-requires-clause-nothing g c = c.tell_nothing.ensures c.args.piece.now

pub returns-in_default : goal.returns-in_default
returns-in_default g c = told-bare c.requires _ c.in_default.not-FlexBlock c.in_default.not-Claimed (c.tell_nothing.ensures c.args.piece.now)
