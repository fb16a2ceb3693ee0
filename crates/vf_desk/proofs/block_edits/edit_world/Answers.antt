use Rattle.vf_desk.proofs.block_edits.edit_world.Goals as goal

pub returns-in-Write : goal.returns-in-Write
returns-in-Write c = rw c.in-Write.is c.write_block.ensures

pub returns-in-WriteModule : goal.returns-in-WriteModule
returns-in-WriteModule c = rw c.in-WriteModule.is c.write_module.ensures

pub returns-in-Transfer : goal.returns-in-Transfer
returns-in-Transfer c = rw c.in-Transfer.is c.transfer.ensures
