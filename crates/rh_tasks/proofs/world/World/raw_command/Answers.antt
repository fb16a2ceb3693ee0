use Rattle.rh_tasks.proofs.RawRanges.{alike-gives, send-whole}
use Rattle.rh_tasks.proofs.world.World.raw_command.Goals as goal

pub send-requires : goal.send-requires
send-requires g c = rw c.data_of.ensures (send-whole _ _ _ _ _ _ (rw c.in-Send.is at c.requires))

pub returns-in-Send : goal.returns-in-Send
returns-in-Send g c = rw (c.in-Send.is, ← c.data_of.ensures) c.send.ensures

pub returns-in-Write : goal.returns-in-Write
returns-in-Write g c = rw (c.in-Write.is, ← c.as_slice.ensures.value) (alike-gives _ _ _ _ c.write.ensures)

pub returns-in-Transfer : goal.returns-in-Transfer
returns-in-Transfer g c = rw c.in-Transfer.is (alike-gives _ _ _ _ c.transfer.ensures)

pub returns-in-Ack : goal.returns-in-Ack
returns-in-Ack g c = rw c.in-Ack.is c.ack.ensures

pub spool-requires : goal.spool-requires
spool-requires g c = rw c.in-Spool.is at c.requires

pub returns-in-Spool : goal.returns-in-Spool
returns-in-Spool g c = rw c.in-Spool.is c.spool.ensures

pub load_scrap-requires : goal.load_scrap-requires
load_scrap-requires g c = rw c.in-Scrap.is at c.requires

pub returns-in-Scrap : goal.returns-in-Scrap
returns-in-Scrap g c = rw c.in-Scrap.is (alike-gives _ _ _ _ c.load_scrap.ensures)
