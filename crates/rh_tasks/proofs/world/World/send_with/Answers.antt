use Rattle.rh_defs.specs.OutgoingEvents.{send_with}
use Rattle.rh_tasks.proofs.world.World.send_with.Goals as goal

pub transmit-requires-clause-due : goal.transmit-requires-clause-due
transmit-requires-clause-due g c = rw c.in-Transmit.is at c.requires.due

pub returns-in-Transmit : goal.returns-in-Transmit
unfolding send_with
returns-in-Transmit g c = λ t at. rw c.in-Transmit.is (c.transmit.ensures t at)

pub save_scrap-requires-clause-due : goal.save_scrap-requires-clause-due
save_scrap-requires-clause-due g c = rw c.in-SaveFile.is at c.requires.due

pub returns-in-SaveFile : goal.returns-in-SaveFile
unfolding send_with
returns-in-SaveFile g c = λ t at. rw c.in-SaveFile.is (c.save_scrap.ensures t at)

pub finish-requires-clause-due : goal.finish-requires-clause-due
finish-requires-clause-due g c = rw c.in-Finish.is at c.requires.due

pub returns-in-Finish : goal.returns-in-Finish
returns-in-Finish g c = λ t at. rw c.in-Finish.is (c.finish.ensures t at)
