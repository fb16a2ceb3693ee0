use Rattle.rh_received.proofs.Receipts.{holds-all-received, holds-offered, holds-received}
use Rattle.rh_received.proofs.laws.received_law.Goals as goal

pub returns-clause-received : goal.returns-clause-received
returns-clause-received g c = holds-received c.args.world.now c.recall_spelling.ensures.spelled

pub returns-clause-offered : goal.returns-clause-offered
returns-clause-offered g c = holds-offered c.args.world.now c.recall_spelling.ensures.spelled

pub returns-clause-all : goal.returns-clause-all
returns-clause-all g c = holds-all-received c.args.world.now c.recall_spelling.ensures.spelled
