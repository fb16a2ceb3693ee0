use Rattle.rh_pictures.proofs.OwnerLemmas.{slot-owner}
use Rattle.rh_pictures.proofs.owners.slot_owner.Goals as goal

pub returns-in-Some-clause-some : goal.returns-in-Some-clause-some
returns-in-Some-clause-some g c =
    let seen = c.in-Some.ensures.some in
    slot-owner c.recall_desk.ensures c.args.i c.in-Some.task seen.0 seen.1 seen.2
