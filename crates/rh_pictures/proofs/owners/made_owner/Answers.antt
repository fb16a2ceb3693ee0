use Rattle.rh_pictures.proofs.OwnerLemmas.{made-owner}
use Rattle.rh_pictures.proofs.owners.made_owner.Goals as goal

pub returns-in-Some-clause-some : goal.returns-in-Some-clause-some
returns-in-Some-clause-some g c = made-owner c.recall_desk.ensures c.args.i _ c.in-Some.ensures.some
