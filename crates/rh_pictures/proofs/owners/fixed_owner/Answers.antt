use Rattle.rh_pictures.proofs.OwnerLemmas.{fixed-owner}
use Rattle.rh_pictures.proofs.owners.fixed_owner.Goals as goal

pub returns : goal.returns
returns g c = fixed-owner c.recall_desk.ensures c.args.k c.fixed_pages.result c.requires c.fixed_pages.ensures
