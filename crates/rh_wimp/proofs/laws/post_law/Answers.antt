use Rattle.rh_wimp.proofs.PostCalls.{one-post}
use Rattle.rh_wimp.proofs.laws.post_law.Goals as goal

pub returns : goal.returns
returns c = one-post
