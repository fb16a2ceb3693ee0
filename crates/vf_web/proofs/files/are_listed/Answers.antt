use Rattle.std.proofs.Common.{arith}
use Rattle.vf_web.proofs.Listed.{is_some-front, listed-empty, listed-no_front}
use Rattle.vf_web.proofs.files.are_listed.Goals as goal

pub returns-in_default : goal.returns-in_default
returns-in_default c = grind (arith, listed-no_front)

pub loop-rest-preserved : goal.loop-rest-preserved
loop-rest-preserved c = grind (arith, is_some-front)

pub returns : goal.returns
returns c = grind (arith, listed-empty)
