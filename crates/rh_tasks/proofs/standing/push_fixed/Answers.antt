use Rattle.rh_tasks.proofs.Common.{ap, refl, ◌∙◌, arith, take_all, fixed}
use Rattle.rh_tasks.specs.Standing.{numbers}
use Rattle.rh_tasks.proofs.StandingLaws.{numbers-few, numbers-more}
use Rattle.rh_tasks.proofs.standing.push_fixed.Goals as goal

pub loop-number-init : goal.loop-number-init
loop-number-init c = ap numbers c.requires

pub push-requires : goal.push-requires
push-requires c = (omega arith, numbers-few c.loop-number.number _ c.loop-number.invariant c.loop-number-test.true)

pub loop-number-preserved : goal.loop-number-preserved
loop-number-preserved c =
    ap numbers c.push.ensures.items
    ∙ numbers-more c.loop-number.number _ (record { 0 = c.loop-number.number }) refl c.loop-number.invariant c.loop-number-test.true

pub returns : goal.returns
returns c = c.loop-number.invariant ∙ take_all c.loop-number.number fixed (omega arith)
