use Rattle.rh_tasks.proofs.Common.{List, [], ◌∷◌, length, ap, ◌∙◌, ◌++◌, arith, MadeArea}
use Rattle.std.proofs.Common.{get_or}
use Rattle.rh_tasks.proofs.StandingLaws.{filled-all, filled-few, filled-more}
use Rattle.rh_tasks.proofs.standing.push_made.Goals as goal

pub push-requires : goal.push-requires
push-requires c = (
  omega arith,
  filled-few (λ (a : MadeArea). a.area) c.args.made.now.items c.loop-area.area-index c.args.areas.now.items _ c.loop-area.invariant
      (omega (arith, c.loop-area-test.true, ap length c.as_slice-area-items.ensures.value)) c.requires,
)

pub loop-area-preserved : goal.loop-area-preserved
loop-area-preserved c =
    let none : MadeArea = record { number = 0; most = 0; area = record { 0 = 0 } } in
    let at = c.loop-area.area-index in
    c.push.ensures.items
    ∙ ap (λ (xs : List MadeArea). c.loop-area.areas.items ++ (get_or xs at none).area ∷ []) c.as_slice-area-items.ensures.value
    ∙ filled-more (λ (a : MadeArea). a.area) c.args.made.now.items at c.args.areas.now.items _ c.loop-area.invariant none
    (omega (arith, c.loop-area-test.true, ap length c.as_slice-area-items.ensures.value))

pub returns : goal.returns
returns c = filled-all (λ (a : MadeArea). a.area) c.args.made.now.items c.loop-area.area-index c.args.areas.now.items _ c.loop-area.invariant
    (omega (arith, c.loop-area-test.false, ap length c.as_slice-area-items.ensures.value))
