use Rattle.rh_scene.proofs.Common.{arith, Made}
use Rattle.rh_scene.proofs.Heaps.{total-one}
use Rattle.rh_scene.proofs.Holders.{made-all-few, made-few}
use Rattle.rh_scene.proofs.Places.{total-more, total-past}
use Rattle.rh_scene.proofs.pages.made_before.Goals as goal
use Rattle.rh_scene.proofs.pages.made_before.Goals.{in-Some, in_default}

pub overflow_add-count : goal.overflow_add-count
overflow_add-count g c =
    let few = made-few c.recall_desk.ensures c.loop-i.i in
    let all = made-all-few c.recall_desk.ensures in
    let one = total-one (λ (m : Made). m.pages) (g.S.Sight.desk c.args.sight.now).made c.loop-i.i _ c.in-Some.ensures.some in
    let so_far = c.loop-i.invariant in
    omega arith

pub loop-i-preserved : goal.loop-i-preserved
loop-i-preserved g c =
    let so_far = c.loop-i.invariant in
    elim c.match-made.branch [
      | in-Some w ↦ omega (arith, w.count-is, total-more (λ (m : Made). m.pages) (g.S.Sight.desk c.args.sight.now).made c.loop-i.i _ w.in-Some.ensures.some)
      | in_default w ↦ omega (arith, w.count-is, total-past (λ (m : Made). m.pages) (g.S.Sight.desk c.args.sight.now).made c.loop-i.i w.in_default.ensures.none)
    ]
