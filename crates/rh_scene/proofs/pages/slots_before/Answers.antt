use Rattle.rh_scene.proofs.Common.{arith, task_pages}
use Rattle.rh_scene.proofs.Heaps.{total-one}
use Rattle.rh_scene.proofs.Holders.{slots-all-few, slots-few}
use Rattle.rh_scene.proofs.Places.{total-more, total-past}
use Rattle.rh_scene.proofs.pages.slots_before.Goals as goal
use Rattle.rh_scene.proofs.pages.slots_before.Goals.{in-Some, in_default}

pub overflow_add-count : goal.overflow_add-count
overflow_add-count g c =
    let s = c.in-Some.ensures.some in
    let few = slots-few c.recall_desk.ensures c.loop-i.i in
    let all = slots-all-few c.recall_desk.ensures in
    let one = total-one task_pages (g.S.Sight.desk c.args.sight.now).tasks c.loop-i.i s.0 s.1 in
    let so_far = c.loop-i.invariant in
    let told = s.2.pages in
    omega arith

pub loop-i-preserved : goal.loop-i-preserved
loop-i-preserved g c =
    let so_far = c.loop-i.invariant in
    elim c.match-task.branch [
      | in-Some w ↦ (let s = w.in-Some.ensures.some in
          omega (arith, w.count-is, s.2.pages, total-more task_pages (g.S.Sight.desk c.args.sight.now).tasks c.loop-i.i s.0 s.1))
      | in_default w ↦ omega (arith, w.count-is, total-past task_pages (g.S.Sight.desk c.args.sight.now).tasks c.loop-i.i w.in_default.ensures.none)
    ]
