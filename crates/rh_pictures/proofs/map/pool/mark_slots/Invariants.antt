use Rattle.rh_pictures.proofs.Common.{◌≡◌, ◌-◌, length, drop, marked_all, slot_pages_from, share_in}
use Rattle.rh_pictures.proofs.map.pool.mark_slots.Given as goal

-- the slots from the place on are left
abbrev pub invariant-tasks : goal.invariant-tasks
invariant-tasks g l =
    let d = g.S.Sight.desk l.sight in
    marked_all (slot_pages_from (share_in l.step.pages.now d) l.i (drop l.i d.tasks)) l.marks
    ≡ marked_all (slot_pages_from (share_in l.step.pages.now d) 0 d.tasks) l.initial.marks

abbrev pub decreases-tasks : goal.decreases-tasks
decreases-tasks g l = length (g.S.Sight.desk l.sight).tasks - l.i
