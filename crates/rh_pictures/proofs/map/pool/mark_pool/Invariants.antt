use Rattle.rh_pictures.proofs.Common.{◌≡◌, drop, map, replicate, enumerate_from, share_in, marked_all}
use Rattle.rh_pictures.proofs.MarkLemmas.{fixed_pages}
use Rattle.rh_pictures.proofs.map.pool.mark_pool.Given as goal

-- the areas from the number on are left
abbrev pub invariant-loop-number : goal.invariant-loop-number
invariant-loop-number g l =
    let d = g.S.Sight.desk l.sight in
    let s = share_in l.step.pages.now d in
    marked_all (map (fixed_pages s) (enumerate_from l.number (drop l.number d.areas))) l.marks
    ≡ marked_all (map (fixed_pages s) (enumerate_from 0 d.areas)) (replicate d.pool 46)
