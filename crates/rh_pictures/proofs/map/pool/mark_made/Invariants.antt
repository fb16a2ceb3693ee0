use Rattle.rh_pictures.proofs.Common.{◌≡◌, ◌-◌, length, drop, map, made_pages, marked_all, share_in}
use Rattle.rh_pictures.proofs.map.pool.mark_made.Given as goal

-- the areas from the place on are left
abbrev pub invariant-areas : goal.invariant-areas
invariant-areas g l =
    let d = g.S.Sight.desk l.sight in
    marked_all (map (made_pages (share_in l.step.pages.now d)) (drop l.i d.made)) l.marks
    ≡ marked_all (map (made_pages (share_in l.step.pages.now d)) d.made) l.initial.marks

abbrev pub decreases-areas : goal.decreases-areas
decreases-areas g l = length (g.S.Sight.desk l.sight).made - l.i
