use Rattle.rh_pictures.proofs.Common.{◌≡◌, take, marked}
use Rattle.rh_pictures.proofs.map.pool.mark_pages.Given as goal

-- the pages so far are marked
abbrev pub invariant-loop-page : goal.invariant-loop-page
invariant-loop-page l = l.marks ≡ marked (take l.page-index l.pages) l.mark l.initial.marks
