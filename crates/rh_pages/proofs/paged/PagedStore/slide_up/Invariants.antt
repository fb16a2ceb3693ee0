use Rattle.rh_pages.proofs.Common.{◌+◌, ◌-◌, ◌≤◌, part, with_part, bytes, paged_memory}
use Rattle.rh_pages.proofs.Steps.{Rewritten}
use Rattle.rh_pages.proofs.paged.PagedStore.slide_up.Given as goal

abbrev pub invariant-loop-left : goal.invariant-loop-left
invariant-loop-left g l = (l.left ≤ l.n) × Rewritten (paged_memory l.initial.self) (paged_memory l.self) l.id.0
    (with_part (bytes (paged_memory l.initial.self) l.id.0) (l.to + l.left)
    (part (bytes (paged_memory l.initial.self) l.id.0) (l.from + l.left) (l.n - l.left)))

abbrev pub decreases-loop-left : goal.decreases-loop-left
decreases-loop-left g l = l.left
