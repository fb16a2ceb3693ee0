use Rattle.rh_pages.proofs.Common.{◌-◌, ◌≤◌, replicate, with_part, bytes, paged_memory}
use Rattle.rh_pages.proofs.Steps.{Rewritten}
use Rattle.rh_pages.proofs.paged.store.PagedStoreWordsMut.zero.Given as goal

abbrev pub invariant-loop-done : goal.invariant-loop-done
invariant-loop-done g l = (l.done ≤ l.n) × Rewritten (paged_memory l.initial.self) (paged_memory l.self) l.id.0
    (with_part (bytes (paged_memory l.initial.self) l.id.0) l.at (replicate l.done 0))

abbrev pub decreases-loop-done : goal.decreases-loop-done
decreases-loop-done g l = l.n - l.done
