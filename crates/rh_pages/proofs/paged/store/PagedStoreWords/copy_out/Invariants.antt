use Rattle.rh_pages.proofs.Common.{◌≡◌, ◌-◌, ◌≤◌, length, part, with_part, bytes, paged_memory}
use Rattle.rh_pages.proofs.paged.store.PagedStoreWords.copy_out.Given as goal

abbrev pub invariant-loop-done : goal.invariant-loop-done
invariant-loop-done g l = (l.done ≤ l.n) × ((length l.to ≡ l.n) × (l.to ≡ with_part l.initial.to 0 (part (bytes (paged_memory l.self) l.id.0) l.at l.done)))

abbrev pub decreases-loop-done : goal.decreases-loop-done
decreases-loop-done g l = l.n - l.done
