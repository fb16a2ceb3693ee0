-- Why the law of `Words` holds of lent bytes.
use Rattle.std.specs.Prelude.{ℕ, ◌≤◌, ◌==◌, length}
use Rattle.rh_defs.specs.Memory.{area_set, bytes}
use Rattle.rh_lent_heap.specs.declared.lent.Lent.{Lent}
use Rattle.rh_lent_heap.specs.declared.lent_mut.LentMut.{LentMut}
use Rattle.rh_store.specs.Limits.{area_limit}
use Rattle.rh_store.specs.Inner.StoreLaws.{short_shown}
use Rattle.rh_lent_heap.specs.Lent.{lent_memory, memory_over, memory_shown}

pub lent_heap_small_law : (s : LentMut) (id : ℕ) → length (bytes (lent_memory s) id) ≤ area_limit
unfolding lent_memory memory_over area_set bytes
lent_heap_small_law s id = short_shown (id == 0) s.bytes.now area_limit s.few

pub shown_small_law : (s : Lent) (id : ℕ) → length (bytes (memory_shown s) id) ≤ area_limit
unfolding memory_shown memory_over area_set bytes
shown_small_law s id = short_shown (id == 0) s.bytes.now area_limit s.few
