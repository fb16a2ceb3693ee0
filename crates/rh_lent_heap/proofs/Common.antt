-- Names that many of the proofs here cite, passed on in one place.
pub use Rattle.std.proofs.Common.{Bool, List, ap, arith, cond, false, length, refl, replicate, rules, subst, sym, true, ℕ, ◌%◌, ◌+◌, ◌-◌, ◌==◌, ◌∙◌, ◌≡◌, ◌≤◌}
pub use Rattle.std.proofs.lemmas.Int.{to_z-of_z}
pub use Rattle.std.specs.Int.{w32}
pub use Rattle.std.specs.Prelude.{Err, IsSome, None, Ok, OnErr, Option, Result, Some, ℤ}
pub use Rattle.rh_defs.specs.Bytes.{part, with_part}
pub use Rattle.rh_defs.specs.Chain.{no_answer}
pub use Rattle.rh_defs.specs.HeapImage.{heap_of}
unfoldable pub use Rattle.rh_defs.specs.Memory.{area_set, bytes}
pub use Rattle.rh_heap.specs.HeapCalls.{LeavesHeap}
pub use Rattle.rh_store.specs.Starts.{IsIndex}
pub use Rattle.rh_lent_heap.specs.Heaps.{LeavesBytes}
unfoldable pub use Rattle.rh_lent_heap.specs.Lent.{lent_memory, memory_over, memory_shown}
