-- That the laws of `Store` hold of a plain store.
use Rattle.std.specs.Prelude.{ℕ, ◌+◌, ◌*◌, ◌%◌, ◌<◌, ◌≤◌, ◌≡◌, length}
use Rattle.rh_store.specs.declared.plain.PlainStore.{PlainStore}
use Rattle.rh_defs.specs.declared.sizes.TheConstants.{MAX_AREAS, PAGE}
use Rattle.rh_store.specs.Inner.Kept.{whole_areas, within_pool, small_areas, numbered_areas}
use Rattle.rh_store.specs.Inner.StoreLaws.{few_pages}
use Rattle.rh_defs.specs.Memory.{IsOpen, Ledger, bytes}
use Rattle.rh_store.specs.Limits.{area_limit, pool_limit}
use Rattle.rh_store.specs.Plain.{memory_of}

pub ledger_law : (s : PlainStore) → Ledger (memory_of s) MAX_AREAS
unfolding memory_of
ledger_law s = s.kept.ledger

pub whole_law : (s : PlainStore) (id : ℕ) → length (bytes (memory_of s) id) % PAGE ≡ 0
unfolding memory_of
whole_law s id = whole_areas s.areas.items s.free s.pages MAX_AREAS id s.kept

pub within_law : (s : PlainStore) (id : ℕ) → PAGE * (memory_of s).free + length (bytes (memory_of s) id) ≤ PAGE * (memory_of s).pages
unfolding memory_of
within_law s id = within_pool s.areas.items s.free s.pages MAX_AREAS id s.kept

pub few_law : (s : PlainStore) → (memory_of s).pages ≤ pool_limit
unfolding memory_of
few_law s = few_pages s.pages s.few

pub small_law : (s : PlainStore) (id : ℕ) → length (bytes (memory_of s) id) ≤ area_limit
unfolding memory_of
small_law s id = small_areas s.areas.items s.free s.pages MAX_AREAS id s.few s.kept

pub numbered_law : (s : PlainStore) (id : ℕ) → IsOpen (memory_of s) id → id < MAX_AREAS
unfolding memory_of
numbered_law s id o = numbered_areas s.areas.items s.free s.pages MAX_AREAS id s.kept o
