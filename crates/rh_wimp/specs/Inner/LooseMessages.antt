-- Messages that belong to no row.
use Rattle.std.specs.Prelude.{◌≡◌, ℕ, ◌<◌, List, length, Option, Some, None}
use Rattle.rh_defs.specs.Heap.{Heap}
use Rattle.rh_defs.specs.Memory.{Memory}
use Rattle.rh_module.specs.ModuleArea.{module_heap_in}
use Rattle.rh_module.specs.declared.module.Module.{Module}
use Rattle.rh_defs.specs.Blocks.{block_bytes}
use Rattle.rh_defs.specs.Messages.{Parcel, padded}
use Rattle.rh_defs.specs.Post.{Post, live_count, most_messages, first_for}
use Rattle.rh_wimp.specs.Chains.{Chains, Lies, Off, SpellsPostIn, row_at, row_parcels, rows_of}

-- a message that belongs to no row, and lies in both heaps
pub record Loose (h : Heap) (post : Post) (p : Parcel) : Type 0 where
  pub lies : Lies h 0 p
  pub plain : block_bytes p.block post.heap ≡ Some (padded 0 p)
  pub off : (j : ℕ) → j < length (rows_of post) → Off p.block (row_parcels (row_at (rows_of post) j))

-- a message that may bounce
pub record MayBounce (m : Memory) (module_area : Module) (q : Chains) (post : Post) (p : Parcel) (block : ℕ) : Type 0 where
  pub spells : SpellsPostIn m module_area q post
  pub loose : Loose (module_heap_in m module_area) post p
  pub block_is : block ≡ p.block
  pub few : live_count post < most_messages

-- the post without the first message for a task, which belongs to no row, and the others queued
pub record Lifted (m : Memory) (module_area : Module) (q : Chains) (post : Post) (h block : ℕ) (t : Parcel × List Parcel) : Type 0 where
  pub first : first_for h post.queued ≡ Some t
  pub may : MayBounce m module_area q (record post { queued = t.1 }) t.0 block

-- the first message for a task was taken off its chain, where there is one
abbrev pub TakesFirst : Memory → Module → Chains → Post → ℕ → Option ℕ → Type 0
TakesFirst m module_area q post h None = (first_for h post.queued ≡ None) × SpellsPostIn m module_area q post
TakesFirst m module_area q post h (Some block) = (t : Parcel × List Parcel) × Lifted m module_area q post h block t
