-- How the C heap of a slot gets longer.
use Rattle.std.specs.Prelude.{ℕ, Ok}
use Rattle.rh_defs.specs.Pieces.{lacks_pages}
use Rattle.rh_defs.specs.Chain.{Granted, ◌>>=◌, refuse_if}
use Rattle.rh_defs.specs.Heap.{raised}
use Rattle.rh_defs.specs.Slot.{Slot, is_stuck, with_heap}
use Rattle.rh_defs.specs.declared.refusal.Refusal.TheVariants.{NoBudge, NoRoom}

-- what a call gives where the C heap is short of so many bytes and so many pages are free
unfoldable pub after_growth : {A : Type 0} → ℕ → ℕ → Slot → A → Granted A
after_growth free shortage s given = do
  _ ← refuse_if (is_stuck shortage s) NoBudge
  _ ← refuse_if (lacks_pages free shortage) NoRoom
  Ok given

-- the slot whose C heap is longer by a shortage in whole pages
abbrev pub lengthened : ℕ → Slot → Slot
lengthened shortage s = with_heap (raised shortage s.heap) s
