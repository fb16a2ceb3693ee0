-- Areas that a caller opens.
use Rattle.std.specs.Prelude.{ℕ, ◌<◌, ◌==◌, if◌then◌else◌, IsNone, Result, Ok, Err}
use Rattle.rh_defs.specs.Memory.{Memory, IsOpen, OnlyArea, open_below}
use Rattle.rh_defs.specs.declared.sizes.TheConstants.{MAX_AREAS}
use Rattle.rh_store.specs.declared.store.StoreFault.{StoreFault}
use Rattle.rh_store.specs.declared.store.StoreFault.TheVariants.{TooManyAreas, NoPages}

-- a page in an area of its own, or why there is none
abbrev pub one_page : Memory → Result (Unit {0}) StoreFault
one_page m =
    if open_below m.area MAX_AREAS == MAX_AREAS then Err TooManyAreas
    else if m.free == 0 then Err NoPages
    else Ok tt

-- the area was the first one closed, and nothing but it and its pages has changed
pub record IsNewArea (m n : Memory) (id : ℕ) : Type 0 where
  pub closed : IsNone (m.area id)
  pub first : (k : ℕ) → k < id → IsOpen m k
  pub only : OnlyArea m n id
