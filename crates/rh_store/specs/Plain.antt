-- The memory of a plain store.
use Rattle.rh_store.specs.declared.plain.PlainStore.{PlainStore}
use Rattle.rh_store.specs.Areas.{memory_in}
use Rattle.rh_defs.specs.Memory.{Memory}

-- what its areas contain, its free pages and all its pages
unfoldable pub memory_of : PlainStore → Memory
memory_of s = memory_in s.areas.items s.free s.pages
