-- What a handle owns.
use base.Fml.{Fml, ftrue}
use denote.RawPtr.{Ptr}
use Rattle.std.specs.Prelude.{Option, Some, None}
use Rattle.std.specs.Box.Ownership.{box_owns}
use Rattle.std.specs.declared.alloc.Global.{Global}
use Rattle.std.specs.contracts.impls.GlobalAllocator.TheImpl.{ghosts}
use Rattle.vf_desk.specs.contracts.open_desk.OpenDesk.{the_row}

-- what a box with this value owns, or nothing
abbrev pub handle_owns : Global → Ptr → Option the_row.Denot → Fml
handle_owns alloc p None = ftrue
handle_owns alloc p (Some x) = box_owns (ghosts.dealloc_token alloc) the_row p x
