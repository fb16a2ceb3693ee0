use Rattle.std.proofs.Common.{◌≡◌, drop}
use Rattle.std.specs.Prelude.{find}
use Rattle.rh_figure.specs.HeapSegments.{ends_behind}
use Rattle.rh_scene.proofs.segments.first_behind.Given as goal

-- none so far ends behind the address
abbrev pub invariant-loop-item : goal.invariant-loop-item
invariant-loop-item l =
    find (ends_behind l.address) (drop l.item-index l.items) ≡ find (ends_behind l.address) l.items
