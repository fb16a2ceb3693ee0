use Rattle.rh_script.proofs.Common.{◌≡◌, ◌++◌, ◌-◌, ◌≤◌, take}
use Rattle.hex.specs.Hex.{encode_lower}
use Rattle.rh_script.specs.NamedSlots.{bytes_named_at}
use Rattle.rh_script.proofs.held.print_held_hex.Given as goal

-- the bytes below the offset were written
abbrev pub invariant-loop-offset : goal.invariant-loop-offset
invariant-loop-offset g l = record {
  within : l.offset ≤ l.size;
  so_far : g.P.Pen.offered l.pen ≡ g.P.Pen.offered l.initial.pen ++ encode_lower (take l.offset (bytes_named_at l.name l.address l.size l.world.desk));
}

abbrev pub decreases-loop-offset : goal.decreases-loop-offset
decreases-loop-offset g l = l.size - l.offset
