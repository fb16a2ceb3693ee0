use Rattle.std.proofs.Common.{length, drop}
use Rattle.std.specs.List.{enumerate_from, flat_map}
use Rattle.rh_map.proofs.Left.{Left}
use Rattle.rh_lens.specs.Lens.{anchor_text}
use Rattle.rh_lens.proofs.anchors.print_anchors.Given as goal

-- the anchors from this one on are left
abbrev pub invariant-loop-i : goal.invariant-loop-i
invariant-loop-i g l =
    let text = flat_map (anchor_text l.top (length l.anchors)) in
    Left (g.P.Pen.offered l.initial.pen) (g.P.Pen.offered l.pen) (text (enumerate_from 0 l.anchors))
    (text (enumerate_from l.i (drop l.i l.anchors)))
