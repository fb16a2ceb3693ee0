use Rattle.std.proofs.Common.{arith}
use Rattle.rh_lines.proofs.SpacedLemmas.{spaced_put, unspaced}
use Rattle.rh_script.specs.NamedSlots.{bytes_named_at}
use Rattle.rh_script.proofs.held.end_held.Goals as goal

pub returns-then-size-eq0 : goal.returns-then-size-eq0
returns-then-size-eq0 g c =
    rw (unspaced (bytes_named_at c.args.name.now c.args.address c.args.size c.args.world.now.desk)
    (omega (arith, c.requires.long, c.if-size-eq0.true))) c.put.ensures

pub returns : goal.returns
returns g c =
    spaced_put (bytes_named_at c.args.name.now c.args.address c.args.size c.args.world.now.desk) (g.P.Pen.offered c.args.pen.now) _ _ _
    (λ none. c.if-size-eq0.false (omega (arith, none, c.requires.long))) c.put-2.ensures c.print_held_hex.ensures c.put-3.ensures
