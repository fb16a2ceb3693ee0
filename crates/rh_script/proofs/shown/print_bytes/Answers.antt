use Rattle.rh_script.proofs.Common.{arith, bytes_of_named}
use Rattle.rh_lines.proofs.SpacedLemmas.{spaced_put}
use Rattle.rh_script.proofs.shown.print_bytes.Goals as goal

pub returns : goal.returns
returns g c =
    spaced_put (bytes_of_named c.args.name.now c.args.anchor c.args.world.now.desk) (g.P.Pen.offered c.args.pen.now) _ _ _ (omega arith) c.put.ensures
    c.print_hex.ensures c.put-2.ensures
