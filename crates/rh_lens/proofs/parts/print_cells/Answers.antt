use Rattle.std.proofs.Common.{ap, arith}
use Rattle.std.proofs.lemmas.List.{drop_all, drop_more}
use Rattle.rh_map.proofs.Left.{left_less, left_none}
use Rattle.rh_lens.specs.LensParts.{cells_text}
use Rattle.rh_lens.proofs.parts.print_cells.Goals as goal

pub loop-byte-preserved : goal.loop-byte-preserved
loop-byte-preserved g c = record {
  text = left_less _ c.loop-byte.invariant.text
      (ap (cells_text c.loop-byte.at c.args.y) (drop_more c.args.bytes.now c.loop-byte.byte-index 0 (omega arith))) c.print_byte.ensures;
  at = omega arith;
}

pub returns : goal.returns
returns g c = left_none c.loop-byte.invariant.text
    (ap (cells_text c.loop-byte.at c.args.y) (drop_all c.loop-byte.byte-index c.args.bytes.now (omega arith)))
