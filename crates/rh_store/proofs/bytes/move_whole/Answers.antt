use Rattle.std.proofs.Common.{length, ap, ◌∙◌, arith}
use Rattle.rh_defs.specs.Bytes.{part}
use Rattle.rh_defs.proofs.BytesLaws.{length-part}
use Rattle.rh_store.proofs.Slices.{written}
use Rattle.rh_store.proofs.bytes.move_whole.Goals as goal

pub returns-in-Some : goal.returns-in-Some
returns-in-Some g c =
    let len = length-part c.args.b.now c.args.from g.row.N in
    written c.args.to _ c.args.b.now _ (part c.args.b.now c.args.from g.row.N) (c.put_array.ensures ∙ c.in-Some.ensures.cases.same ∙ c.part_of.ensures)
    (omega arith) (omega (arith, c.requires.target))

pub returns-in_default : goal.returns-in_default
returns-in_default g c = absurd (c.in_default.ensures.cases (ap length c.part_of.ensures ∙ length-part c.args.b.now c.args.from g.row.N))
