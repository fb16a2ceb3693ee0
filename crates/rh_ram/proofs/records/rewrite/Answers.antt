use Rattle.std.proofs.Common.{arith, ◌∙◌, sym, ap, ◌==◌}
use Rattle.rh_ram.proofs.RecordLaws.{written-more, kept-more}
use Rattle.rh_ram.proofs.records.rewrite.Goals as goal
use Rattle.rh_ram.proofs.records.rewrite.Goals.{then-eq, else-eq}

pub loop-entry-preserved : goal.loop-entry-preserved
loop-entry-preserved g c =
    elim c.if-eq.branch [
      | then-eq w ↦
          w.records-is
          ∙ written-more g.R.Record.id_of c.args.id c.args.new c.args.records.now c.loop-entry.records c.loop-entry.entry-index c.entry-item.result
          (omega arith)
          c.loop-entry.invariant c.entry-item.is (ap (λ n. n == c.args.id) (sym c.id.ensures) ∙ sym c.eq.ensures ∙ w.if-eq.true)
      | else-eq w ↦
          w.records-is
          ∙ kept-more g.R.Record.id_of c.args.id c.args.new c.args.records.now c.loop-entry.records c.loop-entry.entry-index c.entry-item.result (omega arith)
          c.loop-entry.invariant c.entry-item.is (ap (λ n. n == c.args.id) (sym c.id.ensures) ∙ sym c.eq.ensures ∙ w.if-eq.false)
    ]
