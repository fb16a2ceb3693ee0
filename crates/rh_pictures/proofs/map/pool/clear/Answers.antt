use Rattle.std.proofs.Common.{ap, ◌∙◌, set, arith}
use Rattle.std.proofs.lemmas.List.Edits.{fill_more}
use Rattle.rh_pictures.proofs.map.pool.clear.Goals as goal

pub loop-mark-preserved : goal.loop-mark-preserved
loop-mark-preserved c =
    ap (λ z. set z c.loop-mark.mark-index 46) c.loop-mark.invariant ∙ fill_more c.loop-mark.mark-index 46 c.args.marks.now (omega arith)
