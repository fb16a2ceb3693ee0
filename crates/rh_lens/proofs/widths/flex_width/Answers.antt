use Rattle.std.proofs.Common.{arith, sym, ◌∙◌}
use Rattle.rh_figure.specs.declared.piece.Kind.TheVariants.{FlexBlock}
use Rattle.rh_lens.specs.Widths.{has_cells}
use Rattle.rh_lens.proofs.LoopLemmas.{chosen-first, chosen-second}
use Rattle.rh_lens.proofs.widths.flex_width.Goals as goal

pub returns-then-has_flex_cells : goal.returns-then-has_flex_cells
returns-then-has_flex_cells c i = chosen-first
    (has_cells c.args.room i (FlexBlock c.args.anchor c.args.size)) _ _ _
    (sym (c.has_flex_cells.ensures.value i c.args.anchor) ∙ c.if-has_flex_cells.true) (grind arith)

pub returns-else-has_flex_cells : goal.returns-else-has_flex_cells
returns-else-has_flex_cells c i = chosen-second
    (has_cells c.args.room i (FlexBlock c.args.anchor c.args.size)) _ _ _
    (sym (c.has_flex_cells.ensures.value i c.args.anchor) ∙ c.if-has_flex_cells.false) (cc)
