use Rattle.rh_lens.proofs.widths.has_cells.Goals as goal

pub returns-in-FlexBlock : goal.returns-in-FlexBlock
returns-in-FlexBlock c i p told =
    rw c.in-FlexBlock.is (c.has_flex_cells.ensures.value i c.in-FlexBlock.anchor)
