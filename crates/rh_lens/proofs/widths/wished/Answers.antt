use Rattle.rh_lens.proofs.widths.wished.Goals as goal

pub returns-in-FlexBlock : goal.returns-in-FlexBlock
returns-in-FlexBlock c i told = rw (c.in-FlexBlock.is, ← c.scaled-wide.ensures) (c.flex_width.ensures i)

pub returns-in-Claimed : goal.returns-in-Claimed
returns-in-Claimed c i told =
    rw (c.in-Claimed.is, ← c.scaled-wide.ensures) (c.block_width.ensures i c.args.piece.now told)
