use Rattle.rh_pictures.proofs.Common.{ap, refl, ◌∙◌, BlockItem, left_less, left_none, ticks_text, offered_as}
use Rattle.rh_sheet.specs.SheetAreas.{tick_text}
use Rattle.rh_pictures.proofs.TextWalks.{text-at, text-end}
use Rattle.rh_pictures.proofs.sheet.slots.print_ticks.Goals as goal

pub loop-block-preserved : goal.loop-block-preserved
loop-block-preserved g c =
    left_less _ c.loop-block.invariant (text-at (ticks_text c.args.y) (λ (b : BlockItem). tick_text c.args.y b.anchor)
    (λ b rest. refl) c.args.blocks.now c.loop-block.block-index c.block-item.result c.loop-block-test.true c.block-item.is)
    (offered_as _ (ap (tick_text c.args.y) (c.from.ensures ∙ ap (λ (b : BlockItem). b.anchor) c.block.view_is)) c.print_tick.ensures)

pub returns : goal.returns
returns g c = left_none c.loop-block.invariant (text-end
    (ticks_text c.args.y) refl c.args.blocks.now c.loop-block.block-index c.loop-block-test.false)
