use Rattle.rh_pictures.proofs.Common.{◌≡◌, drop}
use Rattle.rh_sheet.specs.Slides.{address_in}
use Rattle.rh_pictures.proofs.lens.anchors.address_of.Given as goal

-- no block so far has the anchor
abbrev pub invariant-loop-block : goal.invariant-loop-block
invariant-loop-block l = address_in l.anchor (drop l.block-index l.blocks) ≡ address_in l.anchor l.blocks
