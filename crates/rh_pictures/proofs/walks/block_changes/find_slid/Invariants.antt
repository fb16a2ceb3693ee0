use Rattle.rh_pictures.proofs.Common.{◌≡◌, take, flat_map, BlockItem, item_with_anchor, slide_of, summary_of}
use Rattle.rh_pictures.proofs.walks.block_changes.find_slid.Given as goal

-- those so far that slid are found
abbrev pub invariant-loop-block : goal.invariant-loop-block
invariant-loop-block l = l.found ≡ summary_of (flat_map (λ (b : BlockItem). slide_of b (item_with_anchor b.anchor l.kept.blocks)) (take l.block-index l.blocks))
