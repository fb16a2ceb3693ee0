use Rattle.std.proofs.Common.{◌≡◌, drop}
use Rattle.rh_figure.specs.Changes.{item_with_anchor}
use Rattle.rh_scene.proofs.kept.item_at.Given as goal

-- none so far has the anchor
abbrev pub invariant-loop-block : goal.invariant-loop-block
invariant-loop-block l = item_with_anchor l.anchor (drop l.block-index l.blocks) ≡ item_with_anchor l.anchor l.blocks
