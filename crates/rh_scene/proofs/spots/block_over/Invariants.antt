use Rattle.std.proofs.Common.{◌≡◌, drop}
use Rattle.std.specs.Prelude.{find}
use Rattle.rh_figure.specs.Scene.{covers_address}
use Rattle.rh_scene.proofs.spots.block_over.Given as goal

-- none so far has the byte
abbrev pub invariant-loop-block : goal.invariant-loop-block
invariant-loop-block l =
    find (covers_address l.address) (drop l.block-index l.blocks) ≡ find (covers_address l.address) l.blocks
