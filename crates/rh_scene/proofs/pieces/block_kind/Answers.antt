use Rattle.rh_scene.proofs.Common.{◌≡◌, ℕ, Bool, ap, sym, subst, Scene, HeapOf, scene_at, legend_of}
use Rattle.rh_figure.specs.declared.piece.Kind.{Kind}
use Rattle.rh_figure.specs.declared.piece.Kind.TheVariants.{Claimed}
use Rattle.rh_figure.specs.Layout.{is_fresh_block}
use Rattle.rh_scene.specs.declared.sight.HeapOf.TheVariants as heap_of
use Rattle.rh_scene.specs.Inner.WalkItems.{kind_and_freshness}
use Rattle.rh_scene.proofs.pieces.block_kind.Goals as goal

-- a block of a C heap is claimed
in-slot : (x : Scene) (heap : HeapOf) (i h address size : ℕ) (fresh : Bool) → heap ≡ heap_of.Task i → fresh ≡ is_fresh_block x h address
    → (let p : Kind × Bool = (Claimed size, fresh) in p) ≡ kind_and_freshness (legend_of x heap h) address size
in-slot x heap i h address size fresh e f =
    let P : HeapOf → Type 0 = λ z. (let p : Kind × Bool = (Claimed size, fresh) in p) ≡ kind_and_freshness (legend_of x z h) address size in
    subst P (sym e) (ap (λ (b : Bool). let p : Kind × Bool = (Claimed size, b) in p) f)

pub returns-in-Task : goal.returns-in-Task
returns-in-Task c = λ d is.
    in-slot (scene_at d c.args.step.now) c.args.drawn.now.heap _ c.args.drawn.now.handle c.args.address c.args.size c.is_fresh_block.result c.in-Task.is
    (c.is_fresh_block.ensures d)
