use Rattle.std.proofs.Common.{ap, ◌∙◌}
use Rattle.std.specs.Int.{w64}
use Rattle.std.proofs.lemmas.Int.{to_z-of_z}
use Rattle.std.specs.Prelude.{Err}
use Rattle.vf_heap.proofs.Far.{far_resize, shrinks, grows}
use Rattle.vf_heap.proofs.plain.far_refusal.Goals as goal

pub returns-in-Ok : goal.returns-in-Ok
returns-in-Ok c =
    far_resize c.args.memory.now c.args.address _ c.args.delta c.requires.heap c.in-Ok.ensures c.requires.far
    ∙ ap Err (shrinks c.args.delta _ (to_z-of_z w64 c.args.delta c.ranges.delta) c.if-delta-lt0.true)

pub returns-in-Ok-2 : goal.returns-in-Ok-2
returns-in-Ok-2 c =
    far_resize c.args.memory.now c.args.address _ c.args.delta c.requires.heap c.in-Ok.ensures c.requires.far
    ∙ ap Err (grows c.args.delta _ (to_z-of_z w64 c.args.delta c.ranges.delta) c.if-delta-lt0.false)
