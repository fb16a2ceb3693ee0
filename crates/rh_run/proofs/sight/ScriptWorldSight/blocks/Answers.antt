use Rattle.std.proofs.Common.{◌∙◌}
use Rattle.rh_defs.specs.Questions.{block_items}
use Rattle.rh_run.proofs.TaskLaws.{blocks-there, given, is-granted, there}
use Rattle.rh_run.proofs.sight.ScriptWorldSight.blocks.Goals as goal

pub unwrap-requires : goal.unwrap-requires
unwrap-requires g c =
    let d = c.args.self.now.world.now.desk in
    let t = there c.in-Some.handle _ c.in-Some.ensures.handle in
    is-granted _ c.blocks_in.result _ (block_items t.0.slot) c.blocks_in.ensures.err (blocks-there d _ t.0 (c.in-Some.ensures.live ∙ t.1))

pub returns-in-Some : goal.returns-in-Some
returns-in-Some g c = λ t e.
    let d = c.args.self.now.world.now.desk in
    let all = blocks-there d _ t (c.in-Some.ensures.live ∙ e) in
    given c.blocks_in.result _ _ (block_items t.slot) c.blocks_in.ensures.ok
    (is-granted _ c.blocks_in.result _ (block_items t.slot) c.blocks_in.ensures.err all) all
