use Rattle.std.proofs.Common.{◌≤◌, arith, length, refl}
use Rattle.rh_run.proofs.TaskLaws.{as-granted, flex-long, flex-there}
use Rattle.rh_run.proofs.sight.ScriptWorldSight.read_block.Goals as goal

pub unwrap-requires : goal.unwrap-requires
unwrap-requires g c =
    let d = c.args.self.now.world.now.desk in
    let wanted = c.requires in
    rw (as-granted _ _ _ _ c.read_slot.ensures
    (flex-there d _ _ c.args.item.now wanted.0 (length c.args.to.now) c.in-Some.ensures.live wanted.1 wanted.2)).0 refl

pub returns-in-Some : goal.returns-in-Some
returns-in-Some g c = λ bytes has.
    let d = c.args.self.now.world.now.desk in
    let wanted = c.requires in
    let few : length c.args.to.now ≤ length bytes =
    omega (arith, flex-long _ c.args.item.now bytes has, flex-long _ c.args.item.now wanted.0 wanted.1, wanted.2) in
    (as-granted _ _ _ _ c.read_slot.ensures (flex-there d _ _ c.args.item.now bytes (length c.args.to.now) c.in-Some.ensures.live has few)).1
