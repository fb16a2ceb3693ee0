use Rattle.std.proofs.Common.{◌≤◌, ap, arith, length, refl, subst, ◌∙◌}
use Rattle.rh_scene.specs.Seen.{SeesFree}
use Rattle.rh_scene.specs.declared.sight.HeapOf.{HeapOf}
use Rattle.rh_run.proofs.TaskLaws.{as-granted, block-room, block-same, heap-there, in-heap, in-module, module-seen, module-there, task-seen, there}
use Rattle.rh_run.proofs.sight.ScriptWorldSight.read_heap.Goals as goal

pub block_address-address-requires : goal.block_address-address-requires
block_address-address-requires g c =
    let d = c.args.self.now.world.now.desk in
    let t = there c.in-Some.handle _ c.in-Some.ensures.handle in
    let wanted = c.requires.block in
    let room =
    block-room _ c.args.place wanted.0 (in-heap d c.args.heap c.in-Task.i t.0 c.args.place wanted.0 c.in-Task.is t.1 wanted.1)
    (task-seen c.recall_spelling.ensures.desk c.in-Task.i t.0 t.1) in
    omega arith

pub unwrap-requires : goal.unwrap-requires
unwrap-requires g c =
    let d = c.args.self.now.world.now.desk in
    let t = there c.in-Some.handle _ c.in-Some.ensures.handle in
    let wanted = c.requires.block in
    let here = in-heap d c.args.heap c.in-Task.i t.0 c.args.place wanted.0 c.in-Task.is t.1 wanted.1 in
    rw (as-granted _ _ _ _ c.read_slot.ensures
    (heap-there d _ t.0 c.args.place _ (length c.args.to.now) wanted.0 (c.in-Some.ensures.live ∙ t.1)
    (task-seen c.recall_spelling.ensures.desk c.in-Task.i t.0 t.1) here wanted.2 c.block_address-address.ensures)).0 refl

pub returns-in-Some : goal.returns-in-Some
returns-in-Some g c = λ bytes has.
    let d = c.args.self.now.world.now.desk in
    let t = there c.in-Some.handle _ c.in-Some.ensures.handle in
    let wanted = c.requires.block in
    let is = task-seen c.recall_spelling.ensures.desk c.in-Task.i t.0 t.1 in
    let first = in-heap d c.args.heap c.in-Task.i t.0 c.args.place wanted.0 c.in-Task.is t.1 wanted.1 in
    let here = in-heap d c.args.heap c.in-Task.i t.0 c.args.place bytes c.in-Task.is t.1 has in
    let few : length c.args.to.now ≤ length bytes = omega (arith, ap length (block-same _ c.args.place wanted.0 bytes is first here), wanted.2) in
    (as-granted _ _ _ _ c.read_slot.ensures
    (heap-there d _ t.0 c.args.place _ (length c.args.to.now) bytes (c.in-Some.ensures.live ∙ t.1) is here few c.block_address-address.ensures)).1

pub block_address-address-requires-in-Module : goal.block_address-address-requires-in-Module
block_address-address-requires-in-Module g c =
    let d = c.args.self.now.world.now.desk in
    let wanted = c.requires.block in
    let room =
    block-room _ c.args.place wanted.0 (in-module d c.args.heap c.args.place wanted.0 c.in-Module.is wanted.1) (module-seen c.recall_spelling.ensures.desk) in
    omega arith

pub unwrap-requires-in-Module : goal.unwrap-requires-in-Module
unwrap-requires-in-Module g c =
    let d = c.args.self.now.world.now.desk in
    let wanted = c.requires.block in
    let here = in-module d c.args.heap c.args.place wanted.0 c.in-Module.is wanted.1 in
    let free = subst (λ (h : HeapOf). SeesFree h c.args.place d) c.in-Module.is c.requires.free in
    rw (as-granted _ _ _ _ c.read_module.ensures
    (module-there d c.args.place _ (length c.args.to.now) wanted.0
    (module-seen c.recall_spelling.ensures.desk) here free wanted.2 c.block_address-address-in-Module.ensures)).0 refl

pub returns-in-Module : goal.returns-in-Module
returns-in-Module g c = λ bytes has.
    let d = c.args.self.now.world.now.desk in
    let wanted = c.requires.block in
    let is = module-seen c.recall_spelling.ensures.desk in
    let first = in-module d c.args.heap c.args.place wanted.0 c.in-Module.is wanted.1 in
    let here = in-module d c.args.heap c.args.place bytes c.in-Module.is has in
    let few : length c.args.to.now ≤ length bytes = omega (arith, ap length (block-same _ c.args.place wanted.0 bytes is first here), wanted.2) in
    let free = subst (λ (h : HeapOf). SeesFree h c.args.place d) c.in-Module.is c.requires.free in
    (as-granted _ _ _ _ c.read_module.ensures
    (module-there d c.args.place _ (length c.args.to.now) bytes is here free few c.block_address-address-in-Module.ensures)).1
