use Rattle.std.proofs.Common.{ap, refl, ◌∙◌, ◌≡◌, Some}
use Rattle.std.specs.Option.{option_map}
use Rattle.rh_defs.specs.Desk.{Task, module_start}
use Rattle.rh_defs.specs.Slot.{heap_start}
use Rattle.rh_scene.specs.Seen.{heap_seen}
use Rattle.rh_scene.specs.declared.sight.HeapOf.TheVariants as heap_of
use Rattle.rh_scene.proofs.Heaps.{seen}
use Rattle.rh_tasks.specs.WorldLists.{segment_items_at}
use Rattle.rh_run.proofs.TaskLaws.{granted-if, granted-none, items-from, segments-there, there}
use Rattle.rh_run.proofs.sight.ScriptWorldSight.segments.Goals as goal

pub unwrap-requires : goal.unwrap-requires
unwrap-requires g c =
    let d = c.args.self.now.world.now.desk in
    let t = there c.in-Some.handle _ c.in-Some.ensures.handle in
    granted-none c.segments_in.result _ (segment_items_at c.args.place t.0.slot.heap) c.segments_in.ensures.err
    (segments-there d _ t.0 (c.in-Some.ensures.live ∙ t.1) c.args.place)

pub returns-in-Some : goal.returns-in-Some
returns-in-Some g c =
    let d = c.args.self.now.world.now.desk in
    let t = there c.in-Some.handle _ c.in-Some.ensures.handle in
    let told =
    granted-if _ c.segments_in.result c.unwrap.result _ (segment_items_at c.args.place t.0.slot.heap) c.segments_in.ensures.ok c.unwrap.ensures
    (segments-there d _ t.0 (c.in-Some.ensures.live ∙ t.1) c.args.place) in
    let is : heap_seen (heap_of.Task c.in-Task.i) d ≡ Some t.0.slot.heap = ap (option_map (λ (x : Task). x.slot.heap)) t.1 in
    let here =
    items-from heap_start t.0.slot.heap c.args.place c.unwrap.result.items
    (seen c.recall_spelling.ensures.desk (heap_of.Task c.in-Task.i) t.0.slot.heap is).is.tidy told in
    rw c.in-Task.is (rw is here)

pub returns-in-Module : goal.returns-in-Module
returns-in-Module g c =
    let d = c.args.self.now.world.now.desk in
    let here =
    items-from module_start d.post.heap c.args.place c.module_segments.result.items
    (seen c.recall_spelling.ensures.desk heap_of.Module d.post.heap refl).is.tidy c.module_segments.ensures in
    rw c.in-Module.is here
