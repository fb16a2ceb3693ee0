use Rattle.rh_scene.proofs.Common.{◌≡◌, ◌<◌, ◌∙◌, ◌+◌, ◌++◌, Some, length, ap, sym, subst, arith, slice_get, option_map, length-append}
use Rattle.rh_scene.proofs.Common.{Task, Heap, block_items, heap_pieces, scene_at, item_pieces}
use Rattle.rh_defs.specs.SlotImage.{heap_place}
use Rattle.rh_defs.specs.Slot.{flex_start}
use Rattle.rh_figure.specs.Layout.{slot_legend, slot_pieces as slot_pieces_of}
use Rattle.rh_scene.specs.Seen.{IsTaskSeen}
use Rattle.rh_scene.proofs.Heaps.{task-length, task-slot}
use Rattle.rh_scene.proofs.Holders.{at-some}
use Rattle.rh_scene.proofs.PieceWalks.{items-long}
use Rattle.rh_scene.proofs.SlotPieces.{few-blocks, heap-few, items-few, slot-whole, weights-are}
use Rattle.rh_scene.proofs.pieces.slot_pieces.Goals as goal

pub push_blocks-end-requires-clause-few : goal.push_blocks-end-requires-clause-few
push_blocks-end-requires-clause-few g c =
    let d = g.S.Sight.desk c.args.sight.now in
    let r = c.requires.task in
    let t = r.0 in
    let legend = slot_legend (scene_at d c.args.step.now) c.args.task.now.handle in
    let heap = ap (option_map (λ (x : Task). x.slot.heap)) r.1 in
    let joined = at-some (option_map (λ (x : Task). x.slot.heap) (slice_get d.tasks c.args.i))
    (λ (h : Heap). c.push_heap.new.pieces.items ≡ c.push.new.self.items ++ heap_pieces legend heap_place h) t.slot.heap heap c.push_heap.ensures in
    omega (
      arith,
      ap length joined,
      length-append c.push.new.self.items (heap_pieces legend heap_place t.slot.heap),
      heap-few legend heap_place t.slot.heap,
      c.push.ensures.len,
      ap length c.clear.ensures,
      ap length r.3,
      items-long (flex_start t.slot) t.slot.blocks,
      few-blocks t.slot.blocks (task-slot c.recall_desk.ensures c.args.i t r.1).anchors,
    )

pub push_blocks-end-requires-clause-small : goal.push_blocks-end-requires-clause-small
push_blocks-end-requires-clause-small g c =
    let r = c.requires.task in
    let t = r.0 in
    let most = r.2.heap_end in
    let all = weights-are t.slot c.args.blocks.now r.3 in
    let room = task-length c.recall_desk.ensures c.args.i t r.1 in
    let low = room.0 in
    let high = room.1 in
    omega arith

pub overflow_sub-unused : goal.overflow_sub-unused
overflow_sub-unused g c =
    let r = c.requires.task in
    let t = r.0 in
    let most = r.2.heap_end in
    let pages = r.2.pages in
    let all = weights-are t.slot c.args.blocks.now r.3 in
    let room = task-length c.recall_desk.ensures c.args.i t r.1 in
    let low = room.0 in
    let end = c.push_blocks-end.ensures.end in
    omega arith

pub push-requires-2 : goal.push-requires-2
push-requires-2 g c =
    let d = g.S.Sight.desk c.args.sight.now in
    let r = c.requires.task in
    let t = r.0 in
    let x = scene_at d c.args.step.now in
    let legend = slot_legend x c.args.task.now.handle in
    let heap = ap (option_map (λ (x : Task). x.slot.heap)) r.1 in
    let joined = at-some (option_map (λ (x : Task). x.slot.heap) (slice_get d.tasks c.args.i))
    (λ (h : Heap). c.push_heap.new.pieces.items ≡ c.push.new.self.items ++ heap_pieces legend heap_place h) t.slot.heap heap c.push_heap.ensures in
    let few : length c.push_blocks-end.new.pieces.items < 581 =
    omega (
      arith,
      ap length joined,
      length-append c.push.new.self.items (heap_pieces legend heap_place t.slot.heap),
      heap-few legend heap_place t.slot.heap,
      c.push.ensures.len,
      ap length c.clear.ensures,
      ap length r.3,
      items-long (flex_start t.slot) t.slot.blocks,
      few-blocks t.slot.blocks (task-slot c.recall_desk.ensures c.args.i t r.1).anchors,
      ap length (c.push_blocks-end.ensures.pieces d),
      length-append c.push_heap.new.pieces.items (item_pieces x c.args.task.now.handle (heap_place + c.args.task.now.heap_end) c.args.blocks.now),
      items-few x c.args.task.now.handle (heap_place + c.args.task.now.heap_end) c.args.blocks.now,
    ) in
    (omega arith, few)

pub returns : goal.returns
returns g c = λ t e.
    let d = g.S.Sight.desk c.args.sight.now in
    let x = scene_at d c.args.step.now in
    let r = c.requires.task in
    let q : Some r.0 ≡ Some t = sym r.1 ∙ e in
    let same : r.0 ≡ t = cc in
    let S : Task → Type 0 = λ z. IsTaskSeen c.args.task.now z in
    let B : Task → Type 0 = λ z. c.args.blocks.now ≡ block_items z.slot in
    let seen = subst S same r.2 in
    let blocks = subst B same r.3 in
    let handle = c.args.task.now.handle in
    let heap = ap (option_map (λ (x : Task). x.slot.heap)) e in
    let joined = at-some (option_map (λ (x : Task). x.slot.heap) (slice_get d.tasks c.args.i))
    (λ (h : Heap). c.push_heap.new.pieces.items ≡ c.push.new.self.items ++ heap_pieces (slot_legend x handle) heap_place h) t.slot.heap heap
    c.push_heap.ensures in
    slot-whole x handle c.push_blocks-end.result c.args.task.now.heap_end c.args.task.now.pages t.slot c.args.blocks.now c.clear.new.self.items
    c.push.new.self.items
    c.push_heap.new.pieces.items c.push_blocks-end.new.pieces.items c.push-2.new.self.items c.plain.result c.plain-2.result c.clear.ensures c.plain.ensures
    c.push.ensures.items joined
    blocks seen.heap_end (c.push_blocks-end.ensures.pieces d) c.push_blocks-end.ensures.end seen.pages c.plain-2.ensures c.push-2.ensures.items
    ∙ ap (λ k. slot_pieces_of x k t.slot) seen.handle
