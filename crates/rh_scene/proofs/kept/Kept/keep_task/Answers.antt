use Rattle.rh_scene.proofs.Common.{◌≡◌, ◌∙◌, Some, ap, sym, Desk, Task, free_pages, block_items, holdings}
use Rattle.rh_defs.specs.Desk.{next_ref}
use Rattle.rh_defs.specs.Post.{held_by}
use Rattle.rh_figure.specs.Scene.{Before, before_task, ref_of}
use Rattle.rh_scene.specs.SightMessages.{held_ref, message_items}
use Rattle.rh_scene.proofs.Posts.{held-is}
use Rattle.rh_scene.proofs.kept.Kept.keep_task.Goals as goal

-- what is kept of a desk and a task
with-task : (d : Desk) (t : Task) (b : Before) → b.handle ≡ t.handle → b.blocks ≡ block_items t.slot → b.heap_end ≡ t.slot.heap.end → b.held ≡ ref_of
    (held_by t.handle d.post.seats)
    → b.acknowledged ≡ 0 → b.size ≡ 0 → b.messages ≡ message_items d → b.holdings ≡ holdings d → b.free ≡ free_pages d → b.next_ref ≡ next_ref d → b
    ≡ before_task 0 0 d (Some t)
with-task d t b h k l m a n p x y z =
    let same : Before = record {
      handle = b.handle;
      blocks = b.blocks;
      heap_end = b.heap_end;
      held = b.held;
      acknowledged = b.acknowledged;
      size = b.size;
      messages = b.messages;
      holdings = b.holdings;
      free = b.free;
      next_ref = b.next_ref;
    } in
    let made : same ≡ before_task 0 0 d (Some t) = cc in
    made

pub returns-in-Some : goal.returns-in-Some
returns-in-Some g c = λ t e.
    let s = c.in-Some.ensures.some in
    let q : Some s.0 ≡ Some t = sym s.1 ∙ e in
    let same : s.0 ≡ t = cc in
    let handle : c.in-Some.task.handle ≡ t.handle = s.2.handle ∙ ap (λ (x : Task). x.handle) same in
    let had = c.self.view_is ∙ c.requires.before in
    with-task (g.S.Sight.desk c.args.sight.now) t _ handle (c.blocks-in-Some.ensures t e)
    (s.2.heap_end ∙ ap (λ (x : Task). x.slot.heap.end) same)
    (c.held_ref-self-inside.ensures ∙ (ap (held_ref c.in-Some.task.handle) c.requires.messages
    ∙ (held-is (g.S.Sight.desk c.args.sight.now) c.recall_desk.ensures c.in-Some.task.handle
    ∙ ap (λ h. ref_of (held_by h (g.S.Sight.desk c.args.sight.now).post.seats)) handle)))
    (ap (λ (x : Before). x.acknowledged) had) (ap (λ (x : Before). x.size) had) (ap (λ (x : Before). x.messages) had) (ap (λ (x : Before). x.holdings) had)
    (ap (λ (x : Before). x.free) had)
    (ap (λ (x : Before). x.next_ref) had)
