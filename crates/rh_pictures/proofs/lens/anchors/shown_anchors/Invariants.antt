use Rattle.rh_pictures.proofs.Common.{◌≡◌, ◌≤◌, ◌||◌, Desk, Task, block_items, filter, length, map, range_with_len, scene_at}
use Rattle.rh_lens.specs.Anchors.{leads_now, led_before, shown_anchor}
use Rattle.rh_pictures.proofs.lens.anchors.shown_anchors.Given as goal

-- the anchors so far were looked at
abbrev pub invariant-loop-k : goal.invariant-loop-k
invariant-loop-k l = record {
  items : (d : Desk) (t : Task) → t.handle ≡ l.handle → block_items t.slot ≡ l.blocks → l.anchors.items
      ≡ map (shown_anchor (scene_at d l.step) t) (filter (λ k. leads_now t k || led_before (scene_at d l.step) t k) (range_with_len 0 l.k));
  few : length l.anchors.items ≤ l.k;
}
