use Rattle.rh_pictures.proofs.Common.{◌≡◌, ℕ, List, ◌++◌, ◌∙◌, ap, append_assoc, refl, sym, flat_map, task_at, Scene, Text, scene_at, offered_as}
use Rattle.rh_figure.specs.Changes.{block_changes, changes, back_text, effect_text, holding_text, page_changes, post_changes, slide_change, slides}
use Rattle.rh_figure.specs.HeapChanges.{buffer_text, grown_text, heap_text}
use Rattle.rh_pictures.proofs.ElementLemmas.{parts-both}
use Rattle.rh_pictures.proofs.TextPuts.{text_then}
use Rattle.rh_pictures.proofs.walks.changes.show_changes.Goals as goal

-- some texts, and those behind them
behind : (element : Text → List ℕ) (xs ys : List Text) (t : List ℕ) → t ≡ flat_map element ys
    → flat_map element xs ++ t ≡ flat_map element (xs ++ ys)
behind element xs ys t e = ap (λ z. flat_map element xs ++ z) e ∙ sym (parts-both element xs ys)

-- the effect, and what has changed of the pool, of a heap, of blocks, and of messages
whole : (element : Text → List ℕ) (x : Scene) → flat_map element (effect_text x x.marks.effect) ++ (flat_map element (page_changes x)
    ++ (flat_map element (grown_text x (task_at x.before.handle x.desk)) ++ (flat_map element (heap_text x x.marks.heap_effect)
    ++ (flat_map element (buffer_text x x.marks.taken x.marks.sent)
    ++ (flat_map element (block_changes x (task_at x.before.handle x.desk) ++ slide_change (slides x))
    ++ (flat_map element (back_text x x.marks.taken) ++ (flat_map element (post_changes x) ++ flat_map element (holding_text x x.marks.taken))))))))
    ≡ flat_map element (changes x)
whole element x =
    let task = task_at x.before.handle x.desk in
    let held = holding_text x x.marks.taken in
    let blocks = block_changes x task ++ slide_change (slides x) in
    behind element (effect_text x x.marks.effect) _ _ (behind element (page_changes x) _ _ (behind element (grown_text x task) _ _
    (behind element (heap_text x x.marks.heap_effect) _ _ (behind element (buffer_text x x.marks.taken x.marks.sent) _ _
    (behind element blocks _ _ (behind element (back_text x x.marks.taken) _ _ (behind element (post_changes x) held _ refl)))))))
    ∙ ap (flat_map element) (simp append_assoc)

pub returns : goal.returns
returns g c =
    let x = scene_at (g.S.Sight.desk c.args.sight.now) c.args.step.now in
    let offered = g.P.Pen.offered in
    offered_as _ (whole g.A.Artist.change_text x)
    (text_then (offered c.args.pen.now) _ _ c.show_effect.ensures
    (text_then (offered c.show_effect.new.pen) _ _ c.show_page_changes.ensures
    (text_then (offered c.show_page_changes.new.pen) _ _ c.show_growth.ensures
    (text_then (offered c.show_growth.new.pen) _ _ c.show_heap_change.ensures
    (text_then (offered c.show_heap_change.new.pen) _ _ c.show_buffer.ensures
    (text_then (offered c.show_buffer.new.pen) _ _ c.show_block_changes.ensures
    (text_then (offered c.show_block_changes.new.pen) _ _ c.show_back.ensures
    (text_then (offered c.show_back.new.pen) _ _ c.show_post_changes.ensures c.show_held.ensures))))))))
