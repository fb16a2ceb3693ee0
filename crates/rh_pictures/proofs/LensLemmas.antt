-- What leads to cards, by its places; the arrow of a slide, by the task that slid.
use Rattle.rh_pictures.proofs.Common.{◌≡◌, ℕ, Bool, true, false, refl, ap, sym, ◌∙◌, Some, ◌==◌, flat_map, Task, task_at, BlockItem, block_items}
use Rattle.rh_pictures.proofs.Common.{item_with_anchor, slide_of, slides, where_so, Scene, lens_below, Frame}
use Rattle.std.proofs.lemmas.Bool.{eqb-true}
use Rattle.rh_figure.specs.Changes.{blocks_now}
use Rattle.rh_sheet.specs.SheetAreas.{lens_above}
use Rattle.rh_sheet.specs.Arrows.{slide_arrow}

pub above-same : (f : Frame) {a b p q m n : ℕ} → a ≡ p → b ≡ q → m ≡ n → lens_above f a b m ≡ lens_above f p q n
above-same f {a} {b} {p} {q} {m} {n} i j k =
    ap (λ z. lens_above f z b m) i ∙ (ap (λ z. lens_above f p z m) j ∙ ap (lens_above f p q) k)

pub below-same : (f : Frame) {a b p q m n : ℕ} → a ≡ p → b ≡ q → m ≡ n → lens_below f a b m ≡ lens_below f p q n
below-same f {a} {b} {p} {q} {m} {n} i j k =
    ap (λ z. lens_below f z b m) i ∙ (ap (λ z. lens_below f p z m) j ∙ ap (lens_below f p q) k)

-- the arrow of the named task's slide is that of a task's blocks, where it is the named one
pub arrow-same : (x : Scene) (f : Frame) (t : Task) → (t.handle ≡ x.before.handle → task_at x.before.handle x.desk ≡ Some t)
    → where_so (t.handle == x.before.handle) (slide_arrow f
    (flat_map (λ (b : BlockItem). slide_of b (item_with_anchor b.anchor x.before.blocks)) (block_items t.slot)))
    ≡ where_so (t.handle == x.before.handle) (slide_arrow f (slides x))
arrow-same x f t there = go (t.handle == x.before.handle) refl
  where
    go : (b : Bool) → (t.handle == x.before.handle) ≡ b
        → where_so b (slide_arrow f (flat_map (λ (z : BlockItem). slide_of z (item_with_anchor z.anchor x.before.blocks)) (block_items t.slot)))
        ≡ where_so b (slide_arrow f (slides x))
    go false e = refl
    go true e =
        ap (λ o. slide_arrow f (flat_map (λ (z : BlockItem). slide_of z (item_with_anchor z.anchor x.before.blocks)) (blocks_now o)))
        (sym (there (eqb-true t.handle x.before.handle e)))
