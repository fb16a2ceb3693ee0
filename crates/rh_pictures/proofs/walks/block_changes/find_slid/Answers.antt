use Rattle.rh_pictures.proofs.Common.{◌≡◌, ℕ, ◌<◌, ◌≤◌, ◌++◌, Bool, true, false, List, [], ◌∷◌, Option, Some, None, length, take, get_or, ap, sym, subst, refl}
use Rattle.rh_pictures.proofs.Common.{◌∙◌, arith, append-nil, IfSome, ◌==◌, flat_map, flat_map-append, length-append, length-take, BlockItem, item_with_anchor}
use Rattle.rh_pictures.proofs.Common.{slide_of, summary_of}
use Rattle.std.proofs.lemmas.List.{take_more}
use Rattle.rh_defs.specs.Slot.{anchor_count}
use Rattle.rh_figure.specs.Changes.{Slide}
use Rattle.rh_pictures.proofs.walks.block_changes.find_slid.Goals as goal

abbrev of : List BlockItem → BlockItem → List Slide
of before b = slide_of b (item_with_anchor b.anchor before)

one-slide : (b : BlockItem) (o : Option BlockItem) → length (slide_of b o) ≤ 1
one-slide b None = omega arith
one-slide b (Some old) = go (old.address == b.address) refl
  where
    go : (t : Bool) → (old.address == b.address) ≡ t → length (slide_of b (Some old)) ≤ 1
    go true e = rw e (omega arith)
    go false e = rw e (omega arith)

few-slides : (before bs : List BlockItem) → length (flat_map (of before) bs) ≤ length bs
few-slides before [] = omega arith
few-slides before (b ∷ bs) = omega (
  arith,
  length-append (of before b) (flat_map (of before) bs),
  one-slide b
      (item_with_anchor b.anchor before),
  few-slides before bs,
)

count-few : (n : ℕ) (slides : List Slide) → length slides < n → IfSome (summary_of slides) (λ slid. slid.count < n)
count-few n [] few = tt
count-few n (s ∷ slides) few = omega (arith, few)

pub with_block-found-requires : goal.with_block-found-requires
with_block-found-requires c =
    let before = c.args.kept.now.blocks in
    let i = c.loop-block.block-index in
    let bs = c.args.blocks.now in
    let few : length (flat_map (of before) (take i bs)) < anchor_count =
    omega (arith, c.requires, c.loop-block-test.true, few-slides before (take i bs), length-take i bs) in
    subst (λ o. IfSome o (λ slid. slid.count < anchor_count)) (sym c.loop-block.invariant) (count-few anchor_count (flat_map (of before) (take i bs)) few)

pub loop-block-preserved : goal.loop-block-preserved
loop-block-preserved c =
    let before = c.args.kept.now.blocks in
    let i = c.loop-block.block-index in
    let bs = c.args.blocks.now in
    let b = c.block-item.result in
    c.with_block-found.ensures (flat_map (of before) (take i bs)) c.loop-block.invariant
    ∙ ap summary_of (ap (λ z. flat_map (of before) (take i bs) ++ z) (ap (of before) c.block-item.is ∙ sym (append-nil (of before (get_or bs i b))))
    ∙ (sym (flat_map-append (of before) (take i bs) (get_or bs i b ∷ [])) ∙ ap (flat_map (of before)) (sym (take_more bs i b c.loop-block-test.true))))
