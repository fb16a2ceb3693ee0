use Rattle.rh_heap.proofs.Common.{◌≡◌, ◌+◌, ◌-◌, refl, subst, arith, Ok, left_of, no_answer, placed_block, fitted, release_block, released_at, Edited-both}
use Rattle.rh_heap.proofs.Common.{Edited-wider}
use Rattle.rh_heap.proofs.Common.{SpellsHeapIn, heap_in}
use Rattle.rh_heap.proofs.SpanLaws.{is_span}
use Rattle.rh_heap.proofs.MoveLaws.{new_inside, moved_spells, moved_done, moved_released, moved_end}
use Rattle.rh_heap.proofs.span.resize.move_block.Goals as goal
use Rattle.rh_heap.proofs.span.resize.move_block.Goals.{After-move_bytes}
use Rattle.rh_heap.proofs.span.resize.move_block.Given as given

pub move_bytes-requires-clause-target : goal.move_bytes-requires-clause-target
move_bytes-requires-clause-target g c =
    let s = c.requires.span.spells in
    let o = c.in-Some.ensures.only in
    let t = c.in-Some.ensures.took in
    let i = new_inside _ _ _ _ c.requires.span.spells c.requires.found _ c.requires.longer _ _ t.spells t.address_is in
    let l = c.requires.longer in
    omega (arith, i, s.within, o.outside.len)

copied : (g : given.Over) (c : After-move_bytes g) → SpellsHeapIn (g.S.Words.memory c.move_bytes.new.store) c.args.span
    (placed_block (fitted (c.args.size - 4) c.requires.found.bytes) (heap_in (g.S.Words.memory c.args.store.now) c.args.span)).heap
copied g c =
    let t = c.in-Some.ensures.took in
    moved_spells _ _ _ _ c.requires.span.spells c.requires.found _ c.requires.longer _ _ _ t.spells t.address_is c.move_bytes.ensures.bytes
    c.move_bytes.ensures.only.outside

done : (g : given.Over) (c : After-move_bytes g)
    → let h = heap_in (g.S.Words.memory c.move_bytes.new.store) c.args.span in released_at (c.args.spot.place + 4) h ≡ Ok
    (release_block (c.args.spot.place + 4) h)
done g c = moved_released (g.S.Words.memory c.args.store.now) _ _ _ _ c.requires.span.spells c.requires.found c.requires.longer (copied g c)

pub release-requires : goal.release-requires
release-requires g c = is_span _ _ _ c.move_bytes.ensures.only.opened (copied g (goal.at.release-requires g c).After-move_bytes)

pub unwrap-requires : goal.unwrap-requires
unwrap-requires g c = let d = done g (goal.at.unwrap-requires g c).After-move_bytes in rw (c.release.ensures.answer, d) refl

pub returns-in-Some-clause-moved : goal.returns-in-Some-clause-moved
returns-in-Some-clause-moved g c =
    let k = (goal.at.returns-in-Some-clause-moved g c).After-move_bytes in
    let t = c.in-Some.ensures.took in
    let h = heap_in (g.S.Words.memory c.move_bytes.new.store) c.args.span in
    moved_done _ _ _ _ _ _ _ c.requires.span.spells c.requires.found c.requires.longer t.room t.address_is (copied g k)
    (subst (λ r. SpellsHeapIn (g.S.Words.memory c.release.new.store) c.args.span (left_of h (no_answer r))) (done g k) c.release.ensures.spells)

pub returns-in-Some-clause-only : goal.returns-in-Some-clause-only
returns-in-Some-clause-only g c =
    let t = c.in-Some.ensures.took in
    let l = c.requires.longer in
    let i = new_inside _ _ _ _ c.requires.span.spells c.requires.found _ c.requires.longer _ _ t.spells t.address_is in
    let e = moved_end (g.S.Words.memory c.args.store.now) (g.S.Words.memory c.move_bytes.new.store) c.args.span c.args.spot c.args.size
    c.requires.span.spells c.requires.found c.requires.longer (copied g (goal.at.returns-in-Some-clause-only g c).After-move_bytes) in
    Edited-both _ _ _ _ _ _ c.in-Some.ensures.only
    (Edited-both _ _ _ _ _ _ (Edited-wider _ _ _ _ _ _ _ c.move_bytes.ensures.only (omega arith) (omega arith))
    (Edited-wider _ _ _ _ _ _ _ c.release.ensures.only (omega arith) (omega arith)))
