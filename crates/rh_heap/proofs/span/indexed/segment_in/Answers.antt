use Rattle.rh_heap.proofs.Common.{◌≡◌, ◌<◌, ◌*◌, ◌/◌, refl, ap, ◌∙◌, arith, base, bit, USED, bytes_in, heap_in}
use Rattle.rh_heap.proofs.ListLaws.{block_around_place, hole_behind}
use Rattle.rh_heap.proofs.WalkLaws.{found_here}
use Rattle.rh_heap.proofs.PeakKeeps.{empty_peaks}
use Rattle.rh_heap.proofs.span.indexed.segment_in.Goals as goal

pub spot_at-block-requires-clause-marked : goal.spot_at-block-requires-clause-marked
spot_at-block-requires-clause-marked g c =
    let here : 8 * c.in-Some.k / 8 ≡ c.in-Some.k = omega arith in ap (λ j. bit USED c.args.starts.now j) here ∙ c.in-Some.ensures.is_set

pub overflow_add-block : goal.overflow_add-block
overflow_add-block g c =
    let s = c.requires.span.spells in
    omega (arith, c.spot_at-block.ensures.size_fits, s.heap.fits, s.within)

pub follow-requires-clause-within : goal.follow-requires-clause-within
follow-requires-clause-within g c =
    let s = c.requires.span.spells in
    let r = c.spot_at-block.ensures.reached in
    omega (arith, r.behind, r.inside, s.heap.fits, s.within)

pub returns-then-block-target : goal.returns-then-block-target
returns-then-block-target g c =
    let h = heap_in (g.S.Words.memory c.args.store.now) c.args.span in
    let here = c.if-block-target.true in
    found_here _ h c.args.target _ c.requires.span.spells.heap.tidy (block_around_place _ h _ _ c.args.target c.spot_at-block.ensures here) here

pub returns : goal.returns
returns g c =
    let b = bytes_in (g.S.Words.memory c.args.store.now) c.args.span in
    let h = heap_in (g.S.Words.memory c.args.store.now) c.args.span in
    let s = c.requires.span.spells in
    let e = s.base in
    let inside : c.args.target < base h = omega (arith, c.read.ensures.value, c.if-read-target.false) in
    let hole = hole_behind b c.args.span.at h _ c.spot_at-block.result c.args.target c.follow.result s c.spot_at-block.ensures c.follow.ensures
    c.if-block-target-2.false c.if-follow-target.false inside in
    found_here _ h c.args.target _ s.heap.tidy (hole.around c.read-2.result c.read-2.ensures.value) refl

pub spot_at-block-requires-clause-peaks : goal.spot_at-block-requires-clause-peaks
spot_at-block-requires-clause-peaks g c = empty_peaks _
