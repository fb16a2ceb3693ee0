use Rattle.rh_pictures.proofs.Common.{◌∙◌, ◌≤◌, length, take, ap, arith, slice_get, length-take, slice_get_within, heap_seen, heap_start_of, scene_at, at-some}
use Rattle.rh_pictures.proofs.Common.{band_cards}
use Rattle.rh_map.proofs.Left.{left_less, left_none, left_whole}
use Rattle.rh_pictures.proofs.HeapLemmas.{from-first, if-heap, band-heap, got-is, in-band, told-here}
use Rattle.rh_scene.proofs.Heaps.{comes-parts}
use Rattle.rh_pictures.proofs.CardLemmas.{get-front, cards-end, cards-some}
use Rattle.rh_pictures.proofs.walks.heap_cards.show_first.Goals as goal

pub segments-items-requires : goal.segments-items-requires
segments-items-requires g c =
    let there = band-heap (g.S.Sight.desk c.args.sight.now) c.args.band.now c.requires.band in
    comes-parts (from-first there.heap there.is)

pub loop-k-init : goal.loop-k-init
loop-k-init g c = λ h e. left_whole _ _

pub bounds-first-k : goal.bounds-first-k
bounds-first-k g c =
    let d = g.S.Sight.desk c.args.sight.now in
    let b = c.args.band.now in
    let k = c.loop-k.k in
    let there = band-heap d b c.requires.band in
    let few = at-some (heap_seen b.heap d) (λ h. c.args.shown ≤ length h.segments) there.heap there.is c.requires.there in
    let q = in-band (scene_at d c.args.step.now) d b there.heap k there.is (omega (arith, few, c.loop-k-test.true)) in
    let here = told-here (heap_start_of b.heap) there.heap _ k there.is c.segments-items.ensures (omega (arith, c.requires.few, c.loop-k-test.true)) in
    omega (arith, slice_get_within _ k _ (ap (λ xs. slice_get xs k) c.as_slice-first.ensures.value ∙ (here ∙ q.item_at)))

pub show_segment-requires-clause-segment : goal.show_segment-requires-clause-segment
show_segment-requires-clause-segment g c =
    let d = g.S.Sight.desk c.args.sight.now in
    let b = c.args.band.now in
    let k = c.loop-k.k in
    let there = band-heap d b c.requires.band in
    let few = at-some (heap_seen b.heap d) (λ h. c.args.shown ≤ length h.segments) there.heap there.is c.requires.there in
    let q = in-band (scene_at d c.args.step.now) d b there.heap k there.is (omega (arith, few, c.loop-k-test.true)) in
    let here = told-here (heap_start_of b.heap) there.heap _ k there.is c.segments-items.ensures (omega (arith, c.requires.few, c.loop-k-test.true)) in
    (q.place, q.segment, q.has, got-is _ k _ _ (ap (λ xs. slice_get xs k) c.as_slice-first.ensures.value ∙ (here ∙ q.item_at)))

pub loop-k-preserved : goal.loop-k-preserved
loop-k-preserved g c = λ h e.
    let text = g.A.CardArtist.card_text c.args.artist.now in
    let d = g.S.Sight.desk c.args.sight.now in
    let x = scene_at d c.args.step.now in
    let b = c.args.band.now in
    let k = c.loop-k.k in
    let cs = band_cards x d b h in
    let few = at-some (heap_seen b.heap d) (λ z. c.args.shown ≤ length z.segments) h e c.requires.there in
    let q = in-band x d b h k e (omega (arith, few, c.loop-k-test.true)) in
    let here = told-here (heap_start_of b.heap) h _ k e c.segments-items.ensures (omega (arith, c.requires.few, c.loop-k-test.true)) in
    let at = get-front c.args.shown k cs c.loop-k-test.true ∙ q.card_at in
    left_less _ (c.loop-k.invariant h e) (cards-some text (take c.args.shown cs) k _ at)
    (c.show_segment.ensures q.place q.segment q.has (got-is _ k _ _ (ap (λ xs. slice_get xs k) c.as_slice-first.ensures.value ∙ (here ∙ q.item_at))))

pub returns : goal.returns
returns g c =
    let text = g.A.CardArtist.card_text c.args.artist.now in
    let d = g.S.Sight.desk c.args.sight.now in
    let x = scene_at d c.args.step.now in
    let b = c.args.band.now in
    if-heap (heap_seen b.heap d) _ (λ h e.
    let cs = take c.args.shown (band_cards x d b h) in
    left_none (c.loop-k.invariant h e) (cards-end text cs c.loop-k.k (omega (
      arith,
      length-take c.args.shown
          (band_cards x d b h),
      c.loop-k-test.false,
    ))))
