use Rattle.rh_pictures.proofs.Common.{◌∙◌, ◌-◌, length, take, ap, refl, arith, slice_get, heap_seen, heap_start_of, scene_at, IsSurvey, is_fresh_card}
use Rattle.rh_pictures.proofs.Common.{with_items}
use Rattle.rh_scene.proofs.Heaps.{comes-next, comes-parts, counted-all, counted-more, counted-none, seen, start-small, stepped, told}
use Rattle.rh_pictures.proofs.HeapLemmas.{all-in-area, band-heap, from-first, if-heap, surveyed-all, surveyed-more}
use Rattle.rh_pictures.proofs.walks.heap_cards.take_survey.Goals as goal
use Rattle.rh_defs.specs.declared.sizes.TheConstants.{SEGMENTS_AT_ONCE}

pub segments-items-requires : goal.segments-items-requires
segments-items-requires g c =
    let there = band-heap (g.S.Sight.desk c.args.sight.now) c.args.band.now c.requires.band in
    comes-parts (from-first there.heap there.is)

pub places-init : goal.places-init
places-init g c = λ h e. record { counted = counted-none (told (heap_start_of c.args.band.now.heap) (from-first h e) c.segments-items.ensures); so_far = refl }

pub surveyed-survey-requires-clause-few : goal.surveyed-survey-requires-clause-few
surveyed-survey-requires-clause-few g c =
    let d = g.S.Sight.desk c.args.sight.now in
    let b = c.args.band.now in
    let there = band-heap d b c.requires.band in
    let w = from-first there.heap there.is in
    let k = (c.places.invariant there.heap there.is).counted in
    let here = c.in-Some.ensures.value ∙ ap (λ xs. slice_get xs (length xs - 1)) c.deref.ensures.0 in
    let s = stepped w k 0 c.in-Some.last.now (seen c.recall_desk.ensures b.heap there.heap there.is) here in
    omega (arith, s.few, ap length c.deref-in-Some.ensures.0)

pub surveyed-survey-requires-clause-items : goal.surveyed-survey-requires-clause-items
surveyed-survey-requires-clause-items g c =
    let d = g.S.Sight.desk c.args.sight.now in
    let b = c.args.band.now in
    let there = band-heap d b c.requires.band in
    let k = (c.places.invariant there.heap there.is).counted in
    all-in-area b.heap c.places.place (take SEGMENTS_AT_ONCE k.left) _ (c.deref-in-Some.ensures.0 ∙ k.items_are)

pub place_behind-place-requires-clause-low : goal.place_behind-place-requires-clause-low
place_behind-place-requires-clause-low g c =
    let d = g.S.Sight.desk c.args.sight.now in
    let b = c.args.band.now in
    let there = band-heap d b c.requires.band in
    let w = from-first there.heap there.is in
    let k = (c.places.invariant there.heap there.is).counted in
    let here = c.in-Some.ensures.value ∙ ap (λ xs. slice_get xs (length xs - 1)) c.deref.ensures.0 in
    let s = stepped w k 0 c.in-Some.last.now (seen c.recall_desk.ensures b.heap there.heap there.is) here in
    s.low

pub place_behind-place-requires-clause-small : goal.place_behind-place-requires-clause-small
place_behind-place-requires-clause-small g c =
    let d = g.S.Sight.desk c.args.sight.now in
    let b = c.args.band.now in
    let there = band-heap d b c.requires.band in
    let w = from-first there.heap there.is in
    let k = (c.places.invariant there.heap there.is).counted in
    let here = c.in-Some.ensures.value ∙ ap (λ xs. slice_get xs (length xs - 1)) c.deref.ensures.0 in
    let s = stepped w k 0 c.in-Some.last.now (seen c.recall_desk.ensures b.heap there.heap there.is) here in
    omega (arith, s.small, start-small b.heap)

pub segments-items-requires-in-Some : goal.segments-items-requires-in-Some
segments-items-requires-in-Some g c =
    let d = g.S.Sight.desk c.args.sight.now in
    let b = c.args.band.now in
    let there = band-heap d b c.requires.band in
    let w = from-first there.heap there.is in
    let k = (c.places.invariant there.heap there.is).counted in
    let here = c.in-Some.ensures.value ∙ ap (λ xs. slice_get xs (length xs - 1)) c.deref.ensures.0 in
    comes-parts (comes-next w k c.place_behind-place.result c.in-Some.last.now here c.place_behind-place.ensures)

pub places-smaller : goal.places-smaller
places-smaller g c =
    let d = g.S.Sight.desk c.args.sight.now in
    let b = c.args.band.now in
    let there = band-heap d b c.requires.band in
    let w = from-first there.heap there.is in
    let k = (c.places.invariant there.heap there.is).counted in
    let here = c.in-Some.ensures.value ∙ ap (λ xs. slice_get xs (length xs - 1)) c.deref.ensures.0 in
    let s = stepped w k c.place_behind-place.result c.in-Some.last.now (seen c.recall_desk.ensures b.heap there.heap there.is) here in
    omega (arith, s.goes c.place_behind-place.ensures, s.within c.place_behind-place.ensures)

pub places-preserved : goal.places-preserved
places-preserved g c = λ h e.
    let d = g.S.Sight.desk c.args.sight.now in
    let v = c.places.invariant h e in
    let here = c.in-Some.ensures.value ∙ ap (λ xs. slice_get xs (length xs - 1)) c.deref.ensures.0 in
    surveyed-more c.surveyed-survey.result v (c.surveyed-survey.ensures d c.requires.step
    ∙ ap (λ xs. with_items (is_fresh_card (scene_at d c.args.step.now) c.args.band.now) xs c.places.survey) c.deref-in-Some.ensures.0)
    (counted-more (from-first h e) v.counted c.place_behind-place.result c.in-Some.last.now c.segments-items-in-Some.result.items here
    c.place_behind-place.ensures c.segments-items-in-Some.ensures)

pub returns : goal.returns
returns g c =
    let d = g.S.Sight.desk c.args.sight.now in
    let b = c.args.band.now in
    let none = c.in_default.ensures.value ∙ ap (λ xs. slice_get xs (length xs - 1)) c.deref.ensures.0 in
    if-heap (heap_seen b.heap d) (λ h. IsSurvey (scene_at d c.args.step.now) b h c.places.survey)
    (λ h e. let v = c.places.invariant h e in let all = counted-all (from-first h e) v.counted none in surveyed-all v all.0)
