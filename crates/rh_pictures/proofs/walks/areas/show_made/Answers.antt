use Rattle.rh_pictures.proofs.Common.{◌≡◌, ℕ, List, length, map, ap, refl, ◌∙◌, arith, flat_map, Made, made_panel, AreaOf, scene_at, offered_as}
use Rattle.rh_figure.specs.Figure.{area_panel, listed_pages, made_note}
use Rattle.rh_map.proofs.Left.{left_less, left_none}
use Rattle.rh_scene.specs.declared.sight.PagesOf.TheVariants as pages
use Rattle.rh_pictures.proofs.PageLemmas.{made-above, owned, owned-few, owned-made, seen-made}
use Rattle.rh_pictures.proofs.TextWalks.{text-none, text-some}
use Rattle.rh_pictures.proofs.walks.areas.show_made.Goals as goal

note-same : (most n : ℕ) (found kept : List ℕ) → length found ≡ n → found ≡ kept
    → made_note (length found) most (listed_pages (length found) found) ≡ made_note n most (listed_pages n kept)
note-same most n found kept long is =
    ap (λ z. made_note z most (listed_pages z found)) long
    ∙ ap (λ z. made_note n most (listed_pages n z)) is

pub made_area-requires-clause-number : goal.made_area-requires-clause-number
made_area-requires-clause-number g c = made-above c.recall_desk.ensures c.areas.i _ c.in-Some.ensures.some

pub made_area-requires-clause-few : goal.made_area-requires-clause-few
made_area-requires-clause-few g c =
    let seen = seen-made c.recall_desk.ensures c.areas.i _ c.in-Some.ensures.some in
    let is = owned c.recall_desk.ensures c.args.step.now.pages.now c.requires.shared (pages.Made c.areas.i) (AreaOf c.in-Some.area.number)
    c.pages_of-pages.result.now seen c.pages_of-pages.ensures in
    let few = owned-few c.recall_desk.ensures c.args.step.now.pages.now c.requires.shared (pages.Made c.areas.i) (AreaOf c.in-Some.area.number) seen
    c.requires.all in
    omega (arith, ap length is)

pub areas-preserved : goal.areas-preserved
areas-preserved g c =
    let d = g.S.Sight.desk c.args.sight.now in
    let x = scene_at d c.args.step.now in
    let element = g.A.Artist.area_text in
    let m = c.in-Some.area in
    let seen = seen-made c.recall_desk.ensures c.areas.i _ c.in-Some.ensures.some in
    let is = owned c.recall_desk.ensures c.args.step.now.pages.now c.requires.shared (pages.Made c.areas.i) (AreaOf m.number)
    c.pages_of-pages.result.now seen c.pages_of-pages.ensures in
    let long = owned-made c.recall_desk.ensures c.args.step.now.pages.now c.requires.shared c.areas.i _ c.in-Some.ensures.some in
    left_less _ c.areas.invariant (text-some (λ (ms : List Made). flat_map element (map (made_panel x) ms)) (λ (u : Made). element (made_panel x u))
    (λ u rest. refl) d.made c.areas.i _ c.in-Some.ensures.some)
    (offered_as _ (ap (λ note. element (area_panel m.number note)) (note-same m.most m.pages c.pages_of-pages.result.now _ (ap length is ∙ long) is))
    c.made_area.ensures)

pub returns : goal.returns
returns g c =
    let d = g.S.Sight.desk c.args.sight.now in
    left_none c.areas.invariant (text-none (λ (ms : List Made). flat_map g.A.Artist.area_text (map (made_panel (scene_at d c.args.step.now)) ms)) refl
    d.made c.areas.i c.in_default.ensures.none)
