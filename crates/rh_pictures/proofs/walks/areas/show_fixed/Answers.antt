use Rattle.rh_pictures.proofs.Common.{◌≡◌, ℕ, false, List, [], ◌∷◌, length, ap, ap₂, sym, ◌∙◌, arith, if◌then◌else◌, ◌==◌, ◌||◌, slice_index, ne_eqb, Panel}
use Rattle.rh_pictures.proofs.Common.{Scene, AreaOf, Text, append-nil, fixed_panel, flat_map, module_pages, scene_at, offered_as}
use Rattle.rh_figure.specs.Figure.{area_panel, fixed_note, listed_pages, numbers_text, scrap_text}
use Rattle.rh_scene.specs.declared.sight.PagesOf.TheVariants as pages
use Rattle.rh_pictures.proofs.PageLemmas.{owned, owned-few, owned-fixed, seen-fixed}
use Rattle.rh_pictures.proofs.walks.areas.show_fixed.Goals as goal

-- an area that has pages, and isn't the module area
fixed-one : (element : Panel → List ℕ) (x : Scene) (number n : ℕ) → (number == 1) ≡ false → (n == 0) ≡ false
    → flat_map element (fixed_panel x (number, n))
    ≡ element (area_panel number (fixed_note n (numbers_text x (AreaOf number, n)) (if number == 5 then scrap_text x.desk.scrap else [])))
fixed-one element x number n other some =
    let panel = area_panel number (fixed_note n (numbers_text x (AreaOf number, n)) (if number == 5 then scrap_text x.desk.scrap else [])) in
    ap₂ (λ p q. flat_map element (if p || q then [] else panel ∷ [])) other some ∙ append-nil (element panel)

note-same : (n m : ℕ) (found kept : List ℕ) (told scrap : Text) → length found ≡ n → m ≡ n → found ≡ kept → told ≡ scrap
    → fixed_note (length found) (listed_pages (length found) found) told ≡ fixed_note m (listed_pages m kept) scrap
note-same n m found kept told scrap long same is e =
    ap (λ z. fixed_note (length found) (listed_pages (length found) found) z) e
    ∙ (ap (λ z. fixed_note z (listed_pages z found) scrap) (long ∙ sym same)
    ∙ ap (λ z. fixed_note m (listed_pages m z) scrap) is)

pub fixed_area-requires-clause-few : goal.fixed_area-requires-clause-few
fixed_area-requires-clause-few g c =
    let seen = seen-fixed c.recall_desk.ensures c.args.number c.requires.number in
    let is = owned c.recall_desk.ensures c.args.step.now.pages.now c.requires.step.shared (pages.Fixed c.args.number) (AreaOf c.args.number)
    c.pages_of-pages.result.now seen c.pages_of-pages.ensures in
    let few = owned-few c.recall_desk.ensures c.args.step.now.pages.now c.requires.step.shared (pages.Fixed c.args.number) (AreaOf c.args.number) seen
    c.requires.step.all in
    omega (arith, ap length is)

pub returns : goal.returns
returns g c =
    let d = g.S.Sight.desk c.args.sight.now in
    let x = scene_at d c.args.step.now in
    let seen = seen-fixed c.recall_desk.ensures c.args.number c.requires.number in
    let is = owned c.recall_desk.ensures c.args.step.now.pages.now c.requires.step.shared (pages.Fixed c.args.number) (AreaOf c.args.number)
    c.pages_of-pages.result.now seen c.pages_of-pages.ensures in
    let long = owned-fixed c.recall_desk.ensures c.args.step.now.pages.now c.requires.step.shared c.args.number c.fixed_pages.result c.requires.number
    c.fixed_pages.ensures in
    let other : (c.args.number == 1) ≡ false = ne_eqb _ _ c.if-number-eq-MODULE_AREA.false in
    let count : c.fixed_pages.result ≡ slice_index d.areas c.args.number =
    c.fixed_pages.ensures ∙ ap (λ b. if b then module_pages d else slice_index d.areas c.args.number) other in
    let some : (slice_index d.areas c.args.number == 0) ≡ false = ap (λ n. n == 0) (sym count) ∙ ne_eqb _ _ c.if-fixed_pages-eq0.false in
    let element = g.A.Artist.area_text in
    offered_as _ (ap (λ note. element (area_panel c.args.number note))
    (note-same c.fixed_pages.result (slice_index d.areas c.args.number) c.pages_of-pages.result.now _ _ _ (ap length is ∙ long) (sym count) is
    c.scrap_in.ensures) ∙ sym (fixed-one element x c.args.number (slice_index d.areas c.args.number) other some)) c.fixed_area.ensures
