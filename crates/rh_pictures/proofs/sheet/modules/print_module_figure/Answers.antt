use Rattle.rh_pictures.proofs.Common.{◌≡◌, ℕ, ◌+◌, List, length, ap, ap₂, refl, sym, ◌∙◌, arith, codes, max, min, module_cards, Piece, AreaOf, count_of, Frame}
use Rattle.rh_pictures.proofs.Common.{figure_open, Plot, Census, scene_at, offered_as}
use Rattle.rh_pictures.proofs.HeapLemmas.{cards-long, from-first}
use Rattle.rh_pictures.proofs.PageLemmas.{owned, owned-few, seen-fixed}
use Rattle.rh_figure.specs.Cards.{module_card}
use Rattle.rh_sheet.specs.SheetAreas.{rows_for}
use Rattle.rh_sheet.specs.Frames.{frame_height}
use Rattle.rh_scene.specs.declared.sight.PagesOf.TheVariants as pages
use Rattle.rh_pictures.proofs.TextPuts.{text_last, text_then}
use Rattle.rh_pictures.proofs.sheet.modules.print_module_figure.Goals as goal

abbrev frame_with : ℕ → ℕ → Frame
frame_with rows below = record { pages = rows; above = 0; below = below }

abbrev plot_with : List ℕ → List Piece → Plot
plot_with pages pieces = record { start = 25165824; pages = pages; pieces = pieces; tint = codes "m" }

pub take_census-census-requires : goal.take_census-census-requires
take_census-census-requires g c =
    let d = g.S.Sight.desk c.args.sight.now in
    (d.post.heap.segments, from-first d.post.heap refl)

pub print_description-requires-clause-pages : goal.print_description-requires-clause-pages
print_description-requires-clause-pages g c =
    owned c.recall_desk.ensures c.args.step.now.pages.now c.requires.shared (pages.Fixed 1) (AreaOf 1) c.pages_of-pages.result.now
    (seen-fixed c.recall_desk.ensures 1 (omega arith)) c.pages_of-pages.ensures

pub print_description-requires-clause-few : goal.print_description-requires-clause-few
print_description-requires-clause-few g c =
    let ps = c.args.step.now.pages.now in
    let seen = seen-fixed c.recall_desk.ensures 1 (omega arith) in
    let is = owned c.recall_desk.ensures ps c.requires.shared (pages.Fixed 1) (AreaOf 1) c.pages_of-pages.result.now seen c.pages_of-pages.ensures in
    omega (arith, ap length is, owned-few c.recall_desk.ensures ps c.requires.shared (pages.Fixed 1) (AreaOf 1) seen c.requires.all)

pub print_body-requires-clause-frame : goal.print_body-requires-clause-frame
print_body-requires-clause-frame g c =
    let d = g.S.Sight.desk c.args.sight.now in
    let x = scene_at d c.args.step.now in
    let ps = c.args.step.now.pages.now in
    let seen = seen-fixed c.recall_desk.ensures 1 (omega arith) in
    let is = owned c.recall_desk.ensures ps c.requires.shared (pages.Fixed 1) (AreaOf 1) c.pages_of-pages.result.now seen c.pages_of-pages.ensures in
    let census = c.take_census-census.ensures d.post.heap.segments (from-first d.post.heap refl) in
    let rows : c.rows_for.result ≡ rows_for x (AreaOf 1) = c.rows_for.ensures ∙ ap (λ (found : List ℕ). min 1024 (max (length found) (count_of
    (AreaOf 1) x.before.holdings))) is in
    let below : c.take_census-census.result.count ≡ length (module_cards x) = ap (λ (z : Census). z.count) census ∙ sym (cards-long (module_card x)
    (25165824 + 16) d.post.heap.segments) in
    let same = ap₂ frame_with rows below in
    same

pub print_body-requires-clause-plot : goal.print_body-requires-clause-plot
print_body-requires-clause-plot g c =
    let is = owned c.recall_desk.ensures c.args.step.now.pages.now c.requires.shared (pages.Fixed 1) (AreaOf 1) c.pages_of-pages.result.now
    (seen-fixed c.recall_desk.ensures 1 (omega arith)) c.pages_of-pages.ensures in
    ap₂ plot_with is (c.deref.ensures.0 ∙ c.module_pieces.ensures)

pub print_body-requires-clause-census : goal.print_body-requires-clause-census
print_body-requires-clause-census g c =
    let d = g.S.Sight.desk c.args.sight.now in
    c.take_census-census.ensures d.post.heap.segments (from-first d.post.heap refl)

pub returns : goal.returns
returns g c =
    let d = g.S.Sight.desk c.args.sight.now in
    let x = scene_at d c.args.step.now in
    let ps = c.args.step.now.pages.now in
    let seen = seen-fixed c.recall_desk.ensures 1 (omega arith) in
    let is = owned c.recall_desk.ensures ps c.requires.shared (pages.Fixed 1) (AreaOf 1) c.pages_of-pages.result.now seen c.pages_of-pages.ensures in
    let census = c.take_census-census.ensures d.post.heap.segments (from-first d.post.heap refl) in
    let rows : c.rows_for.result ≡ rows_for x (AreaOf 1) = c.rows_for.ensures ∙ ap (λ (found : List ℕ). min 1024 (max (length found) (count_of
    (AreaOf 1) x.before.holdings))) is in
    let below : c.take_census-census.result.count ≡ length (module_cards x) = ap (λ (z : Census). z.count) census ∙ sym (cards-long (module_card x)
    (25165824 + 16) d.post.heap.segments) in
    let same = ap₂ frame_with rows below in
    let high = ap (λ h. figure_open 1176 h (codes "The module area")) (c.height.ensures ∙ ap frame_height same) in
    text_then (g.P.Pen.offered c.args.pen.now) _ _ (offered_as _ high c.print_figure_open.ensures)
    (text_then (g.P.Pen.offered c.print_figure_open.new.pen) _ _ c.print_description.ensures
    (text_then (g.P.Pen.offered c.print_description.new.pen) _ _ c.print_described.ensures
    (text_then (g.P.Pen.offered c.print_described.new.pen) _ _ c.print_body.ensures
    (text_last _ _ c.print_figure_end.ensures))))
