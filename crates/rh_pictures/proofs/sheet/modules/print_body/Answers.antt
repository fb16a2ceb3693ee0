use Rattle.rh_pictures.proofs.Common.{◌≡◌, ◌+◌, length, ap, ap₂, refl, subst, sym, ◌∙◌, arith, ◌^◌, AllByRecursion, module_pages, base, module_cards, AreaOf}
use Rattle.rh_pictures.proofs.Common.{lens_below, Frame, Plot, Census, scene_at, offered_as}
use Rattle.rh_pictures.proofs.HeapLemmas.{cards-long}
use Rattle.rh_figure.specs.Cards.{module_card}
use Rattle.rh_figure.specs.Layout.{module_legend}
use Rattle.rh_sheet.specs.SheetAreas.{module_frame}
use Rattle.rh_sheet.specs.SheetCards.{cards_below}
use Rattle.rh_sheet.specs.Frames.{rows_foot}
use Rattle.rh_sheet.specs.SheetRows.{rows_text}
use Rattle.rh_scene.specs.declared.sight.PagesOf.TheVariants as pages
use Rattle.rh_pictures.proofs.PageLemmas.{owned-fixed, owned-few, seen-fixed}
use Rattle.rh_pictures.proofs.SlotLemmas.{EndsBy, heap-ends}
use Rattle.rh_pictures.proofs.TextPuts.{text_last, text_then}
use Rattle.rh_pictures.proofs.sheet.modules.print_body.Goals as goal

pub print_lens_below-requires : goal.print_lens_below-requires
print_lens_below-requires g c = omega (arith, ap (λ (z : Census). z.end) c.requires.census)

pub print_rows-requires-clause-start : goal.print_rows-requires-clause-start
print_rows-requires-clause-start g c = omega (arith, ap (λ (p : Plot). p.start) c.requires.plot)

pub print_rows-requires-clause-few : goal.print_rows-requires-clause-few
print_rows-requires-clause-few g c =
    let few = owned-few c.recall_desk.ensures c.args.step.now.pages.now c.requires.step.shared (pages.Fixed 1) (AreaOf 1) (seen-fixed c.recall_desk.ensures 1
    (omega arith)) c.requires.step.all in
    omega (arith, few, ap (λ (p : Plot). length p.pages) c.requires.plot)

pub print_rows-requires-clause-frame : goal.print_rows-requires-clause-frame
print_rows-requires-clause-frame g c = omega (arith, ap (λ (f : Frame). f.pages) c.requires.frame)

pub print_rows-requires-clause-pieces : goal.print_rows-requires-clause-pieces
print_rows-requires-clause-pieces g c =
    let d = g.S.Sight.desk c.args.sight.now in
    let x = scene_at d c.args.step.now in
    let ps = c.args.step.now.pages.now in
    let few = owned-few c.recall_desk.ensures ps c.requires.step.shared (pages.Fixed 1) (AreaOf 1) (seen-fixed c.recall_desk.ensures 1
    (omega arith)) c.requires.step.all in
    let long = owned-fixed c.recall_desk.ensures ps c.requires.step.shared 1 (module_pages d) (omega arith) refl in
    let ends = heap-ends (2 ^ 30) (module_legend x) 0 d.post.heap c.recall_desk.ensures.post.heap.heap.fits (omega
    (arith, few, long, c.recall_desk.ensures.post.heap.whole)) in
    subst (AllByRecursion (EndsBy (2 ^ 30))) (sym (ap (λ (p : Plot). p.pieces) c.requires.plot)) ends

pub returns : goal.returns
returns g c =
    let d = g.S.Sight.desk c.args.sight.now in
    let x = scene_at d c.args.step.now in
    let same = c.requires.frame in
    let end : c.args.census.end ≡ base d.post.heap = ap (λ (z : Census). z.end) c.requires.census in
    let count : c.args.census.count ≡ length (module_cards x) = ap (λ (z : Census). z.count) c.requires.census ∙ sym (cards-long (module_card x)
    (25165824 + 16) d.post.heap.segments) in
    let lens = ap (λ z. lens_below z 16 c.args.census.end c.args.census.count) same ∙ ap₂ (lens_below (module_frame x) 16) end count in
    text_then (g.P.Pen.offered c.args.pen.now) _ _ (offered_as _ lens c.print_lens_below.ensures)
    (text_then (g.P.Pen.offered c.print_lens_below.new.pen) _ _ (offered_as _ (ap₂ rows_text same c.requires.plot) c.print_rows.ensures)
    (text_last _ _ (offered_as _ (ap (λ n. cards_below (n + 16) (module_cards x)) (c.foot.ensures.value ∙ ap rows_foot same)) c.show_heap_cards.ensures)))
