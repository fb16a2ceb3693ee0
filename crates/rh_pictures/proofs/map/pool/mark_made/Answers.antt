use Rattle.rh_pictures.proofs.Common.{[], ◌+◌, drop, map, ap, ap₂, sym, ◌∙◌, AreaOf, share_in, rest-none, rest-some, made_pages, marked, marked_all}
use Rattle.rh_scene.specs.declared.sight.PagesOf.TheVariants as pages
use Rattle.rh_pictures.proofs.PageLemmas.{owned, seen-made}
use Rattle.rh_pictures.proofs.map.pool.mark_made.Goals as goal

pub areas-preserved : goal.areas-preserved
areas-preserved g c =
    let d = g.S.Sight.desk c.args.sight.now in
    let ps = c.args.step.now.pages.now in
    let s = share_in ps d in
    let rest = map (made_pages s) (drop (c.areas.i + 1) d.made) in
    let is = owned c.recall_desk.ensures ps c.requires.shared (pages.Made c.areas.i) (AreaOf c.in-Some.area.number) c.pages_of-pages.result.now
    (seen-made c.recall_desk.ensures c.areas.i _ c.in-Some.ensures.some) c.pages_of-pages.ensures in
    ap (marked_all rest) (c.mark_pages.ensures ∙ ap₂ (λ z m. marked z m c.areas.marks) is (c.area_mark.ensures []))
    ∙ (ap (λ z. marked_all (map (made_pages s) z) c.areas.marks) (sym (rest-some d.made c.areas.i _ c.in-Some.ensures.some)) ∙ c.areas.invariant)

pub returns : goal.returns
returns g c =
    let d = g.S.Sight.desk c.args.sight.now in
    ap (λ z. marked_all (map (made_pages (share_in c.args.step.now.pages.now d)) z) c.areas.marks)
    (sym (rest-none d.made c.areas.i c.in_default.ensures.none)) ∙ c.areas.invariant
