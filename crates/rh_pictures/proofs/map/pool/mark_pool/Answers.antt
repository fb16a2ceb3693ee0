use Rattle.rh_pictures.proofs.Common.{◌≡◌, [], ◌<◌, ◌≤◌, ◌+◌, length, drop, map, ap, ap₂, sym, refl, ◌∙◌, arith, replicate, enumerate_from, range_with_len}
use Rattle.rh_pictures.proofs.Common.{drop_all, owner_of, page_mark, AreaOf, share_in, scene_at, made_pages, marked, marked_all, slot_pages_from, slot_panels}
use Rattle.rh_scene.specs.declared.sight.PagesOf.TheVariants as pages
use Rattle.rh_pictures.proofs.MarkLemmas.{fixed_pages, pool-marked}
use Rattle.rh_pictures.proofs.PageLemmas.{numbered-next, owned, seen-fixed}
use Rattle.rh_pictures.proofs.map.pool.mark_pool.Goals as goal

pub loop-number-init : goal.loop-number-init
loop-number-init g c =
    let d = g.S.Sight.desk c.args.sight.now in
    ap (marked_all (map (fixed_pages (share_in c.args.step.now.pages.now d)) (enumerate_from 0 d.areas)))
    (c.clear.ensures ∙ ap (λ n. replicate n 46) c.requires.pool)

pub loop-number-preserved : goal.loop-number-preserved
loop-number-preserved g c =
    let d = g.S.Sight.desk c.args.sight.now in
    let ps = c.args.step.now.pages.now in
    let s = share_in ps d in
    let i = c.loop-number.number in
    let low : i < length d.areas = omega (arith, c.recall_desk.ensures.areas.six, c.loop-number-test.true) in
    let is = owned c.recall_desk.ensures ps c.requires.step.shared (pages.Fixed i) (AreaOf i) c.pages_of-pages.result.now
    (seen-fixed c.recall_desk.ensures i c.loop-number-test.true) c.pages_of-pages.ensures in
    ap (marked_all (map (fixed_pages s) (enumerate_from (i + 1) (drop (i + 1) d.areas))))
    (c.mark_pages.ensures ∙ ap₂ (λ z m. marked z m c.loop-number.marks) is (c.area_mark.ensures []))
    ∙ (ap (λ z. marked_all (map (fixed_pages s) z) c.loop-number.marks) (sym (numbered-next i d.areas low)) ∙ c.loop-number.invariant)

pub returns : goal.returns
returns g c =
    let d = g.S.Sight.desk c.args.sight.now in
    let x = scene_at d c.args.step.now in
    let s = share_in c.args.step.now.pages.now d in
    let past : length d.areas ≤ c.loop-number.number = omega (arith, c.recall_desk.ensures.areas.six, c.loop-number-test.false) in
    let fixed : c.loop-number.marks ≡ marked_all (map (fixed_pages s) (enumerate_from 0 d.areas)) (replicate d.pool 46) =
    ap (λ z. marked_all (map (fixed_pages s) (enumerate_from c.loop-number.number z)) c.loop-number.marks) (sym (drop_all c.loop-number.number d.areas past))
    ∙ c.loop-number.invariant in
    c.mark_slots.ensures
    ∙ (ap (marked_all (slot_pages_from s 0 d.tasks)) (c.mark_made.ensures
    ∙ ap (marked_all (map (made_pages s) d.made)) (fixed ∙ ap (λ n. marked_all (map (fixed_pages s) (enumerate_from 0 d.areas)) (replicate n 46))
    (sym c.requires.pool)))
    ∙ (pool-marked c.recall_desk.ensures x refl refl c.args.marks.now ∙ ap (λ n. map (λ k. page_mark (slot_panels x) (owner_of x k)) (range_with_len 0 n))
    c.requires.pool))
