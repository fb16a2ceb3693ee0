use Rattle.rh_pictures.proofs.Common.{[], ◌∷◌, ap, sym, ◌∙◌, take, get_or, take_all, marked}
use Rattle.std.proofs.lemmas.List.{take_more}
use Rattle.rh_pictures.proofs.MarkLemmas.{marked-both, marked-none}
use Rattle.rh_pictures.proofs.map.pool.mark_pages.Goals as goal

pub loop-page-init : goal.loop-page-init
loop-page-init c = sym (marked-none 0 c.args.mark c.args.marks.now)

pub loop-page-preserved : goal.loop-page-preserved
loop-page-preserved c =
    let i = c.loop-page.page-index in
    let ps = c.args.pages.now in
    c.mark_page.ensures
    ∙ (ap (λ ms. marked (get_or ps i 0 ∷ []) c.args.mark ms) c.loop-page.invariant
    ∙ (sym (marked-both 0 (take i ps) (get_or ps i 0 ∷ []) c.args.mark c.args.marks.now)
    ∙ ap (λ z. marked z c.args.mark c.args.marks.now) (sym (take_more ps i 0 c.loop-page-test.true))))

pub returns : goal.returns
returns c = c.loop-page.invariant ∙ ap (λ ps. marked ps c.args.mark c.args.marks.now) (take_all c.loop-page.page-index c.args.pages.now c.loop-page-test.false)
