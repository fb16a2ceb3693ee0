use Rattle.rh_pictures.proofs.Common.{◌≡◌, ℕ, ◌++◌, List, [], ◌∷◌, Some, ap, sym, refl, ◌∙◌, append-nil, arith, length-append, summary_of}
use Rattle.rh_figure.specs.Changes.{Slide}
use Rattle.rh_pictures.specs.Inner.SlidesSeen.{with_one}
use Rattle.rh_pictures.specs.declared.walks.block_changes.Slid.{Slid}
use Rattle.rh_pictures.proofs.walks.block_changes.with_block.Goals as goal

-- one more at the end
one-more : (slides : List Slide) (from to : ℕ) → Some (with_one (summary_of slides) from to) ≡ summary_of (slides ++ record { from = from; to = to } ∷ [])
one-more [] from to = refl
one-more (s ∷ slides) from to = ap (λ n. let r : Slid = record { count = n; from = s.from; to = s.to } in Some r)
    (omega (arith, length-append slides (let q : Slide = record { from = from; to = to } in q ∷ [])))

pub returns-in-Some : goal.returns-in-Some
returns-in-Some c = λ slides e.
    let to = c.args.block.now.address in
    ap (λ z. Some z) (c.one_more.ensures ∙ ap (λ o. with_one o c.in-Some.from to) e)
    ∙ (one-more slides c.in-Some.from to ∙ ap (λ z. summary_of (slides ++ z)) c.in-Some.ensures)

pub returns-in-None : goal.returns-in-None
returns-in-None c = λ slides e. e ∙ (ap summary_of (sym (append-nil slides)) ∙ ap (λ z. summary_of (slides ++ z)) c.in-None.ensures)
