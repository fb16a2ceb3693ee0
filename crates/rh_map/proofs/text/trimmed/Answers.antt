use Rattle.rh_map.proofs.Common.{◌∷◌, [], ◌++◌, ap, ◌∙◌, sym, trimmed}
use Rattle.rh_map.proofs.TextLemmas.{trimmed-space, trimmed-whole}
use Rattle.rh_map.proofs.text.trimmed.Goals as goal

pub returns-then-last-ne32 : goal.returns-then-last-ne32
returns-then-last-ne32 c =
    c.in-Some.ensures.cases.0
    ∙ sym (c.loop-last.invariant ∙ ap trimmed c.in-Some.ensures.cases.0
    ∙ trimmed-whole c.in-Some.others.now c.in-Some.last.now c.if-last-ne32.true)

pub loop-last-preserved : goal.loop-last-preserved
loop-last-preserved c =
    c.loop-last.invariant
    ∙ (ap trimmed (c.in-Some.ensures.cases.0 ∙ ap (λ b. c.in-Some.others.now ++ b ∷ []) c.if-last-ne32.false)
    ∙ trimmed-space c.in-Some.others.now)
