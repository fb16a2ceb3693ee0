use Rattle.std.proofs.Common.{arith, sym, ◌∙◌}
use Rattle.vf_web.proofs.Listed.{find-next, listed-end, listed-step}
use Rattle.vf_web.proofs.files.find.Goals as goal

pub returns-then-eq-clause-value : goal.returns-then-eq-clause-value
returns-then-eq-clause-value c = let i = c.loop-front.invariant in grind (arith, listed-step)

pub loop-front-preserved : goal.loop-front-preserved
loop-front-preserved c = λ files l.
    let i = c.loop-front.invariant files l in
    let n = find-next _ c.args.name.now _ _ i.0 i.1 (sym c.in-Some.ensures.value) (sym c.if-eq.ensures) in
    (n.0, n.1, i.2 ∙ n.2)

pub returns-clause-value : goal.returns-clause-value
returns-clause-value c = grind (arith, listed-end)
