use Rattle.rh_pictures.proofs.Common.{◌≡◌, ◌+◌, ◌∷◌, [], ◌++◌, List, ap, sym, ◌∙◌, arith, length, length-append, MessageArrow}
use Rattle.std.proofs.lemmas.List.{nil_from_length}
use Rattle.rh_pictures.specs.Inner.WaySteps.{with_step}
use Rattle.rh_pictures.proofs.WayLemmas.{steps-are, with_steps, with_steps-last}
use Rattle.rh_pictures.proofs.sheet.ways.steps_in.Goals as goal

pub loop-last-preserved : goal.loop-last-preserved
loop-last-preserved c =
    let front : List MessageArrow = c.in-Some.front.now in
    let last : MessageArrow = c.in-Some.last.now in
    let split : c.loop-last.rest.now ≡ front ++ last ∷ [] = c.in-Some.ensures.cases.0 in
    let more : c.put_step-in-Some.new.steps.items ≡ with_step last.start (with_step last.stop c.loop-last.steps.items) =
    c.put_step-in-Some.ensures.value ∙ ap (with_step last.start) c.put_step.ensures.value in
    let long : length c.loop-last.rest.now ≡ length front + 1 = ap length split ∙ length-append front (last ∷ []) in (
      ap (with_steps front) more
          ∙ (sym (with_steps-last front last c.loop-last.steps.items)
          ∙ (ap (λ z. with_steps z c.loop-last.steps.items) (sym split) ∙ c.loop-last.invariant.0)),
      omega (arith, c.put_step.ensures.few, c.put_step-in-Some.ensures.few, c.loop-last.invariant.1, long),
    )

pub returns : goal.returns
returns c =
    let none = nil_from_length c.loop-last.rest.now c.in_default.ensures.cases in
    sym (ap (λ z. with_steps z c.loop-last.steps.items) none) ∙ (c.loop-last.invariant.0 ∙ steps-are c.args.ways.now)
