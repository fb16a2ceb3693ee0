use Rattle.rh_pictures.proofs.Common.{◌≡◌, ◌+◌, ◌∷◌, [], ◌++◌, List, ap, sym, ◌∙◌, arith, length, length-append, inserted, MessageArrow}
use Rattle.std.proofs.lemmas.List.{nil_from_length}
use Rattle.rh_pictures.proofs.WayLemmas.{tasks-are, with_tasks, with_tasks-last}
use Rattle.rh_pictures.proofs.sheet.ways.tasks_in.Goals as goal

pub loop-last-preserved : goal.loop-last-preserved
loop-last-preserved c =
    let front : List MessageArrow = c.in-Some.front.now in
    let last : MessageArrow = c.in-Some.last.now in
    let split : c.loop-last.rest.now ≡ front ++ last ∷ [] = c.in-Some.ensures.cases.0 in
    let more : c.put_number-in-Some.new.numbers.items ≡ inserted last.from (inserted last.to c.loop-last.tasks.items) =
    c.put_number-in-Some.ensures.value ∙ ap (inserted last.from) c.put_number.ensures.value in
    let long : length c.loop-last.rest.now ≡ length front + 1 = ap length split ∙ length-append front (last ∷ []) in (
      ap (with_tasks front) more
          ∙ (sym (with_tasks-last front last c.loop-last.tasks.items)
          ∙ (ap (λ z. with_tasks z c.loop-last.tasks.items) (sym split) ∙ c.loop-last.invariant.0)),
      omega (arith, c.put_number.ensures.few, c.put_number-in-Some.ensures.few, c.loop-last.invariant.1, long),
    )

pub returns : goal.returns
returns c =
    let none = nil_from_length c.loop-last.rest.now c.in_default.ensures.cases in
    sym (ap (λ z. with_tasks z c.loop-last.tasks.items) none) ∙ (c.loop-last.invariant.0 ∙ tasks-are c.args.ways.now)
