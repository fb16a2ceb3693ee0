use Rattle.std.proofs.lemmas.Result.{err_from_is_err_and}
use Rattle.rh_tasks.proofs.letters.send.Goals as goal

pub returns-in_err-my_ref-clause-answer : goal.returns-in_err-my_ref-clause-answer
returns-in_err-my_ref-clause-answer g c = λ post w.
    let p = err_from_is_err_and c.from_residual.result c.from_residual.ensures.1 in
    rw (p.1, p.2) (c.in_err-my_ref.ensures.answer post w)
