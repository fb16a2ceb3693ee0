use Rattle.rh_desk.proofs.HintLemmas.{behind-ended, behind-whole, first-ended, first-whole}
use Rattle.std.proofs.Common.{arith}
use Rattle.rh_desk.proofs.mistakes.first_line.Goals as goal

pub returns-in-Some-clause-first : goal.returns-in-Some-clause-first
returns-in-Some-clause-first c =
    let at = c.in-Some.ensures in
    first-ended c.args.text.now c.in-Some.end at.0.high (λ k lt. at.0.before k (omega arith) lt) at.1

pub returns-in-Some-clause-behind : goal.returns-in-Some-clause-behind
returns-in-Some-clause-behind c =
    let at = c.in-Some.ensures in
    behind-ended c.args.text.now c.in-Some.end at.0.high (λ k lt. at.0.before k (omega arith) lt) at.1

pub returns-in-None-clause-first : goal.returns-in-None-clause-first
returns-in-None-clause-first c = first-whole c.args.text.now (λ k lt. c.in-None.ensures k (omega arith) lt)

pub returns-in-None-clause-behind : goal.returns-in-None-clause-behind
returns-in-None-clause-behind c = behind-whole c.args.text.now (λ k lt. c.in-None.ensures k (omega arith) lt)
