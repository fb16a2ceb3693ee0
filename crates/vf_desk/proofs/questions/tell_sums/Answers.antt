use Rattle.rh_defs.specs.declared.question.Question.TheVariants as question
use Rattle.vf_desk.specs.CallOutcome.{done_or, sums_or}
use Rattle.vf_desk.proofs.AskLaws.{ask-told}
use Rattle.vf_desk.proofs.CallLaws.{asks}
use Rattle.vf_desk.proofs.questions.tell_sums.Goals as goal

pub returns-clause-asks : goal.returns-clause-asks
returns-clause-asks c = asks c.heap.ensures c.step-called.ensures.said c.step-called.ensures.asked c.give_sums.ensures.status

pub returns-clause-sums : goal.returns-clause-sums
returns-clause-sums c = ask-told (question.Heap c.args.name.now) c.args.desk.now c.step-called.new.self c.heap.ensures c.step-called.ensures.said
    c.step-called.ensures.asked (λ said. sums_or said c.args.sums.now) c.give_sums.ensures.sums

pub returns-clause-count : goal.returns-clause-count
returns-clause-count c = ask-told (question.Heap c.args.name.now) c.args.desk.now c.step-called.new.self c.heap.ensures c.step-called.ensures.said
    c.step-called.ensures.asked (λ said. done_or said c.args.n c.args.count.now) c.give_count.ensures.count
