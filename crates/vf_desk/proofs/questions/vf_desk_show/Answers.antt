use Rattle.vf_desk.proofs.Common.{Some, sym, ap, ◌∙◌, filled_front, number_or}
use Rattle.rh_defs.specs.declared.question.Question.TheVariants as question
use Rattle.vf_desk.specs.DeskItems.{bytes_listed}
use Rattle.vf_desk.proofs.AskLaws.{ask-told, open-asks, open-list, shut-asks, shut-list, shut-told}
use Rattle.vf_desk.proofs.FillLaws.{filled-none}
use Rattle.vf_desk.proofs.questions.vf_desk_show.Goals as goal

pub returns-in_default-clause-asks : goal.returns-in_default-clause-asks
returns-in_default-clause-asks c = shut-asks (question.Show c.args.name.now c.args.anchor) c.args.desk.now c.step-called.new.self c.show.ensures
    c.step-called.ensures.said c.step-called.ensures.asked c.in_default.ensures.taken c.in_default.ensures.left c.status.ensures

pub returns-in_default-clause-bytes : goal.returns-in_default-clause-bytes
returns-in_default-clause-bytes c = λ s seen.
    sym (filled-none c.args.to.now) ∙ sym (ap (λ l. filled_front ((bytes_listed l)) c.args.to.now)
    (shut-list (question.Show c.args.name.now c.args.anchor) c.args.desk.now c.step-called.new.self c.show.ensures c.step-called.ensures.said
    c.step-called.ensures.asked c.in_default.ensures.taken s seen))

pub returns-in_default-clause-size : goal.returns-in_default-clause-size
returns-in_default-clause-size c = shut-told (question.Show c.args.name.now c.args.anchor) c.args.desk.now c.step-called.new.self c.show.ensures
    c.step-called.ensures.said c.step-called.ensures.asked c.in_default.ensures.taken (λ said. number_or said c.args.size.now)

pub returns-clause-asks : goal.returns-clause-asks
returns-clause-asks c = open-asks (question.Show c.args.name.now c.args.anchor) c.args.desk.now c.step-called.new.self c.show.ensures
    c.step-called.ensures.said c.step-called.ensures.asked c.in-Some.ensures.taken c.put.ensures c.give_number.ensures.status

pub returns-clause-bytes : goal.returns-clause-bytes
returns-clause-bytes c = open-list (question.Show c.args.name.now c.args.anchor) c.args.desk.now c.step-called.new.self c.show.ensures
    c.step-called.ensures.said c.step-called.ensures.asked (ap Some c.deref.ensures ∙ c.in-Some.ensures.taken) c.bytes.ensures

pub returns-clause-size : goal.returns-clause-size
returns-clause-size c = ask-told (question.Show c.args.name.now c.args.anchor) c.args.desk.now c.step-called.new.self c.show.ensures
    c.step-called.ensures.said c.step-called.ensures.asked (λ said. number_or said c.args.size.now) c.give_number.ensures.number
