use Rattle.vf_desk.proofs.Common.{length, Some, sym, ap, ◌∙◌, map, filled_front, number_or, as_area, list_asked}
use Rattle.rh_defs.specs.declared.question.Question.TheVariants as question
use Rattle.vf_desk.specs.DeskItems.{areas_listed}
use Rattle.vf_desk.proofs.AskLaws.{ask-counted, ask-told, open-asks, open-list, shut-asks, shut-counted, shut-list, shut-told}
use Rattle.vf_desk.proofs.FillLaws.{filled-none}
use Rattle.vf_desk.proofs.questions.vf_desk_areas.Goals as goal

pub returns-in_default-clause-asks : goal.returns-in_default-clause-asks
returns-in_default-clause-asks c = shut-asks question.Areas c.args.desk.now c.step-called.new.self c.asked.ensures c.step-called.ensures.said
    c.step-called.ensures.asked c.in_default.ensures.taken c.in_default.ensures.left c.status.ensures

pub returns-in_default-clause-list : goal.returns-in_default-clause-list
returns-in_default-clause-list c = λ s seen.
    sym (filled-none c.args.areas.now) ∙ sym (ap (λ l. filled_front (map as_area (areas_listed l)) c.args.areas.now)
    (shut-list question.Areas c.args.desk.now c.step-called.new.self c.asked.ensures c.step-called.ensures.said c.step-called.ensures.asked
    c.in_default.ensures.taken s seen))

pub returns-in_default-clause-count : goal.returns-in_default-clause-count
returns-in_default-clause-count c = λ s seen. shut-counted question.Areas c.args.desk.now c.step-called.new.self c.asked.ensures
    c.step-called.ensures.said c.step-called.ensures.asked c.in_default.ensures.taken c.args.count.now
    (length (areas_listed (list_asked s question.Areas))) s seen

pub returns-in_default-clause-free : goal.returns-in_default-clause-free
returns-in_default-clause-free c = shut-told question.Areas c.args.desk.now c.step-called.new.self c.asked.ensures c.step-called.ensures.said
    c.step-called.ensures.asked c.in_default.ensures.taken (λ said. number_or said c.args.free.now)

pub returns-clause-asks : goal.returns-clause-asks
returns-clause-asks c = open-asks question.Areas c.args.desk.now c.step-called.new.self c.asked.ensures c.step-called.ensures.said
    c.step-called.ensures.asked c.in-Some.ensures.taken c.put.ensures c.give_number.ensures.status

pub returns-clause-list : goal.returns-clause-list
returns-clause-list c = open-list question.Areas c.args.desk.now c.step-called.new.self c.asked.ensures c.step-called.ensures.said
    c.step-called.ensures.asked (ap Some c.deref.ensures ∙ c.in-Some.ensures.taken) c.areas-n.ensures.list

pub returns-clause-count : goal.returns-clause-count
returns-clause-count c = ask-counted question.Areas c.args.desk.now c.step-called.new.self c.asked.ensures c.step-called.ensures.said
    c.step-called.ensures.asked c.args.count.now (λ s. length (areas_listed (list_asked s question.Areas))) c.give_count.ensures.count
    (open-list question.Areas c.args.desk.now c.step-called.new.self c.asked.ensures c.step-called.ensures.said c.step-called.ensures.asked
    (ap Some c.deref.ensures ∙ c.in-Some.ensures.taken) c.areas-n.ensures.count)

pub returns-clause-free : goal.returns-clause-free
returns-clause-free c = ask-told question.Areas c.args.desk.now c.step-called.new.self c.asked.ensures c.step-called.ensures.said
    c.step-called.ensures.asked (λ said. number_or said c.args.free.now) c.give_number.ensures.number
