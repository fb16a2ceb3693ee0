use Rattle.vf_desk.proofs.Common.{length, Some, sym, ap, ◌∙◌, map, filled_front, number_or, list_asked}
use Rattle.rh_defs.specs.declared.question.Question.TheVariants as question
use Rattle.vf_desk.specs.DeskItems.{incoming_in, outgoing_in, record_of}
use Rattle.vf_desk.proofs.AskLaws.{ask-counted, ask-told, open-asks, open-list, shut-asks, shut-counted, shut-list, shut-told}
use Rattle.vf_desk.proofs.FillLaws.{filled-none}
use Rattle.vf_desk.proofs.questions.vf_desk_status.Goals as goal

pub returns-in_default-clause-asks : goal.returns-in_default-clause-asks
returns-in_default-clause-asks c = shut-asks (question.Status c.args.name.now) c.args.desk.now c.step-called.new.self c.status.ensures
    c.step-called.ensures.said c.step-called.ensures.asked c.in_default.ensures.taken c.in_default.ensures.left c.status-in_default.ensures

pub returns-in_default-clause-out : goal.returns-in_default-clause-out
returns-in_default-clause-out c = λ s seen.
    sym (filled-none c.args.outgoing.now) ∙ sym (ap (λ l. filled_front (map record_of (outgoing_in l)) c.args.outgoing.now)
    (shut-list (question.Status c.args.name.now) c.args.desk.now c.step-called.new.self c.status.ensures c.step-called.ensures.said
    c.step-called.ensures.asked c.in_default.ensures.taken s seen))

pub returns-in_default-clause-taken : goal.returns-in_default-clause-taken
returns-in_default-clause-taken c = λ s seen.
    sym (filled-none c.args.incoming.now) ∙ sym (ap (λ l. filled_front (map record_of (incoming_in l)) c.args.incoming.now)
    (shut-list (question.Status c.args.name.now) c.args.desk.now c.step-called.new.self c.status.ensures c.step-called.ensures.said
    c.step-called.ensures.asked c.in_default.ensures.taken s seen))

pub returns-in_default-clause-outs : goal.returns-in_default-clause-outs
returns-in_default-clause-outs c = λ s seen. shut-counted (question.Status c.args.name.now) c.args.desk.now c.step-called.new.self c.status.ensures
    c.step-called.ensures.said c.step-called.ensures.asked c.in_default.ensures.taken c.args.outs.now
    (length (outgoing_in (list_asked s (question.Status c.args.name.now)))) s seen

pub returns-in_default-clause-ins : goal.returns-in_default-clause-ins
returns-in_default-clause-ins c = λ s seen. shut-counted (question.Status c.args.name.now) c.args.desk.now c.step-called.new.self c.status.ensures
    c.step-called.ensures.said c.step-called.ensures.asked c.in_default.ensures.taken c.args.ins.now
    (length (incoming_in (list_asked s (question.Status c.args.name.now)))) s seen

pub returns-in_default-clause-handle : goal.returns-in_default-clause-handle
returns-in_default-clause-handle c = shut-told (question.Status c.args.name.now) c.args.desk.now c.step-called.new.self c.status.ensures
    c.step-called.ensures.said c.step-called.ensures.asked c.in_default.ensures.taken (λ said. number_or said c.args.handle.now)

pub returns-clause-asks : goal.returns-clause-asks
returns-clause-asks c = open-asks (question.Status c.args.name.now) c.args.desk.now c.step-called.new.self c.status.ensures c.step-called.ensures.said
    c.step-called.ensures.asked c.in-Some.ensures.taken c.put.ensures c.give_number.ensures.status

pub returns-clause-out : goal.returns-clause-out
returns-clause-out c = open-list (question.Status c.args.name.now) c.args.desk.now c.step-called.new.self c.status.ensures c.step-called.ensures.said
    c.step-called.ensures.asked (ap Some c.deref.ensures ∙ c.in-Some.ensures.taken) c.records-counts.ensures.out

pub returns-clause-taken : goal.returns-clause-taken
returns-clause-taken c = open-list (question.Status c.args.name.now) c.args.desk.now c.step-called.new.self c.status.ensures c.step-called.ensures.said
    c.step-called.ensures.asked (ap Some c.deref.ensures ∙ c.in-Some.ensures.taken) c.records-counts.ensures.taken

pub returns-clause-outs : goal.returns-clause-outs
returns-clause-outs c = ask-counted (question.Status c.args.name.now) c.args.desk.now c.step-called.new.self c.status.ensures c.step-called.ensures.said
    c.step-called.ensures.asked c.args.outs.now (λ s. length (outgoing_in (list_asked s (question.Status c.args.name.now)))) c.give_count.ensures.count
    (open-list (question.Status c.args.name.now) c.args.desk.now c.step-called.new.self c.status.ensures c.step-called.ensures.said
    c.step-called.ensures.asked (ap Some c.deref.ensures ∙ c.in-Some.ensures.taken) c.records-counts.ensures.outs)

pub returns-clause-ins : goal.returns-clause-ins
returns-clause-ins c = ask-counted (question.Status c.args.name.now) c.args.desk.now c.step-called.new.self c.status.ensures c.step-called.ensures.said
    c.step-called.ensures.asked c.args.ins.now (λ s. length (incoming_in (list_asked s (question.Status c.args.name.now)))) c.give_count-2.ensures.count
    (open-list (question.Status c.args.name.now) c.args.desk.now c.step-called.new.self c.status.ensures c.step-called.ensures.said
    c.step-called.ensures.asked (ap Some c.deref.ensures ∙ c.in-Some.ensures.taken) c.records-counts.ensures.ins)

pub returns-clause-handle : goal.returns-clause-handle
returns-clause-handle c = ask-told (question.Status c.args.name.now) c.args.desk.now c.step-called.new.self c.status.ensures c.step-called.ensures.said
    c.step-called.ensures.asked (λ said. number_or said c.args.handle.now) c.give_number.ensures.number
