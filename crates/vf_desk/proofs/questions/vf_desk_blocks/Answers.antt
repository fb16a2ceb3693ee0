use Rattle.vf_desk.proofs.Common.{length, Some, sym, ap, ◌∙◌, map, filled_front, list_asked}
use Rattle.rh_defs.specs.declared.question.Question.TheVariants as question
use Rattle.vf_desk.specs.DeskItems.{as_block, blocks_listed}
use Rattle.vf_desk.proofs.AskLaws.{ask-counted, open-asks, open-list, shut-asks, shut-counted, shut-list}
use Rattle.vf_desk.proofs.FillLaws.{filled-none}
use Rattle.vf_desk.proofs.questions.vf_desk_blocks.Goals as goal

pub returns-in_default-clause-asks : goal.returns-in_default-clause-asks
returns-in_default-clause-asks c = shut-asks (question.Blocks c.args.name.now) c.args.desk.now c.step-called.new.self c.blocks-2.ensures
    c.step-called.ensures.said c.step-called.ensures.asked c.in_default.ensures.taken c.in_default.ensures.left c.status.ensures

pub returns-in_default-clause-list : goal.returns-in_default-clause-list
returns-in_default-clause-list c = λ s seen.
    sym (filled-none c.args.blocks.now) ∙ sym (ap (λ l. filled_front (map as_block (blocks_listed l)) c.args.blocks.now)
    (shut-list (question.Blocks c.args.name.now) c.args.desk.now c.step-called.new.self c.blocks-2.ensures c.step-called.ensures.said
    c.step-called.ensures.asked c.in_default.ensures.taken s seen))

pub returns-in_default-clause-count : goal.returns-in_default-clause-count
returns-in_default-clause-count c = λ s seen. shut-counted (question.Blocks c.args.name.now) c.args.desk.now c.step-called.new.self c.blocks-2.ensures
    c.step-called.ensures.said c.step-called.ensures.asked c.in_default.ensures.taken c.args.count.now
    (length (blocks_listed (list_asked s (question.Blocks c.args.name.now)))) s seen

pub returns-clause-asks : goal.returns-clause-asks
returns-clause-asks c = open-asks (question.Blocks c.args.name.now) c.args.desk.now c.step-called.new.self c.blocks-2.ensures c.step-called.ensures.said
    c.step-called.ensures.asked c.in-Some.ensures.taken c.put.ensures c.give_count.ensures.status

pub returns-clause-list : goal.returns-clause-list
returns-clause-list c = open-list (question.Blocks c.args.name.now) c.args.desk.now c.step-called.new.self c.blocks-2.ensures c.step-called.ensures.said
    c.step-called.ensures.asked (ap Some c.deref.ensures ∙ c.in-Some.ensures.taken) c.blocks-n.ensures.list

pub returns-clause-count : goal.returns-clause-count
returns-clause-count c = ask-counted (question.Blocks c.args.name.now) c.args.desk.now c.step-called.new.self c.blocks-2.ensures
    c.step-called.ensures.said c.step-called.ensures.asked c.args.count.now (λ s. length (blocks_listed (list_asked s (question.Blocks c.args.name.now))))
    c.give_count.ensures.count
    (open-list (question.Blocks c.args.name.now) c.args.desk.now c.step-called.new.self c.blocks-2.ensures c.step-called.ensures.said
    c.step-called.ensures.asked (ap Some c.deref.ensures ∙ c.in-Some.ensures.taken) c.blocks-n.ensures.count)
