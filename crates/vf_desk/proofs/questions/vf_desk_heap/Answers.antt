use Rattle.vf_desk.proofs.Common.{sym, ap, subst, ◌∙◌, called, in_form}
use Rattle.rh_defs.specs.declared.command.Command.TheVariants as command
use Rattle.rh_defs.specs.declared.question.Question.TheVariants as question
use Rattle.vf_desk.specs.CallOutcome.{done_or}
use Rattle.vf_desk.specs.SeenDesk.{console_in}
use Rattle.vf_desk.proofs.Common.{SeenBy}
use Rattle.vf_desk.proofs.questions.vf_desk_heap.Goals as goal

pub returns-clause-asks : goal.returns-clause-asks
returns-clause-asks c = record {
  status_is = λ s seen. c.tell_sums.ensures.asks.status_is s (subst (λ h. SeenBy (console_in h) s) (sym c.put_segments-n.ensures.same) seen);
  same = c.tell_sums.ensures.asks.same ∙ c.put_segments-n.ensures.same;
}

pub returns-clause-sums : goal.returns-clause-sums
returns-clause-sums c = λ s seen. c.tell_sums.ensures.sums s (subst (λ h. SeenBy (console_in h) s) (sym c.put_segments-n.ensures.same) seen)

pub returns-clause-count : goal.returns-clause-count
returns-clause-count c = λ s seen.
    c.tell_sums.ensures.count s (subst (λ h. SeenBy (console_in h) s) (sym c.put_segments-n.ensures.same) seen)
    ∙ ap (λ n. done_or (called s (in_form (command.Ask (question.Heap c.args.name.now)))) n c.args.count.now) (c.put_segments-n.ensures.count s seen)
