use Rattle.std.proofs.Common.{refl, sym, ◌∙◌}
use Rattle.rh_ram.proofs.CallLaws.{cancel_in-refused, cancel_in-granted}
use Rattle.rh_ram.proofs.receiver.Receiver.cancel.Goals as goal

pub returns-in_default-clause-answer : goal.returns-in_default-clause-answer
returns-in_default-clause-answer c = rw (cancel_in-refused c.args.wanted c.args.self.now (sym c.wanted.ensures ∙ c.in_default.is)) refl

pub returns-in_default-clause-records : goal.returns-in_default-clause-records
returns-in_default-clause-records c = rw (cancel_in-refused c.args.wanted c.args.self.now (sym c.wanted.ensures ∙ c.in_default.is)) refl

pub returns-clause-answer : goal.returns-clause-answer
returns-clause-answer c = rw (cancel_in-granted c.args.wanted c.args.self.now c.in-Some.entry (sym c.wanted.ensures ∙ c.in-Some.is)) refl

pub returns-clause-records : goal.returns-clause-records
returns-clause-records c = rw (cancel_in-granted c.args.wanted c.args.self.now c.in-Some.entry (sym c.wanted.ensures ∙ c.in-Some.is)) c.give_up.ensures
