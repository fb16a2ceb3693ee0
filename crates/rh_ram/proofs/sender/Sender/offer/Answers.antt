use Rattle.std.proofs.Common.{refl, sym, ◌∙◌}
use Rattle.rh_ram.proofs.CallLaws.{offer-refused, offer-granted}
use Rattle.rh_ram.proofs.sender.Sender.offer.Goals as goal

pub returns-then-is_full-clause-answer : goal.returns-then-is_full-clause-answer
returns-then-is_full-clause-answer c =
    rw (offer-refused c.args.id c.args.recipient c.args.anchor c.args.self.now (sym c.is_full.ensures ∙ c.if-is_full.true)) refl

pub returns-then-is_full-clause-records : goal.returns-then-is_full-clause-records
returns-then-is_full-clause-records c =
    rw (offer-refused c.args.id c.args.recipient c.args.anchor c.args.self.now (sym c.is_full.ensures ∙ c.if-is_full.true)) refl

pub returns-clause-answer : goal.returns-clause-answer
returns-clause-answer c = rw (offer-granted c.args.id c.args.recipient c.args.anchor c.args.self.now (sym c.is_full.ensures ∙ c.if-is_full.false)) refl

pub returns-clause-records : goal.returns-clause-records
returns-clause-records c =
    rw (offer-granted c.args.id c.args.recipient c.args.anchor c.args.self.now (sym c.is_full.ensures ∙ c.if-is_full.false)) c.offered.ensures
