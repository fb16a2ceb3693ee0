use Rattle.std.proofs.Common.{◌==◌, sym, ap, subst, ◌∙◌}
use Rattle.std.specs.List.{list_any}
use Rattle.rh_wimp.specs.Chains.{HasEntry}
use Rattle.rh_wimp.proofs.LeavesLaws.{HasEntry-from_handles}
use Rattle.wimp_tests.proofs.queues.Bench.try_send.Goals as goal

pub send-requires-clause-from : goal.send-requires-clause-from
send-requires-clause-from g c =
    subst (λ h. HasEntry h c.args.self.now.queue) (sym c.letter-letter.ensures)
    (HasEntry-from_handles c.args.sent.from c.args.self.now.queue (ap (list_any (λ h. h == c.args.sent.from)) c.requires.handles
    ∙ sym c.if-not-is_live.ensures))
