use Rattle.std.proofs.Common.{◌==◌, sym, ap, ◌∙◌}
use Rattle.std.specs.List.{list_any}
use Rattle.rh_wimp.proofs.LeavesLaws.{HasEntry-from_handles}
use Rattle.wimp_tests.proofs.queues.Bench.held.Goals as goal

pub held-requires-clause-live : goal.held-requires-clause-live
held-requires-clause-live g c =
    HasEntry-from_handles c.args.task c.args.self.now.queue (ap (list_any (λ h. h == c.args.task)) c.requires.handles ∙ sym c.if-not-is_live.ensures)
