use Rattle.wimp_tests.specs.TestRuns.{Runs}
use Rattle.wimp_tests.proofs.queues.rows.Given as goal

-- the queue is one, with the live handles
abbrev pub invariant-loop-line : goal.invariant-loop-line
invariant-loop-line g l = Runs (g.S.Words.memory l.bench.store) l.bench.module_area l.bench.queue l.bench.live.handles.items
