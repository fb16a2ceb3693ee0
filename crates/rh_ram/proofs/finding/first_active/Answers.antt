use Rattle.std.proofs.lemmas.Fn.{says_at}
use Rattle.rh_defs.specs.Records.{active_of}
use Rattle.rh_ram.proofs.FindingLaws.{walked-past, walked-to, active-here, active-past, bufferless-past}
use Rattle.rh_ram.proofs.finding.first_active.Goals as goal
use Rattle.rh_ram.proofs.finding.first_active.Goals.{in-Fetching+else-test, in_default}

pub returns-then-test : goal.returns-then-test
returns-then-test g c wanted agrees =
    walked-to (active_of wanted) c.args.records.now c.loop-entry.entry-index c.entry-item.result c.entry-item.result c.loop-entry-test.true c.entry-item.is
    (active-here wanted _ _ c.in-Fetching.is (agrees _ _ (says_at g.F.Fn c.test.ensures c.if-test.true))) (c.loop-entry.invariant wanted agrees)

pub loop-entry-preserved : goal.loop-entry-preserved
loop-entry-preserved g c wanted agrees =
    elim c.match-entry.branch [
      | in-Fetching+else-test w ↦
          walked-past (active_of wanted) c.args.records.now c.loop-entry.entry-index c.entry-item.result c.loop-entry-test.true c.entry-item.is
          (active-past wanted _ _ w.in-Fetching.is (agrees _ _ (says_at g.F.Fn w.test.ensures w.if-test.false))) (c.loop-entry.invariant wanted agrees)
      | in_default w ↦
          walked-past (active_of wanted) c.args.records.now c.loop-entry.entry-index c.entry-item.result c.loop-entry-test.true c.entry-item.is
          (bufferless-past wanted _ w.in_default.not-Fetching w.in_default.not-Draining) (c.loop-entry.invariant wanted agrees)
    ]
