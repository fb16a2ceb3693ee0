use Rattle.std.proofs.lemmas.Fn.{says_at}
use Rattle.rh_defs.specs.Records.{asking_of}
use Rattle.rh_ram.proofs.FindingLaws.{walked-past, walked-to, asking-here, asking-past, unasked-past}
use Rattle.rh_ram.proofs.finding.first_asking.Goals as goal
use Rattle.rh_ram.proofs.finding.first_asking.Goals.{in-Asking+else-test, in_default}

pub returns-then-test : goal.returns-then-test
returns-then-test g c wanted agrees =
    walked-to (asking_of wanted) c.args.records.now c.loop-entry.entry-index c.entry-item.result c.in-Asking.q c.loop-entry-test.true c.entry-item.is
    (asking-here wanted _ _ c.in-Asking.is (agrees _ _ (says_at g.F.Fn c.test.ensures c.if-test.true))) (c.loop-entry.invariant wanted agrees)

pub loop-entry-preserved : goal.loop-entry-preserved
loop-entry-preserved g c wanted agrees =
    elim c.match-entry.branch [
      | in-Asking+else-test w ↦
          walked-past (asking_of wanted) c.args.records.now c.loop-entry.entry-index c.entry-item.result c.loop-entry-test.true c.entry-item.is
          (asking-past wanted _ _ w.in-Asking.is (agrees _ _ (says_at g.F.Fn w.test.ensures w.if-test.false))) (c.loop-entry.invariant wanted agrees)
      | in_default w ↦
          walked-past (asking_of wanted) c.args.records.now c.loop-entry.entry-index c.entry-item.result c.loop-entry-test.true c.entry-item.is
          (unasked-past wanted _ w.in_default.not-Asking) (c.loop-entry.invariant wanted agrees)
    ]
