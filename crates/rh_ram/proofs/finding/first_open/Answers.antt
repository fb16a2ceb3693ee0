use Rattle.std.proofs.lemmas.Fn.{says_at}
use Rattle.rh_defs.specs.Records.{open_of}
use Rattle.rh_ram.proofs.FindingLaws.{walked-past, walked-to, open-here, open-past, ended-past}
use Rattle.rh_ram.proofs.finding.first_open.Goals as goal
use Rattle.rh_ram.proofs.finding.first_open.Goals.{in-Open+else-test, in_default}

pub returns-then-test : goal.returns-then-test
returns-then-test g c wanted agrees =
    walked-to (open_of wanted) c.args.records.now c.loop-entry.entry-index c.entry-item.result c.in-Open.x c.loop-entry-test.true c.entry-item.is
    (open-here wanted _ _ c.in-Open.is (agrees _ _ (says_at g.F.Fn c.test.ensures c.if-test.true))) (c.loop-entry.invariant wanted agrees)

pub loop-entry-preserved : goal.loop-entry-preserved
loop-entry-preserved g c wanted agrees =
    elim c.match-entry.branch [
      | in-Open+else-test w ↦
          walked-past (open_of wanted) c.args.records.now c.loop-entry.entry-index c.entry-item.result c.loop-entry-test.true c.entry-item.is
          (open-past wanted _ _ w.in-Open.is (agrees _ _ (says_at g.F.Fn w.test.ensures w.if-test.false))) (c.loop-entry.invariant wanted agrees)
      | in_default w ↦
          walked-past (open_of wanted) c.args.records.now c.loop-entry.entry-index c.entry-item.result c.loop-entry-test.true c.entry-item.is
          (ended-past wanted _ w.in_default.not-Open) (c.loop-entry.invariant wanted agrees)
    ]
