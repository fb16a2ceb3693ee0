use Rattle.std.proofs.Common.{◌++◌, take, rules, arith}
use Rattle.std.proofs.lemmas.Grind.{common_steps}
use Rattle.rh_lines.proofs.FlowLemmas.{takes_more, next_front}
use Rattle.rh_lines.proofs.sink.put.Goals as goal

pub loop-rest-preserved : goal.loop-rest-preserved
loop-rest-preserved g c =
    let i = c.loop-rest.invariant in (
      i.0 ++ take c.in_ok-taken.taken c.loop-rest.rest.now,
      next_front _ i.0 c.loop-rest.rest.now c.in_ok-taken.taken i.1,
      takes_more i.2 (record { taken = search rules; counted = search rules; failed = grind (arith, common_steps) }),
    )
