use Rattle.std.proofs.Common.{sym, ◌∙◌, arith}
use Rattle.std.proofs.lemmas.Bool.Decides.{nat_tests}
use Rattle.vf_flex.specs.SlotStatus.{place_status}
use Rattle.vf_flex.proofs.Starts.{within}
use Rattle.vf_flex.proofs.input.place_status.Goals as goal

pub returns-in-0-clause-status : goal.returns-in-0-clause-status
unfolding place_status
returns-in-0-clause-status c = grind (arith, nat_tests)

pub returns-in_default-clause-status : goal.returns-in_default-clause-status
unfolding place_status
returns-in_default-clause-status c = grind (arith, nat_tests)

pub returns-in_default-clause-place : goal.returns-in_default-clause-place
returns-in_default-clause-place c z =
    let l = within c.args.len c.args.slot (sym c.slot_status.ensures ∙ z) in
    omega arith

pub returns-in_default-2-clause-status : goal.returns-in_default-2-clause-status
unfolding place_status
returns-in_default-2-clause-status c = grind (arith, nat_tests)
