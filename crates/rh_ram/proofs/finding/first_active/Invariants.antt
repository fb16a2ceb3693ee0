use Rattle.std.proofs.Common.{◌≡◌, Bool, drop}
use Rattle.std.specs.Fn.{FnReturnsAt}
use Rattle.rh_defs.specs.declared.transfer.Taking.{Taking}
use Rattle.rh_defs.specs.Records.{active_of}
use Rattle.rh_ram.proofs.finding.first_active.Given as goal

-- none so far passes
abbrev pub invariant-loop-entry : goal.invariant-loop-entry
invariant-loop-entry g l =
    (wanted : Taking → Bool) → ((x : Taking) (b : Bool) → FnReturnsAt g.F.Fn l.test x b → b ≡ wanted x)
    → active_of wanted (drop l.entry-index l.records) ≡ active_of wanted l.records
