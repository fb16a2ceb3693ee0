use Rattle.std.proofs.Common.{◌≡◌, Bool, drop}
use Rattle.std.specs.Fn.{FnReturnsAt}
use Rattle.rh_defs.specs.declared.transfer.Asked.{Asked}
use Rattle.rh_defs.specs.Records.{asking_of}
use Rattle.rh_ram.proofs.finding.first_asking.Given as goal

-- none so far passes
abbrev pub invariant-loop-entry : goal.invariant-loop-entry
invariant-loop-entry g l =
    (wanted : Asked → Bool) → ((x : Asked) (b : Bool) → FnReturnsAt g.F.Fn l.test x b → b ≡ wanted x)
    → asking_of wanted (drop l.entry-index l.records) ≡ asking_of wanted l.records
