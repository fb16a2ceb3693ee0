use Rattle.std.proofs.Common.{◌≡◌, Bool, drop}
use Rattle.std.specs.Fn.{FnReturnsAt}
use Rattle.rh_defs.specs.declared.transfer.Sending.{Sending}
use Rattle.rh_defs.specs.Records.{open_of}
use Rattle.rh_ram.proofs.finding.first_open.Given as goal

-- none so far passes
abbrev pub invariant-loop-entry : goal.invariant-loop-entry
invariant-loop-entry g l =
    (wanted : Sending → Bool) → ((x : Sending) (b : Bool) → FnReturnsAt g.F.Fn l.test x b → b ≡ wanted x)
    → open_of wanted (drop l.entry-index l.records) ≡ open_of wanted l.records
