use Rattle.std.proofs.Common.{◌≡◌, ◌++◌, take, drop}
use Rattle.rh_defs.specs.Records.{with_id}
use Rattle.rh_ram.proofs.records.rewrite.Given as goal

-- the records so far are written
abbrev pub invariant-loop-entry : goal.invariant-loop-entry
invariant-loop-entry g l = l.records ≡ with_id g.R.Record.id_of l.id l.new (take l.entry-index l.fn.records) ++ drop l.entry-index l.fn.records
