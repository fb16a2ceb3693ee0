use Rattle.std.proofs.Common.{◌≡◌, drop, find}
use Rattle.rh_defs.specs.Records.{is_source}
use Rattle.rh_explained.proofs.block_use.source_of.Given as goal

-- none so far passes
abbrev pub invariant-loop-record : goal.invariant-loop-record
invariant-loop-record l = find (is_source l.anchor) (drop l.record-index l.records) ≡ find (is_source l.anchor) l.records
