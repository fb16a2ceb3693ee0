use Rattle.std.proofs.Common.{◌≡◌, drop, find}
use Rattle.rh_defs.specs.Records.{is_buffer_of}
use Rattle.rh_explained.proofs.block_use.buffer_of.Given as goal

-- none so far passes
abbrev pub invariant-loop-record : goal.invariant-loop-record
invariant-loop-record l = find (is_buffer_of l.address) (drop l.record-index l.records) ≡ find (is_buffer_of l.address) l.records
