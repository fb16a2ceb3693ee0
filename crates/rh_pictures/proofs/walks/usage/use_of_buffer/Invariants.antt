use Rattle.rh_pictures.proofs.Common.{◌≡◌, drop, find}
use Rattle.rh_defs.specs.Records.{is_buffer_of}
use Rattle.rh_pictures.proofs.walks.usage.use_of_buffer.Given as goal

-- no record so far has the buffer
abbrev pub invariant-loop-record : goal.invariant-loop-record
invariant-loop-record l =
    find (is_buffer_of l.address) (drop l.record-index l.taking) ≡ find (is_buffer_of l.address) l.taking
