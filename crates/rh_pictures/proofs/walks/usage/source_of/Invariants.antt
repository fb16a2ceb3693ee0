use Rattle.rh_pictures.proofs.Common.{◌≡◌, drop, find}
use Rattle.rh_defs.specs.Records.{is_source}
use Rattle.rh_pictures.proofs.walks.usage.source_of.Given as goal

-- no record so far has the block
abbrev pub invariant-loop-record : goal.invariant-loop-record
invariant-loop-record l =
    find (is_source l.anchor) (drop l.record-index l.sending) ≡ find (is_source l.anchor) l.sending
