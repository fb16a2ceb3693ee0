use Rattle.rh_pictures.proofs.Common.{◌≡◌, drop, find}
use Rattle.rh_defs.specs.Records.{is_document}
use Rattle.rh_pictures.proofs.walks.usage.document_of.Given as goal

-- no record so far has the block
abbrev pub invariant-loop-record : goal.invariant-loop-record
invariant-loop-record l =
    find (is_document l.anchor) (drop l.record-index l.taking) ≡ find (is_document l.anchor) l.taking
