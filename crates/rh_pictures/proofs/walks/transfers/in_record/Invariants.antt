use Rattle.rh_pictures.proofs.Common.{◌≡◌, drop, ◌==◌, find, in_id}
use Rattle.rh_pictures.proofs.walks.transfers.in_record.Given as goal

-- no record so far has the id
abbrev pub invariant-loop-record : goal.invariant-loop-record
invariant-loop-record l =
    find (λ r. in_id r == l.id) (drop l.record-index l.taking) ≡ find (λ r. in_id r == l.id) l.taking
