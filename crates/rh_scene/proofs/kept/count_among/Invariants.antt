use Rattle.rh_scene.proofs.Common.{◌≡◌, drop, count_of, holdings_of}
use Rattle.rh_scene.specs.SightOwners.{shared_owner}
use Rattle.rh_scene.proofs.kept.count_among.Given as goal

-- none so far is of the owner
abbrev pub invariant-loop-holding : goal.invariant-loop-holding
invariant-loop-holding l =
    count_of (shared_owner l.owner) (holdings_of (drop l.holding-index l.holdings))
    ≡ count_of (shared_owner l.owner) (holdings_of l.holdings)
