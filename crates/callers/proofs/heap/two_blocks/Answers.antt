use Rattle.callers.proofs.HeapFacts.{first_left, second_left, three_only}
use Rattle.callers.proofs.heap.two_blocks.Goals as goal

pub returns-clause-only : goal.returns-clause-only
returns-clause-only g c =
    let empty = c.requires.empty in
    let one = first_left _ _ empty c.claim.ensures.heap in
    let both = second_left _ _ one c.claim-2.ensures.heap in
    three_only _ _ _ _ _ empty one both c.claim.ensures.only c.claim-2.ensures.only c.release.ensures.only
