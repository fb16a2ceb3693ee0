use Rattle.std.proofs.Common.{refl}
use Rattle.callers.proofs.AreaFacts.{only_page}
use Rattle.callers.proofs.heap.start_heap.Goals as goal

pub returns-clause-area : goal.returns-clause-area
returns-clause-area g c =
    let opens = c.in_ok-area.ensures in
    let grows = c.in_default.ensures in
    (refl, record { closed = opens.ok.0; first = opens.least; only = only_page _ _ _ _ _ _ _ opens.ok.0 opens.ok.1 grows.ok grows.room c.init.ensures.only })
