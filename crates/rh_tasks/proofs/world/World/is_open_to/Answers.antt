use Rattle.rh_tasks.proofs.Common.{sym, ◌∙◌}
use Rattle.rh_tasks.proofs.RawMoves.{opens-nowhere, opens-played, opens-raw}
use Rattle.rh_tasks.proofs.SeatRecords.{handle-at, sits-in}
use Rattle.rh_tasks.proofs.Slides.{seat-slot}
use Rattle.rh_tasks.proofs.world.World.is_open_to.Goals as goal

pub returns-then-not-is_raw : goal.returns-then-not-is_raw
returns-then-not-is_raw g c = λ t r here there.
    let at = sits-in c.self.invariant (rw (← c.self.view_is) at c.requires.target) (sym c.index-seat.ensures) in
    let mine = rw (← c.self.view_is) at here in
    let its = rw (← c.self.view_is) at there in
    let from = sits-in c.self.invariant (rw (← c.self.view_is) at c.requires.source) (sym c.index.ensures) in
    let handle = handle-at c.self.invariant from t mine in
    rw (← c.self.view_is, c.opens.ensures, handle)
    (opens-played c.self.invariant at _ c.args.address c.args.n r its _ (sym c.if-not-is_raw.ensures))

pub inside-requires : goal.inside-requires
inside-requires g c =
    let at = sits-in c.self.invariant (rw (← c.self.view_is) at c.requires.target) (sym c.index-seat.ensures) in
    record { slot = seat-slot c.self.invariant at }

pub returns-then-not-inside : goal.returns-then-not-inside
returns-then-not-inside g c = λ t r here there.
    let at = sits-in c.self.invariant (rw (← c.self.view_is) at c.requires.target) (sym c.index-seat.ensures) in
    let mine = rw (← c.self.view_is) at here in
    let its = rw (← c.self.view_is) at there in
    let from = sits-in c.self.invariant (rw (← c.self.view_is) at c.requires.source) (sym c.index.ensures) in
    let handle = handle-at c.self.invariant from t mine in
    rw (← c.self.view_is)
    (opens-nowhere c.self.invariant at _ c.args.address c.args.n r its _ (sym c.if-not-is_raw.ensures) (sym c.if-not-inside.ensures))

pub returns : goal.returns
returns g c = λ t r here there.
    let at = sits-in c.self.invariant (rw (← c.self.view_is) at c.requires.target) (sym c.index-seat.ensures) in
    let mine = rw (← c.self.view_is) at here in
    let its = rw (← c.self.view_is) at there in
    let from = sits-in c.self.invariant (rw (← c.self.view_is) at c.requires.source) (sym c.index.ensures) in
    let handle = handle-at c.self.invariant from t mine in
    let fetch = (rw (← c.self.view_is) at c.holds_fetch.ensures) t mine in
    rw (← c.self.view_is) (fetch
    ∙ opens-raw c.self.invariant at _ c.args.address c.args.n r its _ (sym c.if-not-is_raw.ensures) (sym c.if-not-inside.ensures))
