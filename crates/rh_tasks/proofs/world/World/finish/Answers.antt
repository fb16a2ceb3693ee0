use Rattle.std.proofs.Common.{rules}
use Rattle.rh_tasks.proofs.Common.{◌≡◌, sym, ap, ◌∙◌, length, Ok, slot_block, with_sending, slot_in, task_of, err_from_is_err_and, refl, same-alike}
use Rattle.rh_defs.specs.Sender as sender
use Rattle.rh_tasks.proofs.Portions.{unsized, sized}
use Rattle.rh_tasks.proofs.Fetches.{seated, seat-is}
use Rattle.rh_tasks.proofs.Transmits.{load-done, load-refused}
use Rattle.rh_tasks.proofs.world.World.finish.Goals as goal

pub returns-in_err-size : goal.returns-in_err-size
unfolding task_of
returns-in_err-size g c =
    let p = err_from_is_err_and c.from_residual.result c.from_residual.ensures.1 in
    let m = g.S.Words.memory c.self.inside.store in
    let s = c.index-seat.result.now in
    rw (p.1, p.2) (λ t at.
    let there = rw (← c.self.view_is) at at in
    let is : t ≡ task_of m s = seat-is (seated m c.self.inside.seats.items c.args.i t there) s (sym c.index-seat.ensures) in
    (load-refused c.args.self.now.desk t c.args.x.now (rw is (unsized c.args.x.now.anchor (slot_in m s.slot) c.in_err-size.ensures)), refl))

pub returns : goal.returns
unfolding task_of
returns g c =
    let m = g.S.Words.memory c.self.inside.store in
    let s = c.index-seat.result.now in
    let x = c.args.x.now in
    let d = c.args.self.now.desk in
    let z = sized c.in_ok-size.ensures in
    λ t at.
    let there = rw (← c.self.view_is) at at in
    let is : t ≡ task_of m s = seat-is (seated m c.self.inside.seats.items c.args.i t there) s (sym c.index-seat.ensures) in
    let now : c.edit_sending.new.self.desk ≡ with_sending t.handle (sender.sending_loaded x (length z.cut.here.bytes)) d =
    c.edit_sending.ensures t (sender.sending_loaded x c.in_ok-size.size) at (λ new p. search rules)
    ∙ ap (λ k. with_sending t.handle (sender.sending_loaded x k) d) z.long in
    let block : slot_block x.anchor t.slot ≡ Ok z.cut = rw is z.block in (
      with_sending t.handle (sender.sending_loaded x (length z.cut.here.bytes)) d,
      (
        load-done d t x block,
        same-alike (sym now),
      ),
    )
