use Rattle.rh_tasks.proofs.Common.{refl, sym, arith, w32, to_z-of_z, err_from_is_err_and}
use Rattle.rh_tasks.proofs.Fixed.{KeepsFirst, pages-of}
use Rattle.rh_tasks.proofs.AreaCommands.{room-if, fixed-refused, fixed-done, fixed-kept}
use Rattle.rh_tasks.proofs.world.World.change_fixed.Goals as goal

pub returns-in_err-pages : goal.returns-in_err-pages
returns-in_err-pages g c =
    let p = err_from_is_err_and c.from_residual.result c.from_residual.ensures.1 in
    let e = rw (to_z-of_z w32 c.args.delta c.ranges.delta, c.least_length.ensures, ← c.self.view_is) at c.in_err-pages.ensures in
    rw (p.1, p.2, ← c.self.view_is) (fixed-refused c.self.invariant c.args.number c.args.delta c.requires.low c.requires.other (sym e), refl)

pub set_pages-requires-clause-room : goal.set_pages-requires-clause-room
set_pages-requires-clause-room g c = room-if _ _ _ _ _ (sym c.in_ok-pages.ensures)

pub invariant_of-self : goal.invariant_of-self
invariant_of-self g c =
    let e = rw (to_z-of_z w32 c.args.delta c.ranges.delta, c.least_length.ensures, ← c.self.view_is) at c.in_ok-pages.ensures in
    let now = pages-of _ c.args.number (g.met.S.Paged.whole c.set_pages.new.store c.args.number) in
    let keeps : KeepsFirst (g.S.Words.memory c.self.inside.store) (g.S.Words.memory c.set_pages.new.store) c.args.number = record {
      first = λ k had has. c.set_pages.ensures.first k had (omega (arith, has, now, c.set_pages.ensures.pages));
    } in (
    fixed-kept c.self.invariant c.args.number c.args.delta c.requires.low c.requires.other (sym e) c.set_pages.ensures.pages c.set_pages.ensures.only keeps
    (g.met.S.Paged.whole c.self.inside.store c.args.number) (g.met.S.Paged.whole c.set_pages.new.store c.args.number) c.requires.ranged)

pub returns : goal.returns
returns g c =
    let e = rw (to_z-of_z w32 c.args.delta c.ranges.delta, c.least_length.ensures, ← c.self.view_is) at c.in_ok-pages.ensures in
    let moved = rw (to_z-of_z w32 c.args.delta c.ranges.delta) at c.bytes_moved.ensures in
    let now = pages-of _ c.args.number (g.met.S.Paged.whole c.set_pages.new.store c.args.number) in
    let keeps : KeepsFirst (g.S.Words.memory c.self.inside.store) (g.S.Words.memory c.set_pages.new.store) c.args.number = record {
      first = λ k had has. c.set_pages.ensures.first k had (omega (arith, has, now, c.set_pages.ensures.pages));
    } in
    rw (← c.self.view_is, moved) (fixed-done c.self.invariant c.args.number c.args.delta c.requires.low c.requires.other (sym e) c.set_pages.ensures.pages
    c.set_pages.ensures.only keeps
    (g.met.S.Paged.whole c.self.inside.store c.args.number) (g.met.S.Paged.whole c.set_pages.new.store c.args.number))
