use Rattle.rh_tasks.proofs.Common.{refl, sym, w32, to_z-of_z, err_from_is_err_and}
use Rattle.rh_tasks.proofs.Finding.{made-sits, made-number}
use Rattle.rh_tasks.proofs.MadeCommands.{HasMade}
use Rattle.rh_tasks.proofs.AreaCommands.{room-if, no-area, made-refused, made-too-big, made-done, made-kept}
use Rattle.rh_tasks.proofs.world.World.change_made.Goals as goal

pub returns-in_err-i : goal.returns-in_err-i
returns-in_err-i g c =
    let p = err_from_is_err_and c.from_residual.result c.from_residual.ensures.1 in
    rw (p.1, p.2, c.in_err-i.ensures.err.0, ← c.self.view_is)
    (no-area c.self.invariant c.args.number c.args.delta c.requires.high c.in_err-i.ensures.err.1, refl)

pub returns-in_err-pages : goal.returns-in_err-pages
returns-in_err-pages g c =
    let p = err_from_is_err_and c.from_residual-in_err-pages.result c.from_residual-in_err-pages.ensures.1 in
    let e = rw (to_z-of_z w32 c.args.delta c.ranges.delta) at c.in_err-pages.ensures in
    let a = c.index-made.result.now in
    let h : HasMade c.args.number c.self.inside.made.items c.in_ok-i.i a = record {
      sits = made-sits c.args.number c.self.inside.made.items c.in_ok-i.i a c.in_ok-i.ensures.ok (sym c.index-made.ensures);
      number = made-number c.args.number c.self.inside.made.items c.in_ok-i.i a c.in_ok-i.ensures.ok (sym c.index-made.ensures);
    } in
    rw (p.1, p.2, ← c.self.view_is) (made-refused c.self.invariant c.args.number c.args.delta a h c.requires.high (sym e), refl)

pub returns-then-pages-made : goal.returns-then-pages-made
returns-then-pages-made g c =
    let e = rw (to_z-of_z w32 c.args.delta c.ranges.delta) at c.in_ok-pages.ensures in
    let a = c.index-made.result.now in
    let h : HasMade c.args.number c.self.inside.made.items c.in_ok-i.i a = record {
      sits = made-sits c.args.number c.self.inside.made.items c.in_ok-i.i a c.in_ok-i.ensures.ok (sym c.index-made.ensures);
      number = made-number c.args.number c.self.inside.made.items c.in_ok-i.i a c.in_ok-i.ensures.ok (sym c.index-made.ensures);
    } in
    rw (← c.self.view_is) (made-too-big c.self.invariant c.args.number c.args.delta a h c.requires.high (sym e) c.if-pages-made.true, refl)

pub set_pages-requires-clause-room : goal.set_pages-requires-clause-room
set_pages-requires-clause-room g c = room-if _ _ _ _ _ (sym c.in_ok-pages.ensures)

pub invariant_of-self : goal.invariant_of-self
invariant_of-self g c =
    let e = rw (to_z-of_z w32 c.args.delta c.ranges.delta) at c.in_ok-pages.ensures in
    let a = c.index-made.result.now in
    let h : HasMade c.args.number c.self.inside.made.items c.in_ok-i.i a = record {
      sits = made-sits c.args.number c.self.inside.made.items c.in_ok-i.i a c.in_ok-i.ensures.ok (sym c.index-made.ensures);
      number = made-number c.args.number c.self.inside.made.items c.in_ok-i.i a c.in_ok-i.ensures.ok (sym c.index-made.ensures);
    } in (
    made-kept c.self.invariant c.args.number c.args.delta a h c.requires.high (sym e) c.if-pages-made.false c.set_pages.ensures.pages c.set_pages.ensures.only
    (g.met.S.Paged.whole c.self.inside.store a.area.0) (g.met.S.Paged.whole c.set_pages.new.store a.area.0) c.requires.ranged)

pub returns : goal.returns
returns g c =
    let e = rw (to_z-of_z w32 c.args.delta c.ranges.delta) at c.in_ok-pages.ensures in
    let moved = rw (to_z-of_z w32 c.args.delta c.ranges.delta) at c.bytes_moved.ensures in
    let a = c.index-made.result.now in
    let h : HasMade c.args.number c.self.inside.made.items c.in_ok-i.i a = record {
      sits = made-sits c.args.number c.self.inside.made.items c.in_ok-i.i a c.in_ok-i.ensures.ok (sym c.index-made.ensures);
      number = made-number c.args.number c.self.inside.made.items c.in_ok-i.i a c.in_ok-i.ensures.ok (sym c.index-made.ensures);
    } in
    rw (← c.self.view_is, moved) (made-done c.self.invariant c.args.number c.args.delta a h c.requires.high (sym e) c.if-pages-made.false
    c.set_pages.ensures.pages c.set_pages.ensures.only
    (g.met.S.Paged.whole c.self.inside.store a.area.0) (g.met.S.Paged.whole c.set_pages.new.store a.area.0))
