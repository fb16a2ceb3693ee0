use Rattle.rh_tasks.proofs.Common.{refl, sym, err_from_is_err_and, IsOpen, MadeArea, all-at}
use Rattle.rh_tasks.proofs.Finding.{made-sits, made-number}
use Rattle.rh_tasks.proofs.MadeCommands.{HasMade, remove-none, remove-done, remove-world}
use Rattle.rh_tasks.proofs.world.World.remove.Goals as goal

pub returns-in_err-i : goal.returns-in_err-i
returns-in_err-i g c =
    let p = err_from_is_err_and c.from_residual.result c.from_residual.ensures.1 in
    rw (p.1, p.2, c.in_err-i.ensures.err.0, ← c.self.view_is) (remove-none c.self.invariant _ c.in_err-i.ensures.err.1, refl)

pub invariant_of-self : goal.invariant_of-self
invariant_of-self g c =
    let m = g.S.Words.memory c.self.inside.store in
    let a = c.remove-made.result in
    let h : HasMade c.args.number c.self.inside.made.items c.in_ok-i.i a = record {
      sits = made-sits c.args.number c.self.inside.made.items c.in_ok-i.i a c.in_ok-i.ensures.ok (sym c.remove-made.ensures.value);
      number = made-number c.args.number c.self.inside.made.items c.in_ok-i.i a c.in_ok-i.ensures.ok (sym c.remove-made.ensures.value);
    } in
    let o = all-at (λ (x : MadeArea). IsOpen m x.area.0) c.self.inside.made.items c.in_ok-i.i a c.self.invariant.areas.made_open h.sits in
    rw (c.close.ensures, c.remove-made.ensures.items)
    (remove-world c.self.invariant c.args.number a h (g.met.S.Paged.whole c.self.inside.store a.area.0)
    (g.met.S.Store.numbered c.self.inside.store a.area.0 o) c.requires)

pub returns : goal.returns
returns g c =
    let m = g.S.Words.memory c.self.inside.store in
    let a = c.remove-made.result in
    let h : HasMade c.args.number c.self.inside.made.items c.in_ok-i.i a = record {
      sits = made-sits c.args.number c.self.inside.made.items c.in_ok-i.i a c.in_ok-i.ensures.ok (sym c.remove-made.ensures.value);
      number = made-number c.args.number c.self.inside.made.items c.in_ok-i.i a c.in_ok-i.ensures.ok (sym c.remove-made.ensures.value);
    } in
    let o = all-at (λ (x : MadeArea). IsOpen m x.area.0) c.self.inside.made.items c.in_ok-i.i a c.self.invariant.areas.made_open h.sits in
    rw (← c.self.view_is, c.close.ensures, c.remove-made.ensures.items)
    (remove-done c.self.invariant c.args.number a h (g.met.S.Paged.whole c.self.inside.store a.area.0) (g.met.S.Store.numbered c.self.inside.store a.area.0 o))
