use Rattle.std.proofs.Common.{refl, arith}
use Rattle.rh_tasks.proofs.Openings.{opens}
use Rattle.rh_tasks.proofs.MadeCommands.{make-many, make-none, can-make, make-done, make-world}
use Rattle.rh_tasks.proofs.world.World.make.Goals as goal

pub returns-then-len-ge-MADE_AREAS : goal.returns-then-len-ge-MADE_AREAS
returns-then-len-ge-MADE_AREAS g c =
    rw (← c.self.view_is) (make-many c.self.invariant c.args.most (omega (arith, c.if-len-ge-MADE_AREAS.true)), refl)

pub returns-then-number-gt-LAST_AREA : goal.returns-then-number-gt-LAST_AREA
returns-then-number-gt-LAST_AREA g c =
    rw (← c.self.view_is) (make-none c.self.invariant c.args.most (omega (arith, c.if-len-ge-MADE_AREAS.false)) c.if-number-gt-LAST_AREA.true, refl)

pub unwrap-area-requires : goal.unwrap-area-requires
unwrap-area-requires g c =
    opens c.open.result _ c.open.ensures.refused (can-make c.self.invariant c.args.most (omega (arith, c.if-len-ge-MADE_AREAS.false)))

pub invariant_of-self : goal.invariant_of-self
invariant_of-self g c =
    let ok = rw c.unwrap-area.ensures at c.open.ensures.ok in
    let low = rw c.unwrap-area.ensures at c.open.ensures.number in
    rw (ok.1, c.push.ensures.items) (
    make-world c.self.invariant c.args.most (omega (arith, c.if-len-ge-MADE_AREAS.false)) c.if-number-gt-LAST_AREA.false c.unwrap-area.result.0 ok.0 low
    c.requires)

pub returns : goal.returns
returns g c =
    let ok = rw c.unwrap-area.ensures at c.open.ensures.ok in
    let low = rw c.unwrap-area.ensures at c.open.ensures.number in
    rw (← c.self.view_is, ok.1, c.push.ensures.items)
    (make-done c.self.invariant c.args.most (omega (arith, c.if-len-ge-MADE_AREAS.false)) c.if-number-gt-LAST_AREA.false c.unwrap-area.result.0 ok.0 low)
