use Rattle.std.proofs.Common.{arith}
use Rattle.rh_slot.proofs.AreaLaws.{Resized-shrunk}
use Rattle.rh_slot.proofs.area.trim.Goals as goal

pub returns : goal.returns
returns g c =
    let w = g.met.S.Paged.whole c.args.store.now c.args.area.0 in
    let l = c.len-pages.ensures in
    let p = c.pages_for.ensures in
    Resized-shrunk _ _ _ _ _ _ c.shrink.ensures (omega (arith, c.requires.within)) (omega (arith, c.requires.within))
