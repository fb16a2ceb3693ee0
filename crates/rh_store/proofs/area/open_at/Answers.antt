use Rattle.std.proofs.Common.{◌<◌, length, refl, arith}
use Rattle.rh_store.proofs.AreasLaws.{revealed}
use Rattle.rh_store.proofs.area.open_at.Goals as goal

pub returns : goal.returns
returns c =
    let list = c.args.areas.now.items in
    let h : c.args.i < length list = omega (arith, c.requires.inside) in
    revealed list c.args.i c.index_mut-area.result.now _ h c.requires.closed c.requires.tidy c.index_mut-area.ensures.value refl refl refl
