use Rattle.rh_store.proofs.Common.{refl, arith, open_index}
use Rattle.rh_store.proofs.AreasLaws.{hidden}
use Rattle.rh_store.proofs.area.close_at.Goals as goal

pub index_mut-area-requires : goal.index_mut-area-requires
index_mut-area-requires c = omega (arith, open_index c.args.areas.now.items c.args.i c.requires)

pub returns : goal.returns
returns c = hidden c.args.areas.now.items c.args.i c.index_mut-area.result.now _ c.requires c.index_mut-area.ensures.value refl c.clear.ensures.items
    c.clear.ensures.capacity
