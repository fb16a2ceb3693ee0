use Rattle.rh_store.proofs.Common.{◌≡◌, [], take, refl, sym, ap, ◌∙◌, arith, unwrap_or, contents, open_index, open_read}
use Rattle.rh_store.proofs.AreasLaws.{rewritten}
use Rattle.rh_store.proofs.area.shorten_at.Goals as goal

pub index_mut-area-requires : goal.index_mut-area-requires
index_mut-area-requires c = omega (arith, open_index c.args.areas.now.items c.args.i c.requires)

pub returns : goal.returns
returns c =
    let list = c.args.areas.now.items in
    let a = c.index_mut-area.result.now in
    let old = unwrap_or (contents list c.args.i) [] in
    let was : old ≡ a.bytes.items = (open_read list c.args.i a c.requires c.index_mut-area.ensures.value).1 in
    rewritten list c.args.i a _ (take c.args.n old) c.requires c.index_mut-area.ensures.value refl (c.truncate.ensures.items ∙ ap (take c.args.n) (sym was))
    (let e = c.truncate.ensures.capacity in omega (arith, e))
