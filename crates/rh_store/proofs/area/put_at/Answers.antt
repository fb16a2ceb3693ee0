use Rattle.rh_store.proofs.Common.{◌≡◌, [], length, sym, ap, ◌∙◌, arith, unwrap_or, with_part, length-put, contents, open_index, open_read, written_slice}
use Rattle.rh_store.proofs.area.put_at.Goals as goal

pub index_mut-area-requires : goal.index_mut-area-requires
index_mut-area-requires c = omega (arith, open_index c.args.areas.now.items c.args.i c.requires.opened)

pub put_in-requires : goal.put_in-requires
put_in-requires c =
    omega (arith, ap length (open_read c.args.areas.now.items c.args.i c.index_mut-area.result.now c.requires.opened c.index_mut-area.ensures.value).1)

pub returns : goal.returns
returns c =
    let list = c.args.areas.now.items in
    let a = c.index_mut-area.result.now in
    let old = unwrap_or (contents list c.args.i) [] in
    let was : old ≡ a.bytes.items = (open_read list c.args.i a c.requires.opened c.index_mut-area.ensures.value).1 in
    written_slice list c.args.i a c.put_in.new.b (with_part old c.args.at c.args.from.now) c.requires.opened c.index_mut-area.ensures.value
    (c.put_in.ensures ∙ ap (λ l. with_part l c.args.at c.args.from.now) (c.deref_mut.ensures.value ∙ sym was))
    (length-put old c.args.at c.args.from.now ∙ ap length was)
