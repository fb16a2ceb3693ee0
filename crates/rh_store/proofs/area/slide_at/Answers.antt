use Rattle.rh_store.proofs.Common.{◌≡◌, [], length, sym, ap, ◌∙◌, arith, unwrap_or, with_part, part, length-put, contents, open_index, open_read, written_slice}
use Rattle.rh_store.proofs.area.slide_at.Goals as goal

pub index_mut-area-requires : goal.index_mut-area-requires
index_mut-area-requires c = omega (arith, open_index c.args.areas.now.items c.args.i c.requires.opened)

pub slide_in-requires-clause-source : goal.slide_in-requires-clause-source
slide_in-requires-clause-source c =
    omega (arith, ap length (open_read c.args.areas.now.items c.args.i c.index_mut-area.result.now c.requires.opened c.index_mut-area.ensures.value).1)

pub slide_in-requires-clause-target : goal.slide_in-requires-clause-target
slide_in-requires-clause-target c =
    omega (arith, ap length (open_read c.args.areas.now.items c.args.i c.index_mut-area.result.now c.requires.opened c.index_mut-area.ensures.value).1)

pub returns : goal.returns
returns c =
    let list = c.args.areas.now.items in
    let a = c.index_mut-area.result.now in
    let old = unwrap_or (contents list c.args.i) [] in
    let was : old ≡ a.bytes.items = (open_read list c.args.i a c.requires.opened c.index_mut-area.ensures.value).1 in
    written_slice list c.args.i a c.slide_in.new.b (with_part old c.args.to (part old c.args.from c.args.n)) c.requires.opened c.index_mut-area.ensures.value
    (c.slide_in.ensures ∙ ap (λ l. with_part l c.args.to (part l c.args.from c.args.n)) (c.deref_mut.ensures.value ∙ sym was))
    (length-put old c.args.to (part old c.args.from c.args.n) ∙ ap length was)
