use Rattle.rh_store.proofs.Common.{◌≡◌, [], length, sym, ap, ◌∙◌, arith, unwrap_or, contents, open_index, open_read, written_slice}
use Rattle.rh_defs.specs.Bytes.{put_word}
use Rattle.rh_defs.proofs.BytesLaws.{length-put_word}
use Rattle.rh_store.proofs.area.set_word_at.Goals as goal

pub index_mut-area-requires : goal.index_mut-area-requires
index_mut-area-requires c = omega (arith, open_index c.args.areas.now.items c.args.i c.requires.opened)

pub put_word_in-requires : goal.put_word_in-requires
put_word_in-requires c =
    omega (arith, ap length (open_read c.args.areas.now.items c.args.i c.index_mut-area.result.now c.requires.opened c.index_mut-area.ensures.value).1)

pub returns : goal.returns
returns c =
    let list = c.args.areas.now.items in
    let a = c.index_mut-area.result.now in
    let old = unwrap_or (contents list c.args.i) [] in
    let was : old ≡ a.bytes.items = (open_read list c.args.i a c.requires.opened c.index_mut-area.ensures.value).1 in
    written_slice list c.args.i a c.put_word_in.new.b (put_word old c.args.at c.args.w) c.requires.opened c.index_mut-area.ensures.value
    (c.put_word_in.ensures ∙ ap (λ l. put_word l c.args.at c.args.w) (c.deref_mut.ensures.value ∙ sym was))
    (length-put_word old c.args.at c.args.w ∙ ap length was)
