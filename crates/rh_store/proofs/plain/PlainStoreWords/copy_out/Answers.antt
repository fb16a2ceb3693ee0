use Rattle.rh_store.proofs.Common.{length, sym, ap, ◌∙◌, arith, part, bytes, open_index, open_read, memory_of}
use Rattle.rh_store.proofs.plain.PlainStoreWords.copy_out.Goals as goal

pub index-requires : goal.index-requires
unfolding memory_of
index-requires c = omega (arith, open_index c.args.self.now.areas.items c.args.id.0 c.requires.opened)

pub copy_from-requires : goal.copy_from-requires
unfolding bytes memory_of
copy_from-requires c =
    omega (arith, c.requires.within, ap length (open_read c.args.self.now.areas.items c.args.id.0 c.index.result.now c.requires.opened c.index.ensures).1)

pub returns : goal.returns
unfolding bytes memory_of
returns c =
    let s = c.args.self.now in
    c.copy_from.ensures ∙ ap (λ b. part b c.args.at (length c.args.to.now))
    (c.deref.ensures.value ∙ sym (open_read s.areas.items c.args.id.0 c.index.result.now c.requires.opened c.index.ensures).1)
