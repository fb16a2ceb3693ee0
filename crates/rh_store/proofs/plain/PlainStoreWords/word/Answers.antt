use Rattle.rh_store.proofs.Common.{length, sym, ap, ◌∙◌, arith, bytes, open_index, open_read, memory_of}
use Rattle.rh_defs.specs.Bytes.{word}
use Rattle.rh_store.proofs.plain.PlainStoreWords.word.Goals as goal

pub index-requires : goal.index-requires
unfolding memory_of
index-requires c = omega (arith, open_index c.args.self.now.areas.items c.args.id.0 c.requires.opened)

pub word_in-requires : goal.word_in-requires
unfolding bytes memory_of
word_in-requires c =
    omega (arith, c.requires.within, ap length (open_read c.args.self.now.areas.items c.args.id.0 c.index.result.now c.requires.opened c.index.ensures).1)

pub returns : goal.returns
unfolding bytes memory_of
returns c =
    let s = c.args.self.now in
    c.word_in.ensures ∙ ap (λ b. word b c.args.at) (c.deref.ensures.value
    ∙ sym (open_read s.areas.items c.args.id.0 c.index.result.now c.requires.opened c.index.ensures).1)
