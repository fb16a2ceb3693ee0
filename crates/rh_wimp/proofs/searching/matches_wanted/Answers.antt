use Rattle.rh_wimp.proofs.Common.{eqb, sym, ap, ◌∙◌, arith, block_bytes, padded, has-less, padded-least, ref_read, module_heap_in, wants}
use Rattle.rh_wimp.proofs.searching.matches_wanted.Goals as goal

pub read_word-requires-clause-block : goal.read_word-requires-clause-block
read_word-requires-clause-block g c =
    let h = module_heap_in (g.S.Words.memory c.args.store.now) c.args.module_area in
    let w = c.requires.lies in
    let l = w.1.1 in
    has-less c.args.block 24 20 h (omega arith)
    (record { bytes = padded w.0 w.1.0; found = ap (λ a. block_bytes a h) l.1 ∙ l.0.block; room = padded-least w.0 w.1.0 })

pub returns-in-WithRef : goal.returns-in-WithRef
returns-in-WithRef g c = λ link p l e small.
    let h = module_heap_in (g.S.Words.memory c.args.store.now) c.args.module_area in
    ap (λ n. eqb n c.my_ref.inside.0) (c.read_word.ensures (padded link p) (ap (λ a. block_bytes a h) e ∙ l.block) ∙ ref_read link p small l.fits)
    ∙ ap (λ n. eqb p.message.my_ref n) c.my_ref.view_is ∙ sym (ap (λ w. wants w p) c.in-WithRef.is)
