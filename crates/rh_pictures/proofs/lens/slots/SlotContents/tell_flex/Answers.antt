use Rattle.rh_pictures.proofs.Common.{◌∙◌, ap₂, refl, sym, arith, find}
use Rattle.rh_defs.specs.Records.{is_document, is_source}
use Rattle.rh_figure.specs.Cards.{in_use_text, out_use_text}
use Rattle.rh_pictures.proofs.LensTells.{flex-has, flex-low, flex-piece, piece-low, told-flex}
use Rattle.rh_pictures.proofs.lens.slots.SlotContents.tell_flex.Goals as goal

pub overflow_cast-block : goal.overflow_cast-block
overflow_cast-block g c = let few = flex-low c.recall_desk.ensures c.requires.piece c.args.anchor c.args.size c.requires.kind in omega (arith, few)

pub overflow_add-block : goal.overflow_add-block
overflow_add-block g c = let low = piece-low c.recall_desk.ensures c.requires.piece in omega (arith, low)

pub overflow_cast-block-2 : goal.overflow_cast-block-2
overflow_cast-block-2 g c = let low = piece-low c.recall_desk.ensures c.requires.piece in omega (arith, low)

pub overflow_add-block-2 : goal.overflow_add-block-2
overflow_add-block-2 g c = let low = piece-low c.recall_desk.ensures c.requires.piece in omega (arith, low)

pub read_flex-requires : goal.read_flex-requires
read_flex-requires g c =
    let r = c.requires.piece in
    let is = c.recall_desk.ensures in
    let f = flex-piece is r c.args.anchor c.args.size c.requires.kind in
    (f.block.bytes, flex-has is r c.args.anchor c.args.size c.requires.kind _ refl, f.size)

pub returns : goal.returns
returns g c =
    let r = c.requires.piece in
    let is = c.recall_desk.ensures in
    let k = c.args.anchor in
    let n = c.args.size in
    let kind = c.requires.kind in
    let f = flex-piece is r k n kind in
    told-flex is r k n kind _ (c.read_flex.ensures f.block.bytes (flex-has is r k n kind _ refl) f.size)
    (c.use_of_block-inside.ensures ∙ ap₂ (λ out in_. out_use_text (find (is_source k) out) (in_use_text (find (is_document k) in_))) r.so.sending r.so.taking)
    (sym c.requires.nothing.message)
