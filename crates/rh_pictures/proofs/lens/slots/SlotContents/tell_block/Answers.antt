use Rattle.rh_pictures.proofs.Common.{◌∙◌, ◌+◌, ap, sym, arith, find}
use Rattle.rh_defs.specs.Records.{is_buffer_of}
use Rattle.rh_defs.specs.Slot.{slot_start}
use Rattle.rh_figure.specs.Cards.{in_use_text}
use Rattle.rh_pictures.proofs.LensTells.{claimed-piece, claimed-sees, piece-low, told-claimed}
use Rattle.rh_pictures.proofs.lens.slots.SlotContents.tell_block.Goals as goal

pub overflow_sub-place : goal.overflow_sub-place
overflow_sub-place g c = (claimed-piece c.recall_desk.ensures c.requires.piece c.args.size c.requires.kind).above

pub overflow_cast-place : goal.overflow_cast-place
overflow_cast-place g c = let low = piece-low c.recall_desk.ensures c.requires.piece in omega (arith, low)

pub read_claimed-requires-clause-block : goal.read_claimed-requires-clause-block
read_claimed-requires-clause-block g c =
    let r = c.requires.piece in
    let is = c.recall_desk.ensures in
    let f = claimed-piece is r c.args.size c.requires.kind in
    (f.bytes, claimed-sees is r c.args.size c.requires.kind, f.size)

pub overflow_add-address : goal.overflow_add-address
overflow_add-address g c = let low = piece-low c.recall_desk.ensures c.requires.piece in omega (arith, low)

pub overflow_add-address-2 : goal.overflow_add-address-2
overflow_add-address-2 g c = let low = piece-low c.recall_desk.ensures c.requires.piece in omega (arith, low)

pub overflow_cast-address : goal.overflow_cast-address
overflow_cast-address g c = let low = piece-low c.recall_desk.ensures c.requires.piece in omega (arith, low)

pub returns : goal.returns
returns g c =
    let r = c.requires.piece in
    let is = c.recall_desk.ensures in
    let n = c.args.size in
    let kind = c.requires.kind in
    let f = claimed-piece is r n kind in
    told-claimed is r n kind _ (c.read_claimed.ensures f.bytes (claimed-sees is r n kind) f.size)
    (c.use_of_buffer-inside.ensures ∙ ap (λ taking. in_use_text (find (is_buffer_of (slot_start + c.args.piece.now.at + 4)) taking)) r.so.taking)
    (sym c.requires.nothing.message)
