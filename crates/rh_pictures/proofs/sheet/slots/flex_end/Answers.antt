use Rattle.rh_pictures.proofs.Common.{◌-◌, List, length, ap, sym, ◌∙◌, slice_get, Piece, Plot}
use Rattle.std.specs.Option.{option_copied}
use Rattle.rh_pictures.proofs.SlotLemmas.{last-piece}
use Rattle.rh_pictures.proofs.sheet.slots.flex_end.Goals as goal

pub returns-in-Some : goal.returns-in-Some
returns-in-Some c = λ x t e.
    last-piece x t.handle t.slot c.in-Some.piece.now
    (ap (λ (ps : List Piece). slice_get ps (length ps - 1)) (sym (ap (λ (p : Plot). p.pieces) e))
    ∙ (sym c.last.ensures.value ∙ ap option_copied c.in-Some.is))
