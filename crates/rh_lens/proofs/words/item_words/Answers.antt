use Rattle.std.proofs.Common.{◌≡◌, ◌+◌, ◌-◌, ap, ap₂, sym, ◌∙◌}
use Rattle.rh_figure.specs.declared.piece.Piece.{Piece}
use Rattle.rh_lens.specs.PartWords.{choices_of, fitted_words, room_of}
use Rattle.rh_lens.specs.Widths.{header_width}
use Rattle.rh_lens.proofs.words.item_words.Goals as goal

pub returns : goal.returns
returns c i told =
    let w = c.args.width in
    let room : c.saturating_sub-room.result ≡ room_of c.args.broken w i =
    c.saturating_sub-room.ensures
    ∙ ap₂ (λ a b. a - b) c.before_mark.ensures (c.header_width.ensures.value ∙ ap (λ (z : Piece). header_width z.kind) (sym told.piece)) in
    c.words_at.ensures i told
    ∙ ap₂ (λ (z : Piece) n. fitted_words n (choices_of i z.kind (c.args.start + z.at) w n)) (sym told.piece) room
