use Rattle.std.proofs.Common.{◌≡◌, ◌+◌, ◌++◌, Bool, ap, sym, ◌∙◌}
use Rattle.rh_elements.proofs.RowLemmas.{added}
use Rattle.rh_elements.proofs.WriteLemmas.{offered_as, offered_last}
use Rattle.rh_figure.specs.Phrases.{where_so}
use Rattle.rh_figure.specs.declared.piece.Piece.{Piece}
use Rattle.rh_lens.specs.LensParts.{break_text, group_text, inside_text, key_of}
use Rattle.rh_lens.specs.PlacedSpots.{part_spot}
use Rattle.rh_lens.specs.Widths.{is_broken}
use Rattle.rh_lens.proofs.parts.print_part.Goals as goal

pub returns : goal.returns
returns g c i told =
    let b = c.args.band.now in
    let x = c.args.x in
    let y = c.args.y in
    let q = c.args.spot in
    let key = c.as_slice.ensures
    ∙ (c.add_key.ensures.value ∙ (ap (λ z. z ++ key_of c.args.piece.now.kind (b.start + c.args.piece.now.at)) c.new-key.ensures
    ∙ ap (λ (z : Piece). key_of z.kind (b.start + z.at)) (sym told.piece))) in
    let broken : c.is_broken-broken.result ≡ is_broken b.room b.scale i i.piece.kind i.piece.size =
    c.is_broken-broken.ensures i told ∙ ap (λ (z : Piece). is_broken b.room b.scale i z.kind z.size) (sym told.piece) in
    added (g.P.Pen.offered c.args.pen.now) _ _ (offered_as _ (ap group_text key) c.print_group.ensures)
    (added (g.P.Pen.offered c.print_group.new.pen) _ _ (c.print_part_box.ensures i told.piece)
    (added (g.P.Pen.offered c.print_part_box.new.pen) _ _
    (offered_as _ (ap (λ (t : Bool). inside_text b.start t x y (part_spot i q)) broken) (c.print_inside.ensures i told))
    (added (g.P.Pen.offered c.print_inside.new.pen) _ _
    (offered_as _ (ap (λ (t : Bool). where_so t (break_text (x + q.width) y)) broken) c.print_break.ensures)
    (offered_last (g.P.Pen.offered c.print_break.new.pen) _ c.put.ensures))))
