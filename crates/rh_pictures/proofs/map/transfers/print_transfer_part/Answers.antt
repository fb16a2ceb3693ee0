use Rattle.rh_pictures.proofs.Common.{◌≡◌, true, false, [], ◌∷◌, map, ap, sym, refl, ◌∙◌, codes, ins_of, outs_of, shown_lines, transfer_line, offered_as}
use Rattle.rh_pictures.proofs.Common.{offered_none}
use Rattle.rh_figure.specs.Figure.{transfers_of}
use Rattle.rh_pictures.proofs.TransferLemmas.{sides-some}
use Rattle.rh_pictures.proofs.UnderLemmas.{is_some, under-none, under-some}
use Rattle.rh_pictures.proofs.PlaceLemmas.{lines_then, offered_line, shown-each}
use Rattle.rh_pictures.proofs.map.transfers.print_transfer_part.Goals as goal

pub returns-then-not-has_transfers : goal.returns-then-not-has_transfers
returns-then-not-has_transfers g c = λ s b m.
    let d = g.S.Sight.desk c.args.sight.now in
    let all = transfers_of (outs_of d) (ins_of d) in
    let none : is_some all ≡ false = sym (sides-some (outs_of d) (ins_of d)) ∙ (sym c.has_transfers.ensures ∙ c.if-not-has_transfers.true) in
    offered_as _ (ap shown_lines (sym (under-none (codes "Transfers") transfer_line all none))) (offered_none _)

pub returns : goal.returns
returns g c = λ s b m.
    let d = g.S.Sight.desk c.args.sight.now in
    let all = transfers_of (outs_of d) (ins_of d) in
    let some : is_some all ≡ true = sym (sides-some (outs_of d) (ins_of d)) ∙ (sym c.has_transfers.ensures ∙ c.if-not-has_transfers.false) in
    offered_as _ (ap shown_lines (sym (under-some (codes "Transfers") transfer_line all some)))
    (lines_then _ (codes "Transfers" ∷ []) (map transfer_line all) (offered_line {x = codes "Transfers"} _ refl c.put_line.ensures)
    (offered_as _ (shown-each transfer_line all) c.show_transfers.ensures))
