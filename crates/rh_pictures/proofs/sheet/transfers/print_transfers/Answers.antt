use Rattle.rh_pictures.proofs.Common.{◌≡◌, true, sym, ◌∙◌, append_assoc, transfer_row, ins_of, outs_of, offered_as}
use Rattle.rh_figure.specs.Figure.{transfers_of}
use Rattle.rh_sheet.specs.Tables.{transfers_heading}
use Rattle.rh_pictures.proofs.TableLemmas.{rows-some}
use Rattle.rh_pictures.proofs.TransferLemmas.{sides-some}
use Rattle.rh_pictures.proofs.UnderLemmas.{is_some}
use Rattle.rh_pictures.proofs.sheet.transfers.print_transfers.Goals as goal

pub returns : goal.returns
returns g c =
    let outs = outs_of (g.S.Sight.desk c.args.sight.now) in
    let ins = ins_of (g.S.Sight.desk c.args.sight.now) in
    let some : is_some (transfers_of outs ins) ≡ true = sym (sides-some outs ins) ∙ (sym c.has_transfers.ensures ∙ c.if-not-has_transfers.false) in
    offered_as _ (sym (rows-some transfers_heading transfer_row (transfers_of outs ins) some))
    (simp (c.put.ensures, c.put-2.ensures, c.show_transfers.ensures, c.put-3.ensures, append_assoc))
