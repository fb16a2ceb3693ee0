use Rattle.rh_pictures.proofs.Common.{ℕ, None, Some, ap, ap₂, sym, ◌∙◌, list_any, has_id, outs_of, offered_as, offered_none}
use Rattle.rh_defs.specs.declared.question.RecordItem.{RecordItem}
use Rattle.rh_figure.specs.Figure.{Transfer}
use Rattle.rh_pictures.proofs.TransferLemmas.{alone-none, alone-one, in-id}
use Rattle.rh_pictures.proofs.walks.transfers.show_if_alone.Goals as goal

pub returns-then-has_out : goal.returns-then-has_out
returns-then-has_out g c =
    let outs = outs_of (g.S.Sight.desk c.args.sight.now) in
    let known = ap (λ n. list_any (has_id n) outs) (sym c.in_id-id.ensures) ∙ (sym c.has_out.ensures ∙ c.if-has_out.true) in
    offered_as _ (sym (alone-none g.A.Artist.transfer_text outs c.args.name.now c.args.incoming.now known)) (offered_none _)

pub returns : goal.returns
returns g c =
    let outs = outs_of (g.S.Sight.desk c.args.sight.now) in
    let element = g.A.Artist.transfer_text in
    let r = c.args.incoming.now in
    let unknown = ap (λ n. list_any (has_id n) outs) (sym c.in_id-id.ensures) ∙ (sym c.has_out.ensures ∙ c.if-has_out.false) in
    let alone : ℕ → RecordItem → Transfer = λ id item. record { id = id; goes_out = None; comes_in = Some (c.args.name.now, item) } in
    let shown = ap₂ (λ id item. element (alone id item)) (c.in_id-id.ensures ∙ sym (in-id r)) c.in_item.ensures in
    offered_as _ (shown ∙ sym (alone-one element outs c.args.name.now r unknown)) c.transfer.ensures
