use Rattle.rh_pictures.proofs.Common.{map, sym, alone_among, comes_alone, goes_out, ins_of, outs_of, offered_as}
use Rattle.rh_pictures.proofs.ElementLemmas.{parts-both}
use Rattle.rh_pictures.proofs.TextPuts.{text_then}
use Rattle.rh_pictures.proofs.walks.transfers.show_transfers.Goals as goal

pub returns : goal.returns
returns g c =
    let d = g.S.Sight.desk c.args.sight.now in
    offered_as _ (sym (parts-both g.A.Artist.transfer_text (map (goes_out (ins_of d)) (outs_of d))
    (map comes_alone (alone_among (outs_of d) (ins_of d)))))
    (text_then (g.P.Pen.offered c.args.pen.now) _ _ c.show_outs.ensures c.show_ins.ensures)
