use Rattle.rh_pictures.proofs.Common.{◌≡◌, ◌++◌, take, flat_map, arrow_sentence, escape, arrows_seen}
use Rattle.rh_pictures.proofs.sheet.chart.print_sentences.Given as goal

-- those before the place were offered
abbrev pub invariant-loop-way : goal.invariant-loop-way
invariant-loop-way g l =
    g.P.Pen.offered l.pen ≡ g.P.Pen.offered l.initial.pen
    ++ escape (flat_map (arrow_sentence (g.S.Sight.desk l.sight)) (arrows_seen (take l.way-index l.ways)))
