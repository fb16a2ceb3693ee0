use Rattle.rh_pictures.proofs.Common.{◌≡◌, ◌++◌, take, flat_map, words_in, arrows_seen}
use Rattle.rh_pictures.proofs.sheet.chart.print_all_words.Given as goal

-- those before the place were offered
abbrev pub invariant-loop-way : goal.invariant-loop-way
invariant-loop-way g l =
    g.P.Pen.offered l.pen ≡ g.P.Pen.offered l.initial.pen ++ flat_map (words_in l.chart) (arrows_seen (take l.way-index l.chart.ways.now))
