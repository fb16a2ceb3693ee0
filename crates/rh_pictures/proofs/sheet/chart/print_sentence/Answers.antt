use Rattle.rh_pictures.proofs.Common.{◌≡◌, ◌++◌, ap, ap₂, ◌∙◌, codes, decimal, Text, task_name, escape, offered_as}
use Rattle.rh_sheet.specs.Chart.{fate_sentence}
use Rattle.rh_pictures.specs.Ways.{arrow_of, way_words}
use Rattle.rh_pictures.proofs.ChartLemmas.{nine-parts}
use Rattle.rh_pictures.proofs.sheet.chart.print_sentence.Goals as goal

pub returns : goal.returns
returns g c =
    let d = g.S.Sight.desk c.args.sight.now in
    let w = c.args.way.now in
    let words : Text = way_words w in
    let from : Text = task_name d w.from in
    let to : Text = task_name d w.to in
    let t1 : Text = words ++ codes " from " in
    let t2 : Text = t1 ++ from in
    let t3 : Text = t2 ++ codes " to " in
    let t4 : Text = t3 ++ to in
    let t5 : Text = t4 ++ codes ", sent at line " in
    let t6 : Text = t5 ++ decimal w.start in
    let t7 : Text = t6 ++ codes ", " in
    let e1 : c.text.new.self ≡ t1 = c.text.ensures ∙ ap (λ z. z ++ codes " from ") c.words-row.ensures.value in
    let e2 : c.add_who.new.row ≡ t2 = c.add_who.ensures.value ∙ ap₂ (λ z n. z ++ n) e1 c.who_of.ensures in
    let e3 : c.text-2.new.self ≡ t3 = c.text-2.ensures ∙ ap (λ z. z ++ codes " to ") e2 in
    let e4 : c.add_who-2.new.row ≡ t4 = c.add_who-2.ensures.value ∙ ap₂ (λ z n. z ++ n) e3 c.who_of-2.ensures in
    let e5 : c.text-3.new.self ≡ t5 = c.text-3.ensures ∙ ap (λ z. z ++ codes ", sent at line ") e4 in
    let e6 : c.decimal.new.self ≡ t6 = c.decimal.ensures.value ∙ ap (λ z. z ++ decimal w.start) e5 in
    let e7 : c.text-4.new.self ≡ t7 = c.text-4.ensures ∙ ap (λ z. z ++ codes ", ") e6 in
    let fate : Text = fate_sentence d (arrow_of w) in
    let e8 : c.add_fate.new.row ≡ t7 ++ fate = c.add_fate.ensures ∙ ap (λ z. z ++ fate) e7 in
    let parts =
    nine-parts words (codes " from ") from (codes " to ") to (codes ", sent at line ") (decimal w.start) (codes ", ") fate in
    offered_as _ (ap escape (c.as_slice.ensures ∙ (e8 ∙ parts))) c.put_escaped.ensures
