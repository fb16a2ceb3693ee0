-- What stands beside the memory, part by part.
use Rattle.rh_pictures.proofs.Common.{◌≡◌, ℕ, true, List, [], ◌∷◌, ◌++◌, ap, sym, ◌∙◌, codes, concat, Desk, with_queue, letterboxes, transfers, Text, where_so}
use Rattle.rh_pictures.proofs.Common.{Scene, Note, arrows, messages_table, transfers_table}
use Rattle.rh_sheet.specs.Chart.{chart_figure, chart_of}
use Rattle.rh_sheet.specs.SheetSteps.{aside_text, has_aside}
use Rattle.rh_pictures.proofs.ChartLemmas.{chart-seen}

abbrev pub first : Text
first = codes "<aside>\n"

abbrev pub last : Text
last = codes "</aside>\n"

-- the parts in which it is written
pub aside-parts : (d : Desk) (x : Scene) → with_queue [] d ≡ x.desk → (notes : List Note) (step : ℕ) → has_aside x notes ≡ true
    → first ++ (chart_figure d notes step ++ (messages_table (letterboxes x) ++ (transfers_table (transfers x) ++ last))) ≡ aside_text x notes step
aside-parts d x e notes step has =
    let tables : Text = messages_table (letterboxes x) ++ (transfers_table (transfers x) ++ last) in
    let all : Text = concat (
    first ∷ chart_figure x.desk notes step ∷ messages_table (letterboxes x) ∷ transfers_table (transfers x) ∷ last ∷ []
    ) in
    let seen = chart-seen d (arrows notes) step ∙ ap (λ z. chart_of z (arrows notes) step) e in
    ap (λ z. first ++ (z ++ tables)) seen ∙ sym (ap (λ b. where_so b all) has)
