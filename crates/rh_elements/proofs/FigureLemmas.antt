-- The beginning of a figure in parts.
use Rattle.rh_elements.proofs.Common.{◌≡◌, ℕ, ◌++◌, codes, ap, ◌∙◌, append_assoc, decimal, escape}
use Rattle.rh_figure.specs.Phrases.{Text}
use Rattle.rh_sheet.specs.Markup.{figure_open}
use Rattle.rh_elements.proofs.RowLemmas.{behind}

-- its size
abbrev pub size_part : ℕ → ℕ → Text
size_part width height =
    codes "<svg viewBox=\"0 0 "
    ++ (decimal width ++ (codes " " ++ (decimal height ++ codes "\" role=\"img\">\n<title>")))

-- its size, and its title
pub figure-sized : (width height : ℕ) (title row : Text) → row ≡ size_part width height
    → row ++ (escape title ++ codes "</title>\n<desc>") ≡ figure_open width height title
figure-sized width height title row e =
    let last = codes "\" role=\"img\">\n<title>" in
    let rest = escape title ++ codes "</title>\n<desc>" in
    ap (λ z. z ++ rest) e
    ∙ behind (codes "<svg viewBox=\"0 0 ") (decimal width ++ (codes " " ++ (decimal height ++ last))) rest
    (behind (decimal width) (codes " " ++ (decimal height ++ last)) rest
    (behind (codes " ") (decimal height ++ last) rest (append_assoc (decimal height) last rest)))
