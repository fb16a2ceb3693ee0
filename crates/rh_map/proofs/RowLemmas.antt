-- Rows of an area, one after the other.
use Rattle.rh_map.proofs.Common.{◌≡◌, ℕ, suc, ◌+◌, List, ◌++◌, map, ap, codes, range_with_len, shown_line, shown_lines}
use Rattle.rh_figure.specs.Figure.{Drawing}
use Rattle.rh_figure.specs.Rows.{area_row, rows_down, marks_row}

-- the highest row, and those below it
pub rows-below : (g : Drawing) (n j i : ℕ) → i ≡ suc j
    → shown_lines (rows_down g n i) ≡ (shown_line (area_row g n j) ++ codes "\n") ++ shown_lines (rows_down g n j)
rows-below g n j i e = ap (λ k. shown_lines (rows_down g n k)) e

-- the next row of a text, and those behind it
pub rows-behind : (marks : List ℕ) (i m n : ℕ) → n ≡ suc m
    → shown_lines (map (marks_row marks) (range_with_len i n))
    ≡ (shown_line (marks_row marks i) ++ codes "\n") ++ shown_lines (map (marks_row marks) (range_with_len (i + 1) m))
rows-behind marks i m n e = ap (λ k. shown_lines (map (marks_row marks) (range_with_len i k))) e
