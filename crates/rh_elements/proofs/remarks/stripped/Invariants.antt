use Rattle.rh_elements.proofs.Common.{◌≡◌, length, map, remark_byte}
use Rattle.rh_figure.specs.Rows.{trimmed}
use Rattle.rh_sheet.specs.SheetSteps.{stripped}
use Rattle.rh_elements.proofs.remarks.stripped.Given as goal

-- only bytes that are shown as spaces were left out
abbrev pub invariant-loop-last : goal.invariant-loop-last
invariant-loop-last l = stripped (map remark_byte l.text) ≡ trimmed (map remark_byte l.front)

abbrev pub decreases-loop-last : goal.decreases-loop-last
decreases-loop-last l = length l.front
