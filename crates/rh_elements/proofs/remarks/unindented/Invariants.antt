use Rattle.rh_elements.proofs.Common.{◌≡◌, length, map, remark_byte}
use Rattle.rh_sheet.specs.SheetSteps.{without_indent}
use Rattle.rh_elements.proofs.remarks.unindented.Given as goal

-- only bytes that are shown as spaces were left out
abbrev pub invariant-loop-first : goal.invariant-loop-first
invariant-loop-first l = without_indent (map remark_byte l.text) ≡ without_indent (map remark_byte l.rest)

abbrev pub decreases-loop-first : goal.decreases-loop-first
decreases-loop-first l = length l.rest
