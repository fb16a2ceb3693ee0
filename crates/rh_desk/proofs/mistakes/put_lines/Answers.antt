use Rattle.std.proofs.Common.{◌∙◌, ◌++◌, ap, append_assoc, sym}
use Rattle.rh_desk.specs.Hints.{line_told, text_lines, told_lines}
use Rattle.rh_desk.proofs.HintLemmas.{line-skipped, line-stays, some-bytes}
use Rattle.rh_desk.proofs.mistakes.put_lines.Goals as goal

pub lines-preserved-then-is_left_out : goal.lines-preserved-then-is_left_out
lines-preserved-then-is_left_out g c =
    let first = c.first_line.ensures in
    let some = some-bytes c.lines.rest.now (sym c.lines-test.ensures) in
    let skipped = line-skipped c.args.for_script c.lines.was_empty c.lines.rest.now c.first_line.result.0.now c.first_line.result.1.now some first.first
    first.behind (sym c.is_left_out.ensures ∙ c.if-is_left_out.true) in
    ap (λ z. g.P.Pen.offered c.lines.pen ++ z) (sym skipped) ∙ c.lines.invariant

pub lines-preserved : goal.lines-preserved
lines-preserved g c =
    let first = c.first_line.ensures in
    let line = c.first_line.result.0.now in
    let some = some-bytes c.lines.rest.now (sym c.lines-test.ensures) in
    let errors = line-stays c.args.for_script c.lines.was_empty c.lines.rest.now line c.first_line.result.1.now some first.first first.behind
    (sym c.is_left_out.ensures ∙ c.if-is_left_out.false) in
    let behind = told_lines c.args.for_script c.is_empty-was_empty.result (text_lines c.first_line.result.1.now) in
    ap (λ z. z ++ behind) c.put_line.ensures ∙ (append_assoc (g.P.Pen.offered c.lines.pen) (line_told line) behind
    ∙ (ap (λ e. g.P.Pen.offered c.lines.pen ++ (line_told line ++ told_lines c.args.for_script e (text_lines c.first_line.result.1.now)))
    c.is_empty-was_empty.ensures ∙ (ap (λ z. g.P.Pen.offered c.lines.pen ++ z) (sym errors) ∙ c.lines.invariant)))
