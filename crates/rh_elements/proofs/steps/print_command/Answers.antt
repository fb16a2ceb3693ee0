use Rattle.rh_elements.proofs.Common.{◌≡◌, ◌++◌, append_assoc, codes, escape}
use Rattle.rh_sheet.specs.SheetSteps.{command_head}
use Rattle.rh_elements.proofs.WriteLemmas.{offered_as}
use Rattle.rh_elements.proofs.steps.print_command.Goals as goal

pub returns : goal.returns
returns g c =
    let words :
    c.as_slice.result.now ++ (escape c.as_slice-2.result.now ++ codes "</code></h2>\n<pre>")
    ≡ command_head c.args.step c.args.line.now
    = simp (
      c.as_slice.ensures,
      c.as_slice-2.ensures,
      c.command_row-command.ensures.value,
      c.text-2.ensures,
      c.decimal.ensures.value,
      c.text.ensures,
      c.new-row.ensures,
      append_assoc,
    ) in
    offered_as _ words c.put_between.ensures
