use Rattle.rh_lines.proofs.noted_output.NotedOutput.picked.Given as goal

-- what was picked
abbrev pub ghost-at : goal.ghost-at
ghost-at g a = g.output
