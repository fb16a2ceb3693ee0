use Rattle.rh_lines.proofs.noted_output.NotedOutput.of.Given as goal

-- what the writer has taken
abbrev pub ghost-picked : goal.ghost-picked
ghost-picked g a = g.W.Sink.output a._writer.now
