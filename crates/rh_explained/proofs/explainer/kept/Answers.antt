use Rattle.std.proofs.Common.{◌+◌, arith, sym}
use Rattle.std.proofs.lemmas.List.{take_all}
use Rattle.rh_defs.specs.declared.sizes.TheConstants.{LONGEST_LINE}
use Rattle.rh_session.specs.Lines.{kept}
use Rattle.rh_explained.proofs.explainer.kept.Goals as goal

pub returns-then-line-le-LONGEST_LINE : goal.returns-then-line-le-LONGEST_LINE
unfolding kept
returns-then-line-le-LONGEST_LINE c = sym (take_all (LONGEST_LINE + 1) c.args.line.now (omega arith))
