use Rattle.rh_defs.proofs.Spaced.{always-apart, always-balanced, always-is}
use Rattle.rh_defs.proofs.laws.span_law.Goals as goal

pub returns-clause-apart : goal.returns-clause-apart
returns-clause-apart c = always-apart

pub returns-clause-balanced : goal.returns-clause-balanced
returns-clause-balanced c = always-balanced

pub returns-clause-desk : goal.returns-clause-desk
returns-clause-desk c = always-is
