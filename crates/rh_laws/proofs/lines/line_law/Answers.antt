use Rattle.rh_laws.proofs.LineRows.{are-read}
use Rattle.rh_laws.proofs.Spelled.{are-spelled}
use Rattle.rh_laws.proofs.lines.line_law.Goals as goal

pub returns-clause-read : goal.returns-clause-read
returns-clause-read c = are-read

pub returns-clause-spelled : goal.returns-clause-spelled
returns-clause-spelled c = are-spelled
