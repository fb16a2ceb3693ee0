use Rattle.rh_laws.proofs.RenamedLaws.{always-renamed, pieces-renamed, shows-given, shows-renamed, steps-renamed}
use Rattle.rh_laws.proofs.renaming.renaming_law.Goals as goal

pub returns-clause-steps : goal.returns-clause-steps
returns-clause-steps c = steps-renamed

pub returns-clause-shows : goal.returns-clause-shows
returns-clause-shows c = shows-renamed

pub returns-clause-pieces : goal.returns-clause-pieces
returns-clause-pieces c = pieces-renamed

pub returns-clause-runs : goal.returns-clause-runs
returns-clause-runs c = always-renamed

pub returns-clause-given : goal.returns-clause-given
returns-clause-given c = shows-given
