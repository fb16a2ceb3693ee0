use Rattle.rh_safety.proofs.Blanks.{always_flagged, always_offers_safe}
use Rattle.rh_safety.proofs.Played.{all_safe, scripts_are_safe}
use Rattle.rh_safety.proofs.SeenLaws.{always_safe}
use Rattle.rh_safety.proofs.laws.safe_law.Goals as goal

pub returns-clause-commands : goal.returns-clause-commands
returns-clause-commands c = always_safe

pub returns-clause-all : goal.returns-clause-all
returns-clause-all c = all_safe

pub returns-clause-scripts : goal.returns-clause-scripts
returns-clause-scripts c = scripts_are_safe

pub returns-clause-offered : goal.returns-clause-offered
returns-clause-offered c = always_offers_safe

pub returns-clause-flags : goal.returns-clause-flags
returns-clause-flags c = always_flagged
