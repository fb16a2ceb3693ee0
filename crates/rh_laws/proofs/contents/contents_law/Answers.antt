use Rattle.rh_laws.proofs.ContentGiven.{always-gives-contents}
use Rattle.rh_laws.proofs.ContentLaws.{always-has-contents}
use Rattle.rh_laws.proofs.contents.contents_law.Goals as goal

pub returns-clause-stands : goal.returns-clause-stands
returns-clause-stands c = always-has-contents

pub returns-clause-gives : goal.returns-clause-gives
returns-clause-gives c = always-gives-contents
