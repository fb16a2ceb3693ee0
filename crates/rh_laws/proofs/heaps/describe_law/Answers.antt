use Rattle.rh_laws.proofs.HonestHeapLaws.{honest}
use Rattle.rh_laws.proofs.HonestClaims.{always-claimed, always-honest}
use Rattle.rh_laws.proofs.heaps.describe_law.Goals as goal

pub returns-clause-heaps : goal.returns-clause-heaps
returns-clause-heaps c = honest

pub returns-clause-desk : goal.returns-clause-desk
returns-clause-desk c = always-honest

pub returns-clause-claims : goal.returns-clause-claims
returns-clause-claims c = always-claimed
