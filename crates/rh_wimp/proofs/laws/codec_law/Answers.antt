use Rattle.rh_wimp.proofs.CodecLaws.{any-comes-back, comes-back}
use Rattle.rh_wimp.proofs.laws.codec_law.Goals as goal

pub returns-clause-kinds : goal.returns-clause-kinds
returns-clause-kinds c = comes-back

pub returns-clause-any : goal.returns-clause-any
returns-clause-any c = any-comes-back
