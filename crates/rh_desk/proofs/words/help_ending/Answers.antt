use Rattle.std.proofs.Common.{refl}
use Rattle.rh_session.specs.declared.status.RunFault.TheVariants.{WriteFailed}
use Rattle.rh_desk.proofs.words.help_ending.Goals as goal

pub returns-in-Ok-clause-ends : goal.returns-in-Ok-clause-ends
returns-in-Ok-clause-ends g c = λ input. (c.in-Ok.ensures.ok, refl)

pub returns-in-Err-clause-ends : goal.returns-in-Err-clause-ends
returns-in-Err-clause-ends g c = λ input. rw c.ended.ensures.ending (c.in-Err.ensures.err, c.ended.ensures.errors WriteFailed refl)
