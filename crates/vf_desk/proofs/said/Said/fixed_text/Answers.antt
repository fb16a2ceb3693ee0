use Rattle.std.specs.Prelude.{Option, Some, None, IfSome}
use Rattle.vf_desk.proofs.said.Said.fixed_text.Goals as goal

-- what holds of a text that is there, by what is known of it
of_some : {A : Type 0} {P Q : A → Type 0} (found : Option A) → ((x : A) → P x → Q x) → IfSome found P → IfSome found Q
of_some None so known = known
of_some (Some x) so known = so x known

pub returns-in-Fault : goal.returns-in-Fault
returns-in-Fault c = rw c.in-Fault.is (of_some c.fixed_fault.result (λ text is d. is) c.fixed_fault.ensures)
