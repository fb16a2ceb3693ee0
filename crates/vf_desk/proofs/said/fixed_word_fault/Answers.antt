use Rattle.std.proofs.Common.{sym, ap}
use Rattle.rh_defs.specs.declared.fault.LineFault.TheVariants.{Word}
use Rattle.std.specs.Fmt.{digits}
use Rattle.rh_defs.specs.Text.{fault_text}
use Rattle.vf_desk.proofs.said.fixed_word_fault.Goals as goal

pub returns-in-2 : goal.returns-in-2
unfolding fault_text digits
returns-in-2 c = sym (ap (λ n. fault_text (Word n)) c.in-2.is)

pub returns-in-3 : goal.returns-in-3
unfolding fault_text digits
returns-in-3 c = sym (ap (λ n. fault_text (Word n)) c.in-3.is)

pub returns-in-4 : goal.returns-in-4
unfolding fault_text digits
returns-in-4 c = sym (ap (λ n. fault_text (Word n)) c.in-4.is)

pub returns-in-5 : goal.returns-in-5
unfolding fault_text digits
returns-in-5 c = sym (ap (λ n. fault_text (Word n)) c.in-5.is)

pub returns-in-6 : goal.returns-in-6
unfolding fault_text digits
returns-in-6 c = sym (ap (λ n. fault_text (Word n)) c.in-6.is)

pub returns-in-7 : goal.returns-in-7
unfolding fault_text digits
returns-in-7 c = sym (ap (λ n. fault_text (Word n)) c.in-7.is)
