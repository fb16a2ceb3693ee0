use Rattle.vf_desk.proofs.Common.{Some, None, ap, ◌∙◌, desk_by, in_form, KeepsRest}
use Rattle.rh_defs.specs.declared.command.Command.TheVariants as command
use Rattle.rh_defs.specs.declared.raw_command.RawCommand.TheVariants as raw
use Rattle.vf_desk.proofs.SeenLaws.{held-by, held-desk, held-same, in-handle, none-by, none-desk, none-said, stays-rest}
use Rattle.vf_desk.proofs.desk.VfDesk.write_at.Goals as goal

pub returns-in_default-clause-said : goal.returns-in_default-clause-said
returns-in_default-clause-said c =
    none-said c.in_default.ensures.taken c.in_default.ensures.left (in_form (command.Raw (raw.Write c.args.name.now c.args.address c.args.from.now)))

pub returns-in_default-clause-desk : goal.returns-in_default-clause-desk
returns-in_default-clause-desk c =
    none-desk c.in_default.ensures.taken c.in_default.ensures.left (in_form (command.Raw (raw.Write c.args.name.now c.args.address c.args.from.now)))

pub returns-in_default-clause-rest : goal.returns-in_default-clause-rest
returns-in_default-clause-rest c = none-by c.in_default.ensures.taken c.in_default.ensures.left KeepsRest (stays-rest None)

pub returns-in_default-clause-refused : goal.returns-in_default-clause-refused
returns-in_default-clause-refused c = λ _. c.in_default.ensures.left ∙ c.in_default.ensures.taken

pub returns-clause-said : goal.returns-clause-said
returns-clause-said c = in-handle (ap Some c.deref_mut.ensures.value ∙ c.in-Some.ensures.taken) c.write_at-called.ensures.said

pub returns-clause-desk : goal.returns-clause-desk
returns-clause-desk c = held-desk (ap Some c.deref_mut.ensures.value ∙ c.in-Some.ensures.taken) c.put.ensures
    (λ s. desk_by s (in_form (command.Raw (raw.Write c.args.name.now c.args.address c.args.from.now)))) c.write_at-called.ensures.desk

pub returns-clause-rest : goal.returns-clause-rest
returns-clause-rest c = held-by (ap Some c.deref_mut.ensures.value ∙ c.in-Some.ensures.taken) c.put.ensures KeepsRest c.write_at-called.ensures.rest

pub returns-clause-refused : goal.returns-clause-refused
returns-clause-refused c = λ bad. held-same (ap Some c.deref_mut.ensures.value ∙ c.in-Some.ensures.taken) c.put.ensures (c.write_at-called.ensures.refused bad)
