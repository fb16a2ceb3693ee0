use Rattle.std.proofs.Common.{Ok, refl, ap, ◌∙◌}
use Rattle.rh_tasks.specs.Sights.{next_message}
use Rattle.vf_desk.proofs.FormLaws.{a-name, no-name}
use Rattle.vf_desk.proofs.NextLaws.{next-bad, next-closed, next-open, told-none, told-refused, told-some}
use Rattle.vf_desk.proofs.open_desk.OpenDesk.next.Goals as goal

pub returns-in_default-clause-status : goal.returns-in_default-clause-status
returns-in_default-clause-status c = λ s seen. rw (next-closed c.in_default.is s c.args.name.now seen) refl

pub returns-in_default-clause-message : goal.returns-in_default-clause-message
returns-in_default-clause-message c = λ s seen. rw (next-closed c.in_default.is s c.args.name.now seen) refl

pub returns-in_default-clause-code : goal.returns-in_default-clause-code
returns-in_default-clause-code c = λ s seen. rw (next-closed c.in_default.is s c.args.name.now seen) refl

pub returns-in_default-name_of-clause-status : goal.returns-in_default-name_of-clause-status
returns-in_default-name_of-clause-status c =
    λ s seen. rw (next-bad c.in-Some.is s c.args.name.now seen (no-name c.args.name.now c.in_default-name_of.ensures)) refl

pub returns-in_default-name_of-clause-message : goal.returns-in_default-name_of-clause-message
returns-in_default-name_of-clause-message c =
    λ s seen. rw (next-bad c.in-Some.is s c.args.name.now seen (no-name c.args.name.now c.in_default-name_of.ensures)) refl

pub returns-in_default-name_of-clause-code : goal.returns-in_default-name_of-clause-code
returns-in_default-name_of-clause-code c =
    λ s seen. rw (next-bad c.in-Some.is s c.args.name.now seen (no-name c.args.name.now c.in_default-name_of.ensures)) refl

pub returns-in-Ok-Some-clause-status : goal.returns-in-Ok-Some-clause-status
returns-in-Ok-Some-clause-status c = λ s seen.
    let named = a-name c.args.name.now c.in-Some-name_of.name c.in-Some-name_of.ensures in
    rw (next-open c.in-Some.is s c.args.name.now seen named.1, ← named.0)
    (told-some (next_message c.in-Some.console.world.desk c.in-Some-name_of.name) c.args.code.now c.next_message.ensures
    (c.in-Ok-Some.is ∙ ap Ok c.in-Ok-Some.field-0-is)).status_is

pub returns-in-Ok-Some-clause-message : goal.returns-in-Ok-Some-clause-message
returns-in-Ok-Some-clause-message c = λ s seen.
    let named = a-name c.args.name.now c.in-Some-name_of.name c.in-Some-name_of.ensures in
    rw (next-open c.in-Some.is s c.args.name.now seen named.1, ← named.0)
    (told-some (next_message c.in-Some.console.world.desk c.in-Some-name_of.name) c.args.code.now c.next_message.ensures
    (c.in-Ok-Some.is ∙ ap Ok c.in-Ok-Some.field-0-is)).block

pub returns-in-Ok-Some-clause-code : goal.returns-in-Ok-Some-clause-code
returns-in-Ok-Some-clause-code c = λ s seen.
    let named = a-name c.args.name.now c.in-Some-name_of.name c.in-Some-name_of.ensures in
    rw (next-open c.in-Some.is s c.args.name.now seen named.1, ← named.0)
    (c.number.ensures ∙ (told-some (next_message c.in-Some.console.world.desk c.in-Some-name_of.name) c.args.code.now c.next_message.ensures
    (c.in-Ok-Some.is ∙ ap Ok c.in-Ok-Some.field-0-is)).code_is)

pub returns-in-Ok-None-clause-status : goal.returns-in-Ok-None-clause-status
returns-in-Ok-None-clause-status c = λ s seen.
    let named = a-name c.args.name.now c.in-Some-name_of.name c.in-Some-name_of.ensures in
    rw (next-open c.in-Some.is s c.args.name.now seen named.1, ← named.0)
    (told-none (next_message c.in-Some.console.world.desk c.in-Some-name_of.name) c.args.code.now c.next_message.ensures
    (c.in-Ok-None.is ∙ ap Ok c.in-Ok-None.field-0-is)).status_is

pub returns-in-Ok-None-clause-message : goal.returns-in-Ok-None-clause-message
returns-in-Ok-None-clause-message c = λ s seen.
    let named = a-name c.args.name.now c.in-Some-name_of.name c.in-Some-name_of.ensures in
    rw (next-open c.in-Some.is s c.args.name.now seen named.1, ← named.0)
    (told-none (next_message c.in-Some.console.world.desk c.in-Some-name_of.name) c.args.code.now c.next_message.ensures
    (c.in-Ok-None.is ∙ ap Ok c.in-Ok-None.field-0-is)).block

pub returns-in-Ok-None-clause-code : goal.returns-in-Ok-None-clause-code
returns-in-Ok-None-clause-code c = λ s seen.
    let named = a-name c.args.name.now c.in-Some-name_of.name c.in-Some-name_of.ensures in
    rw (next-open c.in-Some.is s c.args.name.now seen named.1, ← named.0)
    (told-none (next_message c.in-Some.console.world.desk c.in-Some-name_of.name) c.args.code.now c.next_message.ensures
    (c.in-Ok-None.is ∙ ap Ok c.in-Ok-None.field-0-is)).code_is

pub returns-in-Err-clause-status : goal.returns-in-Err-clause-status
returns-in-Err-clause-status c = λ s seen.
    let named = a-name c.args.name.now c.in-Some-name_of.name c.in-Some-name_of.ensures in
    rw (next-open c.in-Some.is s c.args.name.now seen named.1, ← named.0)
    (c.refusal_number.ensures ∙ (told-refused (next_message c.in-Some.console.world.desk c.in-Some-name_of.name) c.args.code.now c.next_message.ensures
    c.in-Err.is).status_is)

pub returns-in-Err-clause-message : goal.returns-in-Err-clause-message
returns-in-Err-clause-message c = λ s seen.
    let named = a-name c.args.name.now c.in-Some-name_of.name c.in-Some-name_of.ensures in
    rw (next-open c.in-Some.is s c.args.name.now seen named.1, ← named.0)
    (told-refused (next_message c.in-Some.console.world.desk c.in-Some-name_of.name) c.args.code.now c.next_message.ensures c.in-Err.is).block

pub returns-in-Err-clause-code : goal.returns-in-Err-clause-code
returns-in-Err-clause-code c = λ s seen.
    let named = a-name c.args.name.now c.in-Some-name_of.name c.in-Some-name_of.ensures in
    rw (next-open c.in-Some.is s c.args.name.now seen named.1, ← named.0)
    (told-refused (next_message c.in-Some.console.world.desk c.in-Some-name_of.name) c.args.code.now c.next_message.ensures c.in-Err.is).code_is
