use Rattle.vf_desk.proofs.Common.{refl, sym, ap, arith, tests}
use Rattle.rh_defs.specs.declared.command.Command.TheVariants as command
use Rattle.rh_defs.specs.declared.raw_command.RawCommand.TheVariants as raw
use Rattle.rh_defs.specs.declared.reply.Reply.TheVariants as reply
use Rattle.rh_tasks.specs.Inner.CommandAnswers.{reply_of}
use Rattle.rh_tasks.proofs.Steps.{stepped}
use Rattle.vf_desk.proofs.FormLaws.{a-name, no-name, write-bytes, write-good, write-name}
use Rattle.vf_desk.proofs.SeenLaws.{steps-bad, steps-good}
use Rattle.vf_desk.proofs.programs.write_own_bytes.Goals as goal

pub returns-in_default : goal.returns-in_default
returns-in_default c =
    steps-bad _ c.args.world.now (write-name c.args.name.now c.args.from.now c.args.address (no-name c.args.name.now c.in_default.ensures))

pub returns-then-is_empty : goal.returns-then-is_empty
returns-then-is_empty c =
    let named = a-name c.args.name.now c.in-Some.name c.in-Some.ensures in
    steps-bad _ c.args.world.now (write-bytes c.args.name.now c.args.from.now c.args.address named.1 (grind (arith, tests)))

pub returns-in-Ok : goal.returns-in-Ok
returns-in-Ok c =
    let named = a-name c.args.name.now c.in-Some.name c.in-Some.ensures in
    steps-good (command.Raw (raw.Write c.args.name.now c.args.address c.args.from.now))
    (write-good c.args.name.now c.args.from.now c.args.address named.1 (grind (arith, tests)))
    (stepped (command.Raw (raw.Write c.args.name.now c.args.address c.args.from.now)) _ c.args.world.now c.write.new.self c.write.result
    c.in-Ok.reply refl refl (rw (named.0) at c.write.ensures) (sym (ap reply_of c.in-Ok.is)))

pub returns-in-Err : goal.returns-in-Err
returns-in-Err c =
    let named = a-name c.args.name.now c.in-Some.name c.in-Some.ensures in
    steps-good (command.Raw (raw.Write c.args.name.now c.args.address c.args.from.now))
    (write-good c.args.name.now c.args.from.now c.args.address named.1 (grind (arith, tests)))
    (stepped (command.Raw (raw.Write c.args.name.now c.args.address c.args.from.now)) _ c.args.world.now c.write.new.self c.write.result
    (reply.Refused c.in-Err.refusal) refl refl (rw (named.0) at c.write.ensures) (sym (ap reply_of c.in-Err.is)))
