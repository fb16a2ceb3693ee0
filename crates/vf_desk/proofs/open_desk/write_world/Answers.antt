use Rattle.vf_desk.proofs.Common.{refl, sym, ap, arith, tests}
use Rattle.rh_defs.specs.declared.command.Command.TheVariants as command
use Rattle.rh_defs.specs.declared.reply.Reply.TheVariants as reply
use Rattle.rh_tasks.specs.Inner.CommandAnswers.{reply_of}
use Rattle.rh_tasks.proofs.Steps.{stepped}
use Rattle.vf_desk.proofs.FormLaws.{a-name, an-anchor, no-anchor, no-name, put-anchor, put-bytes, put-good, put-name, put-number}
use Rattle.vf_desk.proofs.SeenLaws.{steps-bad, steps-good}
use Rattle.vf_desk.proofs.open_desk.write_world.Goals as goal

pub returns-in_default : goal.returns-in_default
returns-in_default c =
    steps-bad _ c.args.world.now (put-name c.args.name.now c.args.from.now c.args.anchor c.args.offset (no-name c.args.name.now c.in_default.ensures))

pub returns-in_default-anchor_of : goal.returns-in_default-anchor_of
returns-in_default-anchor_of c =
    let named = a-name c.args.name.now c.in-Some.name c.in-Some.ensures in
    steps-bad _ c.args.world.now (put-anchor c.args.name.now c.args.from.now c.args.anchor c.args.offset named.1
    (no-anchor c.args.anchor c.in_default-anchor_of.ensures))

pub returns-then-offset-gt-GREATEST_NUMBER : goal.returns-then-offset-gt-GREATEST_NUMBER
returns-then-offset-gt-GREATEST_NUMBER c =
    let named = a-name c.args.name.now c.in-Some.name c.in-Some.ensures in
    let anchored = an-anchor c.args.anchor c.in-Some-anchor_of.anchor c.in-Some-anchor_of.ensures in
    steps-bad _ c.args.world.now (put-number c.args.name.now c.args.from.now c.args.anchor c.args.offset named.1 anchored.1 (grind (arith, tests)))

pub returns-then-is_empty : goal.returns-then-is_empty
returns-then-is_empty c =
    let named = a-name c.args.name.now c.in-Some.name c.in-Some.ensures in
    let anchored = an-anchor c.args.anchor c.in-Some-anchor_of.anchor c.in-Some-anchor_of.ensures in
    steps-bad _ c.args.world.now (put-bytes c.args.name.now c.args.from.now c.args.anchor c.args.offset named.1 anchored.1 (grind (arith, tests))
    (grind (arith, tests)))

pub returns-in-Ok : goal.returns-in-Ok
returns-in-Ok c =
    let named = a-name c.args.name.now c.in-Some.name c.in-Some.ensures in
    let anchored = an-anchor c.args.anchor c.in-Some-anchor_of.anchor c.in-Some-anchor_of.ensures in
    steps-good (command.Put c.args.name.now c.args.anchor c.args.offset c.args.from.now)
    (put-good c.args.name.now c.args.from.now c.args.anchor c.args.offset named.1 anchored.1 (grind (arith, tests)) (grind (arith, tests)))
    (stepped (command.Put c.args.name.now c.args.anchor c.args.offset c.args.from.now) _ c.args.world.now c.put.new.self c.put.result c.in-Ok.reply refl refl
    (rw (named.0, anchored.0) at c.put.ensures) (sym (ap reply_of c.in-Ok.is)))

pub returns-in-Err : goal.returns-in-Err
returns-in-Err c =
    let named = a-name c.args.name.now c.in-Some.name c.in-Some.ensures in
    let anchored = an-anchor c.args.anchor c.in-Some-anchor_of.anchor c.in-Some-anchor_of.ensures in
    steps-good (command.Put c.args.name.now c.args.anchor c.args.offset c.args.from.now)
    (put-good c.args.name.now c.args.from.now c.args.anchor c.args.offset named.1 anchored.1 (grind (arith, tests)) (grind (arith, tests)))
    (stepped (command.Put c.args.name.now c.args.anchor c.args.offset c.args.from.now) _ c.args.world.now c.put.new.self c.put.result
    (reply.Refused c.in-Err.refusal) refl refl (rw (named.0, anchored.0) at c.put.ensures) (sym (ap reply_of c.in-Err.is)))
