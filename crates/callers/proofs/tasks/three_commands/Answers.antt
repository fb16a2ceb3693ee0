use Rattle.std.proofs.Common.{◌≡◌, ◌∙◌}
use Rattle.rh_defs.specs.declared.reply.Reply.{Reply}
use Rattle.rh_defs.specs.declared.reply.Reply.TheVariants.{Block}
use Rattle.callers.proofs.RunFacts.{in_ranges, ran, third_reply}
use Rattle.callers.proofs.tasks.three_commands.Goals as goal

pub apply-requires : goal.apply-requires
apply-requires g c = record { ranged = (in_ranges _ (c.copied.ensures ∙ rw c.unwrap-name.ensures at c.new.ensures.value)).0 }

pub apply-requires-2 : goal.apply-requires-2
apply-requires-2 g c = record { ranged = (in_ranges _ (c.copied-2.ensures ∙ rw c.unwrap-name.ensures at c.new.ensures.value)).1 }

pub apply-requires-3 : goal.apply-requires-3
apply-requires-3 g c = record { ranged = (in_ranges _ (rw c.unwrap-name.ensures at c.new.ensures.value)).2 }

pub returns-in-Block-clause-answer : goal.returns-in-Block-clause-answer
returns-in-Block-clause-answer g c =
    let name = rw c.unwrap-name.ensures at c.new.ensures.value in
    let said : ◌≡◌ {A = Reply} (Block c.in-Block.address) (Block 0x8114) =
    third_reply _ _ _ _ _ _ _ _ _ _ (c.copied.ensures ∙ name) (c.copied-2.ensures ∙ name) name c.requires c.apply.ensures.steps c.apply-2.ensures.steps
    c.in-Block.ensures.steps in
    cc

pub returns-in-Block-clause-desk : goal.returns-in-Block-clause-desk
returns-in-Block-clause-desk g c =
    let name = rw c.unwrap-name.ensures at c.new.ensures.value in
    ran _ _ _ _ _ _ _ (c.copied.ensures ∙ name) (c.copied-2.ensures ∙ name) name c.requires c.apply.ensures.runs c.apply-2.ensures.runs c.in-Block.ensures.runs

pub returns-in_default-clause-answer : goal.returns-in_default-clause-answer
returns-in_default-clause-answer g c =
    let name = rw c.unwrap-name.ensures at c.new.ensures.value in
    absurd (c.in_default.not-Block _
    (third_reply _ _ _ _ _ _ _ _ _ _ (c.copied.ensures ∙ name) (c.copied-2.ensures ∙ name) name c.requires c.apply.ensures.steps c.apply-2.ensures.steps
    c.apply-3.ensures.steps))

pub returns-in_default-clause-desk : goal.returns-in_default-clause-desk
returns-in_default-clause-desk g c =
    let name = rw c.unwrap-name.ensures at c.new.ensures.value in
    ran _ _ _ _ _ _ _ (c.copied.ensures ∙ name) (c.copied-2.ensures ∙ name) name c.requires c.apply.ensures.runs c.apply-2.ensures.runs c.apply-3.ensures.runs
