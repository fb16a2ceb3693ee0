use Rattle.std.proofs.Common.{sym}
use Rattle.rh_tasks.specs.BlockBytes.{block_written}
use Rattle.rh_tasks.proofs.BlockOrders.{block_written-alike}
use Rattle.vf_desk.proofs.BlockEditLaws.{bad-block-edit, edits-bad, edits-good, named-edit, nameless-edit, put-ranged}
use Rattle.vf_desk.proofs.block_edits.write_block.Goals as goal

pub returns-then-not-is_write : goal.returns-then-not-is_write
returns-then-not-is_write c =
    edits-bad _ c.args.world.now (bad-block-edit c.args.address c.args.offset c.args.from.now c.args.name.now (sym c.if-not-is_write.ensures))

pub returns-in_default : goal.returns-in_default
returns-in_default c =
    edits-bad _ c.args.world.now
    (nameless-edit c.args.address c.args.offset c.args.from.now (sym c.if-not-is_write.ensures) c.args.name.now c.in_default.ensures)

pub write_block-requires : goal.write_block-requires
write_block-requires c = put-ranged c.args.name.now c.in-Some.name c.args.from.now c.args.offset c.in-Some.ensures (sym c.if-not-is_write.ensures)

pub returns : goal.returns
returns c =
    edits-good (λ d. block_written d c.in-Some.name c.args.address c.args.offset c.args.from.now)
    (named-edit c.args.address c.args.offset c.args.from.now (sym c.if-not-is_write.ensures) c.args.name.now c.in-Some.name c.in-Some.ensures)
    (λ d queue same. block_written-alike d queue same c.in-Some.name c.args.address c.args.offset c.args.from.now)
    c.write_block.result c.write_block.ensures c.said.ensures
