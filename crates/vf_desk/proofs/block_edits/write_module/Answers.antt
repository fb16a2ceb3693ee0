use Rattle.std.proofs.Common.{sym}
use Rattle.rh_tasks.specs.BlockBytes.{module_written}
use Rattle.rh_tasks.proofs.BlockOrders.{module_written-alike}
use Rattle.vf_desk.proofs.BlockEditLaws.{bad-module-edit, edits-bad, edits-good, good-module-edit}
use Rattle.vf_desk.proofs.block_edits.write_module.Goals as goal

pub returns-then-not-is_write : goal.returns-then-not-is_write
returns-then-not-is_write c =
    edits-bad _ c.args.world.now (bad-module-edit c.args.address c.args.offset c.args.from.now (sym c.if-not-is_write.ensures))

pub returns : goal.returns
returns c =
    edits-good (λ d. module_written d c.args.address c.args.offset c.args.from.now)
    (good-module-edit c.args.address c.args.offset c.args.from.now (sym c.if-not-is_write.ensures))
    (λ d queue same. module_written-alike d queue same c.args.address c.args.offset c.args.from.now) c.write_module.result c.write_module.ensures c.said.ensures
