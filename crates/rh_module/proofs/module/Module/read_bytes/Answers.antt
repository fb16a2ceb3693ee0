use Rattle.std.proofs.Common.{◌+◌, ◌∙◌, length, arith}
use Rattle.rh_module.proofs.BlockBytes.{block_within, part_there}
use Rattle.rh_module.proofs.module.Module.read_bytes.Goals as goal

pub overflow_add-address : goal.overflow_add-address
overflow_add-address g c =
    omega (
      arith,
      block_within (g.S.Words.memory c.args.store.now) c.args.self c.args.address (c.args.offset + length c.args.to.now) c.requires.module c.requires.block,
      g.met.S.Words.small c.args.store.now c.args.self.area.0,
    )

pub copy_out-requires-clause-within : goal.copy_out-requires-clause-within
copy_out-requires-clause-within g c =
    omega (
      arith,
      block_within (g.S.Words.memory c.args.store.now) c.args.self c.args.address (c.args.offset + length c.args.to.now) c.requires.module c.requires.block,
    )

pub returns : goal.returns
returns g c = λ bytes e. c.copy_out.ensures
    ∙ part_there (g.S.Words.memory c.args.store.now) c.args.self c.args.address c.args.offset (length c.args.to.now) bytes c.requires.module c.requires.block
    e
