use Rattle.std.proofs.Common.{◌+◌, ◌∙◌, arith}
use Rattle.rh_module.proofs.BlockBytes.{block_within, word_there}
use Rattle.rh_module.proofs.module.Module.read_word.Goals as goal

pub overflow_add-address : goal.overflow_add-address
overflow_add-address g c =
    omega (
      arith,
      block_within (g.S.Words.memory c.args.store.now) c.args.self c.args.address (c.args.offset + 4) c.requires.module c.requires.block,
      g.met.S.Words.small c.args.store.now c.args.self.area.0,
    )

pub word-requires-clause-within : goal.word-requires-clause-within
word-requires-clause-within g c =
    omega (arith, block_within (g.S.Words.memory c.args.store.now) c.args.self c.args.address (c.args.offset + 4) c.requires.module c.requires.block)

pub returns : goal.returns
returns g c = λ bytes e. c.word.ensures
    ∙ word_there (g.S.Words.memory c.args.store.now) c.args.self c.args.address c.args.offset bytes c.requires.module c.requires.block e
