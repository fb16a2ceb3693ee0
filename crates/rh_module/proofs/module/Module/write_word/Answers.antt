use Rattle.std.proofs.Common.{◌+◌, arith}
use Rattle.rh_heap.proofs.MapShapes.{rows_on}
use Rattle.rh_module.proofs.BlockBytes.{block_within, wrote_word, same_shape, span_after}
use Rattle.rh_module.proofs.module.Module.write_word.Goals as goal

pub overflow_add-address : goal.overflow_add-address
overflow_add-address g c =
    omega (
      arith,
      block_within (g.S.Words.memory c.args.store.now) c.args.self c.args.address (c.args.offset + 4) c.requires.module c.requires.block,
      g.met.S.Words.small c.args.store.now c.args.self.area.0,
    )

pub set_word-requires-clause-within : goal.set_word-requires-clause-within
set_word-requires-clause-within g c = rw c.take_map-map.ensures.same (omega
    (arith, block_within (g.S.Words.memory c.args.store.now) c.args.self c.args.address (c.args.offset + 4) c.requires.module c.requires.block))

pub keep_map-requires-clause-span : goal.keep_map-requires-clause-span
keep_map-requires-clause-span g c =
    let m = g.S.Words.memory c.args.store.now in
    let n = g.S.Words.memory c.set_word.new.self in
    let w = wrote_word m n c.args.self c.args.address c.args.offset c.args.w c.requires.module c.requires.block
    (rw c.take_map-map.ensures.same at c.set_word.ensures) in
    span_after m n c.args.self _ _ _ _ w c.span-2.ensures

pub keep_map-requires-clause-index : goal.keep_map-requires-clause-index
keep_map-requires-clause-index g c =
    let m = g.S.Words.memory c.args.store.now in
    let n = g.S.Words.memory c.set_word.new.self in
    let w = wrote_word m n c.args.self c.args.address c.args.offset c.args.w c.requires.module c.requires.block
    (rw c.take_map-map.ensures.same at c.set_word.ensures) in
    let shape = same_shape m n c.args.self _ _ _ _ _ w c.requires.module c.span.ensures c.span-2.ensures in
    rows_on _ _ _ _ shape c.take_map-map.result c.take_map-map.ensures.index

pub returns : goal.returns
returns g c =
    let m = g.S.Words.memory c.args.store.now in
    let n = g.S.Words.memory c.set_word.new.self in
    rw c.keep_map.ensures (wrote_word m n c.args.self c.args.address c.args.offset c.args.w c.requires.module c.requires.block
    (rw c.take_map-map.ensures.same at c.set_word.ensures))
