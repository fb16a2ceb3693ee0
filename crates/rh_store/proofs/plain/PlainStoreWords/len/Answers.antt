use Rattle.rh_store.proofs.Common.{length, ap, arith, bytes, open_index, open_read, memory_of}
use Rattle.rh_store.proofs.plain.PlainStoreWords.len.Goals as goal

pub index-requires : goal.index-requires
unfolding memory_of
index-requires c = omega (arith, open_index c.args.self.now.areas.items c.args.id.0 c.requires)

pub returns : goal.returns
unfolding bytes memory_of
returns c =
    let s = c.args.self.now in
    omega (arith, ap length (open_read s.areas.items c.args.id.0 c.index.result.now c.requires c.index.ensures).1)
