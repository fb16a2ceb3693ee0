use Rattle.rh_store.proofs.Common.{◌-◌, length, sym, ap, ◌∙◌, arith, part, bytes, length-part, open_index, open_read, memory_of}
use Rattle.rh_store.proofs.plain.PlainStoreWords.run.Goals as goal

pub index-requires : goal.index-requires
unfolding memory_of
index-requires c = omega (arith, open_index c.args.self.now.areas.items c.args.id.0 c.requires.opened)

pub overflow_sub-len : goal.overflow_sub-len
unfolding bytes memory_of
overflow_sub-len c =
    omega (
      arith,
      c.requires.within,
      c.len.ensures,
      c.deref.ensures.len,
      ap length c.deref.ensures.value,
      ap length (open_read c.args.self.now.areas.items c.args.id.0 c.index.result.now c.requires.opened c.index.ensures).1,
    )

pub part_of-requires : goal.part_of-requires
unfolding bytes memory_of
part_of-requires c =
    omega (
      arith,
      c.requires.within,
      c.len.ensures,
      c.deref.ensures.len,
      ap length c.deref.ensures.value,
      ap length (open_read c.args.self.now.areas.items c.args.id.0 c.index.result.now c.requires.opened c.index.ensures).1,
    )

pub returns-clause-bytes : goal.returns-clause-bytes
unfolding bytes memory_of
returns-clause-bytes c =
    let s = c.args.self.now in
    let n = c.len.result - c.args.at in
    let e = open_read s.areas.items c.args.id.0 c.index.result.now c.requires.opened c.index.ensures in
    c.part_of.ensures ∙ ap (λ k. part c.deref.result.now c.args.at k) (sym (ap length c.part_of.ensures ∙ length-part c.deref.result.now c.args.at n))
    ∙ ap (λ b. part b c.args.at (length c.part_of.result.now)) (c.deref.ensures.value ∙ sym e.1)

pub returns-clause-some : goal.returns-clause-some
unfolding bytes memory_of
returns-clause-some c =
    let n = c.len.result - c.args.at in
    omega (
      arith,
      ap length c.part_of.ensures,
      length-part c.deref.result.now c.args.at n,
      c.requires.within,
      c.len.ensures,
      c.deref.ensures.len,
      ap length c.deref.ensures.value,
      ap length (open_read c.args.self.now.areas.items c.args.id.0 c.index.result.now c.requires.opened c.index.ensures).1,
    )
