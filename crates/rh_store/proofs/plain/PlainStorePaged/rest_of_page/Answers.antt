use Rattle.rh_store.proofs.Common.{◌-◌, ◌%◌, length, sym, ap, ◌∙◌, arith, PAGE, part, bytes, open_index, open_read, memory_of}
use Rattle.rh_store.specs.Inner.PlainLaws.{whole_law}
use Rattle.rh_store.proofs.plain.PlainStorePaged.rest_of_page.Goals as goal

pub index-requires : goal.index-requires
unfolding memory_of
index-requires c = omega (arith, open_index c.args.self.now.areas.items c.args.id.0 c.requires.opened)

pub part_of-requires : goal.part_of-requires
unfolding bytes memory_of
part_of-requires c =
    omega (
      arith,
      c.requires.within,
      whole_law c.args.self.now c.args.id.0,
      ap length (open_read c.args.self.now.areas.items c.args.id.0 c.index.result.now c.requires.opened c.index.ensures).1,
    )

pub returns : goal.returns
unfolding bytes memory_of
returns c =
    let s = c.args.self.now in
    c.part_of.ensures ∙ ap (λ b. part b c.args.at (PAGE - c.args.at % PAGE))
    (c.deref.ensures.value ∙ sym (open_read s.areas.items c.args.id.0 c.index.result.now c.requires.opened c.index.ensures).1)
