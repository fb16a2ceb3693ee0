use Rattle.rh_store.proofs.Common.{length, ap, ◌∙◌, arith, length-part}
use Rattle.rh_store.proofs.Slices.{copied_down}
use Rattle.rh_store.proofs.bytes.copy_down.Goals as goal

pub put_in-requires : goal.put_in-requires
put_in-requires c =
    omega (
      arith,
      c.requires.apart,
      c.split_at_mut-low.ensures.front_len,
      ap length c.part_of.ensures ∙ length-part c.split_at_mut-low.result.1.now 0 c.args.n,
    )

pub returns : goal.returns
returns c = copied_down _ _ _ _ _ _ _ _ c.split_at_mut-low.ensures.value c.split_at_mut-low.ensures.front_len c.part_of.ensures c.put_in.ensures
    c.requires.apart
