use Rattle.rh_store.proofs.Common.{length, length-append, ap, ◌∙◌, arith, length-part}
use Rattle.rh_store.proofs.Slices.{copied_up}
use Rattle.rh_store.proofs.bytes.copy_up.Goals as goal

pub put_in-requires : goal.put_in-requires
put_in-requires c =
    let s = c.split_at_mut-low.ensures in
    let f = s.front_len in
    let v = ap length s.value ∙ length-append c.split_at_mut-low.result.0.now c.split_at_mut-low.result.1.now in
    omega (arith, c.requires.target, ap length c.part_of.ensures ∙ length-part c.split_at_mut-low.result.0.now c.args.from c.args.n)

pub returns : goal.returns
returns c = copied_up _ _ _ _ _ _ _ _ c.split_at_mut-low.ensures.value c.split_at_mut-low.ensures.front_len c.part_of.ensures c.put_in.ensures
    c.requires.target c.requires.apart
