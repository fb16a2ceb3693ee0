use Rattle.rh_pictures.proofs.Common.{ℕ, List, ap, ◌∙◌, arith, length, length-take, replicate, take}
use Rattle.rh_pictures.proofs.LensTells.{front-told}
use Rattle.rh_pictures.proofs.lens.fronts.read_claimed.Goals as goal

pub read_heap-requires-clause-block : goal.read_heap-requires-clause-block
read_heap-requires-clause-block g c =
    let r = c.requires.block in
    let zeros : List ℕ = replicate 256 0 in
    (r.0, r.1, omega (arith, r.2, c.read_length.ensures, length-take c.read_length.result zeros))

pub put_front-requires : goal.put_front-requires
put_front-requires g c =
    let r = c.requires.block in
    let zeros : List ℕ = replicate 256 0 in
    let n = c.read_length.result in
    omega (
      arith,
      ap length (c.read_heap.ensures r.0 r.1),
      c.read_length.ensures,
      length-take n zeros,
      length-take (length (take n zeros)) r.0,
    )

pub returns : goal.returns
returns g c = λ bytes sees long.
    let zeros : List ℕ = replicate 256 0 in
    let n = c.read_length.result in
    c.put_front.ensures ∙ (c.read_heap.ensures bytes sees
    ∙ front-told c.args.size (length (take n zeros)) bytes long (omega (arith, c.read_length.ensures, length-take n zeros)))
