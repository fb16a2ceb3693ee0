use Rattle.std.proofs.Common.{◌≡◌, ◌+◌, ◌-◌, slice_range, sym, ap, ◌∙◌, arith}
use Rattle.rh_defs.specs.Bytes.{part, with_part}
use Rattle.rh_defs.proofs.BytesLaws.{part-range}
use Rattle.rh_store.proofs.Slices.{lent_slide}
use Rattle.rh_store.proofs.bytes.raise_by.Goals as goal

pub returns : goal.returns
returns g c =
    let b = c.args.b.now in
    let n = c.args.n in
    let p = c.args.from in
    let k = c.args.to + n - p in
    let gap = c.requires.gap in
    let all : p + k ≡ c.args.to + n = omega arith in
    let from : p + 0 ≡ c.args.from = omega arith in
    let to : p + g.row.D ≡ c.args.to = omega arith in
    let lent = sym (part-range b p k (omega (arith, c.requires.target)) ∙ ap (slice_range b p) all) in
    lent_slide b _ _ p k 0 g.row.D n _ lent c.copy_within.ensures.after (omega arith) (omega arith) (omega arith) (omega (arith, c.requires.target))
    ∙ (λ i. with_part b (to i) (part b (from i) n))
