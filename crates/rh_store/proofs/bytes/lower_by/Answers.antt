use Rattle.std.proofs.Common.{◌≡◌, ◌+◌, ◌-◌, ◌≤◌, length, slice_range, sym, ap, ◌∙◌, arith}
use Rattle.rh_defs.specs.Bytes.{part, with_part}
use Rattle.rh_defs.proofs.BytesLaws.{part-range}
use Rattle.rh_store.proofs.Slices.{lent_slide}
use Rattle.rh_store.proofs.bytes.lower_by.Goals as goal

pub returns : goal.returns
returns g c =
    let b = c.args.b.now in
    let n = c.args.n in
    let p = c.args.to in
    let k = c.args.from + n - p in
    let gap = c.requires.gap in
    let all : p + k ≡ c.args.from + n = omega arith in
    let from : p + g.row.D ≡ c.args.from = omega arith in
    let to : p + 0 ≡ c.args.to = omega arith in
    let lent = sym (part-range b p k (omega (arith, c.requires.source)) ∙ ap (slice_range b p) all) in
    let within : p + k ≤ length b = omega (arith, c.requires.source) in
    lent_slide b _ _ p k g.row.D 0 n (g.row.D + n - g.row.D) lent c.copy_within.ensures.after (omega arith) (omega arith) (omega arith) within
    ∙ (λ i. with_part b (to i) (part b (from i) n))
