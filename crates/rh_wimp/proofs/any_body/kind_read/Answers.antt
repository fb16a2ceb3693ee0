use Rattle.rh_wimp.proofs.Common.{ℕ, ◌+◌, ◌-◌, length, replicate, refl, sym, ap, ◌∙◌, arith, part}
use Rattle.rh_defs.specs.AnyMessage.{kind_read}
use Rattle.rh_defs.proofs.BlockKindLaws.{same-kind}
use Rattle.rh_defs.proofs.BytesLaws.{length-put}
use Rattle.rh_wimp.proofs.AnyLaws.{data-there}
use Rattle.rh_wimp.proofs.any_body.kind_read.Goals as goal

pub kind_at-requires-clause-high : goal.kind_at-requires-clause-high
kind_at-requires-clause-high c =
    omega (arith, ap length c.put_bytes.ensures, length-put (replicate 256 0) 20 c.args.bytes.now)

pub returns : goal.returns
returns c =
    let d = c.args.bytes.now in
    let end : ℕ = 20 + length d in
    c.kind_at.ensures
    ∙ sym (same-kind c.put_bytes.new.out end c.args.action (omega arith))
    ∙ ap (kind_read c.args.action)
    (ap (λ b. part b 20 (end - 20)) c.put_bytes.ensures ∙ data-there (replicate 256 0) d end refl (omega arith))
