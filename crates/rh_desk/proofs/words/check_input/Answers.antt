use Rattle.std.proofs.Common.{inl, inr, refl, vec_items}
use Rattle.rh_desk.specs.Done.{streams}
use Rattle.rh_desk.proofs.DoneLemmas.{check-over}
use Rattle.rh_desk.proofs.words.check_input.Goals as goal

pub returns-in-Ok-clause-ends : goal.returns-in-Ok-clause-ends
returns-in-Ok-clause-ends g c =
    let before = g.I.Source.input c.args.input.now in
    let after = g.I.Source.input c.read_input.new.input in
    rw (c.ended.ensures.ending, ← c.in-Ok.ensures.quiet)
    (inl (
      vec_items c.in-Ok.image,
      c.in-Ok.ensures.whole,
      check-over c.args.kind c.as_slice.result.now (vec_items c.in-Ok.image) (streams before after _ _ _ _) c.check_bytes.result
          c.as_slice.ensures.value c.check_bytes.ensures.ok c.check_bytes.ensures.status c.check_bytes.ensures.err
          c.ended.ensures.quiet c.ended.ensures.errors,
    ))

pub returns-in-Err-clause-ends : goal.returns-in-Err-clause-ends
returns-in-Err-clause-ends g c = inr (refl, c.in-Err.ensures.err, c.in-Err.ensures.errors)
