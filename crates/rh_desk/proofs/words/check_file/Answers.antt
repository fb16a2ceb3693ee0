use Rattle.std.proofs.Common.{inl, inr, refl, vec_items}
use Rattle.rh_desk.specs.Done.{streams}
use Rattle.rh_desk.proofs.DoneLemmas.{check-over}
use Rattle.rh_desk.proofs.words.check_file.Goals as goal

pub returns-in-Ok-clause-of_file : goal.returns-in-Ok-clause-of_file
returns-in-Ok-clause-of_file g c = λ other.
    let input = g.I.Source.input c.args.input.now in
    rw (c.ended.ensures.ending, ← c.in-Ok.ensures.quiet) (
      refl,
      inl (
        vec_items c.in-Ok.bytes,
        c.in-Ok.ensures.whole,
        check-over c.args.kind c.as_slice.result.now (vec_items c.in-Ok.bytes) (streams input input _ _ _ _) c.check_bytes.result
            c.as_slice.ensures.value c.check_bytes.ensures.ok c.check_bytes.ensures.status c.check_bytes.ensures.err
            c.ended.ensures.quiet c.ended.ensures.errors,
      ),
    )

pub returns-in-Err-clause-of_file : goal.returns-in-Err-clause-of_file
returns-in-Err-clause-of_file g c = λ other. (refl, inr (refl, c.in-Err.ensures.err, c.in-Err.ensures.errors))
