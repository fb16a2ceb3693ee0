use Rattle.std.proofs.Common.{rules, ◌≡◌, ◌<◌, length, true, inl, inr, refl}
use Rattle.rh_defs.specs.declared.sizes.TheConstants.{LONGEST_FILE}
use Rattle.rh_session.specs.declared.status.RunFault.TheVariants.{NoMemory, ReadFailed}
use Rattle.rh_desk.proofs.input.read_input.Goals as goal

pub returns-in-Err-clause-errors : goal.returns-in-Err-clause-errors
returns-in-Err-clause-errors g c =
    let failed : (g.I.Source.input c.read.new.self).failed ≡ true = search rules in
    rw (← c.loop-piece.invariant.quiet) (inl (failed, c.ended.ensures.errors ReadFailed refl))

pub returns-clause-errors : goal.returns-clause-errors
returns-clause-errors g c =
    let many : LONGEST_FILE < length c.loop-piece.bytes.items = search rules in
    rw (← c.loop-piece.invariant.quiet) (inr (inl ((_, many, c.loop-piece.invariant.read), c.tell_file.ensures.errors)))

pub returns-then-is_err-clause-errors : goal.returns-then-is_err-clause-errors
returns-then-is_err-clause-errors g c = rw (← c.loop-piece.invariant.quiet) (inr (inr (c.ended-then-is_err.ensures.errors NoMemory refl)))
