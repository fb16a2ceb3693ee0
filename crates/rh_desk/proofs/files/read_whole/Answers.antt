use Rattle.std.proofs.Common.{◌≤◌, ◌∙◌, inl, inr, refl, rules, subst}
use Rattle.rh_session.specs.declared.status.RunFault.TheVariants.{NoMemory}
use Rattle.rh_desk.proofs.DoneLemmas.{lost-by, too-long, whole-is}
use Rattle.rh_defs.specs.declared.sizes.TheConstants.{LONGEST_FILE}
use Rattle.rh_desk.specs.declared.reasons.FileLoss.TheVariants.{TooLong}
use Rattle.rh_desk.proofs.files.read_whole.Goals as goal

pub returns-in-Err-clause-errors : goal.returns-in-Err-clause-errors
returns-in-Err-clause-errors g c = inr (c.ended.ensures.errors NoMemory refl)

pub returns-in-Ok-2-clause-errors : goal.returns-in-Ok-2-clause-errors
returns-in-Ok-2-clause-errors g c =
    inl (TooLong, too-long g.R.File.Read.remaining _ _ c.new-bytes.ensures.items (search rules) c.in-Ok-2.ensures, c.tell_file.ensures.errors)

pub returns-clause-errors : goal.returns-clause-errors
returns-clause-errors g c = inl (_, lost-by g.R.File.Read.remaining _ _ c.of.ensures, c.tell_file-in-Err-2.ensures.errors)

pub returns-in-Ok-clause-whole : goal.returns-in-Ok-clause-whole
returns-in-Ok-clause-whole g c =
    whole-is g.R.File.Read.remaining _ _ c.new-bytes.ensures.items (subst (λ n. n ≤ LONGEST_FILE) (c.len.ensures ∙ c.read_into.new.bytes.ok.0)
    c.if-len-le-LONGEST_FILE.true) c.in-Ok.ensures
