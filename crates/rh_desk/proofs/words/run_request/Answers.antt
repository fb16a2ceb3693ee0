use Rattle.std.proofs.Common.{rules, ◌≡◌, ◌≢◌, ◌∙◌, codes, inl, inr, refl}
use Rattle.rh_session.specs.declared.status.RunFault.TheVariants.{NoMemory}
use Rattle.rh_desk.proofs.DoneLemmas.{files-fail, lost-by, script-over}
use Rattle.rh_desk.proofs.words.run_request.Goals as goal

pub returns-in-Err-read_files-clause-ends : goal.returns-in-Err-read_files-clause-ends
returns-in-Err-read_files-clause-ends g c =
    rw (← c.in_default.ensures.quiet)
    (files-fail g.R.File.Read.remaining _ _ _ _ _ _ c.in_default.ensures.good (refl, refl) c.in-Err-read_files.ensures.errors)

pub returns-then-eq-clause-ends : goal.returns-then-eq-clause-ends
returns-then-eq-clause-ends g c =
    let is : c.args.request.now.script.now ≡ codes "-" = search rules in
    rw (← (c.in-Ok.ensures.quiet ∙ c.in_default.ensures.quiet))
    (script-over g.R.File.Read.remaining _ _ _ _ _ _ _ c.in_default.ensures.good c.in-Ok.ensures.named c.in-Ok.ensures.whole
    (λ input. c.show_ending.ensures.over) (λ other. absurd (other is)))

pub returns-in-Ok-open-clause-ends : goal.returns-in-Ok-open-clause-ends
returns-in-Ok-open-clause-ends g c =
    let other : c.args.request.now.script.now ≢ codes "-" = search rules in
    rw (← (c.in-Ok.ensures.quiet ∙ c.in_default.ensures.quiet))
    (script-over g.R.File.Read.remaining _ _ _ _ _ _ _ c.in_default.ensures.good c.in-Ok.ensures.named c.in-Ok.ensures.whole
    (λ is. absurd (other is))
    (λ named. c.show_file.ensures.over _))

pub returns-in-Err-open-clause-ends : goal.returns-in-Err-open-clause-ends
returns-in-Err-open-clause-ends g c =
    let other : c.args.request.now.script.now ≢ codes "-" = search rules in
    rw (← (c.in-Ok.ensures.quiet ∙ c.in_default.ensures.quiet))
    (script-over g.R.File.Read.remaining _ _ _ _ _ _ _ c.in_default.ensures.good c.in-Ok.ensures.named c.in-Ok.ensures.whole
    (λ is. absurd (other is)) (λ named. inr ((refl, refl), c.ended.ensures.ending, inr (c.ended.ensures.errors NoMemory refl))))

pub returns-clause-ends : goal.returns-clause-ends
returns-clause-ends g c =
    let other : c.args.request.now.script.now ≢ codes "-" = search rules in
    rw (← (c.in-Ok.ensures.quiet ∙ c.in_default.ensures.quiet))
    (script-over g.R.File.Read.remaining _ _ _ _ _ _ _ c.in_default.ensures.good c.in-Ok.ensures.named c.in-Ok.ensures.whole
    (λ is. absurd (other is)) (λ named.
    inr ((refl, refl), c.tell_file.ensures.ending, inl (_, lost-by g.R.File.Read.remaining _ _ c.of.ensures, c.tell_file.ensures.errors))))
