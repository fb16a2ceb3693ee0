use Rattle.std.proofs.Common.{inl, inr, refl, sym, ◌∙◌}
use Rattle.rh_desk.proofs.words.any_words.Goals as goal

pub returns-in-Some-clause-ends : goal.returns-in-Some-clause-ends
returns-in-Some-clause-ends g c =
    inl (c.in-Some.kind, sym c.kind_asked.ensures ∙ c.in-Some.is, refl, c.help_ending.ensures.ends (g.I.Source.input c.args.input.now))

pub returns-in-None-clause-ends : goal.returns-in-None-clause-ends
returns-in-None-clause-ends g c =
    inr (sym c.kind_asked.ensures ∙ c.in-None.is, rw (← c.meant.ensures) c.run_words.ensures.ends)
