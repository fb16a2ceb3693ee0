use Rattle.rh_pictures.proofs.excerpt.put_handed.Goals as goal

pub returns-in-Some-clause-text : goal.returns-in-Some-clause-text
returns-in-Some-clause-text c = rw (c.in-Some.is, ← c.as_slice.ensures.value) c.put_handed_line.ensures

pub returns-in-Some-clause-short : goal.returns-in-Some-clause-short
returns-in-Some-clause-short c = rw c.in-Some.is c.as_slice.ensures.short
