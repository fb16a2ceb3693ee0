use Rattle.std.proofs.Common.{append-nil, sym}
use Rattle.rh_session.proofs.session.put_handed.Goals as goal

pub returns-in-Some : goal.returns-in-Some
returns-in-Some g c = rw (c.in-Some.is, ← c.as_slice.ensures.value) c.put_handed_line.ensures

pub returns-in-None : goal.returns-in-None
returns-in-None g c = rw (c.in-None.is) (sym (append-nil _))
