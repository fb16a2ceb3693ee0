-- Bytes that stay where they are need no move.
use Rattle.rh_slot.proofs.Common.{◌+◌, get_or, sym, ap, arith, bytes, length-part}
use Rattle.rh_defs.proofs.MemoryLaws.{Edited-self}
use Rattle.rh_slot.proofs.AreaLaws.{Carried-slid, Edited-put}
use Rattle.rh_slot.proofs.area.slide.Goals as goal

pub returns-then-from-to-clause-carried : goal.returns-then-from-to-clause-carried
returns-then-from-to-clause-carried g c = Carried-slid _ _ _ _ _ _ c.slide.ensures c.requires.target

pub returns-then-from-to-clause-only : goal.returns-then-from-to-clause-only
returns-then-from-to-clause-only g c =
    Edited-put _ _ _ _ _ _ c.slide.ensures (omega (arith, length-part (bytes (g.S.Words.memory c.args.store.now) c.args.area.0) c.args.from c.args.n))

pub returns-else-from-to-clause-carried : goal.returns-else-from-to-clause-carried
returns-else-from-to-clause-carried g c =
    record { each = λ k l. ap (λ i. get_or (bytes (g.S.Words.memory c.args.store.now) c.args.area.0) (i + k) 0) (sym c.if-from-to.false) }

pub returns-else-from-to-clause-only : goal.returns-else-from-to-clause-only
returns-else-from-to-clause-only g c = Edited-self _ _ _ _ c.requires.opened
