use Rattle.rh_tasks.proofs.Common.{sym, ◌∙◌, kept_of}
use Rattle.rh_tasks.proofs.Hands.{raw-absent, raw-none, raw-some}
use Rattle.rh_tasks.proofs.world.World.is_raw.Goals as goal

pub returns-in-Ok : goal.returns-in-Ok
returns-in-Ok g c =
    rw (← c.self.view_is) (c.is_raw.ensures ∙ raw-some (g.S.Words.memory c.self.inside.store) c.self.inside.seats.items c.self.inside.made.items
    (g.F.NamedFiles.contents c.self.inside.files) (kept_of c.self.inside.next c.self.inside.queue c.self.inside.scrap)
    (record { at = c.in-Ok.ensures.ok; is = sym c.index-seat.ensures }))

pub returns-in-Err : goal.returns-in-Err
returns-in-Err g c =
    rw (← c.self.view_is) (raw-none (g.S.Words.memory c.self.inside.store) c.self.inside.seats.items c.self.inside.made.items
    (g.F.NamedFiles.contents c.self.inside.files)
    (kept_of c.self.inside.next c.self.inside.queue c.self.inside.scrap) c.args.name.now c.in-Err.ensures.err.1)

pub returns-then-not-has_raw : goal.returns-then-not-has_raw
returns-then-not-has_raw g c =
    rw (← c.self.view_is) (raw-absent (g.S.Words.memory c.self.inside.store) c.self.inside.seats.items c.self.inside.made.items
    (g.F.NamedFiles.contents c.self.inside.files)
    (kept_of c.self.inside.next c.self.inside.queue c.self.inside.scrap) c.args.name.now (sym c.has_raw.ensures ∙ c.if-not-has_raw.true))
