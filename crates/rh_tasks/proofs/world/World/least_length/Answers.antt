use Rattle.rh_tasks.proofs.Common.{sym, ◌∙◌, Desk, kept_of, desk_of}
use Rattle.rh_tasks.proofs.AreaCommands.{file-length, least-other, least-here}
use Rattle.rh_tasks.proofs.world.World.least_length.Goals as goal

pub returns-then-number-from : goal.returns-then-number-from
returns-then-number-from g c = sym (least-other c.args.self.now.desk c.args.number (rw c.from.ensures at c.if-number-from.true))

pub returns : goal.returns
returns g c =
    let m = g.S.Words.memory c.self.inside.store in
    let d : Desk = desk_of m c.self.inside.seats.items c.self.inside.made.items (g.F.NamedFiles.contents c.self.inside.files)
    (kept_of c.self.inside.next c.self.inside.queue c.self.inside.scrap) in
    rw (← c.self.view_is) (c.scrap_size.ensures ∙ sym (least-here d c.args.number (rw c.from.ensures at c.if-number-from.false)
    ∙ file-length m c.self.inside.scrap c.self.invariant.scrap))
