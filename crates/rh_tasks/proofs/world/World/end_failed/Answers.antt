use Rattle.std.proofs.Common.{rules}
use Rattle.rh_ram.specs.Told.{after_failure}
use Rattle.rh_tasks.proofs.Places.{member-at}
use Rattle.rh_tasks.proofs.Dues.{still-takes}
use Rattle.rh_tasks.proofs.Takings.{inside, stands-dropped, dropped-records, ended-is}
use Rattle.rh_tasks.proofs.world.World.end_failed.Goals as goal

pub edit_taking-requires-clause-place : goal.edit_taking-requires-clause-place
edit_taking-requires-clause-place g c =
    let t = member-at c.args.self.now.desk.tasks c.args.i c.requires.place in
    inside (stands-dropped c.args.self.now.desk c.drop_buffer.new.self.desk c.args.i t.0.handle c.args.f.now.buffer t.0 (c.drop_buffer.ensures t.0 t.1) t.1)

pub edit_taking-requires-clause-taken : goal.edit_taking-requires-clause-taken
edit_taking-requires-clause-taken g c =
    let t = member-at c.args.self.now.desk.tasks c.args.i c.requires.place in
    let due = still-takes (dropped-records t.0.handle c.args.f.now.buffer (c.drop_buffer.ensures t.0 t.1)) c.args.i c.args.action.now c.requires.due in
    λ u there said new p. let is = due u there in search rules

pub returns : goal.returns
returns g c t at =
    ended-is c.args.self.now.desk c.drop_buffer.new.self.desk c.edit_taking.new.self.desk c.args.i c.args.f.now
    (after_failure c.args.action.now c.args.kept) t at (c.drop_buffer.ensures t at)
    (λ u there. c.edit_taking.ensures u (after_failure c.args.action.now c.args.kept) there (λ new p. search rules))
