use Rattle.std.proofs.Common.{rules}
use Rattle.rh_tasks.proofs.Common.{refl, sym, ap, subst, ◌∙◌, ◌<◌, length, bytes, Desk, Scrap, Shown, scrap_from, member-at, reordered-refl}
use Rattle.rh_defs.specs.declared.transfer_action.TakeAction.TheVariants as take
use Rattle.rh_tasks.specs.Inner.PollSteps.{CanTake}
use Rattle.rh_tasks.proofs.Places.{same-at}
use Rattle.rh_tasks.proofs.Writes.{alike-both}
use Rattle.rh_tasks.proofs.Dues.{records_of, same-records, still-takes}
use Rattle.rh_tasks.proofs.Takings.{appended-records}
use Rattle.rh_tasks.proofs.Scraps.{seen-desk, seen-nothing, seen-file, seen-size}
use Rattle.rh_tasks.proofs.ScrapTransfers.{as-after, not-true, not-false, at-inside, appended-at, load-nothing, load-other, load-loaded, load-failed}
use Rattle.rh_ram.specs.Told.{after_failure}
use Rattle.rh_tasks.proofs.world.World.load_file.Goals as goal

pub returns-in_default : goal.returns-in_default
returns-in_default g c = λ t at.
    as-after (load-nothing c.args.self.now.desk t c.args.a.now (seen-nothing c.self.invariant c.self.view_is c.in_default.is))
    (refl, reordered-refl c.args.self.now.desk)

pub returns-then-ne : goal.returns-then-ne
returns-then-ne g c =
    let w = c.self.invariant in
    let f = c.in-Some.file in
    let file : Scrap = scrap_from (bytes (g.S.Words.memory c.self.inside.store) 5) f in
    λ t at.
    as-after (load-other c.args.self.now.desk t c.args.a.now file (seen-file w c.self.view_is f c.in-Some.is)
    (not-true _ (sym c.ne.ensures ∙ c.if-ne.true)))
    (refl, reordered-refl c.args.self.now.desk)

pub loaded-requires-clause-place : goal.loaded-requires-clause-place
loaded-requires-clause-place g c =
    let w = c.self.invariant in
    let f = c.in-Some.file in
    let file : Scrap = scrap_from (bytes (g.S.Words.memory c.self.inside.store) 5) f in
    let has = seen-file w c.self.view_is f c.in-Some.is in
    let there = member-at c.args.self.now.desk.tasks c.args.i c.requires.place in
    let mid : Desk = c.append_scrap.new.self.desk in
    let s = appended-at c.args.self.now.desk mid c.args.i there.0 c.args.a.now.transfer.anchor file.bytes (seen-desk w c.self.view_is) there.1
    (c.in-Ok.ensures there.0 file there.1 has) in
    at-inside c.drop_scrap.new.self.desk c.args.i _ (same-at mid c.drop_scrap.new.self.desk c.args.i _ (ap (λ (x : Desk). x.tasks) c.drop_scrap.ensures) s.at)

pub loaded-requires-clause-due : goal.loaded-requires-clause-due
loaded-requires-clause-due g c =
    let w = c.self.invariant in
    let f = c.in-Some.file in
    let file : Scrap = scrap_from (bytes (g.S.Words.memory c.self.inside.store) 5) f in
    let has = seen-file w c.self.view_is f c.in-Some.is in
    let there = member-at c.args.self.now.desk.tasks c.args.i c.requires.place in
    let mid : Desk = c.append_scrap.new.self.desk in
    still-takes (alike-both records_of (appended-records c.args.self.now.desk mid there.0 c.args.a.now.transfer.anchor file.bytes
    (c.in-Ok.ensures there.0 file there.1 has))
    (same-records mid c.drop_scrap.new.self.desk (ap (λ (x : Desk). x.tasks) c.drop_scrap.ensures))) c.args.i (take.LoadFile c.args.a.now) c.requires.due

pub edit_taking-requires-clause-place : goal.edit_taking-requires-clause-place
edit_taking-requires-clause-place g c =
    let w = c.self.invariant in
    let f = c.in-Some.file in
    let file : Scrap = scrap_from (bytes (g.S.Words.memory c.self.inside.store) 5) f in
    let has = seen-file w c.self.view_is f c.in-Some.is in
    let there = member-at c.args.self.now.desk.tasks c.args.i c.requires.place in
    let stays = (c.in-Err.ensures there.0 file there.1 has).1 in
    subst (λ (x : Shown). c.args.i < length x.desk.tasks) (sym stays) c.requires.place

pub edit_taking-requires-clause-taken : goal.edit_taking-requires-clause-taken
edit_taking-requires-clause-taken g c =
    let w = c.self.invariant in
    let f = c.in-Some.file in
    let file : Scrap = scrap_from (bytes (g.S.Words.memory c.self.inside.store) 5) f in
    let has = seen-file w c.self.view_is f c.in-Some.is in
    let there = member-at c.args.self.now.desk.tasks c.args.i c.requires.place in
    let stays = (c.in-Err.ensures there.0 file there.1 has).1 in
    let due = subst (λ (x : Shown). CanTake c.args.i (take.LoadFile c.args.a.now) x.desk) (sym stays) c.requires.due in
    λ u there said new p. let is = due u there in search rules

pub returns-in-Ok : goal.returns-in-Ok
returns-in-Ok g c =
    let w = c.self.invariant in
    let f = c.in-Some.file in
    let file : Scrap = scrap_from (bytes (g.S.Words.memory c.self.inside.store) 5) f in
    let has = seen-file w c.self.view_is f c.in-Some.is in
    λ t at.
    load-loaded c.args.self.now.desk t c.args.a.now file has (not-false _ (sym c.ne.ensures ∙ c.if-ne.false)) c.args.i f.size
    (seen-desk w c.self.view_is) at (c.in-Ok.ensures t file at has) c.drop_scrap.ensures (seen-size w c.self.view_is f c.in-Some.is) c.loaded.ensures

pub returns-in-Err : goal.returns-in-Err
returns-in-Err g c =
    let w = c.self.invariant in
    let f = c.in-Some.file in
    let file : Scrap = scrap_from (bytes (g.S.Words.memory c.self.inside.store) 5) f in
    let has = seen-file w c.self.view_is f c.in-Some.is in
    λ t at.
    let failed = c.in-Err.ensures t file at has in
    load-failed c.args.self.now.desk t c.args.a.now file has (not-false _ (sym c.ne.ensures ∙ c.if-ne.false)) c.args.i at failed.0
    (ap (λ (x : Shown). x.desk) failed.1) (λ u there. c.edit_taking.ensures u (after_failure (take.LoadFile c.args.a.now) 0) there (λ new p. search rules))
