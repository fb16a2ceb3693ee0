use Rattle.rh_tasks.proofs.Common.{refl, ap, ◌∙◌, sym, arith, err_from_is_err_and, the_module, kept_of, shown_of}
use Rattle.rh_tasks.proofs.Posts.{few-entries, new-handle}
use Rattle.rh_tasks.proofs.Starts.{name-in-use, too-many, no-handles, can-open, no-room, start-done, start-world}
use Rattle.rh_tasks.proofs.world.World.start_task.Goals as goal

pub returns-then-is_name_in_use : goal.returns-then-is_name_in_use
returns-then-is_name_in_use g c =
    rw (← c.self.view_is)
    (name-in-use c.args.name.now c.args.buffer c.args.manner c.self.invariant (sym c.is_name_in_use.ensures ∙ c.if-is_name_in_use.true), refl)

pub returns-then-len-ge-MAX_TASKS : goal.returns-then-len-ge-MAX_TASKS
returns-then-len-ge-MAX_TASKS g c =
    rw (← c.self.view_is) (
      too-many c.args.name.now c.args.buffer c.args.manner c.self.invariant (sym c.is_name_in_use.ensures ∙ c.if-is_name_in_use.false)
          (omega (arith, c.if-len-ge-MAX_TASKS.true)),
      refl,
    )

pub returns-then-self-from : goal.returns-then-self-from
returns-then-self-from g c =
    rw (← c.self.view_is) (
      no-handles c.args.name.now c.args.buffer c.args.manner c.self.invariant (sym c.is_name_in_use.ensures ∙ c.if-is_name_in_use.false)
          (omega (arith, c.if-len-ge-MAX_TASKS.false)) (omega (arith, c.if-self-from.true, c.from.ensures)),
      refl,
    )

pub start-requires : goal.start-requires
start-requires g c =
    can-open c.args.name.now c.args.buffer c.args.manner c.self.invariant (sym c.is_name_in_use.ensures ∙ c.if-is_name_in_use.false)
    (omega (arith, c.if-len-ge-MAX_TASKS.false))

pub returns-in_err-slot : goal.returns-in_err-slot
returns-in_err-slot g c =
    let p = err_from_is_err_and c.from_residual.result c.from_residual.ensures.1 in
    let same = ap (λ m. shown_of m c.self.inside.seats.items c.self.inside.made.items (g.F.NamedFiles.contents c.self.inside.files)
    (kept_of c.self.inside.next c.self.inside.queue c.self.inside.scrap)) c.in_err-slot.ensures.err in
    rw (p.1, p.2, ← c.self.view_is) (
      no-room c.args.name.now c.args.buffer c.args.manner c.self.invariant (sym c.is_name_in_use.ensures ∙ c.if-is_name_in_use.false)
          (omega (arith, c.if-len-ge-MAX_TASKS.false)) (omega (arith, c.if-self-from.false, c.from.ensures)) c.in_err-slot.ensures.answer,
      same,
    )

pub join-requires-clause-few : goal.join-requires-clause-few
join-requires-clause-few g c = omega (arith, few-entries c.self.invariant, c.if-len-ge-MAX_TASKS.false)

pub join-requires-clause-new : goal.join-requires-clause-new
join-requires-clause-new g c = new-handle c.self.invariant

pub invariant_of-self-2 : goal.invariant_of-self-2
invariant_of-self-2 g c =
    let e = c.in_ok-slot.ensures in
    rw (c.push.ensures.items, c.copied.ensures, c.new-sending.ensures, c.new-taking.ensures, c.join.ensures.entries) (
    start-world c.args.name.now c.args.buffer c.args.manner c.self.invariant (sym c.is_name_in_use.ensures ∙ c.if-is_name_in_use.false)
    (omega (arith, c.if-len-ge-MAX_TASKS.false)) (omega (arith, c.if-self-from.false, c.from.ensures))
    c.in_ok-slot.slot e.slot e.answer e.closed e.number e.only e.still (rw (c.join.ensures.entries) at c.join.ensures.still _ the_module) c.requires)

pub returns : goal.returns
returns g c =
    let e = c.in_ok-slot.ensures in
    rw (← c.self.view_is, c.push.ensures.items, c.copied.ensures, c.new-sending.ensures, c.new-taking.ensures, c.join.ensures.entries) (
    start-done c.args.name.now c.args.buffer c.args.manner c.self.invariant (sym c.is_name_in_use.ensures ∙ c.if-is_name_in_use.false)
    (omega (arith, c.if-len-ge-MAX_TASKS.false)) (omega (arith, c.if-self-from.false, c.from.ensures))
    c.in_ok-slot.slot e.slot e.answer e.closed e.number e.only e.still
    )
