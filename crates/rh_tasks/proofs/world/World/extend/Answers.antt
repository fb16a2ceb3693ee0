use Rattle.rh_tasks.proofs.Common.{refl, ap, err_from_is_err_and, idle_block, kept_of, shown_of}
use Rattle.rh_defs.specs.declared.command.Command.TheVariants as command
use Rattle.rh_defs.specs.Slot.{slot_extend}
use Rattle.rh_defs.specs.Commands.{extend}
use Rattle.rh_tasks.proofs.Ranges.{extend-anchor}
use Rattle.rh_tasks.proofs.Calls.{not-idle}
use Rattle.rh_tasks.proofs.SlotCommands.{same_slot, done_reply, block-done, block-world, block-refused}
use Rattle.rh_tasks.proofs.world.World.extend.Goals as goal

pub returns-in_err-slot : goal.returns-in_err-slot
unfolding extend
returns-in_err-slot g c =
    let p = err_from_is_err_and c.from_residual.result c.from_residual.ensures.1 in
    rw (p.1, p.2, ← c.self.view_is) (
      not-idle _ _ _ _ _ _ (idle_block c.args.anchor) (λ free. slot_extend free c.args.anchor c.args.size) same_slot done_reply c.in_err-slot.ensures.err,
      refl,
    )

pub idle_slot-requires-clause-anchor : goal.idle_slot-requires-clause-anchor
idle_slot-requires-clause-anchor g c = extend-anchor c.args.name.now c.args.anchor c.args.size c.requires

pub extend-requires-clause-anchor : goal.extend-requires-clause-anchor
extend-requires-clause-anchor g c = extend-anchor c.args.name.now c.args.anchor c.args.size c.requires

pub returns-in_err-extend : goal.returns-in_err-extend
unfolding extend
returns-in_err-extend g c =
    let p = err_from_is_err_and c.from_residual-in_err-extend.result c.from_residual-in_err-extend.ensures.1 in
    let same = ap (λ m. shown_of m c.self.inside.seats.items c.self.inside.made.items (g.F.NamedFiles.contents c.self.inside.files)
    (kept_of c.self.inside.next c.self.inside.queue c.self.inside.scrap)) c.in_err-extend.ensures.err in
    rw (p.1, p.2, ← c.self.view_is) (
      block-refused c.self.invariant c.in_ok-slot.ensures.ok.owns (λ free. slot_extend free c.args.anchor c.args.size) c.args.anchor
          c.in_ok-slot.ensures.ok.granted c.in_err-extend.ensures,
      same,
    )

pub invariant_of-self-2 : goal.invariant_of-self-2
unfolding extend
invariant_of-self-2 g c =
    block-world c.self.invariant c.in_ok-slot.ensures.ok.owns (λ free. slot_extend free c.args.anchor c.args.size) c.args.anchor
    c.in_ok-slot.ensures.ok.granted c.in_ok-extend.ensures (command.Extend c.args.name.now c.args.anchor c.args.size) refl c.requires

pub returns : goal.returns
unfolding extend
returns g c = rw (← c.self.view_is) (block-done c.self.invariant c.in_ok-slot.ensures.ok.owns (λ free. slot_extend free c.args.anchor c.args.size)
    c.args.anchor c.in_ok-slot.ensures.ok.granted c.in_ok-extend.ensures)
