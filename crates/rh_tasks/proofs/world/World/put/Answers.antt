use Rattle.rh_tasks.proofs.Common.{refl, ap, err_from_is_err_and, slot_put, idle_block, kept_of, shown_of}
use Rattle.rh_defs.specs.declared.command.Command.TheVariants as command
use Rattle.rh_defs.specs.Commands.{put}
use Rattle.rh_tasks.proofs.Ranges.{put-anchor}
use Rattle.rh_tasks.proofs.Calls.{not-idle}
use Rattle.rh_tasks.proofs.SlotCommands.{same_slot, done_reply, block-done, block-world, block-refused}
use Rattle.rh_tasks.proofs.world.World.put.Goals as goal

pub returns-in_err-slot : goal.returns-in_err-slot
unfolding put
returns-in_err-slot g c =
    let p = err_from_is_err_and c.from_residual.result c.from_residual.ensures.1 in
    rw (p.1, p.2, ← c.self.view_is) (
      not-idle _ _ _ _ _ _ (idle_block c.args.anchor) (λ free. slot_put c.args.anchor c.args.offset c.args.bytes.now) same_slot done_reply
          c.in_err-slot.ensures.err,
      refl,
    )

pub idle_slot-requires-clause-anchor : goal.idle_slot-requires-clause-anchor
idle_slot-requires-clause-anchor g c = put-anchor c.args.name.now c.args.anchor c.args.offset c.args.bytes.now c.requires

pub put-requires-clause-anchor : goal.put-requires-clause-anchor
put-requires-clause-anchor g c = put-anchor c.args.name.now c.args.anchor c.args.offset c.args.bytes.now c.requires

pub returns-in_err-put : goal.returns-in_err-put
unfolding put
returns-in_err-put g c =
    let p = err_from_is_err_and c.from_residual-in_err-put.result c.from_residual-in_err-put.ensures.1 in
    let same = ap (λ m. shown_of m c.self.inside.seats.items c.self.inside.made.items (g.F.NamedFiles.contents c.self.inside.files)
    (kept_of c.self.inside.next c.self.inside.queue c.self.inside.scrap)) c.in_err-put.ensures.err in
    rw (p.1, p.2, ← c.self.view_is) (
      block-refused c.self.invariant c.in_ok-slot.ensures.ok.owns (λ free. slot_put c.args.anchor c.args.offset c.args.bytes.now) c.args.anchor
          c.in_ok-slot.ensures.ok.granted c.in_err-put.ensures,
      same,
    )

pub invariant_of-self-2 : goal.invariant_of-self-2
unfolding put
invariant_of-self-2 g c =
    block-world c.self.invariant c.in_ok-slot.ensures.ok.owns (λ free. slot_put c.args.anchor c.args.offset c.args.bytes.now) c.args.anchor
    c.in_ok-slot.ensures.ok.granted c.in_ok-put.ensures (command.Put c.args.name.now c.args.anchor c.args.offset c.args.bytes.now) refl c.requires

pub returns : goal.returns
unfolding put
returns g c = rw (← c.self.view_is) (block-done c.self.invariant c.in_ok-slot.ensures.ok.owns (λ free. slot_put c.args.anchor c.args.offset c.args.bytes.now)
    c.args.anchor c.in_ok-slot.ensures.ok.granted c.in_ok-put.ensures)
