use Rattle.rh_tasks.proofs.Common.{refl, ap, arith, w32, to_z-of_z, err_from_is_err_and, None, idle_buffer, kept_of, shown_of, owned, granted}
use Rattle.rh_defs.specs.declared.command.Command.TheVariants as command
use Rattle.rh_defs.specs.declared.heap.HeapRefusal.TheVariants.{NotABlock}
use Rattle.rh_defs.specs.Slot.{slot_resize}
use Rattle.rh_defs.specs.Commands.{resize}
use Rattle.rh_slot.proofs.CHeapLaws.{resize_refused}
use Rattle.rh_tasks.proofs.Addresses.{grant-of, slot_resize-low}
use Rattle.rh_tasks.proofs.Calls.{not-idle}
use Rattle.rh_tasks.proofs.SlotCommands.{placed_slot, placed_reply, moved-done, moved-world, moved-refused}
use Rattle.rh_tasks.proofs.world.World.resize.Goals as goal

pub returns-in_err-slot : goal.returns-in_err-slot
unfolding resize
returns-in_err-slot g c =
    let p = err_from_is_err_and c.from_residual.result c.from_residual.ensures.1 in
    rw (p.1, p.2, ← c.self.view_is) (
      not-idle _ _ _ _ _ _ (idle_buffer c.args.address) (λ free. slot_resize free c.args.address c.args.delta) placed_slot placed_reply
          c.in_err-slot.ensures.err,
      refl,
    )

pub returns-in_err-address : goal.returns-in_err-address
unfolding resize
returns-in_err-address g c =
    let p = err_from_is_err_and c.from_residual-in_err-address.result c.from_residual-in_err-address.ensures.1 in
    let same = ap (λ m. shown_of m c.self.inside.seats.items c.self.inside.made.items (g.F.NamedFiles.contents c.self.inside.files)
    (kept_of c.self.inside.next c.self.inside.queue c.self.inside.scrap)) c.in_err-address.ensures.err in
    rw (p.1, p.2, ← c.self.view_is) (
      moved-refused c.self.invariant c.in_ok-slot.ensures.ok.owns (λ free. slot_resize free c.args.address c.args.delta) c.args.address
          c.in_ok-slot.ensures.ok.idle (λ e. resize_refused _ _ _ _ None NotABlock e refl)
          (rw (to_z-of_z w32 c.args.delta c.ranges.delta) at c.in_err-address.ensures),
      same,
    )

pub overflow_cast-result : goal.overflow_cast-result
overflow_cast-result g c =
    let is = owned c.self.invariant c.in_ok-slot.ensures.ok.owns in
    let low = grant-of (slot_resize-low _ _ _ _) (granted (rw (to_z-of_z w32 c.args.delta c.ranges.delta) at c.in_ok-address.ensures)) in
    omega (
      arith,
      low,
      is.spells.words.within,
      is.spells.words.heap.within,
      is.spells.words.heap.heap.fits,
      g.met.S.Words.small c.self.inside.store c.in_ok-slot.slot.area.0,
    )

pub invariant_of-self-2 : goal.invariant_of-self-2
unfolding resize
invariant_of-self-2 g c =
    moved-world c.self.invariant c.in_ok-slot.ensures.ok.owns (λ free. slot_resize free c.args.address c.args.delta) c.args.address
    c.in_ok-slot.ensures.ok.idle (λ e. resize_refused _ _ _ _ None NotABlock e refl)
    (rw (to_z-of_z w32 c.args.delta c.ranges.delta) at c.in_ok-address.ensures) (command.Resize c.args.name.now c.args.address c.args.delta) refl
    c.requires

pub returns : goal.returns
unfolding resize
returns g c = rw (← c.self.view_is) (moved-done c.self.invariant c.in_ok-slot.ensures.ok.owns (λ free. slot_resize free c.args.address c.args.delta)
    c.args.address c.in_ok-slot.ensures.ok.idle (λ e. resize_refused _ _ _ _ None NotABlock e refl)
    (rw (to_z-of_z w32 c.args.delta c.ranges.delta) at c.in_ok-address.ensures))
