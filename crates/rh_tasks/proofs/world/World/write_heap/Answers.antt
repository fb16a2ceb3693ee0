use Rattle.rh_tasks.proofs.Common.{refl, ap, err_from_is_err_and, idle_buffer, kept_of, shown_of}
use Rattle.rh_tasks.specs.BlockBytes.{heap_put, slot_written}
use Rattle.rh_tasks.proofs.BlockWrites.{slot-none, slot-roomed}
use Rattle.rh_tasks.proofs.Calls.{not-idle}
use Rattle.rh_tasks.proofs.SlotCommands.{same_slot, done_reply, buffer-done, buffer-keeps, buffer-refused}
use Rattle.rh_tasks.proofs.world.World.write_heap.Goals as goal

pub returns-in_err-slot : goal.returns-in_err-slot
unfolding heap_put
returns-in_err-slot g c =
    let p = err_from_is_err_and c.from_residual.result c.from_residual.ensures.1 in
    rw (p.1, p.2, ← c.self.view_is) (
      not-idle _ _ _ _ _ _ (idle_buffer c.args.address) (λ free. slot_written c.args.address c.args.offset c.args.bytes.now) same_slot done_reply
          c.in_err-slot.ensures.err,
      refl,
    )

pub returns-in_err-write_in_heap : goal.returns-in_err-write_in_heap
unfolding heap_put
returns-in_err-write_in_heap g c =
    let p = err_from_is_err_and c.from_residual-in_err-write_in_heap.result c.from_residual-in_err-write_in_heap.ensures.1 in
    let same = ap (λ m. shown_of m c.self.inside.seats.items c.self.inside.made.items (g.F.NamedFiles.contents c.self.inside.files)
    (kept_of c.self.inside.next c.self.inside.queue c.self.inside.scrap)) c.in_err-write_in_heap.ensures.err in
    rw (p.1, p.2, ← c.self.view_is) (
      buffer-refused c.self.invariant c.in_ok-slot.ensures.ok.owns (λ free. slot_written c.args.address c.args.offset c.args.bytes.now) c.args.address
          c.in_ok-slot.ensures.ok.idle (slot-none c.args.address c.args.offset c.args.bytes.now _) c.in_err-write_in_heap.ensures,
      same,
    )

pub invariant_of-self-2 : goal.invariant_of-self-2
invariant_of-self-2 g c =
    buffer-keeps c.self.invariant c.in_ok-slot.ensures.ok.owns (λ free. slot_written c.args.address c.args.offset c.args.bytes.now) c.args.address
    c.in_ok-slot.ensures.ok.idle (slot-none c.args.address c.args.offset c.args.bytes.now _) c.in_ok-write_in_heap.ensures
    (λ new is e. slot-roomed _ c.args.address c.args.offset c.args.bytes.now _ new is e)

pub returns : goal.returns
unfolding heap_put
returns g c = rw (← c.self.view_is) (buffer-done c.self.invariant c.in_ok-slot.ensures.ok.owns
    (λ free. slot_written c.args.address c.args.offset c.args.bytes.now) c.args.address c.in_ok-slot.ensures.ok.idle
    (slot-none c.args.address c.args.offset c.args.bytes.now _) c.in_ok-write_in_heap.ensures)
