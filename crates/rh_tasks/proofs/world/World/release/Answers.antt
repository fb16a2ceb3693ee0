use Rattle.rh_tasks.proofs.Common.{refl, ap, err_from_is_err_and, idle_buffer, kept_of, shown_of}
use Rattle.rh_defs.specs.declared.command.Command.TheVariants as command
use Rattle.rh_defs.specs.Slot.{slot_release}
use Rattle.rh_defs.specs.Commands.{release}
use Rattle.rh_slot.proofs.CHeapLaws.{slot_release-none}
use Rattle.rh_tasks.proofs.Calls.{not-idle}
use Rattle.rh_tasks.proofs.SlotCommands.{same_slot, done_reply, buffer-done, buffer-world, buffer-refused}
use Rattle.rh_tasks.proofs.world.World.release.Goals as goal

pub returns-in_err-slot : goal.returns-in_err-slot
unfolding release
returns-in_err-slot g c =
    let p = err_from_is_err_and c.from_residual.result c.from_residual.ensures.1 in
    rw (p.1, p.2, ← c.self.view_is)
    (not-idle _ _ _ _ _ _ (idle_buffer c.args.address) (λ free. slot_release c.args.address) same_slot done_reply c.in_err-slot.ensures.err, refl)

pub returns-in_err-release : goal.returns-in_err-release
unfolding release
returns-in_err-release g c =
    let p = err_from_is_err_and c.from_residual-in_err-release.result c.from_residual-in_err-release.ensures.1 in
    let same = ap (λ m. shown_of m c.self.inside.seats.items c.self.inside.made.items (g.F.NamedFiles.contents c.self.inside.files)
    (kept_of c.self.inside.next c.self.inside.queue c.self.inside.scrap)) c.in_err-release.ensures.err in
    rw (p.1, p.2, ← c.self.view_is) (
      buffer-refused c.self.invariant c.in_ok-slot.ensures.ok.owns (λ free. slot_release c.args.address) c.args.address c.in_ok-slot.ensures.ok.idle
          (slot_release-none _ _) c.in_err-release.ensures,
      same,
    )

pub invariant_of-self-2 : goal.invariant_of-self-2
unfolding release
invariant_of-self-2 g c =
    buffer-world c.self.invariant c.in_ok-slot.ensures.ok.owns (λ free. slot_release c.args.address) c.args.address c.in_ok-slot.ensures.ok.idle
    (slot_release-none _ _) c.in_ok-release.ensures (command.Release c.args.name.now c.args.address) refl c.requires

pub returns : goal.returns
unfolding release
returns g c = rw (← c.self.view_is) (buffer-done c.self.invariant c.in_ok-slot.ensures.ok.owns (λ free. slot_release c.args.address) c.args.address
    c.in_ok-slot.ensures.ok.idle (slot_release-none _ _) c.in_ok-release.ensures)
