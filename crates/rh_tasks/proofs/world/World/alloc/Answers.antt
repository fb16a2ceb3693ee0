use Rattle.rh_tasks.proofs.Common.{refl, ap, arith, err_from_is_err_and, slot_alloc, kept_of, shown_of, ends, nobody, owned, granted}
use Rattle.rh_defs.specs.declared.command.Command.TheVariants as command
use Rattle.rh_defs.specs.Commands.{alloc}
use Rattle.rh_tasks.proofs.Ranges.{alloc-anchor}
use Rattle.rh_tasks.proofs.Addresses.{grant-of, slot_alloc-low}
use Rattle.rh_tasks.proofs.SlotCommands.{placed-done, placed-world, placed-refused}
use Rattle.rh_tasks.proofs.world.World.alloc.Goals as goal

pub returns-in_err-slot : goal.returns-in_err-slot
unfolding alloc
returns-in_err-slot g c =
    let p = err_from_is_err_and c.from_residual.result c.from_residual.ensures.1 in
    rw (p.1, p.2, c.in_err-slot.ensures.err.0, ← c.self.view_is) (ends _ (nobody _ _ _ _ _ _ c.in_err-slot.ensures.err.1), refl)

pub alloc-requires-clause-anchor : goal.alloc-requires-clause-anchor
alloc-requires-clause-anchor g c = alloc-anchor c.args.name.now c.args.anchor c.args.size c.requires

pub returns-in_err-address : goal.returns-in_err-address
unfolding alloc
returns-in_err-address g c =
    let p = err_from_is_err_and c.from_residual-in_err-address.result c.from_residual-in_err-address.ensures.1 in
    let same = ap (λ m. shown_of m c.self.inside.seats.items c.self.inside.made.items (g.F.NamedFiles.contents c.self.inside.files)
    (kept_of c.self.inside.next c.self.inside.queue c.self.inside.scrap)) c.in_err-address.ensures.err in
    rw (p.1, p.2, ← c.self.view_is)
    (placed-refused c.self.invariant c.in_ok-slot.ensures.ok (λ free. slot_alloc free c.args.anchor c.args.size) c.in_err-address.ensures, same)

pub overflow_cast-result : goal.overflow_cast-result
overflow_cast-result g c =
    let is = owned c.self.invariant c.in_ok-slot.ensures.ok in
    let low = grant-of (slot_alloc-low _ _ _ _) (granted c.in_ok-address.ensures) in
    omega (
      arith,
      low,
      is.spells.words.within,
      is.spells.words.heap.within,
      is.spells.words.heap.heap.fits,
      g.met.S.Words.small c.self.inside.store c.in_ok-slot.slot.area.0,
    )

pub invariant_of-self-2 : goal.invariant_of-self-2
unfolding alloc
invariant_of-self-2 g c =
    placed-world c.self.invariant c.in_ok-slot.ensures.ok (λ free. slot_alloc free c.args.anchor c.args.size) c.in_ok-address.ensures
    (command.Alloc c.args.name.now c.args.anchor c.args.size) refl c.requires

pub returns : goal.returns
unfolding alloc
returns g c =
    rw (← c.self.view_is) (placed-done c.self.invariant c.in_ok-slot.ensures.ok (λ free. slot_alloc free c.args.anchor c.args.size) c.in_ok-address.ensures)
