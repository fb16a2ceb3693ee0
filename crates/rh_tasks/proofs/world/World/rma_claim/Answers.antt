use Rattle.rh_tasks.proofs.Common.{◌+◌, refl, ap, arith, err_from_is_err_and, module_claim, module_start, kept_of, shown_of, module-granted}
use Rattle.rh_defs.specs.declared.command.Command.TheVariants as command
use Rattle.rh_defs.specs.declared.reply.Reply.TheVariants as reply
use Rattle.rh_defs.specs.Commands.{rma_claim}
use Rattle.rh_tasks.proofs.Addresses.{grant-of, module_claim-low}
use Rattle.rh_tasks.proofs.ModuleCommands.{claims, area-refused, area-done, area-world}
use Rattle.rh_tasks.proofs.world.World.rma_claim.Goals as goal

pub returns-in_err-address : goal.returns-in_err-address
unfolding rma_claim
returns-in_err-address g c =
    let p = err_from_is_err_and c.from_residual.result c.from_residual.ensures.1 in
    let same = ap (λ m. shown_of m c.self.inside.seats.items c.self.inside.made.items (g.F.NamedFiles.contents c.self.inside.files)
    (kept_of c.self.inside.next c.self.inside.queue c.self.inside.scrap)) c.in_err-address.ensures.err in
    rw (p.1, p.2, ← c.self.view_is) (
      area-refused c.self.invariant (λ free. module_claim free c.args.size) (λ a. reply.Block (module_start + a)) (claims c.self.invariant c.args.size)
          c.in_err-address.ensures,
      same,
    )

pub overflow_add-result : goal.overflow_add-result
overflow_add-result g c =
    let low = grant-of (module_claim-low _ _ _) (module-granted c.in_ok-address.ensures) in
    let is = c.self.invariant.areas.module_area in
    omega (arith, low, is.spells.whole, is.spells.spells.heap.fits, g.met.S.Words.small c.self.inside.store 1)

pub overflow_cast-result : goal.overflow_cast-result
overflow_cast-result g c =
    let low = grant-of (module_claim-low _ _ _) (module-granted c.in_ok-address.ensures) in
    let is = c.self.invariant.areas.module_area in
    omega (arith, low, is.spells.whole, is.spells.spells.heap.fits, g.met.S.Words.small c.self.inside.store 1)

pub invariant_of-self-2 : goal.invariant_of-self-2
unfolding rma_claim
invariant_of-self-2 g c = (
    area-world c.self.invariant (λ free. module_claim free c.args.size) (λ a. reply.Block (module_start + a)) (claims c.self.invariant c.args.size)
    c.in_ok-address.ensures (command.RmaClaim c.args.size) refl c.requires (g.met.S.Paged.whole c.claim.new.store 1))

pub returns : goal.returns
unfolding rma_claim
returns g c = rw (← c.self.view_is) (area-done c.self.invariant (λ free. module_claim free c.args.size) (λ a. reply.Block (module_start + a))
    (claims c.self.invariant c.args.size) c.in_ok-address.ensures)
