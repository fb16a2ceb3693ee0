use Rattle.rh_tasks.proofs.Common.{◌+◌, ◌-◌, refl, ap, ◌∙◌, arith, w32, to_z-of_z, err_from_is_err_and, module_resize, module_start, kept_of, shown_of, ends}
use Rattle.rh_tasks.proofs.Common.{module-granted}
use Rattle.rh_defs.specs.declared.command.Command.TheVariants as command
use Rattle.rh_defs.specs.declared.reply.Reply.TheVariants as reply
use Rattle.rh_defs.specs.Commands.{rma_resize}
use Rattle.rh_tasks.proofs.Addresses.{grant-of, module_resize-low}
use Rattle.rh_tasks.proofs.ModuleCommands.{resizes, resize-none, own-is, area-refused, area-done, area-world}
use Rattle.rh_tasks.proofs.world.World.rma_resize.Goals as goal

pub returns-in_err-place : goal.returns-in_err-place
unfolding rma_resize
returns-in_err-place g c =
    let p = err_from_is_err_and c.from_residual.result c.from_residual.ensures.1 in
    rw (p.1, p.2) (ends _ c.in_err-place.ensures.err, refl)

pub returns-in_err-address : goal.returns-in_err-address
unfolding rma_resize
returns-in_err-address g c =
    let p = err_from_is_err_and c.from_residual-in_err-address.result c.from_residual-in_err-address.ensures.1 in
    let same = ap (λ m. shown_of m c.self.inside.seats.items c.self.inside.made.items (g.F.NamedFiles.contents c.self.inside.files)
    (kept_of c.self.inside.next c.self.inside.queue c.self.inside.scrap)) c.in_err-address.ensures.err in
    rw (p.1, p.2, ← c.self.view_is) (
      own-is c.self.invariant (λ free. module_resize free (c.args.address - module_start) c.args.delta) (λ a. reply.Block (module_start + a)) (resizes
          c.self.invariant c.args.address (rw (← c.self.view_is) at c.in_ok-place.ensures.ok.1) c.args.delta) c.args.address (rw (← c.self.view_is) at
          c.in_ok-place.ensures.ok.1) (resize-none _ _ _ _) ∙ area-refused c.self.invariant (λ free. module_resize free (c.args.address - module_start)
          c.args.delta) (λ a. reply.Block (module_start + a)) (resizes c.self.invariant c.args.address (rw (← c.self.view_is) at c.in_ok-place.ensures.ok.1)
          c.args.delta) (rw (c.in_ok-place.ensures.ok.0) at (rw (to_z-of_z w32 c.args.delta c.ranges.delta) at c.in_err-address.ensures)),
      same,
    )

pub overflow_add-result : goal.overflow_add-result
overflow_add-result g c =
    let low = grant-of (module_resize-low _ _ _ _) (module-granted (rw (c.in_ok-place.ensures.ok.0) at
    (rw (to_z-of_z w32 c.args.delta c.ranges.delta) at c.in_ok-address.ensures))) in
    let is = c.self.invariant.areas.module_area in
    omega (arith, low, is.spells.whole, is.spells.spells.heap.fits, g.met.S.Words.small c.self.inside.store 1)

pub overflow_cast-result : goal.overflow_cast-result
overflow_cast-result g c =
    let low = grant-of (module_resize-low _ _ _ _) (module-granted (rw (c.in_ok-place.ensures.ok.0) at
    (rw (to_z-of_z w32 c.args.delta c.ranges.delta) at c.in_ok-address.ensures))) in
    let is = c.self.invariant.areas.module_area in
    omega (arith, low, is.spells.whole, is.spells.spells.heap.fits, g.met.S.Words.small c.self.inside.store 1)

pub invariant_of-self-2 : goal.invariant_of-self-2
unfolding rma_resize
invariant_of-self-2 g c = (
    area-world c.self.invariant (λ free. module_resize free (c.args.address - module_start) c.args.delta) (λ a. reply.Block (module_start + a))
    (resizes c.self.invariant c.args.address (rw (← c.self.view_is) at c.in_ok-place.ensures.ok.1) c.args.delta)
    (rw (c.in_ok-place.ensures.ok.0) at (rw (to_z-of_z w32 c.args.delta c.ranges.delta) at c.in_ok-address.ensures))
    (command.RmaResize c.args.address c.args.delta) (own-is c.self.invariant (λ free. module_resize free (c.args.address - module_start) c.args.delta)
    (λ a. reply.Block (module_start + a)) (resizes c.self.invariant c.args.address (rw (← c.self.view_is) at c.in_ok-place.ensures.ok.1) c.args.delta)
    c.args.address (rw (← c.self.view_is) at c.in_ok-place.ensures.ok.1) (resize-none _ _ _ _)) c.requires (g.met.S.Paged.whole c.resize.new.store 1))

pub returns : goal.returns
unfolding rma_resize
returns g c = rw (← c.self.view_is) (own-is c.self.invariant (λ free. module_resize free (c.args.address - module_start) c.args.delta)
    (λ a. reply.Block (module_start + a)) (resizes c.self.invariant c.args.address (rw (← c.self.view_is) at c.in_ok-place.ensures.ok.1) c.args.delta)
    c.args.address (rw (← c.self.view_is) at c.in_ok-place.ensures.ok.1) (resize-none _ _ _ _)
    ∙ area-done c.self.invariant (λ free. module_resize free (c.args.address - module_start) c.args.delta) (λ a. reply.Block (module_start + a))
    (resizes c.self.invariant c.args.address (rw (← c.self.view_is) at c.in_ok-place.ensures.ok.1) c.args.delta)
    (rw (c.in_ok-place.ensures.ok.0) at (rw (to_z-of_z w32 c.args.delta c.ranges.delta) at c.in_ok-address.ensures)))
