use Rattle.rh_tasks.proofs.Common.{refl, ap, arith, w32, to_z-of_z, err_from_is_err_and, module_change, kept_of, shown_of, module-granted}
use Rattle.rh_defs.specs.declared.command.Command.TheVariants as command
use Rattle.rh_defs.specs.declared.reply.Reply.TheVariants as reply
use Rattle.rh_defs.specs.Commands.{change_module}
use Rattle.rh_tasks.proofs.Addresses.{grant-of, module_change-moves, whole_pages-small}
use Rattle.rh_tasks.proofs.ModuleCommands.{changes, area-refused, area-done, area-world}
use Rattle.rh_tasks.proofs.world.World.change_module.Goals as goal

pub returns-in_err-moved : goal.returns-in_err-moved
unfolding change_module
returns-in_err-moved g c =
    let p = err_from_is_err_and c.from_residual.result c.from_residual.ensures.1 in
    let same = ap (λ m. shown_of m c.self.inside.seats.items c.self.inside.made.items (g.F.NamedFiles.contents c.self.inside.files)
    (kept_of c.self.inside.next c.self.inside.queue c.self.inside.scrap)) c.in_err-moved.ensures.err in
    rw (p.1, p.2, ← c.self.view_is) (
      area-refused c.self.invariant (λ free. module_change free c.args.delta) (λ n. reply.Moved n) (changes c.self.invariant c.args.delta) (rw (to_z-of_z
          w32 c.args.delta c.ranges.delta) at c.in_err-moved.ensures),
      same,
    )

pub overflow_cast-result : goal.overflow_cast-result
overflow_cast-result g c =
    omega (
      arith,
      grant-of (module_change-moves _ _ _) (module-granted (rw (to_z-of_z w32 c.args.delta c.ranges.delta) at c.in_ok-moved.ensures)),
      whole_pages-small c.args.delta c.ranges.delta,
    )

pub invariant_of-self-2 : goal.invariant_of-self-2
unfolding change_module
invariant_of-self-2 g c = (
    area-world c.self.invariant (λ free. module_change free c.args.delta) (λ n. reply.Moved n) (changes c.self.invariant c.args.delta)
    (rw (to_z-of_z w32 c.args.delta c.ranges.delta) at c.in_ok-moved.ensures) (command.Area 1 c.args.delta) refl c.requires
    (g.met.S.Paged.whole c.change.new.store 1))

pub returns : goal.returns
unfolding change_module
returns g c = rw (← c.self.view_is) (area-done c.self.invariant (λ free. module_change free c.args.delta) (λ n. reply.Moved n)
    (changes c.self.invariant c.args.delta) (rw (to_z-of_z w32 c.args.delta c.ranges.delta) at c.in_ok-moved.ensures))
