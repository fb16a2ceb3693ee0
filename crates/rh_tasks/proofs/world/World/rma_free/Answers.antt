use Rattle.rh_tasks.proofs.Common.{◌-◌, refl, ap, ◌∙◌, err_from_is_err_and, no_answer, module_start, kept_of, shown_of, ends}
use Rattle.rh_defs.specs.declared.command.Command.TheVariants as command
use Rattle.rh_defs.specs.declared.reply.Reply.TheVariants as reply
use Rattle.rh_defs.specs.Module.{module_free}
use Rattle.rh_defs.specs.Commands.{rma_free}
use Rattle.rh_tasks.proofs.ModuleCommands.{frees, free-none, own-unanswered, own-is, area-refused, area-done, area-world}
use Rattle.rh_tasks.proofs.world.World.rma_free.Goals as goal

pub returns-in_err-place : goal.returns-in_err-place
unfolding rma_free
returns-in_err-place g c =
    let p = err_from_is_err_and c.from_residual.result c.from_residual.ensures.1 in
    rw (p.1, p.2) (ends _ c.in_err-place.ensures.err, refl)

pub returns-in_err-free : goal.returns-in_err-free
unfolding rma_free
returns-in_err-free g c =
    let p = err_from_is_err_and c.from_residual-in_err-free.result c.from_residual-in_err-free.ensures.1 in
    let same = ap (λ m. shown_of m c.self.inside.seats.items c.self.inside.made.items (g.F.NamedFiles.contents c.self.inside.files)
    (kept_of c.self.inside.next c.self.inside.queue c.self.inside.scrap)) c.in_err-free.ensures.err in
    rw (p.1, p.2, ← c.self.view_is) (
      own-unanswered c.args.address (module_free (c.args.address - module_start)) reply.Done _ ∙ own-is c.self.invariant (λ free h. no_answer (module_free
          (c.args.address - module_start) h)) (λ a. reply.Done) (frees c.self.invariant c.args.address (rw (← c.self.view_is) at
          c.in_ok-place.ensures.ok.1)) c.args.address (rw (← c.self.view_is) at c.in_ok-place.ensures.ok.1) (free-none _ _)
          ∙ area-refused c.self.invariant (λ free h. no_answer (module_free (c.args.address - module_start) h)) (λ a. reply.Done)
          (frees c.self.invariant c.args.address (rw (← c.self.view_is) at c.in_ok-place.ensures.ok.1))
          (rw (c.in_ok-place.ensures.ok.0) at c.in_err-free.ensures),
      same,
    )

pub invariant_of-self-2 : goal.invariant_of-self-2
unfolding rma_free
invariant_of-self-2 g c = (
    area-world c.self.invariant (λ free h. no_answer (module_free (c.args.address - module_start) h)) (λ a. reply.Done)
    (frees c.self.invariant c.args.address (rw (← c.self.view_is) at c.in_ok-place.ensures.ok.1))
    (rw (c.in_ok-place.ensures.ok.0) at c.in_ok-free.ensures) (command.RmaFree c.args.address)
    (own-unanswered c.args.address (module_free (c.args.address - module_start)) reply.Done _
    ∙ own-is c.self.invariant (λ free h. no_answer (module_free (c.args.address - module_start) h)) (λ a. reply.Done)
    (frees c.self.invariant c.args.address (rw (← c.self.view_is) at c.in_ok-place.ensures.ok.1)) c.args.address
    (rw (← c.self.view_is) at c.in_ok-place.ensures.ok.1) (free-none _ _)) c.requires (g.met.S.Paged.whole c.free.new.store 1))

pub returns : goal.returns
unfolding rma_free
returns g c = rw (← c.self.view_is) (own-unanswered c.args.address (module_free (c.args.address - module_start)) reply.Done _
    ∙ own-is c.self.invariant (λ free h. no_answer (module_free (c.args.address - module_start) h)) (λ a. reply.Done)
    (frees c.self.invariant c.args.address (rw (← c.self.view_is) at c.in_ok-place.ensures.ok.1)) c.args.address
    (rw (← c.self.view_is) at c.in_ok-place.ensures.ok.1) (free-none _ _)
    ∙ area-done c.self.invariant (λ free h. no_answer (module_free (c.args.address - module_start) h)) (λ a. reply.Done)
    (frees c.self.invariant c.args.address (rw (← c.self.view_is) at c.in_ok-place.ensures.ok.1)) (rw (c.in_ok-place.ensures.ok.0) at c.in_ok-free.ensures))
