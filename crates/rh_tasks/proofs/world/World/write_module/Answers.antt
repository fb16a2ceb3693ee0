use Rattle.rh_tasks.proofs.Common.{◌-◌, refl, ap, ◌∙◌, err_from_is_err_and, no_answer, module_start, kept_of, shown_of, ends}
use Rattle.rh_defs.specs.declared.reply.Reply.TheVariants as reply
use Rattle.rh_tasks.specs.BlockBytes.{heap_written, module_written}
use Rattle.rh_tasks.proofs.BlockWrites.{heap-none, written-fills}
use Rattle.rh_tasks.proofs.ModuleCommands.{area-done, area-keeps, area-refused, own-is, own-unanswered, writes}
use Rattle.rh_tasks.proofs.world.World.write_module.Goals as goal

pub returns-in_err-place : goal.returns-in_err-place
unfolding module_written
returns-in_err-place g c =
    let p = err_from_is_err_and c.from_residual.result c.from_residual.ensures.1 in
    rw (p.1, p.2) (ends _ c.in_err-place.ensures.err, refl)

pub returns-in_err-write_in_module : goal.returns-in_err-write_in_module
unfolding module_written
returns-in_err-write_in_module g c =
    let p = err_from_is_err_and c.from_residual-in_err-write_in_module.result c.from_residual-in_err-write_in_module.ensures.1 in
    let same = ap (λ m. shown_of m c.self.inside.seats.items c.self.inside.made.items (g.F.NamedFiles.contents c.self.inside.files)
    (kept_of c.self.inside.next c.self.inside.queue c.self.inside.scrap)) c.in_err-write_in_module.ensures.err in
    let xs = c.args.bytes.now in
    let none = rw (← c.self.view_is) at c.in_ok-place.ensures.ok.1 in
    rw (p.1, p.2, ← c.self.view_is) (
      own-unanswered c.args.address (heap_written (c.args.address - module_start) c.args.offset xs) reply.Done _
          ∙ own-is c.self.invariant (λ free h. no_answer (heap_written (c.args.address - module_start) c.args.offset xs h)) (λ a. reply.Done)
          (writes c.self.invariant c.args.address none c.args.offset xs) c.args.address none (heap-none _ c.args.offset xs _)
          ∙ area-refused c.self.invariant (λ free h. no_answer (heap_written (c.args.address - module_start) c.args.offset xs h)) (λ a. reply.Done)
          (writes c.self.invariant c.args.address none c.args.offset xs) (rw (c.in_ok-place.ensures.ok.0) at c.in_err-write_in_module.ensures),
      same,
    )

pub invariant_of-self-2 : goal.invariant_of-self-2
invariant_of-self-2 g c =
    let xs = c.args.bytes.now in
    let none = rw (← c.self.view_is) at c.in_ok-place.ensures.ok.1 in
    area-keeps c.self.invariant (λ free h. no_answer (heap_written (c.args.address - module_start) c.args.offset xs h)) (λ a. reply.Done)
    (writes c.self.invariant c.args.address none c.args.offset xs) (rw (c.in_ok-place.ensures.ok.0) at c.in_ok-write_in_module.ensures)
    (written-fills _ (c.args.address - module_start) c.args.offset xs _ c.self.invariant.desk.post.heap)
    (g.met.S.Paged.whole c.write_in_module.new.store 1)

pub returns : goal.returns
unfolding module_written
returns g c =
    let xs = c.args.bytes.now in
    let none = rw (← c.self.view_is) at c.in_ok-place.ensures.ok.1 in
    rw (← c.self.view_is) (own-unanswered c.args.address (heap_written (c.args.address - module_start) c.args.offset xs) reply.Done _
    ∙ own-is c.self.invariant (λ free h. no_answer (heap_written (c.args.address - module_start) c.args.offset xs h)) (λ a. reply.Done)
    (writes c.self.invariant c.args.address none c.args.offset xs) c.args.address none (heap-none _ c.args.offset xs _)
    ∙ area-done c.self.invariant (λ free h. no_answer (heap_written (c.args.address - module_start) c.args.offset xs h)) (λ a. reply.Done)
    (writes c.self.invariant c.args.address none c.args.offset xs) (rw (c.in_ok-place.ensures.ok.0) at c.in_ok-write_in_module.ensures))
