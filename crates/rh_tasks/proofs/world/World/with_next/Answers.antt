use Rattle.rh_tasks.proofs.Common.{◌∙◌, arith, the_module}
use Rattle.rh_defs.specs.Laws.{IsStart}
use Rattle.rh_tasks.proofs.NewWorlds.{first-desk, first-world, first-next}
use Rattle.rh_tasks.proofs.world.World.with_next.Goals as goal

pub invariant_of-result : goal.invariant_of-result
invariant_of-result g c =
    let n = c.first.ensures in
    let f = c.furnish.ensures in
    let is = first-next c.first.result c.args.handle (n.handle ∙ c.handle.view_is) n.area in
    let q = c.with_next_ref.ensures in
    let s : IsStart (g.S.Words.memory c.args.store).pages c.args.handle c.args.r = record {
      least = c.requires.least;
      most = c.requires.most;
      first_handle = c.requires.handle;
      last_handle = omega (arith, n.word, c.handle.view_is);
      first_ref = c.requires.message;
      last_ref = q.word;
    } in
    let starts = rw q.value at q.starts _ the_module f.module_area in
    rw (is, q.value, c.new.ensures, c.new-2.ensures) (first-world f (g.F.NamedFiles.contents c.args.files) c.args.handle c.args.r s starts)

pub returns : goal.returns
returns g c =
    let n = c.first.ensures in
    let is = first-next c.first.result c.args.handle (n.handle ∙ c.handle.view_is) n.area in
    rw (is, c.with_next_ref.ensures.value, c.new.ensures, c.new-2.ensures)
    (first-desk c.furnish.ensures (g.F.NamedFiles.contents c.args.files) c.args.handle c.args.r)
