use Rattle.std.proofs.Common.{◌∙◌, sym, arith}
use Rattle.rh_tasks.proofs.Posts.{end-is}
use Rattle.rh_tasks.proofs.world.World.module_end.Goals as goal

pub overflow_cast-result : goal.overflow_cast-result
overflow_cast-result g c =
    omega (arith, c.end.ensures, c.self.invariant.areas.module_area.spells.whole, g.met.S.Words.small c.self.inside.store 1)

pub returns : goal.returns
returns g c = rw (← c.self.view_is) (c.end.ensures ∙ sym (end-is _ _))
