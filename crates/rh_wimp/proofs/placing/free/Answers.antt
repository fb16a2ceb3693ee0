use Rattle.std.proofs.Common.{refl, sym, subst}
use Rattle.std.specs.Result.{IsOk}
use Rattle.rh_wimp.proofs.CallLaws.{free-done, freed}
use Rattle.rh_wimp.proofs.placing.free.Goals as goal

pub unwrap-requires : goal.unwrap-requires
unwrap-requires g c = subst IsOk (sym (free-done (g.S.Words.memory c.args.store.now) (g.S.Words.memory c.free.new.store) c.args.module_area c.args.block 4
    c.free.result c.requires.block c.free.ensures)) refl

pub returns : goal.returns
returns g c =
    freed (g.S.Words.memory c.args.store.now)
    (g.S.Words.memory c.free.new.store) c.args.module_area c.args.block 4 c.free.result c.requires.block c.free.ensures
