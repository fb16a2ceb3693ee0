use Rattle.rh_module.specs.ModuleArea.{IsModule}
use Rattle.area_tests.proofs.modules.rows.Given as goal

-- the area is the module area
abbrev pub invariant-loop-line : goal.invariant-loop-line
invariant-loop-line g l = IsModule (g.S.Words.memory l.store) l.module_area
