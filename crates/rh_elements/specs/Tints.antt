-- Tints as classes.
use Rattle.std.specs.Prelude.{codes}
use Rattle.rh_figure.specs.Phrases.{Text}
use Rattle.rh_sheet.specs.Owners.{task_class}
use Rattle.rh_elements.specs.declared.tints.Tint.{Tint}
use Rattle.rh_elements.specs.declared.tints.Tint.TheVariants.{Slot, Module, Other}

abbrev pub tint_class : Tint → Text
tint_class (Slot handle) = task_class handle
tint_class Module = codes "m"
tint_class Other = codes "o"
