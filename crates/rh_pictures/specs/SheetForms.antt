-- How areas are drawn on a sheet. Read Lens of rh_lens and SheetSteps of rh_sheet first.
use Rattle.std.specs.Prelude.{Option, Some, None}
use Rattle.rh_lens.specs.Lens.{module_lens, slot_lens}
use Rattle.rh_sheet.specs.SheetSteps.{Looks, at_true_scale}
use Rattle.rh_pictures.specs.LensSizes.{LensSize}
pub use Rattle.rh_pictures.specs.declared.sheet.form.SheetForm.{SheetForm}

-- through a lens of a size, or at true scale
abbrev pub looks_of : Option LensSize → Looks
looks_of None = at_true_scale
looks_of (Some s) = record {
  slot = λ x t. slot_lens x t s.width s.scale;
  module_area = λ x. module_lens x s.width s.scale;
}
