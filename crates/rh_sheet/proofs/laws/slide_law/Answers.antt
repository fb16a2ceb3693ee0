use Rattle.rh_sheet.proofs.Slides.{slide-in-slots}
use Rattle.rh_sheet.proofs.laws.slide_law.Goals as goal

pub returns : goal.returns
returns c = slide-in-slots
