use Rattle.rh_lens.proofs.LensElements.{lenses-whole}
use Rattle.rh_lens.proofs.laws.lens_elements_law.Goals as goal

pub returns : goal.returns
returns c = lenses-whole
