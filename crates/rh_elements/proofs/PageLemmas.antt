-- A row that has a page.
use Rattle.rh_elements.proofs.Common.{◌≡◌, ℕ, Some, refl, row_y, row_text}
use Rattle.rh_sheet.specs.declared.frame.Frame.{Frame}
use Rattle.rh_sheet.specs.Frames.{first_beside, page_in}
use Rattle.rh_sheet.specs.SheetRows.{Plot, addressed_text}

-- it is drawn by the page's address
pub row-of-page : (f : Frame) (g : Plot) (i k : ℕ) → page_in f.pages i ≡ Some k
    → addressed_text g (row_y f i) (first_beside f.pages i) k ≡ row_text f g i
row-of-page f g i k e = rw e refl
