-- Changes of the area's length by a signed amount.
use Rattle.rh_module.proofs.Common.{◌≡◌, ℕ, ◌+◌, ◌-◌, ◌*◌, ◌<◌, ◌≤◌, Bool, true, false, pos, negsuc, to_z, of_z, refl, sym, ap, ◌∙◌, arith, ℤ, Ok, Err}
use Rattle.rh_module.proofs.Common.{FitsSigned, w32, PAGE, pages_for, Heap, longer}
use Rattle.std.specs.Int.Signed.{lt_z}
use Rattle.std.proofs.Math.IntN.{nat_abs}
use Rattle.std.proofs.lemmas.Int.{to_z-of_z}
use Rattle.std.proofs.lemmas.Bool.Decides.{nat_tests}
use Rattle.rh_defs.specs.Heap.{base}
use Rattle.rh_defs.specs.Module.{magnitude, changed_length, whole_pages, module_change}
use Rattle.rh_defs.specs.declared.refusal.Refusal.TheVariants.{ExcessiveShrink, NoRoom}
use Rattle.rh_defs.proofs.ModuleLaws.{module_change-low, module_change-short, module_change-done}
use Rattle.rh_module.specs.Inner.Lengths.{shorter}

magnitude_is : (z : ℤ) → nat_abs z ≡ magnitude z
magnitude_is (pos n) = refl
magnitude_is (negsuc n) = omega arith

lower : (z : ℤ) (e : ℕ) → lt_z z (pos 0) ≡ true → changed_length e z ≡ e - PAGE * pages_for (magnitude z)
lower (pos n) e t = grind (arith, nat_tests)
lower (negsuc n) e t = refl

higher : (z : ℤ) (e : ℕ) → lt_z z (pos 0) ≡ false → changed_length e z ≡ e + PAGE * pages_for (magnitude z)
higher (pos n) e t = refl
higher (negsuc n) e t = grind (arith, nat_tests)

-- what the code reads of a signed amount: its size, the pages for that, and its sign
pub record Amount (z : ℤ) (size pages : ℕ) (negative : Bool) : Type 0 where
  pub fits : FitsSigned w32 z
  pub size_is : size ≡ nat_abs (to_z w32 (of_z w32 z))
  pub pages_are : pages ≡ pages_for size
  pub sign : lt_z (to_z w32 (of_z w32 z)) (pos 0) ≡ negative

module _ {z : ℤ} {size pages : ℕ} {negative : Bool} (a : Amount z size pages negative) where
  pages_is : pages_for (magnitude z) ≡ pages
  pages_is = sym (a.pages_are ∙ ap pages_for (a.size_is ∙ ap nat_abs (to_z-of_z w32 z a.fits) ∙ magnitude_is z))

  whole_is : whole_pages z ≡ pages * PAGE
  whole_is = let p = pages_is in omega arith

  sign_is : lt_z z (pos 0) ≡ negative
  sign_is = sym (ap (λ (i : ℤ). lt_z i (pos 0)) (to_z-of_z w32 z a.fits)) ∙ a.sign

module _ {z : ℤ} {size pages : ℕ} (free : ℕ) (h : Heap) (a : Amount z size pages true) where
  low : changed_length h.end z ≡ h.end - PAGE * pages
  low = lower z h.end (sign_is a) ∙ ap (λ p. h.end - PAGE * p) (pages_is a)

  pub change_too_low : (shorter pages h).end < base h → module_change free z h ≡ Err ExcessiveShrink
  change_too_low l = module_change-low free z h (let e = low in omega arith)

  pub change_shortened : base h ≤ (shorter pages h).end → module_change free z h ≡ Ok (shorter pages h, pages * PAGE)
  change_shortened l =
      let e = low in
      module_change-done free z h (omega arith) (omega arith)
      ∙ ap (λ (n : ℕ). let g : Heap = record { segments = h.segments; end = n } in Ok (g, whole_pages z)) e
      ∙ ap (λ (n : ℕ). Ok (shorter pages h, n)) (whole_is a)

module _ {z : ℤ} {size pages : ℕ} (free : ℕ) (h : Heap) (a : Amount z size pages false) (fits : base h ≤ h.end) where
  high : changed_length h.end z ≡ h.end + PAGE * pages
  high = higher z h.end (sign_is a) ∙ ap (λ p. h.end + PAGE * p) (pages_is a)

  pub change_no_room : free < pages → module_change free z h ≡ Err NoRoom
  change_no_room l = let e = high in module_change-short free z h (omega arith) (omega arith)

  pub change_lengthened : pages ≤ free → module_change free z h ≡ Ok (longer pages h, pages * PAGE)
  change_lengthened l =
      let e = high in
      module_change-done free z h (omega arith) (omega arith)
      ∙ ap (λ (n : ℕ). let g : Heap = record { segments = h.segments; end = n } in Ok (g, whole_pages z)) e
      ∙ ap (λ (n : ℕ). Ok (longer pages h, n)) (whole_is a)
