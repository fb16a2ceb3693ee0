-- Lists of things, and lines of them below a heading where there are some.
use Rattle.rh_pictures.proofs.Common.{◌≡◌, Bool, List, [], ◌∷◌, ap, arith, false, length, map, ne_eqb, not, refl, sym, true, ◌==◌, ◌∙◌, Text, under}

abbrev pub is_some : {A : Type 0} → List A → Bool
is_some xs = not (length xs == 0)

pub some-more : {A : Type 0} (x : A) (xs : List A) → is_some (x ∷ xs) ≡ true
some-more x xs = ap not (ne_eqb (length (x ∷ xs)) 0 (λ q. omega (arith, q)))

pub under-some : {A : Type 0} (heading : Text) (line : A → Text) (xs : List A) → is_some xs ≡ true → under heading (map line xs) ≡ heading ∷ map line xs
under-some heading line [] e = absurd (cc)
under-some heading line (x ∷ xs) e = refl

pub under-none : {A : Type 0} (heading : Text) (line : A → Text) (xs : List A) → is_some xs ≡ false → under heading (map line xs) ≡ []
under-none heading line [] e = refl
under-none heading line (x ∷ xs) e = let k : true ≡ false = sym (some-more x xs) ∙ e in absurd (cc)
