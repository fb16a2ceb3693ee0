-- Words that are read one by one, until one spells nothing.
use Rattle.std.proofs.Common.{◌≡◌, ℕ, ◌+◌, ◌<◌, ◌≤◌, zero, suc, refl, ap, sym, ◌∙◌, arith, List, [], ◌∷◌, ◌++◌, length, drop, get_or, append_assoc, append-nil}
use Rattle.std.specs.Prelude.{Option, Some, None}
use Rattle.vf_ram.specs.RecordPlaces.{all_or_none, in_front}

-- what was read before the rest
abbrev pub behind : {B : Type 0} → List B → Option (List B) → Option (List B)
behind ys None = None
behind ys (Some zs) = Some (ys ++ zs)

pub behind-none : {B : Type 0} (o : Option (List B)) → o ≡ behind [] o
behind-none None = refl
behind-none (Some zs) = refl

behind-one : {B : Type 0} (ys : List B) (y : B) (o : Option (List B)) → behind ys (in_front (Some y) o) ≡ behind (ys ++ y ∷ []) o
behind-one ys y None = refl
behind-one ys y (Some zs) = let e : (ys ++ y ∷ []) ++ zs ≡ ys ++ y ∷ zs = simp append_assoc in ap Some (sym e)

rest : {A : Type 0} (xs : List A) (i : ℕ) (x : A) → i < length xs → x ≡ get_or xs i x → drop i xs ≡ x ∷ drop (suc i) xs
rest [] i x low at = absurd (omega arith)
rest (z ∷ xs) zero x low at = ap (λ w. w ∷ xs) (sym at)
rest (z ∷ xs) (suc i) x low at = rest xs i x (omega arith) at

rest-one : {A : Type 0} (xs : List A) (i : ℕ) (x : A) → i < length xs → x ≡ get_or xs i x → drop i xs ≡ x ∷ drop (i + 1) xs
rest-one xs i x low at = let one : suc i ≡ i + 1 = omega arith in rest xs i x low at ∙ ap (λ (n : ℕ). x ∷ drop n xs) one

drop-past : {A : Type 0} (xs : List A) (i : ℕ) → length xs ≤ i → drop i xs ≡ []
drop-past [] zero past = refl
drop-past [] (suc i) past = refl
drop-past (x ∷ xs) zero past = absurd (omega arith)
drop-past (x ∷ xs) (suc i) past = drop-past xs i (omega arith)

-- one more
pub read-more : {A B : Type 0} (f : A → Option B) (xs : List A) (i : ℕ) (x : A) (y : B) (ys : List B) → i < length xs → x ≡ get_or xs i x
    → Some y ≡ f x → all_or_none f xs ≡ behind ys (all_or_none f (drop i xs))
    → all_or_none f xs ≡ behind (ys ++ y ∷ []) (all_or_none f (drop (i + 1) xs))
read-more f xs i x y ys low at is so =
    so ∙ ap (λ l. behind ys (all_or_none f l)) (rest-one xs i x low at)
    ∙ ap (λ o. behind ys (in_front o (all_or_none f (drop (i + 1) xs)))) (sym is) ∙ behind-one ys y (all_or_none f (drop (i + 1) xs))

-- one that spells nothing
pub read-none : {A B : Type 0} (f : A → Option B) (xs : List A) (i : ℕ) (x : A) (ys : List B) → i < length xs → x ≡ get_or xs i x
    → None ≡ f x → all_or_none f xs ≡ behind ys (all_or_none f (drop i xs)) → all_or_none f xs ≡ None
read-none f xs i x ys low at is so =
    so ∙ ap (λ l. behind ys (all_or_none f l)) (rest-one xs i x low at)
    ∙ ap (λ o. behind ys (in_front o (all_or_none f (drop (i + 1) xs)))) (sym is)

-- all
pub read-all : {A B : Type 0} (f : A → Option B) (xs : List A) (i : ℕ) (ys : List B) → length xs ≤ i
    → all_or_none f xs ≡ behind ys (all_or_none f (drop i xs)) → all_or_none f xs ≡ Some ys
read-all f xs i ys past so = so ∙ ap (λ l. behind ys (all_or_none f l)) (drop-past xs i past) ∙ ap Some (append-nil ys)
