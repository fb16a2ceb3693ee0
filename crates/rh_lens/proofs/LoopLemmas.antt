-- Things one after the other, from one of them on, their texts, what a test chooses, and what is written where it holds.
use Rattle.std.proofs.Common.{ℕ, ◌+◌, ◌<◌, ◌≤◌, ◌≡◌, Bool, true, false, refl, sym, ap, ◌∙◌, List, [], ◌∷◌, ◌++◌, append-nil, arith, length, drop, get_or}
use Rattle.std.specs.Prelude.{if◌then◌else◌, nat_lt}
use Rattle.std.proofs.lemmas.Bool.Decides.{nat_tests}
use Rattle.rh_figure.specs.Phrases.{where_so}
use Rattle.std.specs.List.{enumerate_from, flat_map}
use Rattle.std.proofs.lemmas.List.{drop_all, drop_more}

-- the text of a thing, and those of the things behind it
pub each-at : {X : Type 0} (f : X → List ℕ) (xs : List X) (i : ℕ) (d : X) → i < length xs
    → flat_map f (drop i xs) ≡ f (get_or xs i d) ++ flat_map f (drop (i + 1) xs)
each-at f xs i d inside = ap (flat_map f) (drop_more xs i d inside)

module _ {X : Type 0} (f : ℕ × X → List ℕ) (xs : List X) (i : ℕ) where
  -- a thing with its number, and those behind it
  pub numbered-at : (d : X) → i < length xs
      → flat_map f (enumerate_from i (drop i xs)) ≡ f (i, get_or xs i d) ++ flat_map f (enumerate_from (i + 1) (drop (i + 1) xs))
  numbered-at d inside = ap (λ ys. flat_map f (enumerate_from i ys)) (drop_more xs i d inside)

  pub numbered-none : length xs ≤ i → flat_map f (enumerate_from i (drop i xs)) ≡ []
  numbered-none past = ap (λ ys. flat_map f (enumerate_from i ys)) (drop_all i xs past)

-- ---- what a test chooses

pub chosen-first : {X : Type 0} (t : Bool) (a b x : X) → t ≡ true → x ≡ a → x ≡ (if t then a else b)
chosen-first true a b x e is = is
chosen-first false a b x e is = absurd (cc)

pub chosen-second : {X : Type 0} (t : Bool) (a b x : X) → t ≡ false → x ≡ b → x ≡ (if t then a else b)
chosen-second true a b x e is = absurd (cc)
chosen-second false a b x e is = is

-- ---- what is written where a test holds

pub nothing-where : (t : Bool) (old x : List ℕ) → t ≡ false → old ≡ old ++ where_so t x
nothing-where true old x e = absurd (cc)
nothing-where false old x e = sym (append-nil old)

pub written-where : (t : Bool) (old x : List ℕ) {new : List ℕ} → t ≡ true → new ≡ old ++ x → new ≡ old ++ where_so t x
written-where true old x e written = written
written-where false old x e written = absurd (cc)

pub no-more : (m n : ℕ) → n ≤ m → nat_lt m n ≡ false
no-more m n e = grind (arith, nat_tests)

pub some-more : (m n : ℕ) → m < n → nat_lt m n ≡ true
some-more m n e = grind (arith, nat_tests)
