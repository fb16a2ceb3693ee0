-- Lists, heaps and slots with their bytes renamed: each look-up finds the renamed thing, and each size stays.
use Rattle.rh_laws.proofs.Common.{◌≡◌, ℕ, zero, suc, ◌+◌, ◌-◌, Bool, true, false, cond, List, [], ◌∷◌, ◌++◌, length, map, refl, sym, ap, subst, ◌∙◌}
use Rattle.rh_laws.proofs.Common.{length-map, map-append, take-map, drop-map, Option, Some, None, take, drop, filter, find, option_map, Refusal, Granted}
use Rattle.rh_laws.proofs.Common.{◌>>=◌, refuse_if, found_or, total, Split, zeros, written, fitted, Follows}
use Rattle.rh_defs.specs.Pieces.{behind, first_at}

-- ---- chains

-- the second is what the function makes of the first
abbrev pub By : {A : Type 0} → (A → A) → A → A → Type 0
By g x y = y ≡ g x

-- chains that go on from what a function makes of one another
pub follows-by : {A B : Type 0} {g : A → A} {R : B → B → Type 0} {first second : Granted A} (next other : A → Granted B) → Follows (By g) first second
    → ((x : A) → Follows R (next x) (other (g x))) → Follows R (first >>= next) (second >>= other)
unfolding ◌>>=◌
follows-by {R = R} next other (Follows.both {x = x} e) h = subst (λ z. Follows R (next x) (other z)) (sym e) (h x)
follows-by next other Follows.neither h = Follows.neither

-- two tests that are equal
pub follows-test : {B : Type 0} {R : B → B → Type 0} (b c : Bool) (e : Refusal) (next other : Unit {0} → Granted B) → c ≡ b → Follows R (next tt) (other tt)
    → Follows R (refuse_if b e >>= next) (refuse_if c e >>= other)
unfolding ◌>>=◌ refuse_if
follows-test {R = R} b c e next other same h = subst (λ t. Follows R (refuse_if b e >>= next) (refuse_if t e >>= other)) (sym same) (go b)
  where
    go : (b : Bool) → Follows R (refuse_if b e >>= next) (refuse_if b e >>= other)
    go true = Follows.neither
    go false = h

-- what is found
pub found-by : {A : Type 0} (g : A → A) (o p : Option A) (e : Refusal) → p ≡ option_map g o → Follows (By g) (found_or o e) (found_or p e)
unfolding found_or
found-by {A} g o p e same = subst (λ z. Follows (By g) (found_or o e) (found_or z e)) (sym same) (go o)
  where
    go : (o : Option A) → Follows (By g) (found_or o e) (found_or (option_map g o) e)
    go None = Follows.neither
    go (Some x) = Follows.both refl

-- ---- lists

pub total-map : {A : Type 0} (size : A → ℕ) (g : A → A) → ((x : A) → size (g x) ≡ size x) → (xs : List A) → total size (map g xs) ≡ total size xs
total-map size g same [] = refl
total-map size g same (x ∷ xs) = ap (λ n. n + total size (map g xs)) (same x) ∙ ap (λ n. size x + n) (total-map size g same xs)

-- a cut of the list whose members are made into others
abbrev pub cut_by : {A : Type 0} → (A → A) → Split A → Split A
cut_by g s = record { before = map g s.before; here = g s.here; after = map g s.after }

pub first_at-map : {A : Type 0} (size : A → ℕ) (test : ℕ → A → Bool) (g : A → A) → ((x : A) → size (g x) ≡ size x) → ((p : ℕ) (x : A) → test p (g x) ≡ test p x)
    → (p : ℕ) (xs : List A) → first_at size test p (map g xs) ≡ option_map (cut_by g) (first_at size test p xs)
first_at-map size test g sizes tests p [] = refl
first_at-map {A} size test g sizes tests p (x ∷ xs) =
    ap (λ c. cond c here (option_map (behind (g x)) (first_at size test (p + size (g x)) (map g xs)))) (tests p x)
    ∙ ap (λ n. cond (test p x) here (option_map (behind (g x)) (first_at size test (p + n) (map g xs)))) (sizes x)
    ∙ go (test p x) (first_at-map size test g sizes tests (p + size x) xs)
  where
    here : Option (Split A)
    here = Some (record { before = []; here = g x; after = map g xs })

    passed : (o : Option (Split A)) → option_map (behind (g x)) (option_map (cut_by g) o) ≡ option_map (cut_by g) (option_map (behind x) o)
    passed None = refl
    passed (Some s) = refl

    go : (b : Bool) → first_at size test (p + size x) (map g xs) ≡ option_map (cut_by g) (first_at size test (p + size x) xs)
        → cond b here (option_map (behind (g x)) (first_at size test (p + size x) (map g xs)))
        ≡ option_map (cut_by g) (cond b (Some (record { before = []; here = x; after = xs })) (option_map (behind x) (first_at size test (p + size x) xs)))
    go true e = refl
    go false e = ap (option_map (behind (g x))) e ∙ passed (first_at size test (p + size x) xs)

pub find-map : {A : Type 0} (test : A → Bool) (g : A → A) → ((x : A) → test (g x) ≡ test x) → (xs : List A) → find test (map g xs) ≡ option_map g (find test xs)
find-map test g same [] = refl
find-map {A} test g same (x ∷ xs) = ap (λ c. cond c (Some (g x)) (find test (map g xs))) (same x) ∙ go (test x) (find-map test g same xs)
  where
    go : (b : Bool) → find test (map g xs) ≡ option_map g (find test xs) → cond b (Some (g x)) (find test (map g xs))
        ≡ option_map g (cond b (Some x) (find test xs))
    go true e = refl
    go false e = e

pub filter-map : {A : Type 0} (test : A → Bool) (g : A → A) → ((x : A) → test (g x) ≡ test x) → (xs : List A) → filter test (map g xs) ≡ map g (filter test xs)
filter-map test g same [] = refl
filter-map {A} test g same (x ∷ xs) = ap (λ c. cond c (g x ∷ filter test (map g xs)) (filter test (map g xs))) (same x) ∙ go (test x)
    (filter-map test g same xs)
  where
    go : (b : Bool) → filter test (map g xs) ≡ map g (filter test xs) → cond b (g x ∷ filter test (map g xs)) (filter test (map g xs))
        ≡ map g (cond b (x ∷ filter test xs) (filter test xs))
    go true e = ap (λ l. g x ∷ l) e
    go false e = e

pub written-map : (f : ℕ → ℕ) (bytes : List ℕ) (offset : ℕ) (new : List ℕ) → written (map f bytes) offset (map f new) ≡ map f (written bytes offset new)
written-map f bytes offset new =
    ap (λ l. l ++ (map f new ++ drop (offset + length (map f new)) (map f bytes))) (take-map f offset bytes)
    ∙ ap (λ m. map f (take offset bytes) ++ (map f new ++ drop (offset + m) (map f bytes))) (length-map new f)
    ∙ ap (λ l. map f (take offset bytes) ++ (map f new ++ l)) (drop-map f (offset + length new) bytes)
    ∙ ap (λ l. map f (take offset bytes) ++ l) (sym (map-append f new (drop (offset + length new) bytes)))
    ∙ sym (map-append f (take offset bytes) (new ++ drop (offset + length new) bytes))

module _ (f : ℕ → ℕ) (zero-is : f 0 ≡ 0) where
  pub zeros-map : (n : ℕ) → map f (zeros n) ≡ zeros n
  zeros-map zero = refl
  zeros-map (suc n) = ap (λ b. b ∷ map f (zeros n)) zero-is ∙ ap (λ l. 0 ∷ l) (zeros-map n)

  pub fitted-map : (n : ℕ) (bytes : List ℕ) → fitted n (map f bytes) ≡ map f (fitted n bytes)
  fitted-map n bytes =
      ap (λ l. l ++ zeros (n - length (map f bytes))) (take-map f n bytes)
      ∙ ap (λ m. map f (take n bytes) ++ zeros (n - m)) (length-map bytes f)
      ∙ ap (λ l. map f (take n bytes) ++ l) (sym (zeros-map (n - length bytes)))
      ∙ sym (map-append f (take n bytes) (zeros (n - length bytes)))
