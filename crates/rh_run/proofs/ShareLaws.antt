-- A list of the free pages and then those of areas, owner by owner, shares out the pool.
use Rattle.std.proofs.Common.{◌≡◌, ℕ, suc, ◌+◌, ◌<◌, ◌≤◌, Bool, true, false, refl, ap, sym, ◌∙◌, arith, List, [], ◌∷◌, ◌++◌, length, take, drop, Some}
use Rattle.std.specs.Prelude.{◌==◌, if◌then◌else◌, slice_get}
use Rattle.std.specs.List.{flat_map}
use Rattle.std.proofs.lemmas.List.{length-append, length-drop, length-take}
use Rattle.rh_defs.specs.Desk.{Desk, free_pages}
use Rattle.rh_defs.specs.Laws.{IsDesk}
use Rattle.rh_defs.specs.Pieces.{total}
use Rattle.rh_figure.specs.Share.{Holding, IsShared, Owner, count_of, holdings, is_owner}
use Rattle.rh_figure.specs.Share as share
use Rattle.rh_scene.specs.SightPages.{pages_among, share_in}
use Rattle.rh_scene.proofs.Holders.{among-at, counted, desk-apart, holdings-used}
use Rattle.rh_store.specs.Shares as store

-- ---- how often a page stands in a list
same-times : (k : ℕ) (xs : List ℕ) → share.times k xs ≡ store.times k xs
same-times k [] = refl
same-times k (x ∷ xs) = ap (λ n. (if x == k then 1 else 0) + n) (same-times k xs)

-- ---- a list with others behind it
take-front : (xs ys : List ℕ) → take (length xs) (xs ++ ys) ≡ xs
take-front [] ys = refl
take-front (x ∷ xs) ys = ap (λ l. x ∷ l) (take-front xs ys)

drop-front : (xs ys : List ℕ) → drop (length xs) (xs ++ ys) ≡ ys
drop-front [] ys = refl
drop-front (x ∷ xs) ys = drop-front xs ys

-- ---- each owner's pages among all
enough : (o : Owner) (xs : List Holding) (numbers : List ℕ) → total counted xs ≤ length numbers → length (pages_among o xs numbers) ≡ count_of o xs
enough o [] numbers l = refl
enough o (x ∷ xs) numbers l = go (is_owner o x.0) refl (enough o xs (drop x.1 numbers) (omega (arith, length-drop x.1 numbers)))
  where
    go : (b : Bool) → is_owner o x.0 ≡ b → length (pages_among o xs (drop x.1 numbers)) ≡ count_of o xs
        → length (pages_among o (x ∷ xs) numbers) ≡ count_of o (x ∷ xs)
    go true e rest = rw e (length-take x.1 numbers ∙ omega arith)
    go false e rest = rw e rest

-- ---- lists that are put one behind another
module _ (pages : ℕ → List ℕ) where
  abbrev pub all_of : List ℕ → List ℕ
  all_of ids = flat_map pages ids

  pub length-all : (ids : List ℕ) → length (all_of ids) ≡ total (λ id. length (pages id)) ids
  length-all [] = refl
  length-all (id ∷ ids) = omega (arith, length-append (pages id) (all_of ids), length-all ids)

  -- the areas have as many pages as the owners
  abbrev pub Match : List ℕ → List Holding → Type 0
  Match [] [] = Unit {0}
  Match (id ∷ ids) (x ∷ xs) = (length (pages id) ≡ x.1) × Match ids xs
  Match _ _ = ⊥

  pub match-total : (ids : List ℕ) (xs : List Holding) → Match ids xs → total (λ id. length (pages id)) ids ≡ total counted xs
  match-total [] [] m = refl
  match-total [] (x ∷ xs) m = absurd m
  match-total (id ∷ ids) [] m = absurd m
  match-total (id ∷ ids) (x ∷ xs) m = let here = m.0 in omega (arith, match-total ids xs m.1)

  -- the owners' pages are those of the areas
  each-piece : (k : ℕ) (g : Holding → ℕ) (ids : List ℕ) (xs : List Holding) → Match ids xs
      → ((i : ℕ) (x : Holding) → slice_get xs i ≡ Some x → g x ≡ store.times k (take x.1 (drop (total counted (take i xs)) (all_of ids))))
      → total g xs ≡ total (λ id. store.times k (pages id)) ids
  each-piece k g [] [] m f = refl
  each-piece k g [] (x ∷ xs) m f = absurd m
  each-piece k g (id ∷ ids) [] m f = absurd m
  each-piece k g (id ∷ ids) (x ∷ xs) m f =
      let front : take x.1 (pages id ++ all_of ids) ≡ pages id = rw (← m.0) (take-front (pages id) (all_of ids)) in
      let here : g x ≡ store.times k (pages id) = f 0 x refl ∙ ap (store.times k) front in
      let rest : total g xs ≡ total (λ id. store.times k (pages id)) ids =
      each-piece k g ids xs m.1 (λ i y e. f (suc i) y e ∙ ap (λ l. store.times k (take y.1 l)) (behind id ids x.1 (total counted (take i xs)) m.0)) in
      omega arith
    where
      behind : (id : ℕ) (ids : List ℕ) (n k : ℕ) → length (pages id) ≡ n → drop (n + k) (pages id ++ all_of ids) ≡ drop k (all_of ids)
      behind id ids n k e = ap (λ z. drop (z + k) (pages id ++ all_of ids)) (sym e) ∙ past (pages id)
        where
          past : (xs : List ℕ) → drop (length xs + k) (xs ++ all_of ids) ≡ drop k (all_of ids)
          past [] = ap (λ z. drop z (all_of ids)) (omega arith)
          past (x ∷ xs) = ap (λ z. drop z (x ∷ (xs ++ all_of ids))) (let more : suc (length xs) + k ≡ suc (length xs + k) = omega arith in more) ∙ past xs

-- ---- the pool
module _ (pages : ℕ → List ℕ) (free ids : List ℕ) (d : Desk) (is : IsDesk d) (frees : length free ≡ free_pages d) (match : Match pages ids (holdings d)) where
  abbrev all : List ℕ
  all = all_of pages ids

  pub length-numbers : length (free ++ all) ≡ d.pool
  length-numbers =
      let used = is.pages in
      omega (arith, length-append free all, frees, length-all pages ids, match-total pages ids (holdings d) match, holdings-used is)

  front : take (free_pages d) (free ++ all) ≡ free
  front = rw (← frees) (take-front free all)

  behind : drop (free_pages d) (free ++ all) ≡ all
  behind = rw (← frees) (drop-front free all)

  -- how often the owners have a page, by a list of theirs
  abbrev owned : ℕ → List ℕ → ℕ
  owned k numbers = total (λ (x : Holding). share.times k (pages_among x.0 (holdings d) numbers)) (holdings d)

  each-owner : (k : ℕ) → owned k all ≡ total (λ id. store.times k (pages id)) ids
  each-owner k =
      each-piece pages k (λ (x : Holding). share.times k (pages_among x.0 (holdings d) all)) ids (holdings d) match
      (λ i x e. ap (share.times k) (among-at (holdings d) i x all (desk-apart is) e).0 ∙ same-times k _)

  pub shared : ((k : ℕ) → k < d.pool → total (λ id. store.times k (pages id)) ids + store.times k free ≡ 1) → IsShared (share_in (free ++ all) d) d
  shared once = record {
    each = λ o.
        ap (λ l. length (pages_among o (holdings d) l)) behind
        ∙ enough o (holdings d) all (omega (arith, length-all pages ids, match-total pages ids (holdings d) match));
    free = ap length front ∙ frees;
    once = λ k l.
        let one = once k l in
        ap (λ z. share.times k z + owned k (drop (free_pages d) (free ++ all))) front
        ∙ ap (λ z. share.times k free + owned k z) behind ∙ omega (arith, each-owner k, same-times k free);
  }
