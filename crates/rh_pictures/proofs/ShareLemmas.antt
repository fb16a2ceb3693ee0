-- Each desk's pool can be shared out: its pages in order, the free ones first, and then those of each owner in turn.
use Rattle.rh_pictures.proofs.Common.{◌≡◌, ℕ, zero, suc, ◌+◌, ◌<◌, ◌≤◌, Bool, true, false, refl, ap, sym, ◌∙◌, arith, eq-eqb, List, [], ◌∷◌, length, take, drop}
use Rattle.rh_pictures.proofs.Common.{Some, if◌then◌else◌, ◌==◌, slice_get, range_with_len, eqb-true, ne_eqb, drop_all, length-drop, length-take, IsDesk, Desk}
use Rattle.rh_pictures.proofs.Common.{Holding, IsShared, Owner, count_of, holdings, share_in}
use Rattle.std.proofs.lemmas.List.{drop-drop, take-append-drop}
use Rattle.std.proofs.lemmas.List.FromFn.{length-range_with_len}
use Rattle.rh_defs.specs.Pieces.{total}
use Rattle.rh_defs.specs.Desk.{free_pages}
use Rattle.rh_defs.proofs.Cuts.{total-append}
use Rattle.rh_figure.specs.Share.{is_owner, times}
use Rattle.rh_scene.specs.SightPages.{pages_among}
use Rattle.rh_scene.proofs.Holders.{among-at, counted, desk-apart, holdings-used}

-- ---- how often a number stands in a list

times-cut : (k n : ℕ) (xs : List ℕ) → times k (take n xs) + times k (drop n xs) ≡ times k xs
times-cut k n xs = sym (total-append (λ m. if m == k then 1 else 0) (take n xs) (drop n xs)) ∙ ap (times k) (take-append-drop n xs)

-- numbers that are counted up
times-above : (k a n : ℕ) → k < a → times k (range_with_len a n) ≡ 0
times-above k a zero less = refl
times-above k a (suc n) less =
    let rest : times k (range_with_len (a + 1) n) ≡ 0 = times-above k (a + 1) n (omega arith) in
    let no : (a == k) ≡ false = ne_eqb a k (λ q. omega arith) in
    rw no (omega arith)

times-among : (k a n : ℕ) → a ≤ k → k < a + n → times k (range_with_len a n) ≡ 1
times-among k a zero low high = absurd (omega arith)
times-among k a (suc n) low high = go (a == k) refl (times-above k (a + 1) n) (times-among k (a + 1) n)
  where
    go : (b : Bool) → (a == k) ≡ b → (k < a + 1 → times k (range_with_len (a + 1) n) ≡ 0)
        → (a + 1 ≤ k → k < a + 1 + n → times k (range_with_len (a + 1) n) ≡ 1) → times k (range_with_len a (suc n)) ≡ 1
    go true e above among =
        let same : a ≡ k = eqb-true a k e in
        let rest : times k (range_with_len (a + 1) n) ≡ 0 = above (omega arith) in
        rw e (omega arith)
    go false e above among =
        let other : a ≡ k → ⊥ = λ q. (let t : false ≡ true = sym e ∙ eq-eqb a k q in cc) in
        let rest : times k (range_with_len (a + 1) n) ≡ 1 = among (omega (arith, other)) (omega arith) in
        rw e (omega arith)

-- ---- owners one after the other

among-each : (o : Owner) (xs : List Holding) (numbers : List ℕ) → total counted xs ≤ length numbers → length (pages_among o xs numbers) ≡ count_of o xs
among-each o [] numbers room = refl
among-each o (x ∷ xs) numbers room = go (is_owner o x.0) (among-each o xs (drop x.1 numbers) (omega (arith, length-drop x.1 numbers)))
  where
    go : (b : Bool) → length (pages_among o xs (drop x.1 numbers)) ≡ count_of o xs
        → length (if b then take x.1 numbers else pages_among o xs (drop x.1 numbers)) ≡ (if b then x.1 else count_of o xs)
    go true rest = omega (arith, length-take x.1 numbers)
    go false rest = rest

-- a number stands with one of the owners or behind them all
times-cuts : (k : ℕ) (f : Holding → ℕ) (xs : List Holding) (numbers : List ℕ)
    → ((i : ℕ) (x : Holding) → slice_get xs i ≡ Some x → f x ≡ times k (take x.1 (drop (total counted (take i xs)) numbers)))
    → total f xs + times k (drop (total counted xs) numbers) ≡ times k numbers
times-cuts k f [] numbers each = omega arith
times-cuts k f (x ∷ xs) numbers each =
    let here : f x ≡ times k (take x.1 numbers) = each 0 x refl in
    let rest : total f xs + times k (drop (total counted xs) (drop x.1 numbers)) ≡ times k (drop x.1 numbers) =
    times-cuts k f xs (drop x.1 numbers)
    (λ i y e. each (suc i) y e ∙ ap (λ z. times k (take y.1 z)) (sym (drop-drop (total counted (take i xs)) x.1 numbers))) in
    let behind : times k (drop (total counted xs) (drop x.1 numbers)) ≡ times k (drop (x.1 + total counted xs) numbers) =
    ap (times k) (drop-drop (total counted xs) x.1 numbers) in
    omega (arith, times-cut k x.1 numbers)

-- ---- a desk

-- the pages in order are a share of each desk
pub is_shared : (d : Desk) → IsDesk d → IsShared (share_in (range_with_len 0 d.pool) d) d
is_shared d is =
    let all : List ℕ = range_with_len 0 d.pool in
    let long : length all ≡ d.pool = length-range_with_len 0 d.pool in
    let free : ℕ = free_pages d in
    let owned : List ℕ = drop free all in
    let used = holdings-used is in
    record {
      each = λ o. among-each o (holdings d) owned (omega (arith, length-drop free all, used, is.pages));
      free = length-take free all ∙ omega (arith, is.pages);
      once = λ k less.
          let cuts : total (λ (x : Holding). times k (pages_among x.0 (holdings d) owned)) (holdings d) + times k (drop (total counted (holdings d)) owned)
          ≡ times k owned =
          times-cuts k (λ (x : Holding). times k (pages_among x.0 (holdings d) owned)) (holdings d) owned
          (λ i x e. ap (times k) (among-at (holdings d) i x owned (desk-apart is) e).0) in
          let none : times k (drop (total counted (holdings d)) owned) ≡ 0 =
          ap (times k) (drop_all (total counted (holdings d)) owned (omega (arith, length-drop free all, used, is.pages))) in
          let once : times k all ≡ 1 = times-among k 0 d.pool (omega arith) (omega arith) in
          omega (arith, times-cut k free all);
    }
