-- What a word over a row says of the numbers below it, and the ways up and down.
use Rattle.std.proofs.Common.{◌≡◌, ◌≢◌, ℕ, zero, suc, ◌+◌, ◌-◌, ◌*◌, ◌/◌, ◌%◌, ◌^◌, ◌<◌, ◌≤◌, inl, inr, List, length, max, sym, ap, ◌∙◌, arith, set, get_or}
use Rattle.std.proofs.lemmas.Bool.{cases_eq, cases_lt}
use Rattle.std.proofs.Math.Nat.{pow-suc, le-max_left, le-max_right, max-le, mul-le-mul_right}
use Rattle.std.proofs.lemmas.Nat.{pow_pos}
use Rattle.std.proofs.lemmas.List.{get_or-set_same, get_or-set_other}
use Rattle.rh_peaks.specs.Peaks.{peak, AreLarger, HasWidth, FirstPeak, LastPeak}

-- the words d steps below word k are words k * 2^d up to (k + 1) * 2^d
first_below : (k d : ℕ) → k * 2 ^ suc d ≡ 2 * k * 2 ^ d
first_below k d = omega (arith, ap (λ x. k * x) (pow-suc 2 d))

last_below : (k d : ℕ) → (k + 1) * 2 ^ suc d ≡ (2 * k + 1 + 1) * 2 ^ d
last_below k d = omega (arith, ap (λ x. (k + 1) * x) (pow-suc 2 d))

wide : (n d : ℕ) → n ≤ n * 2 ^ d
wide n zero = omega arith
wide n (suc d) = let e = first_below n d in let w = wide (2 * n) d in omega arith

-- of two numbers the larger is at least a bound, and the first isn't
is_second : (a b t : ℕ) → t ≤ max a b → a < t → t ≤ b
is_second a b t le less = elim (cases_lt b t) [
  | inl l ↦ absurd (let m : max a b + 1 ≤ t = most a b t less l in omega arith)
  | inr r ↦ r
]
  where
    most : (a b t : ℕ) → a < t → b < t → max a b + 1 ≤ t
    most a b zero l k = absurd (omega arith)
    most a b (suc t) l k = let m : max a b ≤ t = max-le {a = a} {b = b} {k = t} (omega arith) (omega arith) in omega arith

-- the larger of two numbers that are 0 is 0
pub max_zero : (a b : ℕ) → a ≡ 0 → b ≡ 0 → max a b ≡ 0
max_zero a b ea eb = let m : max a b ≤ 0 = max-le {a = a} {b = b} {k = 0} (omega arith) (omega arith) in omega arith

-- ---- the ways
-- the way down to the first number of t or more has come to word k: that is large enough, and no number left of those below it is
pub record AtNode (nodes : List ℕ) (t k : ℕ) : Type 0 where
  pub d : ℕ
  pub some : 0 < k
  pub low : length nodes / 2 ≤ k * 2 ^ d
  pub high : (k + 1) * 2 ^ d ≤ 2 * (length nodes / 2)
  pub left : (j : ℕ) → length nodes / 2 ≤ j → j < k * 2 ^ d → get_or nodes j 0 < t
  pub here : t ≤ get_or nodes k 0

-- the way up from a place has come to word k: the numbers from the first one below it up to the place are 0
pub record AtUp (nodes : List ℕ) (i k : ℕ) : Type 0 where
  pub m : ℕ
  pub d : ℕ
  pub width : length nodes / 2 ≡ 2 ^ m * 2 ^ d
  pub from : 2 ^ m ≤ k
  pub to : k < 2 * 2 ^ m
  pub low : length nodes / 2 ≤ k * 2 ^ d
  pub at : k * 2 ^ d ≤ length nodes / 2 + i
  pub none : (j : ℕ) → k * 2 ^ d ≤ j → j < length nodes / 2 + i → get_or nodes j 0 ≡ 0

-- the way down to the last number before a place that isn't 0 has come to word k, which isn't 0: the numbers behind those below it and up to the place are 0
pub record AtDown (nodes : List ℕ) (i k : ℕ) : Type 0 where
  pub d : ℕ
  pub some : 0 < k
  pub low : length nodes / 2 ≤ k * 2 ^ d
  pub below : (k + 1) * 2 ^ d ≤ length nodes / 2 + i
  pub here : get_or nodes k 0 ≢ 0
  pub none : (j : ℕ) → (k + 1) * 2 ^ d ≤ j → j < length nodes / 2 + i → get_or nodes j 0 ≡ 0

module _ (nodes : List ℕ) (larger : AreLarger nodes) where
  abbrev w : ℕ
  w = length nodes / 2

  -- no number below a word is more
  pub most_below : (d k j : ℕ) → 0 < k → (k + 1) * 2 ^ d ≤ 2 * w → k * 2 ^ d ≤ j → j < (k + 1) * 2 ^ d → get_or nodes j 0 ≤ get_or nodes k 0
  most_below zero k j some inside from to =
      let same : j ≡ k = omega (arith, from, to) in rw same (omega arith)
  most_below (suc d) k j some inside from to =
      let low = first_below k d in
      let high = last_below k d in
      let wider = wide (2 * k + 1 + 1) d in
      let node = larger k (omega arith) (omega arith) in
      let left = get_or nodes (2 * k) 0 in
      let right = get_or nodes (2 * k + 1) 0 in
      let one = le-max_left left right in
      let two = le-max_right left right in
      elim (cases_lt j ((2 * k + 1) * 2 ^ d)) [
        | inl l ↦
            let here = most_below d (2 * k) j (omega arith) (omega arith) (omega arith) l in omega arith
        | inr r ↦
            let here = most_below d (2 * k + 1) j (omega arith) (omega arith) r (omega arith) in omega arith
      ]

  -- ---- the way down to the first number of t or more
  -- it begins at the root
  pub at_root : (n t : ℕ) → w ≡ 2 ^ n → t ≤ get_or nodes 1 0 → AtNode nodes t 1
  at_root n t is fits = record {
    d = n;
    some = omega arith;
    low = omega arith;
    high = omega arith;
    left = λ j from to. absurd (omega arith);
    here = fits;
  }

  -- where the root isn't large enough, no number is
  pub none_below_root : (n t : ℕ) → w ≡ 2 ^ n → get_or nodes 1 0 < t → (j : ℕ) → w ≤ j → j < 2 * w → get_or nodes j 0 < t
  none_below_root n t is small j from to = let most = most_below n 1 j (omega arith) (omega arith) (omega arith) (omega arith) in omega arith

  -- nor where the row is a tree
  pub no_first : HasWidth (length nodes) → (t : ℕ) → get_or nodes 1 0 < t → (j : ℕ) → j < w → peak nodes j < t
  no_first width t small j less = elim width [
    | inl none ↦ absurd (omega arith)
    | inr some ↦ none_below_root some.0 t (let e = some.1 in omega arith) small (w + j) (omega arith) (omega arith)
  ]

  -- one step down to the left
  pub step_left : (t k : ℕ) → AtNode nodes t k → k < w → t ≤ get_or nodes (2 * k) 0 → AtNode nodes t (2 * k)
  step_left t k at inside fits = go at.d at.some at.low at.high at.left
    where
      go : (d : ℕ) → 0 < k → w ≤ k * 2 ^ d → (k + 1) * 2 ^ d ≤ 2 * w → ((j : ℕ) → w ≤ j → j < k * 2 ^ d → get_or nodes j 0 < t) → AtNode nodes t (2 * k)
      go zero some low high left = absurd (omega arith)
      go (suc d) some low high left =
          let first = first_below k d in
          let last = last_below k d in
          record {
            d = d;
            some = omega arith;
            low = omega arith;
            high = omega arith;
            left = λ j from to. left j from (omega arith);
            here = fits;
          }

  -- one step down to the right
  pub step_right : (t k : ℕ) → AtNode nodes t k → k < w → get_or nodes (2 * k) 0 < t → AtNode nodes t (2 * k + 1)
  step_right t k at inside small = go at.d at.some at.low at.high at.left
    where
      go : (d : ℕ) → 0 < k → w ≤ k * 2 ^ d → (k + 1) * 2 ^ d ≤ 2 * w → ((j : ℕ) → w ≤ j → j < k * 2 ^ d → get_or nodes j 0 < t)
          → AtNode nodes t (2 * k + 1)
      go zero some low high left = absurd (omega arith)
      go (suc d) some low high left =
          let first = first_below k d in
          let last = last_below k d in
          let node = larger k (omega arith) inside in
          let fits = at.here in
          record {
            d = d;
            some = omega arith;
            low = omega arith;
            high = omega arith;
            left = λ j from to. elim (cases_lt j (2 * k * 2 ^ d)) [
              | inl l ↦ left j from (omega arith)
              | inr r ↦ let most = most_below d (2 * k) j (omega arith) (omega arith) r to in omega arith
            ];
            here = is_second (get_or nodes (2 * k) 0) (get_or nodes (2 * k + 1) 0) t (omega arith) small;
          }

  -- it has come to a number: the first one that is large enough
  pub arrived : (t k : ℕ) → AtNode nodes t k → w ≤ k → FirstPeak nodes t (k - w)
  arrived t k at leaf = go at.d at.low at.high at.left
    where
      go : (d : ℕ) → w ≤ k * 2 ^ d → (k + 1) * 2 ^ d ≤ 2 * w → ((j : ℕ) → w ≤ j → j < k * 2 ^ d → get_or nodes j 0 < t) → FirstPeak nodes t (k - w)
      go zero low high left = record {
        within = omega arith;
        fits = rw (let e : w + (k - w) ≡ k = omega arith in e) at.here;
        none = λ j less. left (w + j) (omega arith) (omega arith);
      }
      go (suc d) low high left = absurd (let last = last_below k d in let wider = wide (2 * k + 1 + 1) d in omega arith)

-- ---- the way up from a place and down to the last number before it that isn't 0
module _ (nodes : List ℕ) (larger : AreLarger nodes) (i : ℕ) where
  abbrev half : ℕ
  half = length nodes / 2

  pub up_start : (n : ℕ) → half ≡ 2 ^ n → i < half → AtUp nodes i (half + i)
  up_start n is inside = record {
    m = n;
    d = 0;
    width = omega arith;
    from = omega arith;
    to = omega arith;
    low = omega arith;
    at = omega arith;
    none = λ j from to. absurd (omega arith);
  }

  pub up_begin : HasWidth (length nodes) → i < half → AtUp nodes i (half + i)
  up_begin width inside = elim width [
    | inl none ↦ absurd (omega arith)
    | inr some ↦ up_start some.0 (let e = some.1 in omega arith) inside
  ]

  pub up_inside : (k : ℕ) → AtUp nodes i k → i < half → k < length nodes
  up_inside k u inside = let wider = wide k u.d in let at = u.at in omega arith

  -- one step up, from the left or where the left neighbour is 0
  pub up_step : (k : ℕ) → AtUp nodes i k → 1 < k → i < half → (k % 2 ≡ 1 → get_or nodes (k - 1) 0 ≡ 0) → AtUp nodes i (k / 2)
  up_step k u more inside nil = go u.m u.d u.width u.from u.to u.low u.at u.none
    where
      go : (m d : ℕ) → half ≡ 2 ^ m * 2 ^ d → 2 ^ m ≤ k → k < 2 * 2 ^ m → half ≤ k * 2 ^ d → k * 2 ^ d ≤ half + i
          → ((j : ℕ) → k * 2 ^ d ≤ j → j < half + i → get_or nodes j 0 ≡ 0) → AtUp nodes i (k / 2)
      go zero d width from to low at none = absurd (omega arith)
      go (suc m) d width from to low at none =
          let twice : 2 ^ suc m ≡ 2 * 2 ^ m = omega (arith, pow-suc 2 m) in
          let first = first_below (k / 2) d in
          let halves : half ≡ 2 ^ m * 2 ^ suc d = width ∙ ap (λ x. x * 2 ^ d) twice ∙ sym (first_below (2 ^ m) d) in
          let over : 2 ^ m ≤ k / 2 = omega arith in
          let low' : half ≤ k / 2 * 2 ^ suc d = omega (arith, halves, mul-le-mul_right {m = 2 ^ m} {n = k / 2} (2 ^ suc d) over) in
          elim (cases_eq (k % 2) 1) [
            | inl odd ↦
                let before : 2 * (k / 2) ≡ k - 1 = omega arith in
                let one : (k - 1 + 1) * 2 ^ d ≡ k * 2 ^ d = ap (λ x. x * 2 ^ d) (let e : k - 1 + 1 ≡ k = omega arith in e) in
                let two : 2 * (k / 2) * 2 ^ d ≡ (k - 1) * 2 ^ d = ap (λ x. x * 2 ^ d) before in
                let step : k * 2 ^ d ≡ 2 * (k / 2) * 2 ^ d + 2 ^ d = omega (arith, ap (λ x. x * 2 ^ d) (let e : k ≡ 2 * (k / 2) + 1 = omega arith in e)) in
                record {
                  m = m;
                  d = suc d;
                  width = halves;
                  from = over;
                  to = omega arith;
                  low = low';
                  at = omega arith;
                  none = λ j from to. elim (cases_lt j (k * 2 ^ d)) [
                    | inl l ↦
                        let most = most_below nodes larger d (k - 1) j (omega arith) (omega arith) (omega arith) (omega arith) in
                        omega (arith, nil odd)
                    | inr r ↦ none j r to
                  ];
                }
            | inr even ↦
                let same : 2 * (k / 2) ≡ k = omega arith in
                let step : k * 2 ^ d ≡ 2 * (k / 2) * 2 ^ d = ap (λ x. x * 2 ^ d) (sym same) in
                record {
                  m = m;
                  d = suc d;
                  width = halves;
                  from = over;
                  to = omega arith;
                  low = low';
                  at = omega arith;
                  none = λ j from to. none j (omega arith) to;
                }
          ]

  -- at the top all numbers before the place are 0
  pub up_done : (k : ℕ) → AtUp nodes i k → k ≤ 1 → (j : ℕ) → j < i → peak nodes j ≡ 0
  up_done k u top j less = go u.m u.d u.width u.from u.to u.none
    where
      go : (m d : ℕ) → half ≡ 2 ^ m * 2 ^ d → 2 ^ m ≤ k → k < 2 * 2 ^ m → ((j : ℕ) → k * 2 ^ d ≤ j → j < half + i → get_or nodes j 0 ≡ 0)
          → peak nodes j ≡ 0
      go zero d width from to none =
          let one : k ≡ 1 = omega arith in
          none (half + j) (let e : k * 2 ^ d ≡ 2 ^ d = ap (λ x. x * 2 ^ d) one ∙ omega arith in omega arith) (omega arith)
      go (suc m) d width from to none = absurd (let twice = pow-suc 2 m in let some = pow_pos m in omega arith)

  -- it turns at a right word whose left neighbour isn't 0
  pub down_start : (k : ℕ) → AtUp nodes i k → 1 < k → k % 2 ≡ 1 → get_or nodes (k - 1) 0 ≢ 0 → AtDown nodes i (k - 1)
  down_start k u more odd here = go u.m u.d u.width u.from u.to u.at u.none
    where
      go : (m d : ℕ) → half ≡ 2 ^ m * 2 ^ d → 2 ^ m ≤ k → k < 2 * 2 ^ m → k * 2 ^ d ≤ half + i
          → ((j : ℕ) → k * 2 ^ d ≤ j → j < half + i → get_or nodes j 0 ≡ 0) → AtDown nodes i (k - 1)
      go zero d width from to at none = absurd (omega arith)
      go (suc m) d width from to at none =
          let twice : 2 ^ suc m ≡ 2 * 2 ^ m = omega (arith, pow-suc 2 m) in
          let same : (k - 1 + 1) * 2 ^ d ≡ k * 2 ^ d = ap (λ x. x * 2 ^ d) (let e : k - 1 + 1 ≡ k = omega arith in e) in
          let over : 2 ^ suc m ≤ k - 1 = omega arith in
          let wide = mul-le-mul_right {m = 2 ^ suc m} {n = k - 1} (2 ^ d) over in
          record {
            d = d;
            some = omega arith;
            low = omega arith;
            below = omega arith;
            here = here;
            none = λ j from to. none j (omega arith) to;
          }

  -- one step down to the right where that isn't 0
  pub down_right : (k : ℕ) → AtDown nodes i k → k < half → get_or nodes (2 * k + 1) 0 ≢ 0 → AtDown nodes i (2 * k + 1)
  down_right k at inside some = go at.d at.low at.below at.none
    where
      go : (d : ℕ) → half ≤ k * 2 ^ d → (k + 1) * 2 ^ d ≤ half + i → ((j : ℕ) → (k + 1) * 2 ^ d ≤ j → j < half + i → get_or nodes j 0 ≡ 0)
          → AtDown nodes i (2 * k + 1)
      go zero low below none = absurd (omega arith)
      go (suc d) low below none =
          let first = first_below k d in
          let last = last_below k d in
          record {
            d = d;
            some = omega arith;
            low = omega arith;
            below = omega arith;
            here = some;
            none = λ j from to. none j (omega arith) to;
          }

  -- else to the left
  pub down_left : (k : ℕ) → AtDown nodes i k → k < half → i < half → get_or nodes (2 * k + 1) 0 ≡ 0 → AtDown nodes i (2 * k)
  down_left k at inside fits nil = go at.d at.low at.below at.none
    where
      go : (d : ℕ) → half ≤ k * 2 ^ d → (k + 1) * 2 ^ d ≤ half + i → ((j : ℕ) → (k + 1) * 2 ^ d ≤ j → j < half + i → get_or nodes j 0 ≡ 0)
          → AtDown nodes i (2 * k)
      go zero low below none = absurd (omega arith)
      go (suc d) low below none =
          let first = first_below k d in
          let last = last_below k d in
          let node = larger k at.some inside in
          let one = at.some in
          record {
            d = d;
            some = omega arith;
            low = omega arith;
            below = omega arith;
            here = λ z. at.here (node ∙ max_zero (get_or nodes (2 * k) 0) (get_or nodes (2 * k + 1) 0) z nil);
            none = λ j from to. elim (cases_lt j ((2 * k + 1 + 1) * 2 ^ d)) [
              | inl l ↦
                  let most = most_below nodes larger d (2 * k + 1) j (omega arith) (omega arith) (omega arith) l in
                  omega arith
              | inr r ↦ none j (omega arith) to
            ];
          }

  -- it has come to a number
  pub down_done : (k : ℕ) → AtDown nodes i k → half ≤ k → i < half → LastPeak nodes i (k - half)
  down_done k at leaf fits = go at.d at.below at.none
    where
      go : (d : ℕ) → (k + 1) * 2 ^ d ≤ half + i → ((j : ℕ) → (k + 1) * 2 ^ d ≤ j → j < half + i → get_or nodes j 0 ≡ 0) → LastPeak nodes i (k - half)
      go zero below none = record {
        below = omega arith;
        some = rw (let e : half + (k - half) ≡ k = omega arith in e) at.here;
        none = λ l more less. none (half + l) (omega arith) (omega arith);
      }
      go (suc d) below none = absurd (let last = last_below k d in let wider = wide (2 * k + 1 + 1) d in omega arith)

-- ---- a number is put: all words but one are the larger of the two below them
-- word k / 2 needn't be, where it isn't 0
pub record IsPut (old : List ℕ) (i v : ℕ) (new : List ℕ) (k : ℕ) : Type 0 where
  pub long : length new ≡ length old
  pub larger : (j : ℕ) → 0 < j → j < length new / 2 → j ≢ k / 2 → get_or new j 0 ≡ max (get_or new (2 * j) 0) (get_or new (2 * j + 1) 0)
  pub here : get_or new (length new / 2 + i) 0 ≡ v
  pub others : (j : ℕ) → j < length new / 2 → j ≢ i → get_or new (length new / 2 + j) 0 ≡ get_or old (length new / 2 + j) 0
  pub some : 0 < k
  pub low : k < length new
  pub even : length new % 2 ≡ 0

pub put_start : (old : List ℕ) (i v : ℕ) (new : List ℕ) (k : ℕ) → AreLarger old → length old % 2 ≡ 0 → i < length old / 2 → k ≡ length old / 2 + i → new
    ≡ set old k v
    → length new ≡ length old → IsPut old i v new k
put_start old i v new k larger even inside ek e el =
    let half : length new / 2 ≡ length old / 2 = ap (λ n. n / 2) el in
    let same : (j : ℕ) → j ≢ k → get_or new j 0 ≡ get_or old j 0 = λ j ne. ap (λ l. get_or l j 0) e ∙ get_or-set_other old k j v 0 ne in
    record {
      long = el;
      larger = λ j some less ne. rw (same j (omega arith), same (2 * j) (omega arith), same (2 * j + 1) (omega arith)) (larger j some (omega arith));
      here = rw (half, ← ek, e) (get_or-set_same old k v 0 (omega arith));
      others = λ j less ne. same (length new / 2 + j) (omega arith);
      some = omega arith;
      low = omega arith;
      even = omega arith;
    }

-- one step up
pub put_step : (old : List ℕ) (i v : ℕ) (mid new : List ℕ) (k m : ℕ) → IsPut old i v mid k → i < length old / 2 → 1 < k
    → m ≡ max (get_or mid (2 * (k / 2)) 0) (get_or mid (2 * (k / 2) + 1) 0) → new ≡ set mid (k / 2) m → length new ≡ length mid → IsPut old i v new (k / 2)
put_step old i v mid new k m p inside up em e el =
    let half : length new / 2 ≡ length mid / 2 = ap (λ n. n / 2) el in
    let low = p.low in
    let even = p.even in
    let long = p.long in
    let half' : length mid / 2 ≡ length old / 2 = ap (λ n. n / 2) long in
    let same : (j : ℕ) → j ≢ k / 2 → get_or new j 0 ≡ get_or mid j 0 = λ j ne. ap (λ l. get_or l j 0) e ∙ get_or-set_other mid (k / 2) j m 0 ne in
    let now : get_or new (k / 2) 0 ≡ m = ap (λ l. get_or l (k / 2) 0) e ∙ get_or-set_same mid (k / 2) m 0 (omega arith) in
    record {
      long = el ∙ long;
      larger = λ j some less ne. elim (cases_eq j (k / 2)) [
        | inl here ↦ rw (here, now, same (2 * (k / 2)) (omega arith), same (2 * (k / 2) + 1) (omega arith)) em
        | inr apart ↦ elim (cases_eq (2 * j) (k / 2)) [
          | inl left ↦ absurd (ne (omega arith))
          | inr not ↦ elim (cases_eq (2 * j + 1) (k / 2)) [
            | inl right ↦ absurd (ne (omega arith))
            | inr off ↦ rw (same j apart, same (2 * j) not, same (2 * j + 1) off) (p.larger j some (omega arith) apart)
          ]
        ]
      ];
      here = rw half (same (length mid / 2 + i) (omega arith) ∙ p.here);
      others = λ j less ne. rw half (same (length mid / 2 + j) (omega arith) ∙ p.others j (omega arith) ne);
      some = omega arith;
      low = omega arith;
      even = omega arith;
    }

-- all words are the larger of two again
pub put_done : (old : List ℕ) (i v : ℕ) (new : List ℕ) (k : ℕ) → IsPut old i v new k
    → (0 < k / 2 → get_or new (k / 2) 0 ≡ max (get_or new (2 * (k / 2)) 0) (get_or new (2 * (k / 2) + 1) 0)) → AreLarger new
put_done old i v new k p at j some less = elim (cases_eq j (k / 2)) [
  | inl here ↦ rw here (at (omega arith))
  | inr apart ↦ p.larger j some less apart
]
