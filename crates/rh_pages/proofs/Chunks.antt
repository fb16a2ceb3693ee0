-- What a write inside one page does to the bytes of page lists.
use Rattle.rh_pages.proofs.Common.{◌≡◌, ◌≢◌, ℕ, zero, suc, ◌+◌, ◌-◌, ◌*◌, ◌<◌, ◌≤◌, ◌⊎◌, inl, inr, ◌==◌, cond, List, [], ◌∷◌, ◌++◌, length, get_or, refl, sym}
use Rattle.rh_pages.proofs.Common.{ap, ◌∙◌, arith, cases_eq, cases_lt, PAGE, part, with_part, length-part, length-put, paged_bytes, times, length-bytes}
use Rattle.std.proofs.lemmas.Bool.Decides.{nat_tests}
use Rattle.std.proofs.lemmas.Grind.{same_number_lists}
use Rattle.rh_defs.proofs.BytesLaws.{get-part, put_below, put_above, put_inside, part-part, part-put_below, part-put_above, part-append_left}
use Rattle.rh_defs.proofs.BytesLaws.{part-append_right, put-append_left, put-append_right}
use Rattle.rh_pages.specs.Pages.{page}

-- how often a page stands in a list of one
abbrev pub one_if : ℕ → ℕ → ℕ
one_if j k = cond (j == k) 1 0

-- the first of a list is the page, or not
pub head_tells : (j k : ℕ) → ((j ≡ k) × (one_if j k ≡ 1)) ⊎ ((j ≢ k) × (one_if j k ≡ 0))
head_tells j k = elim (cases_eq j k) [
  | inl e ↦ inl (e, let one : one_if j k ≡ 1 = grind (arith, nat_tests) in one)
  | inr h ↦ inr (h, let none : one_if j k ≡ 0 = grind (arith, nat_tests) in none)
]

below_or_above : (j k : ℕ) → j ≢ k → (j < k) ⊎ (k < j)
below_or_above zero zero h = absurd (h refl)
below_or_above zero (suc k) h = inl (omega arith)
below_or_above (suc j) zero h = inr (omega arith)
below_or_above (suc j) (suc k) h = elim (below_or_above j k (λ e. h (ap suc e))) [ inl a ↦ inl (omega arith) | inr a ↦ inr (omega arith) ]

-- a write inside a range
pub part-put_over : (b : List ℕ) (p n o : ℕ) (ws : List ℕ) → o + length ws ≤ n → p + n ≤ length b → part (with_part b (p + o) ws) p n ≡ with_part
    (part b p n) o ws
part-put_over b p n o ws fits inside =
    let len = length-part b p n in
    same_number_lists (part (with_part b (p + o) ws) p n) (with_part (part b p n) o ws)
    (length-part (with_part b (p + o) ws) p n ∙ sym (length-put (part b p n) o ws ∙ len))
    (λ k l. let i : k < n = omega (arith, length-part (with_part b (p + o) ws) p n) in
    get-part (with_part b (p + o) ws) p n k i ∙ elim (cases_lt k o) [
      | inl h ↦ put_below b (p + o) ws (p + k) (omega arith) ∙ sym (put_below (part b p n) o ws k h ∙ get-part b p n k i)
      | inr g ↦ elim (cases_lt k (o + length ws)) [
        | inl h ↦ put_inside b (p + o) ws (p + k) (k - o) (omega arith) (omega arith) (omega arith)
            ∙ sym (put_inside (part b p n) o ws k (k - o) (omega arith) (omega arith) (omega arith))
        | inr f ↦ put_above b (p + o) ws (p + k) (omega arith) ∙ sym (put_above (part b p n) o ws k f ∙ get-part b p n k i)
      ]
    ])

-- a part of one page is read
pub bytes_read : (r ks : List ℕ) (i o n : ℕ) → i < length ks → o + n ≤ PAGE → part (paged_bytes r ks) (PAGE * i + o) n ≡ part r (PAGE * get_or ks i 0 + o) n
bytes_read r [] i o n lt fits = absurd (omega arith)
bytes_read r (k ∷ ks) zero o n lt fits =
    let z : PAGE * 0 + o ≡ o = omega arith in let len = length-part r (PAGE * k) PAGE in
    ap (λ m. part (page r k ++ paged_bytes r ks) m n) z ∙ part-append_left (page r k) (paged_bytes r ks) o n (omega arith) ∙ part-part r
    (PAGE * k) PAGE o n fits
bytes_read r (k ∷ ks) (suc i) o n lt fits =
    let len = length-part r (PAGE * k) PAGE in let at : PAGE * suc i + o ≡ length (page r k) + (PAGE * i + o) = omega arith in
    ap (λ m. part (page r k ++ paged_bytes r ks) m n) at ∙ part-append_right (page r k) (paged_bytes r ks) (PAGE * i + o) n ∙ bytes_read r ks i o n
    (omega arith) fits

-- where a page stands, it is counted
pub stands : (k : ℕ) (ks : List ℕ) (i : ℕ) → i < length ks → get_or ks i 0 ≡ k → 1 ≤ times k ks
stands k [] i li at = absurd (omega arith)
stands k (j ∷ ks) zero li at = elim (head_tells j k) [ inl e ↦ let one = e.1 in omega arith | inr h ↦ absurd (h.0 at) ]
stands k (j ∷ ks) (suc i) li at = let rest = stands k ks i (omega arith) at in omega arith

module _ (r : List ℕ) (k o : ℕ) (ws : List ℕ) (fits : o + length ws ≤ PAGE) (inside : PAGE * k + PAGE ≤ length r) where
  abbrev r' : List ℕ
  r' = with_part r (PAGE * k + o) ws

  page_same : page r' k ≡ with_part (page r k) o ws
  page_same = part-put_over r (PAGE * k) PAGE o ws fits inside

  page_other : (j : ℕ) → j ≢ k → page r' j ≡ page r j
  page_other j h = elim (below_or_above j k h) [
    | inl lt ↦ part-put_below r (PAGE * k + o) ws (PAGE * j) PAGE (omega arith)
    | inr gt ↦ part-put_above r (PAGE * k + o) ws (PAGE * j) PAGE (omega arith)
  ]

  -- a list of other pages
  pub bytes_other : (ks : List ℕ) → times k ks ≡ 0 → paged_bytes r' ks ≡ paged_bytes r ks
  bytes_other [] none = refl
  bytes_other (j ∷ ks) none = elim (head_tells j k) [
    | inl e ↦ let one = e.1 in absurd (omega arith)
    | inr h ↦ let zero' = h.1 in let rest : times k ks ≡ 0 = omega arith in
        ap (λ l. l ++ paged_bytes r' ks) (page_other j h.0) ∙ ap (λ l. page r j ++ l) (bytes_other ks rest)
  ]

  -- the list in which the page is the i-th
  pub bytes_same : (ks : List ℕ) (i : ℕ) → i < length ks → get_or ks i 0 ≡ k → times k ks ≤ 1 → paged_bytes r' ks ≡ with_part (paged_bytes r ks)
      (PAGE * i + o) ws
  bytes_same [] i li at once = absurd (omega arith)
  bytes_same (j ∷ ks) zero li at once = elim (head_tells j k) [
    | inl e ↦
        let one = e.1 in let rest : times k ks ≡ 0 = omega arith in let z : PAGE * 0 + o ≡ o = omega arith in let len = length-part r (PAGE * j) PAGE in
        ap (λ l. l ++ paged_bytes r' ks) (ap (page r') e.0 ∙ page_same ∙ ap (λ m. with_part (page r m) o ws) (sym e.0))
        ∙ ap (λ l. with_part (page r j) o ws ++ l) (bytes_other ks rest)
        ∙ sym (put-append_left (page r j) (paged_bytes r ks) o ws (omega arith)) ∙ ap (λ m. with_part (page r j ++ paged_bytes r ks) m ws) (sym z)
    | inr h ↦ absurd (h.0 at)
  ]
  bytes_same (j ∷ ks) (suc i) li at once =
      let in' : i < length ks = omega arith in let there = stands k ks i in' at in
      elim (head_tells j k) [
        | inl e ↦ let one = e.1 in absurd (omega arith)
        | inr h ↦
            let zero' = h.1 in let len = length-part r (PAGE * j) PAGE in let long = length-bytes r ks in
            let at' : length (page r j) + (PAGE * i + o) ≡ PAGE * suc i + o = omega arith in
            ap (λ l. l ++ paged_bytes r' ks) (page_other j h.0) ∙ ap (λ l. page r j ++ l) (bytes_same ks i in' at (omega arith))
            ∙ sym (put-append_right (page r j) (paged_bytes r ks) (PAGE * i + o) ws (omega arith)) ∙ ap (λ m. with_part (page r j ++ paged_bytes r ks) m ws) at'
      ]
