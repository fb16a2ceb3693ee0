-- A text that is written as far as a line shows it.
use Rattle.rh_map.proofs.Common.{◌≡◌, ℕ, ◌<◌, ◌≤◌, Bool, true, false, List, [], ◌++◌, length, map, take, refl, sym, ap, ◌∙◌, append-nil}
use Rattle.rh_map.proofs.Common.{length-append, arith, codes, nat_le, not, ◌==◌, nat_tests, eqb_apart, where_so, shown_byte, shown_line, Fills}
use Rattle.std.proofs.lemmas.List.{take-append-le}
use Rattle.rh_map.proofs.LineLemmas.{cut-long}

-- all of a text is written
pub fills-all : (row : List ℕ) → Fills row row
fills-all row = record { rest = []; whole = sym (append-nil row); full = λ short. refl }

-- a text of which all is written
fills-is : {row text : List ℕ} → Fills row text → length row ≤ 79 → text ≡ row
fills-is {row} p short = p.whole ∙ ap (λ r. row ++ r) (p.full short) ∙ append-nil row

-- a line shows the same of both
pub fills-shown : {row text : List ℕ} → Fills row text → shown_line row ≡ shown_line text
fills-shown {row} {text} p = by_test (nat_le (length row) 79) refl
  where
    long_text : 79 < length row → 79 < length text
    long_text long = omega (arith, ap length p.whole, length-append row p.rest, long)

    same_front : 79 < length row → take 77 text ≡ take 77 row
    same_front long = ap (take 77) p.whole ∙ take-append-le 77 row p.rest (omega (arith, long))

    by_test : (t : Bool) → nat_le (length row) 79 ≡ t → shown_line row ≡ shown_line text
    by_test true e = ap shown_line (sym (fills-is p (grind (arith, nat_tests))))
    by_test false e =
        let long : 79 < length row = grind (arith, nat_tests) in
        cut-long row long
        ∙ (ap (λ front. map shown_byte front ++ codes "..") (sym (same_front long)) ∙ sym (cut-long text (long_text long)))

-- ---- texts that are written part by part

-- what is written fills what was to be written so far, and this is left
pub record FillsLeft (row whole left : List ℕ) : Type 0 where
  pub so_far : List ℕ
  pub fills : Fills row so_far
  pub is : whole ≡ so_far ++ left

-- ---- texts that aren't empty

-- what stands where a text isn't empty
pub some-text : (t u : List ℕ) → 0 < length t → where_so (not (length t == 0)) u ≡ u
some-text t u some = ap (λ b. where_so (not b) u) (eqb_apart (length t) 0 (λ e. omega (arith, e, some)))
