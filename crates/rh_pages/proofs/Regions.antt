-- What a region's own calls do, in the words of byte lists.
use Rattle.rh_pages.proofs.Common.{◌≡◌, ℕ, ◌+◌, ◌≤◌, List, length, replicate, slice_range, refl, sym, ap, ◌∙◌, arith, length-replicate, part, with_part}
use Rattle.rh_pages.proofs.Common.{length-part, length-put, part-range}
use Rattle.std.specs.Int.{from_le_bytes, w32}
use Rattle.rh_region.specs.Patched.{with_run, patched}
use Rattle.rh_region.specs.Word.{word_at}
use Rattle.rh_region.specs.Zeros.{zeros}
use Rattle.rh_region.proofs.PatchedLemmas.{patched_same}
use Rattle.rh_defs.specs.Bytes.{word}
use Rattle.rh_defs.proofs.BytesLaws.{part-drop, part_all, put-parts, put_all}

pub run_put : (r : List ℕ) (p n : ℕ) (ws : List ℕ) → length ws ≡ n → p + n ≤ length r → with_run r p n ws ≡ with_part r p ws
run_put r p n ws l h = ap (λ k. with_run r p k ws) (sym l) ∙ sym (put-parts r p ws (omega arith))

pub slid : (r : List ℕ) (p q n : ℕ) → p + n ≤ length r → q + n ≤ length r → with_run r q n (slice_range r p (p + n)) ≡ with_part r q (part r p n)
slid r p q n h i = ap (with_run r q n) (sym (part-range r p n h)) ∙ run_put r q n (part r p n) (length-part r p n) i

pub zeroed : (r : List ℕ) (p n : ℕ) → p + n ≤ length r → with_run r p n (zeros n) ≡ with_part r p (replicate n 0)
unfolding zeros
zeroed r p n h = run_put r p n (replicate n 0) (length-replicate {A = ℕ} n 0) h

pub filled : (r : List ℕ) (p n : ℕ) (ws : List ℕ) → length ws ≡ n → p + n ≤ length r → patched r p n ws ≡ with_part r p ws
filled r p n ws l h = patched_same r p n ws l ∙ run_put r p n ws l h

-- a word is its four bytes
pub word-part_4 : (b : List ℕ) (p : ℕ) → from_le_bytes w32 (part b p 4) ≡ word b p
unfolding word part
word-part_4 b p =
    let two : p + 1 + 1 ≡ p + 2 = omega arith in let three : p + 1 + 1 + 1 ≡ p + 3 = omega arith in
    rw (three, two) refl

pub word_read : (r : List ℕ) (p : ℕ) → p + 4 ≤ length r → word_at r p ≡ word r p
word_read r p h = ap (from_le_bytes w32) (sym (part-drop r p 4 h)) ∙ word-part_4 r p

-- a word of an area is read where its bytes stand
pub word_there : (r b : List ℕ) (p at : ℕ) → p + 4 ≤ length r → part r p 4 ≡ part b at 4 → word_at r p ≡ word b at
word_there r b p at h e = word_read r p h ∙ sym (word-part_4 r p) ∙ ap (from_le_bytes w32) e ∙ word-part_4 b at

-- bytes are moved among all bytes of a region, which are lent
pub slid_whole : (r x y : List ℕ) (k p q n : ℕ) → k ≡ length r → x ≡ slice_range r 0 (0 + k) → y ≡ with_part x q (part x p n) → p + n ≤ length r
    → q + n ≤ length r → patched r 0 k y ≡ with_run r q n (slice_range r p (p + n))
slid_whole r x y k p q n long lent e h i =
    let all : x ≡ r = lent ∙ sym (part-range r 0 k (omega arith)) ∙ ap (part r 0) long ∙ part_all r in
    let moved : y ≡ with_part r q (part r p n) = e ∙ ap (λ l. with_part l q (part l p n)) all in
    let count : length y ≡ length r = ap length moved ∙ length-put r q (part r p n) in
    filled r 0 k y (count ∙ sym long) (omega arith) ∙ put_all r y count ∙ moved ∙ sym (slid r p q n h i)
