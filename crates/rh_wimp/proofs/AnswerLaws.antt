-- Which entry is a task's, and what it holds.
use Rattle.rh_wimp.proofs.Common.{◌≡◌, ℕ, ◌<◌, ◌≢◌, inl, inr, true, false, Bool, List, length, get_or, refl, sym, ap, ◌∙◌, arith, cases_eq, Option, Some}
use Rattle.rh_wimp.proofs.Common.{None, ◌==◌, position, word, Heap, block_bytes, HasBlock, Parcel, padded, answers_held, SeatRow, RowsLie, Holds, entry_at}
use Rattle.rh_wimp.proofs.Common.{row_at, no_entry, Entry, ref_read, padded-least}
use Rattle.std.proofs.lemmas.List.{get_or_default}
use Rattle.rh_wimp.proofs.PostLaws.{found-at, not-found}
use Rattle.rh_wimp.proofs.RowEdits.{lies-above}

pub read_entry : (es : List Entry) (i : ℕ) (e : Entry) → i < length es → e ≡ get_or es i e → e ≡ entry_at es i
read_entry es i e l r = r ∙ get_or_default es i e no_entry l

-- one entry alone has a handle
pub one_entry : (h : Heap) (es : List Entry) (rows : List SeatRow) (x at i : ℕ) → RowsLie h es rows → position (λ (e : Entry). e.handle == x) es ≡ Some at
    → i < length rows → (row_at rows i).handle ≡ x → at ≡ i
one_entry h es rows x at i s f l e =
    let w = found-at es x at f in
    let len = s.len in
    elim (cases_eq at i) [
      | inl z ↦ z
      | inr ne ↦ absurd (s.handles at i (omega arith) l ne (sym (s.each at (omega arith)).handle ∙ w.1 ∙ sym e))
    ]

pub some_entry : (h : Heap) (es : List Entry) (rows : List SeatRow) (x i : ℕ) → RowsLie h es rows → position (λ (e : Entry). e.handle == x) es ≡ None
    → i < length rows → (row_at rows i).handle ≢ x
some_entry h es rows x i s n l = λ z. let len = s.len in not-found es x n i (omega arith) ((s.each i l).handle ∙ z)

-- ---- what a task holds
pub held-has : (h : Heap) (b : ℕ) (o : Option Parcel) → Holds h b o → b ≢ 0 → HasBlock b 24 h
held-has h b None s ne = absurd (ne s)
held-has h b (Some p) s ne = record { bytes = padded 0 p; found = ap (λ a. block_bytes a h) s.0 ∙ s.1.block; room = padded-least 0 p }

pub held-test : (h : Heap) (b n : ℕ) (o : Option Parcel) (t : Bool) → Holds h b o → (b ≡ 0 → t ≡ false)
    → (b ≢ 0 → (bytes : List ℕ) → block_bytes b h ≡ Some bytes → t ≡ (word bytes 16 == n)) → t ≡ answers_held n o
held-test h b n None t s none some = none s
held-test h b n (Some p) t s none some =
    let a = lies-above h 0 p s.1 in
    let e = s.0 in
    some (omega arith) (padded 0 p) (ap (λ x. block_bytes x h) e ∙ s.1.block) ∙ ap (λ k. k == n) (ref_read 0 p (omega arith) s.1.fits)

pub answered-some : (n : ℕ) (o : Option Parcel) → answers_held n o ≡ true → (p : Parcel) × (o ≡ Some p)
answered-some n None e = absurd cc
answered-some n (Some p) e = (p, refl)
