-- The one area of lent pages: what its bytes are, and what an edit of the lent bytes makes of the memory.
use Rattle.rh_lent_slot.proofs.Common.{◌≡◌, ℕ, ◌+◌, ◌-◌, ◌*◌, ◌/◌, ◌≤◌, ◌==◌, cond, Bool, true, false, List, ◌++◌, length, take, drop, replicate, refl, sym, ap}
use Rattle.rh_lent_slot.proofs.Common.{◌∙◌, append_assoc, arith, Option, Some, None, IsSome}
use Rattle.rh_lent_slot.proofs.Common.{w32, nat_tests, length-replicate, length-take-le, PAGE, with_part, part}
use Rattle.rh_lent_slot.proofs.Common.{Memory, area_set, bytes, length-part}
use Rattle.rh_lent_slot.proofs.Common.{first_pages, pages_memory_over, lent_memory_in, lent_pages_memory, pages_memory_shown}
use Rattle.std.specs.Int.{to_le_bytes}
use Rattle.std.proofs.Math.Seq.{take-append_seam}
use Rattle.std.proofs.lemmas.List.{length-append, take-append-drop, take-take}
use Rattle.rh_defs.specs.Bytes.{word, put_word}
use Rattle.rh_defs.specs.Memory.{IsOpen, with_bytes, grown, shrunk}
use Rattle.rh_defs.proofs.BytesLaws.{length-put, part-take, word-take, put-append_left, put-parts}
use Rattle.rh_defs.proofs.MemoryLaws.{area_set-area_set}
use Rattle.rh_lent_slot.specs.LentPages.{pages_behind}
use Rattle.rh_lent_slot.specs.declared.pages.LentPages.{LentPages}
use Rattle.rh_lent_slot.specs.declared.pages_mut.LentPagesMut.{LentPagesMut}

-- ---- the first bytes of a list

seam : {A : Type 0} (n : ℕ) (xs ys : List A) → length xs ≡ n → take n (xs ++ ys) ≡ xs
seam n xs ys e = ap (λ k. take k (xs ++ ys)) (sym e) ∙ take-append_seam xs ys

-- a write among the first n bytes is a write to them
pub take-put : (n : ℕ) (b : List ℕ) (at : ℕ) (xs : List ℕ) → n ≤ length b → at + length xs ≤ n
    → take n (with_part b at xs) ≡ with_part (take n b) at xs
take-put n b at xs l h =
    let len = length-take-le n b l in
    ap (λ x. take n (with_part x at xs)) (sym (take-append-drop n b))
    ∙ ap (take n) (put-append_left (take n b) (drop n b) at xs (omega arith))
    ∙ seam n (with_part (take n b) at xs) (drop n b) (length-put (take n b) at xs ∙ len)

-- zeros written behind the first n bytes, and these taken with them
pub take-zeros : (n k : ℕ) (b : List ℕ) → n + k ≤ length b
    → take (n + k) (with_part b n (replicate k 0)) ≡ take n b ++ replicate k 0
take-zeros n k b h =
    let zs : List ℕ = replicate k 0 in
    let some : length zs ≡ k = length-replicate {A = ℕ} k 0 in
    let len = length-take-le n b (omega arith) in
    ap (take (n + k)) (put-parts b n zs (omega arith) ∙ sym (append_assoc (take n b) zs (drop (n + length zs) b)))
    ∙ seam (n + k) (take n b ++ zs) (drop (n + length zs) b) (length-append (take n b) zs ∙ omega arith)

-- ---- one area of bytes

only_true : (b : Bool) (bs : List ℕ) → IsSome (cond b (Some bs) None) → b ≡ true
only_true true bs h = refl
only_true false bs h = absurd cc

is_zero : (id : ℕ) → (id == 0) ≡ true → id ≡ 0
is_zero id h = grind (arith, nat_tests)

memory_with : ℕ → ℕ → ℕ → (ℕ → Option (List ℕ)) → Memory
memory_with free pages loan area = record { area = area; free = free; pages = pages; loan = loan }

-- the area of the bytes is open
pub over-open : (bs : List ℕ) (free pages loan : ℕ) → IsOpen (pages_memory_over bs free pages loan) 0
unfolding pages_memory_over area_set
over-open bs free pages loan = refl

module _ (bs : List ℕ) (free pages loan id : ℕ) (o : IsOpen (pages_memory_over bs free pages loan) id) where
  open_zero : id ≡ 0
  unfolding pages_memory_over area_set
  open_zero = is_zero id (only_true (id == 0) bs o)

  bytes_over : bytes (pages_memory_over bs free pages loan) id ≡ bs
  unfolding pages_memory_over area_set bytes
  bytes_over = rw (only_true (id == 0) bs o) refl

  set_zero : (xs : List ℕ) → pages_memory_over xs free pages loan ≡ with_bytes (pages_memory_over bs free pages loan) 0 xs
  unfolding pages_memory_over with_bytes memory_with
  set_zero xs = ap (memory_with free pages loan) (sym (area_set-area_set (λ k. None) 0 (Some bs) (Some xs)))

  set_over : (xs : List ℕ) → pages_memory_over xs free pages loan ≡ with_bytes (pages_memory_over bs free pages loan) id xs
  set_over xs = set_zero xs ∙ ap (λ k. with_bytes (pages_memory_over bs free pages loan) k xs) (sym open_zero)

  grown_zero : (n : ℕ) → pages_memory_over (bs ++ replicate (PAGE * n) 0) (free - n) pages loan
      ≡ grown (pages_memory_over bs free pages loan) 0 n
  unfolding pages_memory_over grown area_set bytes memory_with
  grown_zero n =
      ap (memory_with (free - n) pages loan)
      (sym (area_set-area_set (λ k. None) 0 (Some bs) (Some (bs ++ replicate (PAGE * n) 0))))

  grown_over : (n : ℕ) → pages_memory_over (bs ++ replicate (PAGE * n) 0) (free - n) pages loan
      ≡ grown (pages_memory_over bs free pages loan) id n
  grown_over n = grown_zero n ∙ ap (λ k. grown (pages_memory_over bs free pages loan) k n) (sym open_zero)

  shrunk_zero : (n : ℕ) → pages_memory_over (take (length bs - PAGE * n) bs) (free + n) pages loan
      ≡ shrunk (pages_memory_over bs free pages loan) 0 n
  unfolding pages_memory_over shrunk area_set bytes memory_with
  shrunk_zero n =
      ap (memory_with (free + n) pages loan)
      (sym (area_set-area_set (λ k. None) 0 (Some bs) (Some (take (length bs - PAGE * n) bs))))

  shrunk_over : (n : ℕ) → pages_memory_over (take (length bs - PAGE * n) bs) (free + n) pages loan
      ≡ shrunk (pages_memory_over bs free pages loan) id n
  shrunk_over n = shrunk_zero n ∙ ap (λ k. shrunk (pages_memory_over bs free pages loan) k n) (sym open_zero)

-- ---- the area of lent pages

-- the first n pages of bytes, under any name of a loan
module _ (b : List ℕ) (n loan id : ℕ) (within : PAGE * n ≤ length b) (o : IsOpen (lent_memory_in b n loan) id) where
  pages_bytes : bytes (lent_memory_in b n loan) id ≡ first_pages n b
  pages_bytes = bytes_over _ _ _ _ id o

  pages_length : length (bytes (lent_memory_in b n loan) id) ≡ PAGE * n
  pages_length = ap length pages_bytes ∙ length-take-le (PAGE * n) b within

  pages_part : (at k : ℕ) → at + k ≤ length (bytes (lent_memory_in b n loan) id)
      → part b at k ≡ part (bytes (lent_memory_in b n loan) id) at k
  pages_part at k h =
      let long = pages_length in
      sym (ap (λ (x : List ℕ). part x at k) pages_bytes ∙ part-take (PAGE * n) b at k (omega arith))

  pages_word : (at : ℕ) → at + 4 ≤ length (bytes (lent_memory_in b n loan) id)
      → word b at ≡ word (bytes (lent_memory_in b n loan) id) at
  pages_word at h =
      let long = pages_length in
      sym (ap (λ (x : List ℕ). word x at) pages_bytes ∙ word-take (PAGE * n) b at (omega arith))

-- bytes that are lent to be read
module _ (s : LentPages) (id : ℕ) (o : IsOpen (pages_memory_shown s) id) where
  pub shown_length : length (bytes (pages_memory_shown s) id) ≡ PAGE * s.pages
  unfolding pages_memory_shown
  shown_length = pages_length s.bytes.now s.pages 0 id s.within o

  pub shown_part : (at n : ℕ) → at + n ≤ length (bytes (pages_memory_shown s) id)
      → part s.bytes.now at n ≡ part (bytes (pages_memory_shown s) id) at n
  unfolding pages_memory_shown
  shown_part at n h = pages_part s.bytes.now s.pages 0 id s.within o at n h

  pub shown_word : (at : ℕ) → at + 4 ≤ length (bytes (pages_memory_shown s) id)
      → word s.bytes.now at ≡ word (bytes (pages_memory_shown s) id) at
  unfolding pages_memory_shown
  shown_word at h = pages_word s.bytes.now s.pages 0 id s.within o at h

-- bytes that are lent to be written
module _ (s : LentPagesMut) (id : ℕ) (o : IsOpen (lent_pages_memory s) id) where
  -- an open area's bytes are those of the first pages
  pub lent_bytes : bytes (lent_pages_memory s) id ≡ first_pages s.pages s.bytes.now
  unfolding lent_pages_memory
  lent_bytes = pages_bytes s.bytes.now s.pages s.bytes.ghost_name id s.within o

  pub lent_length : length (bytes (lent_pages_memory s) id) ≡ PAGE * s.pages
  unfolding lent_pages_memory
  lent_length = pages_length s.bytes.now s.pages s.bytes.ghost_name id s.within o

  pub part_in : (at n : ℕ) → at + n ≤ length (bytes (lent_pages_memory s) id)
      → part s.bytes.now at n ≡ part (bytes (lent_pages_memory s) id) at n
  unfolding lent_pages_memory
  part_in at n h = pages_part s.bytes.now s.pages s.bytes.ghost_name id s.within o at n h

  pub word_in : (at : ℕ) → at + 4 ≤ length (bytes (lent_pages_memory s) id)
      → word s.bytes.now at ≡ word (bytes (lent_pages_memory s) id) at
  unfolding lent_pages_memory
  word_in at h = pages_word s.bytes.now s.pages s.bytes.ghost_name id s.within o at h

  same_length : (new : List ℕ) → length new ≡ length s.bytes.now → lent_memory_in new s.pages s.bytes.ghost_name
      ≡ pages_memory_over (first_pages s.pages new) (pages_behind s.pages s.bytes.now) (length s.bytes.now / PAGE) s.bytes.ghost_name
  same_length new e =
      ap (λ n. pages_memory_over (first_pages s.pages new) (n / PAGE - s.pages) (n / PAGE) s.bytes.ghost_name) e

  -- bytes written over those of the area
  pub written : (new : List ℕ) (at : ℕ) (xs : List ℕ) → new ≡ with_part s.bytes.now at xs
      → at + length xs ≤ length (bytes (lent_pages_memory s) id)
      → lent_memory_in new s.pages s.bytes.ghost_name ≡ with_bytes (lent_pages_memory s) id (with_part (bytes (lent_pages_memory s) id) at xs)
  unfolding lent_pages_memory
  written new at xs e h =
      let long = lent_length in
      same_length new (ap length e ∙ length-put s.bytes.now at xs)
      ∙ set_over _ _ _ _ id o (first_pages s.pages new)
      ∙ ap (with_bytes (lent_pages_memory s) id) (ap (first_pages s.pages) e
      ∙ take-put (PAGE * s.pages) s.bytes.now at xs s.within (omega arith) ∙ ap (λ (x : List ℕ). with_part x at xs) (sym lent_bytes))

  -- a word written over one of the area
  pub word_written : (new : List ℕ) (at w : ℕ) → new ≡ put_word s.bytes.now at w → at + 4 ≤ length (bytes (lent_pages_memory s) id)
      → lent_memory_in new s.pages s.bytes.ghost_name ≡ with_bytes (lent_pages_memory s) id (put_word (bytes (lent_pages_memory s) id) at w)
  unfolding put_word
  word_written new at w e h = written new at (to_le_bytes w32 w) e (omega arith)

  -- bytes of the area moved within it
  pub slid : (new : List ℕ) (from to n : ℕ) → new ≡ with_part s.bytes.now to (part s.bytes.now from n)
      → from + n ≤ length (bytes (lent_pages_memory s) id) → to + n ≤ length (bytes (lent_pages_memory s) id)
      → lent_memory_in new s.pages s.bytes.ghost_name
      ≡ with_bytes (lent_pages_memory s) id (with_part (bytes (lent_pages_memory s) id) to (part (bytes (lent_pages_memory s) id) from n))
  slid new from to n e h i =
      let moved = part (bytes (lent_pages_memory s) id) from n in
      let some = length-part (bytes (lent_pages_memory s) id) from n in
      written new to moved (e ∙ ap (with_part s.bytes.now to) (part_in from n h)) (omega arith)

  -- pages of zeros taken from behind the area
  pub grew : (new : List ℕ) (n : ℕ) → PAGE * (s.pages + n) ≤ length s.bytes.now
      → new ≡ with_part s.bytes.now (PAGE * s.pages) (replicate (PAGE * n) 0)
      → lent_memory_in new (s.pages + n) s.bytes.ghost_name ≡ grown (lent_pages_memory s) id n
  unfolding lent_pages_memory
  grew new n h e =
      let b = s.bytes.now in
      let sum : PAGE * (s.pages + n) ≡ PAGE * s.pages + PAGE * n = omega arith in
      let len : length new ≡ length b = ap length e ∙ length-put b (PAGE * s.pages) (replicate (PAGE * n) 0) in
      let bs : first_pages (s.pages + n) new ≡ first_pages s.pages b ++ replicate (PAGE * n) 0 =
      ap (λ k. take k new) sum ∙ ap (take (PAGE * s.pages + PAGE * n)) e ∙ take-zeros (PAGE * s.pages) (PAGE * n) b (omega arith) in
      let free : length b / PAGE - (s.pages + n) ≡ (length b / PAGE - s.pages) - n = omega arith in
      ap (λ k. pages_memory_over (first_pages (s.pages + n) new) (k / PAGE - (s.pages + n)) (k / PAGE) s.bytes.ghost_name) len
      ∙ ap (λ (x : List ℕ). pages_memory_over x (length b / PAGE - (s.pages + n)) (length b / PAGE) s.bytes.ghost_name) bs
      ∙ ap (λ f. pages_memory_over (first_pages s.pages b ++ replicate (PAGE * n) 0) f (length b / PAGE) s.bytes.ghost_name) free
      ∙ grown_over _ _ _ _ id o n

  -- pages given back at the area's end
  pub shrank : (n : ℕ) → PAGE * n ≤ length (bytes (lent_pages_memory s) id)
      → lent_memory_in s.bytes.now (s.pages - n) s.bytes.ghost_name ≡ shrunk (lent_pages_memory s) id n
  unfolding lent_pages_memory
  shrank n h =
      let b = s.bytes.now in
      let long = lent_length in
      let len = length-take-le (PAGE * s.pages) b s.within in
      let less : PAGE * (s.pages - n) ≡ length (first_pages s.pages b) - PAGE * n = omega arith in
      let bs : first_pages (s.pages - n) b ≡ take (length (first_pages s.pages b) - PAGE * n) (first_pages s.pages b) =
      sym (take-take (PAGE * (s.pages - n)) (PAGE * s.pages) b (omega arith)) ∙ ap (λ k. take k (first_pages s.pages b)) less in
      let free : length b / PAGE - (s.pages - n) ≡ (length b / PAGE - s.pages) + n = omega arith in
      ap (λ (x : List ℕ). pages_memory_over x (length b / PAGE - (s.pages - n)) (length b / PAGE) s.bytes.ghost_name) bs
      ∙ ap (λ f. pages_memory_over (take (length (first_pages s.pages b) - PAGE * n) (first_pages s.pages b)) f (length b / PAGE) s.bytes.ghost_name) free
      ∙ shrunk_over _ _ _ _ id o n
