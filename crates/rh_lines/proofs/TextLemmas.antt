-- A text in lent bytes after one more write.
use Rattle.std.proofs.Common.{◌≡◌, ℕ, ◌+◌, ◌-◌, ◌≤◌, ◌^◌, true, false, List, [], ◌∷◌, ◌++◌, length, take, drop, min, refl, sym, ap, ◌∙◌, ◌<◌, arith}
use Rattle.std.proofs.Common.{append_assoc, append-nil}
use Rattle.std.proofs.Common.{length-append, length-drop, length-take-le, take-append-drop}
use Rattle.std.proofs.Math.Seq.{drop-append-add, drop-append_seam}
use borrow.Rule.Slice.PartMut.{put_mid}
use Rattle.std.specs.Prelude.{nat_lt, ◌&&◌}
use Rattle.std.proofs.lemmas.List.{drop-drop}
use borrow.Author.Tests.{tests}
use Rattle.rh_lines.specs.Flow.{Takes, Breaks}
use Rattle.rh_lines.specs.WholeText.{output_of, text_offered, before_of, whole_text}
use Rattle.rh_lines.specs.Inner.TextWrites.{Wrote}
use Rattle.rh_lines.specs.declared.whole_text.WholeText.{WholeText}

-- bytes that were put in place of others leave those behind them
pub rest-behind : (b xs ys : List ℕ) (a k : ℕ) → ys ≡ xs → k ≡ length xs → a + length xs ≤ length b
    → drop (a + length xs) (put_mid a k b ys) ≡ drop (a + length xs) b
rest-behind b xs ys a k is all fits =
    let front = take a b in
    let rest = drop k (drop a b) in
    let first : length front ≡ a = length-take-le a b (omega arith) in
    ap (λ l. drop (a + length xs) (front ++ (l ++ rest))) is
    ∙ ap (λ n. drop (n + length xs) (front ++ (xs ++ rest))) (sym first)
    ∙ drop-append-add front (xs ++ rest) (length xs)
    ∙ drop-append_seam xs rest
    ∙ drop-drop k a b ∙ ap (λ n. drop (a + n) b) all

-- what is as it was is so from a later byte on
pub rest-later : (bytes before : List ℕ) (at n : ℕ) → drop at bytes ≡ drop at before → drop (at + n) bytes ≡ drop (at + n) before
rest-later bytes before at n rest = sym (drop-drop n at bytes) ∙ ap (drop n) rest ∙ drop-drop n at before

-- it is so behind bytes that were put there
pub rest-put : (new bytes before : List ℕ) (at n long : ℕ) → long ≡ n → drop (at + long) new ≡ drop (at + long) bytes
    → drop at bytes ≡ drop at before → drop (at + n) new ≡ drop (at + n) before
rest-put new bytes before at n long part behind rest =
    ap (λ k. drop (at + k) new) (sym part) ∙ behind ∙ ap (λ k. drop (at + k) bytes) part ∙ rest-later bytes before at n rest

-- where some bytes find no room, none is left
pub full-later : (beyond bytes more : List ℕ) (at n all : ℕ) → more ≡ beyond ++ drop n bytes → n ≡ min (length bytes) (all - at) → at ≤ all
    → (nat_lt at all && nat_lt 0 (length beyond)) ≡ false → (nat_lt (at + n) all && nat_lt 0 (length more)) ≡ false
full-later beyond bytes more at n all noted part fits full =
    let long = ap length noted ∙ length-append beyond (drop n bytes) in
    let left = length-drop n bytes in grind (arith, tests)

-- the bytes that were offered, those that have room in their place
offered_at : (beyond bytes : List ℕ) (at n all : ℕ) → n ≡ min (length bytes) (all - at) → at ≤ all
    → (nat_lt at all && nat_lt 0 (length beyond)) ≡ false → take n bytes ++ (beyond ++ drop n bytes) ≡ beyond ++ bytes
offered_at [] bytes at n all part fits full = take-append-drop n bytes
offered_at (x ∷ beyond) bytes at n all part fits full =
    let none : n ≡ 0 = grind (arith, tests) in
    ap (λ k. take k bytes ++ ((x ∷ beyond) ++ drop k bytes)) none

pub offered : (before front bytes beyond more text : List ℕ) (at n all : ℕ) → more ≡ beyond ++ drop n bytes
    → n ≡ min (length bytes) (all - at) → at ≤ all → (nat_lt at all && nat_lt 0 (length beyond)) ≡ false
    → text ≡ front ++ take n bytes → before ++ (text ++ more) ≡ (before ++ (front ++ beyond)) ++ bytes
offered before front bytes beyond more text at n all noted part fits full written =
    ap (λ l. before ++ (text ++ l)) noted
    ∙ ap (λ l. before ++ (l ++ (beyond ++ drop n bytes))) written
    ∙ ap (λ l. before ++ l) (append_assoc front (take n bytes) (beyond ++ drop n bytes)
    ∙ ap (λ l. front ++ l) (offered_at beyond bytes at n all part fits full) ∙ sym (append_assoc front beyond bytes))
    ∙ sym (append_assoc before (front ++ beyond) bytes)

-- the count of all that was offered
pub counted-later : (beyond bytes more : List ℕ) (at n all count after : ℕ) → more ≡ beyond ++ drop n bytes → n ≡ min (length bytes) (all - at)
    → count ≡ min (at + length beyond) (2 ^ 64 - 1) → after ≡ min (count + length bytes) (2 ^ 64 - 1)
    → after ≡ min (at + n + length more) (2 ^ 64 - 1)
counted-later beyond bytes more at n all count after noted part counted added =
    let long = ap length noted ∙ length-append beyond (drop n bytes) in
    let left = length-drop n bytes in omega arith

-- where bytes that have room leave some, none was offered beyond it
pub none-beyond : (beyond : List ℕ) (at n all : ℕ) → at + n < all → (nat_lt at all && nat_lt 0 (length beyond)) ≡ false → beyond ≡ []
none-beyond [] at n all room full = refl
none-beyond (x ∷ beyond) at n all room full = absurd (grind (arith, tests))

-- what was offered, where bytes that have room leave some
pub offered-whole : (before front bytes beyond text : List ℕ) → beyond ≡ [] → text ≡ front ++ bytes
    → before ++ (text ++ beyond) ≡ (before ++ (front ++ beyond)) ++ bytes
offered-whole before front bytes beyond text none written =
    ap (λ l. before ++ (text ++ l)) none ∙ ap (λ l. before ++ l) (append-nil text ∙ written) ∙ sym (append_assoc before front bytes)
    ∙ ap (λ l. (before ++ l) ++ bytes) (sym (ap (λ l. front ++ l) none ∙ append-nil front))

-- ---- what a caller knows of a text that others wrote

parts : {x y m n : ℕ} {xs ys : List ℕ} → x ∷ m ∷ xs ≡ y ∷ n ∷ ys → (x ≡ y) × ((m ≡ n) × (xs ≡ ys))
parts e = (cc, (cc, cc))

fronts : (xs ys us vs : List ℕ) → length xs ≡ length us → xs ++ ys ≡ us ++ vs → (xs ≡ us) × (ys ≡ vs)
fronts [] ys [] vs long e = (refl, e)
fronts [] ys (u ∷ us) vs long e = absurd (omega arith)
fronts (x ∷ xs) ys [] vs long e = absurd (omega arith)
fronts (x ∷ xs) ys (u ∷ us) vs long e =
    let first : x ≡ u = cc in
    let both = fronts xs ys us vs (omega arith) (cc) in (ap (λ z. z ∷ xs) first ∙ ap (λ zs. u ∷ zs) both.0, both.1)

-- what was offered stands behind the text, in the bytes that were lent
pub added : {old new : WholeText} {bytes : List ℕ} → text_offered new ≡ text_offered old ++ bytes → Wrote old new bytes
unfolding text_offered
added {old} {new} {bytes} offered =
    let split = parts offered in
    let both = fronts (before_of new) (whole_text new) (before_of old) (whole_text old ++ bytes) split.1.0
    (split.1.1 ∙ append_assoc (before_of old) (whole_text old) bytes) in
    record { same_reference = split.0; before = both.0; text = both.1 }

pub wrote : {old new : WholeText} {bytes : List ℕ} → Takes (output_of old) (output_of new) bytes → Wrote old new bytes
unfolding output_of
wrote takes = added takes.taken

-- no write fails
pub writes_all : (old new : WholeText) {bytes : List ℕ} → Breaks (output_of old) (output_of new) bytes → ⊥
unfolding output_of
writes_all old new breaks = let failed : false ≡ true = breaks.failed in cc
