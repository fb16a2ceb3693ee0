-- Laws of the bytes of messages.
use Rattle.rh_defs.proofs.Common.{◌≡◌, ℕ, ◌+◌, ◌-◌, ◌*◌, ◌/◌, ◌%◌, ◌<◌, ◌≤◌, ◌^◌, Bool, true, false, leb, lit<, List, [], ◌∷◌, ◌++◌, length, refl, sym, ap}
use Rattle.rh_defs.proofs.Common.{subst, ◌∙◌, arith, nat_tests, length-append, length-replicate, append_assoc, ◌&&◌, word, part, with_part, zeros, encoded}
use Rattle.rh_defs.proofs.Common.{encoded_length, Fits, SpellWords, Body, DataSave, DataSaveAck, DataLoad, DataLoadAck, RamFetch, RamTransmit, Other, Message}
use Rattle.rh_defs.proofs.Common.{eqb, not, eqb-true}
use Rattle.rh_defs.specs.OtherBodies.{is_whole, is_exact, is_other}
use Rattle.std.proofs.lemmas.Nat.{from_le_bytes-to_le_bytes_4}
use Rattle.rh_defs.specs.declared.sizes.TheConstants.{LONGEST_MESSAGE}
use Rattle.rh_defs.specs.Bytes.{word_bytes}
use Rattle.rh_defs.specs.Pathnames.{is_plain, is_pathname}
use Rattle.rh_defs.specs.Messages.{words, name_bytes, data_words, tail_bytes, body_bytes, action_of, action_number, AreWords, HasName}
use Rattle.rh_defs.proofs.BytesLaws.{put_more, word-append_left, word-append_right, part-append_right}

-- ---- words
pub length-word_bytes : (n : ℕ) → length (word_bytes n) ≡ 4
unfolding word_bytes
length-word_bytes n = refl

pub word-word_bytes : (n : ℕ) → n < 2 ^ 32 → word (word_bytes n) 0 ≡ n
unfolding word word_bytes
word-word_bytes n l = from_le_bytes-to_le_bytes_4 n l

-- the first word of a list, and a later one
pub word_first : (n : ℕ) (xs : List ℕ) → n < 2 ^ 32 → word (word_bytes n ++ xs) 0 ≡ n
word_first n xs l = word-append_left (word_bytes n) xs 0 (omega (arith, length-word_bytes n)) ∙ word-word_bytes n l

-- two writes, the second where the first ends
pub puts_in_row : (b : List ℕ) (p q : ℕ) (xs ys : List ℕ) → q ≡ p + length xs → with_part (with_part b p xs) q ys ≡ with_part b p (xs ++ ys)
puts_in_row b p q xs ys e = ap (λ k. with_part (with_part b p xs) k ys) e ∙ sym (put_more b p xs ys)

pub length-words : (ns : List ℕ) → length (words ns) ≡ 4 * length ns
length-words [] = refl
length-words (n ∷ ns) = omega (arith, length-append (word_bytes n) (words ns), length-word_bytes n, length-words ns)

pub words-append : (xs ys : List ℕ) → words (xs ++ ys) ≡ words xs ++ words ys
words-append [] ys = refl
words-append (x ∷ xs) ys = ap (λ l. word_bytes x ++ l) (words-append xs ys) ∙ sym (append_assoc (word_bytes x) (words xs) (words ys))

-- words that lie behind other bytes
pub SpellWords-behind : (front b : List ℕ) (at k : ℕ) (ns : List ℕ) → k ≡ length front + at → SpellWords b at ns → SpellWords (front ++ b) k ns
SpellWords-behind front b at k [] e s = tt
SpellWords-behind front b at k (n ∷ ns) e s =
    (ap (word (front ++ b)) e ∙ word-append_right front b at ∙ s.0, SpellWords-behind front b (at + 4) (k + 4) ns (omega arith) s.1)

-- numbers that were written as words
pub SpellWords-words : (ns tail : List ℕ) → AreWords ns → SpellWords (words ns ++ tail) 0 ns
SpellWords-words [] tail w = tt
SpellWords-words (n ∷ ns) tail w =
    let e : words (n ∷ ns) ++ tail ≡ word_bytes n ++ (words ns ++ tail) = append_assoc (word_bytes n) (words ns) tail in (
      ap (λ l. word l 0) e ∙ word_first n (words ns ++ tail) w.0,
      subst (λ l. SpellWords l 4 ns) (sym e) (SpellWords-behind (word_bytes n) (words ns ++ tail) 0 4 ns (omega (arith, length-word_bytes n))
          (SpellWords-words ns tail w.1)),
    )

pub SpellWords-are : (b c : List ℕ) (at : ℕ) (ns : List ℕ) → ((k : ℕ) → k + 4 ≤ at + 4 * length ns → word c k ≡ word b k) → SpellWords b at ns
    → SpellWords c at ns
SpellWords-are b c at [] f s = tt
SpellWords-are b c at (n ∷ ns) f s = (f at (omega arith) ∙ s.0, SpellWords-are b c (at + 4) ns (λ k l. f k (omega arith)) s.1)

-- ---- names
both_true : (x y : Bool) → (x && y) ≡ true → (x ≡ true) × (y ≡ true)
both_true true true e = (refl, refl)
both_true true false e = absurd cc
both_true false y e = absurd cc

pub name_short : (name : List ℕ) → is_pathname name ≡ true → length name ≤ 211
name_short name t = let w = (both_true (leb (length name) 211) (is_plain name) t).0 in grind (arith, nat_tests)

pub name_plain : (name : List ℕ) → is_pathname name ≡ true → is_plain name ≡ true
name_plain name t = (both_true (leb (length name) 211) (is_plain name) t).1

pub name_is : (name : List ℕ) → length name ≤ 211 → is_plain name ≡ true → is_pathname name ≡ true
name_is name l t = go (leb (length name) 211) (is_plain name) (grind (arith, nat_tests)) t
  where
    go : (x y : Bool) → x ≡ true → y ≡ true → (x && y) ≡ true
    go true true ex ey = refl
    go true false ex ey = absurd cc
    go false y ex ey = absurd cc

pub length-name_bytes : (name : List ℕ) → length (name_bytes name) ≡ (length name + 4) / 4 * 4
length-name_bytes name =
    let e = length-append name (zeros (4 * ((length name + 1 + 3) / 4) - length name)) in
    let f = length-replicate {A = ℕ} (4 * ((length name + 1 + 3) / 4) - length name) 0 in
    omega arith

-- ---- the action, and what follows it
pub length-body : (b : Body) → length (body_bytes b) ≡ 4 + 4 * length (data_words b) + length (tail_bytes b)
unfolding body_bytes
length-body b =
    let w = length-words (action_number (action_of b) ∷ data_words b) in
    omega (arith, length-append (words (action_number (action_of b) ∷ data_words b)) (tail_bytes b))

-- whole words fit into a message block
pub whole-fits : (bytes : List ℕ) → is_whole bytes ≡ true → (length bytes % 4 ≡ 0) × (length bytes ≤ 236)
whole-fits bytes t =
    let w = both_true (eqb (length bytes % 4) 0) (leb (length bytes) 236) t in
    (eqb-true (length bytes % 4) 0 w.0, at_most (length bytes) w.1)
  where
    at_most : (n : ℕ) → leb n 236 ≡ true → n ≤ 236
    at_most n u = grind (arith, nat_tests)

pub other-whole : (a : ℕ) (bytes : List ℕ) → is_other a bytes ≡ true → is_whole bytes ≡ true
other-whole a bytes t = (both_true (is_whole bytes) (not (is_exact a bytes)) t).0

-- a body has at most 240 bytes, and whole words
pub body-most : (b : Body) → HasName b → (4 ≤ length (body_bytes b)) × (length (body_bytes b) ≤ 240) × (length (body_bytes b) % 4 ≡ 0)
body-most (DataSave f) h =
    let l = length-body (DataSave f) in let n = length-name_bytes f.name in let s = name_short f.name h in (omega arith, omega arith, omega arith)
body-most (DataSaveAck f) h =
    let l = length-body (DataSaveAck f) in let n = length-name_bytes f.name in let s = name_short f.name h in (omega arith, omega arith, omega arith)
body-most (DataLoad f) h =
    let l = length-body (DataLoad f) in let n = length-name_bytes f.name in let s = name_short f.name h in (omega arith, omega arith, omega arith)
body-most (DataLoadAck f) h =
    let l = length-body (DataLoadAck f) in let n = length-name_bytes f.name in let s = name_short f.name h in (omega arith, omega arith, omega arith)
body-most (RamFetch buffer n) h = let l = length-body (RamFetch buffer n) in (omega arith, omega arith, omega arith)
body-most (RamTransmit buffer n) h = let l = length-body (RamTransmit buffer n) in (omega arith, omega arith, omega arith)
body-most (Other o) h =
    let l = length-body (Other o) in let w = whole-fits o.1 (other-whole o.0 o.1 h.1) in let r = w.0 in let m = w.1 in
    (omega (arith, l), omega (arith, l, m), omega (arith, l, r))

-- ---- the whole block
-- all words of a message block
abbrev pub message_words : Message → List ℕ
message_words m = encoded_length m ∷ m.from ∷ m.my_ref ∷ m.your_ref ∷ action_number (action_of m.body) ∷ data_words m.body

pub encoded-whole : (m : Message) → encoded m ≡ words (message_words m) ++ tail_bytes m.body
unfolding encoded body_bytes
encoded-whole m =
    let head : List ℕ = encoded_length m ∷ m.from ∷ m.my_ref ∷ m.your_ref ∷ [] in
    let rest : List ℕ = action_number (action_of m.body) ∷ data_words m.body in
    sym (append_assoc (words head) (words rest) (tail_bytes m.body)) ∙ ap (λ l. l ++ tail_bytes m.body) (sym (words-append head rest))

pub length-encoded : (m : Message) → length (encoded m) ≡ encoded_length m
unfolding encoded
length-encoded m =
    let head : List ℕ = encoded_length m ∷ m.from ∷ m.my_ref ∷ m.your_ref ∷ [] in
    omega (arith, length-append (words head) (body_bytes m.body), length-words head)

pub encoded-most : (m : Message) → HasName m.body → (20 ≤ encoded_length m) × (encoded_length m ≤ LONGEST_MESSAGE) × (encoded_length m % 4 ≡ 0)
encoded-most m h = let b = body-most m.body h in (omega arith, omega arith, omega arith)

action-small : (b : Body) → HasName b → action_number (action_of b) < 2 ^ 32
action-small (DataSave f) h = lit< tt
action-small (DataSaveAck f) h = lit< tt
action-small (DataLoad f) h = lit< tt
action-small (DataLoadAck f) h = lit< tt
action-small (RamFetch buffer n) h = lit< tt
action-small (RamTransmit buffer n) h = lit< tt
action-small (Other o) h = h.0

pub message-are_words : (m : Message) → Fits m → AreWords (message_words m)
message-are_words m f =
    let k = (encoded-most m f.name).1 in
    (omega arith, (f.from, (f.my_ref, (f.your_ref, (action-small m.body f.name, f.numbers)))))

pub encoded-words : (m : Message) → Fits m → SpellWords (encoded m) 0 (message_words m)
encoded-words m f =
    subst (λ l. SpellWords l 0 (message_words m)) (sym (encoded-whole m)) (SpellWords-words (message_words m) (tail_bytes m.body) (message-are_words m f))

-- what stands behind the words
pub encoded-tail : (m : Message) (at n : ℕ) → at ≡ 20 + 4 * length (data_words m.body) → part (encoded m) at n ≡ part (tail_bytes m.body) 0 n
encoded-tail m at n e =
    ap (λ l. part l at n) (encoded-whole m)
    ∙ ap (λ i. part (words (message_words m) ++ tail_bytes m.body) i n) (omega (arith, length-words (message_words m)))
    ∙ part-append_right (words (message_words m)) (tail_bytes m.body) 0 n
