-- Laws of encoding: pieces written one after the other.
use Rattle.rh_wimp.proofs.Common.{◌≡◌, ℕ, suc, ◌+◌, ◌-◌, ◌*◌, ◌/◌, ◌<◌, ◌≤◌, ◌^◌, List, [], ◌∷◌, ◌++◌, length, get_or, refl, sym, ap, ◌∙◌, arith}
use Rattle.rh_wimp.proofs.Common.{length-append, append_assoc, append-nil, LONGEST_MESSAGE, with_part, word_bytes, zeros, words, data_words, body_bytes}
use Rattle.rh_wimp.proofs.Common.{action_number, action_of, encoded, encoded_length, Body, Message, length-word_bytes}
use Rattle.std.proofs.lemmas.List.{length-replicate}
use Rattle.rh_defs.specs.Messages.{AreWords, name_bytes, tail_bytes}
use Rattle.rh_defs.proofs.BytesLaws.{put_before}
use Rattle.rh_defs.proofs.MessageLaws.{length-words, words-append, puts_in_row}

pub are-words : (ns : List ℕ) → ((i : ℕ) → i < length ns → get_or ns i 0 < 2 ^ 32) → AreWords ns
are-words [] f = tt
are-words (n ∷ ns) f = (f 0 (omega arith), are-words ns (λ i l. f (suc i) (omega arith)))

-- one word more
pub words-one : (o : List ℕ) (at p : ℕ) (ns : List ℕ) (n : ℕ) → p ≡ at + 4 * length ns
    → with_part (with_part o at (words ns)) p (word_bytes n) ≡ with_part o at (words (ns ++ n ∷ []))
words-one o at p ns n e =
    puts_in_row o at p (words ns) (word_bytes n) (omega (arith, length-words ns))
    ∙ ap (with_part o at) (sym (words-append ns (n ∷ []) ∙ ap (λ l. words ns ++ l) (append-nil (word_bytes n))))

-- a name, and the zeros behind it
pub name-put : (o o1 o2 name : List ℕ) (room : ℕ) → o1 ≡ with_part o 44 name → o2 ≡ with_part o1 (44 + length name) (zeros (room - length name))
    → room ≡ length (name_bytes name) → o2 ≡ with_part o 44 (name_bytes name)
name-put o o1 o2 name room e1 e2 er =
    let pad : ℕ = 4 * ((length name + 1 + 3) / 4) - length name in
    let l = length-append name (zeros pad) in
    let z = length-replicate {A = ℕ} pad 0 in
    e2 ∙ ap (λ b. with_part b (44 + length name) (zeros (room - length name))) e1
    ∙ puts_in_row o 44 (44 + length name) name (zeros (room - length name)) refl
    ∙ ap (λ k. with_part o 44 (name ++ zeros k)) (omega arith)

-- the action, and what follows it
pub body-put : (body made : Body) (o o1 o2 : List ℕ) (n : ℕ) → body ≡ made → n ≡ action_number (action_of body) → o1 ≡ with_part o 16 (word_bytes n)
    → o2 ≡ with_part o1 20 (words (data_words made) ++ tail_bytes made) → o2 ≡ with_part o 16 (body_bytes body)
unfolding body_bytes
body-put body made o o1 o2 n e en e1 e2 =
    let rest : List ℕ = words (data_words made) ++ tail_bytes made in
    e2 ∙ ap (λ b. with_part b 20 rest) e1 ∙ puts_in_row o 16 20 (word_bytes n) rest (omega (arith, length-word_bytes n))
    ∙ ap (with_part o 16) (sym (append_assoc (word_bytes n) (words (data_words made)) (tail_bytes made)))
    ∙ ap (λ k. with_part o 16 (words (k ∷ data_words made) ++ tail_bytes made)) en
    ∙ ap (λ b. with_part o 16 (words (action_number (action_of body) ∷ data_words b) ++ tail_bytes b)) (sym e)

-- the head before the body
pub encoded-put : (o o1 o2 : List ℕ) (m : Message) (n : ℕ) → length o ≡ LONGEST_MESSAGE → o1 ≡ with_part o 16 (body_bytes m.body)
    → o2 ≡ with_part o1 0 (words (n ∷ m.from ∷ m.my_ref ∷ m.your_ref ∷ [])) → n ≡ encoded_length m → n ≤ LONGEST_MESSAGE → o2 ≡ with_part o 0 (encoded m)
unfolding encoded
encoded-put o o1 o2 m n lo e1 e2 en few =
    let head : List ℕ = words (encoded_length m ∷ m.from ∷ m.my_ref ∷ m.your_ref ∷ []) in
    let lh = length-words (encoded_length m ∷ m.from ∷ m.my_ref ∷ m.your_ref ∷ []) in
    e2 ∙ ap (λ k. with_part o1 0 (words (k ∷ m.from ∷ m.my_ref ∷ m.your_ref ∷ []))) en ∙ ap (λ b. with_part b 0 head) e1
    ∙ put_before o 0 head (body_bytes m.body) 16 (omega arith) (omega arith)
