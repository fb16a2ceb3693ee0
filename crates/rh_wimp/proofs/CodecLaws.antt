-- What was encoded in a block is decoded from it, whatever stands behind it.
use Rattle.rh_wimp.proofs.Common.{◌≡◌, ℕ, ◌+◌, ◌*◌, ◌%◌, ◌≤◌, List, [], ◌∷◌, length, take, ap, sym, subst, ◌∙◌, arith, word, with_part, action_number}
use Rattle.rh_wimp.proofs.Common.{action_of}
use Rattle.rh_wimp.proofs.Common.{data_words, encoded, Body, DataSave, DataSaveAck, DataLoad, DataLoadAck, RamFetch, RamTransmit, Other, Message}
use Rattle.rh_wimp.proofs.Common.{length-encoded, body_bytes, words, true, refl, ◌++◌, ◌-◌, drop, part, decoded, any_decoded, encoded_length}
use Rattle.std.proofs.lemmas.List.{length-take-le, take_all}
use Rattle.std.proofs.Common.{length-drop}
use Rattle.rh_defs.specs.Bytes.{SameIn}
use Rattle.rh_defs.specs.MessageImage.{SpellWords, SpellsName, SpellsTail, SpellsMessage}
use Rattle.rh_defs.specs.AnyMessage.{data_bytes}
use Rattle.rh_defs.specs.Messages.{is_kind}
use Rattle.rh_defs.proofs.AnyMessageLaws.{any-spelled}
use Rattle.rh_defs.proofs.BytesLaws.{SameIn-narrower, SameIn-take, length-put, part-append_right, part-drop, part_same, put_inside, word_same}
use Rattle.rh_defs.proofs.MessageImageLaws.{encoded-spells, spelled-decodes}
use Rattle.rh_defs.proofs.MessageLaws.{encoded-words, length-body, length-words, message_words}
use Rattle.rh_wimp.specs.QueueLaws.{ComesBack}

-- the words of a message end below its length
words-fit : (b : List ℕ) (end : ℕ) (body : Body) → SpellsTail b end body → 20 + 4 * length (data_words body) ≤ end
words-fit b end (DataSave f) s = omega (arith, s.0)
words-fit b end (DataSaveAck f) s = omega (arith, s.0)
words-fit b end (DataLoad f) s = omega (arith, s.0)
words-fit b end (DataLoadAck f) s = omega (arith, s.0)
words-fit b end (RamFetch buffer n) s = omega (arith, s)
words-fit b end (RamTransmit buffer n) s = omega (arith, s)
words-fit b end (Other o) s = absurd s

-- bytes that begin as those of a message do spell it too
module _ (b c : List ℕ) (same : SameIn b c 0 (length b)) where
  words-there : (at : ℕ) (ns : List ℕ) → at + 4 * length ns ≤ length b → SpellWords b at ns → SpellWords c at ns
  words-there at [] fits s = tt
  words-there at (n ∷ ns) fits s = (
    word_same b c at (SameIn-narrower b c 0 (length b) at (at + 4) same (omega arith) (omega arith)) ∙ s.0,
    words-there (at + 4) ns (omega arith) s.1,
  )

  name-there : (end : ℕ) (name : List ℕ) → end ≤ length b → SpellsName b end name → SpellsName c end name
  name-there end name within s = (
    s.0,
    part_same b c 44 (length name) (SameIn-narrower b c 0 (length b) 44 (44 + length name) same (omega arith) (omega (arith, s.3))) ∙ s.1,
    s.2,
    s.3,
    same.each (44 + length name) (omega arith) (omega (arith, s.3)) ∙ s.4,
  )

  tail-there : (end : ℕ) (body : Body) → end ≤ length b → SpellsTail b end body → SpellsTail c end body
  tail-there end (DataSave f) within s = name-there end f.name within s
  tail-there end (DataSaveAck f) within s = name-there end f.name within s
  tail-there end (DataLoad f) within s = name-there end f.name within s
  tail-there end (DataLoadAck f) within s = name-there end f.name within s
  tail-there end (RamFetch buffer n) within s = s
  tail-there end (RamTransmit buffer n) within s = s
  tail-there end (Other o) within s = s

  message-there : (m : Message) → length b ≤ length c → SpellsMessage b m → SpellsMessage c m
  message-there m longer s =
      let w : word c 0 ≡ word b 0 = word_same b c 0 (SameIn-narrower b c 0 (length b) 0 4 same (omega arith) (omega (arith, s.least, s.within))) in
      record {
        least = omega (arith, w, s.least);
        most = omega (arith, w, s.most);
        multiple = ap (λ i. i % 4) w ∙ s.multiple;
        within = omega (arith, w, s.within);
        words = words-there 4 (m.from ∷ m.my_ref ∷ m.your_ref ∷ action_number (action_of m.body) ∷ data_words m.body)
            (omega (arith, words-fit b (word b 0) m.body s.tail, s.within)) s.words;
        tail = subst (λ i. SpellsTail c i m.body) (sym w) (tail-there (word b 0) m.body s.within s.tail);
      }

-- a block that a message was written into begins with it
front-same : (block xs : List ℕ) (n : ℕ) → length xs ≤ n → n ≤ length block → SameIn xs (take n (with_part block 0 xs)) 0 (length xs)
front-same block xs n low high = record {
  each = λ k least below.
      (SameIn-take n (with_part block 0 xs) 0 (length xs) low).each k least below
      ∙ put_inside block 0 xs k k below (omega arith) (omega arith);
}

pub comes-back : ComesBack (λ (m : Message). is_kind m.body ≡ true) decoded
comes-back m block n fits kind whole low high =
    let l = length-encoded m in
    let there = front-same block (encoded m) n (omega arith) (omega arith) in
    let many = length-take-le n (with_part block 0 (encoded m)) (omega (arith, length-put block 0 (encoded m))) in
    let long = length-put block 0 (encoded m) in
    spelled-decodes (take n (with_part block 0 (encoded m))) m
    (message-there (encoded m) (take n (with_part block 0 (encoded m))) there m (omega (arith, many, long)) (encoded-spells m fits kind))

-- ---- messages of any action
-- four words stand before the action
behind-head : (m : Message) → encoded m ≡ words (encoded_length m ∷ m.from ∷ m.my_ref ∷ m.your_ref ∷ []) ++ body_bytes m.body
unfolding encoded
behind-head m = refl

data-is : (m : Message) → part (encoded m) 20 (encoded_length m - 20) ≡ data_bytes m.body
data-is m =
    let head : List ℕ = words (encoded_length m ∷ m.from ∷ m.my_ref ∷ m.your_ref ∷ []) in
    let b : List ℕ = body_bytes m.body in
    let w = length-words (encoded_length m ∷ m.from ∷ m.my_ref ∷ m.your_ref ∷ []) in
    let l = length-body m.body in
    let k : ℕ = encoded_length m - 20 in
    ap (λ x. part x 20 k) (behind-head m)
    ∙ ap (λ i. part (head ++ b) i k) (let q : 20 ≡ length head + 4 = omega (arith, w) in q)
    ∙ part-append_right head b 4 k
    ∙ part-drop b 4 k (omega (arith, l))
    ∙ take_all k (drop 4 b) (omega (arith, length-drop 4 b))

pub any-comes-back : ComesBack (λ (m : Message). Unit) any_decoded
any-comes-back m block n fits allowed whole low high =
    let b : List ℕ = take n (with_part block 0 (encoded m)) in
    let l = length-encoded m in
    let there = front-same block (encoded m) n (omega arith) (omega arith) in
    let many = length-take-le n (with_part block 0 (encoded m)) (omega (arith, length-put block 0 (encoded m))) in
    let long = length-put block 0 (encoded m) in
    let body = length-body m.body in
    any-spelled b m fits
    (words-there (encoded m) b there 0 (message_words m) (omega (arith, l, body)) (encoded-words m fits))
    (omega (arith, many, long, l, low, high, whole))
    (part_same (encoded m) b 20 (encoded_length m - 20)
    (SameIn-narrower (encoded m) b 0 (length (encoded m)) 20 (20 + (encoded_length m - 20)) there (omega arith) (omega (arith, l, body))) ∙ data-is m)
