-- Laws of the bytes of live messages in their blocks.
use Rattle.rh_defs.proofs.Common.{◌≡◌, ℕ, ◌+◌, ◌<◌, ◌≤◌, ◌^◌, lit<, List, [], ◌∷◌, ◌++◌, length, refl, sym, ap, ◌∙◌, arith, length-append, length-replicate}
use Rattle.rh_defs.proofs.Common.{append_assoc, append-nil, word, part, with_part, zeros, block_room, Parcel, encoded, encoded_length, parcel_bytes}
use Rattle.rh_defs.proofs.Common.{parcel_size}
use Rattle.rh_defs.proofs.Common.{Fits, SpellWords, EventCode, User, Recorded, Acknowledge, Message, length-put}
use Rattle.rh_defs.specs.Bytes.{word_bytes}
use Rattle.rh_defs.specs.Messages.{code_number, words, padded}
use Rattle.rh_defs.proofs.BytesLaws.{put_apart, put-put, word-put_inside, part-put_inside, part-append_right, part_all}
use Rattle.rh_defs.proofs.BlockCalls.{room_enough}
use Rattle.rh_defs.proofs.MessageLaws.{length-word_bytes, length-words, puts_in_row, SpellWords-words, SpellWords-behind, SpellWords-are, encoded-words}
use Rattle.rh_defs.proofs.MessageLaws.{length-encoded, message_words, length-body}

pub code-small : (c : EventCode) → code_number c < 2 ^ 32
code-small User = lit< tt
code-small Recorded = lit< tt
code-small Acknowledge = lit< tt

-- ---- lengths
-- the link, the code and the message block in a row
pub parcel-row : (link : ℕ) (p : Parcel) → parcel_bytes link p ≡ word_bytes link ++ (word_bytes (code_number p.code) ++ encoded p.message)
unfolding parcel_bytes
parcel-row link p =
    let c : List ℕ = word_bytes (code_number p.code) in
    append_assoc (word_bytes link) (c ++ []) (encoded p.message) ∙ ap (λ l. word_bytes link ++ (l ++ encoded p.message)) (append-nil c)

abbrev tail : Parcel → List ℕ
tail p = word_bytes (code_number p.code) ++ encoded p.message

length-tail : (p : Parcel) → length (tail p) + 4 ≡ parcel_size p.message
length-tail p =
    let e = length-append (word_bytes (code_number p.code)) (encoded p.message) in
    omega (arith, length-word_bytes (code_number p.code), length-encoded p.message)

pub length-parcel_bytes : (link : ℕ) (p : Parcel) → length (parcel_bytes link p) ≡ parcel_size p.message
length-parcel_bytes link p =
    let e = length-append (word_bytes link) (tail p) in
    ap length (parcel-row link p) ∙ omega (arith, length-word_bytes link, length-tail p)

pub length-padded : (link : ℕ) (p : Parcel) → length (padded link p) ≡ block_room (parcel_size p.message)
unfolding padded
length-padded link p =
    length-put (zeros (block_room (parcel_size p.message))) 0 (parcel_bytes link p) ∙ length-replicate {A = ℕ} (block_room (parcel_size p.message)) 0

pub padded-least : (link : ℕ) (p : Parcel) → 24 ≤ length (padded link p)
padded-least link p = omega (arith, length-padded link p, room_enough (parcel_size p.message))

-- ---- another link, another code
padded-tail : (link : ℕ) (p : Parcel) → padded link p ≡ with_part (with_part (zeros (block_room (parcel_size p.message))) 0 (word_bytes link)) 4 (tail p)
unfolding padded
padded-tail link p =
    ap (with_part (zeros (block_room (parcel_size p.message))) 0) (parcel-row link p)
    ∙ sym (puts_in_row (zeros (block_room (parcel_size p.message))) 0 4 (word_bytes link) (tail p) (omega (arith, length-word_bytes link)))

pub padded-relinked : (x y : ℕ) (p : Parcel) → with_part (padded x p) 0 (word_bytes y) ≡ padded y p
padded-relinked x y p =
    let n = block_room (parcel_size p.message) in
    let r = room_enough (parcel_size p.message) in
    let lx = length-word_bytes x in
    let ly = length-word_bytes y in
    let lz = length-replicate {A = ℕ} n 0 in
    let lp = length-put (zeros n) 0 (word_bytes x) in
    let lt = length-tail p in
    ap (λ b. with_part b 0 (word_bytes y)) (padded-tail x p)
    ∙ sym (put_apart (with_part (zeros n) 0 (word_bytes x)) 0 (word_bytes y) 4 (tail p) (omega arith) (omega arith))
    ∙ ap (λ b. with_part b 4 (tail p)) (put-put (zeros n) 0 (word_bytes x) (word_bytes y) (omega arith) (omega arith))
    ∙ sym (padded-tail y p)

-- the same block written anew
pub padded-rewritten : (x y : ℕ) (p q : Parcel) → p.message ≡ q.message → with_part (padded x p) 0 (parcel_bytes y q) ≡ padded y q
unfolding padded
padded-rewritten x y p q e =
    let n = block_room (parcel_size p.message) in
    let r = room_enough (parcel_size p.message) in
    let lz = length-replicate {A = ℕ} n 0 in
    let l1 = length-parcel_bytes x p in
    let l2 = length-parcel_bytes y q in
    let l3 = ap parcel_size e in
    put-put (zeros n) 0 (parcel_bytes x p) (parcel_bytes y q) (omega arith) (omega arith)
    ∙ ap (λ (m : Message). with_part (zeros (block_room (parcel_size m))) 0 (parcel_bytes y q)) e

-- another code in the second word
pub padded-recoded : (x : ℕ) (p q : Parcel) → p.message ≡ q.message → with_part (padded x p) 4 (word_bytes (code_number q.code)) ≡ padded x q
unfolding padded
padded-recoded x p q e =
    let n = block_room (parcel_size p.message) in
    let r = room_enough (parcel_size p.message) in
    let lz = length-replicate {A = ℕ} n 0 in
    let lx = length-word_bytes x in
    let old : List ℕ = word_bytes (code_number p.code) in
    let new : List ℕ = word_bytes (code_number q.code) in
    let lc = length-word_bytes (code_number q.code) in
    let ld = length-word_bytes (code_number p.code) in
    let le = length-encoded p.message in
    let z : List ℕ = with_part (zeros n) 0 (word_bytes x) in
    let lp = length-put (zeros n) 0 (word_bytes x) in
    let lq = length-put z 4 old in
    let split : with_part (zeros n) 0 (parcel_bytes x p) ≡ with_part (with_part z 4 old) 8 (encoded p.message) =
    padded-tail x p ∙ sym (puts_in_row z 4 8 old (encoded p.message) (omega arith)) in
    ap (λ b. with_part b 4 new) split
    ∙ sym (put_apart (with_part z 4 old) 4 new 8 (encoded p.message) (omega arith) (omega arith))
    ∙ ap (λ b. with_part b 8 (encoded p.message)) (put-put z 4 old new (omega arith) (omega arith))
    ∙ puts_in_row z 4 8 new (encoded p.message) (omega arith)
    ∙ puts_in_row (zeros n) 0 4 (word_bytes x) (new ++ encoded p.message) (omega arith)
    ∙ ap (λ (m : Message). with_part (zeros (block_room (parcel_size m))) 0 (word_bytes x ++ (new ++ encoded m))) e
    ∙ ap (with_part (zeros (block_room (parcel_size q.message))) 0) (sym (parcel-row x q))

-- ---- what is read there
abbrev pub parcel_words : ℕ → Parcel → List ℕ
parcel_words link p = link ∷ code_number p.code ∷ message_words p.message

parcel-spelled : (link : ℕ) (p : Parcel) → link < 2 ^ 32 → Fits p.message → SpellWords (parcel_bytes link p) 0 (parcel_words link p)
unfolding parcel_bytes
parcel-spelled link p l f =
    let head : List ℕ = link ∷ code_number p.code ∷ [] in
    let w = SpellWords-words head (encoded p.message) (l, (code-small p.code, tt)) in (
      w.0,
      (
        w.1.0,
        SpellWords-behind (words head) (encoded p.message) 0 8 (message_words p.message) (omega (arith, length-words head)) (encoded-words p.message f),
      ),
    )

word_in_padded : (x : ℕ) (p : Parcel) (k : ℕ) → k + 4 ≤ parcel_size p.message → word (padded x p) k ≡ word (parcel_bytes x p) k
unfolding padded
word_in_padded x p k h =
    let n = block_room (parcel_size p.message) in
    let r = room_enough (parcel_size p.message) in
    let lz = length-replicate {A = ℕ} n 0 in
    let l = length-parcel_bytes x p in
    word-put_inside (zeros n) 0 (parcel_bytes x p) k k (omega arith) (omega arith) (omega arith)

-- all words of a message's block
pub padded-words : (link : ℕ) (p : Parcel) → link < 2 ^ 32 → Fits p.message → SpellWords (padded link p) 0 (parcel_words link p)
padded-words link p l f =
    let n = length-body p.message.body in
    SpellWords-are (parcel_bytes link p) (padded link p) 0 (parcel_words link p) (λ k h. word_in_padded link p k (omega arith)) (parcel-spelled link p l f)

pub link_read : (x : ℕ) (p : Parcel) → x < 2 ^ 32 → Fits p.message → word (padded x p) 0 ≡ x
link_read x p l f = (padded-words x p l f).0

pub code_read : (x : ℕ) (p : Parcel) → x < 2 ^ 32 → Fits p.message → word (padded x p) 4 ≡ code_number p.code
code_read x p l f = (padded-words x p l f).1.0

pub length_read : (x : ℕ) (p : Parcel) → x < 2 ^ 32 → Fits p.message → word (padded x p) 8 ≡ encoded_length p.message
length_read x p l f = (padded-words x p l f).1.1.0

pub from_read : (x : ℕ) (p : Parcel) → x < 2 ^ 32 → Fits p.message → word (padded x p) 12 ≡ p.message.from
from_read x p l f = (padded-words x p l f).1.1.1.0

pub ref_read : (x : ℕ) (p : Parcel) → x < 2 ^ 32 → Fits p.message → word (padded x p) 16 ≡ p.message.my_ref
ref_read x p l f = (padded-words x p l f).1.1.1.1.0

pub message_read : (x : ℕ) (p : Parcel) (n : ℕ) → n ≡ encoded_length p.message → part (padded x p) 8 n ≡ encoded p.message
unfolding padded parcel_bytes
message_read x p n e =
    let k = block_room (parcel_size p.message) in
    let r = room_enough (parcel_size p.message) in
    let lz = length-replicate {A = ℕ} k 0 in
    let head : List ℕ = words (x ∷ code_number p.code ∷ []) in
    let lh = length-words (x ∷ code_number p.code ∷ []) in
    let le = length-encoded p.message in
    let l2 = length-append head (encoded p.message) in
    part-put_inside (zeros k) 0 (head ++ encoded p.message) 8 8 n refl (omega arith) (omega arith)
    ∙ ap (λ i. part (head ++ encoded p.message) i n) (let q : 8 ≡ length head + 0 = omega arith in q)
    ∙ part-append_right head (encoded p.message) 0 n
    ∙ ap (part (encoded p.message) 0) (e ∙ sym le)
    ∙ part_all (encoded p.message)
