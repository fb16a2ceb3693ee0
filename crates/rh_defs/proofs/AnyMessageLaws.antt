-- Messages of any action: what is read in one is a kind or itself, and a message block says the message that it was made of.
use Rattle.rh_defs.proofs.Common.{◌≡◌, ℕ, ◌+◌, ◌-◌, ◌*◌, ◌/◌, ◌%◌, ◌<◌, ◌≤◌, ◌^◌, Bool, true, false, cond, eqb, ltb, leb, List, [], ◌∷◌, ◌++◌, length, get_or}
use Rattle.rh_defs.proofs.Common.{refl, sym, ap, subst, ◌∙◌, arith, nat_tests, length-append, length-replicate, Option, Some, None, Result, Ok, Err, ◌&&◌, not}
use Rattle.rh_defs.proofs.Common.{word, part, zeros, encoded, encoded_length, Fits, SpellWords, Body, DataSave, DataSaveAck, DataLoad, DataLoadAck, RamFetch}
use Rattle.rh_defs.proofs.Common.{RamTransmit, Other, Message, Parcel, unwrap_or, drop, replicate, zero, suc, lit<, ◌==◌}
use Rattle.std.specs.List.{list_all, position, position_or_len}
use Rattle.std.specs.Result.{result_ok}
use Rattle.std.proofs.Math.Seq.{drop-append_seam}
use Rattle.std.proofs.lemmas.List.{get_or-append-add, get_or-replicate, get_or_append_left}
use Rattle.std.proofs.lemmas.List.Sums.{position_or_len_is}
use Rattle.rh_defs.specs.declared.sizes.TheConstants.{LONGEST_MESSAGE}
use Rattle.rh_defs.specs.declared.message.Action.{Action}
use Rattle.rh_defs.specs.declared.message.Action.TheVariants as action
use Rattle.rh_defs.specs.declared.message.FileData.{FileData}
use Rattle.rh_defs.specs.declared.message.MessageFault.{MessageFault}
use Rattle.rh_defs.specs.declared.message.MessageFault.TheVariants.{BadLength}
use Rattle.rh_defs.specs.Bytes.{word_bytes}
use Rattle.rh_defs.specs.Pieces.{round_up}
use Rattle.rh_defs.specs.Pathnames.{is_plain, is_pathname}
use Rattle.rh_defs.specs.OtherBodies.{ends_at, is_name_data, is_file_data, is_exact, is_whole}
use Rattle.rh_defs.specs.Messages.{AreWords, HasName, action_at, action_number, action_of, body_bytes, data_words, file_words, is_kind, name_bytes, tail_bytes}
use Rattle.rh_defs.specs.Messages.{words}
use Rattle.rh_defs.specs.MessageImage.{about_file, body_for, body_in, file_in, has_length}
use Rattle.rh_defs.specs.AnyMessage.{block_with, kind_read, body_of, any_decoded, read_body, as_read, data_bytes}
use Rattle.rh_defs.proofs.BytesLaws.{part_all, part-append_right}
use Rattle.rh_defs.proofs.HeapLists.{cond_true, cond_false, eqb_same, leb_yes}
use Rattle.rh_defs.proofs.MessageLaws.{name_plain, length-name_bytes, length-word_bytes, length-words, length-body, length-encoded, encoded-most, encoded-words}
use Rattle.rh_defs.proofs.MessageLaws.{message_words}
use Rattle.rh_defs.proofs.MessageImageLaws.{ltb_yes, plain_at, both_are, length-holds, spelled-body, encoded-spells}

-- ---- what is read

-- what is read in bytes is one of the six kinds
pub kind-is : (a : ℕ) (bytes : List ℕ) (b : Body) → kind_read a bytes ≡ Some b → is_kind b ≡ true
kind-is a bytes b e = go (block_with a bytes) (20 + length bytes) (action_at a) e
  where
    filed : (make : FileData → Body) → ((f : FileData) → is_kind (make f) ≡ true) → (r : Result FileData MessageFault)
        → result_ok (about_file make r) ≡ Some b → is_kind b ≡ true
    filed make kind (Err fault) z = absurd cc
    filed make kind (Ok f) z = subst (λ c. is_kind c ≡ true) (let same : make f ≡ b = cc in same) (kind f)

    rammed : (make : ℕ → ℕ → Body) → ((x y : ℕ) → is_kind (make x y) ≡ true) → (t : Bool) (x y : ℕ)
        → result_ok {E = MessageFault} (cond t (Err BadLength) (Ok (make x y))) ≡ Some b → is_kind b ≡ true
    rammed make kind true x y z = absurd cc
    rammed make kind false x y z = subst (λ c. is_kind c ≡ true) (let same : make x y ≡ b = cc in same) (kind x y)

    go : (block : List ℕ) (end : ℕ) (o : Option Action) → result_ok (body_for block end o) ≡ Some b → is_kind b ≡ true
    go block end None z = absurd cc
    go block end (Some action.DataSave) z = filed DataSave (λ f. refl) (file_in block end) z
    go block end (Some action.DataSaveAck) z = filed DataSaveAck (λ f. refl) (file_in block end) z
    go block end (Some action.DataLoad) z = filed DataLoad (λ f. refl) (file_in block end) z
    go block end (Some action.DataLoadAck) z = filed DataLoadAck (λ f. refl) (file_in block end) z
    go block end (Some action.RamFetch) z = rammed RamFetch (λ x y. refl) (ltb end 28) (word block 20) (word block 24) z
    go block end (Some action.RamTransmit) z = rammed RamTransmit (λ x y. refl) (ltb end 28) (word block 20) (word block 24) z
    go block end (Some (action.Other n)) z = absurd cc

-- a kind is read as it is
pub kind-reads : (b : Body) → is_kind b ≡ true → read_body b ≡ b
kind-reads (DataSave f) e = refl
kind-reads (DataSaveAck f) e = refl
kind-reads (DataLoad f) e = refl
kind-reads (DataLoadAck f) e = refl
kind-reads (RamFetch buffer n) e = refl
kind-reads (RamTransmit buffer n) e = refl
kind-reads (Other o) e = absurd cc

-- what was read is read as it is
pub reads-once : (b : Body) → read_body (read_body b) ≡ read_body b
reads-once (DataSave f) = refl
reads-once (DataSaveAck f) = refl
reads-once (DataLoad f) = refl
reads-once (DataLoadAck f) = refl
reads-once (RamFetch buffer n) = refl
reads-once (RamTransmit buffer n) = refl
reads-once (Other o) = go (kind_read o.0 o.1) refl
  where
    go : (v : Option Body) → kind_read o.0 o.1 ≡ v → read_body (unwrap_or v (Other o)) ≡ unwrap_or v (Other o)
    go None e = ap (λ v. unwrap_or v (Other o)) e
    go (Some b) e = kind-reads b (kind-is o.0 o.1 b e)

-- ---- the bytes of a kind are its own

name-alone : (name : List ℕ) → is_pathname name ≡ true → is_name_data (name_bytes name) ≡ true
name-alone name p =
    let n : ℕ = length name in
    let pad : ℕ = 4 * ((n + 1 + 3) / 4) - n in
    let l = length-append name (zeros pad) in
    let lz = length-replicate {A = ℕ} pad 0 in
    let at : position_or_len (λ x. x == 0) (name_bytes name) ≡ n =
    position_or_len_is (λ x. x == 0) (name_bytes name) n 0 (omega arith)
    (λ i h. ap (λ y. eqb y 0) (in-name i h) ∙ plain_at name i (name_plain name p) h)
    (λ h. eqb_same (get_or (name_bytes name) n 0) 0 behind) in
    let found : position (λ x. x == 0) (name_bytes name) ≡ Some n =
    ap (λ j. cond (ltb j (length (name_bytes name))) (Some j) None) at
    ∙ cond_true (ltb n (length (name_bytes name))) _ _ (ltb_yes n (length (name_bytes name)) (omega arith)) in
    ap (ends_at (name_bytes name)) found
    ∙ both_are (eqb (length (name_bytes name)) (round_up 4 (n + 1))) (list_all (λ x. x == 0) (drop n (name_bytes name)))
    (eqb_same (length (name_bytes name)) (round_up 4 (n + 1)) (omega arith))
    (ap (list_all (λ x. x == 0)) (drop-append_seam name (zeros pad)) ∙ all-zeros pad)
  where
    all-zeros : (k : ℕ) → list_all (λ x. x == 0) (zeros k) ≡ true
    all-zeros zero = refl
    all-zeros (suc k) = all-zeros k

    in-name : (i : ℕ) → i < length name → get_or (name_bytes name) i 0 ≡ get_or name i 0
    in-name i h = get_or_append_left name (zeros (4 * ((length name + 1 + 3) / 4) - length name)) 0 i h

    behind : get_or (name_bytes name) (length name) 0 ≡ 0
    behind =
        ap (λ i. get_or (name_bytes name) i 0) (let q : length name ≡ length name + 0 = omega arith in q)
        ∙ get_or-append-add name (zeros (4 * ((length name + 1 + 3) / 4) - length name)) 0 0
        ∙ get_or-replicate (4 * ((length name + 1 + 3) / 4) - length name) 0 0 0 (omega arith)

file-alone : (f : FileData) → is_pathname f.name ≡ true → is_file_data (words (file_words f) ++ name_bytes f.name) ≡ true
unfolding word_bytes
file-alone f p =
    both_are (ltb 24 (length (words (file_words f) ++ name_bytes f.name))) (is_name_data (name_bytes f.name))
    (ltb_yes 24 (length (words (file_words f) ++ name_bytes f.name))
    (omega (arith, length-append (words (file_words f)) (name_bytes f.name), length-words (file_words f), length-name_bytes f.name)))
    (name-alone f.name p)

-- what stands behind the action
data-is : (b : Body) → data_bytes b ≡ words (data_words b) ++ tail_bytes b
unfolding body_bytes word_bytes
data-is b = refl

length-pair : (x y : ℕ) → length (words (x ∷ y ∷ []) ++ []) ≡ 8
unfolding word_bytes
length-pair x y = refl

exact-is : (b : Body) → HasName b → is_kind b ≡ true → is_exact (action_number (action_of b)) (data_bytes b) ≡ true
exact-is (DataSave f) h k = ap is_file_data (data-is (DataSave f)) ∙ file-alone f h
exact-is (DataSaveAck f) h k = ap is_file_data (data-is (DataSaveAck f)) ∙ file-alone f h
exact-is (DataLoad f) h k = ap is_file_data (data-is (DataLoad f)) ∙ file-alone f h
exact-is (DataLoadAck f) h k = ap is_file_data (data-is (DataLoadAck f)) ∙ file-alone f h
exact-is (RamFetch x y) h k = ap (λ bytes. eqb (length bytes) 8) (data-is (RamFetch x y)) ∙ eqb_same _ 8 (length-pair x y)
exact-is (RamTransmit x y) h k = ap (λ bytes. eqb (length bytes) 8) (data-is (RamTransmit x y)) ∙ eqb_same _ 8 (length-pair x y)
exact-is (Other o) h k = absurd cc

-- ---- a body out of its bytes

-- a message that says no more than its body
abbrev bare : Body → Message
bare b = record { from = 0; my_ref = 0; your_ref = 0; body = b }

bare-fits : (b : Body) → HasName b → AreWords (data_words b) → Fits (bare b)
bare-fits b h w = record { from = lit< tt; my_ref = lit< tt; your_ref = lit< tt; numbers = w; name = h }

data-length : (b : Body) → 20 + length (data_bytes b) ≡ encoded_length (bare b)
data-length b = omega (arith, ap length (data-is b), length-append (words (data_words b)) (tail_bytes b), length-words (data_words b), length-body b)

block-same : (b : Body) → words (encoded_length (bare b) ∷ 0 ∷ 0 ∷ 0 ∷ action_number (action_of b) ∷ []) ++ data_bytes b ≡ encoded (bare b)
unfolding encoded body_bytes word_bytes
block-same b = refl

block-is : (b : Body) → block_with (action_number (action_of b)) (data_bytes b) ≡ encoded (bare b)
block-is b = ap (λ n. words (n ∷ 0 ∷ 0 ∷ 0 ∷ action_number (action_of b) ∷ []) ++ data_bytes b) (data-length b) ∙ block-same b

kind-back : (b : Body) → HasName b → AreWords (data_words b) → is_kind b ≡ true → kind_read (action_number (action_of b)) (data_bytes b) ≡ Some b
kind-back b h w k =
    let fits = bare-fits b h w in
    let spells = encoded-spells (bare b) fits k in
    let first = (encoded-words (bare b) fits).0 in
    ap (λ block. result_ok (body_for block (20 + length (data_bytes b)) (action_at (action_number (action_of b))))) (block-is b)
    ∙ ap (λ n. result_ok (body_for (encoded (bare b)) n (action_at (action_number (action_of b))))) (data-length b ∙ sym first)
    ∙ ap (λ n. result_ok (body_for (encoded (bare b)) (word (encoded (bare b)) 0) (action_at n))) (sym spells.words.1.1.1.0)
    ∙ ap result_ok (spelled-body (encoded (bare b)) (word (encoded (bare b)) 0) b (record {
      action = spells.words.1.1.1.0;
      numbers = spells.words.1.1.1.1;
      rest = spells.tail;
    }))

pub body-back : (b : Body) → HasName b → AreWords (data_words b) → body_of (action_number (action_of b)) (data_bytes b) ≡ b
body-back b h w = go b h w (is_kind b) refl
  where
    not-exact : (a e : Bool) → (a && not e) ≡ true → e ≡ false
    not-exact true true q = absurd cc
    not-exact true false q = refl
    not-exact false e q = absurd cc

    go : (b : Body) → HasName b → AreWords (data_words b) → (k : Bool) → is_kind b ≡ k → body_of (action_number (action_of b)) (data_bytes b) ≡ b
    go b h w true k =
        cond_true (is_exact (action_number (action_of b)) (data_bytes b)) _ _ (exact-is b h k)
        ∙ ap (λ v. unwrap_or v (Other (action_number (action_of b), data_bytes b))) (kind-back b h w k)
    go (Other o) h w false k =
        ap (body_of o.0) (data-is (Other o)) ∙ cond_false (is_exact o.0 o.1) _ _ (not-exact (is_whole o.1) (is_exact o.0 o.1) h.1)
    go b h w false k = absurd cc

-- ---- a message out of its block

-- the words before the data
abbrev head : Message → List ℕ
head m = words (encoded_length m ∷ m.from ∷ m.my_ref ∷ m.your_ref ∷ action_number (action_of m.body) ∷ [])

encoded-parts : (m : Message) → encoded m ≡ head m ++ data_bytes m.body
unfolding encoded body_bytes word_bytes
encoded-parts m = refl

pub rest-is : (m : Message) → part (encoded m) 20 (encoded_length m - 20) ≡ data_bytes m.body
rest-is m =
    let rest : List ℕ = data_bytes m.body in
    let w = length-words (encoded_length m ∷ m.from ∷ m.my_ref ∷ m.your_ref ∷ action_number (action_of m.body) ∷ []) in
    let l = data-length m.body in
    let n : encoded_length m - 20 ≡ length rest = omega (arith, l) in
    ap (λ b. part b 20 (encoded_length m - 20)) (encoded-parts m)
    ∙ ap (part (head m ++ rest) 20) n
    ∙ ap (λ i. part (head m ++ rest) i (length rest)) (let q : 20 ≡ length (head m) + 0 = omega (arith, w) in q)
    ∙ part-append_right (head m) rest 0 (length rest) ∙ part_all rest

-- the first bytes of a list are a message block
pub any-spelled : (b : List ℕ) (m : Message) → Fits m → SpellWords b 0 (message_words m) → encoded_length m ≤ length b
    → part b 20 (encoded_length m - 20) ≡ data_bytes m.body → any_decoded b ≡ Ok m
unfolding any_decoded
any-spelled b m f (size, (from, (mine, (yours, (kind, numbers))))) there rest =
    let most = encoded-most m f.name in
    let low = most.0 in
    let high = most.1 in
    let whole = most.2 in
    let said : body_of (word b 16) (part b 20 (word b 0 - 20)) ≡ m.body =
    ap (λ n. body_of n (part b 20 (word b 0 - 20))) kind
    ∙ ap (λ n. body_of (action_number (action_of m.body)) (part b 20 (n - 20))) size
    ∙ ap (body_of (action_number (action_of m.body))) rest
    ∙ body-back m.body f.name f.numbers in
    cond_true (has_length b) _ _
    (length-holds b (omega (arith, size, low)) (omega (arith, size, high)) (ap (λ n. n % 4) size ∙ whole) (omega (arith, size, there)))
    ∙ ap (λ i. made i (word b 8) (word b 12) (body_of (word b 16) (part b 20 (word b 0 - 20)))) from
    ∙ ap (λ i. made m.from i (word b 12) (body_of (word b 16) (part b 20 (word b 0 - 20)))) mine
    ∙ ap (λ i. made m.from m.my_ref i (body_of (word b 16) (part b 20 (word b 0 - 20)))) yours
    ∙ ap (made m.from m.my_ref m.your_ref) said
  where
    made : ℕ → ℕ → ℕ → Body → Result Message MessageFault
    made i j l body = Ok (record { from = i; my_ref = j; your_ref = l; body = body })

-- the block of a message says it
pub any-encoded : (m : Message) → Fits m → any_decoded (encoded m) ≡ Ok m
any-encoded m f =
    let l = length-encoded m in any-spelled (encoded m) m f (encoded-words m f) (omega (arith, l)) (rest-is m)
