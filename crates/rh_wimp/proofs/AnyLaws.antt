-- What messages of any action say, by what a block says.
use Rattle.rh_wimp.proofs.Common.{◌≡◌, ◌≢◌, ℕ, ◌+◌, ◌-◌, ◌%◌, ◌≤◌, ◌<◌, ◌^◌, Bool, true, false, List, length, refl, sym, ap, ◌∙◌, arith, Option, Some, None}
use Rattle.rh_wimp.proofs.Common.{subst, Result, Ok, Err, unwrap_or, not, word, word_bytes, part, with_part, action_at, any_decoded, Body, Message}
use Rattle.rh_wimp.proofs.Common.{MessageFault, DataSave, DataSaveAck, DataLoad, DataLoadAck, RamFetch, RamTransmit, Other, ◌==◌, cond_true, cond_false, eqb}
use Rattle.rh_wimp.proofs.Common.{eqb_same, leb}
use Rattle.std.proofs.lemmas.Bool.Decides.{nat_tests}
use Rattle.std.specs.Prelude.{is_some, ◌&&◌, drop, if◌then◌else◌, nat_eq, nat_lt, take}
use Rattle.std.specs.List.{list_all}
use Rattle.std.proofs.lemmas.List.{take_all}
use Rattle.std.proofs.Common.{length-drop}
use Rattle.std.proofs.lemmas.List.Quantifiers.{position-Some}
use Rattle.std.specs.Result.{result_ok}
use Rattle.rh_defs.specs.Bytes.{put_word}
use Rattle.rh_defs.specs.AnyMessage.{body_of, kind_read, read_body}
use Rattle.rh_defs.specs.MessageImage.{about_file, body_for, file_in, has_length, name_length}
use Rattle.rh_defs.specs.OtherBodies.{ends_at, is_exact, is_other, is_whole}
use Rattle.rh_defs.specs.Pieces.{round_up}
use Rattle.rh_defs.specs.declared.message.Action.{Action}
use Rattle.rh_defs.specs.declared.message.Action.TheVariants as action
use Rattle.rh_defs.specs.declared.message.FileData.{FileData}
use Rattle.rh_defs.specs.declared.message.MessageFault.TheVariants.{BadLength}
use Rattle.rh_wimp.specs.Chains.{body_as}
use Rattle.rh_defs.proofs.BytesLaws.{length-part, part-drop, part-part, part-put, word-put_below, word-put_word}
use Rattle.rh_defs.proofs.BlockKindLaws.{exact-found, same-kind}
use Rattle.rh_defs.proofs.MessageImageLaws.{both_are}

-- ---- data that is no kind's own, or is
pub other-is : (a : ℕ) (d : List ℕ) → is_other a d ≡ true → body_of a d ≡ Other (a, d)
other-is a d e = cond_false (is_exact a d) _ _ (inexact (is_whole d) (is_exact a d) e)
  where
    inexact : (w x : Bool) → (w && not x) ≡ true → x ≡ false
    inexact true true q = absurd cc
    inexact true false q = refl
    inexact false x q = absurd cc

pub inexact-other : (a : ℕ) (d : List ℕ) → is_whole d ≡ true → is_exact a d ≡ false → is_other a d ≡ true
inexact-other a d w n = ap (λ x. is_whole d && not x) n ∙ ap (λ x. x && true) w

-- ---- the name at the end of a block
pub name-there : (b : List ℕ) (end n : ℕ) → name_length b end ≡ Some n → n < end - 44
name-there b end n e =
    omega (arith, (position-Some (λ x. x == 0) (part b 44 (end - 44)) n 0 e).0, length-part b 44 (end - 44))

pub tail-there : (b : List ℕ) (end n : ℕ) → name_length b end ≡ Some n → end ≤ length b
    → drop n (part b 44 (end - 44)) ≡ take (end - (44 + n)) (drop (44 + n) b)
tail-there b end n e high =
    let w = name-there b end n e in
    let x = part b 44 (end - 44) in
    let l = length-part b 44 (end - 44) in
    let k = end - 44 - n in
    sym (part-drop x n k (omega (arith, l)) ∙ take_all k (drop n x) (omega (arith, length-drop n x, l)))
    ∙ part-part b 44 (end - 44) n k (omega arith)
    ∙ ap (part b (44 + n)) (let q : k ≡ end - (44 + n) = omega arith in q)
    ∙ part-drop b (44 + n) (end - (44 + n)) (omega arith)

pub name-behind : (b : List ℕ) (end : ℕ) → 44 ≤ end → end ≤ length b → drop 24 (part b 20 (end - 20)) ≡ part b 44 (end - 44)
name-behind b end low high =
    let x = part b 20 (end - 20) in
    let l = length-part b 20 (end - 20) in
    let k = end - 44 in
    sym (part-drop x 24 k (omega (arith, l)) ∙ take_all k (drop 24 x) (omega (arith, length-drop 24 x, l)))
    ∙ part-part b 20 (end - 20) 24 k (omega arith)

pub ends-there : (x : List ℕ) (n : ℕ) → length x ≡ round_up 4 (n + 1) → list_all (λ y. y == 0) (drop n x) ≡ ends_at x (Some n)
ends-there x n e = ap (λ t. t && list_all (λ y. y == 0) (drop n x)) (sym (eqb_same (length x) (round_up 4 (n + 1)) e))

pub ends-elsewhere : (x : List ℕ) (n m : ℕ) → m ≡ round_up 4 (n + 1) → nat_eq (length x) m ≡ false → false ≡ ends_at x (Some n)
ends-elsewhere x n m is e =
    ap (λ t. t && list_all (λ y. y == 0) (drop n x)) (sym (ap (nat_eq (length x)) (sym is) ∙ e))

-- the kind whose own message has just the action and the bytes of a block
pub record KindAt (b : List ℕ) (end a : ℕ) : Type 0 where
  pub body : Body
  pub read : result_ok (body_for b end (action_at a)) ≡ Some body
  pub is : body_of a (part b 20 (end - 20)) ≡ body

pub kind-at : (b : List ℕ) (end a : ℕ) → 20 ≤ end → is_exact a (part b 20 (end - 20)) ≡ true → KindAt b end a
kind-at b end a low e = go (kind_read a (part b 20 (end - 20))) refl (exact-found a (part b 20 (end - 20)) e)
  where
    go : (k : Option Body) → kind_read a (part b 20 (end - 20)) ≡ k → is_some k ≡ true → KindAt b end a
    go None q t = absurd cc
    go (Some body) q t = record {
      body = body;
      read = sym (same-kind b end a low) ∙ q;
      is = cond_true (is_exact a (part b 20 (end - 20))) _ _ e ∙ ap (λ v. unwrap_or v (Other (a, part b 20 (end - 20)))) q;
    }

-- ---- an action and data that were written into a block
pub action-there : (o : List ℕ) (a : ℕ) (d : List ℕ) → length o ≡ 256 → a < 2 ^ 32 → word (with_part (with_part o 16 (word_bytes a)) 20 d) 16 ≡ a
unfolding put_word word_bytes
action-there o a d l few =
    word-put_below (put_word o 16 a) 20 d 16 (omega arith) ∙ word-put_word o 16 a (omega arith) few

pub data-there : (o : List ℕ) (d : List ℕ) (end : ℕ) → end ≡ 20 + length d → end ≤ length o → part (with_part o 20 d) 20 (end - 20) ≡ d
data-there o d end e fits = part-put o 20 d (end - 20) (omega arith) (omega arith)

-- ---- a kind that is read as it is
pub read-same : (b : Body) → ((o : ℕ × List ℕ) → b ≢ Other o) → read_body b ≡ b
read-same (DataSave f) n = refl
read-same (DataSaveAck f) n = refl
read-same (DataLoad f) n = refl
read-same (DataLoadAck f) n = refl
read-same (RamFetch x y) n = refl
read-same (RamTransmit x y) n = refl
read-same (Other o) n = absurd (n o refl)

-- so is one that was read in a block
file-same : (make : FileData → Body) → ((f : FileData) → read_body (make f) ≡ make f) → (r : Result FileData MessageFault) (body : Body)
    → result_ok (about_file make r) ≡ Some body → read_body body ≡ body
file-same make same (Ok f) body e = let is : make f ≡ body = cc in subst (λ x. read_body x ≡ x) is (same f)
file-same make same (Err fault) body e = absurd cc

ram-same : (make : ℕ → ℕ → Body) → ((x y : ℕ) → read_body (make x y) ≡ make x y) → (t : Bool) (x y : ℕ) (body : Body)
    → result_ok (let r : Result Body MessageFault = if t then Err BadLength else Ok (make x y) in r) ≡ Some body → read_body body ≡ body
ram-same make same true x y body e = absurd cc
ram-same make same false x y body e = let is : make x y ≡ body = cc in subst (λ z. read_body z ≡ z) is (same x y)

kind-same : (b : List ℕ) (end : ℕ) (o : Option Action) (body : Body) → result_ok (body_for b end o) ≡ Some body → read_body body ≡ body
kind-same b end None body e = absurd cc
kind-same b end (Some action.DataSave) body e = file-same DataSave (λ f. refl) (file_in b end) body e
kind-same b end (Some action.DataSaveAck) body e = file-same DataSaveAck (λ f. refl) (file_in b end) body e
kind-same b end (Some action.DataLoad) body e = file-same DataLoad (λ f. refl) (file_in b end) body e
kind-same b end (Some action.DataLoadAck) body e = file-same DataLoadAck (λ f. refl) (file_in b end) body e
kind-same b end (Some action.RamFetch) body e = ram-same RamFetch (λ x y. refl) (nat_lt end 28) (word b 20) (word b 24) body e
kind-same b end (Some action.RamTransmit) body e = ram-same RamTransmit (λ x y. refl) (nat_lt end 28) (word b 20) (word b 24) body e
kind-same b end (Some (action.Other n)) body e = absurd cc

pub kind-as : {b : List ℕ} {end a : ℕ} (played : Bool) (k : KindAt b end a) → body_as played k.body ≡ k.body
kind-as {b} {end} {a} true k = kind-same b end (action_at a) k.body k.read
kind-as false k = refl

-- ---- a message of any action
pub any-short : (b : List ℕ) → has_length b ≡ false → any_decoded b ≡ Err BadLength
unfolding any_decoded
any-short b f = cond_false (has_length b) _ _ f

pub any-read : (b : List ℕ) (body : Body) → has_length b ≡ true → body ≡ body_of (word b 16) (part b 20 (word b 0 - 20))
    → ◌≡◌ {A = Result Message MessageFault} (Ok (record { from = word b 4; my_ref = word b 8; your_ref = word b 12; body = body })) (any_decoded b)
unfolding any_decoded
any-read b body t e = ap made e ∙ sym (cond_true (has_length b) _ _ t)
  where
    made : Body → Result Message MessageFault
    made l = Ok (record { from = word b 4; my_ref = word b 8; your_ref = word b 12; body = l })

-- ---- whole words
pub data-whole : (d : List ℕ) (end : ℕ) → end ≡ 20 + length d → end ≤ 256 → end % 4 ≡ 0 → is_whole d ≡ true
data-whole d end e most whole = both_are (eqb (length d % 4) 0) (leb (length d) 236) (eqb_same (length d % 4) 0 (omega arith)) (few (length d) (omega arith))
  where
    few : (n : ℕ) → n ≤ 236 → leb n 236 ≡ true
    few n h = grind (arith, nat_tests)
