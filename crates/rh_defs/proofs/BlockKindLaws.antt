-- What is read in the data of a message block is what is read in the block; and where the data is a kind's own, that kind is read.
use Rattle.rh_defs.proofs.Common.{◌≡◌, ℕ, ◌+◌, ◌-◌, ◌<◌, ◌≤◌, ◌≢◌, Bool, true, false, cond, eqb, ltb, leb, inl, inr, List, [], ◌∷◌, ◌++◌, length, refl}
use Rattle.rh_defs.proofs.Common.{sym, ap, subst, ◌∙◌, arith, cases_eq, nat_tests, eqb-true, Option, Some, None, Result, Ok, Err, ◌==◌, ◌&&◌, ◌||◌, is_some}
use Rattle.rh_defs.proofs.Common.{word, part}
use Rattle.rh_defs.proofs.Common.{take, drop, length-drop, Body, DataSave, DataSaveAck, DataLoad, DataLoadAck, RamFetch, RamTransmit}
use Rattle.std.specs.List.{list_all, position}
use Rattle.std.proofs.Math.Seq.{take-length}
use Rattle.std.specs.Result.{result_ok}
use Rattle.std.proofs.lemmas.List.Quantifiers.{position-Some}
use Rattle.rh_defs.specs.Pieces.{round_up}
use Rattle.rh_defs.specs.declared.message.Action.{Action}
use Rattle.rh_defs.specs.declared.message.Action.TheVariants as action
use Rattle.rh_defs.specs.declared.message.FileData.{FileData}
use Rattle.rh_defs.specs.declared.message.MessageFault.{MessageFault}
use Rattle.rh_defs.specs.declared.message.MessageFault.TheVariants.{BadLength}
use Rattle.rh_defs.specs.OtherBodies.{ends_at, is_name_data, is_file_data, is_exact}
use Rattle.rh_defs.specs.Messages.{action_at, words}
use Rattle.rh_defs.specs.MessageImage.{name_length, file_named, file_in, about_file, body_for}
use Rattle.rh_defs.specs.AnyMessage.{block_with, kind_read}
use Rattle.rh_defs.proofs.BytesLaws.{length-part, word-part, part-part, part-drop, word-append_right, part-append_right}
use Rattle.rh_defs.proofs.HeapLists.{cond_true, cond_false, eqb_apart}
use Rattle.rh_defs.proofs.MessageLaws.{length-words}
use Rattle.rh_defs.proofs.MessageImageLaws.{ltb_no, both_true}

-- the words before the data of such a block
abbrev front : ℕ → List ℕ → List ℕ
front a d = words ((20 + length d) ∷ 0 ∷ 0 ∷ 0 ∷ a ∷ [])

front-length : (a : ℕ) (d : List ℕ) → length (front a d) ≡ 20
front-length a d = length-words ((20 + length d) ∷ 0 ∷ 0 ∷ 0 ∷ a ∷ [])

behind-word : (a : ℕ) (d : List ℕ) (at i : ℕ) → at ≡ 20 + i → word (block_with a d) at ≡ word d i
behind-word a d at i e =
    ap (word (block_with a d)) (let q : at ≡ length (front a d) + i = omega (arith, e, front-length a d) in q) ∙ word-append_right (front a d) d i

behind-part : (a : ℕ) (d : List ℕ) (at i n : ℕ) → at ≡ 20 + i → part (block_with a d) at n ≡ part d i n
behind-part a d at i n e =
    ap (λ k. part (block_with a d) k n) (let q : at ≡ length (front a d) + i = omega (arith, e, front-length a d) in q)
    ∙ part-append_right (front a d) d i n

module _ (b : List ℕ) (end a : ℕ) (low : 20 ≤ end) where
  abbrev data_at : List ℕ
  data_at = part b 20 (end - 20)

  abbrev block : List ℕ
  block = block_with a data_at

  word-there : (at i : ℕ) → at ≡ 20 + i → at + 4 ≤ end → word block at ≡ word b at
  word-there at i e fits =
      behind-word a data_at at i e ∙ word-part b 20 (end - 20) i (omega (arith, e, fits)) ∙ ap (word b) (sym e)

  part-there : (n : ℕ) → 44 + n ≤ end → part block 44 n ≡ part b 44 n
  part-there n fits = behind-part a data_at 44 24 n refl ∙ part-part b 20 (end - 20) 24 n (omega (arith, fits))

  file-there : file_in block end ≡ file_in b end
  file-there = go (ltb end 48) refl
    where
      made : ℕ → ℕ → ℕ → ℕ → ℕ → ℕ → List ℕ → Result FileData MessageFault
      made w i x y s t name = Ok (record { window = w; icon = i; x = x; y = y; size = s; file_type = t; name = name })

      named : (o : Option ℕ) → 48 ≤ end → name_length b end ≡ o → file_named block o ≡ file_named b o
      named None long e = refl
      named (Some n) long e =
          let r = position-Some (λ x. x == 0) (part b 44 (end - 44)) n 0 e in
          let l = length-part b 44 (end - 44) in
          let within : n < end - 44 = omega arith in
          ap (λ v. made v (word block 24) (word block 28) (word block 32) (word block 36) (word block 40) (part block 44 n))
          (word-there 20 0 refl (omega arith))
          ∙ ap (λ v. made (word b 20) v (word block 28) (word block 32) (word block 36) (word block 40) (part block 44 n)) (word-there 24 4 refl (omega arith))
          ∙ ap (λ v. made (word b 20) (word b 24) v (word block 32) (word block 36) (word block 40) (part block 44 n)) (word-there 28 8 refl (omega arith))
          ∙ ap (λ v. made (word b 20) (word b 24) (word b 28) v (word block 36) (word block 40) (part block 44 n)) (word-there 32 12 refl (omega arith))
          ∙ ap (λ v. made (word b 20) (word b 24) (word b 28) (word b 32) v (word block 40) (part block 44 n)) (word-there 36 16 refl (omega arith))
          ∙ ap (λ v. made (word b 20) (word b 24) (word b 28) (word b 32) (word b 36) v (part block 44 n)) (word-there 40 20 refl (omega arith))
          ∙ ap (made (word b 20) (word b 24) (word b 28) (word b 32) (word b 36) (word b 40)) (part-there n (omega arith))

      go : (t : Bool) → ltb end 48 ≡ t
          → cond t (Err BadLength) (file_named block (name_length block end)) ≡ cond t (Err BadLength) (file_named b (name_length b end))
      go true e = refl
      go false e =
          let long : 48 ≤ end = grind (arith, nat_tests) in
          let same : name_length block end ≡ name_length b end = ap (position (λ x. x == 0)) (part-there (end - 44) (omega (arith, long))) in
          ap (file_named block) same ∙ named (name_length b end) long refl

  -- what a message of two words says
  abbrev pair_in : (ℕ → ℕ → Body) → List ℕ → Result Body MessageFault
  pair_in make c = Ok (make (word c 20) (word c 24))

  ram-there : (make : ℕ → ℕ → Body) (t : Bool) → ltb end 28 ≡ t → cond t (Err BadLength) (pair_in make block) ≡ cond t (Err BadLength) (pair_in make b)
  ram-there make true e = refl
  ram-there make false e =
      let long : 28 ≤ end = grind (arith, nat_tests) in
      ap (λ v. read (make v (word block 24))) (word-there 20 0 refl (omega (arith, long)))
      ∙ ap (λ v. read (make (word b 20) v)) (word-there 24 4 refl (omega (arith, long)))
    where
      read : Body → Result Body MessageFault
      read body = Ok body

  body-there : (o : Option Action) → body_for block end o ≡ body_for b end o
  body-there None = refl
  body-there (Some action.DataSave) = ap (about_file DataSave) file-there
  body-there (Some action.DataSaveAck) = ap (about_file DataSaveAck) file-there
  body-there (Some action.DataLoad) = ap (about_file DataLoad) file-there
  body-there (Some action.DataLoadAck) = ap (about_file DataLoadAck) file-there
  body-there (Some action.RamFetch) = ram-there RamFetch (ltb end 28) refl
  body-there (Some action.RamTransmit) = ram-there RamTransmit (ltb end 28) refl
  body-there (Some (action.Other n)) = refl

  -- the data of a block says what the block says
  pub same-kind : kind_read a data_at ≡ result_ok (body_for b end (action_at a))
  same-kind =
      let l = length-part b 20 (end - 20) in
      let whole : 20 + length data_at ≡ end = omega (arith, l, low) in
      ap (λ n. result_ok (body_for block n (action_at a))) whole ∙ ap result_ok (body-there (action_at a))

-- ---- a kind's own data

-- a file's data has its six words, and a name with a zero byte
record FileSaid (d : List ℕ) (n : ℕ) : Type 0 where
  long : 28 ≤ length d
  there : position (λ x. x == 0) (drop 24 d) ≡ Some n

file-said : (d : List ℕ) → is_file_data d ≡ true → (n : ℕ) × FileSaid d n
file-said d e =
    let w = both_true (ltb 24 (length d)) (is_name_data (drop 24 d)) e in go (position (λ x. x == 0) (drop 24 d)) refl w.1
  where
    go : (o : Option ℕ) → position (λ x. x == 0) (drop 24 d) ≡ o → ends_at (drop 24 d) o ≡ true → (n : ℕ) × FileSaid d n
    go None q t = absurd cc
    go (Some n) q t =
        let w = both_true (eqb (length (drop 24 d)) (round_up 4 (n + 1))) (list_all (λ x. x == 0) (drop n (drop 24 d))) t in
        let whole = eqb-true (length (drop 24 d)) (round_up 4 (n + 1)) w.0 in
        (n, record { long = omega (arith, whole, length-drop 24 d); there = q })

file-read : (a : ℕ) (d : List ℕ) (make : FileData → Body) → is_file_data d ≡ true
    → is_some (result_ok (about_file make (file_in (block_with a d) (20 + length d)))) ≡ true
file-read a d make e =
    let w = file-said d e in
    let long = w.1.long in
    let m : ℕ = length d - 24 in
    let same : part (block_with a d) 44 ((20 + length d) - 44) ≡ drop 24 d =
    ap (part (block_with a d) 44) (let q : (20 + length d) - 44 ≡ length d - 24 = omega (arith, long) in q)
    ∙ behind-part a d 44 24 m refl ∙ part-drop d 24 m (omega (arith, long)) ∙ take-rest in
    ap (λ r. is_some (result_ok (about_file make r)))
    (cond_false (ltb (20 + length d) 48) _ _ (ltb_no (20 + length d) 48 (omega (arith, long)))
    ∙ ap (file_named (block_with a d)) (ap (position (λ x. x == 0)) same ∙ w.1.there))
  where
    take-rest : take (length d - 24) (drop 24 d) ≡ drop 24 d
    take-rest = ap (λ n. take n (drop 24 d)) (sym (length-drop 24 d)) ∙ take-length (drop 24 d)

ram-read : (make : ℕ → ℕ → Body) (block : List ℕ) (n : ℕ) → n ≡ 8
    → is_some (result_ok {E = MessageFault} (cond (ltb (20 + n) 28) (Err BadLength) (Ok (make (word block 20) (word block 24))))) ≡ true
ram-read make block n e = rw e refl

-- data that is a kind's own is read as that kind
pub exact-found : (a : ℕ) (d : List ℕ) → is_exact a d ≡ true → is_some (kind_read a d) ≡ true
exact-found a d e = elim (cases_eq a 6) [
  | inl q ↦ only 6 q (λ t. ram-read RamFetch (block_with 6 d) (length d) (eqb-true (length d) 8 t))
  | inr n6 ↦ elim (cases_eq a 7) [
    | inl q ↦ only 7 q (λ t. ram-read RamTransmit (block_with 7 d) (length d) (eqb-true (length d) 8 t))
    | inr n7 ↦ elim (cases_eq a 1) [
      | inl q ↦ only 1 q (λ t. file-read 1 d DataSave t)
      | inr n1 ↦ elim (cases_eq a 2) [
        | inl q ↦ only 2 q (λ t. file-read 2 d DataSaveAck t)
        | inr n2 ↦ elim (cases_eq a 3) [
          | inl q ↦ only 3 q (λ t. file-read 3 d DataLoad t)
          | inr n3 ↦ elim (cases_eq a 4) [
            | inl q ↦ only 4 q (λ t. file-read 4 d DataLoadAck t)
            | inr n4 ↦ let w = few n6 n7 in absurd (omega (arith, w.0, w.1, n1, n2, n3, n4))
          ]
        ]
      ]
    ]
  ]
]
  where
    only : (k : ℕ) → a ≡ k → (is_exact k d ≡ true → is_some (kind_read k d) ≡ true) → is_some (kind_read a d) ≡ true
    only k q f = subst (λ j. is_some (kind_read j d) ≡ true) (sym q) (f (subst (λ j. is_exact j d ≡ true) q e))

    neither : (x y : Bool) → x ≡ false → y ≡ false → (x || y) ≡ false
    neither true y p q = absurd cc
    neither false y p q = q

    at_most : (x y : ℕ) → leb x y ≡ true → x ≤ y
    at_most x y u = grind (arith, nat_tests)

    few : a ≢ 6 → a ≢ 7 → (1 ≤ a) × (a ≤ 4)
    few n6 n7 =
        let t : (leb 1 a && leb a 4 && is_file_data d) ≡ true =
        sym (cond_false (eqb a 6 || eqb a 7) (eqb (length d) 8) (leb 1 a && leb a 4 && is_file_data d)
        (neither (eqb a 6) (eqb a 7) (eqb_apart a 6 n6) (eqb_apart a 7 n7))) ∙ e in
        let w = both_true (leb 1 a && leb a 4) (is_file_data d) t in
        let v = both_true (leb 1 a) (leb a 4) w.0 in
        (at_most 1 a v.0, at_most a 4 v.1)
