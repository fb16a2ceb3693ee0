-- The decoder answers a message exactly where the bytes spell it, and what was encoded is spelled.
use Rattle.rh_defs.proofs.Common.{◌≡◌, ℕ, zero, suc, ◌+◌, ◌-◌, ◌*◌, ◌/◌, ◌%◌, ◌<◌, ◌≤◌, ◌≢◌, inl, inr, Bool, true, false, cond, eqb, ltb, leb, List, [], ◌∷◌}
use Rattle.rh_defs.proofs.Common.{length, get_or, refl, sym, ap, subst, ◌∙◌, arith, cases_eq, nat_tests, length-append, length-replicate, Option, Some, None}
use Rattle.rh_defs.proofs.Common.{Result, Ok, Err, ◌==◌, ◌&&◌, word, part, zeros, encoded, encoded_length, Fits, SpellWords, Body, DataSave, DataSaveAck}
use Rattle.rh_defs.proofs.Common.{DataLoad, DataLoadAck, RamFetch, RamTransmit, Other, Message}
use Rattle.std.proofs.lemmas.List.{get_or-append-add, get_or-replicate}
use Rattle.std.proofs.lemmas.List.Quantifiers.{position-Some}
use Rattle.std.proofs.lemmas.List.Sums.{position_or_len_is}
use Rattle.std.specs.List.{position_or_len}
use Rattle.rh_defs.specs.declared.sizes.TheConstants.{LONGEST_MESSAGE}
use Rattle.rh_defs.specs.Pathnames.{is_plain}
use Rattle.rh_defs.specs.Messages.{action_at, action_number, action_of, file_words, data_words, name_bytes, tail_bytes, body_bytes, is_kind, HasName}
use Rattle.rh_defs.specs.MessageImage.{SpellsName, SpellsTail, SpellsMessage, name_length, file_named, file_in, about_file, body_for, body_in, message_in}
use Rattle.rh_defs.specs.MessageImage.{has_length, decoded}
use Rattle.rh_defs.specs.declared.message.Action.{Action}
use Rattle.rh_defs.specs.declared.message.Action.TheVariants as action
use Rattle.rh_defs.specs.declared.message.FileData.{FileData}
use Rattle.rh_defs.specs.declared.message.MessageFault.{MessageFault}
use Rattle.rh_defs.specs.declared.message.MessageFault.TheVariants.{BadLength}
use Rattle.rh_defs.proofs.BytesLaws.{length-part, get-part, part_all, part-append_left}
use Rattle.rh_defs.proofs.HeapLists.{cond_true, cond_false, eqb_same, eqb_apart, leb_yes}
use Rattle.rh_defs.proofs.MessageLaws.{name_plain, length-name_bytes, length-body, length-encoded, encoded-most, encoded-words, encoded-tail}

-- ---- tests
pub ltb_no : (m n : ℕ) → n ≤ m → ltb m n ≡ false
ltb_no m n h = grind (arith, nat_tests)

pub ltb_yes : (m n : ℕ) → m < n → ltb m n ≡ true
ltb_yes m n h = grind (arith, nat_tests)

pub both_true : (x y : Bool) → (x && y) ≡ true → (x ≡ true) × (y ≡ true)
both_true true true e = (refl, refl)
both_true true false e = absurd cc
both_true false y e = absurd cc

pub both_are : (x y : Bool) → x ≡ true → y ≡ true → (x && y) ≡ true
both_are true true ex ey = refl
both_are true false ex ey = absurd cc
both_are false y ex ey = absurd cc

-- ---- names without zero bytes
all_plain : (b : List ℕ) (at n : ℕ) → ((k : ℕ) → k < n → get_or b (at + k) 0 ≢ 0) → is_plain (part b at n) ≡ true
unfolding part
all_plain b at zero f = refl
all_plain b at (suc n) f =
    let here : get_or b at 0 ≢ 0 = λ z. f 0 (omega arith) (ap (λ i. get_or b i 0) (let e : at + 0 ≡ at = omega arith in e) ∙ z) in
    let t : ltb 0 (get_or b at 0) ≡ true = ltb_yes 0 (get_or b at 0) (omega arith) in
    both_are (ltb 0 (get_or b at 0)) (is_plain (part b (at + 1) n)) t (all_plain b (at + 1) n
    (λ k l z. f (k + 1) (omega arith) (ap (λ i. get_or b i 0) (omega arith) ∙ z)))

pub plain_at : (name : List ℕ) (i : ℕ) → is_plain name ≡ true → i < length name → eqb (get_or name i 0) 0 ≡ false
plain_at [] i t l = absurd (omega arith)
plain_at (x ∷ name) zero t l = let w = (both_true (ltb 0 x) (is_plain name) t).0 in grind (arith, nat_tests)
plain_at (x ∷ name) (suc i) t l = plain_at name i (both_true (ltb 0 x) (is_plain name) t).1 (omega arith)

-- ---- the name at 44
-- a name that was found is spelled
pub found_spelled : (b : List ℕ) (end n : ℕ) → 48 ≤ end → name_length b end ≡ Some n → SpellsName b end (part b 44 n)
found_spelled b end n low e =
    let r = position-Some (λ x. x == 0) (part b 44 (end - 44)) n 0 e in
    let l = length-part b 44 (end - 44) in
    let k = length-part b 44 n in
    let within : n < end - 44 = omega arith in
    let byte : (i : ℕ) → i < end - 44 → get_or (part b 44 (end - 44)) i 0 ≡ get_or b (44 + i) 0 = λ i h. get-part b 44 (end - 44) i h in
    let zero_there : get_or b (44 + n) 0 ≡ 0 = sym (byte n within) ∙ is_zero (get_or (part b 44 (end - 44)) n 0) r.1 in (
      low,
      ap (part b 44) k,
      all_plain b 44 n (λ i h z.
          let f : eqb (get_or (part b 44 (end - 44)) i 0) 0 ≡ false = r.2 i h in
          let t = eqb_same (get_or (part b 44 (end - 44)) i 0) 0 (byte i (omega arith) ∙ z) in
          absurd (let bad : true ≡ false = sym t ∙ f in cc)),
      omega arith,
      ap (λ i. get_or b (44 + i) 0) k ∙ zero_there,
    )
  where
    is_zero : (x : ℕ) → eqb x 0 ≡ true → x ≡ 0
    is_zero x t = elim (cases_eq x 0) [ inl e ↦ e | inr ne ↦ absurd (let bad : true ≡ false = sym t ∙ eqb_apart x 0 ne in cc) ]

-- a name that is spelled is found
pub spelled_found : (b : List ℕ) (end : ℕ) (name : List ℕ) → SpellsName b end name → name_length b end ≡ Some (length name)
spelled_found b end name s =
    let n : ℕ = length name in
    let xs : List ℕ = part b 44 (end - 44) in
    let l : length xs ≡ end - 44 = length-part b 44 (end - 44) in
    let within = s.3 in
    let byte : (i : ℕ) → i < end - 44 → get_or xs i 0 ≡ get_or b (44 + i) 0 = λ i h. get-part b 44 (end - 44) i h in
    let of_name : (i : ℕ) → i < n → get_or b (44 + i) 0 ≡ get_or name i 0 = λ i h. sym (get-part b 44 n i h) ∙ ap (λ ys. get_or ys i 0) s.1 in
    let p : position_or_len (λ x. x == 0) xs ≡ n =
    position_or_len_is (λ x. x == 0) xs n 0 (omega arith)
    (λ i h. ap (λ y. eqb y 0) (byte i (omega arith) ∙ of_name i h) ∙ plain_at name i s.2 h)
    (λ h. eqb_same (get_or xs n 0) 0 (byte n (omega arith) ∙ s.4)) in
    ap (λ j. cond (ltb j (length xs)) (Some j) None) p ∙ cond_true (ltb n (length xs)) _ _ (ltb_yes n (length xs) (omega arith))

-- ---- files
abbrev file_of : ℕ → ℕ → ℕ → ℕ → ℕ → ℕ → List ℕ → FileData
file_of w i x y s t name = record { window = w; icon = i; x = x; y = y; size = s; file_type = t; name = name }

abbrev FileSpelled : List ℕ → ℕ → FileData → Type 0
FileSpelled b end f = SpellWords b 20 (file_words f) × SpellsName b end f.name

file-spelled : (b : List ℕ) (end : ℕ) (f : FileData) → file_in b end ≡ Ok f → FileSpelled b end f
file-spelled b end f e = go (ltb end 48) refl e
  where
    named : (o : Option ℕ) → 48 ≤ end → name_length b end ≡ o → file_named b o ≡ Ok f → FileSpelled b end f
    named None low en z = absurd cc
    named (Some n) low en z =
        let g : FileData = file_of (word b 20) (word b 24) (word b 28) (word b 32) (word b 36) (word b 40) (part b 44 n) in
        let is : g ≡ f = cc in
        subst (FileSpelled b end) is ((refl, (refl, (refl, (refl, (refl, (refl, tt)))))), found_spelled b end n low en)

    go : (t : Bool) → ltb end 48 ≡ t → cond t (Err BadLength) (file_named b (name_length b end)) ≡ Ok f → FileSpelled b end f
    go true et z = absurd cc
    go false et z = named (name_length b end) (grind (arith, nat_tests)) refl z

spelled-file : (b : List ℕ) (end : ℕ) (f : FileData) → FileSpelled b end f → file_in b end ≡ Ok f
spelled-file b end f ((window, (icon, (x, (y, (size, (kind, rest)))))), name) =
    let low = name.0 in
    cond_false (ltb end 48) _ _ (ltb_no end 48 low)
    ∙ ap (file_named b) (spelled_found b end f.name name)
    ∙ ap (λ i. made (file_of i (word b 24) (word b 28) (word b 32) (word b 36) (word b 40) (part b 44 (length f.name)))) window
    ∙ ap (λ i. made (file_of f.window i (word b 28) (word b 32) (word b 36) (word b 40) (part b 44 (length f.name)))) icon
    ∙ ap (λ i. made (file_of f.window f.icon i (word b 32) (word b 36) (word b 40) (part b 44 (length f.name)))) x
    ∙ ap (λ i. made (file_of f.window f.icon f.x i (word b 36) (word b 40) (part b 44 (length f.name)))) y
    ∙ ap (λ i. made (file_of f.window f.icon f.x f.y i (word b 40) (part b 44 (length f.name)))) size
    ∙ ap (λ i. made (file_of f.window f.icon f.x f.y f.size i (part b 44 (length f.name)))) kind
    ∙ ap (λ l. made (file_of f.window f.icon f.x f.y f.size f.file_type l)) name.1
  where
    made : FileData → Result FileData MessageFault
    made g = Ok g

-- ---- bodies
-- the action's word, the words behind it, and the rest
pub record BodySpelled (b : List ℕ) (end : ℕ) (body : Body) : Type 0 where
  pub action : word b 16 ≡ action_number (action_of body)
  pub numbers : SpellWords b 20 (data_words body)
  pub rest : SpellsTail b end body

pub action-at : (n : ℕ) (a : Action) → action_at n ≡ Some a → n ≡ action_number a
action-at n a e = elim (cases_eq n 1) [
  | inl q ↦ named 1 action.DataSave (q) refl (sym (cond_true (eqb n 1) _ _ (eqb_same n 1 q)) ∙ e)
  | inr n1 ↦ let e1 = sym (cond_false (eqb n 1) _ _ (eqb_apart n 1 n1)) ∙ e in elim (cases_eq n 2) [
    | inl q ↦ named 2 action.DataSaveAck q refl (sym (cond_true (eqb n 2) _ _ (eqb_same n 2 q)) ∙ e1)
    | inr n2 ↦ let e2 = sym (cond_false (eqb n 2) _ _ (eqb_apart n 2 n2)) ∙ e1 in elim (cases_eq n 3) [
      | inl q ↦ named 3 action.DataLoad q refl (sym (cond_true (eqb n 3) _ _ (eqb_same n 3 q)) ∙ e2)
      | inr n3 ↦ let e3 = sym (cond_false (eqb n 3) _ _ (eqb_apart n 3 n3)) ∙ e2 in elim (cases_eq n 4) [
        | inl q ↦ named 4 action.DataLoadAck q refl (sym (cond_true (eqb n 4) _ _ (eqb_same n 4 q)) ∙ e3)
        | inr n4 ↦ let e4 = sym (cond_false (eqb n 4) _ _ (eqb_apart n 4 n4)) ∙ e3 in elim (cases_eq n 6) [
          | inl q ↦ named 6 action.RamFetch q refl (sym (cond_true (eqb n 6) _ _ (eqb_same n 6 q)) ∙ e4)
          | inr n6 ↦ let e6 = sym (cond_false (eqb n 6) _ _ (eqb_apart n 6 n6)) ∙ e4 in elim (cases_eq n 7) [
            | inl q ↦ named 7 action.RamTransmit q refl (sym (cond_true (eqb n 7) _ _ (eqb_same n 7 q)) ∙ e6)
            | inr n7 ↦ let bad : None ≡ Some a = sym (cond_false (eqb n 7) _ _ (eqb_apart n 7 n7)) ∙ e6 in absurd cc
          ]
        ]
      ]
    ]
  ]
]
  where
    named : (k : ℕ) (a' : Action) → n ≡ k → k ≡ action_number a' → ◌≡◌ {A = Option Action} (Some a') (Some a) → n ≡ action_number a
    named k a' q z s = q ∙ z ∙ ap action_number (let same : a' ≡ a = cc in same)

body-spelled : (b : List ℕ) (end : ℕ) (body : Body) → body_in b end ≡ Ok body → BodySpelled b end body
body-spelled b end body e = go (action_at (word b 16)) refl e
  where
    filed : (make : FileData → Body) (r : Result FileData MessageFault) → file_in b end ≡ r → about_file make r ≡ Ok body
        → ((f : FileData) → FileSpelled b end f → BodySpelled b end (make f)) → BodySpelled b end body
    filed make (Err fault) er z g = absurd cc
    filed make (Ok f) er z g = subst (BodySpelled b end) (let same : make f ≡ body = cc in same) (g f (file-spelled b end f er))

    rammed : (make : ℕ → ℕ → Body) (t : Bool) → ltb end 28 ≡ t → cond t (Err BadLength) (Ok (make (word b 20) (word b 24))) ≡ Ok body
        → (28 ≤ end → BodySpelled b end (make (word b 20) (word b 24))) → BodySpelled b end body
    rammed make true et z g = absurd cc
    rammed make false et z g = subst (BodySpelled b end) (let same : make (word b 20) (word b 24) ≡ body = cc in same) (g (grind (arith, nat_tests)))

    go : (o : Option Action) → action_at (word b 16) ≡ o → body_for b end o ≡ Ok body → BodySpelled b end body
    go None eo z = absurd cc
    go (Some (action.Other n)) eo z = absurd cc
    go (Some action.DataSave) eo z =
        filed DataSave (file_in b end) refl z (λ f s. record { action = action-at (word b 16) action.DataSave eo; numbers = s.0; rest = s.1 })
    go (Some action.DataSaveAck) eo z =
        filed DataSaveAck (file_in b end) refl z (λ f s. record { action = action-at (word b 16) action.DataSaveAck eo; numbers = s.0; rest = s.1 })
    go (Some action.DataLoad) eo z =
        filed DataLoad (file_in b end) refl z (λ f s. record { action = action-at (word b 16) action.DataLoad eo; numbers = s.0; rest = s.1 })
    go (Some action.DataLoadAck) eo z =
        filed DataLoadAck (file_in b end) refl z (λ f s. record { action = action-at (word b 16) action.DataLoadAck eo; numbers = s.0; rest = s.1 })
    go (Some action.RamFetch) eo z =
        rammed RamFetch (ltb end 28) refl z (λ l. record { action = action-at (word b 16) action.RamFetch eo; numbers = (refl, (refl, tt)); rest = l })
    go (Some action.RamTransmit) eo z = rammed RamTransmit (ltb end 28) refl z
        (λ l. record { action = action-at (word b 16) action.RamTransmit eo; numbers = (refl, (refl, tt)); rest = l })

pub spelled-body : (b : List ℕ) (end : ℕ) (body : Body) → BodySpelled b end body → body_in b end ≡ Ok body
spelled-body b end (DataSave f) s = ap (λ n. body_for b end (action_at n)) s.action ∙ ap (about_file DataSave) (spelled-file b end f (s.numbers, s.rest))
spelled-body b end (DataSaveAck f) s = ap (λ n. body_for b end (action_at n)) s.action ∙ ap (about_file DataSaveAck) (spelled-file b end f (s.numbers, s.rest))
spelled-body b end (DataLoad f) s = ap (λ n. body_for b end (action_at n)) s.action ∙ ap (about_file DataLoad) (spelled-file b end f (s.numbers, s.rest))
spelled-body b end (DataLoadAck f) s = ap (λ n. body_for b end (action_at n)) s.action ∙ ap (about_file DataLoadAck) (spelled-file b end f (s.numbers, s.rest))
spelled-body b end (RamFetch x y) s =
    ap (λ n. body_for b end (action_at n)) s.action ∙ cond_false (ltb end 28) _ _ (ltb_no end 28 s.rest)
    ∙ ap (λ i. made i (word b 24)) s.numbers.0 ∙ ap (made x) s.numbers.1.0
  where
    made : ℕ → ℕ → Result Body MessageFault
    made i j = Ok (RamFetch i j)
spelled-body b end (RamTransmit x y) s =
    ap (λ n. body_for b end (action_at n)) s.action ∙ cond_false (ltb end 28) _ _ (ltb_no end 28 s.rest)
    ∙ ap (λ i. made i (word b 24)) s.numbers.0 ∙ ap (made x) s.numbers.1.0
  where
    made : ℕ → ℕ → Result Body MessageFault
    made i j = Ok (RamTransmit i j)
spelled-body b end (Other o) s = absurd s.rest

-- ---- messages
pub decoded-spells : (b : List ℕ) (m : Message) → decoded b ≡ Ok m → SpellsMessage b m
unfolding decoded
decoded-spells b m e = go (has_length b) refl e
  where
    with_body : (r : Result Body MessageFault) → has_length b ≡ true → body_in b (word b 0) ≡ r → message_in b r ≡ Ok m → SpellsMessage b m
    with_body (Err fault) t er z = absurd cc
    with_body (Ok body) t er z =
        let k : Message = record { from = word b 4; my_ref = word b 8; your_ref = word b 12; body = body } in
        let same : k ≡ m = cc in
        let s = body-spelled b (word b 0) body er in
        let t0 = both_true (leb 20 (length b) && leb 20 (word b 0) && leb (word b 0) LONGEST_MESSAGE && eqb (word b 0 % 4) 0) (leb (word b 0) (length b)) t in
        let t1 = both_true (leb 20 (length b) && leb 20 (word b 0) && leb (word b 0) LONGEST_MESSAGE) (eqb (word b 0 % 4) 0) t0.0 in
        let t2 = both_true (leb 20 (length b) && leb 20 (word b 0)) (leb (word b 0) LONGEST_MESSAGE) t1.0 in
        let t3 = both_true (leb 20 (length b)) (leb 20 (word b 0)) t2.0 in
        subst (SpellsMessage b) same (record {
          least = at_most 20 (word b 0) t3.1;
          most = at_most (word b 0) LONGEST_MESSAGE t2.1;
          multiple = none_left (word b 0 % 4) t1.1;
          within = at_most (word b 0) (length b) t0.1;
          words = (refl, (refl, (refl, (s.action, s.numbers))));
          tail = s.rest;
        })
      where
        at_most : (x y : ℕ) → leb x y ≡ true → x ≤ y
        at_most x y u = grind (arith, nat_tests)

        none_left : (x : ℕ) → eqb x 0 ≡ true → x ≡ 0
        none_left x u = elim (cases_eq x 0) [ inl q ↦ q | inr ne ↦ absurd (let bad : true ≡ false = sym u ∙ eqb_apart x 0 ne in cc) ]

    go : (t : Bool) → has_length b ≡ t → cond t (message_in b (body_in b (word b 0))) (Err BadLength) ≡ Ok m → SpellsMessage b m
    go false et z = absurd cc
    go true et z = with_body (body_in b (word b 0)) et refl z

-- a length word of a message, whose bytes are there
pub length-holds : (b : List ℕ) → 20 ≤ word b 0 → word b 0 ≤ LONGEST_MESSAGE → word b 0 % 4 ≡ 0 → word b 0 ≤ length b → has_length b ≡ true
length-holds b least most multiple within =
    both_are (leb 20 (length b) && leb 20 (word b 0) && leb (word b 0) LONGEST_MESSAGE && eqb (word b 0 % 4) 0) (leb (word b 0) (length b))
    (both_are (leb 20 (length b) && leb 20 (word b 0) && leb (word b 0) LONGEST_MESSAGE) (eqb (word b 0 % 4) 0)
    (both_are (leb 20 (length b) && leb 20 (word b 0)) (leb (word b 0) LONGEST_MESSAGE)
    (both_are (leb 20 (length b)) (leb 20 (word b 0)) (leb_yes 20 (length b) (omega arith)) (leb_yes 20 (word b 0) least))
    (leb_yes (word b 0) LONGEST_MESSAGE most)) (eqb_same (word b 0 % 4) 0 multiple)) (leb_yes (word b 0) (length b) within)

pub spelled-decodes : (b : List ℕ) (m : Message) → SpellsMessage b m → decoded b ≡ Ok m
unfolding decoded
spelled-decodes b m s = go s.words
  where
    made : ℕ → ℕ → ℕ → Result Message MessageFault
    made i j l = Ok (record { from = i; my_ref = j; your_ref = l; body = m.body })

    go : SpellWords b 4 (m.from ∷ m.my_ref ∷ m.your_ref ∷ action_number (action_of m.body) ∷ data_words m.body) → decoded b ≡ Ok m
    go (from, (mine, (yours, (kind, numbers)))) =
        let t = length-holds b s.least s.most s.multiple s.within in
        let body : BodySpelled b (word b 0) m.body = record { action = kind; numbers = numbers; rest = s.tail } in
        cond_true (has_length b) _ _ t
        ∙ ap (message_in b) (spelled-body b (word b 0) m.body body)
        ∙ ap (λ i. made i (word b 8) (word b 12)) from ∙ ap (λ i. made m.from i (word b 12)) mine ∙ ap (made m.from m.my_ref) yours

-- ---- what was encoded
tail-named : (m : Message) (name : List ℕ) → encoded_length m ≡ 44 + length (name_bytes name) → is_plain name ≡ true
    → ((n : ℕ) → part (encoded m) 44 n ≡ part (name_bytes name) 0 n) → SpellsName (encoded m) (encoded_length m) name
tail-named m name e p t =
    let pad : ℕ = 4 * ((length name + 1 + 3) / 4) - length name in
    let l = length-name_bytes name in
    let ll = length-encoded m in
    let la = length-append name (zeros pad) in
    let lz = length-replicate {A = ℕ} pad 0 in
    let one : part (encoded m) 44 (length name + 1) ≡ part (name_bytes name) 0 (length name + 1) = t (length name + 1) in (
      omega arith,
      t (length name) ∙ part-append_left name (zeros pad) 0 (length name) (omega arith) ∙ part_all name,
      p,
      omega arith,
      sym (get-part (encoded m) 44 (length name + 1) (length name) (omega arith)) ∙ ap (λ xs. get_or xs (length name) 0) one
          ∙ get-part (name_bytes name) 0 (length name + 1) (length name) (omega arith)
          ∙ ap (λ i. get_or (name_bytes name) i 0) (let q : 0 + length name ≡ length name + 0 = omega arith in q)
          ∙ get_or-append-add name (zeros pad) 0 0 ∙ get_or-replicate pad 0 0 0 (omega arith),
    )

pub encoded-spells : (m : Message) → Fits m → is_kind m.body ≡ true → SpellsMessage (encoded m) m
encoded-spells m f kind =
    let w = encoded-words m f in
    let k = encoded-most m f.name in
    let low = k.0 in
    let high = k.1 in
    let n = w.0 in
    let l = length-encoded m in
    record {
      least = omega arith;
      most = omega arith;
      multiple = ap (λ i. i % 4) n ∙ k.2;
      within = omega arith;
      words = w.1;
      tail = subst (λ i. SpellsTail (encoded m) i m.body) (sym n) (tail m.body refl f.name);
    }
  where
    about : (f : FileData) → length (data_words m.body) ≡ 6 → tail_bytes m.body ≡ name_bytes f.name → is_plain f.name ≡ true
        → SpellsName (encoded m) (encoded_length m) f.name
    about g en et p =
        let lb = length-body m.body in
        let lt = ap length et in
        tail-named m g.name (omega arith) p (λ i. encoded-tail m 44 i (omega arith) ∙ ap (λ xs. part xs 0 i) et)

    tail : (body : Body) → m.body ≡ body → HasName m.body → SpellsTail (encoded m) (encoded_length m) body
    tail (DataSave g) e h = about g (ap (λ x. length (data_words x)) e) (ap tail_bytes e) (name_plain g.name (subst HasName e h))
    tail (DataSaveAck g) e h = about g (ap (λ x. length (data_words x)) e) (ap tail_bytes e) (name_plain g.name (subst HasName e h))
    tail (DataLoad g) e h = about g (ap (λ x. length (data_words x)) e) (ap tail_bytes e) (name_plain g.name (subst HasName e h))
    tail (DataLoadAck g) e h = about g (ap (λ x. length (data_words x)) e) (ap tail_bytes e) (name_plain g.name (subst HasName e h))
    tail (RamFetch x y) e h = let l = length-body (RamFetch x y) in let q = ap (λ b. length (body_bytes b)) e in omega (arith, l, q)
    tail (RamTransmit x y) e h = let l = length-body (RamTransmit x y) in let q = ap (λ b. length (body_bytes b)) e in omega (arith, l, q)
    tail (Other o) e h = absurd (let bad : true ≡ false = sym kind ∙ ap is_kind e in cc)

-- what was encoded is decoded
pub decoded-encoded : (m : Message) → Fits m → is_kind m.body ≡ true → decoded (encoded m) ≡ Ok m
decoded-encoded m f kind = spelled-decodes (encoded m) m (encoded-spells m f kind)
