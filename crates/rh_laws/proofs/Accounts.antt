-- Blocks of a C heap as a map, the claims and the records with buffers: what each edit makes of their account.
use Rattle.rh_laws.proofs.Common.{◌≡◌, ◌≢◌, ℕ, ◌+◌, ◌<◌, ◌≤◌, Bool, true, false, List, [], ◌∷◌, ◌++◌, length, Option, Some, None, refl, sym, ap, ◌∙◌, subst}
use Rattle.rh_laws.proofs.Common.{inl, inr, arith, ℤ, nat_eq, nat_le, if◌then◌else◌, filter, list_any, option_map, eqb_tells, Incoming, Taking, Split, moved}
use Rattle.rh_laws.proofs.Common.{Segment, block_room, bytes_of, Slot, heap_block_at, Rise, in_id, is_buffer_of, with_id, at_place, Has, none_some, put_other}
use Rattle.rh_laws.proofs.Common.{put_same, buffers_of, Same}
use Rattle.rh_defs.specs.declared.transfer.Incoming.TheVariants as incoming
use Rattle.rh_defs.specs.Records.{dropped, is_going, one_more}
use Rattle.rh_safety.proofs.SeenDocuments.{buffer_is}
use Rattle.rh_laws.specs.Claimed.{IsAccounted, holders, size_after, size_at}

-- ---- records with buffers

-- 1 where the record has its buffer at the address
abbrev pub one : ℕ → Incoming → ℕ
one address w = holders address (w ∷ [])

length-if : (b : Bool) (w : Incoming) (ws : List Incoming) → length (if b then w ∷ ws else ws) ≡ length (if b then w ∷ [] else []) + length ws
length-if true w ws = omega arith
length-if false w ws = omega arith

-- two records with their buffers at one address, or neither
one-same : (p : ℕ) (v w : Incoming) → is_buffer_of p v ≡ is_buffer_of p w → one p v ≡ one p w
one-same p v w e = ap (λ b. length (if b then v ∷ [] else [])) e ∙ alike (is_buffer_of p w)
  where
    alike : (b : Bool) → length (if b then v ∷ [] else []) ≡ length (if b then w ∷ [] else [])
    alike true = refl
    alike false = refl

pub holders-cons : (p : ℕ) (w : Incoming) (ws : List Incoming) → holders p (w ∷ ws) ≡ one p w + holders p ws
holders-cons p w ws = length-if (is_buffer_of p w) w (filter (is_buffer_of p) ws)

pub holders-append : (p : ℕ) (ws vs : List Incoming) → holders p (ws ++ vs) ≡ holders p ws + holders p vs
holders-append p [] vs = omega arith
holders-append p (w ∷ ws) vs =
    let a = holders-cons p w (ws ++ vs) in
    let b = holders-cons p w ws in
    let c = holders-append p ws vs in
    omega (arith, a, b, c)

-- a record of another id isn't written anew
holders-absent : (p id : ℕ) (v : Incoming) (least next : ℕ) (ws : List Incoming) → Rise in_id least next ws → id < least →
    holders p (with_id in_id id v ws) ≡ holders p ws
holders-absent p id v least next [] up low = refl
holders-absent p id v least next (w ∷ ws) up low =
    let off : nat_eq (in_id w) id ≡ false = grind (arith, eqb_tells (in_id w) id, up.0, low) in
    let rest = holders-absent p id v (in_id w + 1) next ws up.1 (omega (arith, low, up.0)) in
    let a = holders-cons p w (with_id in_id id v ws) in
    let b = holders-cons p w ws in
    rw off (omega (arith, a, b, rest))

-- the record is written anew: the buffer of the new one is there, and that of the old one not
pub holders-with : (p : ℕ) (w v : Incoming) (least next : ℕ) (ws : List Incoming) → Rise in_id least next ws → Has w ws →
    holders p (with_id in_id (in_id w) v ws) + one p w ≡ holders p ws + one p v
holders-with p w v least next [] up has = absurd has
holders-with p w v least next (x ∷ ws) up (inl same) =
    let on : nat_eq (in_id x) (in_id w) ≡ true = let e = ap in_id same in grind (arith, eqb_tells (in_id x) (in_id w), e) in
    let low : in_id w < in_id x + 1 = let e = ap in_id same in omega (arith, e) in
    let rest = holders-absent p (in_id w) v (in_id x + 1) next ws up.1 low in
    let a = holders-cons p v (with_id in_id (in_id w) v ws) in
    let b = holders-cons p x ws in
    let c : one p x ≡ one p w = ap (one p) same in
    rw on (omega (arith, a, b, c, rest))
holders-with p w v least next (x ∷ ws) up (inr has) =
    let low : in_id x < in_id w = let z = below (in_id x + 1) ws up.1 has in omega (arith, z) in
    let off : nat_eq (in_id x) (in_id w) ≡ false = grind (arith, eqb_tells (in_id x) (in_id w), low) in
    let rest = holders-with p w v (in_id x + 1) next ws up.1 has in
    let a = holders-cons p x (with_id in_id (in_id w) v ws) in
    let b = holders-cons p x ws in
    rw off (omega (arith, a, b, rest))
  where
    below : (least : ℕ) (ws : List Incoming) → Rise in_id least next ws → Has w ws → least ≤ in_id w
    below least [] up has = absurd has
    below least (y ∷ ys) up (inl same) = subst (λ z. least ≤ in_id z) same up.0
    below least (y ∷ ys) up (inr has) = let z = below (in_id y + 1) ys up.1 has in let b = up.0 in omega (arith, z, b)

-- a record that has ended has no buffer
ended-none : (p : ℕ) (w : Incoming) → is_going w ≡ false → one p w ≡ 0
ended-none p (incoming.Fetching f) q = absurd cc
ended-none p (incoming.Draining f) q = absurd cc
ended-none p (incoming.Asking x) q = absurd cc
ended-none p (incoming.Done id k n) q = refl
ended-none p (incoming.Failed id k n) q = refl

holders-dropped : (p : ℕ) (ws : List Incoming) → holders p (dropped is_going ws) ≡ holders p ws
holders-dropped p [] = refl
holders-dropped p (w ∷ ws) = go (is_going w) refl (holders-dropped p ws)
  where
    go : (b : Bool) → is_going w ≡ b → holders p (dropped is_going ws) ≡ holders p ws →
        holders p (if b then w ∷ dropped is_going ws else ws) ≡ holders p (w ∷ ws)
    go true q c =
        let a = holders-cons p w (dropped is_going ws) in
        let b = holders-cons p w ws in
        omega (arith, a, b, c)
    go false q c = let a = holders-cons p w ws in let b = ended-none p w q in omega (arith, a, b)

-- one more record
pub holders-more : (p : ℕ) (v : Incoming) (ws : List Incoming) → holders p (one_more is_going v ws) ≡ holders p ws + one p v
holders-more p v ws = go (nat_le 8 (length ws))
  where
    go : (b : Bool) → holders p ((if b then dropped is_going ws else ws) ++ v ∷ []) ≡ holders p ws + one p v
    go true = let a = holders-append p (dropped is_going ws) (v ∷ []) in let b = holders-dropped p ws in omega (arith, a, b)
    go false = holders-append p ws (v ∷ [])

-- no record has its buffer there
pub none-hold : (p : ℕ) (ws : List Incoming) → list_any (is_buffer_of p) ws ≡ false → holders p ws ≡ 0
none-hold p [] q = refl
none-hold p (w ∷ ws) q = go (is_buffer_of p w) refl q (none-hold p ws)
  where
    go : (b : Bool) → is_buffer_of p w ≡ b → list_any (is_buffer_of p) (w ∷ ws) ≡ false →
        (list_any (is_buffer_of p) ws ≡ false → holders p ws ≡ 0) → holders p (w ∷ ws) ≡ 0
    go true e r next = absurd (let z = rw e at r in cc)
    go false e r next = rw e (next (rw e at r))

-- ---- accounts

-- the size of a block, where there is one
abbrev pub size_in : Option (List ℕ) → Option ℕ
size_in o = option_map (λ (bytes : List ℕ). length bytes) o

-- a heap's map, the claims and the records agree
pub record Accounts (claims : ℕ → Option ℕ) (blocks : ℕ → Option (List ℕ)) (ws : List Incoming) : Type 0 where
  pub each : (p : ℕ) → IsAccounted (size_in (blocks p)) (claims p) (holders p ws)

-- blocks of the same sizes
pub sized-accounts : {c : ℕ → Option ℕ} {m n : ℕ → Option (List ℕ)} {ws : List Incoming} → ((p : ℕ) → size_in (n p) ≡ size_in (m p)) →
    Accounts c m ws → Accounts c n ws
sized-accounts {c} {m} {n} {ws} same all = record { each = λ p. subst (λ o. IsAccounted o (c p) (holders p ws)) (sym (same p)) (all.each p) }

pub same-accounts : {c : ℕ → Option ℕ} {m n : ℕ → Option (List ℕ)} {ws : List Incoming} → Same n m → Accounts c m ws → Accounts c n ws
same-accounts {c} {m} {n} same all = sized-accounts {c = c} {m = m} {n = n} (λ p. ap size_in (same p)) all

-- records with the same buffers
pub held-accounts : {c : ℕ → Option ℕ} {m : ℕ → Option (List ℕ)} {ws vs : List Incoming} → ((p : ℕ) → holders p vs ≡ holders p ws) →
    Accounts c m ws → Accounts c m vs
held-accounts {c} {m} same all = record { each = λ p. subst (λ k. IsAccounted (size_in (m p)) (c p) k) (sym (same p)) (all.each p) }

-- another block, or none, at one address
pub edit-accounts : {c e : ℕ → Option ℕ} {m : ℕ → Option (List ℕ)} {ws vs : List Incoming} (a : ℕ) (v : Option (List ℕ)) →
    Accounts c m ws → IsAccounted (size_in v) (e a) (holders a vs) → ((p : ℕ) → p ≢ a → e p ≡ c p) →
    ((p : ℕ) → p ≢ a → holders p vs ≡ holders p ws) → Accounts e (at_place m a v) vs
edit-accounts {c} {e} {m} {ws} {vs} a v all here claims holds = record {
  each = λ p. elim (eqb_tells p a) [
    | inl w ↦ rw w.0 (subst (λ q. IsAccounted (size_in v) (e q) (holders q vs)) (sym w.1) here)
    | inr w ↦ rw w.0 (subst (λ k. IsAccounted (size_in (m p)) (e p) k) (sym (holds p w.1))
        (subst (λ o. IsAccounted (size_in (m p)) o (holders p ws)) (sym (claims p w.1)) (all.each p)))
  ];
}

-- no block: none is claimed, and no record has its buffer there
pub record IsVacant (claim : Option ℕ) (holding : ℕ) : Type 0 where
  pub claims : claim ≡ None
  pub holds : holding ≡ 0

pub vacant : (claim : Option ℕ) (holding : ℕ) → IsAccounted None claim holding → IsVacant claim holding
vacant None k w = record { claims = refl; holds = let z = w.count in omega (arith, z) }
vacant (Some n) k w = absurd (let z = w.size n refl in cc)

pub is-vacant : (claim : Option ℕ) (holding : ℕ) → claim ≡ None → holding ≡ 0 → IsAccounted None claim holding
is-vacant claim k q z = record { count = rw q (omega (arith, z)); size = λ n e. absurd (let y : None ≡ Some n = sym q ∙ e in cc) }

-- the sizes of a slot's blocks, by either word
pub size-is : (s : Slot) (p : ℕ) → size_at s p ≡ size_in (buffers_of s p)
size-is s p = go (heap_block_at p s) ∙ ap size_in (buffer_is p s)
  where
    go : (o : Option (Split Segment)) → option_map (λ (b : Split Segment). length (bytes_of b.here)) o ≡
        size_in (option_map (λ (b : Split Segment). bytes_of b.here) o)
    go None = refl
    go (Some b) = refl

-- ---- the edits

-- a record with a buffer, at the buffer's address and elsewhere
module _ (w : Incoming) (a : ℕ) (is : (p : ℕ) → is_buffer_of p w ≡ nat_eq a p) where
  own : one a w ≡ 1
  own = elim (eqb_tells a a) [ inl x ↦ rw (is a ∙ x.0) refl | inr x ↦ absurd (x.1 refl) ]

  away : (p : ℕ) → p ≢ a → one p w ≡ 0
  away p ne = elim (eqb_tells a p) [ inl x ↦ absurd (ne (sym x.1)) | inr x ↦ rw (is p ∙ x.0) refl ]

module _ {c : ℕ → Option ℕ} {m : ℕ → Option (List ℕ)} {ws : List Incoming} where
  -- where there is no block
  pub free-vacant : (a : ℕ) → m a ≡ None → Accounts c m ws → IsVacant (c a) (holders a ws)
  free-vacant a free all = vacant (c a) (holders a ws) (subst (λ o. IsAccounted (size_in o) (c a) (holders a ws)) free (all.each a))

  -- one more block, which the task claimed
  pub claimed-accounts : (a : ℕ) (bytes : List ℕ) (n : ℕ) → length bytes ≡ n → m a ≡ None → Accounts c m ws →
      Accounts (at_place c a (Some n)) (at_place m a (Some bytes)) ws
  claimed-accounts a bytes n size free all =
      let was = free-vacant a free all in
      edit-accounts {c = c} {e = at_place c a (Some n)} a (Some bytes) all
      (subst (λ o. IsAccounted (Some (length bytes)) o (holders a ws)) (sym (put_same c a (Some n)))
      (record { count = let z = was.holds in omega (arith, z); size = λ k q. ap Some size ∙ q }))
      (λ p ne. put_other c a (Some n) p ne) (λ p ne. refl)

  -- a block less, which no record has as its buffer
  pub released-accounts : (a : ℕ) → list_any (is_buffer_of a) ws ≡ false → Accounts c m ws →
      Accounts (at_place c a None) (at_place m a None) ws
  released-accounts a idle all =
      edit-accounts {c = c} {e = at_place c a None} a None all
      (is-vacant _ _ (put_same c a None) (none-hold a ws idle)) (λ p ne. put_other c a None p ne) (λ p ne. refl)

  -- one more block and one more record, whose buffer it is
  pub begun-accounts : (f : Taking) (bytes : List ℕ) → m f.buffer ≡ None → Accounts c m ws →
      Accounts c (at_place m f.buffer (Some bytes)) (one_more is_going (incoming.Fetching f) ws)
  begun-accounts f bytes free all =
      let was = free-vacant f.buffer free all in
      let more = holders-more f.buffer (incoming.Fetching f) ws in
      let there = own (incoming.Fetching f) f.buffer (λ p. refl) in
      edit-accounts {c = c} {e = c} f.buffer (Some bytes) all
      (subst (λ o. IsAccounted (Some (length bytes)) o (holders f.buffer (one_more is_going (incoming.Fetching f) ws))) (sym was.claims)
      (record { count = let z = was.holds in omega (arith, z, more, there); size = λ k q. absurd (none_some None refl q) }))
      (λ p ne. refl) (λ p ne. let each = holders-more p (incoming.Fetching f) ws in
      let off : one p (incoming.Fetching f) ≡ 0 = away (incoming.Fetching f) f.buffer (λ q. refl) p ne in omega (arith, each, off))

  module _ (next : ℕ) (up : Rise in_id 0 next ws) where
    -- a record that keeps its buffer, or has none before and after
    pub renewed-accounts : (w v : Incoming) → Has w ws → ((p : ℕ) → is_buffer_of p v ≡ is_buffer_of p w) → Accounts c m ws →
        Accounts c m (with_id in_id (in_id w) v ws)
    renewed-accounts w v has same all =
        held-accounts (λ p. let z = holders-with p w v 0 next ws up has in let e = one-same p v w (same p) in omega (arith, z, e)) all

    -- a record that ends, and its buffer with it
    pub ended-accounts : (w v : Incoming) (a : ℕ) → Has w ws → ((p : ℕ) → is_buffer_of p w ≡ nat_eq a p) → ((p : ℕ) → one p v ≡ 0) →
        Accounts c m ws → Accounts c (at_place m a None) (with_id in_id (in_id w) v ws)
    ended-accounts w v a has is none all =
        let z = holders-with a w v 0 next ws up has in
        let e = none a in
        let there = own w a is in
        let was = last (size_in (m a)) (c a) (holders a ws) (omega (arith, z, there, e)) (all.each a) in
        edit-accounts {c = c} {e = c} a None all (is-vacant _ _ was.0 (let k = was.1 in omega (arith, z, there, e, k)))
        (λ p ne. refl) (λ p ne. let y = holders-with p w v 0 next ws up has in let i = away w a is p ne in let j = none p in omega (arith, y, i, j))
      where
        last : (block claim : Option ℕ) (k : ℕ) → 1 ≤ k → IsAccounted block claim k → (claim ≡ None) × (k ≡ 1)
        last None None k low w = absurd (let z = w.count in omega (arith, z, low))
        last None (Some n) k low w = absurd (let z = w.count in omega (arith, z, low))
        last (Some b) None k low w = (refl, let z = w.count in omega (arith, z))
        last (Some b) (Some n) k low w = absurd (let z = w.count in omega (arith, z, low))

-- a block of another size, there or elsewhere, which no record has as its buffer
pub resized-accounts : {c : ℕ → Option ℕ} {m : ℕ → Option (List ℕ)} {ws : List Incoming} (from to n : ℕ) (bytes : List ℕ) (size : ℤ) →
    list_any (is_buffer_of from) ws ≡ false →
    size_in (m from) ≡ Some n → length bytes ≡ block_room (moved n size) → at_place m from None to ≡ None → Accounts c m ws →
    Accounts (at_place (at_place c from None) to (size_after size (c from))) (at_place (at_place m from None) to (Some bytes)) ws
resized-accounts {c} {m} {ws} from to n bytes size idle was len free all =
    let known : c from ≡ Some n = claim-is (size_in (m from)) (c from) n was (subst (λ k. IsAccounted (size_in (m from)) (c from) k)
    (none-hold from ws idle) (all.each from)) in
    let now : size_after size (c from) ≡ Some (block_room (moved n size)) = ap (size_after size) known in
    subst (λ o. Accounts (at_place (at_place c from None) to o) (at_place (at_place m from None) to (Some bytes)) ws) (sym now)
    (claimed-accounts {c = at_place c from None} {m = at_place m from None} {ws = ws} to bytes (block_room (moved n size)) len free
    (released-accounts from idle all))
  where
    claim-is : (block claim : Option ℕ) (n : ℕ) → block ≡ Some n → IsAccounted block claim 0 → claim ≡ Some n
    claim-is None claim n q w = absurd (none_some None refl q)
    claim-is (Some k) None n q w = absurd (let z = w.count in omega (arith, z))
    claim-is (Some k) (Some j) n q w = sym (w.size j refl) ∙ q
