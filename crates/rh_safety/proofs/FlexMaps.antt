-- Edits of a list of flex blocks write one place of its map.
use Rattle.rh_safety.proofs.Common.{◌≡◌, ℕ, ◌+◌, true, false, List, [], ◌∷◌, ◌++◌, Option, Some, None, refl, sym, ap, ◌∙◌, subst, inl, inr, arith, nat_eq}
use Rattle.rh_safety.proofs.Common.{option_map, eqb_tells, eq-eqb, Split, behind, with_here, Flex, flex_map, put, none_some}
use Rattle.rh_defs.specs.Slot.{IsFree, HaveAnchors}
use Rattle.rh_safety.proofs.FlexMap.{block_of, FlexEdits}

-- what was found lies behind a first block
record Behind (x : Flex) (o : Option (Split Flex)) (s : Split Flex) : Type 0 where
  inner : Split Flex
  is : o ≡ Some inner
  same : behind x inner ≡ s

behind_of : (x : Flex) (o : Option (Split Flex)) (s : Split Flex) → option_map (behind x) o ≡ Some s → Behind x o s
behind_of x None s q = absurd (none_some None refl q)
behind_of x (Some t) s q = record { inner = t; is = refl; same = cc }

none_behind : (x : Flex) (o : Option (Split Flex)) → option_map (behind x) o ≡ None → o ≡ None
none_behind x None q = refl
none_behind x (Some t) q = absurd (none_some None refl (sym q))

free_none : (k : ℕ) (blocks : List Flex) → IsFree k blocks → flex_map blocks k ≡ None
free_none k [] f = refl
free_none k (b ∷ blocks) f = elim (eqb_tells b.anchor k) [
  | inl w ↦ absurd (f.0 w.1)
  | inr w ↦ rw w.0
      (free_none k blocks f.1)
]

module _ (size : Flex → ℕ) (k : ℕ) where
  unused : (place : ℕ) (blocks : List Flex) → block_of size k place blocks ≡ None → flex_map blocks k ≡ None
  unused place [] q = refl
  unused place (b ∷ blocks) q = elim (eqb_tells b.anchor k) [
    | inl w ↦ absurd (none_some None refl (sym (rw w.0 at q)))
    | inr w ↦ rw w.0 (unused (place + size b) blocks (none_behind b _ (rw w.0 at q)))
  ]

  found : (place : ℕ) (blocks : List Flex) (s : Split Flex) → block_of size k place blocks ≡ Some s →
      flex_map blocks k ≡ Some s.here.bytes
  found place [] s q = absurd (none_some None refl q)
  found place (b ∷ blocks) s q = elim (eqb_tells b.anchor k) [
    | inl w ↦ let z : Option.Some (record { before = []; here = b; after = blocks }) ≡ Some s = rw w.0 at q in
        let y : ◌≡◌ {A = Split Flex} (record { before = []; here = b; after = blocks }) s = cc in
        rw w.0 (ap (λ (t : Split Flex). Option.Some t.here.bytes) y)
    | inr w ↦ let t = behind_of b _ s (rw w.0 at q) in rw w.0 (found (place + size b) blocks t.inner t.is ∙
        ap (λ (u : Split Flex). Option.Some u.here.bytes) t.same)
  ]

  put_on_top : (place : ℕ) (blocks : List Flex) (bytes : List ℕ) → block_of size k place blocks ≡ None → (j : ℕ) →
      flex_map (blocks ++ record { anchor = k; bytes = bytes } ∷ []) j ≡ put (flex_map blocks) k (Some bytes) j
  put_on_top place [] bytes q j = elim (eqb_tells j k) [
    | inl w ↦ let t : nat_eq k j ≡ true = eq-eqb _ _ (sym w.1) in rw (w.0, t) refl
    | inr w ↦ let t : nat_eq k j ≡ false = grind (arith, eqb_tells k j) in rw (w.0, t) refl
  ]
  put_on_top place (b ∷ blocks) bytes q j = elim (eqb_tells b.anchor k) [
    | inl w ↦ absurd (none_some None refl (sym (rw w.0 at q)))
    | inr w ↦
        let r = put_on_top (place + size b) blocks bytes (none_behind b _ (rw w.0 at q)) j in
        elim (eqb_tells b.anchor j) [
          | inl v ↦ let t : nat_eq j k ≡ false = grind (arith, eqb_tells j k) in rw (v.0, t) refl
          | inr v ↦ rw v.0 r
        ]
  ]

  with_bytes : (place : ℕ) (blocks : List Flex) (s : Split Flex) (bytes : List ℕ) → block_of size k place blocks ≡
      Some s → (j : ℕ) → flex_map (with_here s (record { anchor = s.here.anchor; bytes = bytes })) j ≡ put
      (flex_map blocks) k (Some bytes) j
  with_bytes place [] s bytes q j = absurd (none_some None refl q)
  with_bytes place (b ∷ blocks) s bytes q j = elim (eqb_tells b.anchor k) [
    | inl w ↦
        let z : Option.Some (record { before = []; here = b; after = blocks }) ≡ Some s = rw w.0 at q in
        let y : ◌≡◌ {A = Split Flex} (record { before = []; here = b; after = blocks }) s = cc in
        ap (λ (t : Split Flex). flex_map (with_here t (record { anchor = t.here.anchor; bytes = bytes })) j) (sym y) ∙
        (elim (eqb_tells b.anchor j) as (λ _. flex_map (record { anchor = b.anchor; bytes = bytes } ∷ blocks) j ≡ put
        (flex_map (b ∷ blocks)) k (Some bytes) j) [
          | inl v ↦ let t : nat_eq j k ≡ true = eq-eqb _ _ (sym v.1 ∙ w.1) in rw (v.0, t) refl
          | inr v ↦ let t : nat_eq j k ≡ false = let a = w.1 in let c = v.1 in grind (arith, eqb_tells j k) in
              rw (v.0, t) refl
        ])
    | inr w ↦
        let t = behind_of b _ s (rw w.0 at q) in
        let r = with_bytes (place + size b) blocks t.inner bytes t.is j in
        ap (λ (u : Split Flex). flex_map (with_here u (record { anchor = u.here.anchor; bytes = bytes })) j)
        (sym t.same) ∙
        (elim (eqb_tells b.anchor j) as (λ _. flex_map (b ∷ with_here t.inner (record {
          anchor = t.inner.here.anchor;
          bytes = bytes;
        })) j ≡ put (flex_map (b ∷ blocks)) k (Some bytes) j) [
          | inl v ↦ let e : nat_eq j k ≡ false = grind (arith, eqb_tells j k) in rw (v.0, e) refl
          | inr v ↦ rw v.0 r
        ])
  ]

  without : (place : ℕ) (blocks : List Flex) (s : Split Flex) → HaveAnchors blocks →
      block_of size k place blocks ≡ Some s → (j : ℕ) →
      flex_map (s.before ++ s.after) j ≡ put (flex_map blocks) k None j
  without place [] s own q j = absurd (none_some None refl q)
  without place (b ∷ blocks) s own q j = elim (eqb_tells b.anchor k) [
    | inl w ↦
        let z : Option.Some (record { before = []; here = b; after = blocks }) ≡ Some s = rw w.0 at q in
        let y : ◌≡◌ {A = Split Flex} (record { before = []; here = b; after = blocks }) s = cc in
        ap (λ (t : Split Flex). flex_map (t.before ++ t.after) j) (sym y) ∙
        (elim (eqb_tells b.anchor j) as (λ _. flex_map blocks j ≡ put (flex_map (b ∷ blocks)) k None j) [
          | inl v ↦ let t : nat_eq j k ≡ true = eq-eqb _ _ (sym v.1 ∙ w.1) in rw (v.0, t) (subst (λ n. flex_map blocks
              n ≡ None) v.1 (free_none b.anchor blocks own.1))
          | inr v ↦ let t : nat_eq j k ≡ false = let a = w.1 in let c = v.1 in grind (arith, eqb_tells j k) in
              rw (v.0, t) refl
        ])
    | inr w ↦
        let t = behind_of b _ s (rw w.0 at q) in
        let r = without (place + size b) blocks t.inner own.2 t.is j in
        ap (λ (u : Split Flex). flex_map (u.before ++ u.after) j) (sym t.same) ∙
        (elim (eqb_tells b.anchor j) as (λ _. flex_map (b ∷ (t.inner.before ++ t.inner.after)) j ≡ put
        (flex_map (b ∷ blocks)) k None j) [
          | inl v ↦ let e : nat_eq j k ≡ false = grind (arith, eqb_tells j k) in rw (v.0, e) refl
          | inr v ↦ rw v.0 r
        ])
  ]

pub edits : (size : Flex → ℕ) (place k : ℕ) (blocks : List Flex) → FlexEdits size place k blocks
edits size place k blocks = record {
  unused = unused size k place blocks;
  found = found size k place blocks;
  put_on_top = put_on_top size k place blocks;
  with_bytes = with_bytes size k place blocks;
  without = without size k place blocks;
}
