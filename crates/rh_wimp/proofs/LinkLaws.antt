-- The heap with its links beside the plain one, after each edit of both.
use Rattle.rh_wimp.proofs.Common.{◌≡◌, ℕ, ◌<◌, ◌≢◌, inl, inr, List, [], ◌∷◌, ◌++◌, length, set, refl, sym, ap, subst, ◌∙◌, arith, append-nil, cases_eq}
use Rattle.rh_wimp.proofs.Common.{length-set, get_or-set_same, get_or-set_other, Some, None, Heap, block_bytes, SameShape, Parcel, padded, SeatRow, RowsLie}
use Rattle.rh_wimp.proofs.Common.{IsLinked, AllLie, Off, last_block, held_list, row_parcels, row_at, no_row, Entry}
use Rattle.rh_defs.proofs.BlockLaws.{below}
use Rattle.rh_wimp.proofs.RowLaws.{Off-append, Off-parts, Off-last}
use Rattle.rh_wimp.proofs.RowEdits.{with_last, without_held, dropped-off}

pub AllLie-append : (d : Heap) (ps qs : List Parcel) → AllLie d ps → AllLie d qs → AllLie d (ps ++ qs)
AllLie-append d [] qs a b = b
AllLie-append d (p ∷ ps) qs a b = (a.0, AllLie-append d ps qs a.1 b)

pub AllLie-parts : (d : Heap) (ps qs : List Parcel) → AllLie d (ps ++ qs) → AllLie d ps × AllLie d qs
AllLie-parts d [] qs a = (tt, a)
AllLie-parts d (p ∷ ps) qs a = let r = AllLie-parts d ps qs a.1 in ((a.0, r.0), r.1)

pub AllLie-kept : (d k : Heap) (x : ℕ) (ps : List Parcel) → ((b : ℕ) → b ≢ x → block_bytes b k ≡ block_bytes b d) → Off x ps → AllLie d ps → AllLie k ps
AllLie-kept d k x [] s o a = tt
AllLie-kept d k x (p ∷ ps) s o a = (s p.block o.0 ∙ a.0, AllLie-kept d k x ps s o.1 a.1)

-- no block lies so low
pub none-low : (h k : Heap) (b : ℕ) → b < 20 → block_bytes b h ≡ block_bytes b k
none-low h k b l = below b 16 h.segments l ∙ sym (below b 16 k.segments l)

pub zero-off : (c : Heap) (ps : List Parcel) → AllLie c ps → Off 0 ps
zero-off c [] a = tt
zero-off c (p ∷ ps) a =
    ((λ z. let bad : Some (padded 0 p) ≡ None = sym a.0 ∙ ap (λ m. block_bytes m c) z ∙ below 0 16 c.segments (omega arith) in cc), zero-off c ps a.1)

module _ (h k d e : Heap) (rows : List SeatRow) (i : ℕ) (q : Parcel) where
  -- a message that lies in both heaps, at the end of a chain
  pub linked-longer : i < length rows → IsLinked h d rows → SameShape k e → ((j : ℕ) → j < length rows → Off q.block (row_parcels (row_at rows j)))
      → ((b : ℕ) → b ≢ last_block (row_at rows i).chain → b ≢ q.block → block_bytes b k ≡ block_bytes b h)
      → block_bytes q.block e ≡ Some (padded 0 q) → ((b : ℕ) → b ≢ q.block → block_bytes b e ≡ block_bytes b d)
      → IsLinked k e (set rows i (with_last q (row_at rows i)))
  linked-longer l s shape off keeps there others =
      let r = row_at rows i in
      let n = length-set rows i (with_last q r) in
      let same : row_at (set rows i (with_last q r)) i ≡ with_last q r = get_or-set_same rows i (with_last q r) no_row l in
      let other : (j : ℕ) → j ≢ i → row_at (set rows i (with_last q r)) j ≡ row_at rows j = λ j ne. get_or-set_other rows i j (with_last q r) no_row ne in
      record {
        shape = shape;
        lie = λ j b. elim (cases_eq j i) [
          | inl z ↦
              let a = AllLie-parts d r.chain (held_list r.held) (AllLie-kept d d 0 (row_parcels r) (λ c ne. refl) (zero-off d (row_parcels r) (s.lie i l))
              (s.lie i l)) in
              let o = Off-parts q.block r.chain (held_list r.held) (off i l) in
              subst (λ m. AllLie e (row_parcels (row_at (set rows i (with_last q r)) m))) (sym z) (subst (λ x. AllLie e (row_parcels x)) (sym same)
              (AllLie-append e (r.chain ++ q ∷ []) (held_list r.held)
              (AllLie-append e r.chain (q ∷ []) (AllLie-kept d e q.block r.chain others o.0 a.0) (there, tt))
              (AllLie-kept d e q.block (held_list r.held) others o.1 a.1)))
          | inr ne ↦ subst (λ x. AllLie e (row_parcels x)) (sym (other j ne))
              (AllLie-kept d e q.block (row_parcels (row_at rows j)) others (off j (omega arith)) (s.lie j (omega arith)))
        ];
        others = λ b out.
            let here = subst (λ x. Off b (row_parcels x)) same (out i (omega arith)) in
            let parts = Off-parts b (r.chain ++ q ∷ []) (held_list r.held) here in
            let ends = Off-parts b r.chain (q ∷ []) parts.0 in
            let new : b ≢ q.block = λ z. ends.1.0 (sym z) in
            let old : block_bytes b h ≡ block_bytes b d =
            s.others b (λ j c. elim (cases_eq j i) [
              | inl z ↦ subst (λ m. Off b (row_parcels (row_at rows m))) (sym z) (Off-append b r.chain (held_list r.held) ends.0 parts.1)
              | inr ne ↦ subst (λ x. Off b (row_parcels x)) (other j ne) (out j (omega arith))
            ]) in
            elim (cases_eq b (last_block r.chain)) [
              | inl z ↦ at_last b r.chain z ends.0
              | inr ne ↦ keeps b ne new ∙ old ∙ sym (others b new)
            ];
      }
    where
      at_last : (b : ℕ) (ps : List Parcel) → b ≡ last_block ps → Off b ps → block_bytes b k ≡ block_bytes b e
      at_last b [] z o = none-low k e b (omega arith)
      at_last b (p ∷ ps) z o = absurd (Off-last b p ps o (sym z))

  -- a held message whose block is gone from both
  pub linked-dropped : (es : List Entry) → i < length rows → RowsLie h es rows → (row_at rows i).held ≡ Some q → IsLinked h d rows → SameShape k e
      → block_bytes q.block k ≡ None → ((b : ℕ) → b ≢ q.block → block_bytes b k ≡ block_bytes b h)
      → block_bytes q.block e ≡ None → ((b : ℕ) → b ≢ q.block → block_bytes b e ≡ block_bytes b d) → IsLinked k e (set rows i (without_held (row_at rows i)))
  linked-dropped es l s held linked shape gone keeps gone' keeps' =
      let r = row_at rows i in
      let n = length-set rows i (without_held r) in
      let same : row_at (set rows i (without_held r)) i ≡ without_held r = get_or-set_same rows i (without_held r) no_row l in
      let other : (j : ℕ) → j ≢ i → row_at (set rows i (without_held r)) j ≡ row_at rows j = λ j ne. get_or-set_other rows i j (without_held r) no_row ne in
      let off = dropped-off h h es rows i q l s held in
      record {
        shape = shape;
        lie = λ j b. AllLie-kept d e q.block (row_parcels (row_at (set rows i (without_held r)) j)) keeps' (off j (omega arith)) (elim (cases_eq j i) [
          | inl z ↦ subst (λ m. AllLie d (row_parcels (row_at (set rows i (without_held r)) m))) (sym z) (subst (λ x. AllLie d (row_parcels x)) (sym same)
              (subst (AllLie d) (sym (append-nil r.chain)) (AllLie-parts d r.chain (held_list r.held) (linked.lie i l)).0))
          | inr ne ↦ subst (λ x. AllLie d (row_parcels x)) (sym (other j ne)) (linked.lie j (omega arith))
        ]);
        others = λ b out. elim (cases_eq b q.block) [
          | inl z ↦ ap (λ m. block_bytes m k) z ∙ gone ∙ sym (ap (λ m. block_bytes m e) z ∙ gone')
          | inr ne ↦ keeps b ne ∙ linked.others b (λ j c. elim (cases_eq j i) [
            | inl z ↦ subst (λ m. Off b (row_parcels (row_at rows m))) (sym z) (subst (λ o. Off b (r.chain ++ held_list o)) (sym held)
                (Off-append b r.chain (q ∷ []) (Off-parts b r.chain [] (subst (λ x. Off b (row_parcels x)) same (out i (omega arith)))).0
                ((λ y. ne (sym y)), tt)))
            | inr nj ↦ subst (λ x. Off b (row_parcels x)) (other j nj) (out j (omega arith))
          ]) ∙ sym (keeps' b ne)
        ];
      }
