-- Rows after a message joins a chain, leaves one, is held or put down.
use Rattle.rh_wimp.proofs.Common.{◌≡◌, ℕ, ◌<◌, ◌≤◌, ◌≢◌, inl, inr, eqb, List, [], ◌∷◌, ◌++◌, length, set, refl, sym, subst, ◌∙◌, arith, append-nil, cases_eq}
use Rattle.rh_wimp.proofs.Common.{get_or-set_same, get_or-set_other, Option, Some, None, Heap, cond_true, cond_false, eqb_same, eqb_apart, Parcel, padded}
use Rattle.rh_wimp.proofs.Common.{no_row, SeatRow, Lies, Chain, Holds, RowLies, RowsLie, Off, Apart, Clear, first_block, last_block, held_list, row_parcels}
use Rattle.rh_wimp.proofs.Common.{row_at, entry_at, lengthened, emptied, Entry}
use Rattle.rh_defs.proofs.BlockLaws.{range_at}
use Rattle.rh_wimp.proofs.RowLaws.{Off-append, Off-parts, Clear-append, Clear-parts, Clear-behind, Clear-behind-parts, Clear-one, Apart-append, Apart-parts}
use Rattle.rh_wimp.proofs.RowLaws.{Clear-last, KeepsBut, agree-off, chain-kept, holds-kept, LinkedTo, chain-longer, last_block-append, rows-changed}

-- ---- no block is at 0
pub lies-above : (h : Heap) (link : ℕ) (p : Parcel) → Lies h link p → 20 ≤ p.block
lies-above h link p l = let r = range_at p.block 16 h.segments (padded link p) l.block in r.0

pub chain-nonzero : (h : Heap) (ps : List Parcel) (next : ℕ) → Chain h ps next → Off 0 ps
chain-nonzero h [] next c = tt
chain-nonzero h (p ∷ ps) next c = ((λ e. let a = lies-above h (first_block ps next) p c.0 in absurd (omega arith)), chain-nonzero h ps next c.1)

pub held-nonzero : (h : Heap) (block : ℕ) (o : Option Parcel) → Holds h block o → Off 0 (held_list o)
held-nonzero h block None c = tt
held-nonzero h block (Some p) c = ((λ e. let a = lies-above h 0 p c.1 in absurd (omega arith)), tt)

pub row-nonzero : (h : Heap) (e : Entry) (r : SeatRow) → RowLies h e r → Off 0 (row_parcels r)
row-nonzero h e r l = Off-append 0 r.chain (held_list r.held) (chain-nonzero h r.chain 0 l.chain) (held-nonzero h e.held r.held l.held)

pub off-last : (ps qs : List Parcel) → Clear ps qs → Off 0 qs → Off (last_block ps) qs
off-last [] qs c z = z
off-last (p ∷ ps) qs c z = Clear-last p ps qs c

-- a chain ends at 0 exactly where it is empty
last-nonzero : (h : Heap) (p : Parcel) (ps : List Parcel) (next : ℕ) → Chain h (p ∷ ps) next → last_block (p ∷ ps) ≢ 0
last-nonzero h p [] next c = λ e. let a = lies-above h next p c.0 in absurd (omega arith)
last-nonzero h p (q ∷ ps) next c = last-nonzero h q ps next c.1

first_block-append : (ps : List Parcel) (q : Parcel) (next : ℕ) → first_block (ps ++ q ∷ []) next ≡ first_block ps q.block
first_block-append [] q next = refl
first_block-append (p ∷ ps) q next = refl

longer-first : (h : Heap) (e : Entry) (ps : List Parcel) (q : Parcel) → Chain h ps 0 → e.first ≡ first_block ps 0 → e.last ≡ last_block ps
    → (lengthened q.block e).first ≡ first_block ps q.block
longer-first h e [] q c ef el = cond_true (eqb e.last 0) _ _ (eqb_same e.last 0 el)
longer-first h e (p ∷ ps) q c ef el = cond_false (eqb e.last 0) _ _ (eqb_apart e.last 0 (λ z. last-nonzero h p ps 0 c (sym el ∙ z))) ∙ ef

-- ---- a message at the end of a chain
abbrev pub with_last : Parcel → SeatRow → SeatRow
with_last q r = record r { chain = r.chain ++ q ∷ [] }

module _ (h k : Heap) (es : List Entry) (rows : List SeatRow) (i : ℕ) (q : Parcel) where
  pub appended : i < length rows → RowsLie h es rows → ((j : ℕ) → j < length rows → Off q.block (row_parcels (row_at rows j)))
      → KeepsBut h k (entry_at es i).last q.block → LinkedTo h k (entry_at es i).last q.block → Lies k 0 q
      → RowsLie k (set es i (lengthened q.block (entry_at es i))) (set rows i (with_last q (row_at rows i)))
  appended l s off keeps linked lies =
      let e = entry_at es i in
      let r = row_at rows i in
      let here = s.each i l in
      let own = s.own i l in
      let parts = Apart-parts r.chain (held_list r.held) own in
      let offs = Off-parts q.block r.chain (held_list r.held) (off i l) in
      let keeps' : KeepsBut h k (last_block r.chain) q.block = subst (λ n. KeepsBut h k n q.block) here.last keeps in
      let linked' : LinkedTo h k (last_block r.chain) q.block = subst (λ n. LinkedTo h k n q.block) here.last linked in
      rows-changed h k es rows i (lengthened q.block e) (with_last q r) l s (record {
        lies = record {
          handle = here.handle;
          first = longer-first h e r.chain q here.chain here.first here.last ∙ sym (first_block-append r.chain q 0);
          last = sym (last_block-append r.chain q);
          chain = chain-longer h k r.chain q here.chain parts.0 offs.0 keeps' linked' lies;
          held = holds-kept h k e.held r.held (agree-off h k (last_block r.chain) q.block (held_list r.held) keeps'
              (off-last r.chain (held_list r.held) parts.1.1 (held-nonzero h e.held r.held here.held)) offs.1) here.held;
        };
        own = Apart-append (r.chain ++ q ∷ []) (held_list r.held) (Apart-append r.chain (q ∷ []) parts.0 (tt, tt) (Clear-one q r.chain offs.0)) parts.1.0
            (Clear-append r.chain (q ∷ []) (held_list r.held) parts.1.1 (offs.1, tt));
        handle = refl;
        others = λ j b ne.
            let there = row_at rows j in
            let ahead = Clear-parts r.chain (held_list r.held) (row_parcels there) (s.cross i j l b (λ z. ne (sym z))) in
            let back = Clear-behind-parts (row_parcels there) r.chain (held_list r.held) (s.cross j i b l ne) in (
              agree-off h k (last_block r.chain) q.block (row_parcels there) keeps'
                  (off-last r.chain (row_parcels there) ahead.0 (row-nonzero h (entry_at es j) there (s.each j b))) (off j b),
              (
                Clear-append (r.chain ++ q ∷ []) (held_list r.held) (row_parcels there)
                    (Clear-append r.chain (q ∷ []) (row_parcels there) ahead.0 (off j b, tt)) ahead.1,
                Clear-behind (row_parcels there) (r.chain ++ q ∷ []) (held_list r.held)
                    (Clear-behind (row_parcels there) r.chain (q ∷ []) back.0 (Clear-one q (row_parcels there) (off j b))) back.1,
              ),
            );
      })

-- ---- a held message put down
abbrev pub without_held : SeatRow → SeatRow
without_held r = record r { held = None }

module _ (h k : Heap) (es : List Entry) (rows : List SeatRow) (i : ℕ) (q : Parcel) where
  pub dropped : i < length rows → RowsLie h es rows → (row_at rows i).held ≡ Some q → KeepsBut h k q.block q.block
      → RowsLie k (set es i (emptied (entry_at es i))) (set rows i (without_held (row_at rows i)))
  dropped l s held keeps =
      let e = entry_at es i in
      let r = row_at rows i in
      let here = s.each i l in
      let own : Apart (r.chain ++ q ∷ []) = subst (λ o. Apart (r.chain ++ held_list o)) held (s.own i l) in
      let parts = Apart-parts r.chain (q ∷ []) own in
      let off : Off q.block r.chain = off-one r.chain parts.1.1 in
      rows-changed h k es rows i (emptied e) (without_held r) l s (record {
        lies = record {
          handle = here.handle;
          first = here.first;
          last = here.last;
          chain = chain-kept h k r.chain 0 (agree-off h k q.block q.block r.chain keeps off off) here.chain;
          held = refl;
        };
        own = subst Apart (sym (append-nil r.chain)) parts.0;
        handle = refl;
        others = λ j b ne.
            let there = row_at rows j in
            let ahead : Clear (r.chain ++ q ∷ []) (row_parcels there) =
            subst (λ o. Clear (r.chain ++ held_list o) (row_parcels there)) held (s.cross i j l b (λ z. ne (sym z))) in
            let back = Clear-behind-parts (row_parcels there) r.chain (held_list r.held) (s.cross j i b l ne) in
            let ahead' = Clear-parts r.chain (q ∷ []) (row_parcels there) ahead in (
              agree-off h k q.block q.block (row_parcels there) keeps ahead'.1.0 ahead'.1.0,
              (
                subst (λ l'. Clear l' (row_parcels there)) (sym (append-nil r.chain)) ahead'.0,
                subst (Clear (row_parcels there)) (sym (append-nil r.chain)) back.0,
              ),
            );
      })
    where
      off-one : (ps : List Parcel) → Clear ps (q ∷ []) → Off q.block ps
      off-one [] c = tt
      off-one (p ∷ ps) c = ((λ z. c.0.0 (sym z)), off-one ps c.1)

  -- and its block belongs to no row from then on
  pub dropped-off : i < length rows → RowsLie h es rows → (row_at rows i).held ≡ Some q → (j : ℕ) → j < length rows
      → Off q.block (row_parcels (row_at (set rows i (without_held (row_at rows i))) j))
  dropped-off l s held j b = elim (cases_eq j i) [
    | inl z ↦
        let r = row_at rows i in
        let own : Apart (r.chain ++ q ∷ []) = subst (λ o. Apart (r.chain ++ held_list o)) held (s.own i l) in
        let parts = Apart-parts r.chain (q ∷ []) own in
        subst (λ n. Off q.block (row_parcels (row_at (set rows i (without_held r)) n))) (sym z)
        (subst (λ x. Off q.block (row_parcels x)) (sym (get_or-set_same rows i (without_held r) no_row l))
        (subst (Off q.block) (sym (append-nil r.chain)) (off-one' r.chain parts.1.1)))
    | inr ne ↦
        let r = row_at rows i in
        let ahead : Clear (r.chain ++ q ∷ []) (row_parcels (row_at rows j)) =
        subst (λ o. Clear (r.chain ++ held_list o) (row_parcels (row_at rows j))) held (s.cross i j l b (λ z. ne (sym z))) in
        subst (λ x. Off q.block (row_parcels x)) (sym (get_or-set_other rows i j (without_held r) no_row ne))
        (Clear-parts r.chain (q ∷ []) (row_parcels (row_at rows j)) ahead).1.0
  ]
    where
      off-one' : (ps : List Parcel) → Clear ps (q ∷ []) → Off q.block ps
      off-one' [] c = tt
      off-one' (p ∷ ps) c = ((λ z. c.0.0 (sym z)), off-one' ps c.1)
