-- Rows of messages in a heap whose blocks change.
use Rattle.rh_wimp.proofs.Common.{◌≡◌, ℕ, ◌<◌, ◌≢◌, inl, inr, List, [], ◌∷◌, ◌++◌, length, set, refl, sym, ap, subst, ◌∙◌, arith, cases_eq, length-set}
use Rattle.rh_wimp.proofs.Common.{get_or-set_same, get_or-set_other, Option, Some, None, with_part, Heap, block_bytes, HasBlock, word_bytes, Parcel, padded}
use Rattle.rh_wimp.proofs.Common.{SeatRow}
use Rattle.rh_wimp.proofs.Common.{Lies, Chain, Holds, RowLies, RowsLie, Off, Apart, Clear, first_block, last_block, held_list, row_parcels, row_at, entry_at}
use Rattle.rh_wimp.proofs.Common.{no_row, no_entry, Entry, padded-relinked, padded-least}

-- ---- lists of messages in blocks of their own
pub Off-append : (x : ℕ) (ps qs : List Parcel) → Off x ps → Off x qs → Off x (ps ++ qs)
Off-append x [] qs o r = r
Off-append x (p ∷ ps) qs o r = (o.0, Off-append x ps qs o.1 r)

pub Off-parts : (x : ℕ) (ps qs : List Parcel) → Off x (ps ++ qs) → Off x ps × Off x qs
Off-parts x [] qs o = (tt, o)
Off-parts x (p ∷ ps) qs o = let r = Off-parts x ps qs o.1 in ((o.0, r.0), r.1)

pub Clear-append : (ps qs rs : List Parcel) → Clear ps rs → Clear qs rs → Clear (ps ++ qs) rs
Clear-append [] qs rs c d = d
Clear-append (p ∷ ps) qs rs c d = (c.0, Clear-append ps qs rs c.1 d)

pub Clear-parts : (ps qs rs : List Parcel) → Clear (ps ++ qs) rs → Clear ps rs × Clear qs rs
Clear-parts [] qs rs c = (tt, c)
Clear-parts (p ∷ ps) qs rs c = let r = Clear-parts ps qs rs c.1 in ((c.0, r.0), r.1)

pub Clear-behind : (ps qs rs : List Parcel) → Clear ps qs → Clear ps rs → Clear ps (qs ++ rs)
Clear-behind [] qs rs c d = tt
Clear-behind (p ∷ ps) qs rs c d = (Off-append p.block qs rs c.0 d.0, Clear-behind ps qs rs c.1 d.1)

pub Clear-behind-parts : (ps qs rs : List Parcel) → Clear ps (qs ++ rs) → Clear ps qs × Clear ps rs
Clear-behind-parts [] qs rs c = (tt, tt)
Clear-behind-parts (p ∷ ps) qs rs c = let o = Off-parts p.block qs rs c.0 in let r = Clear-behind-parts ps qs rs c.1 in ((o.0, r.0), (o.1, r.1))

-- off a block, the other way round
pub Clear-one : (p : Parcel) (ps : List Parcel) → Off p.block ps → Clear ps (p ∷ [])
Clear-one p [] o = tt
Clear-one p (q ∷ ps) o = ((λ e. o.0 (sym e), tt), Clear-one p ps o.1)

pub Clear-none : (ps : List Parcel) → Clear ps []
Clear-none [] = tt
Clear-none (p ∷ ps) = (tt, Clear-none ps)

pub Apart-append : (ps qs : List Parcel) → Apart ps → Apart qs → Clear ps qs → Apart (ps ++ qs)
Apart-append [] qs a b c = b
Apart-append (p ∷ ps) qs a b c = (Off-append p.block ps qs a.0 c.0, Apart-append ps qs a.1 b c.1)

pub Apart-parts : (ps qs : List Parcel) → Apart (ps ++ qs) → Apart ps × (Apart qs × Clear ps qs)
Apart-parts [] qs a = (tt, (a, tt))
Apart-parts (p ∷ ps) qs a =
    let o = Off-parts p.block ps qs a.0 in
    let r = Apart-parts ps qs a.1 in
    ((o.0, r.0), (r.1.0, (o.1, r.1.1)))

-- the block of a list's last message is one of its blocks
pub Off-last : (x : ℕ) (p : Parcel) (ps : List Parcel) → Off x (p ∷ ps) → last_block (p ∷ ps) ≢ x
Off-last x p [] o = o.0
Off-last x p (q ∷ ps) o = Off-last x q ps o.1

pub Clear-last : (p : Parcel) (ps qs : List Parcel) → Clear (p ∷ ps) qs → Off (last_block (p ∷ ps)) qs
Clear-last p [] qs c = c.0
Clear-last p (q ∷ ps) qs c = Clear-last q ps qs c.1

-- ---- a heap where but two blocks change
pub record KeepsBut (h k : Heap) (x y : ℕ) : Type 0 where
  pub each : (b : ℕ) → b ≢ x → b ≢ y → block_bytes b k ≡ block_bytes b h

-- the messages' blocks stay
abbrev pub Agree : Heap → Heap → List Parcel → Type 0
Agree h k [] = Unit {0}
Agree h k (p ∷ ps) = (block_bytes p.block k ≡ block_bytes p.block h) × Agree h k ps

pub agree-off : (h k : Heap) (x y : ℕ) (ps : List Parcel) → KeepsBut h k x y → Off x ps → Off y ps → Agree h k ps
agree-off h k x y [] s o r = tt
agree-off h k x y (p ∷ ps) s o r = (s.each p.block o.0 r.0, agree-off h k x y ps s o.1 r.1)

pub Agree-parts : (h k : Heap) (ps qs : List Parcel) → Agree h k (ps ++ qs) → Agree h k ps × Agree h k qs
Agree-parts h k [] qs a = (tt, a)
Agree-parts h k (p ∷ ps) qs a = let r = Agree-parts h k ps qs a.1 in ((a.0, r.0), r.1)

pub lies-kept : (h k : Heap) (link : ℕ) (p : Parcel) → block_bytes p.block k ≡ block_bytes p.block h → Lies h link p → Lies k link p
lies-kept h k link p e l = record { block = e ∙ l.block; fits = l.fits }

pub chain-kept : (h k : Heap) (ps : List Parcel) (next : ℕ) → Agree h k ps → Chain h ps next → Chain k ps next
chain-kept h k [] next a c = tt
chain-kept h k (p ∷ ps) next a c = (lies-kept h k (first_block ps next) p a.0 c.0, chain-kept h k ps next a.1 c.1)

pub holds-kept : (h k : Heap) (block : ℕ) (o : Option Parcel) → Agree h k (held_list o) → Holds h block o → Holds k block o
holds-kept h k block None a c = c
holds-kept h k block (Some p) a c = (c.0, lies-kept h k 0 p a.0 c.1)

pub row-kept : (h k : Heap) (e : Entry) (r : SeatRow) → Agree h k (row_parcels r) → RowLies h e r → RowLies k e r
row-kept h k e r a l =
    let s = Agree-parts h k r.chain (held_list r.held) a in
    record { handle = l.handle; first = l.first; last = l.last; chain = chain-kept h k r.chain 0 s.0 l.chain; held = holds-kept h k e.held r.held s.1 l.held }

-- a block that a message lies in is no new one
fresh-one : (h : Heap) (link : ℕ) (p : Parcel) (x : ℕ) → block_bytes x h ≡ None → Lies h link p → p.block ≢ x
fresh-one h link p x e l q = let bad : Some (padded link p) ≡ None = sym l.block ∙ ap (λ b. block_bytes b h) q ∙ e in cc

pub chain-fresh : (h : Heap) (ps : List Parcel) (next x : ℕ) → block_bytes x h ≡ None → Chain h ps next → Off x ps
chain-fresh h [] next x e c = tt
chain-fresh h (p ∷ ps) next x e c = (fresh-one h (first_block ps next) p x e c.0, chain-fresh h ps next x e c.1)

pub row-fresh : (h : Heap) (e : Entry) (r : SeatRow) (x : ℕ) → block_bytes x h ≡ None → RowLies h e r → Off x (row_parcels r)
row-fresh h e r x f l = Off-append x r.chain (held_list r.held) (chain-fresh h r.chain 0 x f l.chain) (go r.held l.held)
  where
    go : (o : Option Parcel) → Holds h e.held o → Off x (held_list o)
    go None c = tt
    go (Some p) c = (fresh-one h 0 p x f c.1, tt)

-- ---- the end of a chain
-- the last of some messages links to another block
pub record LinkedTo (h k : Heap) (last block : ℕ) : Type 0 where
  pub there : (bs : List ℕ) → block_bytes last h ≡ Some bs → block_bytes last k ≡ Some (with_part bs 0 (word_bytes block))

pub chain-longer : (h k : Heap) (ps : List Parcel) (q : Parcel) → Chain h ps 0 → Apart ps → Off q.block ps → KeepsBut h k (last_block ps) q.block
    → LinkedTo h k (last_block ps) q.block → Lies k 0 q → Chain k (ps ++ q ∷ []) 0
chain-longer h k [] q c a o s t l = (l, tt)
chain-longer h k (p ∷ []) q c a o s t l =
    (record { block = t.there (padded 0 p) c.0.block ∙ ap Some (padded-relinked 0 q.block p); fits = c.0.fits }, (l, tt))
chain-longer h k (p ∷ r ∷ ps) q c a o s t l =
    (lies-kept h k r.block p (s.each p.block (λ e. Off-last p.block r ps a.0 (sym e)) o.0) c.0, chain-longer h k (r ∷ ps) q c.1 a.1 o.1 s t l)

pub last_block-append : (ps : List Parcel) (q : Parcel) → last_block (ps ++ q ∷ []) ≡ q.block
last_block-append [] q = refl
last_block-append (p ∷ []) q = refl
last_block-append (p ∷ r ∷ ps) q = last_block-append (r ∷ ps) q

-- the last block of a chain is there
pub last-there : (h : Heap) (p : Parcel) (ps : List Parcel) (next : ℕ) → Chain h (p ∷ ps) next → HasBlock (last_block (p ∷ ps)) 24 h
last-there h p [] next c = record { bytes = padded next p; found = c.0.block; room = padded-least next p }
last-there h p (q ∷ ps) next c = last-there h q ps next c.1

-- ---- one row changes
pub record RowChanges (h k : Heap) (es : List Entry) (rows : List SeatRow) (i : ℕ) (e : Entry) (r : SeatRow) : Type 0 where
  pub lies : RowLies k e r
  pub own : Apart (row_parcels r)
  pub handle : r.handle ≡ (row_at rows i).handle
  pub others : (j : ℕ) → j < length rows → j ≢ i
      → Agree h k (row_parcels (row_at rows j)) × (Clear (row_parcels r) (row_parcels (row_at rows j)) × Clear (row_parcels (row_at rows j)) (row_parcels r))

pub rows-changed : (h k : Heap) (es : List Entry) (rows : List SeatRow) (i : ℕ) (e : Entry) (r : SeatRow) → i < length rows → RowsLie h es rows
    → RowChanges h k es rows i e r → RowsLie k (set es i e) (set rows i r)
rows-changed h k es rows i e r l s c =
    let le = length-set es i e in
    let lr = length-set rows i r in
    let len = s.len in
    let same-row : row_at (set rows i r) i ≡ r = get_or-set_same rows i r no_row l in
    let same-entry : entry_at (set es i e) i ≡ e = get_or-set_same es i e no_entry (omega arith) in
    let other-row : (j : ℕ) → j ≢ i → row_at (set rows i r) j ≡ row_at rows j = λ j ne. get_or-set_other rows i j r no_row ne in
    let other-entry : (j : ℕ) → j ≢ i → entry_at (set es i e) j ≡ entry_at es j = λ j ne. get_or-set_other es i j e no_entry ne in
    record {
      len = omega arith;
      each = λ j b. elim (cases_eq j i) [
        | inl q ↦ subst (λ n. RowLies k (entry_at (set es i e) n) (row_at (set rows i r) n)) (sym q)
            (subst (λ x. RowLies k x (row_at (set rows i r) i)) (sym same-entry) (subst (RowLies k e) (sym same-row) c.lies))
        | inr ne ↦ subst (λ x. RowLies k x (row_at (set rows i r) j)) (sym (other-entry j ne)) (subst (RowLies k (entry_at es j)) (sym (other-row j ne))
            (row-kept h k (entry_at es j) (row_at rows j) (c.others j (omega arith) ne).0 (s.each j (omega arith))))
      ];
      own = λ j b. elim (cases_eq j i) [
        | inl q ↦ subst (λ n. Apart (row_parcels (row_at (set rows i r) n))) (sym q) (subst (λ x. Apart (row_parcels x)) (sym same-row) c.own)
        | inr ne ↦ subst (λ x. Apart (row_parcels x)) (sym (other-row j ne)) (s.own j (omega arith))
      ];
      cross = λ j m bj bm ne. elim (cases_eq j i) [
        | inl qj ↦ let nm : m ≢ i = λ z. ne (qj ∙ sym z) in
            subst (λ n. Clear (row_parcels (row_at (set rows i r) n)) (row_parcels (row_at (set rows i r) m))) (sym qj)
            (subst (λ x. Clear (row_parcels x) (row_parcels (row_at (set rows i r) m))) (sym same-row)
            (subst (λ x. Clear (row_parcels r) (row_parcels x)) (sym (other-row m nm)) (c.others m (omega arith) nm).1.0))
        | inr nj ↦ subst (λ x. Clear (row_parcels x) (row_parcels (row_at (set rows i r) m))) (sym (other-row j nj)) (elim (cases_eq m i) [
          | inl qm ↦ subst (λ n. Clear (row_parcels (row_at rows j)) (row_parcels (row_at (set rows i r) n))) (sym qm)
              (subst (λ x. Clear (row_parcels (row_at rows j)) (row_parcels x)) (sym same-row) (c.others j (omega arith) nj).1.1)
          | inr nm ↦ subst (λ x. Clear (row_parcels (row_at rows j)) (row_parcels x)) (sym (other-row m nm)) (s.cross j m (omega arith) (omega arith) ne)
        ])
      ];
      handles = λ j m bj bm ne.
          let named : (n : ℕ) → (row_at (set rows i r) n).handle ≡ (row_at rows n).handle = λ n. elim (cases_eq n i) [
            | inl q ↦ ap (λ z. (row_at (set rows i r) z).handle) q ∙ ap (λ (x : SeatRow). x.handle) same-row ∙ c.handle ∙ ap (λ z. (row_at rows z).handle)
                (sym q)
            | inr nn ↦ ap (λ (x : SeatRow). x.handle) (other-row n nn)
          ] in
          λ z. s.handles j m (omega arith) (omega arith) ne (sym (named j) ∙ z ∙ named m);
    }
