-- A post after the first message for a task is taken.
use Rattle.rh_wimp.proofs.Common.{◌≡◌, ℕ, zero, suc, ◌+◌, ◌<◌, ◌≢◌, ◌⊎◌, inl, inr, true, false, cond, eqb, List, [], ◌∷◌, ◌++◌, length, map, set, refl, sym}
use Rattle.rh_wimp.proofs.Common.{ap, subst, ◌∙◌, arith, append-nil, cases_eq, eqb_tells, length-set, get_or-set_same, get_or-set_other, Option, Some, None}
use Rattle.rh_wimp.proofs.Common.{filter, not, ◌==◌, total, Heap, cond_true, cond_false, eqb_apart, block_bytes, HasBlock, SameShape, Parcel, padded, Seat}
use Rattle.rh_wimp.proofs.Common.{Post, held_by, with_held, count_held, live_count, most_messages, first_for, Loose, Chains, Chain, SeatRow, RowsLie, IsLinked}
use Rattle.rh_wimp.proofs.Common.{ArePostChains, AllLie, AllLive, Lies, Off, Apart, Clear, no_row, entry_at, row_at, seat_row, rows_of, row_parcels, held_list}
use Rattle.rh_wimp.proofs.Common.{first_block, last_block, Entry, padded-least, shape-both}
use Rattle.rh_defs.specs.Post.{behind_first}
use Rattle.rh_wimp.specs.Chains.{shortened}
use Rattle.rh_wimp.specs.Inner.ChainEdits.{shortened_chains, holding, holding_chains}
use Rattle.rh_wimp.proofs.LinkLaws.{AllLie-parts, AllLie-append}
use Rattle.rh_wimp.proofs.PostLaws.{seat_at, Named, held-at, seat_with, with_held-at, rows-seat, count-seat}
use Rattle.rh_wimp.proofs.RowEdits.{lies-above}
use Rattle.rh_wimp.proofs.RowLaws.{KeepsBut, agree-off, chain-kept, holds-kept, Off-parts, Clear-append, Clear-parts, Clear-behind, Clear-behind-parts}
use Rattle.rh_wimp.proofs.RowLaws.{Clear-one, Apart-append, Apart-parts, rows-changed}
use Rattle.rh_wimp.proofs.SendLaws.{seated, named, all-live-same}

-- ---- the first message for a handle
pub record FirstFor (x : ℕ) (queue : List Parcel) (p : Parcel) (rest : List Parcel) : Type 0 where
  pub to : p.to ≡ x
  pub same : filter (λ (r : Parcel). r.to == x) queue ≡ p ∷ filter (λ (r : Parcel). r.to == x) rest
  pub others : (y : ℕ) → y ≢ x → filter (λ (r : Parcel). r.to == y) queue ≡ filter (λ (r : Parcel). r.to == y) rest
  pub away : filter (λ (r : Parcel). not (r.to == x)) queue ≡ filter (λ (r : Parcel). not (r.to == x)) rest
  pub fewer : length queue ≡ length rest + 1
  pub live : (seats : List Seat) → AllLive seats queue → AllLive seats rest

first-now : (x : ℕ) (p : Parcel) (queue : List Parcel) → eqb p.to x ≡ true → p.to ≡ x → FirstFor x (p ∷ queue) p queue
first-now x p queue t e = record {
  to = e;
  same = cond_true (eqb p.to x) _ _ t;
  others = λ y ne. cond_false (eqb p.to y) _ _ (eqb_apart p.to y (λ z. ne (sym z ∙ e)));
  away = cond_false (not (eqb p.to x)) _ _ (ap not t);
  fewer = omega arith;
  live = λ seats a. a.1;
}

first-later : (x : ℕ) (p q : Parcel) (queue rest : List Parcel) → eqb q.to x ≡ false → FirstFor x queue p rest → FirstFor x (q ∷ queue) p (q ∷ rest)
first-later x p q queue rest f w = record {
  to = w.to;
  same = cond_false (eqb q.to x) _ _ f ∙ w.same ∙ ap (λ l. p ∷ l) (sym (cond_false (eqb q.to x) _ _ f));
  others = λ y ne. ap (λ l. cond (eqb q.to y) (q ∷ l) l) (w.others y ne);
  away = ap (λ l. cond (not (eqb q.to x)) (q ∷ l) l) w.away;
  fewer = let l = w.fewer in omega arith;
  live = λ seats a. (a.0, w.live seats a.1);
}

pub first-some : (x : ℕ) (queue : List Parcel) (t : Parcel × List Parcel) → first_for x queue ≡ Some t → FirstFor x queue t.0 t.1
first-some x [] t e = absurd cc
first-some x (q ∷ queue) t e = elim (eqb_tells q.to x) [
  | inl u ↦ let same : Some (q, queue) ≡ Some t = sym (cond_true (eqb q.to x) _ _ u.0) ∙ e in
      let is : ◌≡◌ {A = Parcel × List Parcel} (q, queue) t = cc in
      subst (λ (w : Parcel × List Parcel). FirstFor x (q ∷ queue) w.0 w.1) is (first-now x q queue u.0 u.1)
  | inr v ↦ go (first_for x queue) (λ r s. first-some x queue r s) (sym (cond_false (eqb q.to x) _ _ v.0) ∙ e) refl v.0
]
  where
    go : (o : Option (Parcel × List Parcel)) → ((r : Parcel × List Parcel) → first_for x queue ≡ Some r → FirstFor x queue r.0 r.1)
        → behind_first q o ≡ Some t → first_for x queue ≡ o → eqb q.to x ≡ false → FirstFor x (q ∷ queue) t.0 t.1
    go None f s eo ne = absurd cc
    go (Some r) f s eo ne =
        let is : ◌≡◌ {A = Parcel × List Parcel} (r.0, q ∷ r.1) t = cc in
        subst (λ (w : Parcel × List Parcel). FirstFor x (q ∷ queue) w.0 w.1) is (first-later x r.0 q queue r.1 ne (f r eo))

pub first-none : (x : ℕ) (queue : List Parcel) → first_for x queue ≡ None → filter (λ (r : Parcel). r.to == x) queue ≡ []
first-none x [] e = refl
first-none x (q ∷ queue) e = elim (eqb_tells q.to x) [
  | inl u ↦ let bad : Some (q, queue) ≡ None = sym (cond_true (eqb q.to x) _ _ u.0) ∙ e in absurd cc
  | inr v ↦ cond_false (eqb q.to x) _ _ v.0 ∙ go (first_for x queue) (λ s. first-none x queue s) (sym (cond_false (eqb q.to x) _ _ v.0) ∙ e) refl
]
  where
    go : (o : Option (Parcel × List Parcel)) → (first_for x queue ≡ None → filter (λ (r : Parcel). r.to == x) queue ≡ []) → behind_first q o ≡ None
        → first_for x queue ≡ o → filter (λ (r : Parcel). r.to == x) queue ≡ []
    go None f s eo = f eo
    go (Some r) f s eo = absurd cc

-- ---- a chain without its first message
abbrev pub with_chain : List Parcel → SeatRow → SeatRow
with_chain ps r = record r { chain = ps }

last-shortened : (h : Heap) (e : Entry) (p : Parcel) (ps : List Parcel) → e.last ≡ last_block (p ∷ ps) → Chain h ps 0
    → (shortened (first_block ps 0) e).last ≡ last_block ps
last-shortened h e p [] el c = refl
last-shortened h e p (q ∷ ps) el c =
    let a = lies-above h (first_block ps 0) q c.0 in
    cond_false (eqb q.block 0) _ _ (eqb_apart q.block 0 (omega arith)) ∙ el

module _ (h k : Heap) (es : List Entry) (rows : List SeatRow) (i : ℕ) (p : Parcel) (ps : List Parcel) where
  pub rows-shortened : i < length rows → RowsLie h es rows → (row_at rows i).chain ≡ p ∷ ps → KeepsBut h k p.block p.block
      → RowsLie k (set es i (shortened (first_block ps 0) (entry_at es i))) (set rows i (with_chain ps (row_at rows i)))
  rows-shortened l s is keeps =
      let e = entry_at es i in
      let r = row_at rows i in
      let here = s.each i l in
      let own : Apart (p ∷ (ps ++ held_list r.held)) = subst (λ c. Apart (c ++ held_list r.held)) is (s.own i l) in
      let offs = Off-parts p.block ps (held_list r.held) own.0 in
      let chain : Chain h (p ∷ ps) 0 = subst (λ c. Chain h c 0) is here.chain in
      let off-row : (j : ℕ) → j < length rows → j ≢ i → Off p.block (row_parcels (row_at rows j)) =
      λ j b ne. (subst (λ c. Clear (c ++ held_list r.held) (row_parcels (row_at rows j))) is (s.cross i j l b (λ z. ne (sym z)))).0 in
      rows-changed h k es rows i (shortened (first_block ps 0) e) (with_chain ps r) l s (record {
        lies = record {
          handle = here.handle;
          first = refl;
          last = last-shortened h e p ps (here.last ∙ ap last_block is) chain.1;
          chain = chain-kept h k ps 0 (agree-off h k p.block p.block ps keeps offs.0 offs.0) chain.1;
          held = holds-kept h k e.held r.held (agree-off h k p.block p.block (held_list r.held) keeps offs.1 offs.1) here.held;
        };
        own = own.1;
        handle = refl;
        others = λ j b ne.
            let there = row_parcels (row_at rows j) in
            let ahead = subst (λ c. Clear (c ++ held_list r.held) there) is (s.cross i j l b (λ z. ne (sym z))) in
            let back = Clear-behind-parts there (p ∷ []) (ps ++ held_list r.held) (subst (λ c. Clear there (c ++ held_list r.held)) is (s.cross j i b l ne)) in
            (agree-off h k p.block p.block there keeps (off-row j b ne) (off-row j b ne), (ahead.1, back.1));
      })

  -- and it belongs to no row from then on
  pub shortened-off : i < length rows → RowsLie h es rows → (row_at rows i).chain ≡ p ∷ ps → (j : ℕ) → j < length rows
      → Off p.block (row_parcels (row_at (set rows i (with_chain ps (row_at rows i))) j))
  shortened-off l s is j b = elim (cases_eq j i) [
    | inl z ↦
        let r = row_at rows i in
        let own : Apart (p ∷ (ps ++ held_list r.held)) = subst (λ c. Apart (c ++ held_list r.held)) is (s.own i l) in
        subst (λ n. Off p.block (row_parcels (row_at (set rows i (with_chain ps r)) n))) (sym z)
        (subst (λ x. Off p.block (row_parcels x)) (sym (get_or-set_same rows i (with_chain ps r) no_row l)) own.0)
    | inr ne ↦
        let r = row_at rows i in
        subst (λ x. Off p.block (row_parcels x)) (sym (get_or-set_other rows i j (with_chain ps r) no_row ne))
        (subst (λ c. Clear (c ++ held_list r.held) (row_parcels (row_at rows j))) is (s.cross i j l b (λ z. ne (sym z)))).0
  ]

-- ---- a message held
abbrev pub with_hold : Parcel → SeatRow → SeatRow
with_hold p r = record r { held = Some p }

module _ (h : Heap) (es : List Entry) (rows : List SeatRow) (i : ℕ) (p : Parcel) where
  pub rows-held : i < length rows → RowsLie h es rows → (row_at rows i).held ≡ None → Lies h 0 p
      → ((j : ℕ) → j < length rows → Off p.block (row_parcels (row_at rows j)))
      → RowsLie h (set es i (holding p.block (entry_at es i))) (set rows i (with_hold p (row_at rows i)))
  rows-held l s none lies off =
      let e = entry_at es i in
      let r = row_at rows i in
      let here = s.each i l in
      let own : Apart r.chain = (Apart-parts r.chain (held_list r.held) (s.own i l)).0 in
      let self : KeepsBut h h p.block p.block = record { each = λ b ne ne'. refl } in
      rows-changed h h es rows i (holding p.block e) (with_hold p r) l s (record {
        lies = record { handle = here.handle; first = here.first; last = here.last; chain = here.chain; held = (refl, lies) };
        own = Apart-append r.chain (p ∷ []) own (tt, tt) (Clear-one p r.chain (Off-parts p.block r.chain (held_list r.held) (off i l)).0);
        handle = refl;
        others = λ j b ne.
            let there = row_parcels (row_at rows j) in
            let ahead = Clear-parts r.chain (held_list r.held) there (s.cross i j l b (λ z. ne (sym z))) in
            let back = Clear-behind-parts there r.chain (held_list r.held) (s.cross j i b l ne) in (
              agree-off h h p.block p.block there self (off j b) (off j b),
              (Clear-append r.chain (p ∷ []) there ahead.0 (off j b, tt), Clear-behind there r.chain (p ∷ []) back.0 (Clear-one p there (off j b))),
            );
      })

-- ---- the heaps beside
module _ (h k d : Heap) (es : List Entry) (rows : List SeatRow) (i : ℕ) (p : Parcel) (ps : List Parcel) where
  pub linked-shortened : i < length rows → RowsLie h es rows → (row_at rows i).chain ≡ p ∷ ps → IsLinked h d rows → SameShape k h
      → KeepsBut h k p.block p.block → block_bytes p.block k ≡ Some (padded 0 p)
      → IsLinked k d (set rows i (with_chain ps (row_at rows i))) × (block_bytes p.block d ≡ Some (padded 0 p))
  linked-shortened l s is linked shape keeps there =
      let r = row_at rows i in
      let n = length-set rows i (with_chain ps r) in
      let same : row_at (set rows i (with_chain ps r)) i ≡ with_chain ps r = get_or-set_same rows i (with_chain ps r) no_row l in
      let other : (j : ℕ) → j ≢ i → row_at (set rows i (with_chain ps r)) j ≡ row_at rows j = λ j ne. get_or-set_other rows i j (with_chain ps r) no_row ne in
      let all : AllLie d (p ∷ (ps ++ held_list r.held)) = subst (λ c. AllLie d (c ++ held_list r.held)) is (linked.lie i l) in (
        record {
          shape = shape-both shape linked.shape;
          lie = λ j b. elim (cases_eq j i) [
            | inl z ↦ subst (λ m. AllLie d (row_parcels (row_at (set rows i (with_chain ps r)) m))) (sym z)
                (subst (λ x. AllLie d (row_parcels x)) (sym same) all.1)
            | inr ne ↦ subst (λ x. AllLie d (row_parcels x)) (sym (other j ne)) (linked.lie j (omega arith))
          ];
          others = λ b out. elim (cases_eq b p.block) [
            | inl z ↦ subst (λ m. block_bytes m k ≡ block_bytes m d) (sym z) (there ∙ sym all.0)
            | inr ne ↦ keeps.each b ne ne ∙ linked.others b (λ j c. elim (cases_eq j i) [
              | inl z ↦ subst (λ m. Off b (row_parcels (row_at rows m))) (sym z) (subst (λ ch. Off b (ch ++ held_list r.held)) (sym is)
                  ((λ y. ne (sym y)), subst (λ x. Off b (row_parcels x)) same (out i (omega arith))))
              | inr nj ↦ subst (λ x. Off b (row_parcels x)) (other j nj) (out j (omega arith))
            ])
          ];
        },
        all.0,
      )

module _ (h d : Heap) (rows : List SeatRow) (i : ℕ) (p : Parcel) where
  pub linked-held : i < length rows → (row_at rows i).held ≡ None → IsLinked h d rows → block_bytes p.block d ≡ Some (padded 0 p)
      → IsLinked h d (set rows i (with_hold p (row_at rows i)))
  linked-held l none linked there =
      let r = row_at rows i in
      let n = length-set rows i (with_hold p r) in
      let same : row_at (set rows i (with_hold p r)) i ≡ with_hold p r = get_or-set_same rows i (with_hold p r) no_row l in
      let other : (j : ℕ) → j ≢ i → row_at (set rows i (with_hold p r)) j ≡ row_at rows j = λ j ne. get_or-set_other rows i j (with_hold p r) no_row ne in
      record {
        shape = linked.shape;
        lie = λ j b. elim (cases_eq j i) [
          | inl z ↦ subst (λ m. AllLie d (row_parcels (row_at (set rows i (with_hold p r)) m))) (sym z) (subst (λ x. AllLie d (row_parcels x)) (sym same)
              (AllLie-append d r.chain (p ∷ []) (AllLie-parts d r.chain (held_list r.held) (linked.lie i l)).0 (there, tt)))
          | inr ne ↦ subst (λ x. AllLie d (row_parcels x)) (sym (other j ne)) (linked.lie j (omega arith))
        ];
        others = λ b out. linked.others b (λ j c. elim (cases_eq j i) [
          | inl z ↦ subst (λ m. Off b (row_parcels (row_at rows m))) (sym z) (subst (λ o. Off b (r.chain ++ held_list o)) (sym none)
              (subst (Off b) (sym (append-nil r.chain)) (Off-parts b r.chain (p ∷ []) (subst (λ x. Off b (row_parcels x)) same (out i (omega arith)))).0))
          | inr nj ↦ subst (λ x. Off b (row_parcels x)) (other j nj) (out j (omega arith))
        ]);
      }

-- ---- the post
kept-row : (queue rest : List Parcel) (x : ℕ) (p : Parcel) (s : Seat) → FirstFor x queue p rest → s.handle ≢ x → seat_row rest s ≡ seat_row queue s
kept-row queue rest x p s w ne =
    ap (λ (l : List Parcel). let r : SeatRow = record { handle = s.handle; chain = l; held = s.holds } in r) (sym (w.others s.handle ne))

kept-rows : (queue rest : List Parcel) (x : ℕ) (p : Parcel) (seats : List Seat) → FirstFor x queue p rest
    → ((j : ℕ) → j < length seats → (seat_at seats j).handle ≢ x) → map (seat_row rest) seats ≡ map (seat_row queue) seats
kept-rows queue rest x p [] w n = refl
kept-rows queue rest x p (s ∷ seats) w n =
    ap (λ r. r ∷ map (seat_row rest) seats) (kept-row queue rest x p s w (n 0 (omega arith)))
    ∙ ap (λ l. seat_row queue s ∷ l) (kept-rows queue rest x p seats w (λ j b. n (suc j) (omega arith)))

rows-taken : (queue rest : List Parcel) (x : ℕ) (p : Parcel) (seats : List Seat) (i : ℕ) → FirstFor x queue p rest → Named seats → i < length seats
    → (seat_at seats i).handle ≡ x
    → map (seat_row rest) seats ≡ set (map (seat_row queue) seats) i (with_chain (filter (λ (r : Parcel). r.to == x) rest) (seat_row queue (seat_at seats i)))
rows-taken queue rest x p [] i w n b e = absurd (omega arith)
rows-taken queue rest x p (s ∷ seats) zero w n b e =
    ap (λ y. (let r : SeatRow = record { handle = s.handle; chain = filter (λ (r : Parcel). r.to == y) rest; held = s.holds } in r) ∷ map
    (seat_row rest) seats) e
    ∙ ap (λ l. with_chain (filter (λ (r : Parcel). r.to == x) rest) (seat_row queue s) ∷ l)
    (kept-rows queue rest x p seats w (λ j c z. n 0 (suc j) (omega arith) (omega arith) (omega arith) (e ∙ sym z)))
rows-taken queue rest x p (s ∷ seats) (suc i) w n b e =
    ap (λ r. r ∷ map (seat_row rest) seats) (kept-row queue rest x p s w (λ z. n 0 (suc i) (omega arith) (omega arith) (omega arith) (z ∙ sym e)))
    ∙ ap (λ l. seat_row queue s ∷ l) (rows-taken queue rest x p seats i w (λ j m bj bm ne. n (suc j) (suc m) (omega arith) (omega arith) (omega arith))
    (omega arith) e)

abbrev pub rest_of : List Parcel → Post → Post
rest_of rest post = record post { queued = rest }

abbrev pub chain_to : ℕ → List Parcel → List Parcel
chain_to x queue = filter (λ (r : Parcel). r.to == x) queue

-- the first block of a task's chain spells the first message for it
pub next-there : (h : Heap) (ps : List Parcel) → Chain h ps 0 → (first_block ps 0 ≡ 0) ⊎ HasBlock (first_block ps 0) 24 h
next-there h [] c = inl refl
next-there h (p ∷ ps) c = inr (record { bytes = padded (first_block ps 0) p; found = c.0.block; room = padded-least (first_block ps 0) p })

pub record Ahead (h : Heap) (q : Chains) (x i : ℕ) (p : Parcel) (rest : List Parcel) : Type 0 where
  pub next : (first_block (chain_to x rest) 0 ≡ 0) ⊎ HasBlock (first_block (chain_to x rest) 0) 24 h
  pub first : (entry_at q.entries i).first ≡ p.block
  pub lies : Lies h (first_block (chain_to x rest) 0) p

pub ahead : (h : Heap) (q : Chains) (post : Post) (x i : ℕ) (p : Parcel) (rest : List Parcel) → ArePostChains h q post → i < length q.entries
    → (entry_at q.entries i).handle ≡ x → FirstFor x post.queued p rest → Ahead h q x i p rest
ahead h q post x i p rest s lt e w =
    let t = seated h q post i s lt in
    let here = s.rows.each i t.row in
    let is : (row_at (rows_of post) i).chain ≡ p ∷ chain_to x rest =
    ap (λ (r : SeatRow). r.chain) t.row_is ∙ ap (λ y. chain_to y post.queued) (sym t.handle ∙ e) ∙ w.same in
    let chain = subst (λ c. Chain h c 0) is here.chain in
    record { next = next-there h (chain_to x rest) chain.1; first = here.first ∙ ap (λ c. first_block c 0) is; lies = chain.0 }

pub none-ahead : (h : Heap) (q : Chains) (post : Post) (x i : ℕ) → ArePostChains h q post → i < length q.entries → (entry_at q.entries i).handle ≡ x
    → first_for x post.queued ≡ None → (entry_at q.entries i).first ≡ 0
none-ahead h q post x i s lt e n =
    let t = seated h q post i s lt in
    let here = s.rows.each i t.row in
    here.first ∙ ap (λ c. first_block c 0) (ap (λ (r : SeatRow). r.chain) t.row_is ∙ ap (λ y. chain_to y post.queued) (sym t.handle ∙ e)
    ∙ first-none x post.queued n)

module _ (h k : Heap) (q : Chains) (post : Post) (x i : ℕ) (p : Parcel) (rest : List Parcel) where
  pub taken-off : ArePostChains h q post → i < length q.entries → (entry_at q.entries i).handle ≡ x → FirstFor x post.queued p rest → SameShape k h
      → KeepsBut h k p.block p.block → block_bytes p.block k ≡ Some (padded 0 p)
      → ArePostChains k (shortened_chains i (first_block (chain_to x rest) 0) q) (rest_of rest post) × Loose k (rest_of rest post) p
  taken-off s lt e w shape keeps there =
      let t = seated h q post i s lt in
      let row : SeatRow = row_at (rows_of post) i in
      let ps : List Parcel = chain_to x rest in
      let is : row.chain ≡ p ∷ ps = ap (λ (r : SeatRow). r.chain) t.row_is ∙ ap (λ y. chain_to y post.queued) (sym t.handle ∙ e) ∙ w.same in
      let lies = (ahead h q post x i p rest s lt e w).lies in
      let rows-are : rows_of (rest_of rest post) ≡ set (rows_of post) i (with_chain ps row) =
      rows-taken post.queued rest x p post.seats i w (named h q post s) t.seat (sym t.handle ∙ e)
      ∙ ap (λ r. set (rows_of post) i (with_chain ps r)) (sym t.row_is) in
      let both = linked-shortened h k post.heap q.entries (rows_of post) i p ps t.row s.rows is s.linked shape keeps there in
      let live = s.live in
      let few = s.few in
      let fewer = w.fewer in
      let n = length-set (rows_of post) i (with_chain ps row) in (
        record {
          rows = subst (RowsLie k (set q.entries i (shortened (first_block ps 0) (entry_at q.entries i)))) (sym rows-are)
              (rows-shortened h k q.entries (rows_of post) i p ps t.row s.rows is keeps);
          linked = subst (IsLinked k post.heap) (sym rows-are) both.0;
          live = omega arith;
          recipients = w.live post.seats s.recipients;
          few = omega arith;
          next_ref = s.next_ref;
        },
        record {
          lies = record { block = there; fits = lies.fits };
          plain = both.1;
          off = λ j b. subst (λ rs. Off p.block (row_parcels (row_at rs j))) (sym rows-are)
              (shortened-off h h q.entries (rows_of post) i p ps t.row s.rows is j (let z = ap length rows-are in omega arith));
        },
      )

module _ (h : Heap) (q : Chains) (post : Post) (x i : ℕ) (p : Parcel) where
  pub held-post : ArePostChains h q post → i < length q.entries → (entry_at q.entries i).handle ≡ x → held_by x post.seats ≡ None → Loose h post p
      → live_count post < most_messages → ArePostChains h (holding_chains i p.block q) (record post { seats = with_held x (Some p) post.seats })
  held-post s lt e none loose less =
      let t = seated h q post i s lt in
      let row : SeatRow = row_at (rows_of post) i in
      let seat : Seat = seat_at post.seats i in
      let names = named h q post s in
      let here : seat.holds ≡ None = sym (held-at post.seats i x names t.seat (sym t.handle ∙ e)) ∙ none in
      let row-none : row.held ≡ None = ap (λ (r : SeatRow). r.held) t.row_is ∙ here in
      let seats-are : with_held x (Some p) post.seats ≡ set post.seats i (seat_with (Some p) seat) =
      with_held-at (Some p) post.seats i x names t.seat (sym t.handle ∙ e) in
      let rows-are : map (seat_row post.queued) (with_held x (Some p) post.seats) ≡ set (rows_of post) i (with_hold p row) =
      ap (map (seat_row post.queued)) seats-are ∙ rows-seat post.queued post.seats i (seat_with (Some p) seat)
      ∙ ap (λ r. set (rows_of post) i (with_hold p r)) (sym t.row_is) in
      let counts = count-seat post.seats i (seat_with (Some p) seat) t.seat in
      let zero_ : count_held seat.holds ≡ 0 = ap count_held here in
      let total-is = ap (total (λ (y : Seat). count_held y.holds)) seats-are in
      let live = s.live in
      record {
        rows = subst (RowsLie h (set q.entries i (holding p.block (entry_at q.entries i)))) (sym rows-are)
            (rows-held h q.entries (rows_of post) i p t.row s.rows row-none loose.lies loose.off);
        linked = subst (IsLinked h post.heap) (sym rows-are) (linked-held h post.heap (rows_of post) i p t.row row-none s.linked loose.plain);
        live = omega arith;
        recipients = subst (λ ss. AllLive ss post.queued) (sym seats-are) (all-live-same (Some p) post.seats i post.queued s.recipients);
        few = omega arith;
        next_ref = s.next_ref;
      }
