-- A post that loses the seat of a task with no messages.
use Rattle.rh_wimp.proofs.Common.{◌≡◌, ℕ, zero, suc, ◌+◌, ◌-◌, ◌<◌, ◌≤◌, ◌≢◌, ◌⊎◌, inl, inr, eqb, List, [], ◌∷◌, ◌++◌, length, map, refl, sym, ap, subst, ◌∙◌}
use Rattle.rh_wimp.proofs.Common.{arith, cases_eq, cases_lt, None, not, Heap, Parcel, total, Seat, Post, held_by, count_held, cond_true, cond_false, eqb_same}
use Rattle.rh_wimp.proofs.Common.{eqb_apart, Chains, SeatRow, ArePostChains, IsLinked, RowLies, RowsLie, AllLie, AllLive, Apart, Clear, Off, entry_at}
use Rattle.rh_wimp.proofs.Common.{held_list}
use Rattle.rh_wimp.proofs.Common.{no_entry, no_row, row_at, seat_row, rows_of, row_parcels, queue_to, without_seat, Entry}
use Rattle.std.proofs.lemmas.List.Edits.{length-remove, get_or-remove_below, get_or-remove_above}
use Rattle.std.specs.List.{remove}
use Rattle.rh_wimp.proofs.DeathLaws.{queue_but, seats_but, seat-other}
use Rattle.rh_wimp.proofs.PostLaws.{Named, held-at, seat_at}
use Rattle.rh_wimp.proofs.SendLaws.{named, seated}

-- ---- a list with a member fewer
-- seats without one, by its place
seats-removed : (h : ℕ) (seats : List Seat) (i : ℕ) → Named seats → i < length seats → (seat_at seats i).handle ≡ h → seats_but h seats ≡ remove seats i
seats-removed h [] i n b e = absurd (omega arith)
seats-removed h (s ∷ seats) zero n b e =
    cond_false (not (eqb s.handle h)) _ _ (ap not (eqb_same s.handle h e))
    ∙ none-gone seats (λ j c z. n 0 (suc j) (omega arith) (omega arith) (omega arith) (e ∙ sym z))
  where
    none-gone : (ss : List Seat) → ((j : ℕ) → j < length ss → (seat_at ss j).handle ≢ h) → seats_but h ss ≡ ss
    none-gone [] f = refl
    none-gone (t ∷ ss) f = cond_true (not (eqb t.handle h)) _ _ (ap not (eqb_apart t.handle h (f 0 (omega arith))))
        ∙ ap (λ l. t ∷ l) (none-gone ss (λ j c. f (suc j) (omega arith)))
seats-removed h (s ∷ seats) (suc i) n b e =
    cond_true (not (eqb s.handle h)) _ _ (ap not (eqb_apart s.handle h (λ z. n 0 (suc i) (omega arith) (omega arith) (omega arith) (z ∙ sym e))))
    ∙ ap (λ l. s ∷ l) (seats-removed h seats i (λ j m bj bm ne. n (suc j) (suc m) (omega arith) (omega arith) (omega arith)) (omega arith) e)

map-removed : (queue : List Parcel) (seats : List Seat) (i : ℕ) → map (seat_row queue) (remove seats i) ≡ remove (map (seat_row queue) seats) i
map-removed queue [] zero = refl
map-removed queue [] (suc i) = refl
map-removed queue (s ∷ seats) zero = refl
map-removed queue (s ∷ seats) (suc i) = ap (λ l. seat_row queue s ∷ l) (map-removed queue seats i)

-- nothing is queued for it
queue-stays : (h : ℕ) (queue : List Parcel) → queue_to h queue ≡ [] → queue_but h queue ≡ queue
queue-stays h [] e = refl
queue-stays h (p ∷ queue) e = elim (cases_eq p.to h) [
  | inl z ↦ let bad : p ∷ queue_to h queue ≡ [] = sym (cond_true (eqb p.to h) _ _ (eqb_same p.to h z)) ∙ e in absurd cc
  | inr ne ↦ cond_true (not (eqb p.to h)) _ _ (ap not (eqb_apart p.to h ne))
      ∙ ap (λ l. p ∷ l) (queue-stays h queue (sym (cond_false (eqb p.to h) _ _ (eqb_apart p.to h ne)) ∙ e))
]

live-stays : (h : ℕ) (seats : List Seat) (queue : List Parcel) → queue_to h queue ≡ [] → AllLive seats queue → AllLive (seats_but h seats) queue
live-stays h seats [] e a = tt
live-stays h seats (p ∷ queue) e a = elim (cases_eq p.to h) [
  | inl z ↦ let bad : p ∷ queue_to h queue ≡ [] = sym (cond_true (eqb p.to h) _ _ (eqb_same p.to h z)) ∙ e in absurd cc
  | inr ne ↦ (seat-other h p.to seats ne ∙ a.0, live-stays h seats queue (sym (cond_false (eqb p.to h) _ _ (eqb_apart p.to h ne)) ∙ e) a.1)
]

count-removed : (seats : List Seat) (i : ℕ) → i < length seats
    → total (λ (s : Seat). count_held s.holds) (remove seats i) + count_held (seat_at seats i).holds ≡ total (λ (s : Seat). count_held s.holds) seats
count-removed [] i b = absurd (omega arith)
count-removed (s ∷ seats) zero b = omega arith
count-removed (s ∷ seats) (suc i) b = omega (arith, count-removed seats i (let z : i < length seats = omega arith in z))

-- ---- rows without an empty one
-- where the row at a place stood before
record Was (es : List Entry) (rows : List SeatRow) (i j : ℕ) : Type 0 where
  place : ℕ
  within : place < length rows
  apart : place ≢ i
  row : row_at (remove rows i) j ≡ row_at rows place
  entry : entry_at (remove es i) j ≡ entry_at es place
  moved : ((j < i) × (place ≡ j)) ⊎ ((i ≤ j) × (place ≡ j + 1))

module _ (es : List Entry) (rows : List SeatRow) (i : ℕ) (we : i < length es) (w : i < length rows) where
  was : (j : ℕ) → j < length (remove rows i) → Was es rows i j
  was j b = let n = length-remove rows i w in elim (cases_lt j i) [
    | inl l ↦ record {
      place = j;
      within = omega arith;
      apart = omega arith;
      row = get_or-remove_below rows i no_row j l w;
      entry = get_or-remove_below es i no_entry j l we;
      moved = inl (l, refl);
    }
    | inr g ↦ record {
      place = j + 1;
      within = omega arith;
      apart = omega arith;
      row = get_or-remove_above rows i no_row j g w;
      entry = get_or-remove_above es i no_entry j g we;
      moved = inr (g, refl);
    }
  ]

  -- different places were different
  were-apart : (j m : ℕ) → j ≢ m → (x : Was es rows i j) (y : Was es rows i m) → x.place ≢ y.place
  were-apart j m ne x y = elim x.moved [
    | inl a ↦ elim y.moved [
      | inl b ↦ let p = a.1 in let q = b.1 in λ z. ne (omega arith)
      | inr b ↦ let p = a.1 in let q = b.1 in let l = a.0 in let g = b.0 in λ z. absurd (omega arith)
    ]
    | inr a ↦ elim y.moved [
      | inl b ↦ let p = a.1 in let q = b.1 in let l = b.0 in let g = a.0 in λ z. absurd (omega arith)
      | inr b ↦ let p = a.1 in let q = b.1 in λ z. ne (omega arith)
    ]
  ]

  rows-removed : (h : Heap) → RowsLie h es rows → RowsLie h (remove es i) (remove rows i)
  rows-removed h s =
      let n = length-remove rows i w in
      let m = length-remove es i we in
      let len = s.len in
      record {
        len = omega arith;
        each = λ j b.
            let x = was j b in
            subst (λ (r : SeatRow). RowLies h (entry_at (remove es i) j) r) (sym x.row)
            (subst (λ (e : Entry). RowLies h e (row_at rows x.place)) (sym x.entry) (s.each x.place x.within));
        own = λ j b. let x = was j b in subst (λ (r : SeatRow). Apart (row_parcels r)) (sym x.row) (s.own x.place x.within);
        cross = λ j k bj bk ne.
            let x = was j bj in
            let y = was k bk in
            subst (λ (r : SeatRow). Clear (row_parcels r) (row_parcels (row_at (remove rows i) k))) (sym x.row)
            (subst (λ (r : SeatRow). Clear (row_parcels (row_at rows x.place)) (row_parcels r)) (sym y.row)
            (s.cross x.place y.place x.within y.within (were-apart j k ne x y)));
        handles = λ j k bj bk ne.
            let x = was j bj in
            let y = was k bk in
            λ z. s.handles x.place y.place x.within y.within (were-apart j k ne x y)
            (sym (ap (λ (r : SeatRow). r.handle) x.row) ∙ z ∙ ap (λ (r : SeatRow). r.handle) y.row);
      }

  linked-removed : (h d : Heap) → row_parcels (row_at rows i) ≡ [] → IsLinked h d rows → IsLinked h d (remove rows i)
  linked-removed h d none s =
      let n = length-remove rows i w in
      record {
        shape = s.shape;
        lie = λ j b. let x = was j b in subst (λ (r : SeatRow). AllLie d (row_parcels r)) (sym x.row) (s.lie x.place x.within);
        others = λ a out. s.others a (λ j b. elim (cases_eq j i) [
          | inl z ↦ subst (λ k. Off a (row_parcels (row_at rows k))) (sym z) (subst (Off a) (sym none) tt)
          | inr ne ↦ elim (cases_lt j i) [
            | inl l ↦ subst (λ (r : SeatRow). Off a (row_parcels r)) (get_or-remove_below rows i no_row j l w) (out j (omega arith))
            | inr g ↦
                let e : (j - 1) + 1 ≡ j = omega arith in
                let c : i ≤ j - 1 = omega arith in
                subst (λ k. Off a (row_parcels (row_at rows k))) e (subst (λ (r : SeatRow). Off a (row_parcels r))
                (get_or-remove_above rows i no_row (j - 1) c w) (out (j - 1) (omega arith)))
          ]
        ]);
      }

-- ---- the post
abbrev pub left_chains : ℕ → Chains → Chains
left_chains i q = record q { entries = remove q.entries i }

-- the seat of a task with no messages goes
pub seat-left : (h : Heap) (q : Chains) (post : Post) (x i : ℕ) → ArePostChains h q post → i < length q.entries → (entry_at q.entries i).handle ≡ x
    → held_by x post.seats ≡ None → queue_to x post.queued ≡ [] → ArePostChains h (left_chains i q) (without_seat x post)
seat-left h q post x i s lt e none empty =
    let t = seated h q post i s lt in
    let names = named h q post s in
    let at_ : (seat_at post.seats i).handle ≡ x = sym t.handle ∙ e in
    let holds : (seat_at post.seats i).holds ≡ None = sym (held-at post.seats i x names t.seat at_) ∙ none in
    let queue-is = queue-stays x post.queued empty in
    let seats-are = seats-removed x post.seats i names t.seat at_ in
    let rows-are : rows_of (without_seat x post) ≡ remove (rows_of post) i =
    ap (λ l. map (seat_row l) (seats_but x post.seats)) queue-is ∙ ap (map (seat_row post.queued)) seats-are ∙ map-removed post.queued post.seats i in
    let parcels : row_parcels (row_at (rows_of post) i) ≡ [] =
    ap row_parcels t.row_is ∙ ap (λ y. queue_to y post.queued ++ held_list (seat_at post.seats i).holds) at_
    ∙ ap (λ l. l ++ held_list (seat_at post.seats i).holds) empty ∙ ap held_list holds in
    let counts = count-removed post.seats i t.seat in
    let zero_ : count_held (seat_at post.seats i).holds ≡ 0 = ap count_held holds in
    let total-is = ap (total (λ (y : Seat). count_held y.holds)) seats-are in
    let queue-len = ap length queue-is in
    let live = s.live in
    let few = s.few in
    record {
      rows = subst (RowsLie h (remove q.entries i)) (sym rows-are) (rows-removed q.entries (rows_of post) i lt t.row h s.rows);
      linked = subst (IsLinked h post.heap) (sym rows-are) (linked-removed q.entries (rows_of post) i lt t.row h post.heap parcels s.linked);
      live = omega arith;
      recipients = subst (AllLive (seats_but x post.seats)) (sym queue-is) (live-stays x post.seats post.queued empty s.recipients);
      few = omega arith;
      next_ref = s.next_ref;
    }
