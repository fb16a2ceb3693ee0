-- A post's rows, after each edit of the post.
use Rattle.rh_wimp.proofs.Common.{◌≡◌, ℕ, zero, suc, ◌+◌, ◌<◌, ◌≤◌, ◌≢◌, inl, inr, true, false, cond, eqb, ltb, List, [], ◌∷◌, ◌++◌, length, map, get_or, set}
use Rattle.rh_wimp.proofs.Common.{refl, sym, ap, ◌∙◌, arith, Option, Some, None, filter, ◌==◌, position, eqb_tells, append-nil, filter-append, cases_lt}
use Rattle.rh_wimp.proofs.Common.{total, cond_true, cond_false, eqb_same, eqb_apart, Parcel, Seat, has_seat, held_by, with_held, count_held, SeatRow, seat_row}
use Rattle.rh_wimp.proofs.Common.{row_at, entry_at, no_entry, Entry}
use Rattle.std.specs.List.{position_or_len}
use Rattle.std.proofs.lemmas.Bool.Decides.{nat_tests}
use Rattle.std.proofs.lemmas.List.Sums.{fails_before_first}
use Rattle.std.proofs.lemmas.List.Quantifiers.{position-Some}
use Rattle.rh_wimp.proofs.RowEdits.{with_last}

-- ---- places of entries
pub eq_of : (x y : ℕ) → eqb x y ≡ true → x ≡ y
eq_of x y e = elim (eqb_tells x y) [ inl u ↦ u.1 | inr v ↦ absurd (let z = v.0 in cc) ]

pub found-at : (es : List Entry) (x i : ℕ) → position (λ (e : Entry). e.handle == x) es ≡ Some i → (i < length es) × ((entry_at es i).handle ≡ x)
found-at es x i h = let r = position-Some (λ (e : Entry). e.handle == x) es i no_entry h in (r.0, eq_of (entry_at es i).handle x r.1)

none-found : (m n : ℕ) → cond (ltb m n) (Some m) None ≡ None → n ≤ m
none-found m n h = elim (cases_lt m n) [
  | inl l ↦ let bad : Some m ≡ None = sym (cond_true (ltb m n) _ _ (grind (arith, nat_tests))) ∙ h in absurd cc
  | inr g ↦ g
]

pub not-found : (es : List Entry) (x : ℕ) → position (λ (e : Entry). e.handle == x) es ≡ None → (j : ℕ) → j < length es → (entry_at es j).handle ≢ x
not-found es x h j b =
    let n = none-found (position_or_len (λ (e : Entry). e.handle == x) es) (length es) h in
    let f : eqb (entry_at es j).handle x ≡ false = fails_before_first (λ (e : Entry). e.handle == x) es j no_entry (omega arith) in
    λ z. let t = eqb_same (entry_at es j).handle x z in absurd (let bad : true ≡ false = sym t ∙ f in cc)

-- ---- seats
abbrev pub no_seat : Seat
no_seat = record { handle = 0; holds = None }

abbrev pub seat_at : List Seat → ℕ → Seat
seat_at seats i = get_or seats i no_seat

-- no two seats have one handle
abbrev pub Named : List Seat → Type 0
Named seats = (i j : ℕ) → i < length seats → j < length seats → i ≢ j → (seat_at seats i).handle ≢ (seat_at seats j).handle

named-rest : (s : Seat) (seats : List Seat) → Named (s ∷ seats) → Named seats
named-rest s seats n i j bi bj ne = n (suc i) (suc j) (omega arith) (omega arith) (omega arith)

named-head : (s : Seat) (seats : List Seat) → Named (s ∷ seats) → (j : ℕ) → j < length seats → s.handle ≢ (seat_at seats j).handle
named-head s seats n j b = n 0 (suc j) (omega arith) (omega arith) (omega arith)

pub row-at : (queued : List Parcel) (seats : List Seat) (i : ℕ) → i < length seats → row_at (map (seat_row queued) seats) i ≡ seat_row queued (seat_at seats i)
row-at queued [] i b = absurd (omega arith)
row-at queued (s ∷ seats) zero b = refl
row-at queued (s ∷ seats) (suc i) b = row-at queued seats i (omega arith)

pub live-yes : (seats : List Seat) (i x : ℕ) → i < length seats → (seat_at seats i).handle ≡ x → has_seat x seats ≡ true
live-yes [] i x b e = absurd (omega arith)
live-yes (s ∷ seats) zero x b e = cond_true (eqb s.handle x) _ _ (eqb_same s.handle x e)
live-yes (s ∷ seats) (suc i) x b e =
    elim (eqb s.handle x) as (λ t. cond t true (has_seat x seats) ≡ true) [ true ↦ refl | false ↦ live-yes seats i x (omega arith) e ]

pub live-no : (seats : List Seat) (x : ℕ) → ((j : ℕ) → j < length seats → (seat_at seats j).handle ≢ x) → has_seat x seats ≡ false
live-no [] x n = refl
live-no (s ∷ seats) x n = cond_false (eqb s.handle x) _ _ (eqb_apart s.handle x (n 0 (omega arith))) ∙ live-no seats x (λ j b. n (suc j) (omega arith))

pub held-at : (seats : List Seat) (i x : ℕ) → Named seats → i < length seats → (seat_at seats i).handle ≡ x → held_by x seats ≡ (seat_at seats i).holds
held-at [] i x n b e = absurd (omega arith)
held-at (s ∷ seats) zero x n b e = cond_true (eqb s.handle x) _ _ (eqb_same s.handle x e)
held-at (s ∷ seats) (suc i) x n b e =
    cond_false (eqb s.handle x) _ _ (eqb_apart s.handle x (λ z. named-head s seats n i (omega arith) (z ∙ sym e)))
    ∙ held-at seats i x (named-rest s seats n) (omega arith) e

abbrev pub seat_with : Option Parcel → Seat → Seat
seat_with o s = record s { holds = o }

pub with_held-at : (o : Option Parcel) (seats : List Seat) (i x : ℕ) → Named seats → i < length seats → (seat_at seats i).handle ≡ x
    → with_held x o seats ≡ set seats i (seat_with o (seat_at seats i))
with_held-at o [] i x n b e = absurd (omega arith)
with_held-at o (s ∷ seats) zero x n b e = cond_true (eqb s.handle x) _ _ (eqb_same s.handle x e)
with_held-at o (s ∷ seats) (suc i) x n b e =
    cond_false (eqb s.handle x) _ _ (eqb_apart s.handle x (λ z. named-head s seats n i (omega arith) (z ∙ sym e)))
    ∙ ap (λ l. s ∷ l) (with_held-at o seats i x (named-rest s seats n) (omega arith) e)

-- ---- one message more in the queue
one-more : (queued : List Parcel) (q : Parcel) (s : Seat) → s.handle ≡ q.to → seat_row (queued ++ q ∷ []) s ≡ with_last q (seat_row queued s)
one-more queued q s e =
    let f : filter (λ (p : Parcel). p.to == s.handle) (queued ++ q ∷ []) ≡ filter (λ (p : Parcel). p.to == s.handle) queued ++ q ∷ [] =
    filter-append (λ (p : Parcel). p.to == s.handle) queued (q ∷ [])
    ∙ ap (λ l. filter (λ (p : Parcel). p.to == s.handle) queued ++ l) (cond_true (eqb q.to s.handle) _ _ (eqb_same q.to s.handle (sym e))) in
    ap (λ (l : List Parcel). let r : SeatRow = record { handle = s.handle; chain = l; held = s.holds } in r) f

none-more : (queued : List Parcel) (q : Parcel) (s : Seat) → s.handle ≢ q.to → seat_row (queued ++ q ∷ []) s ≡ seat_row queued s
none-more queued q s ne =
    let f : filter (λ (p : Parcel). p.to == s.handle) (queued ++ q ∷ []) ≡ filter (λ (p : Parcel). p.to == s.handle) queued =
    filter-append (λ (p : Parcel). p.to == s.handle) queued (q ∷ [])
    ∙ ap (λ l. filter (λ (p : Parcel). p.to == s.handle) queued ++ l) (cond_false (eqb q.to s.handle) _ _ (eqb_apart q.to s.handle (λ z. ne (sym z))))
    ∙ append-nil (filter (λ (p : Parcel). p.to == s.handle) queued) in
    ap (λ (l : List Parcel). let r : SeatRow = record { handle = s.handle; chain = l; held = s.holds } in r) f

nowhere-more : (queued : List Parcel) (q : Parcel) (seats : List Seat) → ((j : ℕ) → j < length seats → (seat_at seats j).handle ≢ q.to)
    → map (seat_row (queued ++ q ∷ [])) seats ≡ map (seat_row queued) seats
nowhere-more queued q [] n = refl
nowhere-more queued q (s ∷ seats) n =
    ap (λ r. r ∷ map (seat_row (queued ++ q ∷ [])) seats) (none-more queued q s (n 0 (omega arith)))
    ∙ ap (λ l. seat_row queued s ∷ l) (nowhere-more queued q seats (λ j b. n (suc j) (omega arith)))

pub rows-queued : (queued : List Parcel) (q : Parcel) (seats : List Seat) (i : ℕ) → Named seats → i < length seats → (seat_at seats i).handle ≡ q.to
    → map (seat_row (queued ++ q ∷ [])) seats ≡ set (map (seat_row queued) seats) i (with_last q (seat_row queued (seat_at seats i)))
rows-queued queued q [] i n b e = absurd (omega arith)
rows-queued queued q (s ∷ seats) zero n b e =
    ap (λ r. r ∷ map (seat_row (queued ++ q ∷ [])) seats) (one-more queued q s e)
    ∙ ap (λ l. with_last q (seat_row queued s) ∷ l) (nowhere-more queued q seats (λ j c z. named-head s seats n j c (e ∙ sym z)))
rows-queued queued q (s ∷ seats) (suc i) n b e =
    ap (λ r. r ∷ map (seat_row (queued ++ q ∷ [])) seats) (none-more queued q s (λ z. named-head s seats n i (omega arith) (z ∙ sym e)))
    ∙ ap (λ l. seat_row queued s ∷ l) (rows-queued queued q seats i (named-rest s seats n) (omega arith) e)

-- ---- a seat that holds another message, or none
pub rows-seat : (queued : List Parcel) (seats : List Seat) (i : ℕ) (s : Seat)
    → map (seat_row queued) (set seats i s) ≡ set (map (seat_row queued) seats) i (seat_row queued s)
rows-seat queued [] i s = refl
rows-seat queued (t ∷ seats) zero s = refl
rows-seat queued (t ∷ seats) (suc i) s = ap (λ l. seat_row queued t ∷ l) (rows-seat queued seats i s)

pub count-seat : (seats : List Seat) (i : ℕ) (s : Seat) → i < length seats
    → total (λ (t : Seat). count_held t.holds) (set seats i s) + count_held (seat_at seats i).holds ≡ total (λ (t : Seat). count_held t.holds) seats
    + count_held s.holds
count-seat [] i s b = absurd (omega arith)
count-seat (t ∷ seats) zero s b = omega arith
count-seat (t ∷ seats) (suc i) s b = omega (arith, count-seat seats i s (let z : i < length seats = omega arith in z))
