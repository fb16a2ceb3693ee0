-- A post and the same post in order of seats.
use Rattle.rh_wimp.proofs.Common.{◌≡◌, ℕ, zero, suc, ◌<◌, ◌≢◌, inl, inr, Bool, true, false, cond, List, [], ◌∷◌, ◌++◌, length, map, refl, sym, ap, subst, ◌∙◌}
use Rattle.rh_wimp.proofs.Common.{arith, eqb_tells, length-map, length-append, filter-append, Option, Some, None, filter, ◌==◌, option_map, Heap, Parcel}
use Rattle.rh_wimp.proofs.Common.{padded, parcel_bytes, total, Seat, Post, has_seat, count_held, live_count, cond_true, cond_false, eqb_same, eqb_apart}
use Rattle.rh_wimp.proofs.Common.{Chains, SeatRow, Lies, Holds, RowLies, RowsLie, IsLinked, ArePostChains, AllLie, AllLive, Off, Apart, Clear, held_list}
use Rattle.rh_wimp.proofs.Common.{seat_row}
use Rattle.rh_wimp.proofs.Common.{row_parcels, row_at, rows_of, entry_at, no_row, by_seats, in_order, Entry}
use Rattle.std.proofs.Math.ListN.{get_or-map}
use Rattle.rh_wimp.specs.PostIn.{seat_of, chains_of, for_task, own_seat}
use Rattle.rh_wimp.proofs.LinkLaws.{AllLie-append, AllLie-parts}
use Rattle.rh_wimp.proofs.PostLaws.{Named, eq_of, live-yes, seat_at}
use Rattle.rh_wimp.proofs.RowLaws.{Off-append, Off-parts, Clear-append, Clear-parts, Apart-append, Apart-parts}
use Rattle.rh_wimp.proofs.SendLaws.{named}

-- ---- messages for one task, and for another
abbrev pub sent_to : ℕ → List Parcel → List Parcel
sent_to h queue = filter (λ (p : Parcel). p.to == h) queue

pub sent_to-same : (h : ℕ) (queue : List Parcel) → sent_to h (sent_to h queue) ≡ sent_to h queue
sent_to-same h [] = refl
sent_to-same h (p ∷ queue) = go (p.to == h) refl (sent_to-same h queue)
  where
    go : (t : Bool) → (p.to == h) ≡ t → sent_to h (sent_to h queue) ≡ sent_to h queue
        → sent_to h (cond t (p ∷ sent_to h queue) (sent_to h queue)) ≡ cond t (p ∷ sent_to h queue) (sent_to h queue)
    go true e r = cond_true (p.to == h) _ _ e ∙ ap (λ l. p ∷ l) r
    go false e r = r

pub sent_to-other : (h x : ℕ) (queue : List Parcel) → h ≢ x → sent_to h (sent_to x queue) ≡ []
sent_to-other h x [] ne = refl
sent_to-other h x (p ∷ queue) ne = go (p.to == x) refl (sent_to-other h x queue ne)
  where
    go : (t : Bool) → (p.to == x) ≡ t → sent_to h (sent_to x queue) ≡ [] → sent_to h (cond t (p ∷ sent_to x queue) (sent_to x queue)) ≡ []
    go true e r = cond_false (p.to == h) _ _ (eqb_apart p.to h (λ z. ne (sym z ∙ eq_of p.to x e))) ∙ r
    go false e r = r

-- ---- the queue in order of seats
named-rest : (s : Seat) (seats : List Seat) → Named (s ∷ seats) → Named seats
named-rest s seats n i j bi bj ne = n (suc i) (suc j) (omega arith) (omega arith) (omega arith)

named-first : (s : Seat) (seats : List Seat) → Named (s ∷ seats) → (j : ℕ) → j < length seats → (seat_at seats j).handle ≢ s.handle
named-first s seats n j b = n (suc j) 0 (omega arith) (omega arith) (omega arith)

none-sent : (h : ℕ) (seats : List Seat) (queue : List Parcel) → ((j : ℕ) → j < length seats → (seat_at seats j).handle ≢ h)
    → sent_to h (by_seats seats queue) ≡ []
none-sent h [] queue n = refl
none-sent h (s ∷ seats) queue n =
    filter-append (λ (p : Parcel). p.to == h) (sent_to s.handle queue) (by_seats seats queue)
    ∙ ap (λ l. l ++ sent_to h (by_seats seats queue)) (sent_to-other h s.handle queue (λ z. n 0 (omega arith) (sym z)))
    ∙ none-sent h seats queue (λ j b. n (suc j) (omega arith))

-- each live task has the same messages in the same order
pub by_seats-sent : (seats : List Seat) (queue : List Parcel) (i : ℕ) → Named seats → i < length seats
    → sent_to (seat_at seats i).handle (by_seats seats queue) ≡ sent_to (seat_at seats i).handle queue
by_seats-sent [] queue i n b = absurd (omega arith)
by_seats-sent (s ∷ seats) queue zero n b =
    filter-append (λ (p : Parcel). p.to == s.handle) (sent_to s.handle queue) (by_seats seats queue)
    ∙ ap (λ l. l ++ sent_to s.handle (by_seats seats queue)) (sent_to-same s.handle queue)
    ∙ ap (λ l. sent_to s.handle queue ++ l) (none-sent s.handle seats queue (named-first s seats n))
    ∙ go (sent_to s.handle queue)
  where
    go : (l : List Parcel) → l ++ [] ≡ l
    go [] = refl
    go (p ∷ l) = ap (λ r. p ∷ r) (go l)
by_seats-sent (s ∷ seats) queue (suc i) n b =
    let h : ℕ = (seat_at seats i).handle in
    filter-append (λ (p : Parcel). p.to == h) (sent_to s.handle queue) (by_seats seats queue)
    ∙ ap (λ l. l ++ sent_to h (by_seats seats queue)) (sent_to-other h s.handle queue (named-first s seats n i (omega arith)))
    ∙ by_seats-sent seats queue i (named-rest s seats n) (omega arith)

-- ---- as many messages
not-more : (p : Parcel) (seats : List Seat) (queue : List Parcel) → ((j : ℕ) → j < length seats → (seat_at seats j).handle ≢ p.to)
    → by_seats seats (p ∷ queue) ≡ by_seats seats queue
not-more p [] queue n = refl
not-more p (s ∷ seats) queue n =
    ap (λ l. l ++ by_seats seats (p ∷ queue)) (cond_false (p.to == s.handle) _ _ (eqb_apart p.to s.handle (λ z. n 0 (omega arith) (sym z))))
    ∙ ap (λ l. sent_to s.handle queue ++ l) (not-more p seats queue (λ j b. n (suc j) (omega arith)))

one-more : (p : Parcel) (seats : List Seat) (queue : List Parcel) → Named seats → has_seat p.to seats ≡ true
    → length (by_seats seats (p ∷ queue)) ≡ suc (length (by_seats seats queue))
one-more p [] queue n t = absurd cc
one-more p (s ∷ seats) queue n t = elim (eqb_tells s.handle p.to) [
  | inl u ↦
      ap (λ l. length (l ++ by_seats seats (p ∷ queue))) (cond_true (p.to == s.handle) _ _ (eqb_same p.to s.handle (sym u.1)))
      ∙ ap (λ l. suc (length (sent_to s.handle queue ++ l))) (not-more p seats queue (λ j b z. named-first s seats n j b (z ∙ sym u.1)))
  | inr v ↦
      let r = one-more p seats queue (named-rest s seats n) (sym (cond_false (s.handle == p.to) _ _ v.0) ∙ t) in
      ap (λ l. length (l ++ by_seats seats (p ∷ queue))) (cond_false (p.to == s.handle) _ _ (eqb_apart p.to s.handle (λ z. v.1 (sym z))))
      ∙ length-append (sent_to s.handle queue) (by_seats seats (p ∷ queue)) ∙ omega (arith, r, length-append (sent_to s.handle queue) (by_seats seats queue))
]

pub by_seats-length : (seats : List Seat) (queue : List Parcel) → Named seats → AllLive seats queue → length (by_seats seats queue) ≡ length queue
by_seats-length seats [] n a = none seats
  where
    none : (ss : List Seat) → length (by_seats ss []) ≡ 0
    none [] = refl
    none (s ∷ ss) = none ss
by_seats-length seats (p ∷ queue) n a = one-more p seats queue n a.0 ∙ ap suc (by_seats-length seats queue n a.1)

-- ---- all are for live tasks
live-both : (seats : List Seat) (ps qs : List Parcel) → AllLive seats ps → AllLive seats qs → AllLive seats (ps ++ qs)
live-both seats [] qs a b = b
live-both seats (p ∷ ps) qs a b = (a.0, live-both seats ps qs a.1 b)

live-sent : (h : ℕ) (seats : List Seat) (queue : List Parcel) → has_seat h seats ≡ true → AllLive seats (sent_to h queue)
live-sent h seats [] t = tt
live-sent h seats (p ∷ queue) t = go (p.to == h) refl (live-sent h seats queue t)
  where
    go : (b : Bool) → (p.to == h) ≡ b → AllLive seats (sent_to h queue) → AllLive seats (cond b (p ∷ sent_to h queue) (sent_to h queue))
    go true e r = (ap (λ x. has_seat x seats) (eq_of p.to h e) ∙ t, r)
    go false e r = r

pub by_seats-live : (all seats : List Seat) (queue : List Parcel) → ((i : ℕ) → i < length seats → has_seat (seat_at seats i).handle all ≡ true)
    → AllLive all (by_seats seats queue)
by_seats-live all [] queue f = tt
by_seats-live all (s ∷ seats) queue f =
    live-both all (sent_to s.handle queue) (by_seats seats queue) (live-sent s.handle all queue (f 0 (omega arith)))
    (by_seats-live all seats queue (λ i b. f (suc i) (omega arith)))

-- ---- each handle has the same messages, live or not
none-dead : (h : ℕ) (seats : List Seat) (queue : List Parcel) → AllLive seats queue → has_seat h seats ≡ false → sent_to h queue ≡ []
none-dead h seats [] a f = refl
none-dead h seats (p ∷ queue) a f = go (p.to == h) refl (none-dead h seats queue a.1 f)
  where
    go : (t : Bool) → (p.to == h) ≡ t → sent_to h queue ≡ [] → cond t (p ∷ sent_to h queue) (sent_to h queue) ≡ []
    go true e r = let bad : true ≡ false = sym a.0 ∙ ap (λ x. has_seat x seats) (eq_of p.to h e) ∙ f in absurd cc
    go false e r = r

seat-place : (h : ℕ) (seats : List Seat) → has_seat h seats ≡ true → (i : ℕ) × ((i < length seats) × ((seat_at seats i).handle ≡ h))
seat-place h [] t = absurd cc
seat-place h (s ∷ seats) t = elim (eqb_tells s.handle h) [
  | inl u ↦ (0, (omega arith, u.1))
  | inr v ↦ let r = seat-place h seats (sym (cond_false (s.handle == h) _ _ v.0) ∙ t) in (suc r.0, (let l = r.1.0 in omega arith, r.1.1))
]

pub by_seats-each : (seats : List Seat) (queue : List Parcel) (h : ℕ) → Named seats → AllLive seats queue → sent_to h (by_seats seats queue) ≡ sent_to h queue
by_seats-each seats queue h n a = go (has_seat h seats) refl
  where
    go : (t : Bool) → has_seat h seats ≡ t → sent_to h (by_seats seats queue) ≡ sent_to h queue
    go true e = let r = seat-place h seats e in subst (λ x. sent_to x (by_seats seats queue) ≡ sent_to x queue) r.1.1 (by_seats-sent seats queue r.0 n r.1.0)
    go false e =
        none-dead h seats (by_seats seats queue) (by_seats-live seats seats queue (λ i b. live-yes seats i (seat_at seats i).handle b refl)) e
        ∙ sym (none-dead h seats queue a e)

-- ---- seats whose messages are for them
pub own-live : (h : ℕ) (seats : List Seat) → has_seat h (map own_seat seats) ≡ has_seat h seats
own-live h [] = refl
own-live h (s ∷ seats) = ap (cond (s.handle == h) true) (own-live h seats)

own-count : (to : ℕ) (o : Option Parcel) → count_held (option_map (for_task to) o) ≡ count_held o
own-count to None = refl
own-count to (Some p) = refl

pub own-total : (seats : List Seat) → total (λ (s : Seat). count_held s.holds) (map own_seat seats) ≡ total (λ (s : Seat). count_held s.holds) seats
own-total [] = refl
own-total (s ∷ seats) = omega (arith, own-count s.handle s.holds, own-total seats)

-- ---- rows whose held messages are for them
abbrev pub own_row : SeatRow → SeatRow
own_row r = record r { held = option_map (for_task r.handle) r.held }

pub own_row-at : (rows : List SeatRow) (i : ℕ) → row_at (map own_row rows) i ≡ own_row (row_at rows i)
own_row-at rows i = get_or-map own_row rows i no_row

module _ (to : ℕ) where
  own-off : (a : ℕ) (ps : List Parcel) (o : Option Parcel) → Off a (ps ++ held_list o) → Off a (ps ++ held_list (option_map (for_task to) o))
  own-off a ps None t = t
  own-off a ps (Some p) t = let r = Off-parts a ps (p ∷ []) t in Off-append a ps (for_task to p ∷ []) r.0 r.1

  off-own : (a : ℕ) (ps : List Parcel) (o : Option Parcel) → Off a (ps ++ held_list (option_map (for_task to) o)) → Off a (ps ++ held_list o)
  off-own a ps None t = t
  off-own a ps (Some p) t = let r = Off-parts a ps (for_task to p ∷ []) t in Off-append a ps (p ∷ []) r.0 r.1

  own-clear_behind : (ps qs : List Parcel) (o : Option Parcel) → Clear ps (qs ++ held_list o) → Clear ps (qs ++ held_list (option_map (for_task to) o))
  own-clear_behind [] qs o c = tt
  own-clear_behind (p ∷ ps) qs o c = (own-off p.block qs o c.0, own-clear_behind ps qs o c.1)

  own-clear : (ps : List Parcel) (o : Option Parcel) (qs : List Parcel) → Clear (ps ++ held_list o) qs → Clear (ps ++ held_list (option_map (for_task to) o)) qs
  own-clear ps None qs c = c
  own-clear ps (Some p) qs c = let r = Clear-parts ps (p ∷ []) qs c in Clear-append ps (for_task to p ∷ []) qs r.0 r.1

  own-apart : (ps : List Parcel) (o : Option Parcel) → Apart (ps ++ held_list o) → Apart (ps ++ held_list (option_map (for_task to) o))
  own-apart ps None a = a
  own-apart ps (Some p) a = let r = Apart-parts ps (p ∷ []) a in Apart-append ps (for_task to p ∷ []) r.0 r.1.0 (own-clear_behind ps [] (Some p) r.1.1)

  pub own-lies : (h : Heap) (link : ℕ) (p : Parcel) → Lies h link p → Lies h link (for_task to p)
  unfolding padded parcel_bytes
  own-lies h link p l = record { block = l.block; fits = l.fits }

  own-holds : (h : Heap) (block : ℕ) (o : Option Parcel) → Holds h block o → Holds h block (option_map (for_task to) o)
  own-holds h block None c = c
  own-holds h block (Some p) c = (c.0, own-lies h 0 p c.1)

  own-plain : (d : Heap) (ps : List Parcel) (o : Option Parcel) → AllLie d (ps ++ held_list o) → AllLie d (ps ++ held_list (option_map (for_task to) o))
  unfolding padded parcel_bytes
  own-plain d ps None a = a
  own-plain d ps (Some p) a = let r = AllLie-parts d ps (p ∷ []) a in AllLie-append d ps (for_task to p ∷ []) r.0 r.1

module _ (h d : Heap) (es : List Entry) (rows : List SeatRow) where
  abbrev at_row : (P : SeatRow → Type 0) (i : ℕ) → P (own_row (row_at rows i)) → P (row_at (map own_row rows) i)
  at_row P i = subst P (sym (own_row-at rows i))

  pub own-rows : RowsLie h es rows → RowsLie h es (map own_row rows)
  own-rows s =
      let n = length-map rows own_row in
      record {
        len = s.len ∙ sym n;
        each = λ i b. at_row (RowLies h (entry_at es i)) i (let l = s.each i (omega arith) in let r = row_at rows i in
            record { handle = l.handle; first = l.first; last = l.last; chain = l.chain; held = own-holds r.handle h (entry_at es i).held r.held l.held });
        own = λ i b. at_row (λ r. Apart (row_parcels r)) i (let r = row_at rows i in own-apart r.handle r.chain r.held (s.own i (omega arith)));
        cross = λ i j bi bj ne. at_row (λ r. Clear (row_parcels r) (row_parcels (row_at (map own_row rows) j))) i
            (at_row (λ r. Clear (row_parcels (own_row (row_at rows i))) (row_parcels r)) j
            (let r = row_at rows i in let t = row_at rows j in own-clear r.handle r.chain r.held (row_parcels (own_row t))
            (own-clear_behind t.handle (row_parcels r) t.chain t.held (s.cross i j (omega arith) (omega arith) ne))));
        handles = λ i j bi bj ne z. s.handles i j (omega arith) (omega arith) ne
            (sym (ap (λ (r : SeatRow). r.handle) (own_row-at rows i)) ∙ z ∙ ap (λ (r : SeatRow). r.handle) (own_row-at rows j));
      }

  pub own-linked : IsLinked h d rows → IsLinked h d (map own_row rows)
  own-linked s =
      let n = length-map rows own_row in
      record {
        shape = s.shape;
        lie = λ i b. at_row (λ r. AllLie d (row_parcels r)) i (let r = row_at rows i in own-plain r.handle d r.chain r.held (s.lie i (omega arith)));
        others = λ a out. s.others a (λ i b. let r = row_at rows i in off-own r.handle a r.chain r.held
            (subst (λ x. Off a (row_parcels x)) (own_row-at rows i) (out i (omega arith))));
      }

-- ---- the rows of a post in order
pub seats-of-rows : (queue : List Parcel) (seats : List Seat) → map seat_of (map own_row (map (seat_row queue) seats)) ≡ map own_seat seats
seats-of-rows queue [] = refl
seats-of-rows queue (s ∷ seats) = ap (λ l. own_seat s ∷ l) (seats-of-rows queue seats)

pub chains-of-rows : (queue : List Parcel) (seats : List Seat) → chains_of (map own_row (map (seat_row queue) seats)) ≡ by_seats seats queue
chains-of-rows queue [] = refl
chains-of-rows queue (s ∷ seats) = ap (λ l. sent_to s.handle queue ++ l) (chains-of-rows queue seats)

rows-alike : (q r : List Parcel) (seats : List Seat) → ((i : ℕ) → i < length seats → sent_to (seat_at seats i).handle q ≡ sent_to (seat_at seats i).handle r)
    → map (seat_row q) (map own_seat seats) ≡ map own_row (map (seat_row r) seats)
rows-alike q r [] f = refl
rows-alike q r (s ∷ seats) f =
    ap (λ (l : List Parcel). let x : SeatRow = record { handle = s.handle; chain = l; held = option_map (for_task s.handle) s.holds } in
    x ∷ map (seat_row q) (map own_seat seats)) (f 0 (omega arith))
    ∙ ap (λ l. own_row (seat_row r s) ∷ l) (rows-alike q r seats (λ i b. f (suc i) (omega arith)))

pub rows-in_order : (post : Post) → Named post.seats → rows_of (in_order post) ≡ map own_row (rows_of post)
rows-in_order post n = rows-alike (by_seats post.seats post.queued) post.queued post.seats (λ i b. by_seats-sent post.seats post.queued i n b)

-- a queue that spells a post spells it in order
pub in_order-spells : (h : Heap) (q : Chains) (post : Post) → ArePostChains h q post → ArePostChains h q (in_order post)
in_order-spells h q post s =
    let n = named h q post s in
    let e = rows-in_order post n in
    let count : live_count (in_order post) ≡ live_count post = omega (arith, by_seats-length post.seats post.queued n s.recipients, own-total post.seats) in
    let few = s.few in
    record {
      rows = subst (RowsLie h q.entries) (sym e) (own-rows h post.heap q.entries (rows_of post) s.rows);
      linked = subst (IsLinked h post.heap) (sym e) (own-linked h post.heap q.entries (rows_of post) s.linked);
      live = s.live ∙ sym count;
      recipients = by_seats-live (map own_seat post.seats) post.seats post.queued
          (λ i b. own-live (seat_at post.seats i).handle post.seats ∙ live-yes post.seats i (seat_at post.seats i).handle b refl);
      few = omega arith;
      next_ref = s.next_ref;
    }

-- ---- what is held is for the handle that holds it
-- the seat's message is for its handle, where it holds one
abbrev pub HoldsOwn : Seat → Type 0
HoldsOwn s = (p : Parcel) → s.holds ≡ Some p → p.to ≡ s.handle

own-same : (s : Seat) → HoldsOwn s → own_seat s ≡ s
own-same s f = ap (λ (o : Option Parcel). let t : Seat = record { handle = s.handle; holds = o } in t) (go s.holds f)
  where
    go : (o : Option Parcel) → ((p : Parcel) → o ≡ Some p → p.to ≡ s.handle) → option_map (for_task s.handle) o ≡ o
    go None g = refl
    go (Some p) g = ap (λ (x : ℕ). Some (for_task x p)) (sym (g p refl))

pub own-seats : (seats : List Seat) → ((i : ℕ) → i < length seats → HoldsOwn (seat_at seats i)) → map own_seat seats ≡ seats
own-seats [] f = refl
own-seats (s ∷ seats) f = ap (λ t. t ∷ map own_seat seats) (own-same s (f 0 (omega arith))) ∙ ap (λ l. s ∷ l) (own-seats seats (λ i b. f (suc i) (omega arith)))
