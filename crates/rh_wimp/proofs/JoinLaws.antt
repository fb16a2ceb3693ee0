-- A post with a handle more.
use Rattle.rh_wimp.proofs.Common.{◌≡◌, ℕ, ◌<◌, ◌≢◌, inl, inr, true, false, Bool, cond, eqb, List, [], ◌∷◌, ◌++◌, length, map, refl, sym, ap, subst, ◌∙◌}
use Rattle.rh_wimp.proofs.Common.{arith, cases_lt, eqb_tells, length-append, None, filter, ◌==◌, Heap, cond_true, cond_false, Parcel, Seat, Post, has_seat}
use Rattle.rh_wimp.proofs.Common.{count_held, post_join, Chains, SeatRow, RowLies, RowsLie, IsLinked, ArePostChains, AllLie, AllLive, Apart, Clear, Off}
use Rattle.rh_wimp.proofs.Common.{HasEntry}
use Rattle.rh_wimp.proofs.Common.{no_row, no_entry, entry_at, row_at, seat_row, rows_of, row_parcels, Entry}
use Rattle.std.proofs.lemmas.List.{map-append, get_or_append_left, get_or_at}
use Rattle.rh_defs.proofs.HeapLists.{sum-append}
use Rattle.rh_wimp.specs.Chains.{joined_chains}
use Rattle.rh_wimp.proofs.PostLaws.{live-no}
use Rattle.rh_wimp.proofs.RowLaws.{Clear-none}
use Rattle.rh_wimp.proofs.SendLaws.{seated, as_many}

abbrev new_row : ℕ → SeatRow
new_row x = record { handle = x; chain = []; held = None }

abbrev new_entry : ℕ → Entry
new_entry x = record { handle = x; first = 0; last = 0; held = 0 }

abbrev new_seat : ℕ → Seat
new_seat x = record { handle = x; holds = None }

-- nothing is queued for a handle that isn't live
none-for : (seats : List Seat) (x : ℕ) (ps : List Parcel) → AllLive seats ps → has_seat x seats ≡ false → filter (λ (p : Parcel). p.to == x) ps ≡ []
none-for seats x [] a n = refl
none-for seats x (p ∷ ps) a n = elim (eqb_tells p.to x) [
  | inl u ↦ let bad : true ≡ false = sym a.0 ∙ ap (λ y. has_seat y seats) u.1 ∙ n in absurd cc
  | inr v ↦ cond_false (eqb p.to x) _ _ v.0 ∙ none-for seats x ps a.1 n
]

live-more : (y x : ℕ) (seats : List Seat) → has_seat y seats ≡ true → has_seat y (seats ++ new_seat x ∷ []) ≡ true
live-more y x [] e = absurd cc
live-more y x (s ∷ seats) e = go (eqb s.handle y) refl e (λ f. live-more y x seats f)
  where
    go : (t : Bool) → eqb s.handle y ≡ t → cond (eqb s.handle y) true (has_seat y seats) ≡ true
        → (has_seat y seats ≡ true → has_seat y (seats ++ new_seat x ∷ []) ≡ true)
        → cond (eqb s.handle y) true (has_seat y (seats ++ new_seat x ∷ [])) ≡ true
    go true et f g = cond_true (eqb s.handle y) _ _ et
    go false et f g = cond_false (eqb s.handle y) _ _ et ∙ g (sym (cond_false (eqb s.handle y) _ _ et) ∙ f)

all-live-more : (x : ℕ) (seats : List Seat) (ps : List Parcel) → AllLive seats ps → AllLive (seats ++ new_seat x ∷ []) ps
all-live-more x seats [] a = tt
all-live-more x seats (p ∷ ps) a = (live-more p.to x seats a.0, all-live-more x seats ps a.1)

module _ (x : ℕ) (rows : List SeatRow) where
  row-old : (i : ℕ) → i < length rows → row_at (rows ++ new_row x ∷ []) i ≡ row_at rows i
  row-old i l = get_or_append_left rows (new_row x ∷ []) no_row i l

  row-new : (i : ℕ) → i ≡ length rows → row_at (rows ++ new_row x ∷ []) i ≡ new_row x
  row-new i e = get_or_at rows (new_row x) [] no_row i (sym e)

module _ (h : Heap) (es : List Entry) (rows : List SeatRow) (x : ℕ) where
  rows-joined : RowsLie h es rows → ((i : ℕ) → i < length rows → (row_at rows i).handle ≢ x) → RowsLie h (es ++ new_entry x ∷ []) (rows ++ new_row x ∷ [])
  rows-joined s apart =
      let n = length-append rows (new_row x ∷ []) in
      let m = length-append es (new_entry x ∷ []) in
      let len = s.len in
      record {
        len = omega arith;
        each = λ i b. elim (cases_lt i (length rows)) [
          | inl l ↦ subst (λ r. RowLies h (entry_at (es ++ new_entry x ∷ []) i) r) (sym (row-old x rows i l))
              (subst (λ e. RowLies h e (row_at rows i)) (sym (get_or_append_left es (new_entry x ∷ []) no_entry i (omega arith))) (s.each i l))
          | inr g ↦ subst (λ r. RowLies h (entry_at (es ++ new_entry x ∷ []) i) r) (sym (row-new x rows i (omega arith)))
              (subst (λ e. RowLies h e (new_row x)) (sym (get_or_at es (new_entry x) [] no_entry i (omega arith)))
              (record { handle = refl; first = refl; last = refl; chain = tt; held = refl }))
        ];
        own = λ i b. elim (cases_lt i (length rows)) [
          | inl l ↦ subst (λ (r : SeatRow). Apart (row_parcels r)) (sym (row-old x rows i l)) (s.own i l)
          | inr g ↦ subst (λ (r : SeatRow). Apart (row_parcels r)) (sym (row-new x rows i (omega arith))) tt
        ];
        cross = λ i j bi bj ne. elim (cases_lt i (length rows)) [
          | inl li ↦ elim (cases_lt j (length rows)) [
            | inl lj ↦ subst (λ (r : SeatRow). Clear (row_parcels r) (row_parcels (row_at (rows ++ new_row x ∷ []) j))) (sym (row-old x rows i li))
                (subst (λ (r : SeatRow). Clear (row_parcels (row_at rows i)) (row_parcels r)) (sym (row-old x rows j lj)) (s.cross i j li lj ne))
            | inr gj ↦ subst (λ (r : SeatRow). Clear (row_parcels (row_at (rows ++ new_row x ∷ []) i)) (row_parcels r)) (sym (row-new x rows j (omega arith)))
                (Clear-none (row_parcels (row_at (rows ++ new_row x ∷ []) i)))
          ]
          | inr gi ↦ subst (λ (r : SeatRow). Clear (row_parcels r) (row_parcels (row_at (rows ++ new_row x ∷ []) j))) (sym (row-new x rows i (omega arith))) tt
        ];
        handles = λ i j bi bj ne. elim (cases_lt i (length rows)) [
          | inl li ↦ elim (cases_lt j (length rows)) [
            | inl lj ↦ λ z. s.handles i j li lj ne (sym (ap (λ (r : SeatRow). r.handle) (row-old x rows i li)) ∙ z
                ∙ ap (λ (r : SeatRow). r.handle) (row-old x rows j lj))
            | inr gj ↦ λ z. apart i li (sym (ap (λ (r : SeatRow). r.handle) (row-old x rows i li)) ∙ z
                ∙ ap (λ (r : SeatRow). r.handle) (row-new x rows j (omega arith)))
          ]
          | inr gi ↦ elim (cases_lt j (length rows)) [
            | inl lj ↦ λ z. apart j lj (sym (ap (λ (r : SeatRow). r.handle) (row-old x rows j lj)) ∙ sym z
                ∙ ap (λ (r : SeatRow). r.handle) (row-new x rows i (omega arith)))
            | inr gj ↦ absurd (ne (omega arith))
          ]
        ];
      }

linked-joined : (h d : Heap) (rows : List SeatRow) (x : ℕ) → IsLinked h d rows → IsLinked h d (rows ++ new_row x ∷ [])
linked-joined h d rows x s =
    let n = length-append rows (new_row x ∷ []) in
    record {
      shape = s.shape;
      lie = λ i b. elim (cases_lt i (length rows)) [
        | inl l ↦ subst (λ (r : SeatRow). AllLie d (row_parcels r)) (sym (row-old x rows i l)) (s.lie i l)
        | inr g ↦ subst (λ (r : SeatRow). AllLie d (row_parcels r)) (sym (row-new x rows i (omega arith))) tt
      ];
      others = λ a out. s.others a (λ i l. subst (λ (r : SeatRow). Off a (row_parcels r)) (row-old x rows i l) (out i (omega arith)));
    }

pub join-spells : (h : Heap) (q : Chains) (post : Post) (x : ℕ) → ArePostChains h q post → (HasEntry x q → ⊥) → ArePostChains h (joined_chains x q)
    (post_join x post)
unfolding post_join
join-spells h q post x s fresh =
    let m = as_many h q post s in
    let dead = live-no post.seats x (λ j b. let t = seated h q post j s (omega arith) in λ z. fresh (j, (omega arith, t.handle ∙ z))) in
    let last : seat_row post.queued (new_seat x) ≡ new_row x =
    ap (λ (l : List Parcel). let r : SeatRow = record { handle = x; chain = l; held = None } in r) (none-for post.seats x post.queued s.recipients dead) in
    let rows-are : map (seat_row post.queued) (post.seats ++ new_seat x ∷ []) ≡ rows_of post ++ new_row x ∷ [] =
    map-append (seat_row post.queued) post.seats (new_seat x ∷ []) ∙ ap (λ r. rows_of post ++ r ∷ []) last in
    let len = s.rows.len in
    let counts = sum-append (λ (t : Seat). count_held t.holds) post.seats (new_seat x ∷ []) in
    let live = s.live in
    let few = s.few in
    record {
      rows = subst (RowsLie h (q.entries ++ new_entry x ∷ [])) (sym rows-are)
          (rows-joined h q.entries (rows_of post) x s.rows (λ i l z. fresh (i, (omega arith, (s.rows.each i l).handle ∙ z))));
      linked = subst (IsLinked h post.heap) (sym rows-are) (linked-joined h post.heap (rows_of post) x s.linked);
      live = omega arith;
      recipients = all-live-more x post.seats post.queued s.recipients;
      few = omega arith;
      next_ref = s.next_ref;
    }

-- the post of a queue with no task
pub start-spells : (h : Heap) (ref : ℕ)
    → ArePostChains h (record { entries = []; live = 0; next_ref = ref }) (record { seats = []; queued = []; heap = h; next_ref = ref })
start-spells h ref = record {
  rows = record {
    len = refl;
    each = λ i l. absurd (omega arith);
    own = λ i l. absurd (omega arith);
    cross = λ i j l m ne. absurd (omega arith);
    handles = λ i j l m ne. absurd (omega arith);
  };
  linked = record { shape = record { blank = refl; end = refl }; lie = λ i l. absurd (omega arith); others = λ a out. refl };
  live = refl;
  recipients = tt;
  few = omega arith;
  next_ref = refl;
}
