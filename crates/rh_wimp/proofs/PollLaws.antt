-- A poll, by its calls.
use Rattle.rh_wimp.proofs.Common.{◌≡◌, ℕ, zero, suc, ◌+◌, ◌<◌, ◌≤◌, ◌≢◌, ◌^◌, ◌⊎◌, inl, inr, true, false, Bool, cond, eqb, List, [], ◌∷◌, ◌++◌, length, set}
use Rattle.rh_wimp.proofs.Common.{refl, sym, ap, subst, ◌∙◌, arith, cases_eq, Option, Some, None, ◌==◌, position, word, Heap, release_block, Memory, bytes}
use Rattle.rh_wimp.proofs.Common.{total}
use Rattle.rh_wimp.proofs.Common.{cond_true, cond_false, IsModule, module_heap_in, Module, relinked, block_bytes, poked, HasBlock, word_bytes, Parcel}
use Rattle.rh_wimp.proofs.Common.{code_number}
use Rattle.rh_wimp.proofs.Common.{is_recorded, padded, parcel_bytes, Seat, Post, has_seat, held_by, with_held, count_held, live_count, as_returned, bounced}
use Rattle.rh_wimp.proofs.Common.{bounce_held, first_for, taken, taken_from, without_block, Chains, SeatRow, ArePostChains, MayBounce, Lies, LiesAt, Lifted}
use Rattle.rh_wimp.proofs.Common.{Loose}
use Rattle.rh_wimp.proofs.Common.{Holds, entry_at, row_at, rows_of, lengthened, emptied_chains, first_block, Entry, block_within, has-less, poked-other}
use Rattle.rh_wimp.proofs.Common.{poked-pokes, lifted, from_read, link_read, code_read, padded-least, padded-relinked, poked-shape, area_limit}
use Rattle.rh_wimp.specs.Inner.ChainEdits.{shortened_chains, holding_chains}
use Rattle.rh_defs.proofs.BlockLaws.{has-poked}
use Rattle.rh_wimp.proofs.BounceLaws.{lift, returned-queued, vanished}
use Rattle.rh_wimp.proofs.PostLaws.{found-at, not-found, seat_at, live-yes, live-no, held-at, count-seat, seat_with}
use Rattle.rh_wimp.proofs.RowEdits.{lies-above}
use Rattle.rh_wimp.proofs.SendLaws.{seated, named, as_many, last-has}
use Rattle.rh_wimp.proofs.TakeLaws.{FirstFor, first-some, ahead, none-ahead, taken-off, held-post, chain_to, rest_of}

has-any : (a n b o : ℕ) (xs : List ℕ) (h : Heap) → HasBlock a n h → HasBlock a n (poked b o xs h)
has-any a n b o xs h w = elim (cases_eq a b) [
  | inl z ↦ subst (λ c. HasBlock a n (poked c o xs h)) z (has-poked a n o xs h w)
  | inr ne ↦ record { bytes = w.bytes; found = poked-other b a o xs h ne ∙ w.found; room = w.room }
]

-- ---- one bounce
module _ (m : Memory) (module_area : Module) (q : Chains) (post : Post) (p : Parcel) (block : ℕ) where
  pub bounce-has : MayBounce m module_area q post p block → HasBlock block 24 (module_heap_in m module_area)
  bounce-has b = record {
    bytes = padded 0 p;
    found = ap (λ a. block_bytes a (module_heap_in m module_area)) b.block_is
        ∙ b.loose.lies.block;
    room = padded-least 0 p;
  }

  pub bounce-from : MayBounce m module_area q post p block → (from : ℕ) →
      ((bytes : List ℕ) → block_bytes block (module_heap_in m module_area) ≡ Some bytes → from ≡ word bytes 12)
      → from ≡ p.message.from
  bounce-from b from r =
      r (padded 0 p) (ap (λ a. block_bytes a (module_heap_in m module_area)) b.block_is ∙ b.loose.lies.block) ∙ from_read 0 p (omega arith) b.loose.lies.fits

  pub bounce-last : MayBounce m module_area q post p block → (n : Memory) (to o : ℕ) (xs : List ℕ) → to < length q.entries
      → module_heap_in n module_area ≡ poked block o xs (module_heap_in m module_area) → (entry_at q.entries to).last ≢ 0 → HasBlock
      (entry_at q.entries to).last 4
      (module_heap_in n module_area)
  bounce-last b n to o xs lt e ne =
      let s = seated (module_heap_in m module_area) q post to b.spells lt in
      let last : ℕ = (entry_at q.entries to).last in
      subst (HasBlock last 4) (sym e) (has-any last 4 block o xs (module_heap_in m module_area)
      (has-less last 24 4 (module_heap_in m module_area) (omega arith)
      (last-has (module_heap_in m module_area) (entry_at q.entries to) (row_at (rows_of post) to)
      (b.spells.rows.each to s.row) ne)))

  pub bounce-gone : MayBounce m module_area q post p block → position (λ (e : Entry). e.handle == p.message.from) q.entries ≡ None → (k : Heap)
      → k ≡ release_block block (module_heap_in m module_area) → ArePostChains k q (bounced p post)
  bounce-gone b none k e =
      let h : Heap = module_heap_in m module_area in
      let many = as_many h q post b.spells in
      let dead = live-no post.seats p.message.from (λ j c. let s = seated h q post j b.spells (omega arith) in
      let n = not-found q.entries p.message.from none j (omega arith) in λ z. n (s.handle ∙ z)) in
      subst (ArePostChains k q) (sym (cond_false (has_seat p.message.from post.seats) _ _ dead))
      (subst (λ (g : Heap). ArePostChains g q (record post { heap = release_block p.block post.heap })) (sym (e ∙ ap (λ a. release_block a h) b.block_is))
      (vanished h q post p b.spells b.loose))

  pub bounce-done : MayBounce m module_area q post p block → (to : ℕ) → position (λ (e : Entry). e.handle == p.message.from) q.entries ≡ Some to → (h1 k : Heap)
      → h1 ≡ poked block 4 (word_bytes 19) (module_heap_in m module_area)
      → k ≡ relinked (entry_at q.entries to).last block h1
      → ArePostChains k (record { entries = set q.entries to (lengthened block (entry_at q.entries to)); live = q.live + 1; next_ref = q.next_ref })
      (bounced p post)
  bounce-done b to f h1 k e1 ek =
      let h : Heap = module_heap_in m module_area in
      let w = found-at q.entries p.message.from to f in
      let s = seated h q post to b.spells w.0 in
      let alive = live-yes post.seats to p.message.from s.seat (sym s.handle ∙ w.1) in
      subst (λ a. ArePostChains k (record { entries = set q.entries to (lengthened a (entry_at q.entries to)); live = q.live + 1; next_ref = q.next_ref })
      (bounced p post)) (sym b.block_is)
      (subst (ArePostChains k (record { entries = set q.entries to (lengthened p.block (entry_at q.entries to)); live = q.live + 1; next_ref = q.next_ref }))
      (sym (cond_true (has_seat p.message.from post.seats) _ _ alive))
      (returned-queued h h1 k q post p to b.spells b.loose alive b.few w.0 w.1 (e1 ∙ ap (λ a. poked a 4 (word_bytes 19) h) b.block_is)
      (ek ∙ ap (λ a. relinked (entry_at q.entries to).last a h1) b.block_is)))

-- ---- what a task holds
pub record HoldsOne (h : Heap) (q : Chains) (post : Post) (x i : ℕ) : Type 0 where
  pub parcel : Parcel
  pub held : held_by x post.seats ≡ Some parcel
  pub block : (entry_at q.entries i).held ≡ parcel.block
  pub live : 1 ≤ q.live

counted : (seats : List Seat) (i : ℕ) → i < length seats → count_held (seat_at seats i).holds ≤ total (λ (t : Seat). count_held t.holds) seats
counted seats i l = omega (arith, count-seat seats i (seat_with None (seat_at seats i)) l)

pub holds-one : (h : Heap) (q : Chains) (post : Post) (x i : ℕ) → ArePostChains h q post → i < length q.entries → (entry_at q.entries i).handle ≡ x
    → (entry_at q.entries i).held ≢ 0 → HoldsOne h q post x i
holds-one h q post x i s lt e ne =
    let t = seated h q post i s lt in
    let by = held-at post.seats i x (named h q post s) t.seat (sym t.handle ∙ e) in
    go (seat_at post.seats i).holds refl by (subst (λ (r : SeatRow). Holds h (entry_at q.entries i).held r.held) t.row_is (s.rows.each i t.row).held)
    (counted post.seats i t.seat) s.live
  where
    go : (o : Option Parcel) → (seat_at post.seats i).holds ≡ o → held_by x post.seats ≡ (seat_at post.seats i).holds
        → Holds h (entry_at q.entries i).held (seat_at post.seats i).holds
        → count_held (seat_at post.seats i).holds ≤ total (λ (y : Seat). count_held y.holds) post.seats → q.live ≡ live_count post → HoldsOne h q post x i
    go None eo by holds c l = let z : Holds h (entry_at q.entries i).held None = subst (Holds h (entry_at q.entries i).held) eo holds in absurd (ne z)
    go (Some p) eo by holds c l =
        let z : Holds h (entry_at q.entries i).held (Some p) = subst (Holds h (entry_at q.entries i).held) eo holds in
        let one : count_held (seat_at post.seats i).holds ≡ 1 = ap count_held eo in
        record { parcel = p; held = by ∙ eo; block = z.0; live = omega arith }

pub holds-none : (h : Heap) (q : Chains) (post : Post) (x i : ℕ) → ArePostChains h q post → i < length q.entries → (entry_at q.entries i).handle ≡ x
    → (entry_at q.entries i).held ≡ 0 → held_by x post.seats ≡ None
holds-none h q post x i s lt e z =
    let t = seated h q post i s lt in
    let by = held-at post.seats i x (named h q post s) t.seat (sym t.handle ∙ e) in
    go (seat_at post.seats i).holds refl by (subst (λ (r : SeatRow). Holds h (entry_at q.entries i).held r.held) t.row_is (s.rows.each i t.row).held)
  where
    go : (o : Option Parcel) → (seat_at post.seats i).holds ≡ o → held_by x post.seats ≡ (seat_at post.seats i).holds
        → Holds h (entry_at q.entries i).held (seat_at post.seats i).holds → held_by x post.seats ≡ None
    go None eo by holds = by ∙ eo
    go (Some p) eo by holds = let w : Holds h (entry_at q.entries i).held (Some p) =
        subst (Holds h (entry_at q.entries i).held) eo holds in let a = lies-above h 0 p w.1 in let b = w.0 in absurd (omega arith)

pub may-bounce : (m : Memory) (module_area : Module) (q : Chains) (post : Post) (x i : ℕ) → ArePostChains (module_heap_in m module_area) q post
    → i < length q.entries
    → (entry_at q.entries i).handle ≡ x → (w : HoldsOne (module_heap_in m module_area) q post x i)
    → MayBounce m module_area (emptied_chains i q) (lifted x post) w.parcel (entry_at q.entries i).held
may-bounce m module_area q post x i s lt e w =
    let l = lift (module_heap_in m module_area) q post x i w.parcel s lt e w.held in
    let live = s.live in
    let few = s.few in
    let live' = l.0.live in
    let one = w.live in
    record { spells = l.0; loose = l.1; block_is = w.block; few = omega arith }

-- ---- seats after a bounce
pub bounced-seats : (p : Parcel) (post : Post) → (bounced p post).seats ≡ post.seats
bounced-seats p post = elim (has_seat p.message.from post.seats) as (λ t.
    (cond t (record post { queued = post.queued ++ as_returned p ∷ []; heap = poked p.block 0 (parcel_bytes 0 (as_returned p)) post.heap })
    (record post { heap = release_block p.block post.heap })).seats ≡ post.seats) [ true ↦ refl | false ↦ refl ]

pub none-held : (x : ℕ) (seats : List Seat) → held_by x (with_held x None seats) ≡ None
none-held x [] = refl
none-held x (s ∷ seats) = go (eqb s.handle x) refl (none-held x seats)
  where
    go : (t : Bool) → eqb s.handle x ≡ t → held_by x (with_held x None seats) ≡ None
        → held_by x (cond t (record s { holds = None } ∷ seats) (s ∷ with_held x None seats)) ≡ None
    go true e f = cond_true (eqb s.handle x) _ _ e
    go false e f = cond_false (eqb s.handle x) _ _ e ∙ f

pub held-after : (x : ℕ) (o : Option Parcel) (post : Post) → held_by x post.seats ≡ o → held_by x (bounce_held x o post).seats ≡ None
held-after x None post e = e
held-after x (Some p) post e = ap (held_by x) (bounced-seats p (record post { seats = with_held x None post.seats })) ∙ none-held x post.seats

pub same-handle : (x : ℕ) (seats : List Seat) (i : ℕ) → (seat_at (with_held x None seats) i).handle ≡ (seat_at seats i).handle
same-handle x [] i = refl
same-handle x (s ∷ seats) i = elim (eqb s.handle x) as (λ t. (seat_at (cond t (record s { holds = None } ∷ seats) (s ∷ with_held x None seats)) i).handle ≡
    (seat_at (s ∷ seats) i).handle) [
      | true ↦ first i
      | false ↦ later i (λ j. same-handle x seats j)
    ]
  where
    first : (j : ℕ) → (seat_at (record s { holds = None } ∷ seats) j).handle ≡ (seat_at (s ∷ seats) j).handle
    first zero = refl
    first (suc j) = refl

    later : (j : ℕ) → ((n : ℕ) → (seat_at (with_held x None seats) n).handle ≡ (seat_at seats n).handle)
        → (seat_at (s ∷ with_held x None seats) j).handle ≡ (seat_at (s ∷ seats) j).handle
    later zero f = refl
    later (suc j) f = f j

pub same-length : (x : ℕ) (seats : List Seat) → length (with_held x None seats) ≡ length seats
same-length x [] = refl
same-length x (s ∷ seats) =
    elim (eqb s.handle x) as (λ t. length (cond t (record s { holds = None } ∷ seats) (s ∷ with_held x None seats)) ≡ length (s ∷ seats)) [
      | true ↦ refl
      | false ↦ ap suc (same-length x seats)
    ]

-- the place of a task stays
pub record Stays (q k : Chains) (i : ℕ) : Type 0 where
  pub within : i < length k.entries
  pub handle : (entry_at k.entries i).handle ≡ (entry_at q.entries i).handle

pub stays : (h g : Heap) (q k : Chains) (post : Post) (x i : ℕ) (o : Option Parcel) → ArePostChains h q post → ArePostChains g k (bounce_held x o post)
    → i < length q.entries → Stays q k i
stays h g q k post x i None s t l =
    let a = as_many h q post s in
    let b = as_many g k post t in
    record { within = omega arith; handle = (seated g k post i t (omega arith)).handle ∙ sym (seated h q post i s l).handle }
stays h g q k post x i (Some p) s t l =
    let post' : Post = record post { seats = with_held x None post.seats } in
    let a = as_many h q post s in
    let b = as_many g k (bounced p post') t in
    let c = ap length (bounced-seats p post') in
    let d = same-length x post.seats in
    record {
      within = omega arith;
      handle = (seated g k (bounced p post') i t (omega arith)).handle ∙ ap (λ ss. (seat_at ss i).handle) (bounced-seats p post')
          ∙ same-handle x post.seats i ∙ sym (seated h q post i s l).handle;
    }

-- ---- the first message
pub record Heads (m : Memory) (module_area : Module) (q : Chains) (post : Post) (x i : ℕ) (t : Parcel × List Parcel) : Type 0 where
  pub first : first_for x post.queued ≡ Some t
  pub for_ : FirstFor x post.queued t.0 t.1
  pub next : ℕ
  pub next_is : next ≡ first_block (chain_to x t.1) 0
  pub block_is : (entry_at q.entries i).first ≡ t.0.block
  pub lies : Lies (module_heap_in m module_area) next t.0
  pub next_there : (next ≡ 0) ⊎ HasBlock next 24 (module_heap_in m module_area)
  pub live : 1 ≤ q.live

pub heads : (m : Memory) (module_area : Module) (q : Chains) (post : Post) (x i : ℕ) → ArePostChains (module_heap_in m module_area) q post
    → i < length q.entries
    → (entry_at q.entries i).handle ≡ x → (entry_at q.entries i).first ≢ 0 → (t : Parcel × List Parcel) × Heads m module_area q post x i t
heads m module_area q post x i s lt e ne = go (first_for x post.queued) refl
  where
    go : (o : Option (Parcel × List Parcel)) → first_for x post.queued ≡ o → (t : Parcel × List Parcel) × Heads m module_area q post x i t
    go None eo = absurd (ne (none-ahead (module_heap_in m module_area) q post x i s lt e eo))
    go (Some t) eo =
        let f = first-some x post.queued t eo in
        let a = ahead (module_heap_in m module_area) q post x i t.0 t.1 s lt e f in
        let fewer = f.fewer in
        let live = s.live in (
          t,
          record {
            first = eo;
            for_ = f;
            next = first_block (chain_to x t.1) 0;
            next_is = refl;
            next_there = a.next;
            block_is = a.first;
            lies = a.lies;
            live = omega arith;
          },
        )

pub no-head : (h : Heap) (q : Chains) (post : Post) (x i : ℕ) → ArePostChains h q post → i < length q.entries → (entry_at q.entries i).handle ≡ x
    → (entry_at q.entries i).first ≡ 0 → first_for x post.queued ≡ None
no-head h q post x i s lt e z = go (first_for x post.queued) refl
  where
    go : (o : Option (Parcel × List Parcel)) → first_for x post.queued ≡ o → first_for x post.queued ≡ None
    go None eo = eo
    go (Some t) eo =
        let a = ahead h q post x i t.0 t.1 s lt e (first-some x post.queued t eo) in
        let b = lies-above h (first_block (chain_to x t.1) 0) t.0 a.lies in
        let f = a.first in absurd (omega arith)

-- a message that links to none
module _ (m : Memory) (module_area : Module) (block : ℕ) (p : Parcel) (w : LiesAt m module_area block p) where
  pub lies-bytes : block_bytes block (module_heap_in m module_area) ≡ Some (padded 0 p)
  lies-bytes = ap (λ a. block_bytes a (module_heap_in m module_area)) w.block_is ∙ w.lies.block

  pub lies-has : HasBlock block 24 (module_heap_in m module_area)
  lies-has = record { bytes = padded 0 p; found = lies-bytes; room = padded-least 0 p }

  pub lies-code : (code : ℕ) → ((bytes : List ℕ) → block_bytes block (module_heap_in m module_area) ≡ Some bytes → code ≡ word bytes 4) → code
      ≡ code_number p.code
  lies-code code r = r (padded 0 p) lies-bytes ∙ code_read 0 p (omega arith) w.lies.fits

-- the next one's place is small
pub next-small : (m : Memory) (module_area : Module) (next : ℕ) → IsModule m module_area → length (bytes m module_area.area.0) ≤ area_limit
    → (next ≡ 0) ⊎ HasBlock next 24 (module_heap_in m module_area) → next < 2 ^ 32
next-small m module_area next s l w = elim w [ inl z ↦ omega arith | inr b ↦ let f = block_within m module_area next 24 s b in omega arith ]

module _ (m : Memory) (module_area : Module) (q : Chains) (post : Post) (x i : ℕ) (t : Parcel × List Parcel) (w : Heads m module_area q post x i t) where
  pub head-bytes : block_bytes (entry_at q.entries i).first (module_heap_in m module_area) ≡ Some (padded w.next t.0)
  head-bytes = ap (λ a. block_bytes a (module_heap_in m module_area)) w.block_is ∙ w.lies.block

  pub head-has : HasBlock (entry_at q.entries i).first 24 (module_heap_in m module_area)
  head-has = record { bytes = padded w.next t.0; found = head-bytes; room = padded-least w.next t.0 }

  pub next-of : (next : ℕ) → w.next < 2 ^ 32 → ((bs : List ℕ) → block_bytes (entry_at q.entries i).first (module_heap_in m module_area) ≡ Some bs → next
      ≡ word bs 0)
      → next ≡ w.next
  next-of next small r = r (padded w.next t.0) head-bytes ∙ link_read w.next t.0 small w.lies.fits

  -- the first message is off its chain
  pub first-lifted : (n : Memory) (next : ℕ) → ArePostChains (module_heap_in m module_area) q post → i < length q.entries → (entry_at q.entries i).handle ≡ x
      → next
      ≡ w.next
      → module_heap_in n module_area ≡ poked (entry_at q.entries i).first 0 (word_bytes 0) (module_heap_in m module_area)
      → Lifted n module_area (shortened_chains i next q) post x (entry_at q.entries i).first t
  first-lifted n next s lt e en eh =
      let h : Heap = module_heap_in m module_area in
      let p : Parcel = t.0 in
      let rest : List Parcel = t.1 in
      let k : Heap = poked p.block 0 (word_bytes 0) h in
      let ek : module_heap_in n module_area ≡ k = eh ∙ ap (λ a. poked a 0 (word_bytes 0) h) w.block_is in
      let here = (poked-pokes p.block 0 (word_bytes 0) h (padded w.next p) w.lies.block).here ∙ ap Some (padded-relinked w.next 0 p) in
      let off = taken-off h k q post x i p rest s lt e w.for_ (poked-shape p.block 0 (word_bytes 0) h)
      (record { each = λ b nb nb'. poked-other p.block b 0 (word_bytes 0) h nb }) here in
      let live = s.live in
      let few = s.few in
      let fewer = w.for_.fewer in
      record {
        first = w.first;
        may = record {
          spells = subst (λ (y : Heap). ArePostChains y (shortened_chains i next q) (rest_of rest post)) (sym ek)
              (subst (λ l. ArePostChains k (shortened_chains i l q) (rest_of rest post)) (sym (en ∙ w.next_is)) off.0);
          loose = subst (λ (y : Heap). Loose y (rest_of rest post) p) (sym ek) off.1;
          block_is = w.block_is;
          few = omega arith;
        };
      }

-- the place of a task stays where the seats do
pub seats-stay : (h g : Heap) (q k : Chains) (post other : Post) (i : ℕ) → other.seats ≡ post.seats → ArePostChains h q post → ArePostChains g k other
    → i < length q.entries → Stays q k i
seats-stay h g q k post other i es s t l =
    let a = as_many h q post s in
    let b = as_many g k other t in
    let c = ap length es in
    record {
      within = omega arith;
      handle = (seated g k other i t (omega arith)).handle ∙ ap (λ ss. (seat_at ss i).handle) es ∙ sym (seated h q post i s l).handle;
    }

-- a recorded message that was first is held
pub take-held : (m : Memory) (module_area : Module) (q : Chains) (post : Post) (x i block : ℕ) (t : Parcel × List Parcel)
    → Lifted m module_area q post x block t
    → i < length q.entries → (entry_at q.entries i).handle ≡ x
    → held_by x post.seats ≡ None → is_recorded t.0.code ≡ true → ArePostChains (module_heap_in m module_area) (holding_chains i block q) (taken x post).0
take-held m module_area q post x i block t w lt e none code =
    let h : Heap = module_heap_in m module_area in
    let p : Parcel = t.0 in
    let rest : Post = rest_of t.1 post in
    let held = held-post h q rest x i p w.may.spells lt e none w.may.loose w.may.few in
    subst (λ o. ArePostChains h (holding_chains i block q) (taken_from x o post).0) (sym w.first)
    (subst (λ (y : Post). ArePostChains h (holding_chains i block q) y) (sym (cond_true (is_recorded p.code)
    (record rest { seats = with_held x (Some p) rest.seats }) (without_block p rest) code))
    (subst (λ b. ArePostChains h (holding_chains i b q) (record rest { seats = with_held x (Some p) rest.seats })) (sym w.may.block_is) held))

-- the block of any other that was first is freed
pub take-freed : (m : Memory) (module_area : Module) (q : Chains) (post : Post) (x block : ℕ) (t : Parcel × List Parcel) (k : Heap)
    → Lifted m module_area q post x block t
    → is_recorded t.0.code ≡ false → k ≡ release_block block (module_heap_in m module_area) → ArePostChains k q (taken x post).0
take-freed m module_area q post x block t k w code ek =
    let h : Heap = module_heap_in m module_area in
    let p : Parcel = t.0 in
    let rest : Post = rest_of t.1 post in
    subst (λ o. ArePostChains k q (taken_from x o post).0) (sym w.first)
    (subst (λ (y : Post). ArePostChains k q y) (sym (cond_false (is_recorded p.code) (record rest { seats = with_held x (Some p) rest.seats })
    (without_block p rest) code))
    (subst (λ (y : Heap). ArePostChains y q (without_block p rest)) (sym (ek ∙ ap (λ a. release_block a h) w.may.block_is))
    (vanished h q rest p w.may.spells w.may.loose)))
