-- A post after a letter is sent.
use Rattle.rh_wimp.proofs.Common.{◌≡◌, ℕ, zero, suc, ◌+◌, ◌-◌, ◌<◌, ◌≤◌, ◌≢◌, ◌^◌, inl, inr, true, false, Bool, cond, eqb, leb, List, [], ◌∷◌, ◌++◌, length}
use Rattle.rh_wimp.proofs.Common.{map, set, refl, sym, ap, subst, ◌∙◌, arith, cases_eq, length-append, length-map, length-set, get_or-set_same}
use Rattle.rh_wimp.proofs.Common.{get_or-set_other, Option, Some, None, Ok, Err, not, ◌==◌, position, with_part, Granted, answer_of, total, zeros, Heap}
use Rattle.rh_wimp.proofs.Common.{block_room}
use Rattle.rh_wimp.proofs.Common.{release_block, module_claim, cond_false, eqb_apart, Memory, OnlyArea, IsModule, module_heap_in, Module, Turns, relinked}
use Rattle.rh_wimp.proofs.Common.{block_bytes}
use Rattle.rh_wimp.proofs.Common.{poked, HasBlock, SameShape, word_bytes, Parcel, code_number, encoded, parcel_bytes, parcel_size, padded, Seat, Post}
use Rattle.rh_wimp.proofs.Common.{has_seat, held_by, with_held, count_held, live_count, most_messages, answers_held, Chains, Chain, Holds, SeatRow, RowLies}
use Rattle.rh_wimp.proofs.Common.{RowsLie, IsLinked, ArePostChains, AllLive, Lies, Off, no_entry, entry_at, row_at, seat_row, rows_of, row_parcels, lengthened}
use Rattle.rh_wimp.proofs.Common.{emptied, emptied_chains, last_block, Entry, poked-pokes, poked-other, release-frees, module_claim-puts, module_claim-alike}
use Rattle.rh_wimp.proofs.Common.{poked-shape, shape-both, release-alike}
use Rattle.std.proofs.lemmas.Bool.Decides.{nat_tests}
use Rattle.rh_defs.specs.Chain.{◌>>=◌, ◌>>◌, refuse_if}
use Rattle.rh_defs.specs.Module.{module_need_pages}
use Rattle.rh_defs.specs.declared.refusal.Refusal.{Refusal}
use Rattle.rh_defs.specs.declared.refusal.Refusal.TheVariants.{NoTask, NoRefs, QueueFull}
use Rattle.rh_wimp.specs.Inner.Settling.{PutsDown, Settled}
use Rattle.rh_defs.specs.Blocks.{PutsBlock}
use Rattle.rh_defs.proofs.ParcelLaws.{parcel-row}
use Rattle.rh_defs.specs.Messages.{Fits}
use Rattle.rh_defs.specs.Post.{put_down, queued_in, posted, post_send, post_send_pages, sendable, parcel_of, message_of, release_held}
use Rattle.rh_wimp.specs.Inner.ChainEdits.{longer_chains}
use Rattle.rh_wimp.specs.Inner.LetterRefusals.{refusal_at, refusal_for}
use Rattle.rh_defs.specs.declared.message.Letter.{Letter}
use Rattle.rh_wimp.proofs.AnswerLaws.{answered-some}
use Rattle.rh_defs.proofs.BlockLaws.{block-above}
use Rattle.rh_wimp.proofs.LinkLaws.{linked-longer, linked-dropped}
use Rattle.rh_wimp.proofs.PostLaws.{found-at, not-found, seat_at, Named, row-at, live-yes, live-no, held-at, seat_with, with_held-at, rows-queued, rows-seat}
use Rattle.rh_wimp.proofs.PostLaws.{count-seat}
use Rattle.rh_wimp.proofs.RowEdits.{with_last, without_held, appended, dropped}
use Rattle.rh_wimp.proofs.RowLaws.{KeepsBut, LinkedTo, row-fresh, last-there}
use Rattle.rh_defs.proofs.ShapeLaws.{Alike, module_need_pages-alike, shape-sym}

-- ---- the post's seats are the queue's entries
pub record Seated (h : Heap) (q : Chains) (post : Post) (i : ℕ) : Type 0 where
  pub seat : i < length post.seats
  pub row : i < length (rows_of post)
  pub row_is : row_at (rows_of post) i ≡ seat_row post.queued (seat_at post.seats i)
  pub handle : (entry_at q.entries i).handle ≡ (seat_at post.seats i).handle

pub seated : (h : Heap) (q : Chains) (post : Post) (i : ℕ) → ArePostChains h q post → i < length q.entries → Seated h q post i
seated h q post i p l =
    let n = length-map post.seats (seat_row post.queued) in
    let len = p.rows.len in
    let is = row-at post.queued post.seats i (omega arith) in
    record {
      seat = omega arith;
      row = omega arith;
      row_is = is;
      handle = (p.rows.each i (omega arith)).handle ∙ ap (λ (r : SeatRow). r.handle) is;
    }

pub as_many : (h : Heap) (q : Chains) (post : Post) → ArePostChains h q post → length post.seats ≡ length q.entries
as_many h q post p = let n = length-map post.seats (seat_row post.queued) in let len = p.rows.len in omega arith

pub named : (h : Heap) (q : Chains) (post : Post) → ArePostChains h q post → Named post.seats
named h q post p i j bi bj ne z =
    let m = as_many h q post p in
    let n = length-map post.seats (seat_row post.queued) in
    p.rows.handles i j (omega arith) (omega arith) ne
    (ap (λ (r : SeatRow). r.handle) (row-at post.queued post.seats i bi) ∙ z ∙ sym (ap (λ (r : SeatRow). r.handle) (row-at post.queued post.seats j bj)))

-- ---- refusals
pub record Admits (h : Heap) (q : Chains) (post : Post) (to : ℕ) : Type 0 where
  pub live : has_seat to post.seats ≡ true
  pub refs : leb (2 ^ 32) post.next_ref ≡ false
  pub room : leb most_messages (live_count post) ≡ false

past_none : (i : ℕ) (q : Chains) → refusal_at (Some i) q ≡ None → (leb (2 ^ 32) q.next_ref ≡ false) × (leb most_messages q.live ≡ false)
past_none i q e = go (leb (2 ^ 32) q.next_ref) (leb most_messages q.live) e
  where
    go : (a b : Bool) → ◌≡◌ {A = Option Refusal} (cond a (Some NoRefs) (cond b (Some QueueFull) None)) None → (a ≡ false) × (b ≡ false)
    go true b z = absurd cc
    go false true z = absurd cc
    go false false z = (refl, refl)

pub admits : (h : Heap) (q : Chains) (post : Post) (to : ℕ) → ArePostChains h q post → refusal_for to q ≡ None → Admits h q post to
admits h q post to p e = go (position (λ (x : Entry). x.handle == to) q.entries) refl e
  where
    go : (o : Option ℕ) → position (λ (x : Entry). x.handle == to) q.entries ≡ o → refusal_at o q ≡ None → Admits h q post to
    go None eo z = absurd (let bad : Some NoTask ≡ None = z in cc)
    go (Some i) eo z =
        let w = found-at q.entries to i eo in
        let s = seated h q post i p w.0 in
        let r = past_none i q z in
        record {
          live = live-yes post.seats i to s.seat (sym s.handle ∙ w.1);
          refs = ap (leb (2 ^ 32)) (sym p.next_ref) ∙ r.0;
          room = ap (leb most_messages) (sym p.live) ∙ r.1;
        }

refusals : (a b d : Bool) (refusal : Refusal) → (a ≡ false → NoTask ≡ refusal) → (a ≡ true → cond b (Some NoRefs) (cond d (Some QueueFull) None) ≡ Some refusal)
    → ◌≡◌ {A = Granted (Unit {0})} (refuse_if (not a) NoTask >> (refuse_if b NoRefs >> refuse_if d QueueFull)) (Err refusal)
unfolding ◌>>=◌ ◌>>◌ refuse_if
refusals false b d refusal x y = ap Err (x refl)
refusals true true d refusal x y = let z = y refl in ap Err cc
refusals true false true refusal x y = let z = y refl in ap Err cc
refusals true false false refusal x y = let z = y refl in absurd cc

-- a letter that is refused before its block is claimed
pub sendable-refused : (h : Heap) (q : Chains) (post : Post) (l : Letter) (refusal : Refusal) → ArePostChains h q post → refusal_for l.to q ≡ Some refusal
    → sendable l post ≡ Err refusal
unfolding sendable
sendable-refused h q post l refusal p e = go (position (λ (x : Entry). x.handle == l.to) q.entries) refl e
  where
    go : (o : Option ℕ) → position (λ (x : Entry). x.handle == l.to) q.entries ≡ o → refusal_at o q ≡ Some refusal → sendable l post ≡ Err refusal
    go None eo z =
        let m = as_many h q post p in
        let no = live-no post.seats l.to (λ j b. let s = seated h q post j p (omega arith) in let n = not-found q.entries l.to eo j (omega arith) in
        λ y. n (s.handle ∙ y)) in
        refusals (has_seat l.to post.seats) (leb (2 ^ 32) post.next_ref) (leb most_messages (live_count post)) refusal (λ u. cc)
        (λ u. absurd (let bad : true ≡ false = sym u ∙ no in cc))
    go (Some i) eo z =
        let w = found-at q.entries l.to i eo in
        let s = seated h q post i p w.0 in
        let yes = live-yes post.seats i l.to s.seat (sym s.handle ∙ w.1) in
        refusals (has_seat l.to post.seats) (leb (2 ^ 32) post.next_ref) (leb most_messages (live_count post)) refusal
        (λ u. absurd (let bad : true ≡ false = sym yes ∙ u in cc))
        (λ u. ap (λ n. cond (leb (2 ^ 32) n) (Some NoRefs) (cond (leb most_messages (live_count post)) (Some QueueFull) None)) (sym p.next_ref)
        ∙ ap (λ n. cond (leb (2 ^ 32) q.next_ref) (Some NoRefs) (cond (leb most_messages n) (Some QueueFull) None)) (sym p.live) ∙ z)

grants : (a b d : Bool) → a ≡ true → b ≡ false → d ≡ false
    → ◌≡◌ {A = Granted (Unit {0})} (refuse_if (not a) NoTask >> (refuse_if b NoRefs >> refuse_if d QueueFull)) (Ok tt)
unfolding ◌>>=◌ ◌>>◌ refuse_if
grants false b d x y z = absurd cc
grants true true d x y z = absurd cc
grants true false true x y z = absurd cc
grants true false false x y z = refl

sendable-granted : (h : Heap) (q : Chains) (post : Post) (l : Letter) → Admits h q post l.to → sendable l post ≡ Ok tt
unfolding sendable
sendable-granted h q post l a = grants (has_seat l.to post.seats) (leb (2 ^ 32) post.next_ref) (leb most_messages (live_count post)) a.live a.refs a.room

next_is : {A B : Type 0} (o : Granted A) (x : A) (next : A → Granted B) → o ≡ Ok x → (o >>= next) ≡ next x
unfolding ◌>>=◌
next_is (Ok y) x next e = ap next cc
next_is (Err r) x next e = absurd cc

next_refused : {A B : Type 0} (o : Granted A) (r : Refusal) (next : A → Granted B) → o ≡ Err r → (o >>= next) ≡ Err r
unfolding ◌>>=◌
next_refused (Ok y) r next e = absurd cc
next_refused (Err s) r next e = ap Err cc

then_is : {A B : Type 0} (o : Granted A) (x : A) (next : Granted B) → o ≡ Ok x → (o >> next) ≡ next
unfolding ◌>>◌
then_is o x next e = next_is o x (λ y. next) e

then_refused : {A B : Type 0} (o : Granted A) (r : Refusal) (next : Granted B) → o ≡ Err r → (o >> next) ≡ Err r
unfolding ◌>>◌
then_refused o r next e = next_refused o r (λ y. next) e

pub send-refused : (h : Heap) (q : Chains) (post : Post) (free : ℕ) (l : Letter) (refusal : Refusal) → ArePostChains h q post → refusal_for l.to q
    ≡ Some refusal
    → post_send free l post ≡ Err refusal
unfolding post_send
send-refused h q post free l refusal p e = then_refused (sendable l post) refusal _ (sendable-refused h q post l refusal p e)

-- where a letter is admitted, all hangs on the claim
pub send-granted : (h : Heap) (q : Chains) (post : Post) (free : ℕ) (l : Letter) (there : Heap × ℕ) → Admits h q post l.to
    → module_claim free (parcel_size (message_of l 0)) post.heap ≡ Ok there → post_send free l post ≡ Ok (posted l there post, post.next_ref)
unfolding post_send
send-granted h q post free l there a e =
    then_is (sendable l post) tt _ (sendable-granted h q post l a) ∙ next_is (module_claim free (parcel_size (message_of l 0)) post.heap) there _ e

pub send-no_room : (h : Heap) (q : Chains) (post : Post) (free : ℕ) (l : Letter) (refusal : Refusal) → Admits h q post l.to
    → module_claim free (parcel_size (message_of l 0)) post.heap ≡ Err refusal → post_send free l post ≡ Err refusal
unfolding post_send
send-no_room h q post free l refusal a e =
    then_is (sendable l post) tt _ (sendable-granted h q post l a) ∙ next_refused (module_claim free (parcel_size (message_of l 0)) post.heap) refusal _ e

-- ---- a chain's last block links to another
pub relinked-other : (last x b : ℕ) (h : Heap) → b ≢ last → block_bytes b (relinked last x h) ≡ block_bytes b h
relinked-other last x b h ne = elim (eqb last 0) as (λ t. block_bytes b (cond t h (poked last 0 (word_bytes x) h)) ≡ block_bytes b h)
    [ true ↦ refl | false ↦ poked-other last b 0 (word_bytes x) h ne ]

pub relinked-last : (last x : ℕ) (h : Heap) (bs : List ℕ) → last ≢ 0 → block_bytes last h ≡ Some bs
    → block_bytes last (relinked last x h) ≡ Some (with_part bs 0 (word_bytes x))
relinked-last last x h bs ne e = ap (block_bytes last) (cond_false (eqb last 0) _ _ (eqb_apart last 0 ne)) ∙ (poked-pokes last 0 (word_bytes x) h bs e).here

pub relinked-shape : (last x : ℕ) (h : Heap) → SameShape (relinked last x h) h
relinked-shape last x h = elim (eqb last 0) as (λ t. SameShape (cond t h (poked last 0 (word_bytes x) h)) h)
    [ true ↦ record { blank = refl; end = refl } | false ↦ poked-shape last 0 (word_bytes x) h ]

-- what links a new block to a chain
pub record Links (h k : Heap) (last block : ℕ) : Type 0 where
  pub keeps : KeepsBut h k last block
  pub linked : LinkedTo h k last block

-- a new block that is written and then linked to
pub links : (h h1 k : Heap) (last block : ℕ) → block_bytes block h ≡ None → ((b : ℕ) → b ≢ block → block_bytes b h1 ≡ block_bytes b h)
    → k ≡ relinked last block h1 → Links h k last block
links h h1 k last block fresh keeps e = record {
  keeps = record { each = λ b nl nb. ap (block_bytes b) e ∙ relinked-other last block b h1 nl ∙ keeps b nb };
  linked = record {
    there = λ bs s.
        let above = block-above last h bs s in
        let ne : last ≢ block = λ z. let bad : Some bs ≡ None = sym s ∙ ap (λ b. block_bytes b h) z ∙ fresh in cc in
        ap (block_bytes last) e ∙ relinked-last last block h1 bs (omega arith) (keeps last ne ∙ s);
  };
}

-- ---- the queue with a letter more
pub AllLive-append : (seats : List Seat) (ps : List Parcel) (q : Parcel) → AllLive seats ps → has_seat q.to seats ≡ true → AllLive seats (ps ++ q ∷ [])
AllLive-append seats [] q a l = (l, tt)
AllLive-append seats (p ∷ ps) q a l = (a.0, AllLive-append seats ps q a.1 l)

pub not_le : (m n : ℕ) → leb m n ≡ false → n < m
not_le m n e = grind (arith, nat_tests)

abbrev pub with_parcel : Parcel → Heap → ℕ → Post → Post
with_parcel new d ref post = record { seats = post.seats; queued = post.queued ++ new ∷ []; heap = d; next_ref = ref }

-- a message that lies in a block of no row's goes to the end of a chain
module _ (h k : Heap) (q : Chains) (post : Post) (new : Parcel) (to : ℕ) (d : Heap) where
  pub queue-longer : ArePostChains h q post → has_seat new.to post.seats ≡ true → live_count post < most_messages → to < length q.entries
      → (entry_at q.entries to).handle ≡ new.to
      → ((j : ℕ) → j < length (rows_of post) → Off new.block (row_parcels (row_at (rows_of post) j))) → Links h k (entry_at q.entries to).last new.block
      → Lies k 0 new → SameShape k d
      → block_bytes new.block d ≡ Some (padded 0 new) → ((b : ℕ) → b ≢ new.block → block_bytes b d ≡ block_bytes b post.heap) → (ref ref' : ℕ) → ref ≡ ref'
      → ArePostChains k (record { entries = set q.entries to (lengthened new.block (entry_at q.entries to)); live = q.live + 1; next_ref = ref })
      (with_parcel new d ref' post)
  queue-longer p alive few lt named-to off w lies shape in-d others ref ref' er =
      let s = seated h q post to p lt in
      let row : SeatRow = row_at (rows_of post) to in
      let last-is = (p.rows.each to s.row).last in
      let rows-are : rows_of (with_parcel new d ref' post) ≡ set (rows_of post) to (with_last new row) =
      rows-queued post.queued new post.seats to (named h q post p) s.seat (sym s.handle ∙ named-to)
      ∙ ap (λ r. set (rows_of post) to (with_last new r)) (sym s.row_is) in
      let counts = length-append post.queued (new ∷ []) in
      let live = p.live in
      record {
        rows = subst (RowsLie k (set q.entries to (lengthened new.block (entry_at q.entries to)))) (sym rows-are)
            (appended h k q.entries (rows_of post) to new s.row p.rows off w.keeps w.linked lies);
        linked = subst (IsLinked k d) (sym rows-are)
            (linked-longer h k post.heap d (rows_of post) to new s.row p.linked shape off (λ b nl nb. w.keeps.each b (λ z. nl (z ∙ last-is)) nb) in-d others);
        live = omega arith;
        recipients = AllLive-append post.seats post.queued new p.recipients alive;
        few = omega arith;
        next_ref = er;
      }

module _ (h h1 k : Heap) (q : Chains) (post : Post) (l : Letter) (to : ℕ) (there : Heap × ℕ) (d : Heap) where
  abbrev new : Parcel
  new = parcel_of l post.next_ref there.1

  pub letter-queued : ArePostChains h q post → Admits h q post l.to → to < length q.entries → (entry_at q.entries to).handle ≡ l.to → Fits new.message
      → PutsBlock (zeros (block_room (parcel_size new.message))) h there.0 there.1 → PutsBlock
      (zeros (block_room (parcel_size new.message))) post.heap d there.1
      → SameShape there.0 d → h1 ≡ poked there.1 0 (parcel_bytes 0 new) there.0 → k ≡ relinked (entry_at q.entries to).last there.1 h1
      → ArePostChains k (longer_chains to there.1 q) (queued_in l (d, there.1) post)
  unfolding padded
  letter-queued p a lt named-to fits puts puts' shape e1 ek =
      let zs : List ℕ = zeros (block_room (parcel_size new.message)) in
      let e : List ℕ = parcel_bytes 0 new in
      let last : ℕ = (entry_at q.entries to).last in
      let s = seated h q post to p lt in
      let row : SeatRow = row_at (rows_of post) to in
      let in-h1 : block_bytes there.1 h1 ≡ Some (padded 0 new) = ap (block_bytes there.1) e1 ∙ (poked-pokes there.1 0 e there.0 zs puts.here).here in
      let keeps1 : (b : ℕ) → b ≢ there.1 → block_bytes b h1 ≡ block_bytes b h =
      λ b ne. ap (block_bytes b) e1 ∙ poked-other there.1 b 0 e there.0 ne ∙ puts.others b ne in
      let w = links h h1 k last there.1 puts.fresh keeps1 ek in
      let lies-row = p.rows.each to s.row in
      let above = block-above there.1 there.0 zs puts.here in
      let apart : there.1 ≢ last = new-last h there.1 (entry_at q.entries to) row puts.fresh above lies-row in
      let in-k : block_bytes there.1 k ≡ Some (padded 0 new) = ap (block_bytes there.1) ek ∙ relinked-other last there.1 there.1 h1 apart ∙ in-h1 in
      let off : (j : ℕ) → j < length (rows_of post) → Off there.1 (row_parcels (row_at (rows_of post) j)) =
      λ j b. row-fresh h (entry_at q.entries j) (row_at (rows_of post) j) there.1 puts.fresh (p.rows.each j b) in
      let in-d : block_bytes there.1 (poked there.1 0 e d) ≡ Some (padded 0 new) = (poked-pokes there.1 0 e d zs puts'.here).here in
      let shape' : SameShape k (poked there.1 0 e d) =
      shape-both (subst (λ (x : Heap). SameShape x h1) (sym ek) (relinked-shape last there.1 h1))
      (shape-both (subst (λ (x : Heap). SameShape x there.0) (sym e1) (poked-shape there.1 0 e there.0))
      (shape-both shape (shape-sym (poked-shape there.1 0 e d)))) in
      queue-longer h k q post new to (poked there.1 0 e d) p a.live (not_le most_messages (live_count post) a.room) lt named-to off w
      (record { block = in-k; fits = fits }) shape' in-d
      (λ b ne. poked-other there.1 b 0 e d ne ∙ puts'.others b ne) (q.next_ref + 1) (post.next_ref + 1) (ap (λ n. n + 1) p.next_ref)
    where
      new-last : (g : Heap) (x : ℕ) (en : Entry) (r : SeatRow) → block_bytes x g ≡ None → 20 ≤ x → RowLies g en r → x ≢ en.last
      new-last g x en r f b lies = go r.chain lies.last lies.chain
        where
          go : (ps : List Parcel) → en.last ≡ last_block ps → Chain g ps 0 → x ≢ en.last
          go [] el c = omega arith
          go (y ∷ ps) el c =
              λ z. let t = last-there g y ps 0 c in let bad : Some t.bytes ≡ None = sym t.found ∙ ap (λ n. block_bytes n g) (sym (z ∙ el)) ∙ f in cc

-- ---- what a task holds is put down
live-same : (y : ℕ) (o : Option Parcel) (seats : List Seat) (i : ℕ) → has_seat y (set seats i (seat_with o (seat_at seats i))) ≡ has_seat y seats
live-same y o [] i = refl
live-same y o (s ∷ seats) zero = refl
live-same y o (s ∷ seats) (suc i) = ap (cond (eqb s.handle y) true) (live-same y o seats i)

pub all-live-same : (o : Option Parcel) (seats : List Seat) (i : ℕ) (ps : List Parcel) → AllLive seats ps
    → AllLive (set seats i (seat_with o (seat_at seats i))) ps
all-live-same o seats i [] a = tt
all-live-same o seats i (p ∷ ps) a = (live-same p.to o seats i ∙ a.0, all-live-same o seats i ps a.1)

module _ (h k : Heap) (q : Chains) (post : Post) (x i : ℕ) (p : Parcel) where
  pub put-down : ArePostChains h q post → i < length q.entries → (entry_at q.entries i).handle ≡ x → held_by x post.seats ≡ Some p
      → k ≡ release_block (entry_at q.entries i).held h → ArePostChains k (emptied_chains i q) (put_down x post)
  put-down s lt handle held ek =
      let w = seated h q post i s lt in
      let row : SeatRow = row_at (rows_of post) i in
      let seat : Seat = seat_at post.seats i in
      let names = named h q post s in
      let here : seat.holds ≡ Some p = sym (held-at post.seats i x names w.seat (sym w.handle ∙ handle)) ∙ held in
      let row-holds : row.held ≡ Some p = ap (λ (r : SeatRow). r.held) w.row_is ∙ here in
      let holds = subst (Holds h (entry_at q.entries i).held) row-holds (s.rows.each i w.row).held in
      let k-is : k ≡ release_block p.block h = ek ∙ ap (λ b. release_block b h) holds.0 in
      let frees = release-frees p.block h in
      let frees' = release-frees p.block post.heap in
      let seats-are : with_held x None post.seats ≡ set post.seats i (seat_with None seat) =
      with_held-at None post.seats i x names w.seat (sym w.handle ∙ handle) in
      let rows-are : map (seat_row post.queued) (with_held x None post.seats) ≡ set (rows_of post) i (without_held row) =
      ap (map (seat_row post.queued)) seats-are ∙ rows-seat post.queued post.seats i (seat_with None seat)
      ∙ ap (λ r. set (rows_of post) i (without_held r)) (sym w.row_is) in
      let keeps : KeepsBut h k p.block p.block = record { each = λ b ne ne'. ap (block_bytes b) k-is ∙ frees.others b ne } in
      let heap-is : release_held (held_by x post.seats) post.heap ≡ release_block p.block post.heap = ap (λ o. release_held o post.heap) held in
      let counts = count-seat post.seats i (seat_with None seat) w.seat in
      let one : count_held seat.holds ≡ 1 = ap count_held here in
      let total-is = ap (total (λ (t : Seat). count_held t.holds)) seats-are in
      let live = s.live in
      let few = s.few in
      record {
        rows = subst (RowsLie k (set q.entries i (emptied (entry_at q.entries i)))) (sym rows-are)
            (dropped h k q.entries (rows_of post) i p w.row s.rows row-holds keeps);
        linked = subst (λ (d : Heap). IsLinked k d (map (seat_row post.queued) (with_held x None post.seats))) (sym heap-is)
            (subst (IsLinked k (release_block p.block post.heap)) (sym rows-are)
            (linked-dropped h k post.heap (release_block p.block post.heap) (rows_of post) i p q.entries w.row s.rows row-holds s.linked
            (subst (λ (g : Heap). SameShape g (release_block p.block post.heap)) (sym k-is) (release-alike p.block h post.heap s.linked.shape))
            (ap (block_bytes p.block) k-is ∙ frees.gone) (λ b ne. ap (block_bytes b) k-is ∙ frees.others b ne) frees'.gone frees'.others));
        live = omega arith;
        recipients = subst (λ ss. AllLive ss post.queued) (sym seats-are) (all-live-same None post.seats i post.queued s.recipients);
        few = omega arith;
        next_ref = s.next_ref;
      }

-- ---- a send, by its calls
granted_of : (g : Granted (Heap × ℕ)) (block : ℕ) → Ok block ≡ answer_of g → (there : Heap × ℕ) × ((g ≡ Ok there) × (block ≡ there.1))
granted_of (Ok there) block e = (there, (refl, cc))
granted_of (Err r) block e = absurd cc

pub alike-ok : (g k : Granted (Heap × ℕ)) (x : Heap × ℕ) → Alike g k → g ≡ Ok x → (d : Heap) × ((k ≡ Ok (d, x.1)) × SameShape x.0 d)
alike-ok (Ok y) (Ok z) x a e =
    let yx : ◌≡◌ {A = Heap × ℕ} y x = cc in
    let b : (y.1 ≡ z.1) × SameShape y.0 z.0 = a in
    (z.0, (ap (λ i. Ok (z.0, i)) (sym b.0 ∙ ap (λ (w : Heap × ℕ). w.1) yx), subst (λ (w : Heap × ℕ). SameShape w.0 z.0) yx b.1))
alike-ok (Ok y) (Err s) x a e = absurd a
alike-ok (Err r) k x a e = absurd cc

alike-err : (g k : Granted (Heap × ℕ)) (r : Refusal) → Alike g k → Err r ≡ answer_of g → k ≡ Err r
alike-err (Ok y) k r a e = absurd cc
alike-err (Err s) (Ok z) r a e = absurd a
alike-err (Err s) (Err t) r a e = let b : s ≡ t = a in ap Err cc

-- a letter was admitted, and its block refused
pub send-short : (h : Heap) (q : Chains) (post : Post) (free : ℕ) (l : Letter) (refusal : Refusal) → ArePostChains h q post → refusal_for l.to q ≡ None
    → Err refusal ≡ answer_of (module_claim free (parcel_size (message_of l 0)) h) → post_send free l post ≡ Err refusal
send-short h q post free l refusal p ok e =
    let size = parcel_size (message_of l 0) in
    send-no_room h q post free l refusal (admits h q post l.to p ok) (alike-err (module_claim free size h) (module_claim free size post.heap) refusal
    (module_claim-alike free size h post.heap p.linked.shape) e)

-- the same, claimed, written and linked
pub record Joined (m n k : Memory) (module_area : Module) (q : Chains) (post : Post) (l : Letter) (to block : ℕ) : Type 0 where
  pub plain : Heap
  pub admitted : Admits (module_heap_in m module_area) q post l.to
  pub granted : module_claim m.free (parcel_size (message_of l 0)) post.heap ≡ Ok (plain, block)
  pub spells : ArePostChains (module_heap_in k module_area) (longer_chains to block q) (queued_in l (plain, block) post)

pub letter-joined : (m n k : Memory) (module_area : Module) (q : Chains) (post : Post) (l : Letter) (to block : ℕ) → ArePostChains
    (module_heap_in m module_area) q post
    → refusal_for l.to q ≡ None → to < length q.entries → (entry_at q.entries to).handle ≡ l.to → Fits (message_of l q.next_ref)
    → Ok block ≡ answer_of (module_claim m.free (parcel_size (message_of l 0)) (module_heap_in m module_area))
    → ((there : Heap × ℕ) → module_claim m.free (parcel_size (message_of l 0)) (module_heap_in m module_area) ≡ Ok there
    → Turns m n module_area (poked there.1 0 (word_bytes 0 ++ (word_bytes (code_number l.code) ++ encoded (message_of l q.next_ref))) there.0))
    → module_heap_in k module_area ≡ relinked (entry_at q.entries to).last block (module_heap_in n module_area) → Joined m n k module_area q post l to block
letter-joined m n k module_area q post l to block p ok lt named-to fits ea placed ek =
    let h : Heap = module_heap_in m module_area in
    let size : ℕ = parcel_size (message_of l 0) in
    let a = admits h q post l.to p ok in
    let g = granted_of (module_claim m.free size h) block ea in
    let there : Heap × ℕ = g.0 in
    let w = placed there g.1.0 in
    let plain = alike-ok (module_claim m.free size h) (module_claim m.free size post.heap) there (module_claim-alike m.free size h post.heap p.linked.shape)
    g.1.0 in
    let puts = module_claim-puts m.free size h there g.1.0 in
    let puts' = module_claim-puts m.free size post.heap (plain.0, there.1) plain.1.0 in
    let bytes-are : word_bytes 0 ++ (word_bytes (code_number l.code) ++ encoded (message_of l q.next_ref)) ≡ parcel_bytes 0
    (parcel_of l post.next_ref there.1) =
    ap (λ r. word_bytes 0 ++ (word_bytes (code_number l.code) ++ encoded (message_of l r))) p.next_ref
    ∙ sym (parcel-row 0 (parcel_of l post.next_ref there.1)) in
    let fits' : Fits (message_of l post.next_ref) = subst (λ r. Fits (message_of l r)) p.next_ref fits in
    let s : ArePostChains (module_heap_in k module_area) (longer_chains to there.1 q) (queued_in l (plain.0, there.1) post) =
    letter-queued h (module_heap_in n module_area) (module_heap_in k module_area) q post l to there plain.0 p a lt named-to fits' puts puts' plain.1.1
    (w.heap ∙ ap (λ bs. poked there.1 0 bs there.0) bytes-are) (ek ∙ ap (λ b. relinked (entry_at q.entries to).last b (module_heap_in n module_area)) g.1.1) in
    record {
      plain = plain.0;
      admitted = a;
      granted = plain.1.0 ∙ ap (λ b. Ok (plain.0, b)) (sym g.1.1);
      spells = subst (λ b. ArePostChains (module_heap_in k module_area) (longer_chains to b q) (queued_in l (plain.0, b) post)) (sym g.1.1) s;
    }

-- the chain's last block is still there once the new one is written
pub last-has : (h : Heap) (e : Entry) (r : SeatRow) → RowLies h e r → e.last ≢ 0 → HasBlock e.last 24 h
last-has h e r l ne = go r.chain l.last l.chain
  where
    go : (ps : List Parcel) → e.last ≡ last_block ps → Chain h ps 0 → HasBlock e.last 24 h
    go [] el c = absurd (ne el)
    go (p ∷ ps) el c = subst (λ b. HasBlock b 24 h) (sym el) (last-there h p ps 0 c)

pub last-stays : (m n : Memory) (module_area : Module) (q : Chains) (post : Post) (size block to : ℕ) (xs : List ℕ) → ArePostChains
    (module_heap_in m module_area) q post
    → to < length q.entries → Ok block ≡ answer_of (module_claim m.free size (module_heap_in m module_area))
    → ((there : Heap × ℕ) → module_claim m.free size (module_heap_in m module_area) ≡ Ok there → Turns m n module_area (poked there.1 0 xs there.0))
    → (entry_at q.entries to).last ≢ 0 → HasBlock (entry_at q.entries to).last 4 (module_heap_in n module_area)
last-stays m n module_area q post size block to xs p lt ea placed ne =
    let h : Heap = module_heap_in m module_area in
    let last : ℕ = (entry_at q.entries to).last in
    let s = seated h q post to p lt in
    let g = granted_of (module_claim m.free size h) block ea in
    let there : Heap × ℕ = g.0 in
    let w = placed there g.1.0 in
    let puts = module_claim-puts m.free size h there g.1.0 in
    let b = last-has h (entry_at q.entries to) (row_at (rows_of post) to) (p.rows.each to s.row) ne in
    let other : last ≢ there.1 = λ z. let bad : Some b.bytes ≡ None = sym b.found ∙ ap (λ x. block_bytes x h) z ∙ puts.fresh in cc in
    record {
      bytes = b.bytes;
      found = ap (block_bytes last) w.heap ∙ poked-other there.1 last 0 xs there.0 other ∙ puts.others last other ∙ b.found;
      room = let r = b.room in omega arith;
    }

pub new-there : (m n : Memory) (module_area : Module) (size block : ℕ) (xs : List ℕ) → Ok block ≡ answer_of
    (module_claim m.free size (module_heap_in m module_area))
    → ((there : Heap × ℕ) → module_claim m.free size (module_heap_in m module_area) ≡ Ok there → Turns m n module_area (poked there.1 0 xs there.0))
    → IsModule n module_area × (OnlyArea m n module_area.area.0 × HasBlock block 0 (module_heap_in n module_area))
new-there m n module_area size block xs ea placed =
    let h : Heap = module_heap_in m module_area in
    let g = granted_of (module_claim m.free size h) block ea in
    let there : Heap × ℕ = g.0 in
    let w = placed there g.1.0 in
    let puts = module_claim-puts m.free size h there g.1.0 in
    let zs : List ℕ = zeros (block_room size) in (
      w.still,
      (
        w.only,
        record {
          bytes = with_part zs 0 xs;
          found = ap (block_bytes block) w.heap ∙ ap (λ b. block_bytes b (poked there.1 0 xs there.0)) g.1.1
              ∙ (poked-pokes there.1 0 xs there.0 zs puts.here).here;
          room = omega arith;
        },
      ),
    )

-- and the message that it answers is put down
pub letter-settled : (n : Memory) (k : Memory) (module_area : Module) (q : Chains) (post : Post) (l : Letter) (to block from freed : ℕ) (plain : Heap)
    (es : List Entry)
    → ArePostChains (module_heap_in n module_area) (longer_chains to block q) (queued_in l (plain, block) post) → from < length
    (longer_chains to block q).entries
    → (entry_at (longer_chains to block q).entries from).handle ≡ l.from
    → Settled n k module_area (longer_chains to block q).entries es from l.your_ref (held_by l.from post.seats) freed
    → ArePostChains (module_heap_in k module_area) (record { entries = es; live = q.live + 1 - freed; next_ref = q.next_ref + 1 })
    (posted l (plain, block) post)
letter-settled n k module_area q post l to block from freed plain es p lt named-from s = go (answers_held l.your_ref (held_by l.from post.seats)) refl s
  where
    go : (t : Bool) → answers_held l.your_ref (held_by l.from post.seats) ≡ t → PutsDown t n k module_area (longer_chains to block q).entries es from freed
        → ArePostChains (module_heap_in k module_area) (record { entries = es; live = q.live + 1 - freed; next_ref = q.next_ref + 1 })
        (cond t (put_down l.from (queued_in l (plain, block) post)) (queued_in l (plain, block) post))
    go true et d =
        let o = answered-some l.your_ref (held_by l.from post.seats) et in
        let r = put-down (module_heap_in n module_area) (module_heap_in k module_area) (longer_chains to block q)
        (queued_in l (plain, block) post) l.from from o.0 p lt named-from o.1
        d.2.heap in
        subst (λ xs. ArePostChains (module_heap_in k module_area) (record { entries = xs; live = q.live + 1 - freed; next_ref = q.next_ref + 1 })
        (put_down l.from (queued_in l (plain, block) post))) (sym d.1)
        (subst (λ f. ArePostChains (module_heap_in k module_area)
        (record {
          entries = set (longer_chains to block q).entries from (emptied (entry_at (longer_chains to block q).entries from));
          live = q.live + 1 - f;
          next_ref = q.next_ref + 1;
        }) (put_down l.from (queued_in l (plain, block) post))) (sym d.0) r)
    go false et d =
        subst (λ (m : Memory). ArePostChains (module_heap_in m module_area) (record { entries = es; live = q.live + 1 - freed; next_ref = q.next_ref + 1 })
        (queued_in l (plain, block) post)) (sym d.2)
        (subst (λ xs. ArePostChains (module_heap_in n module_area) (record { entries = xs; live = q.live + 1 - freed; next_ref = q.next_ref + 1 })
        (queued_in l (plain, block) post)) (sym d.1)
        (subst (λ f. ArePostChains (module_heap_in n module_area) (record { entries = (longer_chains to block q).entries; live = f; next_ref = q.next_ref + 1 })
        (queued_in l (plain, block) post)) (let z : q.live + 1 ≡ q.live + 1 - freed = omega (arith, d.0) in z) p))

pub admitted-refs : (to : ℕ) (q : Chains) → refusal_for to q ≡ None → q.next_ref < 2 ^ 32
admitted-refs to q e = go (position (λ (x : Entry). x.handle == to) q.entries) e
  where
    go : (o : Option ℕ) → refusal_at o q ≡ None → q.next_ref < 2 ^ 32
    go None z = absurd (let bad : Some NoTask ≡ None = z in cc)
    go (Some i) z = not_le (2 ^ 32) q.next_ref (past_none i q z).0

longer-handle : (es : List Entry) (to block i : ℕ) → to < length es
    → (entry_at (set es to (lengthened block (entry_at es to))) i).handle ≡ (entry_at es i).handle
longer-handle es to block i l = elim (cases_eq i to) [
  | inl z ↦ ap (λ n. (entry_at (set es to (lengthened block (entry_at es to))) n).handle) z
      ∙ ap (λ (e : Entry). e.handle) (get_or-set_same es to (lengthened block (entry_at es to)) no_entry l) ∙ ap (λ n. (entry_at es n).handle) (sym z)
  | inr ne ↦ ap (λ (e : Entry). e.handle) (get_or-set_other es to i (lengthened block (entry_at es to)) no_entry ne)
]

-- the row of a task, by its entry
pub record Owns (h : Heap) (q : Chains) (post : Post) (x i : ℕ) : Type 0 where
  pub entry : i < length q.entries
  pub handle : (entry_at q.entries i).handle ≡ x
  pub row : i < length (rows_of post)
  pub named : (row_at (rows_of post) i).handle ≡ x
  pub held : (row_at (rows_of post) i).held ≡ held_by x post.seats

pub owns : (h : Heap) (q : Chains) (post : Post) (x i : ℕ) → ArePostChains h q post → i < length q.entries → (entry_at q.entries i).handle ≡ x
    → Owns h q post x i
owns h q post x i p l e =
    let s = seated h q post i p l in
    record {
      entry = l;
      handle = e;
      row = s.row;
      named = sym (p.rows.each i s.row).handle ∙ e;
      held = ap (λ (r : SeatRow). r.held) s.row_is ∙ sym (held-at post.seats i x (named h q post p) s.seat (sym s.handle ∙ e));
    }

pub owns-longer : (h k : Heap) (q : Chains) (post : Post) (l : Letter) (to block i : ℕ) (plain : Heap)
    → ArePostChains k (longer_chains to block q) (queued_in l (plain, block) post) → to < length q.entries
    → i < length q.entries → (entry_at q.entries i).handle ≡ l.from → Owns k (longer_chains to block q) (queued_in l (plain, block) post) l.from i
owns-longer h k q post l to block i plain p lt li e =
    let n = length-set q.entries to (lengthened block (entry_at q.entries to)) in
    owns k (longer_chains to block q) (queued_in l (plain, block) post) l.from i p (omega arith) (longer-handle q.entries to block i lt ∙ e)

-- ---- the pages of a send
pub pages-refused : (h : Heap) (q : Chains) (post : Post) (l : Letter) (refusal : Refusal) → ArePostChains h q post → refusal_for l.to q ≡ Some refusal
    → post_send_pages l post ≡ Err refusal
unfolding post_send_pages
pages-refused h q post l refusal p e = then_refused (sendable l post) refusal _ (sendable-refused h q post l refusal p e)

pub pages-granted : (h : Heap) (q : Chains) (post : Post) (l : Letter) (n : ℕ) → ArePostChains h q post → refusal_for l.to q ≡ None
    → n ≡ parcel_size (message_of l 0) → module_need_pages n h ≡ post_send_pages l post
unfolding post_send_pages
pages-granted h q post l n p e en =
    let a = admits h q post l.to p e in
    module_need_pages-alike n h post.heap p.linked.shape ∙ ap (λ k. module_need_pages k post.heap) en
    ∙ sym (then_is (sendable l post) tt _ (sendable-granted h q post l a))
