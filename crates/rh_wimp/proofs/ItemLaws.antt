-- The live messages as they are listed.
use Rattle.rh_wimp.proofs.Common.{◌≡◌, ℕ, zero, suc, ◌+◌, ◌<◌, ◌≤◌, ◌≢◌, Bool, true, false, List, [], ◌∷◌, ◌++◌, length, map, drop, get_or, refl, sym}
use Rattle.rh_wimp.proofs.Common.{ap, ◌∙◌, arith, append-nil, length-map, length-append, append_assoc, Option, Some, None, word, HasBlock, block_bytes, Heap}
use Rattle.rh_wimp.proofs.Common.{Memory, bytes, Parcel, padded, parcel_size, Action, EventCode, total, Seat, Post}
use Rattle.rh_wimp.proofs.Common.{count_held, most_messages, room_enough, encoded-most, length-padded, link_read, IsModule, module_heap_in, Module, Chain}
use Rattle.rh_wimp.proofs.Common.{Chains}
use Rattle.rh_wimp.proofs.Common.{Holds, ArePostChains, SeatRow, first_block, held_list, no_row, seat_row, row_at, rows_of, LinksAt, held_items}
use Rattle.rh_wimp.proofs.Common.{message_item_of, waiting_items}
use Rattle.rh_wimp.proofs.Common.{by_seats, area_limit}
use Rattle.std.proofs.Math.ListN.{drop_of_length-le}
use Rattle.rh_defs.specs.Messages.{Fits}
use Rattle.rh_defs.specs.declared.message.MessageItem.{MessageItem}
use Rattle.rh_wimp.proofs.OrderLaws.{by_seats-length, sent_to}
use Rattle.rh_wimp.proofs.PollLaws.{next-small}
use Rattle.rh_wimp.proofs.RowEdits.{lies-above}
use Rattle.rh_wimp.proofs.SendLaws.{named}
use Rattle.rh_wimp.proofs.TakeLaws.{next-there}

-- ---- one block
-- a message's block has room for all words that every message has
padded-more : (link : ℕ) (p : Parcel) → Fits p.message → 28 ≤ length (padded link p)
padded-more link p f =
    let n = encoded-most p.message f.name in
    let least = n.0 in
    omega (arith, length-padded link p, room_enough (parcel_size p.message), least)

module _ {m : Memory} {module_area : Module} {block link : ℕ} {p : Parcel} (w : LinksAt m module_area block link p) where
  pub links-bytes : block_bytes block (module_heap_in m module_area) ≡ Some (padded link p)
  links-bytes = ap (λ a. block_bytes a (module_heap_in m module_area)) w.block_is ∙ w.lies.block

  pub links-has : HasBlock block 28 (module_heap_in m module_area)
  links-has = record { bytes = padded link p; found = links-bytes; room = padded-more link p w.lies.fits }

-- what is read is an item
pub same-item : {block block' to from from' ref ref' : ℕ} {held : Bool} {act act' : Action} {code code' : EventCode}
    → block ≡ block' → from ≡ from' → ref ≡ ref' → act ≡ act' → code ≡ code'
    → (let x : MessageItem = record { block = block; to = to; from = from; my_ref = ref; action = act; code = code; held = held } in x)
    ≡ (let y : MessageItem = record { block = block'; to = to; from = from'; my_ref = ref'; action = act'; code = code'; held = held } in y)
same-item p q r s t = cc

-- ---- a walk along a chain
abbrev pub waiting : ℕ → List Parcel → List MessageItem
waiting to ps = map (message_item_of to false) ps

-- what is listed, and what is left of the chain from a block on, are the whole chain behind what the list had
pub record Walks (h : Heap) (block turn to : ℕ) (ps : List Parcel) (old items : List MessageItem) : Type 0 where
  pub rest : List Parcel
  pub block_is : block ≡ first_block rest 0
  pub chain : Chain h rest 0
  pub few : length rest + turn ≤ most_messages
  pub room : length items + length rest ≤ most_messages
  pub all : items ++ waiting to rest ≡ old ++ waiting to ps

-- the message whose block is the next one
pub record Meets (m : Memory) (module_area : Module) (block turn to : ℕ) (ps : List Parcel) (old items : List MessageItem) : Type 0 where
  pub parcel : Parcel
  pub rest : List Parcel
  pub links : LinksAt m module_area block (first_block rest 0) parcel
  pub chain : Chain (module_heap_in m module_area) rest 0
  pub few : length rest + suc turn ≤ most_messages
  pub room : suc (length items) + length rest ≤ most_messages
  pub all : items ++ (message_item_of to false parcel ∷ waiting to rest) ≡ old ++ waiting to ps

pub walk-begins : (h : Heap) (first to : ℕ) (ps : List Parcel) (old : List MessageItem) → first ≡ first_block ps 0 → Chain h ps 0
    → length old + length ps ≤ most_messages → Walks h first 0 to ps old old
walk-begins h first to ps old e c l = record { rest = ps; block_is = e; chain = c; few = omega arith; room = l; all = refl }

pub walk-none : (h : Heap) (block turn to : ℕ) (ps : List Parcel) (old items : List MessageItem) → Walks h block turn to ps old items → block ≡ 0
    → items ≡ old ++ waiting to ps
walk-none h block turn to ps old items w z = go w.rest w.block_is w.chain w.all
  where
    go : (rest : List Parcel) → block ≡ first_block rest 0 → Chain h rest 0 → items ++ waiting to rest ≡ old ++ waiting to ps → items ≡ old ++ waiting to ps
    go [] e c all = sym (append-nil items) ∙ all
    go (p ∷ rest) e c all = let l = lies-above h (first_block rest 0) p c.0 in absurd (omega arith)

pub walk-past : (h : Heap) (block turn to : ℕ) (ps : List Parcel) (old items : List MessageItem) → Walks h block turn to ps old items → most_messages ≤ turn
    → items ≡ old ++ waiting to ps
walk-past h block turn to ps old items w z = go w.rest w.few w.all
  where
    go : (rest : List Parcel) → length rest + turn ≤ most_messages → items ++ waiting to rest ≡ old ++ waiting to ps → items ≡ old ++ waiting to ps
    go [] f all = sym (append-nil items) ∙ all
    go (p ∷ rest) f all = absurd (omega arith)

pub walk-some : (m : Memory) (module_area : Module) (block turn to : ℕ) (ps : List Parcel) (old items : List MessageItem) → IsModule m module_area
    → length (bytes m module_area.area.0) ≤ area_limit → Walks (module_heap_in m module_area) block turn to ps old items → block ≢ 0
    → Meets m module_area block turn to ps old items
walk-some m module_area block turn to ps old items s l w ne = go w.rest w.block_is w.chain w.few w.room w.all
  where
    go : (rest : List Parcel) → block ≡ first_block rest 0 → Chain (module_heap_in m module_area) rest 0 → length rest + turn ≤ most_messages
        → length items + length rest ≤ most_messages → items ++ waiting to rest ≡ old ++ waiting to ps → Meets m module_area block turn to ps old items
    go [] e c f r all = absurd (ne e)
    go (p ∷ rest) e c f r all = record {
      parcel = p;
      rest = rest;
      links = record {
        lies = c.0;
        block_is = e;
        small = next-small m module_area (first_block rest 0) s l
            (next-there (module_heap_in m module_area) rest c.1);
      };
      chain = c.1;
      few = omega arith;
      room = omega arith;
      all = all;
    }

pub walk-on : (m : Memory) (module_area : Module) (block turn to next : ℕ) (ps : List Parcel) (old items more : List MessageItem) (item : MessageItem)
    (w : Meets m module_area block turn to ps old items)
    → more ≡ items ++ item ∷ [] → item ≡ message_item_of to false w.parcel →
    ((bs : List ℕ) → block_bytes block (module_heap_in m module_area) ≡ Some bs → next ≡ word bs 0)
    → Walks (module_heap_in m module_area) next (turn + 1) to ps old more
walk-on m module_area block turn to next ps old items more item w e f r = record {
  rest = w.rest;
  block_is = r (padded (first_block w.rest 0) w.parcel) (links-bytes w.links) ∙ link_read (first_block w.rest 0) w.parcel w.links.small w.links.lies.fits;
  chain = w.chain;
  few = let few = w.few in omega arith;
  room = let room = w.room in omega (arith, ap length e, length-append items (item ∷ []));
  all =
      ap (λ l. l ++ waiting to w.rest) (e ∙ ap (λ x. items ++ x ∷ []) f) ∙ append_assoc items (message_item_of to false w.parcel ∷ []) (waiting to w.rest)
      ∙ w.all;
}

-- ---- task by task
drop-here : {A : Type 0} (xs : List A) (i : ℕ) (d : A) → i < length xs → drop i xs ≡ get_or xs i d ∷ drop (suc i) xs
drop-here [] i d l = absurd (omega arith)
drop-here (x ∷ xs) zero d l = refl
drop-here (x ∷ xs) (suc i) d l = drop-here xs i d (omega arith)

drop-at : {A : Type 0} (xs : List A) (i : ℕ) (d : A) → i < length xs → drop i xs ≡ get_or xs i d ∷ drop (i + 1) xs
drop-at xs i d l = drop-here xs i d l ∙ ap (λ k. get_or xs i d ∷ drop k xs) (let next : suc i ≡ i + 1 = omega arith in next)

-- what is listed, and what the rows from a place on have, are all behind what the list had
abbrev pub Goes : (List SeatRow → List MessageItem) → ℕ → List SeatRow → List MessageItem → List MessageItem → Type 0
Goes listed i rows old items = items ++ listed (drop i rows) ≡ old ++ listed rows

pub goes-room : (listed : List SeatRow → List MessageItem) (here : SeatRow → List MessageItem) (i : ℕ) (rows : List SeatRow) (old items : List MessageItem)
    → ((r : SeatRow) (rs : List SeatRow) → listed (r ∷ rs) ≡ here r ++ listed rs) → i < length rows → Goes listed i rows old items
    → length old + length (listed rows) ≤ most_messages → length items + length (here (row_at rows i)) ≤ most_messages
goes-room listed here i rows old items by l g few =
    omega (
      arith,
      ap length (ap (λ x. items ++ listed x) (sym (drop-at rows i no_row l)) ∙ g),
      ap length (by (row_at rows i) (drop (i + 1) rows)),
      length-append items (listed (row_at rows i ∷ drop (i + 1) rows)),
      length-append (here (row_at rows i)) (listed (drop (i + 1) rows)),
      length-append old (listed rows),
    )

pub goes-on : (listed : List SeatRow → List MessageItem) (here : SeatRow → List MessageItem) (i : ℕ) (rows : List SeatRow) (old items more : List MessageItem)
    → ((r : SeatRow) (rs : List SeatRow) → listed (r ∷ rs) ≡ here r ++ listed rs) → i < length rows → Goes listed i rows old items
    → more ≡ items ++ here (row_at rows i) → Goes listed (i + 1) rows old more
goes-on listed here i rows old items more by l g e =
    ap (λ x. x ++ listed (drop (i + 1) rows)) e
    ∙ append_assoc items (here (row_at rows i)) (listed (drop (i + 1) rows))
    ∙ ap (λ x. items ++ x) (sym (by (row_at rows i) (drop (i + 1) rows)) ∙ ap listed (sym (drop-at rows i no_row l)))
    ∙ g

pub goes-past : (listed : List SeatRow → List MessageItem) (i : ℕ) (rows : List SeatRow) (old items : List MessageItem) → listed [] ≡ [] → length rows ≤ i
    → Goes listed i rows old items → items ≡ old ++ listed rows
goes-past listed i rows old items none l g =
    sym (append-nil items) ∙ ap (λ x. items ++ x) (sym none ∙ ap listed (sym (drop_of_length-le rows l))) ∙ g

abbrev pub waiting_of : SeatRow → List MessageItem
waiting_of r = map (message_item_of r.handle false) r.chain

abbrev pub held_of : SeatRow → List MessageItem
held_of r = map (message_item_of r.handle true) (held_list r.held)

-- ---- there is room for all
waiting-count : (queued : List Parcel) (seats : List Seat) → length (waiting_items (map (seat_row queued) seats)) ≡ length (by_seats seats queued)
waiting-count queued [] = refl
waiting-count queued (s ∷ seats) =
    omega (
      arith,
      length-append (waiting_of (seat_row queued s)) (waiting_items (map (seat_row queued) seats)),
      length-map (sent_to s.handle queued) (message_item_of s.handle false),
      length-append (sent_to s.handle queued) (by_seats seats queued),
      waiting-count queued seats,
    )

held-one : (h : ℕ) (o : Option Parcel) → length (map (message_item_of h true) (held_list o)) ≡ count_held o
held-one h None = refl
held-one h (Some p) = refl

held-count : (queued : List Parcel) (seats : List Seat) → length (held_items (map (seat_row queued) seats)) ≡ total (λ (s : Seat). count_held s.holds) seats
held-count queued [] = refl
held-count queued (s ∷ seats) =
    omega (arith, length-append (held_of (seat_row queued s)) (held_items (map (seat_row queued) seats)), held-one s.handle s.holds, held-count queued seats)

pub items-few : (h : Heap) (q : Chains) (post : Post) → ArePostChains h q post
    → length (waiting_items (rows_of post)) + length (held_items (rows_of post)) ≤ most_messages
items-few h q post s =
    omega (
      arith,
      waiting-count post.queued post.seats,
      held-count post.queued post.seats,
      by_seats-length post.seats post.queued (named h q post s) s.recipients,
      s.few,
    )

-- ---- what is held
pub nothing-held : (h : Heap) (o : Option Parcel) (block : ℕ) → Holds h block o → block ≡ 0 → o ≡ None
nothing-held h None block s z = refl
nothing-held h (Some p) block s z = let a = lies-above h 0 p s.1 in let e = s.0 in absurd (omega arith)
