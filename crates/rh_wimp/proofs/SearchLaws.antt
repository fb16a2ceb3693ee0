-- Laws of searches among the live messages.
use Rattle.rh_wimp.proofs.Common.{◌≡◌, ℕ, zero, suc, ◌+◌, ◌<◌, ◌≤◌, ◌≢◌, ◌^◌, inl, inr, Bool, true, false, cond, eqb, List, [], ◌∷◌, length, map, refl, sym}
use Rattle.rh_wimp.proofs.Common.{ap, ◌∙◌, arith, eqb_tells, length-map, Option, Some, None, filter, ◌==◌, ◌||◌, list_any, Heap, Parcel, padded, Seat, Post}
use Rattle.rh_wimp.proofs.Common.{has_seat, holds_such, most_messages, HasBlock, block_bytes, word, Memory, bytes, link_read, padded-least, IsModule}
use Rattle.rh_wimp.proofs.Common.{module_heap_in}
use Rattle.rh_wimp.proofs.Common.{Module, Chain, Chains, Holds, Lies, SeatRow, ArePostChains, AllLive, first_block, held_list, row_at, seat_row, row_parcels}
use Rattle.rh_wimp.proofs.Common.{rows_of}
use Rattle.rh_wimp.proofs.Common.{area_limit}
use Rattle.std.proofs.lemmas.List.Folds.{list_any-append}
use Rattle.rh_defs.specs.Post.{has_message}
use Rattle.rh_wimp.proofs.PollLaws.{next-small}
use Rattle.rh_wimp.proofs.RowEdits.{lies-above}
use Rattle.rh_wimp.proofs.TakeLaws.{next-there}
use Rattle.rh_wimp.specs.Inner.Searches.{AreShortChains, has_code, rows_have}
use Rattle.rh_wimp.specs.declared.searching.Wanted.TheVariants.{At}
use Rattle.rh_defs.proofs.BytesLaws.{word-part}
use Rattle.rh_defs.proofs.HeapLists.{leb_yes}
use Rattle.rh_defs.specs.Messages.{code_at}
use Rattle.rh_defs.specs.declared.message.EventCode.TheVariants.{Acknowledge, Recorded, User}
use Rattle.rh_module.proofs.BlockBytes.{stands}
use Rattle.std.specs.Prelude.{is_some, ◌&&◌}
use Rattle.rh_wimp.proofs.Common.{EventCode, Entry, RowLies, RowsLie, code_number, code_read, entry_at, eqb_apart, wants}
use Rattle.rh_wimp.proofs.PostLaws.{row-at, seat_at}

-- what is left of a chain, from a block on
pub record Ahead (h : Heap) (block turn : ℕ) (test : Parcel → Bool) (ps : List Parcel) : Type 0 where
  pub rest : List Parcel
  pub block_is : block ≡ first_block rest 0
  pub chain : Chain h rest 0
  pub few : length rest + turn ≤ most_messages
  pub same : list_any test ps ≡ list_any test rest

-- ---- tests of lists
or-swap : (a b c d : Bool) → ((a || b) || (c || d)) ≡ ((a || c) || (b || d))
or-swap true b c d = refl
or-swap false b true d = go b
  where
    go : (x : Bool) → (x || true) ≡ true
    go true = refl
    go false = refl
or-swap false b false d = refl

pub list_any-or : {A : Type 0} (f g : A → Bool) (xs : List A) → list_any (λ x. f x || g x) xs ≡ (list_any f xs || list_any g xs)
list_any-or f g [] = refl
list_any-or f g (x ∷ xs) = ap (λ t. (f x || g x) || t) (list_any-or f g xs) ∙ or-swap (f x) (g x) (list_any f xs) (list_any g xs)

pub list_any-same : {A : Type 0} (f g : A → Bool) (xs : List A) → ((x : A) → f x ≡ g x) → list_any f xs ≡ list_any g xs
list_any-same f g [] e = refl
list_any-same f g (x ∷ xs) e = ap (λ t. t || list_any f xs) (e x) ∙ ap (λ t. g x || t) (list_any-same f g xs e)

list_any-map : {A B : Type 0} (f : A → B) (test : B → Bool) (xs : List A) → list_any test (map f xs) ≡ list_any (λ x. test (f x)) xs
list_any-map f test [] = refl
list_any-map f test (x ∷ xs) = ap (λ t. test (f x) || t) (list_any-map f test xs)

-- ---- rows and the flat queue
abbrev chain_for : Seat → List Parcel → List Parcel
chain_for s queue = filter (λ (p : Parcel). p.to == s.handle) queue

one_message : (test : Parcel → Bool) (p : Parcel) (queue : List Parcel) (s : Seat)
    → list_any test (chain_for s (p ∷ queue)) ≡ (cond (eqb s.handle p.to) (test p) false || list_any test (chain_for s queue))
one_message test p queue s = elim (eqb_tells p.to s.handle) [
  | inl u ↦ ap (λ t. list_any test (cond t (p ∷ chain_for s queue) (chain_for s queue))) u.0
      ∙ sym (ap (λ t. cond t (test p) false || list_any test (chain_for s queue)) (same s.handle p.to (sym u.1)))
  | inr v ↦ ap (λ t. list_any test (cond t (p ∷ chain_for s queue) (chain_for s queue))) v.0
      ∙ sym (ap (λ t. cond t (test p) false || list_any test (chain_for s queue)) (apart s.handle p.to (λ z. v.1 (sym z))))
]
  where
    same : (x y : ℕ) → x ≡ y → eqb x y ≡ true
    same x y e = elim (eqb_tells x y) [ inl u ↦ u.0 | inr v ↦ absurd (v.1 e) ]

    apart : (x y : ℕ) → (x ≡ y → ⊥) → eqb x y ≡ false
    apart x y ne = elim (eqb_tells x y) [ inl u ↦ absurd (ne u.1) | inr v ↦ v.0 ]

-- a message is one of the chain of its recipient, if that one is live
by_seat : (test : Parcel → Bool) (p : Parcel) (seats : List Seat) → has_seat p.to seats ≡ true
    → list_any (λ (s : Seat). cond (eqb s.handle p.to) (test p) false) seats ≡ test p
by_seat test p [] e = absurd cc
by_seat test p (s ∷ seats) e = go (eqb s.handle p.to) e (by_seat test p seats)
  where
    nowhere : (ss : List Seat) → test p ≡ false → list_any (λ (s : Seat). cond (eqb s.handle p.to) (test p) false) ss ≡ false
    nowhere [] f = refl
    nowhere (y ∷ ss) f =
        elim (eqb y.handle p.to) as (λ t. (cond t (test p) false || list_any (λ (s : Seat). cond (eqb s.handle p.to) (test p) false) ss) ≡ false) [
          | true ↦ ap (λ t. t || list_any (λ (s : Seat). cond (eqb s.handle p.to) (test p) false) ss) f ∙ nowhere ss f
          | false ↦ nowhere ss f
        ]

    decided : (t : Bool) → test p ≡ t → (test p || list_any (λ (s : Seat). cond (eqb s.handle p.to) (test p) false) seats) ≡ test p
    decided true et = ap (λ t. t || list_any (λ (s : Seat). cond (eqb s.handle p.to) (test p) false) seats) et ∙ sym et
    decided false et = ap (λ t. t || list_any (λ (s : Seat). cond (eqb s.handle p.to) (test p) false) seats) et ∙ nowhere seats et ∙ sym et

    go : (t : Bool) → cond t true (has_seat p.to seats) ≡ true
        → (has_seat p.to seats ≡ true → list_any (λ (s : Seat). cond (eqb s.handle p.to) (test p) false) seats ≡ test p)
        → (cond t (test p) false || list_any (λ (s : Seat). cond (eqb s.handle p.to) (test p) false) seats) ≡ test p
    go true f h = decided (test p) refl
    go false f h = h f

queue_by_seats : (test : Parcel → Bool) (queue : List Parcel) (seats : List Seat) → AllLive seats queue
    → list_any (λ (s : Seat). list_any test (chain_for s queue)) seats ≡ list_any test queue
queue_by_seats test [] seats a = none seats
  where
    none : (ss : List Seat) → list_any (λ (s : Seat). false) ss ≡ false
    none [] = refl
    none (s ∷ ss) = none ss
queue_by_seats test (p ∷ queue) seats a =
    list_any-same (λ (s : Seat). list_any test (chain_for s (p ∷ queue)))
    (λ (s : Seat). cond (eqb s.handle p.to) (test p) false || list_any test (chain_for s queue)) seats (one_message test p queue)
    ∙ list_any-or (λ (s : Seat). cond (eqb s.handle p.to) (test p) false) (λ (s : Seat). list_any test (chain_for s queue)) seats
    ∙ ap (λ t. t || list_any (λ (s : Seat). list_any test (chain_for s queue)) seats) (by_seat test p seats a.0)
    ∙ ap (λ t. test p || t) (queue_by_seats test queue seats a.1)

held_one : (test : Parcel → Bool) (o : Option Parcel) → list_any test (held_list o) ≡ holds_such test o
held_one test None = refl
held_one test (Some p) = go (test p)
  where
    go : (t : Bool) → (t || false) ≡ t
    go true = refl
    go false = refl

-- a message is in a row exactly where it is queued or held
pub rows-have : (test : Parcel → Bool) (post : Post) → AllLive post.seats post.queued → rows_have test (rows_of post) ≡ has_message test post
rows-have test post a =
    list_any-map (seat_row post.queued) (λ (r : SeatRow). list_any test (row_parcels r)) post.seats
    ∙ list_any-same (λ (s : Seat). list_any test (row_parcels (seat_row post.queued s)))
    (λ (s : Seat). list_any test (chain_for s post.queued) || holds_such test s.holds) post.seats
    (λ s. list_any-append test (chain_for s post.queued) (held_list s.holds) ∙ ap (λ t. list_any test (chain_for s post.queued) || t) (held_one test s.holds))
    ∙ list_any-or (λ (s : Seat). list_any test (chain_for s post.queued)) (λ (s : Seat). holds_such test s.holds) post.seats
    ∙ ap (λ t. t || list_any (λ (s : Seat). holds_such test s.holds) post.seats) (queue_by_seats test post.queued post.seats a)

-- ---- lengths
pub fewer-filter : (test : Parcel → Bool) (ps : List Parcel) → length (filter test ps) ≤ length ps
fewer-filter test [] = omega arith
fewer-filter test (p ∷ ps) = go (test p) (fewer-filter test ps)
  where
    go : (t : Bool) → length (filter test ps) ≤ length ps → length (cond t (p ∷ filter test ps) (filter test ps)) ≤ length (p ∷ ps)
    go true l = omega arith
    go false l = omega arith

pub short-rows : (h : Heap) (q : Chains) (post : Post) → ArePostChains h q post → AreShortChains (rows_of post)
short-rows h q post s i l =
    let n = length-map post.seats (seat_row post.queued) in
    let few = s.few in
    let f = fewer-filter (λ (p : Parcel). p.to == (seat_at post.seats i).handle) post.queued in
    let e = ap (λ (r : SeatRow). length r.chain) (row-at post.queued post.seats i (omega arith)) in
    omega arith

-- no row has it, by their places
pub none-have : (test : Parcel → Bool) (rows : List SeatRow) → ((j : ℕ) → j < length rows → list_any test (row_parcels (row_at rows j)) ≡ false)
    → rows_have test rows ≡ false
none-have test [] f = refl
none-have test (r ∷ rows) f = ap (λ t. t || rows_have test rows) (f 0 (omega arith)) ∙ none-have test rows (λ j l. f (suc j) (omega arith))

-- one row has it
pub one-has : (test : Parcel → Bool) (rows : List SeatRow) (j : ℕ) → j < length rows → list_any test (row_parcels (row_at rows j)) ≡ true
    → rows_have test rows ≡ true
one-has test [] j l e = absurd (omega arith)
one-has test (r ∷ rows) zero l e = ap (λ t. t || rows_have test rows) e
one-has test (r ∷ rows) (suc j) l e = go (list_any test (row_parcels r)) (one-has test rows j (omega arith) e)
  where
    go : (t : Bool) → rows_have test rows ≡ true → (t || rows_have test rows) ≡ true
    go true f = refl
    go false f = f

-- ---- one row
or_true : (x y : Bool) → y ≡ true → (x || y) ≡ true
or_true true y e = refl
or_true false y e = e

or_false : (x y : Bool) → y ≡ false → (x || y) ≡ x
or_false true y e = refl
or_false false y e = e

row-has : (test : Parcel → Bool) (r : SeatRow) → list_any test (row_parcels r) ≡ (list_any test r.chain || holds_such test r.held)
row-has test r = list_any-append test r.chain (held_list r.held) ∙ ap (λ t. list_any test r.chain || t) (held_one test r.held)

pub held-has_it : (test : Parcel → Bool) (r : SeatRow) (t : Bool) → t ≡ holds_such test r.held → t ≡ true → true ≡ list_any test (row_parcels r)
held-has_it test r t e et = sym (row-has test r ∙ or_true (list_any test r.chain) (holds_such test r.held) (sym e ∙ et))

pub chain-decides : (test : Parcel → Bool) (r : SeatRow) (t u : Bool) → t ≡ holds_such test r.held → t ≡ false → u ≡ list_any test r.chain
    → u ≡ list_any test (row_parcels r)
chain-decides test r t u e et eu = eu ∙ sym (row-has test r ∙ or_false (list_any test r.chain) (holds_such test r.held) (sym e ∙ et))

-- ---- the message that is held
pub record HeldHere (h : Heap) (held : ℕ) (o : Option Parcel) : Type 0 where
  pub parcel : Parcel
  pub is : o ≡ Some parcel
  pub block : held ≡ parcel.block
  pub lies : Lies h 0 parcel

pub held-none : (h : Heap) (held : ℕ) (test : Parcel → Bool) (o : Option Parcel) → Holds h held o → held ≡ 0 → false ≡ holds_such test o
held-none h held test None s z = refl
held-none h held test (Some p) s z = let a = lies-above h 0 p s.1 in let e = s.0 in absurd (omega arith)

pub held-some : (h : Heap) (held : ℕ) (o : Option Parcel) → Holds h held o → held ≢ 0 → HeldHere h held o
held-some h held None s ne = absurd (ne s)
held-some h held (Some p) s ne = record { parcel = p; is = refl; block = s.0; lies = s.1 }

-- ---- one step along a chain
pub record Here (m : Memory) (module_area : Module) (block turn : ℕ) (test : Parcel → Bool) (ps : List Parcel) : Type 0 where
  pub parcel : Parcel
  pub rest : List Parcel
  pub block_is : block ≡ parcel.block
  pub lies : Lies (module_heap_in m module_area) (first_block rest 0) parcel
  pub small : first_block rest 0 < 2 ^ 32
  pub chain : Chain (module_heap_in m module_area) rest 0
  pub few : length rest + suc turn ≤ most_messages
  pub same : list_any test ps ≡ (test parcel || list_any test rest)

pub ahead-none : (h : Heap) (block turn : ℕ) (test : Parcel → Bool) (ps : List Parcel) → Ahead h block turn test ps → block ≡ 0 → false ≡ list_any test ps
ahead-none h block turn test ps a z = go a.rest a.block_is a.chain (sym a.same)
  where
    go : (rest : List Parcel) → block ≡ first_block rest 0 → Chain h rest 0 → list_any test rest ≡ list_any test ps → false ≡ list_any test ps
    go [] e c f = f
    go (p ∷ rest) e c f = let l = lies-above h (first_block rest 0) p c.0 in absurd (omega arith)

pub ahead-some : (m : Memory) (module_area : Module) (block turn : ℕ) (test : Parcel → Bool) (ps : List Parcel) → IsModule m module_area
    → length (bytes m module_area.area.0) ≤ area_limit → Ahead (module_heap_in m module_area) block turn test ps → block ≢ 0
    → Here m module_area block turn test ps
ahead-some m module_area block turn test ps s l a ne = go a.rest a.block_is a.chain a.few a.same
  where
    go : (rest : List Parcel) → block ≡ first_block rest 0 → Chain (module_heap_in m module_area) rest 0 → length rest + turn ≤ most_messages
        → list_any test ps ≡ list_any test rest → Here m module_area block turn test ps
    go [] e c f same = absurd (ne e)
    go (p ∷ rest) e c f same = record {
      parcel = p;
      rest = rest;
      block_is = e;
      lies = c.0;
      small = next-small m module_area (first_block rest 0) s l (next-there (module_heap_in m module_area) rest c.1);
      chain = c.1;
      few = omega arith;
      same = same;
    }

pub ahead-past : (h : Heap) (block turn : ℕ) (test : Parcel → Bool) (ps : List Parcel) → Ahead h block turn test ps → most_messages ≤ turn
    → false ≡ list_any test ps
ahead-past h block turn test ps a z = go a.rest a.few (sym a.same)
  where
    go : (rest : List Parcel) → length rest + turn ≤ most_messages → list_any test rest ≡ list_any test ps → false ≡ list_any test ps
    go [] f e = e
    go (p ∷ rest) f e = absurd (omega arith)

module _ (m : Memory) (module_area : Module) (block turn : ℕ) (test : Parcel → Bool) (ps : List Parcel) (w : Here m module_area block turn test ps) where
  pub here-bytes : block_bytes block (module_heap_in m module_area) ≡ Some (padded (first_block w.rest 0) w.parcel)
  here-bytes = ap (λ a. block_bytes a (module_heap_in m module_area)) w.block_is ∙ w.lies.block

  pub here-has : HasBlock block 24 (module_heap_in m module_area)
  here-has = record { bytes = padded (first_block w.rest 0) w.parcel; found = here-bytes; room = padded-least (first_block w.rest 0) w.parcel }

  pub found-here : (t : Bool) → t ≡ test w.parcel → t ≡ true → true ≡ list_any test ps
  found-here t e et = sym (w.same ∙ ap (λ b. b || list_any test w.rest) (sym e ∙ et))

  pub one-on : (t : Bool) (next : ℕ) → t ≡ test w.parcel → t ≡ false →
      ((bs : List ℕ) → block_bytes block (module_heap_in m module_area) ≡ Some bs → next ≡ word bs 0)
      → Ahead (module_heap_in m module_area) next (suc turn) test ps
  one-on t next e et r = record {
    rest = w.rest;
    block_is = r (padded (first_block w.rest 0) w.parcel) here-bytes ∙ link_read (first_block w.rest 0) w.parcel w.small w.lies.fits;
    chain = w.chain;
    few = w.few;
    same = w.same ∙ ap (λ b. b || list_any test w.rest) (sym e ∙ et);
  }

-- ---- what stands where a message has its event code
code-told : (c : EventCode) → is_some (code_at (code_number c)) ≡ true
code-told User = refl
code-told Recorded = refl
code-told Acknowledge = refl

-- each message has one there
coded : (m : Memory) (module_area : Module) (link : ℕ) (p : Parcel) → IsModule m module_area → link < 2 ^ 32 → Lies (module_heap_in m module_area) link p
    → has_code p.block (bytes m module_area.area.0) ≡ true
coded m module_area link p s small l =
    let w = stands m module_area p.block (padded link p) s l.block in
    let least = padded-least link p in
    let within = w.within in
    let code : word (bytes m module_area.area.0) (p.block + 4) ≡ code_number p.code =
    sym (word-part (bytes m module_area.area.0) p.block (length (padded link p)) 4 (omega arith)) ∙ ap (λ b. word b 4) w.part
    ∙ code_read link p small l.fits in
    ap (λ t. t && is_some (code_at (word (bytes m module_area.area.0) (p.block + 4))))
    (leb_yes (p.block + 8) (length (bytes m module_area.area.0)) (omega arith))
    ∙ ap (λ n. is_some (code_at n)) code ∙ code-told p.code

-- none stands where a message in the block would have it
pub record Codeless (m : Memory) (module_area : Module) (block : ℕ) : Type 0 where
  pub area : IsModule m module_area
  pub small : length (bytes m module_area.area.0) ≤ area_limit
  pub none : has_code block (bytes m module_area.area.0) ≡ false

module _ (m : Memory) (module_area : Module) (block : ℕ) (w : Codeless m module_area block) where
  elsewhere : (link : ℕ) (p : Parcel) → link < 2 ^ 32 → Lies (module_heap_in m module_area) link p → (p.block == block) ≡ false
  elsewhere link p small l =
      eqb_apart p.block block (λ z.
      let e : true ≡ false = sym (coded m module_area link p w.area small l) ∙ ap (λ b. has_code b (bytes m module_area.area.0)) z ∙ w.none in
      absurd cc)

  chain_elsewhere : (ps : List Parcel) → Chain (module_heap_in m module_area) ps 0 → list_any (wants (At block)) ps ≡ false
  chain_elsewhere [] c = refl
  chain_elsewhere (p ∷ ps) c =
      ap (λ t. t || list_any (wants (At block)) ps)
      (elsewhere (first_block ps 0) p (next-small m module_area (first_block ps 0) w.area w.small (next-there (module_heap_in m module_area) ps c.1)) c.0)
      ∙ chain_elsewhere ps c.1

  held_elsewhere : (held : ℕ) (o : Option Parcel) → Holds (module_heap_in m module_area) held o → holds_such (wants (At block)) o ≡ false
  held_elsewhere held None h = refl
  held_elsewhere held (Some p) h = elsewhere 0 p (omega arith) h.1

  row_elsewhere : (e : Entry) (r : SeatRow) → RowLies (module_heap_in m module_area) e r → list_any (wants (At block)) (row_parcels r) ≡ false
  row_elsewhere e r l =
      row-has (wants (At block)) r ∙ ap (λ t. t || holds_such (wants (At block)) r.held) (chain_elsewhere r.chain l.chain)
      ∙ held_elsewhere e.held r.held l.held

  -- where none stands, no message lies
  pub rows_elsewhere : (es : List Entry) (rows : List SeatRow) → RowsLie (module_heap_in m module_area) es rows → rows_have (wants (At block)) rows ≡ false
  rows_elsewhere es rows l = none-have (wants (At block)) rows (λ j b. row_elsewhere (entry_at es j) (row_at rows j) (l.each j b))
