-- The walk along the chains finds the post that the queue spells.
use Rattle.rh_wimp.proofs.Common.{◌≡◌, ℕ, zero, suc, ◌+◌, ◌<◌, ◌≤◌, ◌≢◌, ◌^◌, inl, inr, Bool, true, false, cond, eqb, List, [], ◌∷◌, ◌++◌, length, map, refl}
use Rattle.rh_wimp.proofs.Common.{sym, ap, subst, ◌∙◌, arith, cases_eq, length-map, Option, Some, None, ◌==◌, option_map, block_bytes, poked, SameShape, part}
use Rattle.rh_wimp.proofs.Common.{word, word_bytes, Heap, any_decoded, Memory, bytes, Parcel, code_number, padded, Seat, Post, most_messages, EventCode}
use Rattle.rh_wimp.proofs.Common.{Message}
use Rattle.rh_wimp.proofs.Common.{poked-pokes, cond_true, cond_false, eqb_same, eqb_apart, code_read, length_read, link_read, message_read, padded-relinked}
use Rattle.rh_wimp.proofs.Common.{poked-shape, shape-both, block_within, IsModule, module_heap_in, Module, Chain, Chains, Holds, Lies, SeatRow, RowLies}
use Rattle.rh_wimp.proofs.Common.{RowsLie}
use Rattle.rh_wimp.proofs.Common.{IsLinked, ArePostChains, AllLie, Off, entry_at, first_block, held_list, row_at, seat_row, row_parcels, rows_of, in_order}
use Rattle.rh_wimp.proofs.Common.{Entry}
use Rattle.rh_wimp.proofs.Common.{area_limit}
use Rattle.rh_defs.specs.Blocks.{blank, bytes_at}
use Rattle.rh_defs.specs.Heap.{Segment, Used, Hole}
use Rattle.rh_defs.specs.Messages.{code_at}
use Rattle.rh_defs.specs.declared.message.EventCode.TheVariants.{User, Recorded, Acknowledge}
use Rattle.rh_defs.proofs.BlockLaws.{below}
use Rattle.rh_defs.proofs.AnyMessageLaws.{any-encoded}
use Rattle.rh_wimp.specs.PostIn.{message_bytes, or_no_bytes, or_user, or_no_message, parcel_in, chain_in, held_in, row_in, rows_in, seat_of, chains_of}
use Rattle.rh_wimp.specs.PostIn.{parcels_of}
use Rattle.rh_wimp.specs.PostIn.{unlinked, post_of, for_task}
use Rattle.rh_wimp.proofs.OrderLaws.{own_row, own-rows, own-linked, in_order-spells, seats-of-rows, chains-of-rows, sent_to}
use Rattle.rh_wimp.proofs.PostLaws.{eq_of, row-at, seat_at}
use Rattle.rh_wimp.proofs.RowEdits.{lies-above}
use Rattle.rh_wimp.proofs.SearchLaws.{short-rows}

-- ---- two heaps with the same blocks
same-segments : (p : ℕ) (ss ts : List Segment) → blank ss ≡ blank ts → ((a : ℕ) → bytes_at a p ss ≡ bytes_at a p ts) → ss ≡ ts
same-segments p [] [] e f = refl
same-segments p [] (Used cs ∷ ts) e f = absurd cc
same-segments p [] (Hole m ∷ ts) e f = absurd cc
same-segments p (Used bs ∷ ss) [] e f = absurd cc
same-segments p (Used bs ∷ ss) (Hole m ∷ ts) e f = absurd cc
same-segments p (Hole n ∷ ss) [] e f = absurd cc
same-segments p (Hole n ∷ ss) (Used cs ∷ ts) e f = absurd cc
same-segments p (Hole n ∷ ss) (Hole m ∷ ts) e f =
    let sizes : n ≡ m = cc in
    let rest : blank ss ≡ blank ts = cc in
    ap (λ k. Hole k ∷ ss) sizes ∙ ap (λ l. Hole m ∷ l) (same-segments (p + n) ss ts rest (λ a. f a ∙ ap (λ k. bytes_at a (p + k) ts) (sym sizes)))
same-segments p (Used bs ∷ ss) (Used cs ∷ ts) e f =
    let same : Some bs ≡ Some cs = sym (cond_true (eqb (p + 4) (p + 4)) _ _ (eqb_same (p + 4) (p + 4) refl)) ∙ f (p + 4)
    ∙ cond_true (eqb (p + 4) (p + 4)) _ _ (eqb_same (p + 4) (p + 4) refl) in
    let here : bs ≡ cs = cc in
    let rest : blank ss ≡ blank ts = cc in
    ap (λ l. Used l ∷ ss) here ∙ ap (λ l. Used cs ∷ l) (same-segments (p + (4 + length bs)) ss ts rest (λ a. elim (cases_eq a (p + 4)) [
      | inl q ↦ below a (p + (4 + length bs)) ss (omega arith) ∙ sym (below a (p + (4 + length bs)) ts (omega arith))
      | inr ne ↦ sym (cond_false (eqb a (p + 4)) _ _ (eqb_apart a (p + 4) ne)) ∙ f a ∙ cond_false (eqb a (p + 4)) _ _ (eqb_apart a (p + 4) ne)
          ∙ ap (λ l. bytes_at a (p + (4 + length l)) ts) (sym here)
    ]))

pub same-heaps : (h d : Heap) → SameShape h d → ((a : ℕ) → block_bytes a h ≡ block_bytes a d) → h ≡ d
same-heaps h d s f =
    ap (λ l. let k : Heap = record { segments = l; end = h.end } in k) (same-segments 16 h.segments d.segments s.blank f)
    ∙ ap (λ n. let k : Heap = record { segments = d.segments; end = n } in k) s.end

-- ---- links set to 0
-- each message lies in its block, with some link
abbrev pub AllLinked : Heap → List Parcel → Type 0
AllLinked h [] = Unit {0}
AllLinked h (p ∷ ps) = ((link : ℕ) × (block_bytes p.block h ≡ Some (padded link p))) × AllLinked h ps

-- a heap, and the one in which some messages have link 0
pub record Beside (h d : Heap) (ps : List Parcel) : Type 0 where
  pub shape : SameShape h d
  pub linked : AllLinked h ps
  pub plain : AllLie d ps
  pub others : (a : ℕ) → Off a ps → block_bytes a h ≡ block_bytes a d

relinked : (h k d : Heap) (p : Parcel) (ps : List Parcel) → block_bytes p.block k ≡ block_bytes p.block d
    → ((a : ℕ) → a ≢ p.block → block_bytes a k ≡ block_bytes a h) → AllLie d ps → AllLinked h ps → AllLinked k ps
relinked h k d p [] here others a l = tt
relinked h k d p (q ∷ ps) here others a l = (
  elim (cases_eq q.block p.block) [
    | inl e ↦ (0, ap (λ x. block_bytes x k) e ∙ here ∙ ap (λ x. block_bytes x d) (sym e) ∙ a.0)
    | inr ne ↦ (l.0.0, others q.block ne ∙ l.0.1)
  ],
  relinked h k d p ps here others a.1 l.1,
)

pub unlinked-is : (h d : Heap) (ps : List Parcel) → Beside h d ps → unlinked ps h ≡ d
unlinked-is h d [] b = same-heaps h d b.shape (λ a. b.others a tt)
unlinked-is h d (p ∷ ps) b =
    let k = poked p.block 0 (word_bytes 0) h in
    let w = poked-pokes p.block 0 (word_bytes 0) h (padded b.linked.0.0 p) b.linked.0.1 in
    let here : block_bytes p.block k ≡ block_bytes p.block d = w.here ∙ ap Some (padded-relinked b.linked.0.0 0 p) ∙ sym b.plain.0 in
    unlinked-is k d ps (record {
      shape = shape-both (poked-shape p.block 0 (word_bytes 0) h) b.shape;
      linked = relinked h k d p ps here w.others b.plain.1 b.linked.1;
      plain = b.plain.1;
      others = λ a o. elim (cases_eq a p.block) [
        | inl e ↦ ap (λ x. block_bytes x k) e ∙ here ∙ ap (λ x. block_bytes x d) (sym e)
        | inr ne ↦ w.others a ne ∙ b.others a (λ z. ne (sym z), o)
      ];
    })

-- ---- all messages of some rows
linked-both : (h : Heap) (ps qs : List Parcel) → AllLinked h ps → AllLinked h qs → AllLinked h (ps ++ qs)
linked-both h [] qs a b = b
linked-both h (p ∷ ps) qs a b = (a.0, linked-both h ps qs a.1 b)

lie-both : (h : Heap) (ps qs : List Parcel) → AllLie h ps → AllLie h qs → AllLie h (ps ++ qs)
lie-both h [] qs a b = b
lie-both h (p ∷ ps) qs a b = (a.0, lie-both h ps qs a.1 b)

off-both : (a : ℕ) (ps qs : List Parcel) → Off a (ps ++ qs) → Off a ps × Off a qs
off-both a [] qs o = (tt, o)
off-both a (p ∷ ps) qs o = let r = off-both a ps qs o.1 in ((o.0, r.0), r.1)

chain-linked : (h : Heap) (ps : List Parcel) (next : ℕ) → Chain h ps next → AllLinked h ps
chain-linked h [] next c = tt
chain-linked h (p ∷ ps) next c = ((first_block ps next, c.0.block), chain-linked h ps next c.1)

held-linked : (h : Heap) (block : ℕ) (o : Option Parcel) → Holds h block o → AllLinked h (held_list o)
held-linked h block None c = tt
held-linked h block (Some p) c = ((0, c.1.block), tt)

row-linked : (h : Heap) (e : Entry) (r : SeatRow) → RowLies h e r → AllLinked h (row_parcels r)
row-linked h e r l = linked-both h r.chain (held_list r.held) (chain-linked h r.chain 0 l.chain) (held-linked h e.held r.held l.held)

parcels-linked : (h : Heap) (rows : List SeatRow) → ((i : ℕ) → i < length rows → AllLinked h (row_parcels (row_at rows i))) → AllLinked h (parcels_of rows)
parcels-linked h [] f = tt
parcels-linked h (r ∷ rows) f = linked-both h (row_parcels r) (parcels_of rows) (f 0 (omega arith)) (parcels-linked h rows (λ i b. f (suc i) (omega arith)))

parcels-lie : (d : Heap) (rows : List SeatRow) → ((i : ℕ) → i < length rows → AllLie d (row_parcels (row_at rows i))) → AllLie d (parcels_of rows)
parcels-lie d [] f = tt
parcels-lie d (r ∷ rows) f = lie-both d (row_parcels r) (parcels_of rows) (f 0 (omega arith)) (parcels-lie d rows (λ i b. f (suc i) (omega arith)))

parcels-off : (a : ℕ) (rows : List SeatRow) → Off a (parcels_of rows) → (i : ℕ) → i < length rows → Off a (row_parcels (row_at rows i))
parcels-off a [] o i b = absurd (omega arith)
parcels-off a (r ∷ rows) o zero b = (off-both a (row_parcels r) (parcels_of rows) o).0
parcels-off a (r ∷ rows) o (suc i) b = parcels-off a rows (off-both a (row_parcels r) (parcels_of rows) o).1 i (omega arith)

pub rows-unlinked : (h d : Heap) (es : List Entry) (rows : List SeatRow) → RowsLie h es rows → IsLinked h d rows → unlinked (parcels_of rows) h ≡ d
rows-unlinked h d es rows s l = unlinked-is h d (parcels_of rows) (record {
  shape = l.shape;
  linked = parcels-linked h rows (λ i b. row-linked h (entry_at es i) (row_at rows i) (s.each i b));
  plain = parcels-lie d rows l.lie;
  others = λ a o. l.others a (parcels-off a rows o);
})

-- ---- what the walk finds
-- every block has an address that is a word
pub record IsLow (h : Heap) : Type 0 where
  pub each : (a : ℕ) (bs : List ℕ) → block_bytes a h ≡ Some bs → a < 2 ^ 32

code-known : (code : EventCode) → or_user (code_at (code_number code)) ≡ code
code-known User = refl
code-known Recorded = refl
code-known Acknowledge = refl

pub parcel-found : (h : Heap) (to link : ℕ) (p : Parcel) → link < 2 ^ 32 → Lies h link p → parcel_in to p.block h ≡ for_task to p
parcel-found h to link p small l =
    let e : message_bytes p.block h ≡ padded link p = ap or_no_bytes l.block in
    let code : or_user (code_at (word (message_bytes p.block h) 4)) ≡ p.code =
    ap (λ b. or_user (code_at (word b 4))) e ∙ ap (λ n. or_user (code_at n)) (code_read link p small l.fits) ∙ code-known p.code in
    let message : or_no_message (any_decoded (part (message_bytes p.block h) 8 (word (message_bytes p.block h) 8))) ≡ p.message =
    ap (λ b. or_no_message (any_decoded (part b 8 (word b 8)))) e
    ∙ ap (λ b. or_no_message (any_decoded b)) (message_read link p (word (padded link p) 8) (length_read link p small l.fits))
    ∙ ap or_no_message (any-encoded p.message l.fits) in
    ap (λ (c : EventCode). let x : Parcel =
    record {
      code = c;
      to = to;
      block = p.block;
      message = or_no_message (any_decoded (part (message_bytes p.block h) 8 (word (message_bytes p.block h) 8)));
    } in
    x) code
    ∙ ap (λ (m : Message). let x : Parcel = record { code = p.code; to = to; block = p.block; message = m } in x) message

link-small : (h : Heap) (ps : List Parcel) → IsLow h → Chain h ps 0 → first_block ps 0 < 2 ^ 32
link-small h [] s c = omega arith
link-small h (p ∷ ps) s c = s.each p.block (padded (first_block ps 0) p) c.0.block

-- all messages are for one task
abbrev pub AllFor : ℕ → List Parcel → Type 0
AllFor to [] = Unit {0}
AllFor to (p ∷ ps) = (p.to ≡ to) × AllFor to ps

sent-for : (h : ℕ) (queue : List Parcel) → AllFor h (sent_to h queue)
sent-for h [] = tt
sent-for h (p ∷ queue) = go (p.to == h) refl (sent-for h queue)
  where
    go : (t : Bool) → (p.to == h) ≡ t → AllFor h (sent_to h queue) → AllFor h (cond t (p ∷ sent_to h queue) (sent_to h queue))
    go true e r = (eq_of p.to h e, r)
    go false e r = r

pub chain-found : (h : Heap) (n to : ℕ) (ps : List Parcel) → IsLow h → Chain h ps 0 → AllFor to ps → length ps ≤ n → chain_in n to (first_block ps 0) h ≡ ps
chain-found h zero to [] s c f l = refl
chain-found h zero to (p ∷ ps) s c f l = absurd (omega arith)
chain-found h (suc n) to [] s c f l = refl
chain-found h (suc n) to (p ∷ ps) s c f l =
    let above = lies-above h (first_block ps 0) p c.0 in
    let small = link-small h ps s c.1 in
    let next : word (message_bytes p.block h) 0 ≡ first_block ps 0 = ap (λ o. word (or_no_bytes o) 0) c.0.block ∙ link_read
    (first_block ps 0) p small c.0.fits in
    cond_false (p.block == 0) _ _ (eqb_apart p.block 0 (omega arith))
    ∙ ap (λ x. x ∷ chain_in n to (word (message_bytes p.block h) 0) h) (parcel-found h to (first_block ps 0) p small c.0 ∙ ap (λ x. for_task x p) (sym f.0))
    ∙ ap (λ x. p ∷ chain_in n to x h) next
    ∙ ap (λ l. p ∷ l) (chain-found h n to ps s c.1 f.1 (omega arith))

held-found : (h : Heap) (to block : ℕ) (o : Option Parcel) → Holds h block o → held_in to block h ≡ option_map (for_task to) o
held-found h to block None c = cond_true (block == 0) _ _ (eqb_same block 0 c)
held-found h to block (Some p) c =
    let above = lies-above h 0 p c.1 in
    let e = c.0 in
    cond_false (block == 0) _ _ (eqb_apart block 0 (omega arith)) ∙ ap (λ b. Some (parcel_in to b h)) e ∙ ap Some (parcel-found h to 0 p (omega arith) c.1)

row-found : (h : Heap) (e : Entry) (r : SeatRow) → IsLow h → RowLies h e r → AllFor r.handle r.chain → length r.chain ≤ most_messages → row_in h e ≡ own_row r
row-found h e r s l f few =
    ap (λ (x : ℕ). let y : SeatRow = record { handle = x; chain = chain_in most_messages x e.first h; held = held_in x e.held h } in y) l.handle
    ∙ ap (λ (c : List Parcel). let y : SeatRow = record { handle = r.handle; chain = c; held = held_in r.handle e.held h } in y)
    (ap (λ b. chain_in most_messages r.handle b h) l.first ∙ chain-found h most_messages r.handle r.chain s l.chain f few)
    ∙ ap (λ (o : Option Parcel). let y : SeatRow = record { handle = r.handle; chain = r.chain; held = o } in y) (held-found h r.handle e.held r.held l.held)

rows-found : (h : Heap) (es : List Entry) (rows : List SeatRow) → length es ≡ length rows
    → ((i : ℕ) → i < length rows → row_in h (entry_at es i) ≡ own_row (row_at rows i)) → map (row_in h) es ≡ map own_row rows
rows-found h [] [] n f = refl
rows-found h [] (r ∷ rows) n f = absurd (omega arith)
rows-found h (e ∷ es) [] n f = absurd (omega arith)
rows-found h (e ∷ es) (r ∷ rows) n f =
    ap (λ x. x ∷ map (row_in h) es) (f 0 (omega arith)) ∙ ap (λ l. own_row r ∷ l) (rows-found h es rows (omega arith) (λ i b. f (suc i) (omega arith)))

-- ---- the whole post
pub rows_in-are : (h : Heap) (q : Chains) (post : Post) → IsLow h → ArePostChains h q post → rows_in h q ≡ map own_row (rows_of post)
rows_in-are h q post s w = rows-found h q.entries (rows_of post) w.rows.len (λ i b.
    let n = length-map post.seats (seat_row post.queued) in
    let e = row-at post.queued post.seats i (omega arith) in
    row-found h (entry_at q.entries i) (row_at (rows_of post) i) s (w.rows.each i b)
    (subst (λ (r : SeatRow). AllFor r.handle r.chain) (sym e) (sent-for (seat_at post.seats i).handle post.queued)) (short-rows h q post w i b))

-- the walk finds the post that is spelled, in order of seats
pub post_of-is : (h : Heap) (q : Chains) (post : Post) → IsLow h → ArePostChains h q post → post_of h q ≡ in_order post
unfolding post_of
post_of-is h q post s w =
    let e = rows_in-are h q post s w in
    let seats = ap (map seat_of) e ∙ seats-of-rows post.queued post.seats in
    let queued = ap chains_of e ∙ chains-of-rows post.queued post.seats in
    let heap : unlinked (parcels_of (rows_in h q)) h ≡ post.heap =
    ap (λ rows. unlinked (parcels_of rows) h) e
    ∙ rows-unlinked h post.heap q.entries (map own_row (rows_of post)) (own-rows h post.heap q.entries (rows_of post) w.rows)
    (own-linked h post.heap q.entries (rows_of post) w.linked) in
    ap (λ (x : List Seat). let y : Post =
    record { seats = x; queued = chains_of (rows_in h q); heap = unlinked (parcels_of (rows_in h q)) h; next_ref = q.next_ref } in y) seats
    ∙ ap (λ (x : List Parcel). let y : Post =
    record { seats = (in_order post).seats; queued = x; heap = unlinked (parcels_of (rows_in h q)) h; next_ref = q.next_ref } in y) queued
    ∙ ap (λ (x : Heap). let y : Post = record { seats = (in_order post).seats; queued = (in_order post).queued; heap = x; next_ref = q.next_ref } in y) heap
    ∙ ap (λ (x : ℕ). let y : Post = record { seats = (in_order post).seats; queued = (in_order post).queued; heap = post.heap; next_ref = x } in y) w.next_ref

-- and the queue spells what the walk finds
pub post_of-spells : (h : Heap) (q : Chains) (post : Post) → IsLow h → ArePostChains h q post → ArePostChains h q (post_of h q)
post_of-spells h q post s w = subst (ArePostChains h q) (sym (post_of-is h q post s w)) (in_order-spells h q post w)

-- the blocks of a module area lie in its bytes
pub module-low : (m : Memory) (module_area : Module) → IsModule m module_area → length (bytes m module_area.area.0) ≤ area_limit → IsLow
    (module_heap_in m module_area)
module-low m module_area s l = record {
  each = λ a bs e. let r = block_within m module_area a 0 s
      (record { bytes = bs; found = e; room = omega arith }) in omega arith;
}
