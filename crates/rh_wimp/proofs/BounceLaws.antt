-- A post after a message bounces.
use Rattle.rh_wimp.proofs.Common.{◌≡◌, ℕ, ◌+◌, ◌<◌, ◌≤◌, ◌≢◌, inl, inr, true, List, [], ◌∷◌, ◌++◌, length, map, set, refl, sym, ap, subst, ◌∙◌, arith}
use Rattle.rh_wimp.proofs.Common.{append-nil, cases_eq, length-set, get_or-set_same, get_or-set_other, Some, None, total, Heap, release_block, relinked}
use Rattle.rh_wimp.proofs.Common.{block_bytes, poked, SameShape, word_bytes, Parcel, parcel_bytes, padded, Seat, Post, has_seat, held_by, with_held}
use Rattle.rh_wimp.proofs.Common.{count_held, live_count, most_messages, as_returned, Loose, Chains, Holds, SeatRow, RowLies, RowsLie, IsLinked, ArePostChains}
use Rattle.rh_wimp.proofs.Common.{AllLie}
use Rattle.rh_wimp.proofs.Common.{AllLive, Off, no_row, entry_at, row_at, seat_row, rows_of, row_parcels, held_list, lengthened, emptied, emptied_chains}
use Rattle.rh_wimp.proofs.Common.{last_block, lifted, Entry, poked-pokes, poked-other, release-frees, poked-shape, shape-both, release-alike}
use Rattle.rh_defs.proofs.BlockLaws.{block-above}
use Rattle.rh_wimp.proofs.LinkLaws.{AllLie-kept, AllLie-parts}
use Rattle.rh_defs.proofs.ParcelLaws.{padded-recoded, padded-rewritten}
use Rattle.rh_wimp.proofs.PostLaws.{seat_at, held-at, seat_with, with_held-at, rows-seat, count-seat}
use Rattle.rh_wimp.proofs.RowEdits.{without_held, dropped, dropped-off}
use Rattle.rh_wimp.proofs.RowLaws.{KeepsBut, agree-off, row-kept, Off-append, Off-parts, Off-last}
use Rattle.rh_wimp.proofs.SendLaws.{Links, relinked-other, relinked-last, relinked-shape, queue-longer, seated, named, all-live-same}
use Rattle.rh_defs.proofs.ShapeLaws.{shape-sym}

-- ---- what a task holds is lifted
linked-lifted : (h d : Heap) (es : List Entry) (rows : List SeatRow) (i : ℕ) (q : Parcel) → i < length rows → RowsLie h es rows → (row_at rows i).held ≡ Some q
    → IsLinked h d rows → block_bytes q.block h ≡ block_bytes q.block d → IsLinked h d (set rows i (without_held (row_at rows i)))
linked-lifted h d es rows i q l s held linked same-bytes =
    let r = row_at rows i in
    let n = length-set rows i (without_held r) in
    let same : row_at (set rows i (without_held r)) i ≡ without_held r = get_or-set_same rows i (without_held r) no_row l in
    let other : (j : ℕ) → j ≢ i → row_at (set rows i (without_held r)) j ≡ row_at rows j = λ j ne. get_or-set_other rows i j (without_held r) no_row ne in
    record {
      shape = linked.shape;
      lie = λ j b. elim (cases_eq j i) [
        | inl z ↦ subst (λ m. AllLie d (row_parcels (row_at (set rows i (without_held r)) m))) (sym z) (subst (λ x. AllLie d (row_parcels x)) (sym same)
            (subst (AllLie d) (sym (append-nil r.chain)) (AllLie-parts d r.chain (held_list r.held) (linked.lie i l)).0))
        | inr ne ↦ subst (λ x. AllLie d (row_parcels x)) (sym (other j ne)) (linked.lie j (omega arith))
      ];
      others = λ b out. elim (cases_eq b q.block) [
        | inl z ↦ subst (λ m. block_bytes m h ≡ block_bytes m d) (sym z) same-bytes
        | inr ne ↦ linked.others b (λ j c. elim (cases_eq j i) [
          | inl z ↦ subst (λ m. Off b (row_parcels (row_at rows m))) (sym z) (subst (λ o. Off b (r.chain ++ held_list o)) (sym held)
              (Off-append b r.chain (q ∷ []) (Off-parts b r.chain [] (subst (λ x. Off b (row_parcels x)) same (out i (omega arith)))).0
              ((λ y. ne (sym y)), tt)))
          | inr nj ↦ subst (λ x. Off b (row_parcels x)) (other j nj) (out j (omega arith))
        ])
      ];
    }

module _ (h : Heap) (q : Chains) (post : Post) (x i : ℕ) (p : Parcel) where
  pub lift : ArePostChains h q post → i < length q.entries → (entry_at q.entries i).handle ≡ x → held_by x post.seats ≡ Some p
      → ArePostChains h (emptied_chains i q) (lifted x post) × Loose h (lifted x post) p
  lift s lt handle held =
      let w = seated h q post i s lt in
      let row : SeatRow = row_at (rows_of post) i in
      let seat : Seat = seat_at post.seats i in
      let names = named h q post s in
      let here : seat.holds ≡ Some p = sym (held-at post.seats i x names w.seat (sym w.handle ∙ handle)) ∙ held in
      let row-holds : row.held ≡ Some p = ap (λ (r : SeatRow). r.held) w.row_is ∙ here in
      let holds = subst (Holds h (entry_at q.entries i).held) row-holds (s.rows.each i w.row).held in
      let plain : block_bytes p.block post.heap ≡ Some (padded 0 p) =
      (subst (λ o. AllLie post.heap (held_list o)) row-holds (AllLie-parts post.heap row.chain (held_list row.held) (s.linked.lie i w.row)).1).0 in
      let seats-are : with_held x None post.seats ≡ set post.seats i (seat_with None seat) =
      with_held-at None post.seats i x names w.seat (sym w.handle ∙ handle) in
      let rows-are : map (seat_row post.queued) (with_held x None post.seats) ≡ set (rows_of post) i (without_held row) =
      ap (map (seat_row post.queued)) seats-are ∙ rows-seat post.queued post.seats i (seat_with None seat)
      ∙ ap (λ r. set (rows_of post) i (without_held r)) (sym w.row_is) in
      let keeps : KeepsBut h h p.block p.block = record { each = λ b ne ne'. refl } in
      let counts = count-seat post.seats i (seat_with None seat) w.seat in
      let one : count_held seat.holds ≡ 1 = ap count_held here in
      let total-is = ap (total (λ (t : Seat). count_held t.holds)) seats-are in
      let live = s.live in
      let few = s.few in
      let n = length-set (rows_of post) i (without_held row) in (
        record {
          rows = subst (RowsLie h (set q.entries i (emptied (entry_at q.entries i)))) (sym rows-are)
              (dropped h h q.entries (rows_of post) i p w.row s.rows row-holds keeps);
          linked = subst (IsLinked h post.heap) (sym rows-are) (linked-lifted h post.heap q.entries (rows_of post) i p w.row s.rows row-holds s.linked
              (holds.1.block ∙ sym plain));
          live = omega arith;
          recipients = subst (λ ss. AllLive ss post.queued) (sym seats-are) (all-live-same None post.seats i post.queued s.recipients);
          few = omega arith;
          next_ref = s.next_ref;
        },
        record {
          lies = holds.1;
          plain = plain;
          off = λ j b. subst (λ rs. Off p.block (row_parcels (row_at rs j))) (sym rows-are)
              (dropped-off h h q.entries (rows_of post) i p w.row s.rows row-holds j (let z = ap length rows-are in omega arith));
        },
      )

-- ---- a loose message goes back to its sender
pub returned-queued : (h h1 k : Heap) (q : Chains) (post : Post) (p : Parcel) (to : ℕ) → ArePostChains h q post → Loose h post p
    → has_seat p.message.from post.seats ≡ true → live_count post < most_messages
    → to < length q.entries → (entry_at q.entries to).handle ≡ p.message.from → h1 ≡ poked p.block 4 (word_bytes 19) h
    → k ≡ relinked (entry_at q.entries to).last p.block h1
    → ArePostChains k (record { entries = set q.entries to (lengthened p.block (entry_at q.entries to)); live = q.live + 1; next_ref = q.next_ref })
    (record post { queued = post.queued ++ as_returned p ∷ []; heap = poked p.block 0 (parcel_bytes 0 (as_returned p)) post.heap })
returned-queued h h1 k q post p to s loose alive few lt named-to e1 ek =
    let new : Parcel = as_returned p in
    let d : Heap = poked p.block 0 (parcel_bytes 0 new) post.heap in
    let last : ℕ = (entry_at q.entries to).last in
    let w = seated h q post to s lt in
    let row : SeatRow = row_at (rows_of post) to in
    let here = s.rows.each to w.row in
    let off = loose.off to w.row in
    let apart : p.block ≢ last = apart-last h (entry_at q.entries to) row p.block (block-above p.block h (padded 0 p) loose.lies.block) here off in
    let in-h1 : block_bytes p.block h1 ≡ Some (padded 0 new) = ap (block_bytes p.block) e1
    ∙ (poked-pokes p.block 4 (word_bytes 19) h (padded 0 p) loose.lies.block).here ∙ ap Some (padded-recoded 0 p new refl) in
    let keeps1 : (b : ℕ) → b ≢ p.block → block_bytes b h1 ≡ block_bytes b h = λ b ne. ap (block_bytes b) e1 ∙ poked-other p.block b 4 (word_bytes 19) h ne in
    let in-k : block_bytes p.block k ≡ Some (padded 0 new) = ap (block_bytes p.block) ek ∙ relinked-other last p.block p.block h1 apart ∙ in-h1 in
    let joins : Links h k last p.block = links-apart h h1 k last p.block (λ z. apart (sym z)) keeps1 ek in
    let in-d : block_bytes p.block d ≡ Some (padded 0 new) =
    (poked-pokes p.block 0 (parcel_bytes 0 new) post.heap (padded 0 p) loose.plain).here ∙ ap Some (padded-rewritten 0 0 p new refl) in
    let shape : SameShape k d =
    shape-both (subst (λ (x : Heap). SameShape x h1) (sym ek) (relinked-shape last p.block h1))
    (shape-both (subst (λ (x : Heap). SameShape x h) (sym e1) (poked-shape p.block 4 (word_bytes 19) h))
    (shape-both s.linked.shape (shape-sym (poked-shape p.block 0 (parcel_bytes 0 new) post.heap)))) in
    queue-longer h k q post new to d s alive few lt named-to loose.off joins (record { block = in-k; fits = loose.lies.fits }) shape in-d
    (λ b ne. poked-other p.block b 0 (parcel_bytes 0 new) post.heap ne) q.next_ref post.next_ref s.next_ref
  where
    apart-last : (g : Heap) (en : Entry) (r : SeatRow) (b : ℕ) → 20 ≤ b → RowLies g en r → Off b (row_parcels r) → b ≢ en.last
    apart-last g en r b above lies off = go r.chain lies.last (Off-parts b r.chain (held_list r.held) off).0
      where
        go : (ps : List Parcel) → en.last ≡ last_block ps → Off b ps → b ≢ en.last
        go [] el o = omega arith
        go (y ∷ ps) el o = λ z. Off-last b y ps o (sym (z ∙ el))

    links-apart : (g g1 g2 : Heap) (last block : ℕ) → last ≢ block → ((b : ℕ) → b ≢ block → block_bytes b g1 ≡ block_bytes b g) → g2 ≡ relinked last block g1
        → Links g g2 last block
    links-apart g g1 g2 last block ne keeps e = record {
      keeps = record { each = λ b nl nb. ap (block_bytes b) e ∙ relinked-other last block b g1 nl ∙ keeps b nb };
      linked = record {
        there = λ bs t. let above = block-above last g bs t in ap (block_bytes last) e
            ∙ relinked-last last block g1 bs (omega arith) (keeps last ne ∙ t);
      };
    }

-- ---- a loose message vanishes
pub vanished : (h : Heap) (q : Chains) (post : Post) (p : Parcel) → ArePostChains h q post → Loose h post p
    → ArePostChains (release_block p.block h) q (record post { heap = release_block p.block post.heap })
vanished h q post p s loose =
    let f = release-frees p.block h in
    let f' = release-frees p.block post.heap in
    record {
      rows = record {
        len = s.rows.len;
        each = λ i l. row-kept h (release_block p.block h) (entry_at q.entries i) (row_at (rows_of post) i)
            (agree-off h (release_block p.block h) p.block p.block (row_parcels (row_at (rows_of post) i)) (record { each = λ b ne ne'. f.others b ne })
            (loose.off i l) (loose.off i l)) (s.rows.each i l);
        own = s.rows.own;
        cross = s.rows.cross;
        handles = s.rows.handles;
      };
      linked = record {
        shape = release-alike p.block h post.heap s.linked.shape;
        lie = λ i l. AllLie-kept post.heap (release_block p.block post.heap) p.block (row_parcels (row_at (rows_of post) i)) f'.others (loose.off i l)
            (s.linked.lie i l);
        others = λ b out. elim (cases_eq b p.block) [
          | inl z ↦ subst (λ m. block_bytes m (release_block p.block h) ≡ block_bytes m (release_block p.block post.heap)) (sym z) (f.gone ∙ sym f'.gone)
          | inr ne ↦ f.others b ne ∙ s.linked.others b out ∙ sym (f'.others b ne)
        ];
      };
      live = s.live;
      recipients = s.recipients;
      few = s.few;
      next_ref = s.next_ref;
    }
