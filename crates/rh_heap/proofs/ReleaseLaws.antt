-- The stretch that a release leaves.
use Rattle.rh_heap.proofs.Common.{◌≡◌, ℕ, ◌+◌, ◌-◌, ◌<◌, false, List, [], ◌∷◌, ◌++◌, length, sym, ap, subst, ◌∙◌, append_assoc, arith, total, Segment, Used}
use Rattle.rh_heap.proofs.Common.{Hole, Heap, IsTidy, size_of, with_hole, release_block, Spells, total-append, tidy_behind_used, opened, StretchBetween}
use Rattle.rh_heap.proofs.Common.{IsStretch}
use Rattle.rh_heap.proofs.Common.{Settles, GapIs, no_gap, a_gap, FoundBlock, Stretch, Spot, last_link, LinksTo}
use Rattle.rh_defs.specs.Heap.{joined, release_found}
use Rattle.rh_defs.proofs.HeapLists.{with_hole-with_hole, joined-tidy, joined-front}
use Rattle.rh_defs.proofs.HeapFaults.{multiple_of_sizes}
use Rattle.rh_heap.proofs.StretchLaws.{is_stretch}

abbrev pub release_stretch : Spot → ℕ → Stretch
release_stretch spot next = record { link = spot.link; low = spot.low; next = next; upper = spot.place + spot.size }

gap_last : (at low place link from : ℕ) (gap : List Segment) (bs : List ℕ) → GapIs low place link from gap
    → last_link (at + link) (at + low) (gap ++ Used bs ∷ []) ≡ at + from
gap_last at low place link from [] bs (no_gap e f) = omega arith
gap_last at low place link from (Hole n ∷ []) bs (a_gap _ e f) = omega arith
gap_last at low place link from (Used cs ∷ ss) bs k = elim k [ ]
gap_last at low place link from (Hole n ∷ x ∷ ss) bs k = elim k [ ]

pub release_between : (b : List ℕ) (at : ℕ) (h : Heap) (address : ℕ) (spot : Spot) (next : ℕ) → Spells b at h → (f : FoundBlock at h address spot)
    → LinksTo b at (at + spot.from) next → StretchBetween b at h.end f.reached.front f.after (release_stretch spot next)
release_between b at h address spot next s f k =
    let r = f.reached in
    let bs = f.bytes in
    let passed = r.front ++ r.gap in
    let is : h.segments ≡ passed ++ Used bs ∷ f.after = r.is ∙ ap (λ l. passed ++ l) f.rest_is in
    let mid = r.gap ++ Used bs ∷ [] in
    let is' : h.segments ≡ r.front ++ (mid ++ f.after) =
    is ∙ append_assoc r.front r.gap (Used bs ∷ f.after) ∙ ap (λ l. r.front ++ l) (sym (append_assoc r.gap (Used bs ∷ []) f.after)) in
    let tidy = subst (IsTidy false) is s.heap.tidy in
    let behind = tidy_behind_used false passed bs f.after tidy in
    let low = r.low_is in
    let place = r.place_is in
    let size = f.size_is in
    let sums = total-append r.front r.gap in
    let mids = total-append r.gap (Used bs ∷ []) in
    let all = ap (total size_of) is' ∙ total-append r.front (mid ++ f.after) ∙ ap (λ n. total size_of r.front + n) (total-append mid f.after) in
    let m0 = multiple_of_sizes false h.segments s.heap.tidy in
    let m1 = multiple_of_sizes false r.front r.tidy in
    let m2 = multiple_of_sizes false f.after behind.1 in
    let base = s.base in
    record {
      has = opened b at h r.front mid f.after (at + spot.link) (at + spot.low) next (at + (spot.place + spot.size)) s is' r.link_is (omega arith) (omega arith)
          (subst (λ q. LinksTo b at q next) (sym (gap_last at spot.low spot.place spot.link spot.from r.gap bs r.gap_is)) k);
      based = omega arith;
      multiple = omega arith;
      tidy_before = r.tidy;
      tidy_behind = behind.1;
    }

pub release_is_stretch : (b : List ℕ) (at : ℕ) (h : Heap) (address : ℕ) (spot : Spot) (next : ℕ) → Spells b at h → FoundBlock at h address spot
    → LinksTo b at (at + spot.from) next → IsStretch b at (release_stretch spot next)
release_is_stretch b at h address spot next s f k =
    is_stretch b at h.end f.reached.front f.after (release_stretch spot next) (release_between b at h address spot next s f k)

joined_gap : (low place link from size : ℕ) (gap after : List Segment) → GapIs low place link from gap → IsTidy false after → 0 < size
    → joined (gap ++ Hole size ∷ after) ≡ with_hole (place + size - low) after
joined_gap low place link from size [] after (no_gap e f) t h = ap (with_hole size) (joined-tidy false after t) ∙ ap (λ n. with_hole n after) (omega arith)
joined_gap low place link from size (Hole n ∷ []) after (a_gap _ e f) t h =
    ap (λ l. with_hole n (with_hole size l)) (joined-tidy false after t) ∙ with_hole-with_hole n size after h ∙ ap (λ i. with_hole i after) (omega arith)
joined_gap low place link from size (Used cs ∷ ss) after k t h = elim k [ ]
joined_gap low place link from size (Hole n ∷ x ∷ ss) after k t h = elim k [ ]

-- the list after a release
pub released_is : (at : ℕ) (h : Heap) (address : ℕ) (spot : Spot) → IsTidy false h.segments → (f : FoundBlock at h address spot)
    → release_block address h ≡ record { segments = f.reached.front ++ with_hole (spot.place + spot.size - spot.low) f.after; end = h.end }
released_is at h address spot t f =
    let r = f.reached in
    let bs = f.bytes in
    let passed = r.front ++ r.gap in
    let tidy = subst (IsTidy false) (r.is ∙ ap (λ l. passed ++ l) f.rest_is) t in
    let behind = tidy_behind_used false passed bs f.after tidy in
    ap (λ o. release_found o h) f.found
    ∙ ap (λ (l : List Segment). let k : Heap = record { segments = l; end = h.end } in k)
    (ap joined (append_assoc r.front r.gap (Hole (4 + length bs) ∷ f.after)) ∙ joined-front false r.front (r.gap ++ Hole (4 + length bs) ∷ f.after) r.tidy
    ∙ ap (λ l. r.front ++ l) (joined_gap spot.low spot.place spot.link spot.from (4 + length bs) r.gap f.after r.gap_is behind.1 (omega arith)
    ∙ ap (λ n. with_hole (spot.place + n - spot.low) f.after) (sym f.size_is)))

pub release_spells : (b c : List ℕ) (at : ℕ) (h : Heap) (address : ℕ) (spot : Spot) (next : ℕ) → Spells b at h → FoundBlock at h address spot
    → LinksTo b at (at + spot.from) next → Settles b c at (release_stretch spot next) → Spells c at (release_block address h)
release_spells b c at h address spot next s f k settles =
    subst (Spells c at) (sym (released_is at h address spot s.heap.tidy f))
    (settles h.end f.reached.front f.after (release_between b at h address spot next s f k))
