-- A world with one made area more, or one less.
use Rattle.rh_tasks.proofs.Common.{◌≡◌, ◌≢◌, ℕ, ◌+◌, ◌/◌, ◌%◌, ◌<◌, refl, ap, arith, List, [], ◌∷◌, ◌++◌, length, ◌∙◌, sym, map, filter, not, IsNone}
use Rattle.rh_tasks.proofs.Common.{AllByRecursion, remove, length-append, map-append, Memory, IsOpen, bytes, opened, closed, open_below-opened, area-opened}
use Rattle.rh_tasks.proofs.Common.{total, FileList, Post, Desk, Made, task_pages, used_pages, IsDesk, MAX_AREAS, PAGE, Seat, MadeArea, Kept, pages_at}
use Rattle.rh_tasks.proofs.Common.{made_of, desk_of, slot_area, made_area, Avoids, HasSlot, IsAbove, HasAreas, IsWorld, Sits, all-at, all-map, avoids-back}
use Rattle.rh_tasks.proofs.Common.{Stay, tasks-stay, slots-stay, mades-stay, mades-opened, fixed-stay, fixed-opened, post-stays, queue-stays, scrap-stays}
use Rattle.rh_tasks.proofs.Common.{scrap-fits, module-stays, numbers, same-desk}
use Rattle.std.proofs.lemmas.List.Edits.{length-remove}
use Rattle.rh_defs.proofs.MemoryLaws.{open_below-closed, bytes-opened, free-opened, pages-opened, IsOpen-opened, free-closed, pages-closed}
use Rattle.rh_defs.proofs.Cuts.{total-append}
use Rattle.rh_defs.specs.Commands.{is_numbered}
use Rattle.rh_tasks.specs.Inner.MadeNumbers.{made_number}
use Rattle.rh_tasks.proofs.Lists.{all-push, all-removed, avoids-push, avoids-fewer, avoids-removed, distinct-push, distinct-removed}
use Rattle.rh_tasks.proofs.Mades.{area-sits}
use Rattle.rh_tasks.proofs.Joins.{none-is, off-open, closed-above, closed-stay, fixed-opened-else, filter-others, total-removed, total-map}

abbrev pages_of_made : Made → ℕ
pages_of_made m = m.pages

-- one more number to be avoided
also-avoids : (seats : List Seat) (made : List MadeArea) (a : MadeArea) → AllByRecursion (λ (s : Seat). Avoids s.slot.area.0 (map made_area made)) seats
    → Avoids a.area.0 (map slot_area seats) → AllByRecursion (λ (s : Seat). Avoids s.slot.area.0 (map made_area (made ++ a ∷ []))) seats
also-avoids [] made a all off = tt
also-avoids (s ∷ seats) made a all off = (avoids-push made_area s.slot.area.0 made a all.0 (λ q. off.0 (sym q)), also-avoids seats made a all.1 off.1)

fewer-avoids : (seats : List Seat) (made : List MadeArea) (i : ℕ) → AllByRecursion (λ (s : Seat). Avoids s.slot.area.0 (map made_area made)) seats
    → AllByRecursion (λ (s : Seat). Avoids s.slot.area.0 (map made_area (remove made i))) seats
fewer-avoids [] made i all = tt
fewer-avoids (s ∷ seats) made i all = (avoids-fewer made_area s.slot.area.0 made i all.0, fewer-avoids seats made i all.1)

-- ---- a made area comes

module _ {m : Memory} {seats : List Seat} {made : List MadeArea} {files : FileList} {kept : Kept} (a : MadeArea)
    (w : IsWorld m seats made files kept) (none : IsNone (m.area a.area.0)) (low : a.area.0 < MAX_AREAS) where
  abbrev n : Memory
  n = opened m a.area.0

  stay : Stay m n a.area.0
  stay = record { others = λ j ne. area-opened m a.area.0 j ne }

  above : IsAbove a.area.0
  above = closed-above a.area.0 w.areas none

  not-module : 1 ≢ a.area.0
  not-module q = absurd (omega (arith, above))

  not-scrap : 5 ≢ a.area.0
  not-scrap q = absurd (omega (arith, above))

  off-slots : Avoids a.area.0 (map slot_area seats)
  off-slots = off-open slot_area m a.area.0 seats none (all-map (HasSlot m) (λ (x : Seat). IsOpen m x.slot.area.0) seats (λ x h. h.opened) w.areas.slots)

  off-made : Avoids a.area.0 (map made_area made)
  off-made = off-open made_area m a.area.0 made none w.areas.made_open

  no-page : pages_at n a.area.0 ≡ 0
  unfolding pages_at
  no-page = ap (λ (b : List ℕ). length b / PAGE) (bytes-opened m a.area.0)

  pub made-more : (number : ℕ) → (let x : Kept = record kept { next = record kept.next { area = number } } in desk_of n seats (made ++ a ∷ []) files x)
      ≡ (let d : Desk =
      record (desk_of m seats made files kept)
      { made = map (made_of m) made ++ record { number = a.number; most = a.most; pages = 0 } ∷ []; next_area = number } in d)
  unfolding made_of
  made-more number = same-desk (let d : Desk = record (desk_of m seats made files kept) { next_area = number } in d)
      (tasks-stay seats stay off-slots) (post-stays kept.queue stay not-module) (fixed-stay stay above)
      (map-append (made_of n) made (a ∷ []) ∙ (let e = mades-stay made stay off-made in rw (e, no-page) refl)) (pages-opened m a.area.0)
      (scrap-stays kept.scrap stay not-scrap)

  more-areas : HasAreas n seats (made ++ a ∷ [])
  more-areas = record {
    fixed_open = fixed-opened stay (IsOpen-opened m a.area.0) w.areas.fixed_open;
    module_area = module-stays stay not-module w.areas.module_area;
    slots = slots-stay seats stay off-slots w.areas.slots;
    made_open = all-push (λ (x : MadeArea). IsOpen n x.area.0) made a (mades-opened made stay off-made w.areas.made_open) (IsOpen-opened m a.area.0);
    slots_above = w.areas.slots_above;
    made_above = all-push (λ (x : MadeArea). IsAbove x.area.0) made a w.areas.made_above above;
    slots_apart = w.areas.slots_apart;
    made_apart = distinct-push made_area made a w.areas.made_apart off-made;
    beside = also-avoids seats made a w.areas.beside off-slots;
    count = omega (arith, open_below-opened m a.area.0 MAX_AREAS (none-is _ none) low, w.areas.count, length-append made (a ∷ []));
  }

  more-ledger : (number : ℕ)
      → n.free + (let x : Kept = record kept { next = record kept.next { area = number } } in
      used_pages (desk_of n seats (made ++ a ∷ []) files x)) ≡ n.pages
  unfolding made_of
  more-ledger number =
      omega (
        arith,
        w.ledger,
        free-opened m a.area.0,
        pages-opened m a.area.0,
        ap used_pages (made-more number),
        total-append pages_of_made (map (made_of m) made) (record { number = a.number; most = a.most; pages = 0 } ∷ []),
      )

  pub more-world : (let x : Kept = record kept { next = record kept.next { area = kept.next.area + 1 } } in IsDesk (desk_of n seats (made ++ a ∷ []) files x)
      → IsWorld n seats (made ++ a ∷ []) files x)
  more-world d = record {
    desk = d;
    areas = more-areas;
    queue = queue-stays stay not-module w.queue;
    scrap = scrap-fits kept.scrap stay not-scrap w.scrap;
    ledger = more-ledger (kept.next.area + 1);
  }

-- ---- a made area goes

module _ {m : Memory} {seats : List Seat} {made : List MadeArea} {files : FileList} {kept : Kept} {i : ℕ} {a : MadeArea}
    (w : IsWorld m seats made files kept) (at : Sits made i a) (whole : length (bytes m a.area.0) % PAGE ≡ 0) (inside : a.area.0 < MAX_AREAS) where
  abbrev k : Memory
  k = closed m a.area.0

  around : Stay m k a.area.0
  around = closed-stay m a.area.0

  high : IsAbove a.area.0
  high = all-at (λ (x : MadeArea). IsAbove x.area.0) made i a w.areas.made_above at

  off-module : 1 ≢ a.area.0
  off-module q = absurd (omega (arith, high))

  off-scrap : 5 ≢ a.area.0
  off-scrap q = absurd (omega (arith, high))

  off-seats : Avoids a.area.0 (map slot_area seats)
  off-seats = avoids-back slot_area (map made_area made) seats w.areas.beside i a.area.0 (area-sits made i a at)

  off-others : Avoids a.area.0 (map made_area (remove made i))
  off-others = avoids-removed made_area made i a at w.areas.made_apart

  pub made-less : desk_of k seats (remove made i) files kept
      ≡ (let d : Desk = record (desk_of m seats made files kept) { made = filter (λ (x : Made). not (is_numbered a.number x)) (map (made_of m) made) } in d)
  unfolding made_of
  made-less = same-desk (desk_of m seats made files kept)
      (tasks-stay seats around off-seats) (post-stays kept.queue around off-module) (fixed-stay around high)
      (mades-stay (remove made i) around off-others ∙ sym (filter-others made_number (made_of m) (λ (x : Made). x.number) (λ x. refl) made i a at
      (numbers w))) (pages-closed m a.area.0) (scrap-stays kept.scrap around off-scrap)

  less-areas : HasAreas k seats (remove made i)
  less-areas = record {
    fixed_open = fixed-opened-else m a.area.0 high w.areas.fixed_open;
    module_area = module-stays around off-module w.areas.module_area;
    slots = slots-stay seats around off-seats w.areas.slots;
    made_open = mades-opened (remove made i) around off-others (all-removed (λ (x : MadeArea). IsOpen m x.area.0) made i w.areas.made_open);
    slots_above = w.areas.slots_above;
    made_above = all-removed (λ (x : MadeArea). IsAbove x.area.0) made i w.areas.made_above;
    slots_apart = w.areas.slots_apart;
    made_apart = distinct-removed made_area made i w.areas.made_apart;
    beside = fewer-avoids seats made i w.areas.beside;
    count = omega (
      arith,
      open_below-closed m a.area.0 MAX_AREAS (all-at (λ (x : MadeArea). IsOpen m x.area.0) made i a w.areas.made_open at) inside,
      w.areas.count,
      length-remove made i at.inside,
    );
  }

  less-ledger : k.free + used_pages (desk_of k seats (remove made i) files kept) ≡ k.pages
  unfolding made_of pages_at
  less-ledger =
      let gone = total-removed (λ (x : MadeArea). pages_at m x.area.0) made i a at in
      omega (
        arith,
        w.ledger,
        gone,
        total-map pages_of_made (made_of m) made,
        total-map pages_of_made (made_of m) (remove made i),
        whole,
        free-closed m a.area.0,
        pages-closed m a.area.0,
        ap (total task_pages) (tasks-stay seats around off-seats),
        ap (total (λ p. p)) (fixed-stay around high),
        ap (total pages_of_made) (mades-stay (remove made i) around off-others),
        ap (λ (p : Post). p.heap.end) (post-stays kept.queue around off-module),
      )

  pub less-world : IsDesk (desk_of k seats (remove made i) files kept) → IsWorld k seats (remove made i) files kept
  less-world is = record {
    desk = is;
    areas = less-areas;
    queue = queue-stays around off-module w.queue;
    scrap = scrap-fits kept.scrap around off-scrap w.scrap;
    ledger = less-ledger;
  }
