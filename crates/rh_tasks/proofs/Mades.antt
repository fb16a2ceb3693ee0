-- A world in which a made area has changed.
use Rattle.rh_tasks.proofs.Common.{◌≡◌, ◌≢◌, ℕ, zero, suc, ◌+◌, ◌%◌, refl, ap, subst, arith, List, [], ◌∷◌, length, ◌∙◌, sym, map, find, Some, PAGE, Memory}
use Rattle.rh_tasks.proofs.Common.{IsOpen, OnlyArea, bytes, total, FileList, Desk, Made, used_pages, IsDesk, Seat, MadeArea, Kept, pages_at, made_of, desk_of}
use Rattle.rh_tasks.proofs.Common.{slot_area, made_area, Avoids, AreDistinct, IsAbove, HasAreas, IsWorld, Sits, all-at, avoids-at, avoids-back, Stay, if_same}
use Rattle.rh_tasks.proofs.Common.{if_apart, tasks-stay, slots-stay, fixed-stay, fixed-opened, post-stays, queue-stays, scrap-stays, scrap-fits, module-stays}
use Rattle.rh_tasks.proofs.Common.{count-stays, numbers, same-desk}
use Rattle.rh_defs.specs.Commands.{with_pages, is_numbered}
use Rattle.rh_tasks.specs.Inner.MadeNumbers.{made_number}
use Rattle.rh_tasks.proofs.Frames.{mades-edited, mades-opened-at}
use Rattle.rh_tasks.proofs.Fixed.{pages-of}

abbrev pages_of_made : Made → ℕ
pages_of_made m = m.pages

-- the sum with other pages for the area of a number
none-changed : (k p : ℕ) (m : Memory) (made : List MadeArea) → Avoids k (map made_number made)
    → total pages_of_made (map (with_pages k p) (map (made_of m) made)) ≡ total pages_of_made (map (made_of m) made)
unfolding made_of
none-changed k p m [] off = refl
none-changed k p m (a ∷ made) off =
    let here : with_pages k p (made_of m a) ≡ made_of m a = if_apart a.number k _ _ off.0 in
    omega (arith, ap pages_of_made here, none-changed k p m made off.1)

total-with_pages : (p : ℕ) (m : Memory) (made : List MadeArea) (i : ℕ) (a : MadeArea) → Sits made i a → AreDistinct (map made_number made)
    → total pages_of_made (map (with_pages a.number p) (map (made_of m) made)) + pages_at m a.area.0 ≡ total pages_of_made (map (made_of m) made) + p
unfolding made_of
total-with_pages p m [] i a at numbers = absurd (omega (arith, at.inside))
total-with_pages p m (x ∷ made) zero a at numbers =
    let same : with_pages a.number p (made_of m x) ≡ (let y : Made = record (made_of m x) { pages = p } in y) =
    if_same x.number a.number _ _ (ap made_number at.is) in
    let off : Avoids a.number (map made_number made) =
    (let P : ℕ → Type 0 = λ k. Avoids k (map made_number made) in subst P (ap made_number at.is) numbers.0) in
    omega (arith, ap pages_of_made same, none-changed a.number p m made off, ap (λ (y : MadeArea). pages_at m y.area.0) at.is)
total-with_pages p m (x ∷ made) (suc i) a at numbers =
    let rest : Sits made i a = record { inside = omega (arith, at.inside); is = at.is } in
    let other : with_pages a.number p (made_of m x) ≡ made_of m x =
    if_apart x.number a.number _ _ (λ q. avoids-at made_number x.number made i a numbers.0 rest (sym q)) in
    omega (arith, ap pages_of_made other, total-with_pages p m made i a rest numbers.1)

-- the area of a number is the one that has it
pub made-first : (m : Memory) (made : List MadeArea) (i : ℕ) (a : MadeArea) → Sits made i a → AreDistinct (map made_number made)
    → find (is_numbered a.number) (map (made_of m) made) ≡ Some (made_of m a)
unfolding made_of
made-first m [] i a at numbers = absurd (omega (arith, at.inside))
made-first m (x ∷ made) zero a at numbers =
    if_same x.number a.number _ _ (ap made_number at.is) ∙ ap (λ y. Some (made_of m y)) at.is
made-first m (x ∷ made) (suc i) a at numbers =
    let rest : Sits made i a = record { inside = omega (arith, at.inside); is = at.is } in
    if_apart x.number a.number _ _ (λ q. avoids-at made_number x.number made i a numbers.0 rest (sym q)) ∙ made-first m made i a rest numbers.1

-- the place of a made area among the areas
pub area-sits : (made : List MadeArea) (i : ℕ) (a : MadeArea) → Sits made i a → Sits (map made_area made) i a.area.0
area-sits [] i a at = absurd (omega (arith, at.inside))
area-sits (x ∷ made) zero a at = record { inside = omega arith; is = ap made_area at.is }
area-sits (x ∷ made) (suc i) a at =
    let rest = area-sits made i a (record { inside = omega (arith, at.inside); is = at.is }) in
    record { inside = omega (arith, rest.inside); is = rest.is }

module _ {m n : Memory} {seats : List Seat} {made : List MadeArea} {files : FileList} {kept : Kept} {i : ℕ} {a : MadeArea}
    (w : IsWorld m seats made files kept) (at : Sits made i a) (only : OnlyArea m n a.area.0) where
  stay : Stay m n a.area.0
  stay = record { others = only.others }

  above : IsAbove a.area.0
  above = all-at (λ (x : MadeArea). IsAbove x.area.0) made i a w.areas.made_above at

  not-module : 1 ≢ a.area.0
  not-module q = absurd (omega (arith, above))

  not-scrap : 5 ≢ a.area.0
  not-scrap q = absurd (omega (arith, above))

  off : Avoids a.area.0 (map slot_area seats)
  off = avoids-back slot_area (map made_area made) seats w.areas.beside i a.area.0 (area-sits made i a at)

  pub made-desk : desk_of n seats made files kept ≡ (let d : Desk = record (desk_of m seats made files kept)
      { made = map (with_pages a.number (pages_at n a.area.0)) (map (made_of m) made) } in d)
  made-desk = same-desk (desk_of m seats made files kept)
      (tasks-stay seats stay off) (post-stays kept.queue stay not-module) (fixed-stay stay above)
      (mades-edited made i a at (numbers w) w.areas.made_apart stay) only.pages (scrap-stays kept.scrap stay not-scrap)

  made-areas : HasAreas n seats made
  made-areas = record {
    fixed_open = fixed-opened stay only.opened w.areas.fixed_open;
    module_area = module-stays stay not-module w.areas.module_area;
    slots = slots-stay seats stay off w.areas.slots;
    made_open = mades-opened-at made i a at w.areas.made_apart stay only.opened w.areas.made_open;
    slots_above = w.areas.slots_above;
    made_above = w.areas.made_above;
    slots_apart = w.areas.slots_apart;
    made_apart = w.areas.made_apart;
    beside = w.areas.beside;
    count = count-stays _ stay (all-at (λ (x : MadeArea). IsOpen m x.area.0) made i a w.areas.made_open at) only.opened ∙ w.areas.count;
  }

  made-ledger : length (bytes m a.area.0) % PAGE ≡ 0 → length (bytes n a.area.0) % PAGE ≡ 0 → n.free + used_pages (desk_of n seats made files kept) ≡ n.pages
  made-ledger whole_before whole_after =
      omega (
        arith,
        w.ledger,
        only.ledger,
        only.pages,
        ap used_pages made-desk,
        total-with_pages (pages_at n a.area.0) m made i a at (numbers w),
        pages-of m a.area.0 whole_before,
        pages-of n a.area.0 whole_after,
      )

  pub made-world : length (bytes m a.area.0) % PAGE ≡ 0 → length (bytes n a.area.0) % PAGE ≡ 0 → IsDesk (desk_of n seats made files kept)
      → IsWorld n seats made files kept
  made-world whole_before whole_after is = record {
    desk = is;
    areas = made-areas;
    queue = queue-stays stay not-module w.queue;
    scrap = scrap-fits kept.scrap stay not-scrap w.scrap;
    ledger = made-ledger whole_before whole_after;
  }
