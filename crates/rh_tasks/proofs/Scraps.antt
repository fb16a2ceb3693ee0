-- Worlds in which area 5 or the scrap file changes.
use Rattle.rh_tasks.proofs.Common.{◌≡◌, ℕ, ◌+◌, ◌-◌, ◌*◌, ◌/◌, ◌%◌, ◌<◌, ◌≤◌, refl, ap, sym, subst, ◌∙◌, arith, List, length, take, drop, Option, Some, None}
use Rattle.rh_tasks.proofs.Common.{Ok, IsOk, is_some, replicate, slice_set, length-take, take_all, PAGE, part, length-part, part-drop, Memory, OnlyArea}
use Rattle.rh_tasks.proofs.Common.{bytes, grown, length-grown, OnlyArea-self, OnlyArea-grown, FileList, Granted, no_answer, Split, pages_for, Letter}
use Rattle.rh_tasks.proofs.Common.{post_send_pages, Flex, flex_address, slot_start, slot_block, slot_size, anchor_count}
use Rattle.rh_tasks.proofs.Common.{flex_place, Desk, Task, Scrap, used_pages, free_pages, IsDesk, wider, scrap_shortage, appended, IsSlotIn, slot_in}
use Rattle.rh_tasks.proofs.Common.{LeavesSlotIn}
use Rattle.rh_tasks.proofs.Common.{Answers, Standing, Seat, MadeArea, ScrapFile, Kept, the_module, HasSlot, pages_at, fixed_pages, scrap_from, scrap_size}
use Rattle.rh_tasks.proofs.Common.{scrap_of, slot_area, made_area, task_of, desk_of, shown_of, IsWorld, Shown, slot_append, IsAt, Becomes, Sits, cons, all-at}
use Rattle.rh_tasks.proofs.Common.{avoids-below, Stay, pages-stay, tasks-stay, mades-stay, module-stays, post-stays, queue-stays, free-is, same-desk}
use Rattle.std.proofs.lemmas.List.{take-append-le}
use Rattle.rh_defs.specs.Bytes.{with_part}
use Rattle.rh_defs.proofs.BytesLaws.{length-put, part-put}
use Rattle.rh_defs.specs.Memory.{with_bytes}
use Rattle.rh_defs.proofs.MemoryLaws.{bytes-with_bytes, bytes-grown, OnlyArea-with_bytes}
use Rattle.rh_defs.specs.Slot as plain
use Rattle.rh_defs.specs.Slot.{slot_address}
use Rattle.rh_defs.proofs.Transfers.{wider-keeps, scrap-keeps}
use Rattle.rh_slot.proofs.Ranges.{flex-part}
use Rattle.rh_tasks.proofs.Posts.{is-post}
use Rattle.rh_tasks.proofs.Fixed.{KeepsFirst, fixed-at, fixed-desk, fixed-open, fixed-world, changed-areas, pages-of}
use Rattle.rh_tasks.proofs.AreaCommands.{file-length}
use Rattle.rh_tasks.proofs.Portions.{Sized, sized, addressed}
use Rattle.rh_tasks.proofs.Appends.{sized-anchor}
use Rattle.rh_tasks.proofs.Buffers.{seat-task, appended-becomes}

-- ---- area 5 gets longer

module _ {m : Memory} {seats : List Seat} {made : List MadeArea} {files : FileList} {kept : Kept}
    (w : IsWorld m seats made files kept) (more : ℕ) (room : more ≤ m.free) (whole : length (bytes m 5) % PAGE ≡ 0) where
  abbrev longer : Memory
  longer = grown m 5 more

  first-kept : KeepsFirst m longer 5
  first-kept = record {
    first = λ k inside _. ap (take k) (bytes-grown m 5 more) ∙ take-append-le k (bytes m 5) (replicate (PAGE * more) 0) inside;
  }

  still-fits : scrap_size kept.scrap ≤ length (bytes longer 5)
  still-fits = omega (arith, w.scrap, length-grown m 5 more)

  still-whole : length (bytes longer 5) % PAGE ≡ 0
  still-whole = omega (arith, whole, length-grown m 5 more)

  pages-more : pages_at longer 5 ≡ pages_at m 5 + more
  unfolding pages_at
  pages-more = omega (arith, whole, length-grown m 5 more)

  pub wider-desk : desk_of longer seats made files kept ≡ wider more (desk_of m seats made files kept)
  wider-desk =
      fixed-desk w (omega arith) (OnlyArea-grown m 5 more room) (λ q. absurd (omega (arith, q))) first-kept still-fits whole still-whole
      ∙ ap (λ v. let e : Desk = record (desk_of m seats made files kept) { areas = slice_set (fixed_pages m) 5 v } in e)
      (pages-more ∙ ap (λ p. p + more) (sym (fixed-at m 5 (omega arith) (λ q. absurd (omega (arith, q))))))

  pub wider-world : IsWorld longer seats made files kept
  wider-world =
      fixed-world w (omega arith) (OnlyArea-grown m 5 more room) (λ q. absurd (omega (arith, q))) first-kept still-fits whole still-whole
      (subst IsDesk (sym wider-desk) (wider-keeps more (desk_of m seats made files kept) (omega (arith, room, free-is w)) w.desk))

-- ---- another scrap file, and other bytes in area 5

module _ {m n : Memory} {seats : List Seat} {made : List MadeArea} {files : FileList} {kept : Kept}
    (w : IsWorld m seats made files kept) (only : OnlyArea m n 5) (long : length (bytes n 5) ≡ length (bytes m 5))
    (scrap : Option ScrapFile) where
  abbrev d : Desk
  d = desk_of m seats made files kept

  abbrev pub rewritten : Kept
  rewritten = record kept { scrap = scrap }

  stay : Stay m n 5
  stay = record { others = only.others }

  pages-same : fixed_pages n ≡ fixed_pages m
  unfolding fixed_pages pages_at
  pages-same =
      cons (pages-stay 0 stay (λ q. absurd (omega arith))) (cons refl (cons (pages-stay 2 stay (λ q. absurd (omega arith)))
      (cons (pages-stay 3 stay (λ q. absurd (omega arith))) (cons (pages-stay 4 stay (λ q. absurd (omega arith))) (cons (omega (arith, long)) refl)))))

  pub rewritten-desk : desk_of n seats made files rewritten ≡ (let e : Desk = record d { scrap = scrap_of n scrap } in e)
  rewritten-desk = same-desk d
      (tasks-stay seats stay (avoids-below slot_area 6 5 seats (omega arith) w.areas.slots_above)) (post-stays kept.queue stay (λ q. absurd (omega arith)))
      pages-same
      (mades-stay made stay (avoids-below made_area 6 5 made (omega arith) w.areas.made_above)) only.pages refl

  module _ (fits : scrap_size scrap ≤ length (bytes m 5)) (whole : length (bytes m 5) % PAGE ≡ 0) where
    fits-there : scrap_size scrap ≤ length (bytes n 5)
    fits-there = omega (arith, fits, long)

    is-desk : IsDesk (desk_of n seats made files rewritten)
    is-desk = subst IsDesk (sym rewritten-desk) (scrap-keeps (scrap_of n scrap) d
        (omega (arith, file-length n scrap fits-there, fits, fixed-at m 5 (omega arith) (λ q. absurd (omega (arith, q))), pages-of m 5 whole)) w.desk)

    pub rewritten-world : IsWorld n seats made files rewritten
    rewritten-world = record {
      desk = is-desk;
      areas = changed-areas w.areas (omega arith) only (module-stays stay (λ q. absurd (omega arith)) w.areas.module_area);
      queue = queue-stays stay (λ q. absurd (omega arith)) w.queue;
      scrap = fits-there;
      ledger = omega (arith, w.ledger, only.ledger, only.pages, ap used_pages rewritten-desk, long);
    }

-- the scrap file is given up
module _ {m : Memory} {seats : List Seat} {made : List MadeArea} {files : FileList} {kept : Kept} (w : IsWorld m seats made files kept) where
  same-area : OnlyArea m m 5
  same-area = OnlyArea-self m 5 (fixed-open 5 w.areas (omega arith))

  pub dropped-desk : desk_of m seats made files (record kept { scrap = None }) ≡ (let e : Desk = record (desk_of m seats made files kept) { scrap = None } in e)
  unfolding scrap_of
  dropped-desk = rewritten-desk w same-area refl None

  pub dropped-world : length (bytes m 5) % PAGE ≡ 0 → IsWorld m seats made files (record kept { scrap = None })
  dropped-world whole = rewritten-world w same-area refl None (omega arith) whole

-- ---- a block becomes the scrap file

module _ {m : Memory} {seats : List Seat} {made : List MadeArea} {files : FileList} {kept : Kept} {i : ℕ} {s : Seat}
    (w : IsWorld m seats made files kept) (at : Sits seats i s) (k size load : ℕ) (given : slot_size k (slot_in m s.slot) ≡ Ok size) where
  abbrev pub z : plain.Slot
  z = slot_in m s.slot

  has : IsSlotIn m s.slot
  has = all-at (HasSlot m) seats i s w.areas.slots at

  pub source : Sized k size z
  source = sized (sym given)

  pub source-anchor : k < anchor_count
  source-anchor = sized-anchor k size z (sym given) has.spells.words.anchors

  pub source-address : slot_address k z ≡ Ok (flex_address z source.cut.before)
  source-address = addressed source

  pub source-given : {r : Granted ℕ} → r ≡ slot_address k z → IsOk r
  source-given e = let q = e ∙ source-address in rw q refl

  module _ {address : ℕ} (there : Ok address ≡ slot_address k z) where
    place-is : address ≡ flex_address z source.cut.before
    place-is = let e = there ∙ source-address in cc

    pub source-high : 32768 ≤ address
    source-high = omega (arith, place-is)

    stands : Standing (bytes m s.slot.area.0) (take size (drop 0 source.cut.here.bytes)) (flex_address z source.cut.before + 0 - slot_start) size
        (flex_place z) (length (bytes m s.slot.area.0))
    stands = flex-part m s.slot k 0 size source.cut has source.block (omega (arith, source.long))

    pub source-inside : address - 32768 + size ≤ length (bytes m s.slot.area.0)
    source-inside = omega (arith, stands.high, place-is)

    abbrev pub source_bytes : List ℕ
    source_bytes = part (bytes m s.slot.area.0) (address - 32768) size

    bytes-are : source_bytes ≡ source.cut.here.bytes
    bytes-are =
        ap (λ p. part (bytes m s.slot.area.0) p size) (omega (arith, place-is)) ∙ sym stands.is
        ∙ take_all size source.cut.here.bytes (omega (arith, source.long))

    module _ (room : size ≤ length (bytes m 5)) (whole : length (bytes m 5) % PAGE ≡ 0) where
      abbrev pub filled : Memory
      filled = with_bytes m 5 (with_part (bytes m 5) 0 source_bytes)

      abbrev pub file : Option ScrapFile
      file = Some (record { load = load; size = size })

      bytes-then : bytes filled 5 ≡ with_part (bytes m 5) 0 source_bytes
      bytes-then = bytes-with_bytes m 5 (with_part (bytes m 5) 0 source_bytes)

      length-same : length (with_part (bytes m 5) 0 source_bytes) ≡ length (bytes m 5)
      length-same = length-put (bytes m 5) 0 source_bytes

      only : OnlyArea m filled 5
      only = OnlyArea-with_bytes m 5 (with_part (bytes m 5) 0 source_bytes) length-same

      first-are : take size (bytes filled 5) ≡ source.cut.here.bytes
      first-are =
          ap (take size) bytes-then
          ∙ sym (part-drop (with_part (bytes m 5) 0 source_bytes) 0 size (omega (arith, room, length-same)))
          ∙ part-put (bytes m 5) 0 source_bytes size (sym (length-part (bytes m s.slot.area.0) (address - 32768) size)) (omega (arith, room))
          ∙ bytes-are

      pub filled-world : IsWorld filled seats made files (record kept { scrap = file })
      filled-world = rewritten-world w only (ap (λ b. length b) bytes-then ∙ length-same) file room whole

      pub filled-desk : (b : Split Flex) → slot_block k z ≡ Ok b
          → desk_of filled seats made files (record kept { scrap = file }) ≡
          (let e : Desk = record (desk_of m seats made files kept) { scrap = Some (record { load = load; bytes = b.here.bytes }) } in e)
      unfolding scrap_of
      filled-desk b is =
          let same : source.cut ≡ b = (let q = sym source.block ∙ is in cc) in
          rewritten-desk w only (ap (λ b. length b) bytes-then ∙ length-same) file
          ∙ ap (λ (b : List ℕ). let e : Desk = record (desk_of m seats made files kept) { scrap = Some (record { load = load; bytes = b }) } in e)
          (first-are ∙ ap (λ (b : Split Flex). b.here.bytes) same)

-- ---- the scrap file's bytes at the end of a document

-- the scrap file's bytes are the first of area 5
pub scrap-part : (m : Memory) (scrap : Option ScrapFile) (file : Scrap) → scrap_size scrap ≤ length (bytes m 5) → scrap_of m scrap ≡ Some file
    → part (bytes m 5) 0 (scrap_size scrap) ≡ file.bytes
unfolding scrap_of
scrap-part m None file fits e = absurd cc
scrap-part m (Some f) file fits e =
    let same : scrap_from (bytes m 5) f ≡ file = cc in
    part-drop (bytes m 5) 0 f.size (omega (arith, fits)) ∙ ap (λ (x : Scrap). x.bytes) same

pub scrap-appended : {m n : Memory} {seats : List Seat} {made : List MadeArea} {files : FileList} {kept : Kept} {i : ℕ} {s : Seat} {old : Shown}
    (w : IsWorld m seats made files kept) (at : Sits seats i s) (view : shown_of m seats made files kept ≡ old) (k : ℕ) (r : Granted (Unit {0}))
    → LeavesSlotIn m n s.slot (no_answer (slot_append m.free k (part (bytes m 5) 0 (scrap_size kept.scrap)) (slot_in m s.slot))) r
    → (t : Task) (file : Scrap) → IsAt i t old.desk → old.desk.scrap ≡ Some file
    → Becomes (appended old.desk t k file.bytes) old (shown_of n seats made files kept) r
scrap-appended {m} {n} {seats} {made} {files} {kept} {i} {s} {old} w at view k r l t file there is =
    let d : Desk = desk_of m seats made files kept in
    let xs : List ℕ = part (bytes m 5) 0 (scrap_size kept.scrap) in
    let has : scrap_of m kept.scrap ≡ Some file = ap (λ (x : Shown). x.desk.scrap) view ∙ is in
    let P : Task → Type 0 = λ u. Becomes (appended d u k xs) (shown_of m seats made files kept) (shown_of n seats made files kept) r in
    let Q : List ℕ → Type 0 = λ ys. Becomes (appended d t k ys) (shown_of m seats made files kept) (shown_of n seats made files kept) r in
    let R : Shown → Type 0 = λ o. Becomes (appended o.desk t k file.bytes) o (shown_of n seats made files kept) r in
    subst R view (subst Q (scrap-part m kept.scrap file w.scrap has) (subst P (seat-task w view at there) (appended-becomes w at k xs r l)))

-- ---- what a world shows

module _ {m : Memory} {seats : List Seat} {made : List MadeArea} {files : FileList} {kept : Kept} {old : Shown}
    (w : IsWorld m seats made files kept) (view : shown_of m seats made files kept ≡ old) where
  pub seen-desk : IsDesk old.desk
  seen-desk = subst (λ (x : Shown). IsDesk x.desk) view w.desk

  pub seen-slot : {i : ℕ} {s : Seat} {t : Task} → Sits seats i s → IsAt i t old.desk → slot_in m s.slot ≡ t.slot
  unfolding task_of
  seen-slot at there = ap (λ (x : Task). x.slot) (seat-task w view at there)

  -- the scrap file as the desk has it
  pub seen-nothing : kept.scrap ≡ None → old.desk.scrap ≡ None
  unfolding scrap_of
  seen-nothing e = sym (ap (λ (x : Shown). x.desk.scrap) view) ∙ ap (scrap_of m) e

  pub seen-file : (f : ScrapFile) → kept.scrap ≡ Some f → old.desk.scrap ≡ Some (scrap_from (bytes m 5) f)
  unfolding scrap_of
  seen-file f e = sym (ap (λ (x : Shown). x.desk.scrap) view) ∙ ap (scrap_of m) e

  pub seen-size : (f : ScrapFile) → kept.scrap ≡ Some f → f.size ≡ length (scrap_from (bytes m 5) f).bytes
  seen-size f e = omega (arith, length-take f.size (bytes m 5), subst (λ o. scrap_size o ≤ length (bytes m 5)) e w.scrap)

  pub seen-busy : is_some old.desk.scrap ≡ is_some kept.scrap
  unfolding scrap_of
  seen-busy = sym (ap (λ (x : Shown). is_some x.desk.scrap) view) ∙ go kept.scrap
    where
      go : (o : Option ScrapFile) → is_some (scrap_of m o) ≡ is_some o
      go None = refl
      go (Some f) = refl

  pub seen-free : free_pages old.desk ≡ m.free
  seen-free = sym (ap (λ (x : Shown). free_pages x.desk) view) ∙ free-is w

  -- the pages that area 5 has too few
  pub seen-shortage : (n : ℕ) → scrap_shortage n old.desk ≡ pages_for n - length (bytes m 5) / PAGE
  unfolding pages_at
  seen-shortage n =
      sym (ap (λ (x : Shown). scrap_shortage n x.desk) view) ∙ ap (λ k. pages_for n - k) (fixed-at m 5 (omega arith) (λ q. absurd (omega (arith, q))))

  -- the pages that a letter takes
  pub seen-pages : (l : Letter) {r : Granted ℕ} → Answers m the_module kept.queue (post_send_pages l) r → post_send_pages l old.desk.post ≡ r
  seen-pages l a = ap (post_send_pages l) (sym (ap (λ (x : Shown). x.desk.post) view)) ∙ sym (a _ (is-post w))
