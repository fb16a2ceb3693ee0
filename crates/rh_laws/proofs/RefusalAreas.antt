-- The commands on areas, against their rows of the table.
use Rattle.rh_laws.proofs.Common.{◌≡◌, ℕ, ◌+◌, ◌*◌, ◌/◌, ◌≤◌, ◌<◌, Bool, true, false, cond, List, [], ◌∷◌, length, map, Option, Some, None, refl, sym, ap}
use Rattle.rh_laws.proofs.Common.{subst, arith, ◌∙◌, find, is_none, is_some, ◌&&◌, ◌==◌, nat_lt, nat_le, slice_index, ℤ, pos, negsuc, Ok, AllByRecursion}
use Rattle.rh_laws.proofs.Common.{option_map, eqb-true, NoRoom, Granted, ◌>>=◌, ◌>>◌, found_or, refuse_if, base, Desk, free_pages, Answer, IsDesk, Rise}
use Rattle.rh_laws.proofs.Common.{eqb_apart}
use borrow.Author.Tests.{leb-true, leb-false}
use Rattle.rh_defs.specs.declared.refusal.Refusal.TheVariants.{ExcessiveShrink, NoArea, TooBig}
use Rattle.rh_defs.specs.declared.command.Command.TheVariants as command
use Rattle.rh_defs.specs.declared.reply.Reply.TheVariants as reply
use Rattle.rh_defs.specs.Forms.{first_made}
use Rattle.rh_defs.specs.Pieces.{page_size}
use Rattle.rh_defs.specs.Module.{changed_length, module_change, whole_pages}
use Rattle.rh_defs.specs.Desk.{Made, file_length, module_area, scrap_area}
use Rattle.rh_defs.specs.Commands.{change_area, change_made, change_module, change_pages, is_numbered, least_length, pages_after, with_pages}
use Rattle.rh_defs.proofs.HeapLists.{ltb_yes, ltb_no}
use Rattle.rh_laws.specs.RefusalOrder.{RefusalRow}
use Rattle.rh_laws.specs.RefusalRooms.{gained_pages, lost_bytes, made_area}
use Rattle.rh_laws.specs.Conditions.{conditions, there_is}
use Rattle.rh_laws.proofs.RefusalSteps.{GoesBy, add_row, done, granted_then, in_steps, in_steps_both, refused_if, refused_then, same_rows}
use Rattle.rh_laws.proofs.RefusalRoomLaws.{gains-same, lt_same, module_shrinks-same, shrinks-same}

-- no made area has a number below the least one
none-below : (k least next : ℕ) (made : List Made) → k < least → Rise (λ (m : Made). m.number) least next made
    → find (is_numbered k) made ≡ None
none-below k least next [] low up = refl
none-below k least next (m ∷ made) low up =
    let other : (m.number == k) ≡ false = eqb_apart m.number k (let above = up.0 in omega arith) in
    ap (λ (b : Bool). cond b (Some m) (find (is_numbered k) made)) other
    ∙ none-below k (m.number + 1) next made (let above = up.0 in omega arith) up.1

-- a made area has no more pages than it may
found-size : (k : ℕ) (made : List Made) (m : Made) → find (is_numbered k) made ≡ Some m
    → AllByRecursion (λ (m : Made). m.pages ≤ m.most) made → m.pages ≤ m.most
found-size k [] m e all = absurd cc
found-size k (x ∷ made) m e all = go (x.number == k) e (λ f. found-size k made m f all.1)
  where
    go : (b : Bool) → cond b (Some x) (find (is_numbered k) made) ≡ Some m
        → (find (is_numbered k) made ≡ Some m → m.pages ≤ m.most) → m.pages ≤ m.most
    go true f rest = let same : x ≡ m = cc in let here = all.0 in
        omega (arith, ap (λ (y : Made). y.pages) same, ap (λ (y : Made). y.most) same)
    go false f rest = rest f

module _ (d : Desk) (is : IsDesk d) where
  -- the rows of an area of so many bytes, of which it keeps so many, and of the made area of its number
  abbrev area_rows : Option ℕ → ℕ → Option Made → ℤ → List RefusalRow
  area_rows size kept made delta =
      (ExcessiveShrink, there_is (λ n. nat_lt n (kept + lost_bytes delta)) size)
      ∷ (NoRoom, is_some size && nat_lt (free_pages d) (gained_pages delta))
      ∷ (NoArea, is_none size)
      ∷ (TooBig, there_is (λ (m : Made). nat_lt m.most (m.pages + gained_pages delta)) made)
      ∷ []

  rows-same : (size other : Option ℕ) (kept least : ℕ) (made found : Option Made) (delta : ℤ) → size ≡ other
      → kept ≡ least → made ≡ found → area_rows other least found delta ≡ area_rows size kept made delta
  rows-same size other kept least made found delta e f g =
      ap (λ (s : Option ℕ). area_rows s least found delta) (sym e)
      ∙ ap (λ (n : ℕ). area_rows size n found delta) (sym f)
      ∙ ap (λ (m : Option Made). area_rows size kept m delta) (sym g)

  -- ---- each kind of area

  pages-then : (least pages : ℕ) (delta : ℤ) (next : ℕ → Granted Answer) (rows : List RefusalRow) → least ≤ page_size * pages
      → GoesBy (next (changed_length (page_size * pages) delta / page_size)) rows
      → GoesBy (pages_after (free_pages d) least pages delta >>= next)
      ((ExcessiveShrink, nat_lt (page_size * pages) (least + lost_bytes delta)) ∷ (NoRoom, nat_lt (free_pages d) (gained_pages delta)) ∷ rows)
  unfolding pages_after
  pages-then least pages delta next rows enough q =
      in_steps_both _ _ _ _ (refused_if _ _ ExcessiveShrink _ _ (shrinks-same least (page_size * pages) delta enough) λ keeps.
      in_steps_both _ _ _ _ (refused_if _ _ NoRoom _ _ (gains-same (free_pages d) (page_size * pages) delta) λ room.
      granted_then _ _ _ _ refl q))

  module-goes : (delta : ℤ)
      → GoesBy (change_module d delta) (area_rows (Some d.post.heap.end) (base d.post.heap) None delta)
  unfolding change_module module_change
  module-goes delta =
      let fits = is.post.heap.heap.fits in
      in_steps _ _ _ _ (refused_if _ _ ExcessiveShrink _ _
      (module_shrinks-same (base d.post.heap) d.post.heap.end delta (omega arith) fits) λ keeps.
      in_steps _ _ _ _ (refused_if _ _ NoRoom _ _ (gains-same (free_pages d) d.post.heap.end delta) λ room.
      granted_then _ _ _ _ refl (add_row NoArea (add_row TooBig (done _ refl)))))

  pages-goes : (k : ℕ) (delta : ℤ) → least_length k d ≤ page_size * slice_index d.areas k
      → GoesBy (change_pages d k delta) (area_rows (Some (page_size * slice_index d.areas k)) (least_length k d) None delta)
  unfolding change_pages
  pages-goes k delta enough =
      pages-then (least_length k d) (slice_index d.areas k) delta _ _ enough (add_row NoArea (add_row TooBig (done _ refl)))

  big-same : (m : Made) (delta : ℤ) → m.pages ≤ m.most
      → nat_lt m.most (changed_length (page_size * m.pages) delta / page_size) ≡ nat_lt m.most (m.pages + gained_pages delta)
  big-same m (pos by) small = ap (nat_lt m.most) (omega arith)
  big-same m (negsuc by) small =
      lt_same m.most (changed_length (page_size * m.pages) (negsuc by) / page_size) m.most (m.pages + 0)
      (λ h. absurd (omega arith)) (λ h. absurd (omega arith))

  made-goes : (k : ℕ) (delta : ℤ)
      → GoesBy (change_made d k delta) (area_rows (option_map (λ (m : Made). page_size * m.pages) (made_area k d)) 0 (made_area k d) delta)
  unfolding change_made ◌>>=◌ found_or
  made-goes k delta = go (made_area k d) (λ m e. found-size k d.made m e is.made.sizes)
    where
      go : (o : Option Made) → ((m : Made) → o ≡ Some m → m.pages ≤ m.most)
          → GoesBy
          (found_or o NoArea >>= λ m. pages_after (free_pages d) 0 m.pages delta >>= λ n. refuse_if (nat_lt m.most n) TooBig
          >> Ok (record d { made = map (with_pages k n) d.made }, reply.Moved (whole_pages delta)))
          (area_rows (option_map (λ (m : Made). page_size * m.pages) o) 0 o delta)
      go None small = record { is = refl }
      go (Some m) small =
          pages-then 0 m.pages delta _ _ (omega arith)
          (add_row NoArea (refused_then _ _ _ _ _ (big-same m delta (small m refl)) λ most. done _ refl))

  -- ---- an area by its number

  pub area-goes : (k : ℕ) (delta : ℤ) → GoesBy (change_area d k delta) (conditions d (command.Area k delta))
  area-goes k delta = go (k == module_area) (nat_le k 5) refl refl
    where
      few : k ≤ 5 → made_area k d ≡ None
      few low = none-below k first_made d.next_area d.made (omega arith) is.made.numbers

      enough : (b : Bool) → (k == scrap_area) ≡ b → cond b (file_length d.scrap) 0 ≤ page_size * slice_index d.areas k
      enough true e = omega (arith, is.scrap, ap (slice_index d.areas) (eqb-true _ _ e))
      enough false e = omega arith

      go : (b c : Bool) → (k == module_area) ≡ b → nat_le k 5 ≡ c
          → GoesBy (cond b (change_module d delta) (cond (nat_lt k (length d.areas)) (change_pages d k delta) (change_made d k delta)))
          (area_rows
          (cond b (Some d.post.heap.end) (cond c (Some (page_size * slice_index d.areas k))
          (option_map (λ (m : Made). page_size * m.pages) (made_area k d))))
          (cond b (base d.post.heap) (least_length k d)) (made_area k d) delta)
      go true c e f =
          let one : k ≡ module_area = eqb-true _ _ e in
          same_rows (rows-same (Some d.post.heap.end) (Some d.post.heap.end) (base d.post.heap) (base d.post.heap)
          (made_area k d) None delta refl refl (few (omega arith)))
          (module-goes delta)
      go false true e f =
          let low : k ≤ 5 = leb-true _ _ f in
          let fixed : nat_lt k (length d.areas) ≡ true = ltb_yes k (length d.areas) (omega (arith, is.areas.six)) in
          same_rows (rows-same (Some (page_size * slice_index d.areas k)) (Some (page_size * slice_index d.areas k))
          (least_length k d) (least_length k d) (made_area k d) None delta refl refl (few low))
          (subst (λ (x : Bool). GoesBy (cond x (change_pages d k delta) (change_made d k delta))
          (area_rows (Some (page_size * slice_index d.areas k)) (least_length k d) None delta)) (sym fixed)
          (pages-goes k delta (enough (k == scrap_area) refl)))
      go false false e f =
          let high : 5 < k = leb-false _ _ f in
          let made : nat_lt k (length d.areas) ≡ false = ltb_no k (length d.areas) (omega (arith, is.areas.six)) in
          let other : (k == scrap_area) ≡ false = eqb_apart k scrap_area (omega arith) in
          let none : least_length k d ≡ 0 = ap (λ (x : Bool). cond x (file_length d.scrap) 0) other in
          let size : Option ℕ = option_map (λ (m : Made). page_size * m.pages) (made_area k d) in
          same_rows (rows-same size size (least_length k d) 0 (made_area k d) (made_area k d) delta refl none refl)
          (subst (λ (x : Bool). GoesBy (cond x (change_pages d k delta) (change_made d k delta))
          (area_rows (option_map (λ (m : Made). page_size * m.pages) (made_area k d)) 0 (made_area k d) delta)) (sym made)
          (made-goes k delta))
