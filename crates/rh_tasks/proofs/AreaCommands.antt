-- Areas that get longer or shorter by whole pages.
use Rattle.rh_tasks.proofs.Common.{◌≡◌, ◌≢◌, ℕ, ◌+◌, ◌-◌, ◌*◌, ◌/◌, ◌%◌, ◌<◌, ◌≤◌, Bool, true, false, inl, inr, refl, ap, subst, sym, ◌∙◌, arith, List}
use Rattle.rh_tasks.proofs.Common.{length, ℤ, pos, negsuc, map, Ok, Err, Option, Some, None, nat_lt, ◌==◌, slice_set, slice_index, cases_eq, length-take}
use Rattle.rh_tasks.proofs.Common.{nat_tests, ints, position, PAGE, Memory, OnlyArea, bytes, FileList, Refusal, NoRoom, ◌>>=◌, ◌>>◌, refuse_if, page_size}
use Rattle.rh_tasks.proofs.Common.{pages_for, in_range, Desk, free_pages, Seat, MadeArea, ScrapFile, Kept, pages_at, made_of, fixed_pages, scrap_size}
use Rattle.rh_tasks.proofs.Common.{scrap_of, desk_of, IsWorld, begins, ends, past, stops, granted-same, lt-true, lt-false, free-is, granted-keeps, if_apart}
use Rattle.rh_tasks.proofs.Common.{if_same, scrap-fits}
use Rattle.std.specs.Int.Signed.{lt_z}
use borrow.Author.Tests.{ltb-false}
use Rattle.rh_defs.specs.declared.command.Command.TheVariants as command
use Rattle.rh_defs.specs.declared.refusal.Refusal.TheVariants.{ExcessiveShrink, NoArea, TooBig}
use Rattle.rh_defs.specs.declared.reply.Reply.TheVariants as reply
use Rattle.rh_defs.specs.Pieces.{lacks_pages}
use Rattle.rh_defs.specs.Module.{whole_pages, changed_length}
use Rattle.rh_defs.specs.Commands.{pages_after, least_length, shrinks_below, change_pages, change_made, change_area, with_pages}
use Rattle.rh_defs.specs.Desk.{file_length}
use Rattle.rh_tasks.specs.View.{has_number}
use Rattle.rh_tasks.proofs.Fixed.{KeepsFirst, fixed-at, fixed-desk, fixed-world, length-fixed, pages-of}
use Rattle.rh_tasks.proofs.Mades.{made-desk, made-world}
use Rattle.rh_tasks.proofs.MadeCommands.{HasMade, made-found}
use Rattle.rh_tasks.proofs.Finding.{no-made}

-- ---- how many pages an area has after the change

pub after-more : (free least pages more : ℕ) (delta : ℤ) → lt_z delta (pos 0) ≡ false → PAGE * more ≡ whole_pages delta → more ≤ free
    → pages_after free least pages delta ≡ Ok (pages + more)
unfolding pages_after ◌>>=◌ ◌>>◌ refuse_if
after-more free least pages more (pos n) up is room =
    let enough : lacks_pages free (changed_length (page_size * pages) (pos n) - page_size * pages) ≡ false = lt-false free _ (omega (arith, is, room)) in
    let long : changed_length (page_size * pages) (pos n) / page_size ≡ pages + more = omega (arith, is) in
    rw (enough, long) refl
after-more free least pages more (negsuc n) up is room = absurd (cc)

pub after-full : (free least pages more : ℕ) (delta : ℤ) → lt_z delta (pos 0) ≡ false → PAGE * more ≡ whole_pages delta → free < more
    → pages_after free least pages delta ≡ Err NoRoom
unfolding pages_after ◌>>=◌ ◌>>◌ refuse_if
after-full free least pages more (pos n) up is full =
    let lacks : lacks_pages free (changed_length (page_size * pages) (pos n) - page_size * pages) ≡ true = lt-true free _ (omega (arith, is, full)) in
    rw lacks refl
after-full free least pages more (negsuc n) up is full = absurd (cc)

pub after-less : (free least pages more : ℕ) (delta : ℤ) → lt_z delta (pos 0) ≡ true → PAGE * more ≡ whole_pages delta → least + PAGE * more ≤ PAGE * pages
    → pages_after free least pages delta ≡ Ok (pages - more)
unfolding pages_after ◌>>=◌ ◌>>◌ refuse_if
after-less free least pages more (pos n) down is room = absurd (omega (arith, ints))
after-less free least pages more (negsuc n) down is room =
    let fits : shrinks_below least (page_size * pages) (negsuc n) ≡ false = lt-false (page_size * pages) _ (omega (arith, is, room)) in
    let enough : lacks_pages free (changed_length (page_size * pages) (negsuc n) - page_size * pages) ≡ false = lt-false free _ (omega (arith, is)) in
    let long : changed_length (page_size * pages) (negsuc n) / page_size ≡ pages - more = omega (arith, is, room) in
    rw (fits, enough, long) refl

pub after-short : (free least pages more : ℕ) (delta : ℤ) → lt_z delta (pos 0) ≡ true → PAGE * more ≡ whole_pages delta → PAGE * pages < least + PAGE * more
    → pages_after free least pages delta ≡ Err ExcessiveShrink
unfolding pages_after ◌>>=◌ ◌>>◌ refuse_if
after-short free least pages more (pos n) down is short = absurd (omega (arith, ints))
after-short free least pages more (negsuc n) down is short =
    let below : shrinks_below least (page_size * pages) (negsuc n) ≡ true = lt-true (page_size * pages) _ (omega (arith, is, short)) in
    rw below refl

differs : (a b : ℕ) → a ≢ b → (a == b) ≡ false
differs a b h = grind (arith, nat_tests)

-- what is granted is at hand
pub room-if : (free least pages : ℕ) (delta : ℤ) (p : ℕ) → pages_after free least pages delta ≡ Ok p → p ≤ pages + free
unfolding pages_after ◌>>=◌ ◌>>◌ refuse_if
room-if free least pages (pos n) p e = go (lacks_pages free (changed_length (page_size * pages) (pos n) - page_size * pages)) refl e
  where
    go : (b : Bool) → nat_lt free (pages_for (changed_length (page_size * pages) (pos n) - page_size * pages)) ≡ b
        → (refuse_if b NoRoom >>= (λ _. Ok (changed_length (page_size * pages) (pos n) / page_size))) ≡ Ok p → p ≤ pages + free
    go true t q = absurd (cc)
    go false t q = let same : changed_length (page_size * pages) (pos n) / page_size ≡ p = cc in omega (arith, same, ltb-false _ _ t)
room-if free least pages (negsuc n) p e =
    go (shrinks_below least (page_size * pages) (negsuc n)) (lacks_pages free (changed_length (page_size * pages) (negsuc n) - page_size * pages)) e
  where
    go : (b c : Bool) → (refuse_if b ExcessiveShrink >>= (λ _. refuse_if c NoRoom >>= (λ _. Ok (changed_length (page_size * pages) (negsuc n) / page_size))))
        ≡ Ok p
        → p ≤ pages + free
    go true c q = absurd (cc)
    go false true q = absurd (cc)
    go false false q = let same : changed_length (page_size * pages) (negsuc n) / page_size ≡ p = cc in omega (arith, same)

-- what an area keeps at least is left
pub least-left : (free least pages : ℕ) (delta : ℤ) (p : ℕ) → pages_after free least pages delta ≡ Ok p → least ≤ PAGE * pages → least ≤ PAGE * p
unfolding pages_after ◌>>=◌ ◌>>◌ refuse_if
least-left free least pages (pos n) p e had = go (lacks_pages free (changed_length (page_size * pages) (pos n) - page_size * pages)) e
  where
    go : (b : Bool) → (refuse_if b NoRoom >>= (λ _. Ok (changed_length (page_size * pages) (pos n) / page_size))) ≡ Ok p → least ≤ PAGE * p
    go true q = absurd (cc)
    go false q = let same : changed_length (page_size * pages) (pos n) / page_size ≡ p = cc in omega (arith, same, had)
least-left free least pages (negsuc n) p e had =
    go (shrinks_below least (page_size * pages) (negsuc n)) refl (lacks_pages free (changed_length (page_size * pages) (negsuc n) - page_size * pages)) e
  where
    go : (b : Bool) → nat_lt (page_size * pages) (least + whole_pages (negsuc n)) ≡ b → (c : Bool)
        → (refuse_if b ExcessiveShrink >>= (λ _. refuse_if c NoRoom >>= (λ _. Ok (changed_length (page_size * pages) (negsuc n) / page_size)))) ≡ Ok p
        → least ≤ PAGE * p
    go true t c q = absurd (cc)
    go false t true q = absurd (cc)
    go false t false q = let same : changed_length (page_size * pages) (negsuc n) / page_size ≡ p = cc in omega (arith, same, ltb-false _ _ t)

-- the bytes of the scrap file that the desk has
pub file-length : (m : Memory) (scrap : Option ScrapFile) → scrap_size scrap ≤ length (bytes m 5) → file_length (scrap_of m scrap) ≡ scrap_size scrap
unfolding scrap_of
file-length m None fits = refl
file-length m (Some file) fits = length-take file.size (bytes m 5) ∙ omega (arith, fits)

-- what an area keeps at least, as the desk's definition has it
module _ (d : Desk) where
  pub least-other : (k : ℕ) → k ≢ 5 → least_length k d ≡ 0
  least-other k ne = if_apart k 5 _ _ ne

  pub least-here : (k : ℕ) → k ≡ 5 → least_length k d ≡ file_length d.scrap
  least-here k e = if_same k 5 _ _ e

module _ {m : Memory} {seats : List Seat} {made : List MadeArea} {files : FileList} {kept : Kept} (w : IsWorld m seats made files kept) (k : ℕ)
    (delta : ℤ) where
  abbrev d : Desk
  d = desk_of m seats made files kept

  -- ---- which area it is

  pub fixed-way : k ≢ 1 → k < 6 → change_area d k delta ≡ change_pages d k delta
  fixed-way ne low =
      let other : (k == 1) ≡ false = differs k 1 ne in
      let inside : nat_lt k (length (fixed_pages m)) ≡ true = lt-true k _ (rw length-fixed low) in
      rw (other, inside) refl

  pub made-way : 6 ≤ k → change_area d k delta ≡ change_made d k delta
  made-way high =
      let other : (k == 1) ≡ false = differs k 1 (λ q. absurd (omega (arith, q, high))) in
      let beyond : nat_lt k (length (fixed_pages m)) ≡ false = lt-false k _ (rw length-fixed high) in
      rw (other, beyond) refl

  -- ---- areas 0 and 2 to 5

  module _ (low : k < 6) (ne : k ≢ 1) where
    args-are : pages_after (free_pages d) (least_length k d) (slice_index (fixed_pages m) k) delta ≡ pages_after m.free (least_length k d) (pages_at m k) delta
    args-are =
        ap (λ f. pages_after f (least_length k d) (slice_index (fixed_pages m) k) delta) (free-is w)
        ∙ ap (λ p. pages_after m.free (least_length k d) p delta) (fixed-at m k low ne)

    pages-refused : {r : Refusal} → pages_after m.free (least_length k d) (pages_at m k) delta ≡ Err r → change_pages d k delta ≡ Err r
    unfolding change_pages
    pages-refused e = ends _ (args-are ∙ e)

    pub fixed-refused : {r : Refusal} → pages_after m.free (least_length k d) (pages_at m k) delta ≡ Err r → change_area d k delta ≡ Err r
    fixed-refused e = fixed-way ne low ∙ pages-refused e

    module _ {n : Memory} {p : ℕ} (granted : pages_after m.free (least_length k d) (pages_at m k) delta ≡ Ok p) (is : pages_at n k ≡ p)
        (only : OnlyArea m n k) (keeps : KeepsFirst m n k)
        (whole_before : length (bytes m k) % PAGE ≡ 0) (whole_after : length (bytes n k) % PAGE ≡ 0) where
      -- the scrap file still fits in its area
      fits : scrap_size kept.scrap ≤ length (bytes n 5)
      fits = elim (cases_eq k 5) [
        | inl e ↦
            let P : ℕ → Type 0 = λ j. length (bytes n j) ≡ PAGE * pages_at n j in
            let Q : ℕ → Type 0 = λ j. length (bytes m j) ≡ PAGE * pages_at m j in
            let now = subst P e (sym (pages-of n k whole_after)) in
            let had = subst Q e (sym (pages-of m k whole_before)) in
            let least : least_length k d ≡ scrap_size kept.scrap = if_same k 5 _ _ e ∙ file-length m kept.scrap w.scrap in
            let left = least-left m.free (least_length k d) (pages_at m k) delta p granted (omega (arith, least, w.scrap, had, ap (pages_at m) e)) in
            omega (arith, left, least, now, is, ap (pages_at n) e)
        | inr other ↦ scrap-fits kept.scrap (record { others = only.others }) (λ q. other (sym q)) w.scrap
      ]

      pages-done : change_pages d k delta ≡ Ok (desk_of n seats made files kept, reply.Moved (whole_pages delta))
      unfolding change_pages
      pages-done = begins _ (args-are ∙ granted) (granted-same (sym (fixed-desk w low only ne keeps fits whole_before whole_after
          ∙ ap (λ v. let e : Desk = record d { areas = slice_set (fixed_pages m) k v } in e) is)) refl)

      pub fixed-done : change_area d k delta ≡ Ok (desk_of n seats made files kept, reply.Moved (whole_pages delta))
      fixed-done = fixed-way ne low ∙ pages-done

      pub fixed-kept : in_range (command.Area k delta) ≡ true → IsWorld n seats made files kept
      fixed-kept ranged = fixed-world w low only ne keeps fits whole_before whole_after
          (granted-keeps d _ (command.Area k delta) (reply.Moved (whole_pages delta)) fixed-done ranged w.desk)

  -- ---- made areas

  none-made : position (has_number k) made ≡ None → change_made d k delta ≡ Err NoArea
  unfolding change_made
  none-made h = ends _ (no-made m k made h)

  pub no-area : 6 ≤ k → position (has_number k) made ≡ None → change_area d k delta ≡ Err NoArea
  no-area high h = made-way high ∙ none-made h

  module _ {i : ℕ} (a : MadeArea) (h : HasMade k made i a) (high : 6 ≤ k) where
    made-args : pages_after (free_pages d) 0 (made_of m a).pages delta ≡ pages_after m.free 0 (pages_at m a.area.0) delta
    unfolding made_of
    made-args = ap (λ f. pages_after f 0 (pages_at m a.area.0) delta) (free-is w)

    pub made-refused : {r : Refusal} → pages_after m.free 0 (pages_at m a.area.0) delta ≡ Err r → change_area d k delta ≡ Err r
    unfolding change_made
    made-refused e = made-way high ∙ begins _ (made-found w k a h) (ends _ (made-args ∙ e))

    pub made-too-big : {p : ℕ} → pages_after m.free 0 (pages_at m a.area.0) delta ≡ Ok p → a.most < p → change_area d k delta ≡ Err TooBig
    unfolding change_made made_of
    made-too-big {p} e big = made-way high ∙ begins _ (made-found w k a h) (begins _ (made-args ∙ e) (stops _ _ _ (lt-true a.most p big)))

    module _ {n : Memory} {p : ℕ} (granted : pages_after m.free 0 (pages_at m a.area.0) delta ≡ Ok p) (fits : p ≤ a.most) (is : pages_at n a.area.0 ≡ p)
        (only : OnlyArea m n a.area.0)
        (whole_before : length (bytes m a.area.0) % PAGE ≡ 0) (whole_after : length (bytes n a.area.0) % PAGE ≡ 0) where
      area-done : change_made d k delta ≡ Ok (desk_of n seats made files kept, reply.Moved (whole_pages delta))
      unfolding change_made made_of
      area-done =
          begins _ (made-found w k a h) (begins _ (made-args ∙ granted) (past _ _ _ (lt-false a.most p fits)
          (granted-same (sym (made-desk w h.sits only
          ∙ ap (λ v. let e : Desk = record d { made = map (with_pages a.number v) (map (made_of m) made) } in e) is
          ∙ ap (λ v. let e : Desk = record d { made = map (with_pages v p) (map (made_of m) made) } in e) h.number)) refl)))

      pub made-done : change_area d k delta ≡ Ok (desk_of n seats made files kept, reply.Moved (whole_pages delta))
      made-done = made-way high ∙ area-done

      pub made-kept : in_range (command.Area k delta) ≡ true → IsWorld n seats made files kept
      made-kept ranged = made-world w h.sits only whole_before whole_after
          (granted-keeps d _ (command.Area k delta) (reply.Moved (whole_pages delta)) made-done ranged w.desk)
