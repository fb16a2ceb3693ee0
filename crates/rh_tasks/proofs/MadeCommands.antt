-- The commands that make an area and take it away.
use Rattle.rh_tasks.proofs.Common.{◌≡◌, ℕ, ◌+◌, ◌%◌, ◌<◌, ◌≤◌, refl, ap, sym, subst, ◌∙◌, arith, List, [], ◌∷◌, ◌++◌, length, map, Ok, Err, None, IsNone}
use Rattle.rh_tasks.proofs.Common.{find, filter, not, true, position, remove, length-map, Memory, bytes, opened, closed, open_below, FileList, MAX_AREAS}
use Rattle.rh_tasks.proofs.Common.{PAGE, found_or, in_range, Desk, Made, Seat, MadeArea, Kept, made_of, desk_of, IsWorld, Sits, begins, ends, past, stops}
use Rattle.rh_tasks.proofs.Common.{granted-same, le-true, le-false, lt-true, lt-false, numbers, few-seats, granted-keeps}
use Rattle.rh_defs.specs.Forms.{last_made}
use Rattle.rh_defs.specs.Desk.{most_made}
use Rattle.rh_defs.specs.declared.command.Command.TheVariants as command
use Rattle.rh_defs.specs.declared.refusal.Refusal.TheVariants.{NoArea, TooManyAreas, NoNumbers}
use Rattle.rh_defs.specs.declared.reply.Reply.TheVariants as reply
use Rattle.rh_defs.specs.Commands as commands
use Rattle.rh_tasks.specs.View.{has_number}
use Rattle.rh_tasks.proofs.Finding.{no-made}
use Rattle.rh_tasks.proofs.Mades.{made-first}
use Rattle.rh_tasks.proofs.Makes.{made-more, more-world, made-less, less-world}

-- a made area with the number stands at the place
pub record HasMade (k : ℕ) (made : List MadeArea) (i : ℕ) (a : MadeArea) : Type 0 where
  pub sits : Sits made i a
  pub number : a.number ≡ k

module _ {m : Memory} {seats : List Seat} {made : List MadeArea} {files : FileList} {kept : Kept} (w : IsWorld m seats made files kept) where
  abbrev d : Desk
  d = desk_of m seats made files kept

  module _ (most : ℕ) where
    pub make-many : most_made ≤ length made → commands.make d most ≡ Err TooManyAreas
    unfolding commands.make
    make-many many = stops _ _ _ (le-true most_made (length (map (made_of m) made)) (omega (arith, many, length-map made (made_of m))))

    module _ (few : length made < most_made) where
      few-desk : length (map (made_of m) made) < most_made
      few-desk = omega (arith, few, length-map made (made_of m))

      -- one more area can be opened
      pub can-make : open_below m.area MAX_AREAS < MAX_AREAS
      can-make = omega (arith, w.areas.count, few, few-seats w)

      pub make-none : last_made < kept.next.area → commands.make d most ≡ Err NoNumbers
      unfolding commands.make
      make-none used = past _ _ _ (le-false most_made _ few-desk) (stops _ _ _ (lt-true last_made kept.next.area used))

      module _ (some : kept.next.area ≤ last_made) (id : ℕ) (none : IsNone (m.area id)) (low : id < MAX_AREAS) where
        abbrev pub new_made : MadeArea
        new_made = record { number = kept.next.area; most = most; area = record { 0 = id } }

        abbrev pub then : Kept
        then = record kept { next = record kept.next { area = kept.next.area + 1 } }

        pub make-done : commands.make d most ≡ Ok (desk_of (opened m id) seats (made ++ new_made ∷ []) files then, reply.Made kept.next.area)
        unfolding commands.make
        make-done = past _ _ _ (le-false most_made _ few-desk) (past _ _ _ (lt-false last_made kept.next.area some)
            (granted-same (sym (made-more new_made w none low (kept.next.area + 1))) refl))

        pub make-world : in_range (command.Make most) ≡ true → IsWorld (opened m id) seats (made ++ new_made ∷ []) files then
        make-world ranged = more-world new_made w none low (granted-keeps d _ (command.Make most) (reply.Made kept.next.area) make-done ranged w.desk)

  module _ (k : ℕ) where
    pub remove-none : position (has_number k) made ≡ None → commands.remove d k ≡ Err NoArea
    unfolding commands.remove
    remove-none h = ends _ (no-made m k made h)

    pub made-found : {i : ℕ} (a : MadeArea) → HasMade k made i a → found_or (find (commands.is_numbered k) (map (made_of m) made)) NoArea ≡ Ok (made_of m a)
    unfolding found_or
    made-found {i} a h =
        let P : ℕ → Type 0 = λ n. found_or (find (commands.is_numbered n) (map (made_of m) made)) NoArea ≡ Ok (made_of m a) in
        let e = made-first m made i a h.sits (numbers w) in
        subst P h.number (rw e refl)

    module _ {i : ℕ} (a : MadeArea) (h : HasMade k made i a) (whole : length (bytes m a.area.0) % PAGE ≡ 0) (inside : a.area.0 < MAX_AREAS) where
      pub remove-done : commands.remove d k ≡ Ok (desk_of (closed m a.area.0) seats (remove made i) files kept, reply.Done)
      unfolding commands.remove
      remove-done =
          begins _ (made-found a h) (granted-same (sym (made-less w h.sits whole inside
          ∙ ap (λ n. let e : Desk = record d { made = filter (λ (x : Made). not (commands.is_numbered n x)) (map (made_of m) made) } in e)
          h.number)) refl)

      pub remove-world : in_range (command.Remove k) ≡ true → IsWorld (closed m a.area.0) seats (remove made i) files kept
      remove-world ranged = less-world w h.sits whole inside (granted-keeps d _ (command.Remove k) reply.Done remove-done ranged w.desk)
