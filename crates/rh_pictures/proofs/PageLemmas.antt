-- Owners of pages, and the pages that they have.
use Rattle.rh_pictures.proofs.Common.{◌≡◌, ℕ, zero, suc, ◌+◌, ◌<◌, ◌≤◌, false, true, arith, refl, ap, sym, subst, ◌∙◌, List, [], ◌∷◌, length, drop, Some}
use Rattle.rh_pictures.proofs.Common.{IfSome, slice_get, slice_index, if◌then◌else◌, ◌==◌, nat_lt, enumerate_from, option_map, nat_tests, drop_more, Desk, Made}
use Rattle.rh_pictures.proofs.Common.{Task, module_pages, task_pages, IsDesk, Rise, taken_line, Scene, AreaOf, IsShared, Owner, SlotOf, Text, append-nil}
use Rattle.rh_pictures.proofs.Common.{at-some, count_of, flat_map, share_in}
use Rattle.rh_defs.specs.Forms.{first_made, most_pages}
use Rattle.rh_defs.specs.Desk.{module_area}
use Rattle.rh_figure.specs.Changes.{taken_pages, takes_text}
use Rattle.rh_figure.specs.Phrases.{owner_name}
use Rattle.rh_scene.specs.declared.sight.PagesOf.{PagesOf}
use Rattle.rh_scene.specs.declared.sight.PagesOf.TheVariants as pages
use Rattle.rh_scene.specs.Seen.{owner_seen}
use Rattle.rh_scene.proofs.Holders.{area-at, count-fixed, count-made, count-slot, room-of}

-- a member's number is at least the first one
rise-least : {A : Type 0} (number : A → ℕ) (least next : ℕ) (xs : List A) (i : ℕ) (x : A) → Rise number least next xs → slice_get xs i ≡ Some x
    → least ≤ number x
rise-least number least next [] i x r e = absurd (cc)
rise-least number least next (y ∷ ys) zero x r e = let k : y ≡ x = cc in subst (λ z. least ≤ number z) k r.0
rise-least number least next (y ∷ ys) (suc i) x r e =
    let k : number y + 1 ≤ number x = rise-least number (number y + 1) next ys i x r.1 e in
    omega (arith, r.0)

-- ---- who has the pages that are looked at
module _ {d : Desk} (is : IsDesk d) where
  pub seen-fixed : (number : ℕ) → number < 6 → owner_seen (pages.Fixed number) d ≡ Some (AreaOf number)
  seen-fixed number low = ap (option_map (λ _. AreaOf number)) (area-at is number low)

  pub seen-made : (i : ℕ) (m : Made) → slice_get d.made i ≡ Some m → owner_seen (pages.Made i) d ≡ Some (AreaOf m.number)
  seen-made i m e = ap (option_map (λ (n : Made). AreaOf n.number)) e

  pub seen-slot : (i : ℕ) (t : Task) → slice_get d.tasks i ≡ Some t → owner_seen (pages.Slot i) d ≡ Some (SlotOf t.handle)
  seen-slot i t e = ap (option_map (λ (n : Task). SlotOf n.handle)) e

  pub made-above : (i : ℕ) (m : Made) → slice_get d.made i ≡ Some m → 5 < m.number
  made-above i m e = let k = rise-least (λ (n : Made). n.number) first_made d.next_area d.made i m is.made.numbers e in omega (arith, k)

  -- how many pages they are
  module _ (numbers : List ℕ) (shared : IsShared (share_in numbers d) d) where
    pub owned : (owner : PagesOf) (o : Owner) (found : List ℕ) → owner_seen owner d ≡ Some o
        → IfSome (owner_seen owner d) (λ q. found ≡ (share_in numbers d).pages_of q) → found ≡ (share_in numbers d).pages_of o
    owned owner o found e h = at-some (owner_seen owner d) (λ q. found ≡ (share_in numbers d).pages_of q) o e h

    pub owned-few : (owner : PagesOf) (o : Owner) → owner_seen owner d ≡ Some o → length numbers ≡ d.pool
        → length ((share_in numbers d).pages_of o) ≤ most_pages
    owned-few owner o e all = omega (arith, room-of is numbers owner o shared e, shared.each o, is.pool)

    pub owned-made : (i : ℕ) (m : Made) → slice_get d.made i ≡ Some m → length ((share_in numbers d).pages_of (AreaOf m.number)) ≡ m.pages
    owned-made i m e = shared.each (AreaOf m.number) ∙ sym (count-made is (pages.Made i) (AreaOf m.number) i m refl (seen-made i m e) e)

    pub owned-slot : (i : ℕ) (t : Task) → slice_get d.tasks i ≡ Some t → length ((share_in numbers d).pages_of (SlotOf t.handle)) ≡ task_pages t
    owned-slot i t e = shared.each (SlotOf t.handle) ∙ sym (count-slot is (pages.Slot i) (SlotOf t.handle) i t refl (seen-slot i t e) e)

    pub owned-fixed : (number n : ℕ) → number < 6 → n ≡ (if number == module_area then module_pages d else slice_index d.areas number)
        → length ((share_in numbers d).pages_of (AreaOf number)) ≡ n
    owned-fixed number n low told =
        shared.each (AreaOf number) ∙ sym (count-fixed is (pages.Fixed number) (AreaOf number) number n refl (seen-fixed number low) told)

-- ---- areas 0 to 5, one after the other

pub numbered-next : (i : ℕ) (xs : List ℕ) → i < length xs → enumerate_from i (drop i xs) ≡ (i, slice_index xs i) ∷ enumerate_from (i + 1) (drop (i + 1) xs)
numbered-next i xs low =
    ap (enumerate_from i) (drop_more xs i 0 low)

-- ---- what an owner has taken

pub takes-one : (element : Text → List ℕ) (x : Scene) (o : Owner) (n : ℕ) → count_of o x.before.holdings < n
    → flat_map element (takes_text x (o, n)) ≡ element (taken_line (owner_name x.desk o) (taken_pages x (o, n)))
takes-one element x o n low =
    let on : nat_lt (count_of o x.before.holdings) n ≡ true = grind (arith, nat_tests) in
    let line = taken_line (owner_name x.desk o) (taken_pages x (o, n)) in
    ap (λ b. flat_map element (if b then line ∷ [] else [])) on ∙ append-nil (element line)

-- nothing
pub takes-none : (element : Text → List ℕ) (x : Scene) (o : Owner) (n : ℕ) → n ≤ count_of o x.before.holdings → flat_map element (takes_text x (o, n)) ≡ []
takes-none element x o n high =
    let off : nat_lt (count_of o x.before.holdings) n ≡ false = grind (arith, nat_tests) in
    let line = taken_line (owner_name x.desk o) (taken_pages x (o, n)) in
    ap (λ b. flat_map element (if b then line ∷ [] else [])) off
