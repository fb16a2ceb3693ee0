-- The owners of pages as they are seen, one after the other.
use Rattle.rh_pictures.proofs.Common.{◌≡◌, ℕ, ◌+◌, ◌<◌, ◌≤◌, ap, sym, ◌∙◌, arith, refl, List, ◌++◌, length, map, IfNone, IfSome, codes, slice_get, slice_index}
use Rattle.rh_pictures.proofs.Common.{if◌then◌else◌, ◌==◌, Option, Some, None, enumerate_from, length-append, length-map, Desk, Task, module_pages, task_at}
use Rattle.rh_pictures.proofs.Common.{AreaOf, Holding, IsShared, SlotOf, count_of, holdings, IsTaskSeen, at-some, who_seen}
use Rattle.std.proofs.lemmas.List.FromFn.{length-enumerate_from}
use Rattle.std.proofs.lemmas.Option.{slice_get_past}
use Rattle.rh_defs.specs.declared.sizes.TheConstants.{MAX_AREAS}
use Rattle.rh_defs.specs.Desk.{module_area, Made, task_pages}
use Rattle.rh_defs.specs.Laws.{IsDesk}
use Rattle.rh_figure.specs.Phrases.{name_or}
use Rattle.rh_figure.specs.Share.{fixed_holding}
use Rattle.rh_sheet.specs.Owners.{slot_tag}
use Rattle.rh_scene.specs.declared.sight.PagesOf.TheVariants as pages
use Rattle.rh_scene.specs.declared.sight.TaskSight.{TaskSight}
use Rattle.rh_scene.specs.SightPages.{share_in}
use Rattle.rh_scene.specs.Seen.{owner_seen}
use Rattle.rh_scene.proofs.Holders.{area-at, stands-count, stands-fixed, stands-made, stands-slot}
use Rattle.rh_scene.proofs.Places.{past-end}
use Rattle.rh_pictures.proofs.DrawingLemmas.{task-stands}
use Rattle.rh_pictures.proofs.PageLemmas.{seen-made, owned-few, seen-fixed, seen-slot}
use Rattle.rh_pictures.specs.declared.owners.Named.TheVariants.{Area, Slot}
use Rattle.rh_pictures.specs.declared.owners.OwnerSight.{OwnerSight}
use Rattle.rh_pictures.specs.PaintedOwners.{IsOwnerOf, IsOwnerSeen}

-- ---- how many they are

pub holdings-length : (d : Desk) → length (holdings d) ≡ length d.areas + length d.made + length d.tasks
holdings-length d =
    let fixed = map (fixed_holding d) (enumerate_from 0 d.areas) in
    let mades = map (λ (m : Made). let h : Holding = (AreaOf m.number, m.pages) in h) d.made in
    let slots = map (λ (t : Task). let h : Holding = (SlotOf t.handle, task_pages t) in h) d.tasks in
    omega (
      arith,
      length-append (fixed ++ mades) slots,
      length-append fixed mades,
      length-map (enumerate_from 0 d.areas) (fixed_holding d),
      length-enumerate_from 0 d.areas,
      length-map d.made (λ (m : Made). let h : Holding = (AreaOf m.number, m.pages) in h),
      length-map d.tasks (λ (t : Task). let h : Holding = (SlotOf t.handle, task_pages t) in h),
    )

module _ {d : Desk} (is : IsDesk d) where
  pub holdings-few : length (holdings d) ≤ MAX_AREAS
  holdings-few = omega (arith, holdings-length d, is.areas.six, is.made.few, is.few)

  -- ---- each of them, as it is seen

  pub fixed-owner : (k n : ℕ) → k < 6 → n ≡ (if k == module_area then module_pages d else slice_index d.areas k)
      → IsOwnerSeen d k (record { named = Area k; place = pages.Fixed k; count = n })
  fixed-owner k n low told =
      let at = stands-fixed is k (slice_index d.areas k) (area-at is k low) in
      record {
        owner = record {
          place = seen-fixed is k low;
          count = told ∙ sym (stands-count is (pages.Fixed k) (AreaOf k) _ at);
          name = refl;
          tag = refl;
        };
        stands = at.is ∙ ap (λ m. Some (AreaOf k, m)) (sym told);
      }

  pub made-owner : (i : ℕ) (m : Made) → slice_get d.made i ≡ Some m
      → IsOwnerSeen d (6 + i) (record { named = Area m.number; place = pages.Made i; count = m.pages })
  made-owner i m e =
      let at = stands-made is i m e in
      record {
        owner = record {
          place = seen-made is i m e;
          count = sym (stands-count is (pages.Made i) (AreaOf m.number) m.pages at);
          name = refl;
          tag = refl;
        };
        stands = ap (λ n. slice_get (holdings d) (n + i)) (sym is.areas.six) ∙ at.is;
      }

  pub slot-owner : (i : ℕ) (s : TaskSight) (t : Task) → slice_get d.tasks i ≡ Some t → IsTaskSeen s t
      → IsOwnerSeen d (6 + length d.made + i) (record { named = Slot s.handle s.name; place = pages.Slot i; count = s.pages })
  slot-owner i s t e seen =
      let at = stands-slot is i t e in
      let found : task_at s.handle d ≡ Some t = ap (λ h. task_at h d) seen.handle ∙ task-stands is i t e in
      let name : s.name.now ≡ name_or s.handle (task_at s.handle d) = seen.name ∙ sym (ap (name_or s.handle) found) in
      record {
        owner = record {
          place = seen-slot is i t e ∙ ap (λ h. Some (SlotOf h)) (sym seen.handle);
          count = seen.pages ∙ sym (ap (λ h. count_of (SlotOf h) (holdings d)) seen.handle
              ∙ stands-count is (pages.Slot i) (SlotOf t.handle) (task_pages t) at);
          name = ap (λ n. codes "Slot " ++ n) name;
          tag = ap slot_tag name;
        };
        stands = ap (λ n. slice_get (holdings d) (n + length d.made + i)) (sym is.areas.six)
            ∙ (at.is ∙ ap (λ (h : Holding). Some h)
            (ap (λ n. let h : Holding = (SlotOf n, task_pages t) in h) (sym seen.handle)
            ∙ ap (λ n. let h : Holding = (SlotOf s.handle, n) in h) (sym seen.pages)));
      }

  -- none past the last
  pub none-behind : (k : ℕ) → 6 + length d.made ≤ k → (i : ℕ) → i + (6 + length d.made) ≡ k → slice_get d.tasks i ≡ None → slice_get (holdings d) k ≡ None
  none-behind k past i at none =
      slice_get_past (holdings d) k (omega (arith, holdings-length d, is.areas.six, past-end d.tasks i none))

-- ---- the pages of one of them

module _ {d : Desk} (numbers : List ℕ) (shared : IsShared (share_in numbers d) d) {o : OwnerSight} (own : IsOwnerOf d o) where
  pub owner-pages : (found : List ℕ) → IfSome (owner_seen o.place d) (λ q. found ≡ (share_in numbers d).pages_of q)
      → found ≡ (share_in numbers d).pages_of (who_seen o.named)
  owner-pages found told =
      at-some (owner_seen o.place d) (λ q. found ≡ (share_in numbers d).pages_of q) (who_seen o.named) own.place told

  pub owner-few : IsDesk d → length numbers ≡ d.pool → length ((share_in numbers d).pages_of (who_seen o.named)) ≤ 1024
  owner-few is all = owned-few is numbers shared o.place (who_seen o.named) own.place all

-- what is known where there is none
pub if-none : {A : Type 0} {P Q : Type 0} (o : Option A) → IfNone o P → (P → Q) → IfNone o Q
if-none None p f = f p
if-none (Some x) p f = tt
