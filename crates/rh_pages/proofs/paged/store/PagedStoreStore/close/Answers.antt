use Rattle.rh_pages.proofs.Common.{◌≡◌, ◌/◌, ℕ, List, [], ◌∷◌, length, refl, sym, subst, ap, ◌∙◌, arith, None, MAX_AREAS, PAGE, Memory, IsOpen, area_set}
use Rattle.rh_pages.proofs.Common.{bytes, shrunk, length-shrunk, PagedStore, list_at, IsPagedStore, paged_memory_in, paged_memory, paged_whole_law}
use Rattle.rh_pages.proofs.Common.{paged_numbered_law, region_of}
use Rattle.rh_pages.proofs.Common.{pages_of, free_of, false, set}
use Rattle.rh_defs.proofs.MemoryLaws.{IsOpen-shrunk}
use Rattle.rh_pages.proofs.Seats.{area_long}
use Rattle.rh_pages.proofs.Start.{closed_kept, closed_memory}
use Rattle.rh_pages.proofs.Steps.{closed_shrunk}
use Rattle.rh_pages.proofs.paged.store.PagedStoreStore.close.Goals as goal

none_in : (xs : List ℕ) → length xs ≡ 0 → xs ≡ []
none_in [] e = refl
none_in (x ∷ xs) e = absurd (omega arith)

-- what is left to close after all pages were cut off
record Emptied {G : _} {d : _} (s w : PagedStore G d) (id : ℕ) : Type 0 where
  pub kept : IsPagedStore (region_of w) (pages_of w) (set w.opened id false) (free_of w) w.table.room MAX_AREAS
  pub memory : paged_memory_in (region_of w) (pages_of w) (set w.opened id false) (free_of w) w.table.room ≡ record
      { area = area_set (paged_memory w).area id None; free = (paged_memory w).free; pages = (paged_memory w).pages; loan = (paged_memory w).loan }

emptied : {G : _} {d : _} (s w : PagedStore G d) (id n : ℕ) → IsOpen (paged_memory s) id → paged_memory w ≡ shrunk (paged_memory s) id n
    → n ≡ length (bytes (paged_memory s) id) / PAGE → Emptied s w id
unfolding paged_memory bytes
emptied s w id n o e all =
    let lt = paged_numbered_law s id o in
    let ow : IsOpen (paged_memory w) id = subst (λ k. IsOpen k id) (sym e) (IsOpen-shrunk (paged_memory s) id n) in
    let whole = paged_whole_law s id in let left = ap (λ k. length (bytes k id)) e ∙ length-shrunk (paged_memory s) id n in
    let no_bytes : length (bytes (paged_memory w) id) ≡ 0 = omega arith in
    let long = area_long w id ow in
    let none = none_in (list_at (pages_of w) id) (omega arith) in
    record {
      kept = closed_kept (region_of w) (pages_of w) w.opened (free_of w) w.table.room MAX_AREAS w.kept id lt none no_bytes;
      memory = closed_memory (region_of w) (pages_of w) w.opened (free_of w) w.table.room MAX_AREAS w.kept id lt none no_bytes;
    }

pub bounds-self-id : goal.bounds-self-id
bounds-self-id g c = paged_numbered_law c.args.self.now c.args.id.0 c.requires

pub invariant_of-self : goal.invariant_of-self
invariant_of-self g c =
    let w = c.shrink.new.self in
    record {
      few = w.few;
      long = w.long;
      kept = (emptied c.args.self.now w c.args.id.0 (c.len-pages.result / PAGE) c.requires c.shrink.ensures (ap (λ k. k / PAGE) c.len-pages.ensures)).kept;
    }

pub returns : goal.returns
unfolding paged_memory
returns g c =
    let s = c.args.self.now in let w = c.shrink.new.self in let id = c.args.id.0 in let n = c.len-pages.result / PAGE in
    let all = ap (λ k. k / PAGE) c.len-pages.ensures in
    (emptied s w id n c.requires c.shrink.ensures all).memory
    ∙ ap (λ (k : Memory). let m : Memory = record { area = area_set k.area id None; free = k.free; pages = k.pages; loan = k.loan } in m) c.shrink.ensures
    ∙ closed_shrunk (paged_memory s) id n all
