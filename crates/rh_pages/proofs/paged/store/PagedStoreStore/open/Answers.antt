use Rattle.rh_pages.proofs.Common.{◌≡◌, ◌<◌, ℕ, Bool, true, false, List, get_or, refl, arith, IsSome, MAX_AREAS, paged_contents, paged_memory, region_of}
use Rattle.rh_pages.proofs.Common.{pages_of}
use Rattle.rh_pages.proofs.Common.{free_of}
use Rattle.rh_defs.proofs.MemoryLaws.{open_below-all, open_below-none}
use Rattle.rh_pages.proofs.Areas.{contents_marked}
use Rattle.rh_pages.proofs.Start.{was_closed, opened_kept, opened_memory}
use Rattle.rh_pages.proofs.paged.store.PagedStoreStore.open.Goals as goal

is_open : (r : List ℕ) (lists : List (List ℕ)) (flags : List Bool) (k : ℕ) → get_or flags k false ≡ true → IsSome (paged_contents r lists flags k)
is_open r lists flags k on = rw (contents_marked r lists flags k true on) refl

pub invariant_of-self : goal.invariant_of-self
invariant_of-self g c =
    let s = c.args.self.now in let i = c.in-Some.i in
    let off = c.in-Some.ensures.closed.1 in
    let h : i < MAX_AREAS = omega (arith, c.in-Some.ensures.closed.0, s.kept.flags) in
    record { few = s.few; long = s.long; kept = opened_kept (region_of s) (pages_of s) s.opened (free_of s) s.table.room MAX_AREAS s.kept i h off }

pub returns-in-None-clause-refused : goal.returns-in-None-clause-refused
unfolding paged_memory
returns-in-None-clause-refused g c =
    let s = c.args.self.now in
    let all = c.in-None.ensures.least in (
      λ _. open_below-all (paged_contents (region_of s) (pages_of s) s.opened) MAX_AREAS
          (λ k h. is_open (region_of s) (pages_of s) s.opened k (all k (let table =
          s.kept.flags in omega arith))),
      λ _. refl,
    )

pub returns-in-Some-clause-ok : goal.returns-in-Some-clause-ok
unfolding paged_memory
returns-in-Some-clause-ok g c =
    let s = c.args.self.now in let i = c.in-Some.i in
    let off = c.in-Some.ensures.closed.1 in
    let h : i < MAX_AREAS = omega (arith, c.in-Some.ensures.closed.0, s.kept.flags) in (
      rw (was_closed (region_of s) (pages_of s) s.opened (free_of s) s.table.room MAX_AREAS s.kept i h off) refl,
      opened_memory (region_of s) (pages_of s) s.opened (free_of s) s.table.room MAX_AREAS s.kept i h off,
    )

pub returns-in-Some-clause-least : goal.returns-in-Some-clause-least
unfolding paged_memory
returns-in-Some-clause-least g c =
    let s = c.args.self.now in
    λ k h. is_open (region_of s) (pages_of s) s.opened k (c.in-Some.ensures.least k h)

pub returns-in-Some-clause-refused : goal.returns-in-Some-clause-refused
unfolding paged_memory
returns-in-Some-clause-refused g c =
    let s = c.args.self.now in let i = c.in-Some.i in
    let off = c.in-Some.ensures.closed.1 in
    let h : i < MAX_AREAS = omega (arith, c.in-Some.ensures.closed.0, s.kept.flags) in
    let fewer = open_below-none (paged_memory s) i MAX_AREAS (was_closed (region_of s) (pages_of s) s.opened (free_of s) s.table.room MAX_AREAS s.kept i h off)
    h in
    (λ e. absurd (cc), λ e. absurd (omega (arith, e, fewer)))
