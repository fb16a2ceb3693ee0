use Rattle.rh_pages.proofs.Common.{◌≡◌, ℕ, ◌+◌, ◌<◌, ◌≤◌, subst, sym, ap, ◌∙◌, arith, Memory, IsOpen, grown, paged_memory}
use Rattle.rh_defs.proofs.MemoryLaws.{IsOpen-grown, free-grown}
use Rattle.rh_pages.proofs.Steps.{grown_none, grown_more}
use Rattle.rh_pages.proofs.paged.store.PagedStorePages.grow.Goals as goal

pub loop-page-init : goal.loop-page-init
loop-page-init g c = (omega arith, (c.requires, grown_none (paged_memory c.args.self.now) c.args.id.0 c.requires))

room : (m w : Memory) (id d n : ℕ) → w ≡ grown m id d → d < n → n ≤ m.free → 0 < w.free
room m w id d n e lt enough = let left = ap (λ (k : Memory). k.free) e ∙ free-grown m id d in omega arith

pub grow_page-requires-clause-some : goal.grow_page-requires-clause-some
unfolding paged_memory
grow_page-requires-clause-some g c =
    room (paged_memory c.args.self.now)
    (paged_memory c.loop-page.self) c.args.id.0 c.loop-page._page c.args.pages c.loop-page.invariant.1.1 c.loop-page-test.true
    (omega arith)

pub loop-page-preserved : goal.loop-page-preserved
loop-page-preserved g c =
    let m = paged_memory c.args.self.now in let id = c.args.id.0 in let d = c.loop-page._page in
    let e = c.grow_page.ensures ∙ ap (λ w. grown w id 1) c.loop-page.invariant.1.1 ∙ grown_more m id d 1 in
    (omega arith, (subst (λ w. IsOpen w id) (sym e) (IsOpen-grown m id (d + 1)), e))
