use Rattle.rh_pages.proofs.Common.{◌≡◌, ℕ, ◌+◌, ◌*◌, ◌<◌, ◌≤◌, length, subst, sym, ap, ◌∙◌, arith, PAGE, Memory, IsOpen, bytes, shrunk, length-shrunk}
use Rattle.rh_pages.proofs.Common.{paged_memory}
use Rattle.rh_defs.proofs.MemoryLaws.{IsOpen-shrunk}
use Rattle.rh_pages.proofs.Steps.{shrunk_none, shrunk_more}
use Rattle.rh_pages.proofs.paged.store.PagedStorePages.shrink.Goals as goal

pub loop-page-init : goal.loop-page-init
loop-page-init g c = (omega arith, (c.requires.opened, shrunk_none (paged_memory c.args.self.now) c.args.id.0 c.requires.opened))

some_left : (m w : Memory) (id d n : ℕ) → w ≡ shrunk m id d → d < n → PAGE * n ≤ length (bytes m id) → PAGE ≤ length (bytes w id)
some_left m w id d n e lt enough = let left = ap (λ (k : Memory). length (bytes k id)) e ∙ length-shrunk m id d in omega arith

pub shrink_page-requires-clause-some : goal.shrink_page-requires-clause-some
shrink_page-requires-clause-some g c =
    some_left (paged_memory c.args.self.now) (paged_memory c.loop-page.self) c.args.id.0 c.loop-page._page c.args.pages c.loop-page.invariant.1.1
    c.loop-page-test.true c.requires.within

pub loop-page-preserved : goal.loop-page-preserved
loop-page-preserved g c =
    let m = paged_memory c.args.self.now in let id = c.args.id.0 in let d = c.loop-page._page in
    let e = c.shrink_page.ensures ∙ ap (λ w. shrunk w id 1) c.loop-page.invariant.1.1 ∙ shrunk_more m id d 1 in
    (omega arith, (subst (λ w. IsOpen w id) (sym e) (IsOpen-shrunk m id (d + 1)), e))
