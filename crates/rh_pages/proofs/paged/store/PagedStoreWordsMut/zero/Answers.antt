use Rattle.rh_pages.proofs.Common.{◌≡◌, ◌+◌, ◌≤◌, replicate, refl, ap, ◌∙◌, arith, with_part, bytes, with_bytes, paged_memory, paged_small_law}
use Rattle.rh_pages.proofs.Steps.{put_to, none_written, zeroed_more}
use Rattle.rh_pages.proofs.paged.store.PagedStoreWordsMut.zero.Goals as goal

pub loop-done-init : goal.loop-done-init
loop-done-init g c =
    let m = paged_memory c.args.self.now in let id = c.args.id.0 in
    (omega arith, put_to m m id c.args.at (replicate 0 0) (none_written m id c.args.at (replicate 0 0) c.requires.opened refl))

pub overflow_add-target : goal.overflow_add-target
overflow_add-target g c = let small = paged_small_law c.args.self.now c.args.id.0 in let q = c.requires.within in let k = c.loop-done.invariant.0 in omega arith

pub loop-done-preserved : goal.loop-done-preserved
loop-done-preserved g c =
    let m = paged_memory c.args.self.now in let id = c.args.id.0 in
    let d = c.loop-done.done in let n = c.min-run.result in
    let y = c.min-run.ensures in let t = c.loop-done-test.true in
    let less : d + n ≤ c.args.n = omega arith in let u = paged_memory c.zero_part.new.self in (
      less,
      put_to m u id c.args.at (replicate (d + n) 0) (zeroed_more m (paged_memory c.loop-done.self) u id c.args.at d n c.loop-done.invariant.1.memory
          c.zero_part.ensures),
    )

pub returns : goal.returns
returns g c =
    let m = paged_memory c.args.self.now in let id = c.args.id.0 in
    let end : c.loop-done.done ≡ c.args.n = omega arith in
    c.loop-done.invariant.1.memory ∙ ap (λ k. with_bytes m id (with_part (bytes m id) c.args.at (replicate k 0))) end
