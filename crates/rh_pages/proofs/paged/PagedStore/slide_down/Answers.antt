use Rattle.rh_pages.proofs.Common.{◌≡◌, ◌+◌, ◌≤◌, length, ap, ◌∙◌, arith, part, with_part, bytes, with_bytes, part_none, paged_memory, pages_of}
use Rattle.rh_pages.proofs.Runs.{fewer}
use Rattle.rh_pages.proofs.Steps.{put_to, none_written, down_more}
use Rattle.rh_pages.proofs.paged.PagedStore.slide_down.Goals as goal

pub loop-done-init : goal.loop-done-init
loop-done-init g c =
    let m = paged_memory c.args.self.now in let id = c.args.id.0 in let b = bytes m id in (
      omega arith,
      put_to m m id c.args.to (part b c.args.from 0) (none_written m id c.args.to (part b c.args.from 0) c.requires.opened (part_none b c.args.from)),
    )

pub loop-done-preserved : goal.loop-done-preserved
loop-done-preserved g c =
    let m = paged_memory c.args.self.now in let id = c.args.id.0 in let b = bytes m id in
    let d = c.loop-done.done in let n = c.run_from-run.result in let source = c.requires.source in let least = c.min-most.ensures in
    let x = c.run_from-source.ensures.most in let y = c.run_from-run.ensures.most in let t = c.loop-done-test.true in
    let less : d + n ≤ c.args.n = omega arith in let inside : c.args.from + (d + n) ≤ length b = omega arith in (
      less,
      put_to m (paged_memory c.copy_part.new.self) id c.args.to (part b c.args.from (d + n))
          (down_more m (paged_memory c.loop-done.self) (paged_memory c.copy_part.new.self) id c.args.from c.args.to d n c.requires.down inside
          c.loop-done.invariant.1.memory c.copy_part.ensures),
    )

pub copy_part-requires-clause-source_together : goal.copy_part-requires-clause-source_together
copy_part-requires-clause-source_together g c =
    fewer (pages_of c.loop-done.self) c.args.id.0 (c.args.from + c.loop-done.done) c.run_from-source.result c.run_from-run.result c.run_from-run.ensures.most
    c.run_from-source.ensures.together

pub returns : goal.returns
returns g c =
    let m = paged_memory c.args.self.now in let id = c.args.id.0 in let b = bytes m id in
    let end : c.loop-done.done ≡ c.args.n = omega arith in
    c.loop-done.invariant.1.memory ∙ ap (λ k. with_bytes m id (with_part b c.args.to (part b c.args.from k))) end
