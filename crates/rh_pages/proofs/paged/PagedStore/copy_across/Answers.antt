use Rattle.rh_pages.proofs.Common.{◌≡◌, ◌+◌, ◌≤◌, ap, ◌∙◌, arith, part, with_part, bytes, with_bytes, part_none, paged_memory, pages_of}
use Rattle.rh_pages.proofs.Runs.{fewer}
use Rattle.rh_pages.proofs.Steps.{put_to, untouched, none_written, across_more}
use Rattle.rh_pages.proofs.paged.PagedStore.copy_across.Goals as goal

pub loop-done-init : goal.loop-done-init
loop-done-init g c =
    let m = paged_memory c.args.self.now in let id = c.args.id.0 in let id2 = c.args.id2.0 in let xs = part (bytes m id) c.args.at 0 in
    let e = none_written m id2 c.args.at2 xs c.requires.opened2 (part_none (bytes m id) c.args.at) in
    (omega arith, (untouched m m id id2 (with_part (bytes m id2) c.args.at2 xs) c.requires.apart c.requires.opened e, put_to m m id2 c.args.at2 xs e))

pub loop-done-preserved : goal.loop-done-preserved
loop-done-preserved g c =
    let m = paged_memory c.args.self.now in let id = c.args.id.0 in let id2 = c.args.id2.0 in
    let d = c.loop-done.done in let n = c.run_from-run.result in let least = c.min-most.ensures in let xs = part (bytes m id) c.args.at (d + n) in
    let x = c.run_from-source.ensures.most in let y = c.run_from-run.ensures.most in let t = c.loop-done-test.true in
    let less : d + n ≤ c.args.n = omega arith in let u = paged_memory c.copy_part.new.self in
    let e = across_more m (paged_memory c.loop-done.self) u id id2 c.args.at c.args.at2 d n c.requires.apart c.loop-done.invariant.1.1.memory
    c.copy_part.ensures in
    (less, (untouched m u id id2 (with_part (bytes m id2) c.args.at2 xs) c.requires.apart c.requires.opened e, put_to m u id2 c.args.at2 xs e))

pub copy_part-requires-clause-source_together : goal.copy_part-requires-clause-source_together
copy_part-requires-clause-source_together g c =
    fewer (pages_of c.loop-done.self) c.args.id.0 (c.args.at + c.loop-done.done) c.run_from-source.result c.run_from-run.result c.run_from-run.ensures.most
    c.run_from-source.ensures.together

pub returns : goal.returns
returns g c =
    let m = paged_memory c.args.self.now in let id = c.args.id.0 in let id2 = c.args.id2.0 in
    let end : c.loop-done.done ≡ c.args.n = omega arith in
    c.loop-done.invariant.1.1.memory ∙ ap (λ k. with_bytes m id2 (with_part (bytes m id2) c.args.at2 (part (bytes m id) c.args.at k))) end
