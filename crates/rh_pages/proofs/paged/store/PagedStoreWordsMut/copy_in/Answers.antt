use Rattle.rh_pages.proofs.Common.{◌≡◌, ◌+◌, ◌≤◌, length, sym, ap, ◌∙◌, arith, part, with_part, bytes, with_bytes, part_none, part-range, paged_memory}
use Rattle.rh_pages.proofs.Common.{paged_small_law}
use Rattle.rh_defs.proofs.BytesLaws.{part_all}
use Rattle.rh_pages.proofs.Steps.{put_to, none_written, copied_more}
use Rattle.rh_pages.proofs.paged.store.PagedStoreWordsMut.copy_in.Goals as goal

pub loop-done-init : goal.loop-done-init
loop-done-init g c =
    let m = paged_memory c.args.self.now in let id = c.args.id.0 in let xs = part c.args.from.now 0 0 in
    (omega arith, put_to m m id c.args.at xs (none_written m id c.args.at xs c.requires.opened (part_none c.args.from.now 0)))

pub overflow_add-target : goal.overflow_add-target
overflow_add-target g c = let small = paged_small_law c.args.self.now c.args.id.0 in let q = c.requires.within in let k = c.loop-done.invariant.0 in omega arith

pub loop-done-preserved : goal.loop-done-preserved
loop-done-preserved g c =
    let m = paged_memory c.args.self.now in let id = c.args.id.0 in let w = paged_memory c.loop-done.self in let u = paged_memory c.put_part.new.self in
    let d = c.loop-done.done in let n = c.min-run.result in let from = c.args.from.now in
    let y = c.min-run.ensures in let t = c.loop-done-test.true in
    let less : d + n ≤ length from = omega arith in let at : d ≡ 0 + d = omega arith in
    let e = c.put_part.ensures ∙ ap (λ l. with_bytes w id (with_part (bytes w id) (c.args.at + d) l))
    (sym (part-range from d n less) ∙ ap (λ i. part from i n) at) in
    (less, put_to m u id c.args.at (part from 0 (d + n)) (copied_more m w u id c.args.at d n 0 from c.loop-done.invariant.1.memory e))

pub returns : goal.returns
returns g c =
    let m = paged_memory c.args.self.now in let id = c.args.id.0 in let from = c.args.from.now in
    let end : c.loop-done.done ≡ length from = omega arith in
    c.loop-done.invariant.1.memory ∙ ap (λ l. with_bytes m id (with_part (bytes m id) c.args.at l)) (ap (part from 0) end ∙ part_all from)
