use Rattle.rh_pages.proofs.Common.{◌≡◌, ◌+◌, ◌-◌, ◌≤◌, length, slice_range, refl, sym, ap, ◌∙◌, arith, part, with_part, bytes, length-part, length-put}
use Rattle.rh_pages.proofs.Common.{part_none}
use Rattle.rh_pages.proofs.Common.{part-range, paged_memory, paged_small_law}
use Rattle.rh_defs.proofs.BytesLaws.{put_none, put_all}
use Rattle.rh_store.proofs.Slices.{written}
use Rattle.rh_pages.proofs.Steps.{filled_more}
use Rattle.rh_pages.proofs.paged.store.PagedStoreWords.copy_out.Goals as goal

pub loop-done-init : goal.loop-done-init
loop-done-init g c =
    let b = bytes (paged_memory c.args.self.now) c.args.id.0 in let to = c.args.to.now in
    (omega arith, (refl, sym (ap (with_part to 0) (part_none b c.args.at) ∙ put_none to 0)))

pub overflow_add-source : goal.overflow_add-source
overflow_add-source g c = let small = paged_small_law c.args.self.now c.args.id.0 in let q = c.requires.within in let k = c.loop-done.invariant.0 in omega arith

pub loop-done-preserved : goal.loop-done-preserved
loop-done-preserved g c =
    let b = bytes (paged_memory c.args.self.now) c.args.id.0 in let to = c.args.to.now in let t = c.loop-done.to in let at = c.args.at in
    let d = c.loop-done.done in let n = c.min-run.result in
    let y = c.min-run.ensures in let test = c.loop-done-test.true in let same = c.loop-done.invariant.1.0 in
    let less : d + n ≤ length to = omega arith in let inside : d + n ≤ length t = omega arith in
    let run : length (slice_range t d (d + n)) ≡ n = ap length (sym (part-range t d n inside)) ∙ length-part t d n in
    let long = length-part b (at + d) n in
    let e = written d (d + n - d) t c.get_part.new.to (part b (at + d) n) (c.get_part.ensures ∙ ap (part b (at + d)) run) (omega arith) (omega arith) in
    (less, (ap length e ∙ length-put t d (part b (at + d) n) ∙ same, filled_more to t _ b at d n c.loop-done.invariant.1.1 e))

pub returns : goal.returns
returns g c =
    let b = bytes (paged_memory c.args.self.now) c.args.id.0 in let to = c.args.to.now in let d = c.loop-done.done in
    let end : d ≡ length to = omega arith in
    c.loop-done.invariant.1.1 ∙ put_all to (part b c.args.at d) (length-part b c.args.at d ∙ end) ∙ ap (part b c.args.at) end
