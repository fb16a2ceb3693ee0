use Rattle.rh_pages.proofs.Common.{◌≡◌, ◌+◌, ◌-◌, ◌≤◌, [], length, ap, ◌∙◌, arith, part, with_part, bytes, with_bytes, part_none, paged_memory, pages_of, subst}
use Rattle.rh_pages.specs.Inner.Spots.{IsTogether}
use Rattle.rh_pages.proofs.Runs.{later}
use Rattle.rh_pages.proofs.Steps.{put_to, none_written, up_more}
use Rattle.rh_pages.proofs.paged.PagedStore.slide_up.Goals as goal

pub loop-left-init : goal.loop-left-init
loop-left-init g c =
    let m = paged_memory c.args.self.now in let id = c.args.id.0 in let b = bytes m id in let n = c.args.n in
    let none : n - n ≡ 0 = omega arith in
    let empty : part b (c.args.from + n) (n - n) ≡ [] = ap (part b (c.args.from + n)) none ∙ part_none b (c.args.from + n) in (
      omega arith,
      put_to m m id (c.args.to + n) (part b (c.args.from + n) (n - n))
          (none_written m id (c.args.to + n) (part b (c.args.from + n) (n - n)) c.requires.opened empty),
    )

pub loop-left-preserved : goal.loop-left-preserved
loop-left-preserved g c =
    let m = paged_memory c.args.self.now in let id = c.args.id.0 in let b = bytes m id in
    let x = c.loop-left.left in let n = c.run_below-run.result in let target = c.requires.target in let least = c.min-most.ensures in
    let u = c.run_below-source.ensures.most in let v = c.run_below-run.ensures.most in let t = c.loop-left-test.true in let kept = c.loop-left.invariant.0 in
    let left = x - n in let k = c.args.n - x in
    let all : x ≡ left + n = omega arith in let inside : c.args.to + left + n + k ≤ length b = omega arith in
    let rest : n + k ≡ c.args.n - left = omega arith in
    let was = c.loop-left.invariant.1.memory ∙ ap (λ i. with_bytes m id (with_part b (c.args.to + i) (part b (c.args.from + i) k))) all in (
      omega arith,
      put_to m (paged_memory c.copy_part.new.self) id (c.args.to + left) (part b (c.args.from + left) (c.args.n - left))
          (up_more m (paged_memory c.loop-left.self) (paged_memory c.copy_part.new.self) id c.args.from c.args.to left n k c.requires.up inside was
          c.copy_part.ensures
          ∙ ap (λ i. with_bytes m id (with_part b (c.args.to + left) (part b (c.args.from + left) i))) rest),
    )

pub copy_part-requires-clause-source_together : goal.copy_part-requires-clause-source_together
copy_part-requires-clause-source_together g c =
    let s = c.loop-left.self in let lists = pages_of s in let id = c.args.id.0 in
    let n = c.run_below-run.result in let end = c.args.from + c.loop-left.left in
    let less = c.run_below-run.ensures.most in let most = c.run_below-source.ensures.most in let least = c.min-most.ensures in
    let run = later lists id end c.run_below-source.result n less (omega arith) c.run_below-source.ensures.together in
    let at : end - n ≡ c.args.from + (c.loop-left.left - n) = omega arith in
    subst (λ p. IsTogether lists id p n) at run

pub copy_part-requires-clause-target_together : goal.copy_part-requires-clause-target_together
copy_part-requires-clause-target_together g c =
    let s = c.loop-left.self in let lists = pages_of s in let id = c.args.id.0 in
    let n = c.run_below-run.result in let end = c.args.to + c.loop-left.left in
    let less = c.run_below-run.ensures.most in let most = c.run_below-source.ensures.most in let least = c.min-most.ensures in
    let at : end - n ≡ c.args.to + (c.loop-left.left - n) = omega arith in
    subst (λ p. IsTogether lists id p n) at c.run_below-run.ensures.together

pub returns : goal.returns
returns g c =
    let m = paged_memory c.args.self.now in let id = c.args.id.0 in let b = bytes m id in let n = c.args.n in
    let x = c.loop-left.left in let t = c.loop-left-test.false in let none : x ≡ 0 = omega arith in
    let to : c.args.to + x ≡ c.args.to = omega arith in let from : c.args.from + x ≡ c.args.from = omega arith in let all : n - x ≡ n = omega arith in
    c.loop-left.invariant.1.memory ∙ (λ i. with_bytes m id (with_part b (to i) (part b (from i) (all i))))
