use Rattle.std.proofs.Common.{◌∙◌, ◌/◌, ℕ, length, ap, arith}
use Rattle.std.proofs.lemmas.List.{length-replicate}
use Rattle.rh_heap.proofs.ClaimLaws.{walk_turn}
use Rattle.rh_heap.proofs.TractLaws.{numbered_start, numbered_on, numbered_all}
use Rattle.rh_heap.proofs.span.peaks.index_peaks.Goals as goal

pub walk-init : goal.walk-init
walk-init g c =
    let filled = c.fill.ensures.after (λ y e. e) in
    record {
      long = ap length filled ∙ length-replicate {A = ℕ} (length c.args.peaks.now) 0;
      numbered = numbered_start _ _ _ _ c.requires.width filled;
      links = c.follow-place.ensures;
    }

pub read_hole-next-requires-clause-within : goal.read_hole-next-requires-clause-within
read_hole-next-requires-clause-within g c =
    let s = c.requires.span.spells in
    let t = (walk_turn _ _ _ _ _ _ s c.walk.invariant.numbered.passed c.walk.invariant.links).some c.walk-test.true in
    omega (arith, t.room, s.heap.fits, s.within)

pub walk-preserved : goal.walk-preserved
walk-preserved g c =
    let s = c.requires.span.spells in
    let i = c.walk.invariant in
    let half = ap (λ n. n / 2) i.long in
    let t = (walk_turn _ _ _ _ _ _ s i.numbered.passed i.links).some c.walk-test.true in
    record {
      long = c.raise_peak.ensures.long ∙ i.long;
      numbered = numbered_on _ _ _ s _ _ _ _ _ i.numbered (t.passed _ c.read_hole-next.ensures.size c.read_hole-next.ensures.bound)
          (λ some. let l = c.requires.long (λ z. some (i.long ∙ z)) in omega arith) c.raise_peak.ensures.tree c.raise_peak.ensures.more
          c.raise_peak.ensures.here c.raise_peak.ensures.long;
      links = c.read_hole-next.ensures.next;
    }

pub returns-clause-peaks : goal.returns-clause-peaks
returns-clause-peaks g c =
    let i = c.walk.invariant in
    let half = ap (λ n. n / 2) i.long in
    numbered_all _ _ _ c.requires.span.spells _ _ _ i.numbered i.links c.walk-test.false
    (let f = c.requires.few in let l = i.long in omega arith) (λ some. let l = c.requires.long (λ z. some (i.long ∙ z)) in omega arith)
