-- A map tells of a heap's shape alone.
use Rattle.rh_heap.proofs.Common.{◌≡◌, ℕ, ◌+◌, ◌*◌, ◌/◌, ◌≤◌, List, [], ◌∷◌, length, take, refl, sym, ap, subst, ◌∙◌, Option, Some, None, IfSome}
use Rattle.std.specs.Prelude.{drop}
use Rattle.rh_heap.proofs.Common.{Segment, Used, Hole, Heap, once, used_at, hole_at, IsIndex}
use Rattle.rh_defs.specs.Blocks.{blank, SameShape}
use Rattle.rh_defs.proofs.ShapeLaws.{len0}
use Rattle.rh_peaks.specs.Peaks.{peak}
use Rattle.rh_store.specs.Tracts.{AreBelow, ArePeaks}
use Rattle.rh_store.specs.Starts.{AreRowsOf}
use Rattle.rh_store.specs.declared.starts.TheConstants.{LINE_BYTES, TRACT_BYTES}

used_at-blank : (p q : ℕ) (ss : List Segment) → used_at p q (blank ss) ≡ used_at p q ss
used_at-blank p q [] = refl
used_at-blank p q (Used bs ∷ ss) =
    ap (λ n. once p q + used_at p (q + (4 + n)) (blank ss)) (len0 (length bs)) ∙ ap (λ n. once p q + n) (used_at-blank p (q + (4 + length bs)) ss)
used_at-blank p q (Hole n ∷ ss) = used_at-blank p (q + n) ss

hole_at-blank : (p q : ℕ) (ss : List Segment) → hole_at p q (blank ss) ≡ hole_at p q ss
hole_at-blank p q [] = refl
hole_at-blank p q (Used bs ∷ ss) = ap (λ n. hole_at p (q + (4 + n)) (blank ss)) (len0 (length bs)) ∙ hole_at-blank p (q + (4 + length bs)) ss
hole_at-blank p q (Hole n ∷ ss) = ap (λ k. once p q + k) (hole_at-blank p (q + n) ss)

-- it is the map of each heap of one shape
index_shape : (starts : List ℕ) (h d : Heap) → SameShape h d → IsIndex starts d → IsIndex starts h
index_shape starts h d s i = record {
  long = subst (λ e. e ≤ LINE_BYTES * (length starts / 2)) (sym s.end) i.long;
  used = λ k. i.used k ∙ sym (used_at-blank (8 * k) 16 d.segments) ∙ ap (used_at (8 * k) 16) (sym s.blank) ∙ used_at-blank (8 * k) 16 h.segments;
  holes = λ k. i.holes k ∙ sym (hole_at-blank (8 * k) 16 d.segments) ∙ ap (hole_at (8 * k) 16) (sym s.blank) ∙ hole_at-blank (8 * k) 16 h.segments;
}

to_blank : (most : ℕ → ℕ) (q : ℕ) (ss : List Segment) → AreBelow most q ss → AreBelow most q (blank ss)
to_blank most q [] b = tt
to_blank most q (Used bs ∷ ss) b = subst (λ n. AreBelow most (q + (4 + n)) (blank ss)) (sym (len0 (length bs))) (to_blank most (q + (4 + length bs)) ss b)
to_blank most q (Hole n ∷ ss) b = (b.0, to_blank most (q + n) ss b.1)

from_blank : (most : ℕ → ℕ) (q : ℕ) (ss : List Segment) → AreBelow most q (blank ss) → AreBelow most q ss
from_blank most q [] b = tt
from_blank most q (Used bs ∷ ss) b = from_blank most (q + (4 + length bs)) ss (subst (λ n. AreBelow most (q + (4 + n)) (blank ss)) (len0 (length bs)) b)
from_blank most q (Hole n ∷ ss) b = (b.0, from_blank most (q + n) ss b.1)

-- the numbers too
peaks_shape : (nodes : List ℕ) (h d : Heap) → SameShape h d → ArePeaks nodes d → ArePeaks nodes h
peaks_shape nodes h d s p = record {
  tree = p.tree;
  few = p.few;
  long = λ some. subst (λ e. e ≤ TRACT_BYTES * (length nodes / 2)) (sym s.end) (p.long some);
  below = λ some. from_blank (peak nodes) 16 h.segments (subst (AreBelow (peak nodes) 16) (sym s.blank) (to_blank (peak nodes) 16 d.segments (p.below some)));
}

-- so the words of a map that was taken, if there is one, are those of each heap of one shape
pub rows_on : {A : Type 0} (words : A → List ℕ) (split : A → ℕ) (h d : Heap) → SameShape d h → (o : Option A)
    → IfSome o (λ x. AreRowsOf (words x) (split x) h) → IfSome o (λ x. AreRowsOf (words x) (split x) d)
rows_on words split h d s None r = tt
rows_on words split h d s (Some x) r = record {
  within = r.within;
  starts = index_shape (take (split x) (words x)) d h s r.starts;
  peaks = peaks_shape (drop (split x) (words x)) d h s r.peaks;
}
