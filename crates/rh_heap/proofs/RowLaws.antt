-- What a map's words have that are a heap's lines and the numbers of its tracts.
use Rattle.rh_heap.proofs.Common.{◌≡◌, ℕ, ◌+◌, ◌*◌, ◌/◌, ◌≤◌, inl, inr, List, sym, subst, arith, cases_lt, ℤ}
use Rattle.rh_heap.proofs.Common.{Heap, base, moved, left_of, no_answer}
use Rattle.std.proofs.lemmas.List.{length-take-le}
use Rattle.rh_defs.specs.Heap.{extend_by}
use Rattle.rh_defs.proofs.HeapCalls.{extend-low, extend-done}
use Rattle.rh_store.specs.Starts.{AreRowsOf, HasRows}
use Rattle.rh_store.specs.declared.starts.TheConstants.{LINE_BYTES}

-- a heap's lines and numbers stand as those of a map have to
pub has_rows : (words : List ℕ) (split : ℕ) (h : Heap) → AreRowsOf words split h → HasRows words split 0
has_rows words split h rows = record {
  within = rows.within;
  lines = omega arith;
  width = rows.peaks.tree.width;
  few = rows.peaks.few;
  tracts = λ some. omega arith;
}

-- where there are lines and numbers for so many bytes, a heap's end may be moved up to there
moved_rows : (words : List ℕ) (split n e : ℕ) (h : Heap) → AreRowsOf words split h → HasRows words split n → e ≤ n
    → AreRowsOf words split (record h { end = e })
moved_rows words split n e h rows has within = record {
  within = rows.within;
  starts = record {
    long = subst (λ k. e ≤ LINE_BYTES * (k / 2)) (sym (length-take-le split words has.within)) (let fits = has.lines in omega arith);
    used = rows.starts.used;
    holes = rows.starts.holes;
  };
  peaks = record {
    tree = rows.peaks.tree;
    few = rows.peaks.few;
    long = λ some. let t = has.tracts some in omega arith;
    below = rows.peaks.below;
  };
}

extended_rows : (words : List ℕ) (split n at : ℕ) (delta : ℤ) (h : Heap) → AreRowsOf words split h → HasRows words split n → at + moved h.end delta ≤ n
    → AreRowsOf words split (left_of h (no_answer (extend_by delta h)))
extended_rows words split n at delta h rows has within = elim (cases_lt (moved h.end delta) (base h)) [
  | inl low ↦ subst (λ granted. AreRowsOf words split (left_of h (no_answer granted))) (sym (extend-low delta h low)) rows
  | inr done ↦ subst (λ granted. AreRowsOf words split (left_of h (no_answer granted))) (sym (extend-done delta h done))
      (moved_rows words split n (moved h.end delta) h rows has (omega arith))
]

-- what a change of a heap's end leaves has the same lines and numbers
pub rows_extended : (words : List ℕ) (split n at : ℕ) (delta d : ℤ) (h k left : Heap) → d ≡ delta → k ≡ h → left ≡ left_of k (no_answer (extend_by d k))
    → AreRowsOf words split h → HasRows words split n → at + moved h.end delta ≤ n → AreRowsOf words split left
rows_extended words split n at delta d h k left sign same is rows has within =
    let done = extended_rows words split n at delta h rows has within in
    let here = subst (λ x. AreRowsOf words split (left_of x (no_answer (extend_by delta x)))) (sym same) done in
    subst (AreRowsOf words split) (sym is) (subst (λ e. AreRowsOf words split (left_of k (no_answer (extend_by e k)))) (sym sign) here)
