-- The segments of a heap from the place on where one of them begins, or where the last ends.
use Rattle.std.proofs.Common.{◌≡◌, ℕ, ◌+◌, ◌<◌, Bool, true, false, length, ap, sym, subst, ◌∙◌, arith, eq-eqb, List, [], ◌∷◌, ◌++◌}
use Rattle.std.specs.Prelude.{◌==◌}
use Rattle.std.proofs.lemmas.Bool.{ne_eqb}
use Rattle.std.proofs.lemmas.List.{append-nil}
use Rattle.rh_defs.specs.Pieces.{first_at, total}
use Rattle.rh_defs.specs.Inner.NonePassing.{NonePass}
use Rattle.rh_defs.specs.Heap.{Heap, Hole, IsTidy, Segment, Used, place_after, segment_at, size_of}
use Rattle.rh_defs.proofs.HeapLists.{first_at-found, first_at-none}
use Rattle.rh_heap.specs.Listed.{from_cut}

abbrev begins_at : ℕ → ℕ → Segment → Bool
begins_at p place g = p == place

-- none of the segments below the place begins there
none_below : (b : Bool) (place p : ℕ) (below rest : List Segment) → IsTidy b (below ++ rest) → p + total size_of below ≡ place
    → NonePass size_of (begins_at place) p below
none_below b place p [] rest t e = tt
none_below false place p (Used bytes ∷ below) rest t e =
    (ne_eqb place p (λ q. absurd (omega arith)), none_below false place (p + (4 + length bytes)) below rest t.1 (omega arith))
none_below true place p (Used bytes ∷ below) rest t e =
    (ne_eqb place p (λ q. absurd (omega arith)), none_below false place (p + (4 + length bytes)) below rest t.1 (omega arith))
none_below false place p (Hole n ∷ below) rest t e =
    let some : 0 < n = t.0 in (ne_eqb place p (λ q. absurd (omega arith)), none_below true place (p + n) below rest t.2 (omega arith))
none_below true place p (Hole n ∷ below) rest t e = absurd t

module _ (h : Heap) (tidy : IsTidy false h.segments) where
  pub from_place : (below rest : List Segment) (place : ℕ) → h.segments ≡ below ++ rest → place ≡ place_after below → from_cut (segment_at place h) ≡ rest
  from_place below rest place e at = go rest e
    where
      go : (rest : List Segment) → h.segments ≡ below ++ rest → from_cut (segment_at place h) ≡ rest
      go [] e =
          let none = none_below false place 16 below [] (subst (IsTidy false) e tidy) (sym at) in
          ap (λ ss. from_cut (first_at size_of (begins_at place) 16 ss)) (e ∙ append-nil below)
          ∙ ap from_cut (first_at-none size_of (begins_at place) 16 below none)
      go (g ∷ rest) e =
          let none = none_below false place 16 below (g ∷ rest) (subst (IsTidy false) e tidy) (sym at) in
          ap (λ ss. from_cut (first_at size_of (begins_at place) 16 ss)) e
          ∙ ap from_cut (first_at-found size_of (begins_at place) 16 below g rest none (eq-eqb place (16 + total size_of below) at))
