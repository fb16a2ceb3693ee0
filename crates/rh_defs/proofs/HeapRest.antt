-- What is left of a heap behind a place has at most one proof.
use Rattle.rh_defs.proofs.Common.{ℕ, ◌+◌, List, [], ◌∷◌, length, Segment, Used, Hole, Stand, HasRoom}
use Rattle.std.proofs.Props.{props}
use Rattle.rh_defs.specs.HeapParts.{IsRest, rest_in}

Stand-prop : (b : List ℕ) (f p : ℕ) (ss : List Segment) → IsProp (Stand b f p ss)
Stand-prop b f p [] = hlevel props
Stand-prop b f p (Used bs ∷ ss) = let r = Stand-prop b f (p + (4 + length bs)) ss in hlevel (props, r)
Stand-prop b f p (Hole n ∷ ss) = let r = Stand-prop b p (p + n) ss in hlevel (props, r)

HasRoom-prop : (ss : List Segment) → IsProp (HasRoom ss)
HasRoom-prop [] = hlevel props
HasRoom-prop (Used bs ∷ ss) = HasRoom-prop ss
HasRoom-prop (Hole n ∷ ss) = let r = HasRoom-prop ss in hlevel (props, r)

pub IsRest-prop : (b : List ℕ) (base from place : ℕ) → IsProp (IsRest b base from place)
IsRest-prop b base from place =
    let s = Stand-prop b from place (rest_in b base from place) in
    let r = HasRoom-prop (rest_in b base from place) in
    hlevel (props, s, r)
