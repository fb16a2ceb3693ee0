-- Parts stand apart in their rows.
use Rattle.std.proofs.Common.{ℕ, ◌+◌, ◌-◌, ◌<◌, ◌≤◌, ◌≡◌, Bool, true, false, refl, arith, le_refl, List, [], ◌∷◌, inl, inr}
use Rattle.std.specs.Prelude.{min, nat_le, nat_lt, ◌&&◌, if◌then◌else◌}
use Rattle.std.proofs.lemmas.Bool.Decides.{nat_tests}
use Rattle.rh_lens.specs.Items.{Item}
use Rattle.rh_lens.specs.Widths.{is_free, part_width, wished}
use Rattle.rh_lens.specs.LensSpots.{PartSpot, spots_from, next_spot, spot_here, spot_above, next_x, has_place, width_at}
use Rattle.rh_lens.specs.LensLaws.{StandInRows, StandsBehind, StandsApart}
use Rattle.rh_lens.specs.declared.sizes.TheConstants.{FREE_LEAST}

least-ends : (r w : ℕ) → min r w ≤ r
least-ends r w = omega arith

-- no part is wider than its row
part-ends : (r s : ℕ) (i : Item) → part_width r s i ≤ r
part-ends r s i = least-ends r (wished r s i i.piece.kind i.piece.size)

-- of two widths that a row has room for one
chosen-ends : (t : Bool) (r w x : ℕ) → w ≤ r → (if t then r - x else w) ≤ r
chosen-ends true r w x fits = omega arith
chosen-ends false r w x fits = fits

width-ends : (r s x : ℕ) (i : Item) → width_at r s x i ≤ r
width-ends r s x i = chosen-ends
    (nat_lt r (x + part_width r s i) && (is_free i.piece.kind && nat_le (x + FREE_LEAST) r)) r (part_width r s i) x
    (part-ends r s i)

-- a part that has its place behind another one ends within the row
place-ends : (r x w : ℕ) → 0 < x → has_place r x w ≡ true → x + w ≤ r
place-ends r x w some e = grind (arith, nat_tests)

-- of two spots of one part the one that a test chooses
chosen-next : (t : Bool) (r : ℕ) (p q0 q1 : PartSpot) → StandsBehind p q0 → StandsBehind p q1 → (t ≡ true → q0.x + q0.width ≤ r)
    → q1.x + q1.width ≤ r → StandsBehind p (if t then q0 else q1) × ((if t then q0 else q1).x + (if t then q0 else q1).width ≤ r)
chosen-next true r p q0 q1 f0 f1 e0 e1 = (f0, e0 refl)
chosen-next false r p q0 q1 f0 f1 e0 e1 = (f1, e1)

-- the part behind another one follows it, and ends within its row
next-stands : (r s : ℕ) (p : PartSpot) (i : Item) → StandsBehind p (next_spot r s (next_x p) p.row i)
    × ((next_spot r s (next_x p) p.row i).x + (next_spot r s (next_x p) p.row i).width ≤ r)
next-stands r s p i = chosen-next
    (has_place r (next_x p) (width_at r s (next_x p) i)) r p
    (spot_here r s (next_x p) p.row i) (spot_above r s p.row i)
    (inl (refl, le_refl _)) (inr (refl, refl))
    (place-ends r (next_x p) (width_at r s (next_x p) i) (omega arith))
    (omega (arith, part-ends r s i))

-- what goes on behind a part that ends within its row
behind-apart : (r s : ℕ) (p : PartSpot) (items : List Item) → p.x + p.width ≤ r
    → StandInRows r (p ∷ spots_from r s (next_x p) p.row items)
behind-apart r s p [] ends = ends
behind-apart r s p (i ∷ items) ends = (
  ends,
  (next-stands r s p i).0,
  behind-apart r s (next_spot r s (next_x p) p.row i) items (next-stands r s p i).1,
)

first-ends : (t : Bool) (r : ℕ) (p q : PartSpot) → p.x + p.width ≤ r → q.x + q.width ≤ r
    → (if t then p else q).x + (if t then p else q).width ≤ r
first-ends true r p q ep eq = ep
first-ends false r p q ep eq = eq

pub stands-apart : StandsApart
stands-apart r s [] = tt
stands-apart r s (i ∷ items) = behind-apart r s (next_spot r s 0 0 i) items (first-ends
    (has_place r 0 (width_at r s 0 i)) r (spot_here r s 0 0 i) (spot_above r s 0 i)
    (omega (arith, width-ends r s 0 i)) (omega (arith, part-ends r s i)))
