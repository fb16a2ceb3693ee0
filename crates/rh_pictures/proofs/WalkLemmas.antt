-- Where a sheet stands, but for the order of messages to different tasks.
use Rattle.rh_pictures.proofs.Common.{◌≡◌, Bool, List, refl, sym, ap, ap₂, ◌∙◌, subst, [], ◌∷◌, ◌++◌, Some, None, Ok, Err, Desk}
use Rattle.rh_pictures.proofs.Common.{IsReordered, Share, IsShared, Place, Read, Stage, after_read, AreShared}
use Rattle.rh_pictures.proofs.Common.{at_desk, Walk, behind_read, happened_text, read_text, sheet_lines, Painter, walk_in}
use Rattle.rh_pictures.proofs.ScriptLemmas.{SamePlaces, places-alike, reordered-more, shared-alike}
use Rattle.rh_sheet.specs.Sheet.{behind_happened}
use Rattle.rh_sheet.proofs.Alike.{command-alike, fault-alike}
use Rattle.rh_pictures.specs.PaintedWalks.{FollowsPainting}

-- ---- what a line does on two desks

-- the same is written
read-alike : (marked : Bool) (s : Share) {a b : Desk} (x : Walk) (r : Read) → IsReordered a b
    → read_text marked s (at_desk b x) r ≡ read_text marked s (at_desk a x) r
read-alike marked s x (line, Ok None) is = refl
read-alike marked s x (line, Ok (Some c)) is = ap (happened_text marked x line) (command-alike is s c)
read-alike marked s x (line, Err fault) is = ap (happened_text marked x line) (fault-alike is s fault)

-- it leads on to the same but for the desk
behind-alike : (marked : Bool) (s : Share) {a b : Desk} (x : Walk) (r : Read) → IsReordered a b
    → behind_read marked s (at_desk b x) r ≡ at_desk (after_read (at_desk b x).place r).desk (behind_read marked s (at_desk a x) r)
behind-alike marked s x (line, Ok None) is = refl
behind-alike marked s {a} {b} x (line, Ok (Some c)) is = ap (behind_happened marked (at_desk b x) (line, Ok (Some c))) (command-alike is s c)
behind-alike marked s {a} {b} x (line, Err fault) is = ap (behind_happened marked (at_desk b x) (line, Err fault)) (fault-alike is s fault)

-- the place behind a line
pub place-behind : (marked : Bool) (s : Share) (x : Walk) (r : Read) → (behind_read marked s x r).place ≡ after_read x.place r
place-behind marked s x (line, Ok None) = refl
place-behind marked s x (line, Ok (Some c)) = refl
place-behind marked s x (line, Err fault) = refl

-- ---- where a painter stands

pub record Stands {D : Type 0} (desk : D → Desk) (marked : Bool) (x : Walk) (m : Painter D) : Type 0 where
  pub desk_is : IsReordered x.place.desk (desk m.drawn)
  pub walk_is : walk_in desk m ≡ at_desk (desk m.drawn) x
  pub marked_is : m.marked ≡ marked

stands-place : {D : Type 0} {desk : D → Desk} {marked : Bool} {x : Walk} {m : Painter D} → Stands desk marked x m → SamePlaces x.place (walk_in desk m).place
stands-place is = record {
  desks = is.desk_is;
  lines = ap (λ (w : Walk). w.place.lines) is.walk_is;
  wanted = ap (λ (w : Walk). w.place.wanted) is.walk_is;
}

module _ {D : Type 0} {desk : D → Desk} {marked : Bool} {x : Walk} {m : Painter D} (is : Stands desk marked x m) (s : Share) (r : Read) where
  -- what is written of a line
  pub text-there : read_text m.marked s (walk_in desk m) r ≡ read_text marked s x r
  text-there = ap₂ (λ k w. read_text k s w r) is.marked_is is.walk_is ∙ read-alike marked s x r is.desk_is

  walk-there : behind_read m.marked s (walk_in desk m) r ≡ at_desk (after_read (walk_in desk m).place r).desk (behind_read marked s x r)
  walk-there =
      ap₂ (λ k w. behind_read k s w r) is.marked_is is.walk_is
      ∙ (behind-alike marked s x r is.desk_is
      ∙ ap (λ (w : Walk). at_desk (after_read w.place r).desk (behind_read marked s x r)) (sym is.walk_is))

  -- behind a line a painter stands where the sheet does
  pub stands-on : {n : Painter D} → FollowsPainting desk m s r n → Stands desk marked (behind_read marked s x r) n
  stands-on {n} f =
      let same = places-alike x.place (walk_in desk m).place r (stands-place is) in
      let P : Place → Type 0 = λ z. IsReordered z.desk (desk n.drawn) in
      record {
        desk_is = subst P (sym (place-behind marked s x r)) (reordered-more same.desks f.desk_is);
        walk_is = f.walk_is ∙ ap (at_desk (desk n.drawn)) walk-there;
        marked_is = f.marked_is ∙ is.marked_is;
      }

  -- the pool is shared out as the sheet's desk says
  pub shared-there : IsShared s (after_read (walk_in desk m).place r).desk → IsShared s (after_read x.place r).desk
  shared-there shared = shared-alike s (places-alike x.place (walk_in desk m).place r (stands-place is)).desks shared

-- ---- the rest of a sheet

-- the same rest is written
pub lines-alike : (marked : Bool) (a b : Desk) (x : Walk) (stages : List Stage) → IsReordered a b
    → sheet_lines marked (at_desk b x) stages ≡ sheet_lines marked (at_desk a x) stages
lines-alike marked a b x [] is = refl
lines-alike marked a b x ((r, s) ∷ rest) is =
    let places = places-alike (at_desk a x).place (at_desk b x).place r (record { desks = is; lines = refl; wanted = refl }) in
    let P : Place → Type 0 = λ z. IsReordered z.desk (after_read (at_desk b x).place r).desk in
    ap₂ (λ t u. t ++ u) (read-alike marked s x r is)
    (ap (λ w. sheet_lines marked w rest) (behind-alike marked s x r is)
    ∙ lines-alike marked (behind_read marked s (at_desk a x) r).place.desk (after_read (at_desk b x).place r).desk
    (behind_read marked s (at_desk a x) r) rest (subst P (sym (place-behind marked s (at_desk a x) r)) places.desks))

pub all-shared : (p q : Place) (stages : List Stage) → SamePlaces p q → AreShared q stages → AreShared p stages
all-shared p q [] same shared = tt
all-shared p q ((r, s) ∷ rest) same shared =
    let behind = places-alike p q r same in
    (shared-alike s behind.desks shared.0, all-shared (after_read p r) (after_read q r) rest behind shared.1)

module _ {D : Type 0} {desk : D → Desk} {marked : Bool} {x : Walk} {m : Painter D} (is : Stands desk marked x m) (stages : List Stage) where
  pub rest-there : sheet_lines m.marked (walk_in desk m) stages ≡ sheet_lines marked x stages
  rest-there = ap₂ (λ k w. sheet_lines k w stages) is.marked_is is.walk_is ∙ lines-alike marked x.place.desk (desk m.drawn) x stages is.desk_is

  pub all-there : AreShared (walk_in desk m).place stages → AreShared x.place stages
  all-there = all-shared x.place (walk_in desk m).place stages (stands-place is)
