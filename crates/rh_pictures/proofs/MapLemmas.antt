-- How a map shows a line of its script, and where it stands behind it.
use Rattle.rh_pictures.proofs.Common.{◌≡◌, ℕ, ◌+◌, ◌<◌, Bool, ◌||◌, List, [], ◌∷◌, ◌++◌, length, refl, sym, ap, ap₂, ◌∙◌, append-nil, arith, Option, Err}
use Rattle.rh_pictures.proofs.Common.{if◌then◌else◌, not, ne_eqb, drop, codes, decimal, flat_map-append, Command, LineFault, TooLong, Meaning, line_means, Desk}
use Rattle.rh_pictures.proofs.Common.{IsReordered, kept, rest_means, Share, Text, Place, Read, Stage, after_read, lines_of_read, read_line, written_lines}
use Rattle.rh_pictures.proofs.Common.{Mapper, Drew, TookLine, place_in}
use Rattle.rh_defs.specs.Line.{longest_line}
use Rattle.rh_figure.specs.Map.{fault_lines, map_lines, place}
use Rattle.rh_figure.proofs.Alike.{no-order}
use Rattle.rh_pictures.specs.DrawnPlaces.{Follows, TookRest}
use Rattle.rh_pictures.proofs.ScriptLemmas.{One, SamePlaces, TakenRest, Telling, cut-kept, or-off, places-alike, reordered-more, rest-bad, shared-alike}
use Rattle.rh_pictures.proofs.ScriptLemmas.{text-of-all}

-- the lines of a bad line, by what its first line shows
fault_with : Bool → ℕ → Text → Desk → Share → LineFault → List Text
fault_with wanted n shown d s fault =
    (decimal n ++ (codes "  " ++ shown ++ [])) ∷ drop 1 (fault_lines wanted s n [] fault d)

pub long-lines : (line : Text) → longest_line < length line → (marked : Bool) (s : Share) (p : Place)
    → lines_of_read marked s p (kept line, Err TooLong) ≡ lines_of_read marked s p (line, Err TooLong)
unfolding fault_with kept
long-lines line long marked s p =
    ap (λ text. if not marked || p.wanted then fault_with p.wanted (p.lines + 1) text p.desk s TooLong else []) (cut-kept line long)

abbrev pub map-telling : Bool → Telling Place
map-telling marked = record {
  place_of = λ p. p;
  text_of = λ s p r. written_lines (lines_of_read marked s p r);
  behind = λ s p r. after_read p r;
  leads = λ s p r. refl;
  long_text = λ line long s p. ap written_lines (long-lines line long marked s p);
  long_behind = λ line s p. refl;
}

-- what is written of lines are the map's lines
pub map-text : (marked : Bool) (p : Place) (stages : List Stage) → text-of-all (map-telling marked) p stages ≡ written_lines (map_lines marked p stages)
map-text marked p [] = refl
map-text marked p ((r, s) ∷ rest) =
    ap (λ z. written_lines (lines_of_read marked s p r) ++ z) (map-text marked (after_read p r) rest)
    ∙ sym (flat_map-append _ (lines_of_read marked s p r) (map_lines marked (after_read p r) rest))

-- ---- where a map stands, but for the order of messages to different tasks

-- a mapper stands at a place
pub record Stands {D : Type 0} (desk : D → Desk) (marked : Bool) (p : Place) (m : Mapper D) : Type 0 where
  pub desk_is : IsReordered p.desk (desk m.drawn)
  pub lines : m.lines ≡ p.lines
  pub wanted : m.wanted ≡ p.wanted
  pub marked_is : m.marked ≡ marked

-- whether a line was bad so far
abbrev pub was-bad : {D : Type 0} → Mapper D → Bool
was-bad m = m.has_bad_line

stands-place : {D : Type 0} {desk : D → Desk} {marked : Bool} {p : Place} {m : Mapper D} → Stands desk marked p m → SamePlaces p (place_in desk m)
stands-place is = record { desks = is.desk_is; lines = is.lines; wanted = is.wanted }

-- behind a line a mapper stands where the map does
stands-on : {D : Type 0} {desk : D → Desk} {marked : Bool} {p : Place} {m n : Mapper D} (r : Read) → Stands desk marked p m → Follows desk m r n
    → Stands desk marked (after_read p r) n
stands-on {desk = desk} {p = p} {m = m} r is f =
    let same = places-alike p (place_in desk m) r (stands-place is) in
    record {
      desk_is = reordered-more same.desks f.desk_is;
      lines = f.lines ∙ same.lines;
      wanted = f.wanted ∙ same.wanted;
      marked_is = f.marked_is ∙ is.marked_is;
    }

-- a line is shown the same from both places
lines-alike : (marked : Bool) (s : Share) (p q : Place) (r : Read) → SamePlaces p q → lines_of_read marked s q r ≡ lines_of_read marked s p r
lines-alike marked s p q r is =
    ap₂ (λ n w. lines_of_read marked s (place q.desk n w) r) is.lines is.wanted
    ∙ (sym (append-nil (lines_of_read marked s (place q.desk p.lines p.wanted) r))
    ∙ (no-order marked p.desk q.desk p.lines p.wanted ((r, s) ∷ []) is.desks
    ∙ append-nil (lines_of_read marked s (place p.desk p.lines p.wanted) r)))

-- ---- what a mapper has taken

module _ {D : Type 0} (desk : D → Desk) (marked : Bool) where
  took-read : (p : Place) (line : Text) (meaning : Meaning (Option Command)) (m n : Mapper D) (text : List ℕ) → Stands desk marked p m
      → Drew desk m line meaning n text → One (map-telling marked) (Stands desk marked) was-bad p (line, meaning) m n text
  took-read p line meaning m n text is drew =
      let r : Read = (line, meaning) in
      let same = stands-place is in
      record {
        share = drew.share;
        shared = shared-alike drew.share (places-alike p (place_in desk m) r same).desks drew.shared;
        text_is = drew.text_is ∙ ap written_lines (ap (λ k. lines_of_read k drew.share (place_in desk m) r) is.marked_is
            ∙ lines-alike marked drew.share p (place_in desk m) r same);
        stands_on = stands-on r is drew.follows;
        bad_is = drew.follows.bad;
      }

  -- a line
  pub took-one : (p : Place) (line : Text) (m n : Mapper D) (text : List ℕ) → Stands desk marked p m → TookLine desk m line n text
      → One (map-telling marked) (Stands desk marked) was-bad p (read_line line) m n text
  took-one p line m n text is drew = took-read p line (line_means line) m n text is drew

  -- what stands behind the last line feed; a map has no end of its own
  pub took-end : (p : Place) (rest : Text) (m n : Mapper D) (text : List ℕ) → Stands desk marked p m → TookRest desk m rest n text
      → TakenRest (map-telling marked) (λ _. []) was-bad p rest m n text
  took-end p [] m n text is (same, none) = record {
    stages = [];
    lines = refl;
    shared = tt;
    text_is = none;
    bad_is = ap (λ (z : Mapper D). z.has_bad_line) same ∙ or-off m.has_bad_line;
  }
  took-end p (b ∷ bs) m n text is drew =
      let line : Text = b ∷ bs in
      let here = took-read p line (rest_means line) m n text is drew in
      let written = written_lines (lines_of_read marked here.share p (line, rest_means line)) in
      record {
        stages = ((line, rest_means line), here.share) ∷ [];
        lines = refl;
        shared = (here.shared, tt);
        text_is = here.text_is ∙ sym (append-nil (written ++ []) ∙ append-nil written);
        bad_is = here.bad_is ∙ ap (λ z. m.has_bad_line || z) (rest-bad line ∙ sym (ap not (ne_eqb (length line) 0 (λ q. omega (arith, q)))));
      }
