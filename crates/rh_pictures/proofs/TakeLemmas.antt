-- What a painter has done with a line as far as it is kept, and with what stands behind the last line feed.
use Rattle.rh_pictures.proofs.Common.{◌≡◌, ℕ, List, true, false, ◌||◌, [], ◌∷◌, ◌++◌, length, refl, sym, ap, ap₂, ◌∙◌, subst, arith, Option, Err, is_err, not}
use Rattle.rh_pictures.proofs.Common.{◌==◌, Command, LineFault, Desk, Meaning, line_means, IsReordered, rest_means, kept, kept_means, Share, IsShared, Text}
use Rattle.rh_pictures.proofs.Common.{Place, Read, after_read, at_desk, behind_read, read_text, sheet_lines, Painter, TookPaintedLine, offered_as, walk_in}
use Rattle.std.proofs.lemmas.Bool.{eqb-true}
use Rattle.rh_session.specs.Taken.{Gives}
use Rattle.rh_session.proofs.LineLemmas.{kept_nil}
use Rattle.rh_figure.specs.Map.{read_rest}
use Rattle.rh_sheet.specs.Sheet.{sheet_end}
use Rattle.rh_pictures.specs.Inner.PaintedSteps.{DrewLine, DrewRest}
use Rattle.rh_pictures.specs.PaintedWalks.{TookPaintedRest}
use Rattle.rh_pictures.proofs.ScriptLemmas.{kept-first, kept-there, or-off, place-kept, same-line, same-rest}
use Rattle.rh_pictures.proofs.SheetLemmas.{sheet-telling}
use Rattle.rh_pictures.proofs.TextPuts.{text_then}

-- ---- a line as far as it is kept

-- what was offered of a line was offered of what is kept of it
drew-kept : {D : Type 0} {desk : D → Desk} {m n : Painter D} {o p : List ℕ} (line : Text) → DrewLine desk m o line (line_means line) n p
    → DrewLine desk m o (kept line) (line_means (kept line)) n p
drew-kept {desk = desk} {m = m} {n = n} {o = o} line drew =
    let same = same-line (sheet-telling m.marked) line in
    let x = walk_in desk m in
    let there = sym (place-kept (sheet-telling m.marked) same drew.share x) in
    let S : Place → Type 0 = λ z. IsShared drew.share z.desk in
    let R : Place → Type 0 = λ z. IsReordered z.desk (desk n.drawn) in
    record {
      share = drew.share;
      shared = subst S there drew.shared;
      offered = offered_as o (sym (same.text drew.share x)) drew.offered;
      follows = record {
        desk_is = subst R there drew.follows.desk_is;
        walk_is = drew.follows.walk_is ∙ ap (at_desk (desk n.drawn)) (sym (same.behind drew.share x));
        marked_is = drew.follows.marked_is;
        bad = drew.follows.bad ∙ ap (λ z. m.has_bad_line || is_err z) (sym (kept_means line));
      };
    }

-- ---- what stands behind the last line feed

-- nothing stands there
pub empty-drew : {D : Type 0} (desk : D → Desk) (m : Painter D) {o p : List ℕ} (rest : Text) → true ≡ (length rest == 0)
    → p ≡ o ++ sheet_end (walk_in desk m) → DrewRest desk m o (kept rest) m p
empty-drew desk m [] none offered = record {
  stages = [];
  lines = sym (ap read_rest kept_nil);
  shared = tt;
  offered = offered;
  bad = or-off m.has_bad_line ∙ ap (λ b. m.has_bad_line || not b) (sym (kept-there []));
}
empty-drew desk m (b ∷ bs) none offered = let no : length (b ∷ bs) ≡ 0 = eqb-true (length (b ∷ bs)) 0 (sym none) in absurd (omega arith)

one-read : (rest : Text) → false ≡ (length rest == 0) → (kept rest, rest_means (kept rest)) ∷ [] ≡ read_rest (kept rest)
one-read [] some = absurd (cc)
one-read (b ∷ bs) some = ap (λ l. (l, rest_means l) ∷ []) (kept-first b bs) ∙ sym (ap read_rest (kept-first b bs))

-- something does
module _ {D : Type 0} (desk : D → Desk) (m : Painter D) (rest : Text) (some : false ≡ (length rest == 0)) (fault : LineFault)
    (means : rest_means rest ≡ Err fault) where
  abbrev read-kept : Read
  read-kept = (kept rest, rest_means (kept rest))

  end-kept : (s : Share) → read_text m.marked s (walk_in desk m) (rest, Err fault) ++ sheet_end (behind_read m.marked s (walk_in desk m) (rest, Err fault))
      ≡ read_text m.marked s (walk_in desk m) read-kept ++ sheet_end (behind_read m.marked s (walk_in desk m) read-kept)
  end-kept s =
      let x = walk_in desk m in
      let same = same-rest (sheet-telling m.marked) rest in
      ap (λ z. read_text m.marked s x (rest, z) ++ sheet_end (behind_read m.marked s x (rest, z))) (sym means)
      ∙ ap₂ (λ t w. t ++ sheet_end w) (sym (same.text s x)) (sym (same.behind s x))

  shared-rest : (s : Share) → IsShared s (after_read (walk_in desk m).place (rest, Err fault)).desk
      → IsShared s (after_read (walk_in desk m).place read-kept).desk
  shared-rest s shared =
      let P : Meaning (Option Command) → Type 0 = λ z. IsShared s (after_read (walk_in desk m).place (rest, z)).desk in
      let S : Place → Type 0 = λ z. IsShared s z.desk in
      let telling = sheet-telling m.marked in
      subst S (sym (place-kept telling (same-rest telling rest) s (walk_in desk m))) (subst P (sym means) shared)

  pub some-drew : {n : Painter D} {o q p : List ℕ} → DrewLine desk m o rest (Err fault) n q → p ≡ q ++ sheet_end (walk_in desk n)
      → DrewRest desk m o (kept rest) n p
  some-drew {o = o} {q = q} drew end = record {
    stages = (read-kept, drew.share) ∷ [];
    lines = one-read rest some;
    shared = (shared-rest drew.share drew.shared, tt);
    offered = offered_as o (end-kept drew.share) (text_then o _ _ drew.offered (offered_as q (ap sheet_end drew.follows.walk_is) end));
    bad = drew.follows.bad ∙ ap (λ b. m.has_bad_line || not b) (some ∙ sym (kept-there rest));
  }

-- ---- its text

module _ {D : Type 0} {desk : D → Desk} {m n : Painter D} {o p : List ℕ} where
  -- what was found of a line is what it means
  pub line-took : (line : Text) (found : Meaning (Option Command)) → found ≡ line_means line → DrewLine desk m o line found n p
      → Gives (TookPaintedLine desk m (kept line) n) o p
  line-took line found means offered =
      let P : Meaning (Option Command) → Type 0 = λ z. DrewLine desk m o line z n p in
      let drew = drew-kept line (subst P means offered) in
      record {
        text = read_text m.marked drew.share (walk_in desk m) (kept line, line_means (kept line));
        meets = record { share = drew.share; shared = drew.shared; text_is = refl; follows = drew.follows };
        offered = drew.offered;
      }

  pub rest-took : {rest : List ℕ} → DrewRest desk m o rest n p → Gives (TookPaintedRest desk m rest n) o p
  rest-took drew = record {
    text = sheet_lines m.marked (walk_in desk m) drew.stages;
    meets = record { stages = drew.stages; lines = drew.lines; shared = drew.shared; text_is = refl; bad = drew.bad };
    offered = drew.offered;
  }
