-- How a sheet shows a line of its script, and what a painter has taken.
use Rattle.rh_pictures.proofs.Common.{◌≡◌, ℕ, ◌<◌, zero, suc, Bool, true, false, List, [], ◌∷◌, ◌++◌, length, length-map, take, map, refl, sym, ap, ◌∙◌}
use Rattle.rh_pictures.proofs.Common.{append_assoc, arith, codes, ◌+◌, ◌&&◌, not, concat, decimal, TooLong, Desk, kept, Text, cut, where_so, changes, Scene}
use Rattle.rh_pictures.proofs.Common.{noted, Note, escape, changes_text, figure_text, said_end, step_end, step_text, Happened, Walk, behind_read}
use Rattle.rh_pictures.proofs.Common.{fault_happened, happened_text, read_text, sheet_lines, read_line, Stage, Painter, TookPaintedLine}
use Rattle.rh_defs.specs.Line.{longest_line}
use Rattle.rh_figure.specs.Map.{shown_byte}
use Rattle.rh_figure.specs.declared.limits.TheConstants.{LINE_COLUMNS}
use Rattle.rh_sheet.specs.SheetSteps.{Looks, command_text, reply_shown, said_text, still_text}
use Rattle.rh_sheet.specs.Sheet.{is_shown, opening, sheet_end}
use Rattle.rh_pictures.specs.Painted.{front_lines}
use Rattle.rh_pictures.specs.PaintedWalks.{TookPaintedRest}
use Rattle.rh_pictures.proofs.ScriptLemmas.{One, TakenRest, Telling, behind-all, cut-kept, text-of-all, text-to-end}
use Rattle.rh_pictures.proofs.WalkLemmas.{Stands, all-there, place-behind, rest-there, shared-there, stands-on, text-there}

-- ---- a line that is too long

map-take : (f : ℕ → ℕ) (n : ℕ) (xs : List ℕ) → map f (take n xs) ≡ take n (map f xs)
map-take f zero xs = refl
map-take f (suc n) [] = refl
map-take f (suc n) (x ∷ xs) = ap (λ z. f x ∷ z) (map-take f n xs)

command-kept : (line : Text) → longest_line < length line → command_text (kept line) ≡ command_text line
unfolding kept
command-kept line long =
    ap (cut LINE_COLUMNS) (map-take shown_byte (longest_line + 1) line)
    ∙ cut-kept (map shown_byte line) (omega (arith, length-map line shown_byte, long))

module _ (line : Text) (long : longest_line < length line) where
  said-kept : (n : ℕ) (reply : Text) → said_text n (kept line) reply ≡ said_text n line reply
  said-kept n reply = ap (λ shown. concat (
      concat (codes "<h2><b>" ∷ decimal n ∷ codes "</b> <code>" ∷ escape shown ∷ codes "</code></h2>\n<pre>" ∷ [])
      ∷ escape (reply_shown reply) ∷ codes "</pre>\n" ∷ []
      )) (command-kept line long)

  step-kept : (l : Looks) (still : Bool) (n : ℕ) (reply : Text) (x : Scene) (notes : List Note) (last : ℕ)
      → step_text l still n (kept line) reply x notes last ≡ step_text l still n line reply x notes last
  step-kept l true n reply x notes last =
      ap (λ said. concat (said ∷ still_text last ∷ said_end ∷ step_end ∷ [])) (said-kept n reply)
  step-kept l false n reply x notes last =
      ap (λ said. concat (said ∷ changes_text (changes x) ∷ said_end ∷ figure_text l x notes n ∷ step_end ∷ [])) (said-kept n reply)

  pub happened-kept : (marked : Bool) (x : Walk) (h : Happened) → happened_text marked x (kept line) h ≡ happened_text marked x line h
  happened-kept marked x h =
      ap (λ text. where_so (is_shown marked x x.place.wanted) (opening x ++ text))
      (step-kept x.looks (h.still && not x.place.wanted) (x.place.lines + 1) h.reply h.scene (noted (x.place.lines + 1) h.scene x.notes) x.last)

-- ---- how a sheet shows a line

abbrev pub sheet-telling : Bool → Telling Walk
sheet-telling marked = record {
  place_of = λ x. x.place;
  text_of = λ s x r. read_text marked s x r;
  behind = λ s x r. behind_read marked s x r;
  leads = place-behind marked;
  long_text = λ line long s x. happened-kept line long marked x (fault_happened s TooLong x.place.desk);
  long_behind = λ line s x. refl;
}

-- what is written of lines is what the sheet has of them, to its end and without
pub front-text : (marked : Bool) (x : Walk) (stages : List Stage) → text-of-all (sheet-telling marked) x stages ≡ front_lines marked x stages
front-text marked x [] = refl
front-text marked x ((r, s) ∷ rest) = ap (λ z. read_text marked s x r ++ z) (front-text marked (behind_read marked s x r) rest)

pub end-text : (marked : Bool) (x : Walk) (stages : List Stage) → text-to-end (sheet-telling marked) sheet_end x stages ≡ sheet_lines marked x stages
end-text marked x [] = refl
end-text marked x ((r, s) ∷ rest) =
    let y = behind_read marked s x r in
    append_assoc (read_text marked s x r) (text-of-all (sheet-telling marked) y rest) (sheet_end (behind-all (sheet-telling marked) y rest))
    ∙ ap (λ z. read_text marked s x r ++ z) (end-text marked y rest)

-- ---- what a painter has taken

-- whether a line was bad so far
abbrev pub was-bad : {D : Type 0} → Painter D → Bool
was-bad m = m.has_bad_line

module _ {D : Type 0} (desk : D → Desk) (marked : Bool) where
  -- a line
  pub took-one : (x : Walk) (line : Text) (m n : Painter D) (text : Text) → Stands desk marked x m → TookPaintedLine desk m line n text
      → One (sheet-telling marked) (Stands desk marked) was-bad x (read_line line) m n text
  took-one x line m n text is here = record {
    share = here.share;
    shared = shared-there is here.share (read_line line) here.shared;
    text_is = here.text_is ∙ text-there is here.share (read_line line);
    stands_on = stands-on is here.share (read_line line) here.follows;
    bad_is = here.follows.bad;
  }

  -- what stands behind the last line feed, and the sheet's end
  pub took-end : (x : Walk) (rest : Text) (m n : Painter D) (text : Text) → Stands desk marked x m → TookPaintedRest desk m rest n text
      → TakenRest (sheet-telling marked) sheet_end was-bad x rest m n text
  took-end x rest m n text is last = record {
    stages = last.stages;
    lines = last.lines;
    shared = all-there is last.stages last.shared;
    text_is = last.text_is ∙ (rest-there is last.stages ∙ sym (end-text marked x last.stages));
    bad_is = last.bad;
  }
