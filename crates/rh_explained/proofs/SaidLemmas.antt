-- Explanations of a script, from the lines that were taken.
use Rattle.std.proofs.Common.{◌≡◌, ℕ, ◌+◌, ◌<◌, Bool, true, false, ◌||◌, not, ◌==◌, List, [], ◌∷◌, ◌++◌, length, map, Option, Some, None, Ok, Err}
use Rattle.std.specs.Fmt.{decimal}
use Rattle.rh_explained.specs.ShownBytes.{shown_front}
use Rattle.rh_explained.specs.declared.shown.TheConstants.{MOST_OF_LINE}
use Rattle.std.proofs.Common.{codes, IfSome, if◌then◌else◌, nat_lt, append_assoc, ◌⊎◌, inl, inr, refl, sym, ◌∙◌, ap, ap₂, append-nil, subst, arith, rules}
use Rattle.std.specs.Io.KnownBytes.{Consumes, IsAtEnd}
use Rattle.std.proofs.lemmas.List.{map-append}
use borrow.Author.Tests.{tests}
use Rattle.rh_defs.specs.Commands.{step}
use Rattle.rh_defs.specs.Desk.{Desk}
use Rattle.rh_defs.specs.declared.command.Command.{Command}
use Rattle.rh_defs.specs.declared.refusal.Refusal.{Refusal}
use Rattle.rh_defs.specs.declared.reply.Reply.{Reply}
use Rattle.rh_defs.specs.declared.reply.Reply.TheVariants.{Refused}
use Rattle.rh_defs.specs.Script.{ended, line_desk, lines_desk, unended}
use Rattle.rh_defs.specs.declared.fault.LineFault.{LineFault}
use Rattle.rh_defs.specs.declared.fault.LineFault.TheVariants.{TooLong, Unended}
use Rattle.rh_defs.specs.declared.sizes.TheConstants.{LONGEST_LINE}
use Rattle.rh_defs.specs.Line.{Meaning, line_means}
use Rattle.rh_lines.specs.Flow.{Input, Output, Breaks, Takes}
use Rattle.rh_lines.proofs.FlowLemmas.{breaks_before}
use Rattle.rh_session.specs.Lines.{kept, kept_lines, kept_rest}
use Rattle.rh_session.specs.Outcome.{status_of}
use Rattle.rh_session.specs.Taken.{Fed, FedAll, FedUntil, TookAll, TookFront, TookScript}
use Rattle.rh_session.specs.declared.status.Status.{Status}
use Rattle.rh_session.proofs.LineLemmas.{ended-append}
use Rattle.rh_session.proofs.RunLemmas.{or_false, or_true}
use Rattle.rh_explained.specs.Explained.{Explained, ExplainedSoFar, ExplainedUntil, is_said, said_of_line, said_of_lines, said_of_rest, said_of_script}
use Rattle.rh_explained.specs.Explanations.{bad_line, bad_line_as, explained as explained_text, oddity_at, refusal_explained, said_of}
use Rattle.rh_explained.specs.Explanations.{fault_help, fault_says, odd_says}
use Rattle.rh_explained.specs.Subjects.{facts_on}
use Rattle.rh_explained.specs.declared.facts.Facts.{Facts}
use Rattle.rh_explained.specs.SaidLines.{SaidOfLine, SaidOfMeaning, SaidOfRest}
use Rattle.rh_explained.specs.declared.explainer.Explainer.{Explainer}
use Rattle.rh_explained.specs.declared.oddity.Oddity.{Oddity}

-- ---- whether something was said

not_none : (n : ℕ) → 0 < n → (n == 0) ≡ false
not_none n h = search (rules, tests)

-- a text that begins with a byte says something
pub said_some : (b : ℕ) (bs : List ℕ) → is_said (b ∷ bs) ≡ true
said_some b bs = ap not (not_none (length (b ∷ bs)) (omega arith))

-- an explanation says something
explained_said : (n : ℕ) (says line helps : List ℕ) → is_said (explained_text n says line helps) ≡ true
explained_said n says line helps =
    said_some 108 (codes "ine " ++ (decimal n ++ (says ++ (codes "\n  " ++ (shown_front MOST_OF_LINE line ++ (codes "\n" ++ helps))))))

bad_line_said_as : (odd : Option Oddity) (n : ℕ) (line : List ℕ) (fault : LineFault) → is_said (bad_line_as odd n line fault) ≡ true
bad_line_said_as None n line fault = explained_said n (fault_says line fault) line (fault_help fault)
bad_line_said_as (Some odd) n line fault = explained_said n (odd_says odd) line []

pub bad_line_said : (n : ℕ) (line : List ℕ) (fault : LineFault) → is_said (bad_line n line fault) ≡ true
bad_line_said n line fault = bad_line_said_as (oddity_at line fault) n line fault

said-append : (a b : List ℕ) → is_said (a ++ b) ≡ (is_said a || is_said b)
said-append [] b = refl
said-append (x ∷ xs) b = said_some x (xs ++ b) ∙ sym (ap (λ z. z || is_said b) (said_some x xs))

either_first : (a b c : Bool) → ((a || b) || c) ≡ (a || (b || c))
either_first true b c = refl
either_first false b c = refl

-- ---- one command

-- what is said of a refused command, by what the desk behind it has
pub said_refused : (d : Desk) (n : ℕ) (line : List ℕ) (c : Command) (reply : Reply) (refusal : Refusal) (facts : Facts) → reply ≡ (step d c).1
    → reply ≡ Refused refusal → facts ≡ facts_on (step d c).0 c
    → refusal_explained facts n line c refusal ≡ said_of (step d c).0 n line c (step d c).1
said_refused d n line c reply refusal facts same is of =
    ap (λ (f : Facts). refusal_explained f n line c refusal) of ∙ ap (said_of (step d c).0 n line c) (sym is ∙ same)

said_other_as : (d : Desk) (n : ℕ) (line : List ℕ) (c : Command) (reply : Reply) → ((refusal : Refusal) → reply ≡ Refused refusal → ⊥)
    → said_of d n line c reply ≡ []
said_other_as d n line c (Refused refusal) other = absurd (other refusal refl)
said_other_as d n line c reply other = refl

-- nothing is said of any other
pub said_other : (d : Desk) (n : ℕ) (line : List ℕ) (c : Command) (reply : Reply) → reply ≡ (step d c).1
    → ((refusal : Refusal) → reply ≡ Refused refusal → ⊥) → [] ≡ said_of (step d c).0 n line c (step d c).1
said_other d n line c reply same other =
    sym (ap (said_of (step d c).0 n line c) (sym same) ∙ said_other_as (step d c).0 n line c reply other)

-- ---- one line

module _ {D : Type 0} {spells : D → Desk → Type 0} where
  -- what was said by what a line means was said of the line
  pub line_said : {s t : Explainer D} {text : List ℕ} (line whole : List ℕ) (meaning : Meaning (Option Command)) → meaning ≡ line_means line → line ≡ whole
      → SaidOfMeaning spells s line meaning t text → SaidOfLine spells s whole t text
  line_said {s = s} {t = t} {text = text} line whole meaning means same said =
      subst (λ (z : List ℕ). SaidOfMeaning spells s z (line_means z) t text) same
      (subst (λ (m : Meaning (Option Command)). SaidOfMeaning spells s line m t text) means said)

  -- of a line that is skipped nothing is said
  pub skipped_said : (s t : Explainer D) (line : List ℕ) → t ≡ record s { lines = s.lines + 1 } → SaidOfMeaning spells s line (Ok None) t []
  skipped_said s t line same = record {
    desk = λ d h. subst (λ (z : Explainer D). spells z.desktop d) (sym same) h;
    said = λ d h. refl;
    lines = ap (λ (z : Explainer D). z.lines) same;
    flag = ap (λ (z : Explainer D). z.has_said) same ∙ sym (or_false s.has_said);
  }

  -- a bad line is explained
  pub bad_said : (s t : Explainer D) (line : List ℕ) (fault : LineFault) → t ≡ record s { lines = s.lines + 1; has_said = true }
      → SaidOfMeaning spells s line (Err fault) t (bad_line (s.lines + 1) line fault)
  bad_said s t line fault same = record {
    desk = λ d h. subst (λ (z : Explainer D). spells z.desktop d) (sym same) h;
    said = λ d h. refl;
    lines = ap (λ (z : Explainer D). z.lines) same;
    flag = ap (λ (z : Explainer D). z.has_said) same
        ∙ sym (ap (λ z. s.has_said || z) (bad_line_said (s.lines + 1) line fault) ∙ or_true s.has_said);
  }

-- ---- what stands behind the last line feed

no_rest : (n : ℕ) (rest : List ℕ) → (length rest == 0) ≡ true → [] ≡ said_of_rest n rest
no_rest n [] h = refl
no_rest n (b ∷ bs) h = absurd (let no = not_none (length (b ∷ bs)) (omega arith) in cc)

some_rest : (n : ℕ) (rest : List ℕ) (fault : LineFault) → (length rest == 0) ≡ false
    → fault ≡ (if nat_lt LONGEST_LINE (length rest) then TooLong else Unended) → bad_line n rest fault ≡ said_of_rest n rest
some_rest n [] fault h is = absurd (let no = h in cc)
some_rest n (b ∷ bs) fault h is = ap (bad_line n (b ∷ bs)) is

pub nothing_said : {D : Type 0} (s : Explainer D) (k rest : List ℕ) → k ≡ rest → (length k == 0) ≡ true → SaidOfRest s rest s []
nothing_said s k rest same h = record {
  said = no_rest (s.lines + 1) k h ∙ ap (said_of_rest (s.lines + 1)) same;
  flag = sym (or_false s.has_said);
}

pub cut_said : {D : Type 0} (s t : Explainer D) (k rest : List ℕ) (fault : LineFault) → k ≡ rest → (length k == 0) ≡ false
    → fault ≡ (if nat_lt LONGEST_LINE (length k) then TooLong else Unended) → t ≡ record s { lines = s.lines + 1; has_said = true }
    → SaidOfRest s rest t (bad_line (s.lines + 1) k fault)
cut_said {D} s t k rest fault same h is next = record {
  said = some_rest (s.lines + 1) k fault h is ∙ ap (said_of_rest (s.lines + 1)) same;
  flag = ap (λ (z : Explainer D). z.has_said) next
      ∙ sym (ap (λ z. s.has_said || z) (bad_line_said (s.lines + 1) k fault) ∙ or_true s.has_said);
}

-- ---- lines one after the other

-- an explainer that has taken these lines from a desk on
record AllSaid {D : Type 0} (spells : D → Desk → Type 0) (d : Desk) (s : Explainer D) (lines : List (List ℕ)) (t : Explainer D) (text : List ℕ) : Type 0 where
  desk : spells t.desktop (lines_desk d lines)
  said : text ≡ said_of_lines d s.lines lines
  counted : t.lines ≡ s.lines + length lines
  flag : t.has_said ≡ (s.has_said || is_said text)

all_said : {D : Type 0} {spells : D → Desk → Type 0} {s t : Explainer D} {text : List ℕ} (lines : List (List ℕ)) (d : Desk) → spells s.desktop d
    → TookAll (SaidOfLine spells) s lines t text → AllSaid spells d s lines t text
all_said {D} {spells} {s} {t} {text} [] d h (same, none) = record {
  desk = subst (λ (z : Explainer D). spells z.desktop d) same h;
  said = none;
  counted = ap (λ (z : Explainer D). z.lines) (sym same) ∙ omega arith;
  flag = ap (λ (z : Explainer D). z.has_said) (sym same) ∙ (sym (or_false s.has_said) ∙ ap (λ z. s.has_said || is_said z) (sym none));
}
all_said {D} {spells} {s} {t} {text} (l ∷ ls) d h (u, a, b, one, rest, is) =
    let all = all_said ls (line_desk d l) (one.desk d h) rest in
    let one_more : u.lines ≡ s.lines + 1 = one.lines in
    let others : t.lines ≡ u.lines + length ls = all.counted in
    record {
      desk = all.desk;
      said = is ∙ ap₂ (λ x y. x ++ y) (one.said d h) (all.said ∙ ap (λ n. said_of_lines (line_desk d l) n ls) one.lines);
      counted = omega arith;
      flag = all.flag ∙ (ap (λ z. z || is_said b) one.flag ∙ (either_first s.has_said (is_said a) (is_said b)
          ∙ ap (λ z. s.has_said || z) (sym (said-append a b) ∙ ap is_said (sym is))));
    }

said_of_lines-append : (d : Desk) (n : ℕ) (xs ys : List (List ℕ))
    → said_of_lines d n (xs ++ ys) ≡ said_of_lines d n xs ++ said_of_lines (lines_desk d xs) (n + length xs) ys
said_of_lines-append d n [] ys = ap (λ k. said_of_lines d k ys) (omega arith)
said_of_lines-append d n (x ∷ xs) ys =
    let same : (n + 1) + length xs ≡ n + length (x ∷ xs) = omega arith in
    ap (λ z. said_of_line d (n + 1) x ++ z) (said_of_lines-append (line_desk d x) (n + 1) xs ys
    ∙ ap (λ k. said_of_lines (line_desk d x) (n + 1) xs ++ said_of_lines (lines_desk (line_desk d x) xs) k ys) same)
    ∙ sym (append_assoc (said_of_line d (n + 1) x) (said_of_lines (line_desk d x) (n + 1) xs)
    (said_of_lines (lines_desk (line_desk d x) xs) (n + length (x ∷ xs)) ys))

-- the whole script was explained
record ScriptSaid {D : Type 0} (d : Desk) (bytes : List ℕ) (t : Explainer D) (text : List ℕ) : Type 0 where
  said : text ≡ said_of_script d bytes
  flag : t.has_said ≡ is_said text

module _ {D : Type 0} {spells : D → Desk → Type 0} {s : Explainer D} (d : Desk) (h : spells s.desktop d) (none : s.lines ≡ 0)
    (well : s.has_said ≡ false) where
  -- the lines of a front
  lines_said : {t : Explainer D} {text : List ℕ} (lines : List (List ℕ)) → AllSaid spells d s lines t text → text ≡ said_of_lines d 0 lines
  lines_said lines all = all.said ∙ ap (λ n. said_of_lines d n lines) none

  script_said : {t : Explainer D} {text : List ℕ} (bytes : List ℕ) → TookScript (SaidOfLine spells) SaidOfRest s bytes t text
      → ScriptSaid d bytes t text
  script_said bytes w =
      let all = all_said (kept_lines bytes) d h w.taken in
      let counted : w.taker.lines ≡ length (kept_lines bytes) = all.counted ∙ ap (λ n. n + length (kept_lines bytes)) none ∙ omega arith in
      record {
        said = w.whole ∙ ap₂ (λ x y. x ++ y) (lines_said (kept_lines bytes) all)
            (w.ended.said ∙ ap (λ n. said_of_rest (n + 1) (kept_rest bytes)) counted);
        flag = w.ended.flag ∙ (ap (λ z. z || is_said w.rest) (all.flag ∙ ap (λ z. z || is_said w.front) well)
            ∙ (sym (said-append w.front w.rest) ∙ ap is_said (sym w.whole)));
      }

  -- ---- how it ends

  -- the reader came to its end
  pub explained : {t : Explainer D} {before after : Input} {old new : Output} (status : Status)
      → FedAll (SaidOfLine spells) SaidOfRest before after s t old new → status ≡ status_of t.has_said → Explained d before after old new status
  explained {old = old} {new = new} status fed is =
      let all = script_said fed.bytes fed.taken in
      record {
        bytes = fed.bytes;
        read = fed.read;
        at_end = fed.at_end;
        well = fed.well;
        written = subst (λ (z : List ℕ). Takes old new z) all.said fed.written;
        status_is = is ∙ ap status_of (all.flag ∙ ap is_said all.said);
      }

  -- a read failed, or there were too many
  pub so_far : {t : Explainer D} {before after : Input} {old new : Output} → Fed (SaidOfLine spells) before after s t old new
      → ExplainedSoFar d before after old new
  so_far {old = old} {new = new} fed = record {
    bytes = fed.bytes;
    read = fed.read;
    written = subst (λ (z : List ℕ). Takes old new z) (lines_said (kept_lines fed.bytes) (all_said (kept_lines fed.bytes) d h fed.taken)) fed.written;
  }

  -- the text of some lines is a front of the script's
  front_broke : {old new : Output} {text : List ℕ} (bytes rest script : List ℕ) → TookFront (SaidOfLine spells) s bytes text → Breaks old new text
      → script ≡ bytes ++ rest → Breaks old new (said_of_script d script)
  front_broke {old} {new} bytes rest script w broken e =
      let more = w.behind ++ ended (unended bytes ++ rest) in
      let lines : ended script ≡ w.front ++ more =
      ap ended e ∙ (ended-append bytes rest ∙ (ap (λ z. z ++ ended (unended bytes ++ rest)) w.whole
      ∙ append_assoc w.front w.behind (ended (unended bytes ++ rest)))) in
      let both : kept_lines script ≡ map kept w.front ++ map kept more = ap (map kept) lines ∙ map-append kept w.front more in
      let later = said_of_lines (lines_desk d (map kept w.front)) (0 + length (map kept w.front)) (map kept more) in
      let behind = said_of_rest (length (kept_lines script) + 1) (kept_rest script) in
      let here = subst (λ (z : List ℕ). Breaks old new z) (lines_said (map kept w.front) (all_said (map kept w.front) d h w.taken)) broken in
      subst (λ (z : List ℕ). Breaks old new (z ++ behind))
      (sym (ap (said_of_lines d 0) both ∙ said_of_lines-append d 0 (map kept w.front) (map kept more)))
      (breaks_before behind (breaks_before later here))

  broke_left : (before after : Option (List ℕ)) {old new : Output} {text : List ℕ} (bytes : List ℕ) → Consumes before after bytes
      → TookFront (SaidOfLine spells) s bytes text
      ⊎ (IsAtEnd after × (t : Explainer D) × TookScript (SaidOfLine spells) SaidOfRest s bytes t text)
      → Breaks old new text → IfSome before (λ script. Breaks old new (said_of_script d script))
  broke_left None after bytes c w broken = tt
  broke_left (Some a) None bytes c w broken = absurd c
  broke_left (Some a) (Some b) bytes c (inl w) broken = front_broke bytes b a w broken c
  broke_left (Some a) (Some b) {old} {new} bytes c (inr (e, t, w)) broken =
      let all : bytes ≡ a = sym (append-nil bytes) ∙ (ap (λ z. bytes ++ z) (sym e) ∙ sym c) in
      subst (λ (z : List ℕ). Breaks old new (said_of_script d z)) all
      (subst (λ (z : List ℕ). Breaks old new z) (script_said bytes w).said broken)

  -- the writer failed
  pub broke : {before after : Input} {old new : Output} → FedUntil (SaidOfLine spells) SaidOfRest before after s old new → ExplainedUntil d before old new
  broke {before = before} {after = after} fed =
      record { failed = fed.broken.failed; written = broke_left before.left after.left fed.bytes fed.read fed.taken fed.broken }
