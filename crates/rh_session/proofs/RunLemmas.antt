-- A run of a script, from the lines that were taken.
use Rattle.std.proofs.Common.{◌≡◌, ℕ, ◌+◌, ◌≤◌, ◌<◌, Bool, true, false, ◌||◌, not, ◌==◌, List, [], ◌∷◌, ◌++◌, length, map, take, Option, Some, None, IfErr}
use Rattle.std.proofs.Common.{IfSome, IsErrOf, Result, Ok, Err, append_assoc, ◌⊎◌, inl, inr, refl, sym, ◌∙◌, ap, ap₂, append-nil, subst, arith, rules}
use Rattle.std.specs.Io.KnownBytes.{Consumes, IsAtEnd}
use Rattle.std.specs.List.{list_any}
use Rattle.std.specs.Result.{is_err}
use Rattle.std.proofs.lemmas.List.{take_all}
use borrow.Author.Tests.{tests}
use Rattle.rh_defs.specs.declared.command.Command.{Command}
use Rattle.rh_defs.specs.Line.{Meaning, line_means, longest_line}
use Rattle.rh_defs.specs.Desk.{Desk, Task}
use Rattle.rh_defs.specs.Script.{ended, has_bad_line, is_bad, line_desk, lines_desk, lines_text, meaning_desk, meaning_text, rest_text, script_text}
use Rattle.rh_defs.specs.Script.{unended}
use Rattle.rh_defs.specs.Text.{fault_text, first_line, handed_text, taken_of, with_taken}
use Rattle.rh_defs.specs.declared.command.Command.TheVariants as command
use Rattle.rh_defs.specs.declared.question.Question.{Question}
use Rattle.rh_defs.specs.declared.reply.Reply.{Reply}
use Rattle.rh_defs.specs.Commands.{step}
use Rattle.rh_defs.specs.Messages.{Parcel}
use Rattle.rh_defs.specs.Questions.{Nothing}
use Rattle.rh_defs.specs.Post.{post_poll}
use Rattle.rh_defs.specs.RawTasks.{handed_parts, is_raw_task, next_taken}
use Rattle.std.specs.Prelude.{if◌then◌else◌}
use Rattle.rh_defs.proofs.QuestionLaws.{one-line}
use Rattle.std.specs.Option.{option_map}
use Rattle.rh_defs.specs.declared.fault.LineFault.TheVariants.{TooLong}
use Rattle.rh_lines.specs.Flow.{Input, Output, Breaks, Takes}
use Rattle.rh_lines.proofs.FlowLemmas.{breaks_before}
use Rattle.rh_session.specs.declared.fault.FeedFault.{FeedFault}
use Rattle.rh_session.specs.declared.fault.FeedFault.TheVariants as feed
use Rattle.rh_session.specs.Lines.{kept}
use Rattle.rh_session.specs.Taken.{Fed, FedAll, FedUntil, TookAll, TookFront, TookScript}
use Rattle.rh_session.proofs.LineLemmas.{ended-append, is_above, kept_means, split_at, still_long}
use Rattle.rh_session.specs.Answers.{AnsweredLine, AnsweredMeaning, AnsweredRest}
use Rattle.rh_session.specs.Outcome.{Answered, BrokeOff, Finished, run_fault_of, status_of}
use Rattle.rh_session.specs.declared.session.Session.{Session}
use Rattle.rh_session.specs.declared.status.RunFault.{RunFault}
use Rattle.rh_session.specs.declared.status.RunFault.TheVariants as run
use Rattle.rh_session.specs.declared.status.Status.{Status}

-- what holds anyway holds where a result is an error
pub if_err : {A E : Type 0} {P : E → Type 0} (r : Result A E) → ((e : E) → P e) → IfErr r P
if_err (Ok x) h = tt
if_err (Err e) h = h e

pub or_false : (b : Bool) → (b || false) ≡ b
or_false true = refl
or_false false = refl

pub or_true : (b : Bool) → (b || true) ≡ true
or_true true = refl
or_true false = refl

either_first : (a b c : Bool) → ((a || b) || c) ≡ (a || (b || c))
either_first true b c = refl
either_first false b c = refl

-- a session spells what its desktop did
pub started : {D : Type 0} (spells : D → Desk → Type 0) (d : Desk) {a b : D} → a ≡ b → spells b d → spells a d
started spells d is h = subst (λ z. spells z d) (sym is) h

-- ---- what is kept of the rest of a script

long_text : (xs : List ℕ) → longest_line < length xs → rest_text xs ≡ fault_text TooLong
long_text [] h = absurd (omega arith)
long_text (x ∷ xs) h = rw (is_above longest_line (length (x ∷ xs)) h) refl

rest_kept_at : (rest : List ℕ) → (length rest ≤ longest_line) ⊎ (longest_line < length rest) → rest_text (kept rest) ≡ rest_text rest
unfolding kept
rest_kept_at rest (inl h) = ap rest_text (take_all (longest_line + 1) rest (omega arith))
rest_kept_at rest (inr h) = long_text (take (longest_line + 1) rest) (still_long longest_line (longest_line + 1) rest (omega arith) h) ∙ sym (long_text rest h)

pub rest_kept : (rest : List ℕ) → rest_text (kept rest) ≡ rest_text rest
rest_kept rest = rest_kept_at rest (split_at (length rest))

not_none : (n : ℕ) → 0 < n → (n == 0) ≡ false
not_none n h = search (rules, tests)

nothing_kept_at : (rest : List ℕ) → (length rest ≤ longest_line) ⊎ (longest_line < length rest) → (length (kept rest) == 0) ≡ (length rest == 0)
unfolding kept
nothing_kept_at rest (inl h) = ap (λ z. length z == 0) (take_all (longest_line + 1) rest (omega arith))
nothing_kept_at rest (inr h) =
    not_none (length (take (longest_line + 1) rest)) (omega (arith, still_long longest_line (longest_line + 1) rest (omega arith) h))
    ∙ sym (not_none (length rest) (omega arith))

pub nothing_kept : (rest : List ℕ) → (length (kept rest) == 0) ≡ (length rest == 0)
nothing_kept rest = nothing_kept_at rest (split_at (length rest))

-- no rest
pub rest_none : (rest : List ℕ) → true ≡ (length rest == 0) → rest_text rest ≡ []
rest_none [] h = refl
rest_none (x ∷ xs) h = absurd (let no : true ≡ false = h ∙ not_none (length (x ∷ xs)) (omega arith) in cc)

-- ---- the message that is handed out

with_handed : (text : List ℕ) (o : Option Parcel) → text ++ handed_text (option_map handed_parts o) ≡ with_taken text o
with_handed text None = append-nil text
with_handed text (Some p) = refl

-- the text of a command that is no question
pub command_text : (d : Desk) (c : Command) (r : Reply) (handed : Option (ℕ × List ℕ)) → ((q : Question) → c ≡ command.Ask q → ⊥) → r ≡ (step d c).1
    → handed ≡ option_map handed_parts (taken_of d c) → first_line r Nothing ++ handed_text handed ≡ meaning_text d (Ok (Some c))
command_text d c r handed other is taken =
    ap₂ (λ x y. first_line x Nothing ++ handed_text y) is taken ∙ with_handed (first_line (step d c).1 Nothing) (taken_of d c)
    ∙ ap (λ t. with_taken t (taken_of d c)) (sym (one-line (step d c).0 c (step d c).1 other))

-- that of one which hands out nothing
pub quiet_text : (d : Desk) (c : Command) (r : Reply) → ((q : Question) → c ≡ command.Ask q → ⊥) → r ≡ (step d c).1 → taken_of d c ≡ None
    → first_line r Nothing ≡ meaning_text d (Ok (Some c))
quiet_text d c r other is quiet =
    sym (append-nil (first_line r Nothing)) ∙ command_text d c r None other is (sym (ap (option_map handed_parts) quiet))

-- a poll is no question
pub poll_asks : {c : Command} {name : List ℕ} → c ≡ command.Poll name → (q : Question) → c ≡ command.Ask q → ⊥
poll_asks is q e = let bad : command.Poll _ ≡ command.Ask q = sym is ∙ e in cc

-- a poll of a task that the desk plays hands out nothing
pub quiet_poll : (d : Desk) (o : Option Task) → false ≡ is_raw_task o → next_taken d o ≡ None
quiet_poll d None e = refl
quiet_poll d (Some t) e = ap (λ b. if b then (post_poll t.handle d.post).1 else None) (sym e)

-- nor does any other command
pub no_poll : (d : Desk) (c : Command) → ((name : List ℕ) → c ≡ command.Poll name → ⊥) → taken_of d c ≡ None
no_poll d (command.Poll name) other = absurd (other name refl)
no_poll d c other = refl

-- ---- one line

-- what was answered by what a line means was answered to what is kept of it
pub line_answered : {D : Type 0} {spells : D → Desk → Type 0} {s t : Session D} {text : List ℕ} (line : List ℕ) (meaning : Meaning (Option Command))
    → meaning ≡ line_means line → AnsweredMeaning spells s meaning t text → AnsweredLine spells s (kept line) t text
line_answered {spells = spells} {s = s} {t = t} {text = text} line meaning means answered =
    subst (λ (z : Meaning (Option Command)). AnsweredMeaning spells s z t text) (means ∙ sym (kept_means line)) answered

-- a session answers as any other over the same desktop that has met the same lines
pub answered_by : {D : Type 0} {spells : D → Desk → Type 0} {r s t : Session D} {meaning : Meaning (Option Command)} {text : List ℕ}
    → r.desktop ≡ s.desktop → r.has_bad_line ≡ s.has_bad_line → AnsweredMeaning spells r meaning t text → AnsweredMeaning spells s meaning t text
answered_by {spells = spells} {meaning = meaning} desktop bad answered = record {
  desk = λ d h. answered.desk d (started spells d desktop h);
  answer = λ d h. answered.answer d (started spells d desktop h);
  bad = answered.bad ∙ ap (λ z. z || is_err meaning) bad;
}

-- ---- lines one after the other

-- a session that has answered these lines from a desk on
record AllAnswered {D : Type 0} (spells : D → Desk → Type 0) (d : Desk) (s : Session D) (lines : List (List ℕ)) (t : Session D) (text : List ℕ) : Type 0 where
  desk : spells t.desktop (lines_desk d lines)
  answers : text ≡ lines_text d lines
  bad : t.has_bad_line ≡ (s.has_bad_line || list_any is_bad lines)

all_answered : {D : Type 0} {spells : D → Desk → Type 0} {s t : Session D} {text : List ℕ} (lines : List (List ℕ)) (d : Desk) → spells s.desktop d
    → TookAll (AnsweredLine spells) s (map kept lines) t text → AllAnswered spells d s lines t text
all_answered {D} {spells} {s} {t} {text} [] d h (same, none) = record {
  desk = subst (λ (z : Session D). spells z.desktop d) same h;
  answers = none;
  bad = ap (λ (z : Session D). z.has_bad_line) (sym same) ∙ sym (or_false s.has_bad_line);
}
all_answered {D} {spells} {s} {t} {text} (l ∷ ls) d h (u, a, b, one, rest, is) =
    let means = kept_means l in
    let next : spells u.desktop (line_desk d l) = subst (λ m. spells u.desktop (meaning_desk d m)) means (one.desk d h) in
    let all = all_answered ls (line_desk d l) next rest in
    record {
      desk = all.desk;
      answers = is ∙ ap₂ (λ x y. x ++ y) (one.answer d h ∙ ap (meaning_text d) means) all.answers;
      bad = all.bad ∙ (ap (λ z. z || list_any is_bad ls) (one.bad ∙ ap (λ m. s.has_bad_line || is_err m) means)
          ∙ either_first s.has_bad_line (is_bad l) (list_any is_bad ls));
    }

lines_text-append : (d : Desk) (xs ys : List (List ℕ)) → lines_text d (xs ++ ys) ≡ lines_text d xs ++ lines_text (lines_desk d xs) ys
lines_text-append d [] ys = refl
lines_text-append d (x ∷ xs) ys =
    ap (λ z. meaning_text d (line_means x) ++ z) (lines_text-append (line_desk d x) xs ys)
    ∙ sym (append_assoc (meaning_text d (line_means x)) (lines_text (line_desk d x) xs) (lines_text (lines_desk (line_desk d x) xs) ys))

-- the whole script was answered
record ScriptAnswered {D : Type 0} (d : Desk) (bytes : List ℕ) (t : Session D) (text : List ℕ) : Type 0 where
  answers : text ≡ script_text d bytes
  bad : t.has_bad_line ≡ has_bad_line bytes

module _ {D : Type 0} {spells : D → Desk → Type 0} {s : Session D} (d : Desk) (h : spells s.desktop d) (well : s.has_bad_line ≡ false) where
  script_answered : {t : Session D} {text : List ℕ} (bytes : List ℕ) → TookScript (AnsweredLine spells) AnsweredRest s bytes t text
      → ScriptAnswered d bytes t text
  script_answered bytes w =
      let all = all_answered (ended bytes) d h w.taken in
      record {
        answers = w.whole ∙ ap₂ (λ x y. x ++ y) all.answers (w.ended.answer ∙ rest_kept (unended bytes));
        bad = w.ended.bad ∙ ap₂ (λ x y. x || not y) (all.bad ∙ ap (λ z. z || list_any is_bad (ended bytes)) well) (nothing_kept (unended bytes));
      }

  -- ---- how a run ends

  -- the reader came to its end
  pub finished : {t : Session D} {before after : Input} {old new : Output} (status : Status)
      → FedAll (AnsweredLine spells) AnsweredRest before after s t old new → status ≡ status_of t.has_bad_line → Finished d before after old new status
  finished {old = old} {new = new} status fed is =
      let all = script_answered fed.bytes fed.taken in
      record {
        bytes = fed.bytes;
        read = fed.read;
        at_end = fed.at_end;
        well = fed.well;
        written = subst (λ (z : List ℕ). Takes old new z) all.answers fed.written;
        status_is = is ∙ ap status_of all.bad;
      }

  -- a read failed, or there were too many
  pub answered : {t : Session D} {before after : Input} {old new : Output} → Fed (AnsweredLine spells) before after s t old new
      → Answered d before after old new
  answered {old = old} {new = new} fed = record {
    bytes = fed.bytes;
    read = fed.read;
    written = subst (λ (z : List ℕ). Takes old new z) (all_answered (ended fed.bytes) d h fed.taken).answers fed.written;
  }

  -- the text of some lines is a front of the script's
  front_broke : {old new : Output} {text : List ℕ} (bytes rest script : List ℕ) → TookFront (AnsweredLine spells) s bytes text → Breaks old new text
      → script ≡ bytes ++ rest → Breaks old new (script_text d script)
  front_broke {old} {new} bytes rest script w broken e =
      let more = w.behind ++ ended (unended bytes ++ rest) in
      let lines : ended script ≡ w.front ++ more =
      ap ended e ∙ (ended-append bytes rest ∙ (ap (λ z. z ++ ended (unended bytes ++ rest)) w.whole
      ∙ append_assoc w.front w.behind (ended (unended bytes ++ rest)))) in
      let later = lines_text (lines_desk d w.front) more in
      let here = subst (λ (z : List ℕ). Breaks old new z) (all_answered w.front d h w.taken).answers broken in
      subst (λ (z : List ℕ). Breaks old new (z ++ rest_text (unended script))) (sym (ap (lines_text d) lines ∙ lines_text-append d w.front more))
      (breaks_before (rest_text (unended script)) (breaks_before later here))

  broke_left : (before after : Option (List ℕ)) {old new : Output} {text : List ℕ} (bytes : List ℕ) → Consumes before after bytes
      → TookFront (AnsweredLine spells) s bytes text
      ⊎ (IsAtEnd after × (t : Session D) × TookScript (AnsweredLine spells) AnsweredRest s bytes t text)
      → Breaks old new text → IfSome before (λ script. Breaks old new (script_text d script))
  broke_left None after bytes c w broken = tt
  broke_left (Some a) None bytes c w broken = absurd c
  broke_left (Some a) (Some b) bytes c (inl w) broken = front_broke bytes b a w broken c
  broke_left (Some a) (Some b) {old} {new} bytes c (inr (e, t, w)) broken =
      let all : bytes ≡ a = sym (append-nil bytes) ∙ (ap (λ z. bytes ++ z) (sym e) ∙ sym c) in
      subst (λ (z : List ℕ). Breaks old new (script_text d z)) all
      (subst (λ (z : List ℕ). Breaks old new z) (script_answered bytes w).answers broken)

  -- the writer failed
  pub broke : {before after : Input} {old new : Output} → FedUntil (AnsweredLine spells) AnsweredRest before after s old new → BrokeOff d before old new
  broke {before = before} {after = after} fed =
      record { failed = fed.broken.failed; written = broke_left before.left after.left fed.bytes fed.read fed.taken fed.broken }

-- ---- why a run ended early

-- the fault of the lines, by that of the run
feeding_of : RunFault → FeedFault
feeding_of run.NoMemory = feed.TooLong
feeding_of run.ReadFailed = feed.ReadFailed
feeding_of run.WriteFailed = feed.WriteFailed
feeding_of run.TooLong = feed.TooLong

there_and_back : (f : FeedFault) → feeding_of (run_fault_of f) ≡ f
unfolding feeding_of
there_and_back feed.ReadFailed = refl
there_and_back feed.WriteFailed = refl
there_and_back feed.TooLong = refl

-- no two faults of the lines give one fault of a run
pub same_fault : {A B : Type 0} {r : RunFault} {f : FeedFault} (g : FeedFault) → r ≡ run_fault_of f → IsErrOf {T = A} (Err r) (run_fault_of g)
    → IsErrOf {T = B} (Err f) g
same_fault {r = r} {f = f} g is e =
    let same : run_fault_of f ≡ run_fault_of g = cc in
    ap Err (sym (there_and_back f) ∙ (ap feeding_of same ∙ there_and_back g))
