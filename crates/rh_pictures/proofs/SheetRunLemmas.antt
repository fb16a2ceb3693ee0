-- A whole sheet, from the lines that were taken.
use Rattle.rh_pictures.proofs.Common.{◌≡◌, ◌⊎◌, inl, inr, ℕ, Bool, true, false, List, [], ◌++◌, map, refl, sym, ap, ap₂, ◌∙◌, subst, append-nil, map-append}
use Rattle.rh_pictures.proofs.Common.{Err, Ok, Result, is_err, Desk, IsReordered, ended, kept, Text, read_line, Output, Takes, Breaks, Puts, takes_more}
use Rattle.rh_pictures.proofs.Common.{Painter, TookPaintedLine}
use Rattle.std.specs.Io.KnownBytes.{Consumes, IsAtEnd}
use Rattle.rh_session.specs.Taken.{Fed, FedAll, FedUntil, TookAll, TookFront, TookScript}
use Rattle.rh_figure.specs.Map.{read_ended, read_lines}
use Rattle.rh_lines.specs.Flow.{Input}
use Rattle.rh_lines.proofs.FlowLemmas.{takes_breaks}
use Rattle.rh_session.specs.Outcome.{status_of}
use Rattle.rh_session.specs.declared.status.Status.{Status}
use Rattle.rh_sheet.specs.Sheet.{sheet_end, sheet_head}
use Rattle.rh_pictures.specs.Inner.Heads.{head_of}
use Rattle.rh_pictures.specs.Painted as run
use Rattle.rh_pictures.specs.Painted.{IsBegun, IsSheet, IsSheetFront, PaintedSoFar, PaintedUntil}
use Rattle.rh_pictures.specs.PaintedWalks.{IsFirstPainted, TookPaintedRest, walk_at, walk_from}
use Rattle.rh_pictures.specs.SheetForms.{SheetForm}
use Rattle.rh_pictures.proofs.ScriptLemmas.{TakenScript, taken-lines, taken-script}
use Rattle.rh_pictures.proofs.SheetLemmas.{end-text, front-text, sheet-telling, took-end, took-one, was-bad}
use Rattle.rh_pictures.proofs.WalkLemmas.{Stands}

-- ---- before the first line

pub stands-first : {D : Type 0} {desk : D → Desk} {form : SheetForm} {drawn : D} {s : Painter D} (d : Desk) → IsReordered d (desk drawn)
    → IsFirstPainted s drawn form
    → Stands desk form.marked (walk_from form.lens d) s
stands-first {D} {desk} {form} {drawn} {s} d alike first =
    let P : D → Type 0 = λ z. IsReordered d (desk z) in
    record {
      desk_is = subst P (sym first.drawn_is) alike;
      walk_is = ap₂ (λ p notes. walk_at (desk s.drawn) p notes) first.progress_is first.notes_are;
      marked_is = first.marked_is;
    }

-- the same pool
pub same-pool : {D : Type 0} (desk : D → Desk) {form : SheetForm} {drawn : D} {s : Painter D} (d : Desk) → IsReordered d (desk drawn)
    → IsFirstPainted s drawn form
    → (desk s.drawn).pool ≡ d.pool
same-pool desk d alike first = ap (λ z. (desk z).pool) first.drawn_is ∙ ap (λ (z : Desk). z.pool) alike.rest

-- ---- the beginning of a sheet

-- it is offered as a whole
pub head-offered : (name : Text) (pages : ℕ) (old : List ℕ) {new : List ℕ} → new ≡ old ++ sheet_head name pages → new ≡ old ++ head_of name pages
unfolding head_of
head-offered name pages old e = e

-- it was written over as many pages as there are
pub head-put : {E : Type 0} {o p : Output} {n m : ℕ} (name : Text) → n ≡ m → (r : Result Unit E) → Puts o p r (head_of name n) → Puts o p r (sheet_head name m)
unfolding head_of
head-put {o = o} {p = p} name same r puts = subst (λ (k : ℕ). Puts o p r (sheet_head name k)) same puts

-- ---- the whole script was read

-- a whole script
script-taken : {D : Type 0} {desk : D → Desk} (form : SheetForm) {d : Desk} {s t : Painter D} {text : Text} → Stands desk form.marked (walk_from form.lens d) s
    → s.has_bad_line ≡ false → (bytes : List ℕ) → TookScript (TookPaintedLine desk) (TookPaintedRest desk) s bytes t text
    → TakenScript (sheet-telling form.marked) sheet_end was-bad (walk_from form.lens d) bytes t text
script-taken {D} {desk} form is well bytes =
    taken-script (sheet-telling form.marked) (Stands desk form.marked) was-bad (TookPaintedLine desk) (took-one desk form.marked)
    sheet_end (TookPaintedRest desk) (took-end desk form.marked) bytes is well

module _ {D : Type 0} {desk : D → Desk} {form : SheetForm} {d : Desk} {s : Painter D} (name : Text) (is : Stands desk form.marked (walk_from form.lens d) s)
    (well : s.has_bad_line ≡ false) where
  -- the sheet of some lines without its end
  front-of : (t : Painter D) (text : Text) (lines : List Text) → TookAll (TookPaintedLine desk) s (map kept lines) t text
      → IsSheetFront form name d (map read_line lines) (sheet_head name d.pool ++ text)
  front-of t text lines took =
      let all = taken-lines (sheet-telling form.marked) (Stands desk form.marked) was-bad (TookPaintedLine desk) (took-one desk form.marked) lines is took in
      record {
        stages = all.stages;
        lines = all.lines;
        shared = all.shared;
        is = ap (λ t. sheet_head name d.pool ++ t) (all.text_is ∙ front-text form.marked (walk_from form.lens d) all.stages);
      }

  -- a whole script, and its sheet
  script-painted : {t : Painter D} {text : Text} (bytes : List ℕ) → TookScript (TookPaintedLine desk) (TookPaintedRest desk) s bytes t text
      → IsSheet form name d (read_lines bytes) (sheet_head name d.pool ++ text)
  script-painted bytes took =
      let all = script-taken form is well bytes took in
      record {
        stages = all.stages;
        lines = all.lines;
        shared = all.shared;
        is = ap (λ t. sheet_head name d.pool ++ t) (all.text_is ∙ end-text form.marked (walk_from form.lens d) all.stages);
      }

  module _ {before after : Input} {old head new : Output} (begun : Takes old head (sheet_head name d.pool)) where
    pub painted : {t : Painter D} (status : Status) → FedAll (TookPaintedLine desk) (TookPaintedRest desk) before after s t head new
        → status ≡ status_of t.has_bad_line → run.Painted form name d before after old new status
    painted status fed told = record {
      bytes = fed.bytes;
      read = fed.read;
      at_end = fed.at_end;
      well = fed.well;
      text = sheet_head name d.pool ++ fed.text;
      sheet = script-painted fed.bytes fed.taken;
      written = takes_more begun fed.written;
      status_is = told ∙ ap status_of (script-taken form is well fed.bytes fed.taken).bad_is;
    }

    pub painted-so-far : {t : Painter D} → Fed (TookPaintedLine desk) before after s t head new → PaintedSoFar form name d before after old new
    painted-so-far fed = record {
      bytes = fed.bytes;
      read = fed.read;
      text = sheet_head name d.pool ++ fed.text;
      sheet = front-of _ fed.text (ended fed.bytes) fed.taken;
      written = takes_more begun fed.written;
    }

    -- the writer failed
    pub painted-until : FedUntil (TookPaintedLine desk) (TookPaintedRest desk) before after s head new → PaintedUntil form name d before after old new
    painted-until fed = record {
      bytes = fed.bytes;
      read = fed.read;
      text = sheet_head name d.pool ++ fed.text;
      begun = go fed.taken;
      broken = takes_breaks begun fed.broken;
    }
      where
        go : TookFront (TookPaintedLine desk) s fed.bytes fed.text
            ⊎ (IsAtEnd after.left × (t : Painter D) × TookScript (TookPaintedLine desk) (TookPaintedRest desk) s fed.bytes t fed.text)
            → IsBegun form name d fed.bytes after (sheet_head name d.pool ++ fed.text)
        go (inl w) = inl (
          map read_line w.front,
          map read_line w.behind,
          ap (map read_line) w.whole ∙ map-append read_line w.front w.behind,
          front-of w.taker fed.text w.front w.taken,
        )
        go (inr (at_end, t, w)) = inr (at_end, script-painted fed.bytes w)

-- it failed before the first line
pub painted-head : (form : SheetForm) (name : Text) (d : Desk) (before after : Input) (bytes : List ℕ) → Consumes before.left after.left bytes
    → {old new : Output} → Breaks old new (sheet_head name d.pool) → PaintedUntil form name d before after old new
painted-head form name d before after bytes read broken = record {
  bytes = bytes;
  read = read;
  text = sheet_head name d.pool;
  begun = inl ([], read_ended bytes, refl, record { stages = []; lines = refl; shared = tt; is = sym (append-nil (sheet_head name d.pool)) });
  broken = broken;
}

-- ---- the head

-- a painter that has written the head of its sheet, and taken no line
pub record Began {D : Type 0} (desk : D → Desk) (form : SheetForm) (d : Desk) (name : Text) (old head : Output) (s : Painter D) : Type 0 where
  pub stands : Stands desk form.marked (walk_from form.lens d) s
  pub well : s.has_bad_line ≡ false
  pub begun : Takes old head (sheet_head name d.pool)

module _ {D E : Type 0} (desk : D → Desk) {form : SheetForm} {drawn : D} (d : Desk) (alike : IsReordered d (desk drawn)) (name : Text) {old head : Output}
    (m s : Painter D) (first : IsFirstPainted m drawn form) where
  pub began : s ≡ record m { pages = s.pages } → (r : Result Unit E) → is_err r ≡ false → Puts old head r (sheet_head name (desk m.drawn).pool)
      → Began desk form d name old head s
  began is (Err e) well puts = absurd (cc)
  began is (Ok v) well puts =
      let T : ℕ → Type 0 = λ z. Takes old head (sheet_head name z) in
      let same : IsFirstPainted s drawn form = record {
        drawn_is = ap (λ (z : Painter D). z.drawn) is ∙ first.drawn_is;
        marked_is = ap (λ (z : Painter D). z.marked) is ∙ first.marked_is;
        progress_is = ap (λ (z : Painter D). z.progress) is ∙ first.progress_is;
        notes_are = ap (λ (z : Painter D). z.notes.items) is ∙ first.notes_are;
        well = ap (λ (z : Painter D). z.has_bad_line) is ∙ first.well;
      } in
      record { stands = stands-first d alike same; well = same.well; begun = subst T (same-pool desk d alike first) puts.ok }

  pub broke-off : (r : Result Unit E) → is_err r ≡ true → Puts old head r (sheet_head name (desk m.drawn).pool) → Breaks old head (sheet_head name d.pool)
  broke-off (Ok v) failed puts = absurd (cc)
  broke-off (Err e) failed puts = let B : ℕ → Type 0 = λ z. Breaks old head (sheet_head name z) in subst B (same-pool desk d alike first) puts.err
