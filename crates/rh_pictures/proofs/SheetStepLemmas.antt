-- A sheet behind one line: what was offered, and where it stands.
use Rattle.rh_pictures.proofs.Common.{◌≡◌, ℕ, ◌+◌, Bool, true, false, ◌||◌, List, ◌++◌, refl, sym, ap, ap₂, ◌∙◌, subst, append-nil, Option, Some, None, Ok, Err}
use Rattle.rh_pictures.proofs.Common.{◌&&◌, if◌then◌else◌, is_err, not, nat_lt, Command, LineFault, Desk, Meaning, IsReordered, step, fault_text, reply_to}
use Rattle.rh_pictures.proofs.Common.{Share, IsShared, Text, where_so, Before, marks_of, scene_of, Read, after_read, offered_as, noted, Note, at_desk, Happened}
use Rattle.rh_pictures.proofs.Common.{behind_read, fault_happened, happened_text, read_text, step_text, Painter, PaintStand, happened_at, walk_in}
use Rattle.rh_defs.specs.declared.reply.Reply.{Reply}
use Rattle.rh_defs.specs.declared.reply.Reply.TheVariants.{Done}
use Rattle.rh_pictures.specs.SheetForms.{looks_of}
use Rattle.rh_pictures.specs.Deeds.{IsLikeReply}
use Rattle.rh_pictures.proofs.ScriptLemmas.{or-off, or-on, reordered-as, shared-alike}
use Rattle.rh_figure.specs.Scene.{before_of}
use Rattle.rh_figure.specs.Map.{is_mark, place}
use Rattle.rh_figure.proofs.Alike.{marks-alike, scene-alike}
use Rattle.rh_sheet.specs.Sheet.{behind_happened, behind_step, command_on, is_shown, is_shown_remark, opening, shown_step}
use Rattle.rh_sheet.specs.SheetSteps.{remark_text}
use Rattle.rh_sheet.specs.declared.sizes.TheConstants.{MOST_STEPS}
use Rattle.rh_pictures.specs.PaintedProgress.{stand_shown}
use Rattle.rh_pictures.specs.Inner.PaintedSteps.{stand_behind}
use Rattle.rh_pictures.specs.PaintedWalks.{FollowsPainting, walk_at}
use Rattle.rh_pictures.specs.Inner.PaintedSteps.{ComesTo, DrewLine, TookStep, WroteStep, scene_behind, step_written}

-- ---- tests

and-off : (b : Bool) → false ≡ (b && false)
and-off true = refl
and-off false = refl

and-on : (b : Bool) → b ≡ (b && true)
and-on true = refl
and-on false = refl

either-way : (b : Bool) (m n : ℕ) → (if b then m else n) ≡ (if not b then n else m)
either-way true m n = refl
either-way false m n = refl

-- ---- where a sheet stands behind a step

module _ (d e : Desk) (p : PaintStand) (notes : List Note) (h : Happened) where
  as-shown : (r : Read) → (after_read (place d p.lines p.wanted) r).lines ≡ p.lines + 1 → (after_read (place d p.lines p.wanted) r).wanted ≡ false
      → walk_at e (stand_behind true h.still p) (noted (p.lines + 1) h.scene notes) ≡ at_desk e (behind_step true (walk_at d p notes) r h)
  as-shown r lines wanted =
      ap₂ (λ last opened. record (walk_at e (stand_behind true h.still p) (noted (p.lines + 1) h.scene notes)) { last = last; opened = opened })
      (either-way (h.still && not p.wanted) p.last (p.shown + 1)) (and-off p.opened)
      ∙ ap₂ (λ n w. at_desk e (record (behind_step true (walk_at d p notes) r h) { place = place e n w })) (sym lines) (sym wanted)

  as-left : (r : Read) → (after_read (place d p.lines p.wanted) r).lines ≡ p.lines + 1 → (after_read (place d p.lines p.wanted) r).wanted ≡ false
      → walk_at e (stand_behind false h.still p) (noted (p.lines + 1) h.scene notes) ≡ at_desk e (behind_step false (walk_at d p notes) r h)
  as-left r lines wanted =
      ap (λ opened. record (walk_at e (stand_behind false h.still p) (noted (p.lines + 1) h.scene notes)) { opened = opened }) (and-on p.opened)
      ∙ ap₂ (λ n w. at_desk e (record (behind_step false (walk_at d p notes) r h) { place = place e n w })) (sym lines) (sym wanted)

  behind-stand : (shown : Bool) (r : Read) → (after_read (place d p.lines p.wanted) r).lines ≡ p.lines + 1
      → (after_read (place d p.lines p.wanted) r).wanted ≡ false
      → walk_at e (stand_behind shown h.still p) (noted (p.lines + 1) h.scene notes) ≡ at_desk e (behind_step shown (walk_at d p notes) r h)
  behind-stand true r lines wanted = as-shown r lines wanted
  behind-stand false r lines wanted = as-left r lines wanted

-- ---- what a step has done

-- all but what a step is drawn with is the same; the desk may be another
pub record IsRest {D : Type 0} (m n : Painter D) : Type 0 where
  pub marked : n.marked ≡ m.marked
  pub progress : n.progress ≡ m.progress
  pub notes : n.notes.items ≡ m.notes.items

module _ {D : Type 0} (desk : D → Desk) (m b n : Painter D) (o p : List ℕ) (line : Text) (rest : IsRest m b) where
  walk-moved : walk_in desk b ≡ at_desk (desk b.drawn) (walk_in desk m)
  walk-moved = ap₂ (λ q notes. walk_at (desk b.drawn) q notes) rest.progress rest.notes

  text-moved : (h k : Happened) → h ≡ k → happened_text b.marked (walk_in desk b) line h ≡ happened_text m.marked (walk_in desk m) line k
  text-moved h k same =
      ap₂ (λ marked x. happened_text marked x line h) rest.marked walk-moved ∙ ap (happened_text m.marked (walk_in desk m) line) same

  -- it is what a line with a step does
  module _ (meaning : Meaning (Option Command)) (happened now : Share → Happened) (same : (s : Share) → happened s ≡ now s)
      (lines : (after_read (walk_in desk m).place (line, meaning)).lines ≡ m.progress.lines + 1)
      (wanted : (after_read (walk_in desk m).place (line, meaning)).wanted ≡ false)
      (desk-is : IsReordered (after_read (walk_in desk m).place (line, meaning)).desk (desk b.drawn))
      (bad : b.has_bad_line ≡ (m.has_bad_line || is_err meaning))
      (text-is : (s : Share) → read_text m.marked s (walk_in desk m) (line, meaning) ≡ happened_text m.marked (walk_in desk m) line (now s))
      (walk-is : (s : Share) → behind_read m.marked s (walk_in desk m) (line, meaning) ≡ behind_happened m.marked (walk_in desk m) (line, meaning) (now s))
      (took : TookStep desk b o p line happened n) where
    follows : ComesTo b (stand_behind (is_shown b.marked (walk_in desk b) b.progress.wanted) (happened took.share).still b.progress)
        (noted (b.progress.lines + 1) (happened took.share).scene b.notes.items) n
        → FollowsPainting desk m took.share (line, meaning) n
    follows comes =
        let P : D → Type 0 = λ z. IsReordered (after_read (walk_in desk m).place (line, meaning)).desk (desk z) in
        record {
          desk_is = subst P (sym comes.drawn_is) desk-is;
          walk_is =
              ap₂ (λ q notes. walk_at (desk n.drawn) q notes) comes.progress_is comes.notes_are
              ∙ (ap₂ (λ marked (w : PaintStand × List Note). walk_at (desk n.drawn)
              (stand_behind (nat_lt w.0.shown MOST_STEPS && (not marked || w.0.wanted)) (happened took.share).still w.0)
              (noted (w.0.lines + 1) (happened took.share).scene w.1)) rest.marked (ap₂ (λ q notes. (q, notes)) rest.progress rest.notes)
              ∙ (behind-stand (desk m.drawn) (desk n.drawn) m.progress m.notes.items (happened took.share)
              (is_shown m.marked (walk_in desk m) m.progress.wanted) (line, meaning) lines wanted
              ∙ ap (at_desk (desk n.drawn)) (ap (behind_happened m.marked (walk_in desk m) (line, meaning)) (same took.share) ∙ sym (walk-is took.share))));
          marked_is = comes.marked_is ∙ rest.marked;
          bad = comes.bad ∙ bad;
        }

    shared : IsShared took.share (after_read (walk_in desk m).place (line, meaning)).desk
    shared = shared-alike took.share desk-is took.shared

    whole : happened_text b.marked (walk_in desk b) line (happened took.share) ≡ read_text m.marked took.share (walk_in desk m) (line, meaning)
    whole = text-moved (happened took.share) (now took.share) (same took.share) ∙ sym (text-is took.share)

    pub took-line : DrewLine desk m o line meaning n p
    took-line = record { share = took.share; shared = shared; offered = offered_as o whole took.offered; follows = follows took.comes }

  -- what a command did, by a desk and a reply that show what those of the command do
  module _ (c : Command) (reply : Reply) (kept : Before) (moved : IsReordered (step (desk m.drawn) c).0 (desk b.drawn)) (like : IsLikeReply
      (desk m.drawn) c reply)
      (kept-is : kept ≡ before_of (desk m.drawn) (Some c)) where
    same-command : (s : Share) → happened_at (desk b.drawn) s kept (Some c) reply (reply_to (desk m.drawn) c)
        ≡ command_on s c (desk m.drawn)
    same-command s =
        let f = before_of (desk m.drawn) (Some c) in
        let said = (step (desk m.drawn) c).1 in
        ap₂ (λ still scene. record { scene = scene; reply = reply_to (desk m.drawn) c; still = still }) like.still
        (ap (λ z. scene_behind (desk b.drawn) s z (Some c) reply) kept-is
        ∙ (ap (scene_of (desk b.drawn) s f) (like.marks (desk b.drawn) f ∙ marks-alike moved f (Some c) said)
        ∙ scene-alike moved s f (marks_of (step (desk m.drawn) c).0 f (Some c) said)))

    pub took-command : b.has_bad_line ≡ m.has_bad_line
        → TookStep desk b o p line (λ s. happened_at (desk b.drawn) s kept (Some c) reply (reply_to (desk m.drawn) c)) n
        → DrewLine desk m o line (Ok (Some c)) n p
    took-command bad took = took-line (Ok (Some c)) _ _ same-command refl refl moved (bad ∙ or-off m.has_bad_line) (λ s. refl) (λ s. refl) took

  -- a bad line
  module _ (fault : LineFault) (kept : Before) (stays : b.drawn ≡ m.drawn) (kept-is : kept ≡ before_of (desk m.drawn) None) (bad : b.has_bad_line ≡ true) where
    same-fault : (s : Share) → happened_at (desk b.drawn) s kept None Done (fault_text fault) ≡ fault_happened s fault (desk m.drawn)
    same-fault s = ap₂ (λ z f. happened_at (desk z) s f None Done (fault_text fault)) stays kept-is

    pub took-fault : TookStep desk b o p line (λ s. happened_at (desk b.drawn) s kept None Done (fault_text fault)) n → DrewLine desk m o line (Err fault) n p
    took-fault took =
        took-line (Err fault) _ _ same-fault refl refl (reordered-as desk m.drawn b.drawn stays) (bad ∙ or-on m.has_bad_line) (λ s. refl) (λ s. refl) took

-- ---- a line that is skipped

module _ {D : Type 0} (desk : D → Desk) (m n : Painter D) (o : List ℕ) (line : Text) (drawn : n.drawn ≡ m.drawn) (marked : n.marked ≡ m.marked)
    (notes : n.notes.items ≡ m.notes.items) (bad : n.has_bad_line ≡ m.has_bad_line) where
  -- behind it
  skipped-behind : (opened : Bool)
      → n.progress ≡ record m.progress { lines = m.progress.lines + 1; wanted = m.progress.wanted || is_mark line; opened = opened }
      → opened ≡ (m.progress.opened || is_shown_remark m.marked (walk_in desk m) line) → (s : Share) → FollowsPainting desk m s (line, Ok None) n
  skipped-behind opened progress opened-is s = record {
    desk_is = reordered-as desk m.drawn n.drawn drawn;
    walk_is =
        ap₂ (λ q ns. walk_at (desk n.drawn) q ns) (progress ∙ ap (λ b. record m.progress {
          lines = m.progress.lines + 1;
          wanted = m.progress.wanted || is_mark line;
          opened = b;
        }) opened-is) notes;
    marked_is = marked;
    bad = bad ∙ or-off m.has_bad_line;
  }

  -- what is offered of it, where it is shown and where it isn't
  remark-text : (b : Bool) → is_shown_remark m.marked (walk_in desk m) line ≡ b
      → where_so b (opening (walk_in desk m) ++ remark_text line)
      ≡ where_so (is_shown_remark m.marked (walk_in desk m) line) (opening (walk_in desk m) ++ remark_text line)
  remark-text b test = ap (λ z. where_so z (opening (walk_in desk m) ++ remark_text line)) (sym test)

  pub skip-hidden : n.progress ≡ record m.progress { lines = m.progress.lines + 1; wanted = m.progress.wanted || is_mark line }
      → is_shown_remark m.marked (walk_in desk m) line ≡ false
      → (s : Share) → IsShared s (desk m.drawn) → DrewLine desk m o line (Ok None) n o
  skip-hidden progress test s shared = record {
    share = s;
    shared = shared;
    offered = offered_as o (remark-text false test) (sym (append-nil o));
    follows = skipped-behind m.progress.opened progress (or-off m.progress.opened ∙ ap (λ b. m.progress.opened || b) (sym test)) s;
  }

  pub skip-shown : {p : List ℕ}
      → n.progress ≡ record m.progress { lines = m.progress.lines + 1; wanted = m.progress.wanted || is_mark line; opened = true }
      → is_shown_remark m.marked (walk_in desk m) line ≡ true → (s : Share) → IsShared s (desk m.drawn)
      → p ≡ o ++ (opening (walk_in desk m) ++ remark_text line) → DrewLine desk m o line (Ok None) n p
  skip-shown progress test s shared offered = record {
    share = s;
    shared = shared;
    offered = offered_as o (remark-text true test) offered;
    follows = skipped-behind true progress (or-on m.progress.opened ∙ ap (λ b. m.progress.opened || b) (sym test)) s;
  }

-- ---- a step, offered or left out

-- the second painter has counted one line more than the first, and noted the messages behind it
pub record IsNoted {D : Type 0} (m b : Painter D) (happened : Share → Happened) : Type 0 where
  pub drawn : b.drawn ≡ m.drawn
  pub marked : b.marked ≡ m.marked
  pub bad : b.has_bad_line ≡ m.has_bad_line
  pub progress : b.progress ≡ record m.progress { lines = m.progress.lines + 1; wanted = false }
  pub notes : (s : Share) → b.notes.items ≡ noted (m.progress.lines + 1) (happened s).scene m.notes.items

module _ {D : Type 0} (desk : D → Desk) (m b n : Painter D) (o p : List ℕ) (line : Text) (happened : Share → Happened) (w : Bool)
    (wanted : w ≡ m.progress.wanted) (is : IsNoted m b happened) where
  written-moved : (s : Share) → step_written (walk_in desk b) line w (happened s) ≡ shown_step (walk_in desk m) line (happened s)
  written-moved s =
      ap₂ (λ q notes. step_written (walk_at (desk b.drawn) q notes) line w (happened s)) is.progress (is.notes s)
      ∙ ap (λ v. opening (walk_in desk m)
      ++ step_text (looks_of m.progress.lens) ((happened s).still && not v) (m.progress.lines + 1) line (happened s).reply (happened s).scene
      (noted (m.progress.lines + 1) (happened s).scene m.notes.items) m.progress.last) wanted

  pub took-shown : is_shown m.marked (walk_in desk m) m.progress.wanted ≡ true → WroteStep desk b o p line w happened n
      → TookStep desk m o p line happened n
  took-shown here wrote =
      let s = wrote.share in
      let h = happened s in
      let comes = wrote.next in
      let whole : step_written (walk_in desk b) line w h ≡ happened_text m.marked (walk_in desk m) line h =
      written-moved s ∙ sym (ap (λ z. where_so z (shown_step (walk_in desk m) line h)) here) in
      let S : D → Type 0 = λ z. IsShared s (desk z) in
      record {
        share = s;
        shared = subst S is.drawn wrote.shared;
        offered = offered_as o whole wrote.offered;
        comes = record {
          drawn_is = comes.drawn_is ∙ is.drawn;
          marked_is = comes.marked_is ∙ is.marked;
          progress_is = comes.progress_is ∙ (ap₂ (λ v q. stand_shown (h.still && not v) q) wanted is.progress
              ∙ sym (ap (λ z. stand_behind z h.still m.progress) here));
          notes_are = comes.notes_are ∙ is.notes s;
          bad = comes.bad ∙ is.bad;
        };
      }

-- a step that was offered of what is drawn was offered of what is equal to it
module _ {D : Type 0} (desk : D → Desk) (b n : Painter D) (o p : List ℕ) (line : Text) (w : Bool) (kept : Before)
    (c : Option Command) (reply : Reply) (text : Text) {drawn same : D} where
  pub wrote-over : drawn ≡ same → WroteStep desk b o p line w (λ s. happened_at (desk drawn) s kept c reply text) n
      → WroteStep desk b o p line w (λ s. happened_at (desk same) s kept c reply text) n
  wrote-over is wrote =
      let W : D → Type 0 = λ z. WroteStep desk b o p line w (λ s. happened_at (desk z) s kept c reply text) n in
      subst W is wrote

-- it is left out
module _ {D : Type 0} (desk : D → Desk) (m b n : Painter D) (o : List ℕ) (line : Text) (happened : Share → Happened) (is : IsNoted m b happened) where
  pub took-left : is_shown m.marked (walk_in desk m) m.progress.wanted ≡ false → (s : Share) → IsShared s (desk b.drawn)
      → n ≡ record b { progress = record b.progress { left = b.progress.left + 1 } } → TookStep desk m o o line happened n
  took-left here s shared n-is =
      let h = happened s in
      let S : D → Type 0 = λ z. IsShared s (desk z) in
      record {
        share = s;
        shared = subst S is.drawn shared;
        offered = offered_as o (sym (ap (λ z. where_so z (shown_step (walk_in desk m) line h)) here)) (sym (append-nil o));
        comes = record {
          drawn_is = ap (λ (z : Painter D). z.drawn) n-is ∙ is.drawn;
          marked_is = ap (λ (z : Painter D). z.marked) n-is ∙ is.marked;
          progress_is = ap (λ (z : Painter D). z.progress) n-is ∙ (ap (λ (q : PaintStand). record q { left = q.left + 1 }) is.progress
              ∙ sym (ap (λ z. stand_behind z h.still m.progress) here));
          notes_are = ap (λ (z : Painter D). z.notes.items) n-is ∙ is.notes s;
          bad = ap (λ (z : Painter D). z.has_bad_line) n-is ∙ is.bad;
        };
      }
