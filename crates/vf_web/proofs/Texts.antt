-- What is known of the bytes lent for a text when what writes them has ended.
use Rattle.std.proofs.Common.{◌≡◌, ℕ, Bool, true, false, List, [], ◌++◌, Result, Ok, Err, IfErr, IsOk, refl, sym, ap, subst, ◌∙◌, append-nil, rules}
use Rattle.rh_defs.specs.Desk.{Desk}
use Rattle.rh_defs.specs.Script.{has_bad_line, script_text}
use Rattle.rh_pictures.specs.Mapped.{Mapped}
use Rattle.rh_figure.specs.Map.{Place, read_lines}
use Rattle.rh_figure.specs.Whole.{IsMap}
use Rattle.rh_lines.proofs.TextLemmas.{wrote}
use Rattle.rh_lines.specs.Flow.{Takes, unread}
use Rattle.rh_lines.specs.WholeText.{before_of, whole_bytes, output_of, whole_text}
use Rattle.rh_lines.specs.declared.whole_text.WholeText.{WholeText}
use Rattle.rh_pictures.specs.Painted.{IsSheet, Painted}
use Rattle.rh_session.specs.Outcome.{Finished, status_of}
use Rattle.rh_session.specs.declared.status.Status.{Status}
use Rattle.rh_pictures.specs.declared.sheet.form.SheetForm.{SheetForm}
use Rattle.vf_web.specs.PageStatus.{bad_status, status_number}

-- the text was written to the bytes that were lent, and the status says whether something was bad
pub record Ended (old new : WholeText) (text : List ℕ) (bad : Bool) (status : Status) : Type 0 where
  pub same : (whole_bytes new).ghost_name ≡ (whole_bytes old).ghost_name
  pub before : before_of new ≡ before_of old
  pub text_is : whole_text new ≡ text
  pub status_is : status_number status ≡ bad_status bad

numbered : (bad : Bool) → status_number (status_of bad) ≡ bad_status bad
numbered true = refl
numbered false = refl

pub ended : (old new : WholeText) {text : List ℕ} {status : Status} (bad : Bool) → whole_text old ≡ [] → Takes (output_of old) (output_of new) text
    → status ≡ status_of bad → Ended old new text bad status
ended old new {text} bad none takes is =
    let w = wrote takes in
    record {
      same = w.same_reference;
      before = w.before;
      text_is = w.text ∙ ap (λ l. l ++ text) none;
      status_is = ap status_number is ∙ numbered bad;
    }

-- what ends in no error
pub never : {A E : Type 0} (r : Result A E) (P : E → Type 0) → IfErr r P → ((e : E) → P e → ⊥) → IsOk r
never (Ok x) P h refuted = search rules
never (Err e) P h refuted = absurd (refuted e h)

-- what was read of a script of which nothing is left
read_whole : (script bytes : List ℕ) → script ≡ bytes ++ [] → bytes ≡ script
read_whole script bytes all = sym (all ∙ append-nil bytes)

pub run_ended : (d : Desk) (script : List ℕ) (old new : WholeText) (status : Status) → whole_text old ≡ []
    → Finished d (unread script) (unread []) (output_of old) (output_of new) status → Ended old new (script_text d script) (has_bad_line script) status
run_ended d script old new status none f =
    let e = read_whole script f.bytes f.read in
    let P : List ℕ → Type 0 = λ b. Ended old new (script_text d b) (has_bad_line b) status in
    subst P e (ended old new (has_bad_line f.bytes) none f.written f.status_is)

-- a text is the map of a script, and was written
pub record MapEnded (marked : Bool) (p : Place) (script : List ℕ) (old new : WholeText) (status : Status) : Type 0 where
  pub text : List ℕ
  pub map : IsMap marked p (read_lines script) text
  pub ends : Ended old new text (has_bad_line script) status

pub map_ended : (marked : Bool) (p : Place) (script : List ℕ) (old new : WholeText) (status : Status) → whole_text old ≡ []
    → Mapped marked p (unread script) (unread []) (output_of old) (output_of new) status → MapEnded marked p script old new status
map_ended marked p script old new status none f =
    let e = read_whole script f.bytes f.read in
    let P : List ℕ → Type 0 = λ b. MapEnded marked p b old new status in
    subst P e (record { text = f.text; map = f.map; ends = ended old new (has_bad_line f.bytes) none f.written f.status_is })

-- a text is the sheet of a script, and was written
pub record SheetEnded (form : SheetForm) (name : List ℕ) (d : Desk) (script : List ℕ) (old new : WholeText) (status : Status) : Type 0 where
  pub text : List ℕ
  pub sheet : IsSheet form name d (read_lines script) text
  pub ends : Ended old new text (has_bad_line script) status

pub sheet_ended : (form : SheetForm) (name : List ℕ) (d : Desk) (script : List ℕ) (old new : WholeText) (status : Status) → whole_text old ≡ []
    → Painted form name d (unread script) (unread []) (output_of old) (output_of new) status → SheetEnded form name d script old new status
sheet_ended form name d script old new status none f =
    let e = read_whole script f.bytes f.read in
    let P : List ℕ → Type 0 = λ b. SheetEnded form name d b old new status in
    subst P e (record { text = f.text; sheet = f.sheet; ends = ended old new (has_bad_line f.bytes) none f.written f.status_is })
