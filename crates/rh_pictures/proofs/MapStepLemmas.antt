-- A map behind one line: what its pen was offered, and where it stands.
use Rattle.rh_pictures.proofs.Common.{◌≡◌, ℕ, ◌+◌, Bool, true, false, ◌||◌, List, [], ◌∷◌, ◌++◌, append-nil, refl, sym, ap, ap₂, ◌∙◌, subst, length, Option}
use Rattle.rh_pictures.proofs.Common.{Some, None, Ok, Err, ◌&&◌, if◌then◌else◌, is_err, not, ◌==◌, eqb-true, Command, LineFault, Desk, Meaning, line_means}
use Rattle.rh_pictures.proofs.Common.{IsReordered, step, fault_text, kept, kept_means, Share, IsShared, Text, scene_of, Place, Reply, after_read, arith}
use Rattle.rh_pictures.proofs.Common.{is_mark, lines_of_read, written_lines, Mapper, reply_to, Drew, TookLine, place_in}
use Rattle.rh_defs.specs.declared.reply.Reply.TheVariants.{Done}
use Rattle.rh_session.specs.Taken.{Gives}
use Rattle.rh_session.proofs.LineLemmas.{kept_nil}
use Rattle.rh_figure.specs.Scene.{Before, before_of, marks_of}
use Rattle.rh_figure.specs.Map.{command_lines, step_lines}
use Rattle.rh_figure.proofs.Alike.{marks-alike, scene-alike}
use Rattle.rh_pictures.specs.Deeds.{IsLikeReply, rest_means}
use Rattle.rh_pictures.specs.DrawnPlaces.{TookRest}
use Rattle.rh_pictures.specs.Inner.StepsShown.{IsSamePlace, Offers, lines_of_step}
use Rattle.rh_pictures.proofs.MapLemmas.{map-telling}
use Rattle.rh_pictures.proofs.ScriptLemmas.{kept-first, or-off, or-on, reordered-as, rest-bad, same-line, same-rest, shared-alike}

-- ---- tests

-- a step that is shown, and one that isn't
pub is-hidden : (marked wanted : Bool) → (marked && not wanted) ≡ true → (not marked || wanted) ≡ false
is-hidden true true e = cc
is-hidden true false e = refl
is-hidden false wanted e = cc

pub is-shown : (marked wanted : Bool) → (marked && not wanted) ≡ false → (not marked || wanted) ≡ true
is-shown true true e = refl
is-shown true false e = cc
is-shown false wanted e = refl

pub mark-hidden : (marked wanted mark : Bool) → (marked && not (wanted || mark)) ≡ true → (not marked || wanted || mark) ≡ false
mark-hidden true true mark e = cc
mark-hidden true false true e = cc
mark-hidden true false false e = refl
mark-hidden false wanted mark e = cc

pub mark-shown : (marked wanted mark : Bool) → (marked && not (wanted || mark)) ≡ false → (not marked || wanted || mark) ≡ true
mark-shown true true mark e = refl
mark-shown true false true e = refl
mark-shown true false false e = cc
mark-shown false true mark e = refl
mark-shown false false true e = refl
mark-shown false false false e = refl

-- lines where a test holds, else none
when-off : {b : Bool} (xs : List Text) → b ≡ false → (if b then xs else []) ≡ []
when-off xs e = ap (λ (q : Bool). if q then xs else []) e

when-on : {b : Bool} {xs : List Text} → b ≡ true → (if b then xs else []) ≡ xs
when-on {xs = xs} e = ap (λ (q : Bool). if q then xs else []) e

shared-as : {D : Type 0} (desk : D → Desk) (s : Share) (a b : D) → b ≡ a → IsShared s (desk b) → IsShared s (desk a)
shared-as desk s a b e h = let P : Desk → Type 0 = λ z. IsShared s z in subst P (ap desk e) h

-- ---- the lines of a step

-- the step of a command, by a desk and a reply that show what those of the command do
pub step-shown : (wanted : Bool) (n : ℕ) (line : Text) (d e : Desk) (s : Share) (c : Command) (r : Reply) → IsReordered (step d c).0 e → IsLikeReply d c r
    → lines_of_step wanted n line (reply_to d c) e s (before_of d (Some c)) (Some c) r
    ≡ command_lines wanted s n line c (reply_to d c) (before_of d (Some c)) (step d c)
step-shown wanted n line d e s c r is like =
    let b = before_of d (Some c) in
    let said = (step d c).1 in
    ap₂ (λ still x. step_lines (still && not wanted) n line (reply_to d c) x) like.still
    (ap (scene_of e s b) (like.marks e b ∙ marks-alike is b (Some c) said) ∙ scene-alike is s b (marks_of (step d c).0 b (Some c) said))

-- ---- what a mapper has offered of a line

module _ {D : Type 0} (desk : D → Desk) (m : Mapper D) (line : Text) (old : List ℕ) where
  -- a line that asks for nothing, where a mapper has counted it, and then noted whether it marks the next command
  pub skipped-none : (b : Mapper D) (w : Bool) → b ≡ record m { lines = m.lines + 1; wanted = false } → w ≡ (m.wanted || is_mark line)
      → (new : List ℕ) (s : Share) → IsShared s (desk b.drawn)
      → new ≡ old ++ written_lines (lines_of_read m.marked s (place_in desk m) (line, Ok None))
      → Offers desk m line (Ok None) (record b { wanted = w }) old new
  skipped-none b w next wanted new s shared offered =
      let drawn = ap (λ (z : Mapper D). z.drawn) next in
      record {
        share = s;
        shared = shared-as desk s m.drawn b.drawn drawn shared;
        offered = offered;
        follows = record {
          desk_is = reordered-as desk m.drawn b.drawn drawn;
          marked_is = ap (λ (z : Mapper D). z.marked) next;
          lines = ap (λ (z : Mapper D). z.lines) next;
          wanted = wanted;
          bad = ap (λ (z : Mapper D). z.has_bad_line) next ∙ or-off m.has_bad_line;
        };
      }

  -- a command
  offers-command : (c : Command) (n : Mapper D) (new : List ℕ) (s : Share) → IsReordered (step (desk m.drawn) c).0 (desk n.drawn) → IsShared s (desk n.drawn)
      → n.marked ≡ m.marked → n.lines ≡ m.lines + 1 → n.wanted ≡ false → n.has_bad_line ≡ m.has_bad_line
      → new ≡ old ++ written_lines (lines_of_read m.marked s (place_in desk m) (line, Ok (Some c))) → Offers desk m line (Ok (Some c)) n old new
  offers-command c n new s is shared marked lines wanted bad offered = record {
    share = s;
    shared = shared-alike s is shared;
    offered = offered;
    follows = record {
      desk_is = is;
      marked_is = marked;
      lines = lines;
      wanted = wanted;
      bad = bad ∙ or-off m.has_bad_line;
    };
  }

  -- a bad line
  offers-fault : (f : LineFault) (n : Mapper D) (new : List ℕ) (s : Share) → IsShared s (desk n.drawn) → n.drawn ≡ m.drawn → n.marked ≡ m.marked
      → n.lines ≡ m.lines + 1 → n.wanted ≡ false → n.has_bad_line ≡ true
      → new ≡ old ++ written_lines (lines_of_read m.marked s (place_in desk m) (line, Err f)) → Offers desk m line (Err f) n old new
  offers-fault f n new s shared drawn marked lines wanted bad offered = record {
    share = s;
    shared = shared-as desk s m.drawn n.drawn drawn shared;
    offered = offered;
    follows = record {
      desk_is = reordered-as desk m.drawn n.drawn drawn;
      marked_is = marked;
      lines = lines;
      wanted = wanted;
      bad = bad ∙ or-on m.has_bad_line;
    };
  }

-- ---- a line as far as it is kept

module _ {D : Type 0} {desk : D → Desk} {m n : Mapper D} {old new : List ℕ} where
  -- the same of another line, of which the same is shown
  offers-as : {a b : Text} {of_a of_b : Meaning (Option Command)}
      → ((s : Share) → written_lines (lines_of_read m.marked s (place_in desk m) (b, of_b))
      ≡ written_lines (lines_of_read m.marked s (place_in desk m) (a, of_a)))
      → ((s : Share) → after_read (place_in desk m) (b, of_b) ≡ after_read (place_in desk m) (a, of_a)) → is_err of_b ≡ is_err of_a
      → Offers desk m a of_a n old new → Offers desk m b of_b n old new
  offers-as text behind bad offers =
      let S : Place → Type 0 = λ z. IsShared offers.share z.desk in
      let R : Place → Type 0 = λ z. IsReordered z.desk (desk n.drawn) in
      let after = behind offers.share in
      record {
        share = offers.share;
        shared = subst S (sym after) offers.shared;
        offered = offers.offered ∙ ap (λ z. old ++ z) (sym (text offers.share));
        follows = record {
          desk_is = subst R (sym after) offers.follows.desk_is;
          marked_is = offers.follows.marked_is;
          lines = offers.follows.lines ∙ ap (λ (z : Place). z.lines) (sym after);
          wanted = offers.follows.wanted ∙ ap (λ (z : Place). z.wanted) (sym after);
          bad = offers.follows.bad ∙ ap (λ z. m.has_bad_line || z) (sym bad);
        };
      }

  pub offers-kept : (line : Text) → Offers desk m line (line_means line) n old new → Offers desk m (kept line) (line_means (kept line)) n old new
  offers-kept line =
      let same = same-line (map-telling m.marked) line in
      offers-as (λ s. same.text s (place_in desk m)) (λ s. same.behind s (place_in desk m)) (ap is_err (kept_means line))

  pub offers-rest : (rest : Text) → Offers desk m rest (rest_means rest) n old new → Offers desk m (kept rest) (rest_means (kept rest)) n old new
  offers-rest rest =
      let same = same-rest (map-telling m.marked) rest in
      offers-as (λ s. same.text s (place_in desk m)) (λ s. same.behind s (place_in desk m)) (rest-bad (kept rest) ∙ sym (rest-bad rest))

  -- the text that was offered
  offers-text : {line : Text} {means : Meaning (Option Command)} → Offers desk m line means n old new → Gives (Drew desk m line means n) old new
  offers-text {line} {means} offers = record {
    text = written_lines (lines_of_read m.marked offers.share (place_in desk m) (line, means));
    meets = record { share = offers.share; shared = offers.shared; text_is = refl; follows = offers.follows };
    offered = offers.offered;
  }

  -- what was found of a line is what it means
  pub took-line : (line : Text) (found : Meaning (Option Command)) → found ≡ line_means line → Offers desk m line found n old new
      → Gives (TookLine desk m (kept line) n) old new
  took-line line found means offers =
      let P : Meaning (Option Command) → Type 0 = λ z. Offers desk m line z n old new in
      offers-text (offers-kept line (subst P means offers))

  -- the same of what stands behind the last line feed, if that is something
  pub took-rest : (rest : Text) → false ≡ (length rest == 0) → Offers desk m rest (rest_means rest) n old new → Gives (TookRest desk m (kept rest) n) old new
  took-rest [] some offers = absurd (cc)
  took-rest (b ∷ bs) some offers =
      let all = offers-text (offers-rest (b ∷ bs) offers) in
      let K : Text → Type 0 = λ z. Drew desk m z (rest_means z) n all.text in
      let T : Text → Type 0 = λ z. TookRest desk m z n all.text in
      record { text = all.text; meets = subst T (sym (kept-first b bs)) (subst K (kept-first b bs) all.meets); offered = all.offered }

-- nothing stands there
pub rest-none : {D : Type 0} (desk : D → Desk) (m : Mapper D) (old : List ℕ) (rest : Text) → true ≡ (length rest == 0)
    → Gives (TookRest desk m (kept rest) m) old old
rest-none desk m old [] none =
    let T : Text → Type 0 = λ z. TookRest desk m z m [] in
    record { text = []; meets = subst T (sym kept_nil) (refl, refl); offered = sym (append-nil old) }
rest-none desk m old (b ∷ bs) none = let no : length (b ∷ bs) ≡ 0 = eqb-true (length (b ∷ bs)) 0 (sym none) in absurd (omega arith)

-- ---- a step, by what its calls tell

-- a mapper that has counted one more step
abbrev pub Counts : {D : Type 0} → Mapper D → Mapper D → Type 0
Counts m b = b ≡ record m { lines = m.lines + 1; wanted = false }

-- all but what is drawn is the same
pub record IsRest {D : Type 0} (b a : Mapper D) : Type 0 where
  pub marked : a.marked ≡ b.marked
  pub lines : a.lines ≡ b.lines
  pub wanted : a.wanted ≡ b.wanted
  pub bad : a.has_bad_line ≡ b.has_bad_line

-- the rest is of one mapper where what it draws with may be of another
pub rest-as : {D : Type 0} {b a : Mapper D} (k : Mapper D)
    → a ≡ record k { marked = b.marked; lines = b.lines; wanted = b.wanted; has_bad_line = b.has_bad_line } → IsRest b a
rest-as {D} k e = record {
  marked = ap (λ (z : Mapper D). z.marked) e;
  lines = ap (λ (z : Mapper D). z.lines) e;
  wanted = ap (λ (z : Mapper D). z.wanted) e;
  bad = ap (λ (z : Mapper D). z.has_bad_line) e;
}

module _ {D : Type 0} (desk : D → Desk) (m b : Mapper D) (line : Text) (old : List ℕ) (w : Bool) (was : w ≡ m.wanted) (counts : Counts m b) where
  hidden-test : (b.marked && not w) ≡ true → (not m.marked || m.wanted) ≡ false
  hidden-test e = is-hidden m.marked m.wanted (ap₂ (λ x y. x && not y) (sym (ap (λ (z : Mapper D). z.marked) counts)) (sym was) ∙ e)

  shown-test : (b.marked && not w) ≡ false → (not m.marked || m.wanted) ≡ true
  shown-test e = is-shown m.marked m.wanted (ap₂ (λ x y. x && not y) (sym (ap (λ (z : Mapper D). z.marked) counts)) (sym was) ∙ e)

  nothing-offered : (xs : List Text) → (b.marked && not w) ≡ true → old ≡ old ++ written_lines (if not m.marked || m.wanted then xs else [])
  nothing-offered xs test = sym (append-nil old) ∙ ap (λ z. old ++ written_lines z) (sym (when-off xs (hidden-test test)))

  pub hidden-command : (c : Command) (n : Mapper D) (s : Share) → (b.marked && not w) ≡ true → IsReordered (step (desk b.drawn) c).0 (desk n.drawn)
      → IsRest b n → IsShared s (desk n.drawn) → Offers desk m line (Ok (Some c)) n old old
  hidden-command c n s test is rest shared =
      let P : D → Type 0 = λ z. IsReordered (step (desk z) c).0 (desk n.drawn) in
      offers-command desk m line old c n old s (subst P (ap (λ (z : Mapper D). z.drawn) counts) is) shared
      (rest.marked ∙ ap (λ (z : Mapper D). z.marked) counts) (rest.lines ∙ ap (λ (z : Mapper D). z.lines) counts)
      (rest.wanted ∙ ap (λ (z : Mapper D). z.wanted) counts) (rest.bad ∙ ap (λ (z : Mapper D). z.has_bad_line) counts)
      (nothing-offered _ test)

  pub hidden-fault : (f : LineFault) (n : Mapper D) (s : Share) → (b.marked && not w) ≡ true → n.drawn ≡ b.drawn → n.marked ≡ b.marked → n.lines ≡ b.lines
      → n.wanted ≡ b.wanted → n.has_bad_line ≡ true → IsShared s (desk n.drawn) → Offers desk m line (Err f) n old old
  hidden-fault f n s test drawn marked lines wanted bad shared =
      offers-fault desk m line old f n old s shared (drawn ∙ ap (λ (z : Mapper D). z.drawn) counts)
      (marked ∙ ap (λ (z : Mapper D). z.marked) counts) (lines ∙ ap (λ (z : Mapper D). z.lines) counts) (wanted ∙ ap (λ (z : Mapper D). z.wanted) counts) bad
      (nothing-offered _ test)

  -- the lines of a command that is shown
  pub command-text : (c : Command) (s : Share) (a : Mapper D) (k : Before) (r : Reply) → (b.marked && not w) ≡ false
      → IsReordered (step (desk b.drawn) c).0 (desk a.drawn) → IsLikeReply (desk b.drawn) c r → k ≡ before_of (desk b.drawn) (Some c) → a.lines ≡ b.lines
      → lines_of_step w a.lines line (reply_to (desk b.drawn) c) (desk a.drawn) s k (Some c) r
      ≡ lines_of_read m.marked s (place_in desk m) (line, Ok (Some c))
  command-text c s a k r test is like kept lines =
      let drawn = ap (λ (z : Mapper D). desk z.drawn) counts in
      ap₂ (λ x y. lines_of_step x a.lines line (reply_to (desk b.drawn) c) (desk a.drawn) s y (Some c) r) was kept
      ∙ (step-shown m.wanted a.lines line (desk b.drawn) (desk a.drawn) s c r is like
      ∙ (ap₂ (λ n z. command_lines m.wanted s n line c (reply_to z c) (before_of z (Some c)) (step z c)) (lines ∙ ap (λ (z : Mapper D). z.lines) counts) drawn
      ∙ sym (when-on (shown-test test))))

  -- those of a bad line
  pub fault-text : (f : LineFault) (s : Share) (a : Mapper D) (k : Before) → (b.marked && not w) ≡ false → a.drawn ≡ b.drawn
      → k ≡ before_of (desk b.drawn) None → a.lines ≡ b.lines
      → lines_of_step w a.lines line (fault_text f) (desk a.drawn) s k None Done
      ≡ lines_of_read m.marked s (place_in desk m) (line, Err f)
  fault-text f s a k test drawn kept lines =
      let same = ap desk drawn ∙ ap (λ (z : Mapper D). desk z.drawn) counts in
      ap₂ (λ x y. lines_of_step x a.lines line (fault_text f) (desk a.drawn) s y None Done) was
      (kept ∙ ap (λ (z : Mapper D). before_of (desk z.drawn) None) counts)
      ∙ (ap₂ (λ n z. lines_of_step m.wanted n line (fault_text f) z s (before_of (desk m.drawn) None) None Done)
      (lines ∙ ap (λ (z : Mapper D). z.lines) counts) same
      ∙ sym (when-on (shown-test test)))

  module _ (a n : Mapper D) (new : List ℕ) (s : Share) (same : IsSamePlace a n) (shared : IsShared s (desk a.drawn)) where
    there : IsShared s (desk n.drawn)
    there = let S : D → Type 0 = λ z. IsShared s (desk z) in subst S (sym same.drawn_is) shared

    -- a command was shown
    pub told-command : (c : Command) → IsReordered (step (desk b.drawn) c).0 (desk a.drawn) → IsRest b a
        → new ≡ old ++ written_lines (lines_of_read m.marked s (place_in desk m) (line, Ok (Some c))) → Offers desk m line (Ok (Some c)) n old new
    told-command c is rest =
        let P : D → Type 0 = λ z. IsReordered (step (desk z) c).0 (desk a.drawn) in
        let Q : D → Type 0 = λ z. IsReordered (step (desk m.drawn) c).0 (desk z) in
        let now = subst Q (sym same.drawn_is) (subst P (ap (λ (z : Mapper D). z.drawn) counts) is) in
        offers-command desk m line old c n new s now there
        (same.marked_is ∙ (rest.marked ∙ ap (λ (z : Mapper D). z.marked) counts))
        (same.lines ∙ (rest.lines ∙ ap (λ (z : Mapper D). z.lines) counts))
        (same.wanted ∙ (rest.wanted ∙ ap (λ (z : Mapper D). z.wanted) counts))
        (same.bad ∙ (rest.bad ∙ ap (λ (z : Mapper D). z.has_bad_line) counts))

    -- a bad line was shown
    pub told-fault : (f : LineFault) → a.drawn ≡ b.drawn → a.marked ≡ b.marked → a.lines ≡ b.lines → a.wanted ≡ b.wanted → a.has_bad_line ≡ true
        → new ≡ old ++ written_lines (lines_of_read m.marked s (place_in desk m) (line, Err f)) → Offers desk m line (Err f) n old new
    told-fault f drawn marked lines wanted bad =
        let now = same.drawn_is ∙ (drawn ∙ ap (λ (z : Mapper D). z.drawn) counts) in
        offers-fault desk m line old f n new s there now
        (same.marked_is ∙ (marked ∙ ap (λ (z : Mapper D). z.marked) counts))
        (same.lines ∙ (lines ∙ ap (λ (z : Mapper D). z.lines) counts))
        (same.wanted ∙ (wanted ∙ ap (λ (z : Mapper D). z.wanted) counts))
        (same.bad ∙ bad)

-- a line is bad, whatever was before it
pub fault-from : {D : Type 0} {desk : D → Desk} {m n : Mapper D} {line : Text} {f : LineFault} {old new : List ℕ}
    → Offers desk (record m { has_bad_line = true }) line (Err f) n old new → Offers desk m line (Err f) n old new
fault-from {m = m} offers = record {
  share = offers.share;
  shared = offers.shared;
  offered = offers.offered;
  follows = record {
    desk_is = offers.follows.desk_is;
    marked_is = offers.follows.marked_is;
    lines = offers.follows.lines;
    wanted = offers.follows.wanted;
    bad = offers.follows.bad ∙ or-on m.has_bad_line;
  };
}
