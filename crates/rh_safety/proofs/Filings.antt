-- The scrap file's DataLoad while messages are sent, and while records come and go.
use Rattle.rh_safety.proofs.Common.{◌≡◌, ◌≢◌, ℕ, ◌<◌, List, [], ◌∷◌, ◌++◌, Option, Some, None, refl, sym, ap, ◌∙◌, subst, ◌⊎◌, inl, inr, arith, eqb_tells}
use Rattle.rh_safety.proofs.Common.{Letter, Message, In, DataLoad, in_id, Has, put, still_held, none_some, put_same, put_other, IsLive, waits, rests}
use Rattle.rh_safety.proofs.Sight.{Scrap}
use Rattle.rh_safety.proofs.Basics.{Has-left, Has-right}
use Rattle.rh_safety.proofs.Invariant.{Filed, Files}
use Rattle.rh_safety.proofs.Moves.{Lets, Move, Fewer}

-- the ref isn't that of the scrap file's DataLoad
abbrev pub NotTheLoad : Option Scrap → ℕ → Type 0
NotTheLoad scrap ref = (f : Scrap) → scrap ≡ Some f → ref ≢ f.load

-- ---- sends

-- a message that is held still is, where its holder answers another one
held_on : (o : Option Message) (m : Message) (answers : ℕ) → o ≡ Some m → m.letter.me ≢ answers → still_held o answers ≡ Some m
held_on None m answers is ne = absurd (none_some None refl is)
held_on (Some y) m answers is ne =
    let same : y ≡ m = cc in
    elim (eqb_tells y.letter.me answers) [
      | inl w ↦ absurd (ne (ap (λ (z : Message). z.letter.me) (sym same) ∙ w.1))
      | inr w ↦ rw w.0 is
    ]

pub live_sent : {q : List Message} {held : ℕ → Option Message} {ref : ℕ} (h : ℕ) (m : Message) → m.letter.answers ≢ ref →
    IsLive q held ref → IsLive (q ++ m ∷ []) (put held h (still_held (held h) m.letter.answers)) ref
live_sent {q} h m ne (waits y has same) = waits y (Has-left y q (m ∷ []) has) same
live_sent {held = held} h m ne (rests k y is same) =
    let after = still_held (held h) m.letter.answers in
    rests k y (elim (eqb_tells k h) [
      | inl w ↦ ap (put held h after) w.1 ∙ put_same held h after ∙ held_on (held h) y m.letter.answers (ap held (sym w.1) ∙ is)
          (λ eq. ne (sym eq ∙ same))
      | inr w ↦ put_other held h after k w.1 ∙ is
    ]) same

pub filed_sent : {K L : Lets} {q : List Message} {held : ℕ → Option Message} {taking : ℕ → List In} {scrap : Option Scrap}
    {next : ℕ} (h : ℕ) (m : Message) → ((l : Letter) → L l → K l ⊎ (l ≡ m.letter)) → m.letter.me ≡ next →
    ((f : Scrap) → scrap ≡ Some f → f.load < next) → NotTheLoad scrap m.letter.answers → Files K q held taking scrap →
    Files L (q ++ m ∷ []) (put held h (still_held (held h) m.letter.answers)) taking scrap
filed_sent h m knows fresh below other i f s =
    let w = i f s in
    record {
      live = live_sent h m (other f s) w.live;
      some = w.some;
      kinds = λ l k eq. elim (knows l k) [
        | inl a ↦ w.kinds l a eq
        | inr a ↦ absurd (let z = below f s in let me : l.me ≡ m.letter.me = ap (λ (y : Letter). y.me) a in omega (arith, z, me, eq, fresh))
      ];
      unanswered = λ l k eq. elim (knows l k) [
        | inl a ↦ w.unanswered l a eq
        | inr a ↦ other f s (ap (λ (y : Letter). y.answers) (sym a) ∙ eq)
      ];
      ids = w.ids;
    }

-- ---- fewer letters and records, and one record written anew

pub filed_fewer : {K L : Lets} {q p : List Message} {held hd : ℕ → Option Message} {taking : ℕ → List In} {scrap : Option Scrap} →
    ((l : Letter) → L l → K l) → ((f : Scrap) → scrap ≡ Some f → IsLive p hd f.load) → Files K q held taking scrap →
    Files L p hd taking scrap
filed_fewer knows live i f s = let w = i f s in record {
  live = live f s;
  some = w.some;
  kinds = λ l k. w.kinds l (knows l k);
  unanswered = λ l k. w.unanswered l (knows l k);
  ids = w.ids;
}

pub filed_less : {K : Lets} {q : List Message} {held : ℕ → Option Message} {taking : ℕ → List In} {scrap : Option Scrap}
    (new : ℕ → List In) → Fewer taking new → Files K q held taking scrap → Files K q held new scrap
filed_less new fewer i f s = let w = i f s in record {
  live = w.live;
  some = w.some;
  kinds = w.kinds;
  unanswered = w.unanswered;
  ids = λ r v has. w.ids r v (fewer r v has);
}

pub filed_in : {K : Lets} {q : List Message} {held : ℕ → Option Message} {taking : ℕ → List In} {scrap : Option Scrap}
    (new : ℕ → List In) (h : ℕ) (v : In) → Move in_id taking new h v → NotTheLoad scrap (in_id v) →
    Files K q held taking scrap → Files K q held new scrap
filed_in new h v m other i f s = let w = i f s in record {
  live = w.live;
  some = w.some;
  kinds = w.kinds;
  unanswered = w.unanswered;
  ids = λ r u has eq. elim (m r u has) [ inl a ↦ w.ids r u a.0 eq | inr a ↦ other f s (ap in_id (sym a.1) ∙ eq) ];
}

-- ---- what isn't the DataLoad

-- a record's id
pub record_apart : {K : Lets} {q : List Message} {held : ℕ → Option Message} {taking : ℕ → List In} {scrap : Option Scrap}
    (r : ℕ) (v : In) (id : ℕ) → Has v (taking r) → in_id v ≡ id → Files K q held taking scrap → NotTheLoad scrap id
record_apart r v id has same i f s eq = (i f s).ids r v has (same ∙ eq)

-- where there is no scrap file
pub none_apart : (ref : ℕ) → NotTheLoad None ref
none_apart ref f s = absurd (none_some None refl s)

pub none_live : {q : List Message} {held : ℕ → Option Message} (f : Scrap) → None ≡ Some f → IsLive q held f.load
none_live f s = absurd (none_some None refl s)

pub filed_none : {K : Lets} {q : List Message} {held : ℕ → Option Message} {taking : ℕ → List In} → Files K q held taking None
filed_none f s = absurd (none_some None refl s)

-- ---- a scrap file that is saved

pub filed_new : {K L : Lets} {hd : ℕ → Option Message} {taking : ℕ → List In} (q : List Message) (m : Message) (file : Scrap) →
    ((l : Letter) → L l → K l ⊎ (l ≡ m.letter)) → m.letter.me ≡ file.load → m.letter.kind ≡ DataLoad → m.letter.answers < file.load →
    ((l : Letter) → K l → l.me < file.load) → ((l : Letter) → K l → l.answers < file.load) →
    ((r : ℕ) (v : In) → Has v (taking r) → in_id v < file.load) → Files L (q ++ m ∷ []) hd taking (Some file)
filed_new {K} {L} {hd} {taking} q m file knows me kind answers mes answered ids f s =
    let same : file ≡ f = cc in
    subst (λ (z : Scrap). Filed L (q ++ m ∷ []) hd taking z) same here
  where
    kind_of : (l : Letter) → K l ⊎ (l ≡ m.letter) → l.me ≡ file.load → l.kind ≡ DataLoad
    kind_of l (inl a) eq = absurd (let z = mes l a in omega (arith, z, eq))
    kind_of l (inr a) eq = ap (λ (y : Letter). y.kind) a ∙ kind

    answers_it : (l : Letter) → K l ⊎ (l ≡ m.letter) → l.answers ≡ file.load → ⊥
    answers_it l (inl a) eq = let z = answered l a in omega (arith, z, eq)
    answers_it l (inr a) eq =
        let z : l.answers ≡ m.letter.answers = ap (λ (y : Letter). y.answers) a in omega (arith, z, eq, answers)

    has_id : (r : ℕ) (v : In) → Has v (taking r) → in_id v ≡ file.load → ⊥
    has_id r v has eq = let z = ids r v has in omega (arith, z, eq)

    here : Filed L (q ++ m ∷ []) hd taking file
    here = record {
      live = waits m (Has-right m q (m ∷ []) (inl refl)) me;
      some = omega (arith, answers);
      kinds = λ l k eq. kind_of l (knows l k) eq;
      unanswered = λ l k eq. answers_it l (knows l k) eq;
      ids = has_id;
    }
