-- The message that a task's next poll would take, on each desk that a handle may be seen as.
use Rattle.vf_desk.proofs.Common.{◌≡◌, ℕ, List, true, false, Option, Some, None, Result, Ok, Err, refl, sym, ap, subst, ◌∙◌, MatchResult, if◌then◌else◌}
use Rattle.vf_desk.proofs.Common.{◌>>=◌, Desk, Task, named, is_name, Console, SeenBy, closed_status}
use Rattle.std.specs.Option.{option_map}
use Rattle.rh_defs.specs.declared.message.EventCode.{EventCode}
use Rattle.rh_defs.specs.declared.refusal.Refusal.{Refusal}
use Rattle.rh_defs.specs.Chain.{Granted}
use Rattle.rh_defs.specs.Messages.{Parcel, code_number}
use Rattle.rh_defs.specs.Order.{IsReordered, requeued}
use Rattle.rh_defs.specs.Post.{Post, post_poll}
use Rattle.rh_defs.proofs.Orders.{AnswerAlike, post_poll-alike}
use Rattle.rh_tasks.specs.Sights.{next_message}
use Rattle.rh_wimp.specs.QueueItems.{with_message}
use Rattle.vf_desk.specs.Event.{next_ref_in}
use Rattle.vf_desk.specs.Next.{code_or, next_in, next_on, next_parcel, status_of_next}
use Rattle.vf_desk.specs.DeskStatus.{bad_argument, refusal_number}

same-answer : {B : Type 0} {x y : Post × B} → AnswerAlike x y → y.1 ≡ x.1
same-answer (AnswerAlike.alike post queue x same) = refl

-- the order of messages to different tasks isn't seen
next-alike : {a b : Desk} → IsReordered a b → (name : List ℕ) → next_message b name ≡ next_message a name
unfolding next_message named ◌>>=◌
next-alike {a} {b} same name = ap (λ d. next_message d name) same.rest ∙ go (named name a)
  where
    next : Post → Task → Granted (Option Parcel)
    next post t = Ok (post_poll t.handle post).1

    go : (g : Granted Task) → (g >>= next (requeued b.post.queued a.post)) ≡ (g >>= next a.post)
    go (Ok t) = ap Ok (same-answer (post_poll-alike t.handle a.post b.post.queued same.same))
    go (Err r) = refl

pub next-open : {held : Option Console} {console : Console} → held ≡ Some console → (s : Option Desk) (name : List ℕ) → SeenBy held s → is_name name ≡ true
    → next_in s name ≡ next_on (next_message console.world.desk name)
next-open {held} {console} is s name seen good = go s (subst (λ h. SeenBy h s) is seen)
  where
    go : (s : Option Desk) → SeenBy (Some console) s → next_in s name ≡ next_on (next_message console.world.desk name)
    go None seen = absurd seen
    go (Some d) seen = ap (λ b. if b then next_on (next_message d name) else Err bad_argument) good ∙ ap next_on (sym (next-alike seen name))

pub next-bad : {held : Option Console} {console : Console} → held ≡ Some console → (s : Option Desk) (name : List ℕ) → SeenBy held s → is_name name ≡ false
    → next_in s name ≡ Err bad_argument
next-bad {held} {console} is s name seen bad = go s (subst (λ h. SeenBy h s) is seen)
  where
    go : (s : Option Desk) → SeenBy (Some console) s → next_in s name ≡ Err bad_argument
    go None seen = absurd seen
    go (Some d) seen = ap (λ b. if b then next_on (next_message d name) else Err bad_argument) bad

pub next-closed : {held : Option Console} → held ≡ None → (s : Option Desk) (name : List ℕ) → SeenBy held s → next_in s name ≡ Err closed_status
next-closed {held} is s name seen = go s (subst (λ h. SeenBy h s) is seen)
  where
    go : (s : Option Desk) → SeenBy None s → next_in s name ≡ Err closed_status
    go None seen = refl
    go (Some d) seen = absurd seen

-- ---- the ref of the message that is sent next

pub closed-ref : {held : Option Console} → held ≡ None → (s : Option Desk) → SeenBy held s → 0 ≡ next_ref_in s
closed-ref {held} is s seen = go s (subst (λ h. SeenBy h s) is seen)
  where
    go : (s : Option Desk) → SeenBy None s → 0 ≡ next_ref_in s
    go None seen = refl
    go (Some d) seen = absurd seen

-- ---- what is told of it

-- what the world answers, and what it leaves of a lent block
abbrev pub Answers : Granted (Option Parcel) → Result (Option EventCode) Refusal → List ℕ → List ℕ → Type 0
Answers next answer before after =
    MatchResult next (λ o. (answer ≡ Ok (option_map (λ (p : Parcel). p.code) o)) × (after ≡ with_message o before)) (λ e. (answer ≡ Err e) × (after ≡ before))

-- the status, the code and the block
pub record Told (next : Granted (Option Parcel)) (status was code : ℕ) (before after : List ℕ) : Type 0 where
  pub status_is : status ≡ status_of_next (next_on next)
  pub code_is : code ≡ code_or (next_on next) was
  pub block : after ≡ with_message (next_parcel (next_on next)) before

pub told-some : (next : Granted (Option Parcel)) (was : ℕ) {answer : Result (Option EventCode) Refusal} {code : EventCode} {before after : List ℕ}
    → Answers next answer before after → answer ≡ Ok (Some code) → Told next 0 was (code_number code) before after
told-some (Ok None) was a is = absurd (let first = a.0 in cc)
told-some (Ok (Some p)) was {answer} {code} a is =
    let first = a.0 in
    let same : code ≡ p.code = cc in
    record { status_is = refl; code_is = ap code_number same; block = a.1 }
told-some (Err e) was a is = absurd (let first = a.0 in cc)

pub told-none : (next : Granted (Option Parcel)) (was : ℕ) {answer : Result (Option EventCode) Refusal} {before after : List ℕ}
    → Answers next answer before after → answer ≡ Ok None → Told next 0 was 0 before after
told-none (Ok None) was a is = record { status_is = refl; code_is = refl; block = a.1 }
told-none (Ok (Some p)) was a is = absurd (let first = a.0 in cc)
told-none (Err e) was a is = absurd (let first = a.0 in cc)

pub told-refused : (next : Granted (Option Parcel)) (was : ℕ) {answer : Result (Option EventCode) Refusal} {refusal : Refusal} {before after : List ℕ}
    → Answers next answer before after → answer ≡ Err refusal → Told next (refusal_number refusal) was was before after
told-refused (Ok o) was a is = absurd (let first = a.0 in cc)
told-refused (Err e) was {answer} {refusal} a is =
    let first = a.0 in
    let same : refusal ≡ e = cc in
    record { status_is = ap refusal_number same; code_is = refl; block = a.1 }
