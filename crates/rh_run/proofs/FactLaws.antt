-- What a desk has beside its replies: desks that differ in the order of messages to different tasks have the same.
use Rattle.std.proofs.Common.{◌≡◌, ℕ, true, List, refl, sym, ◌∙◌, ap, Option, Some, None, Result, Ok, Err, if◌then◌else◌}
use Rattle.std.specs.Option.{option_map}
use Rattle.std.specs.Result.{MatchResult, result_ok}
use Rattle.rh_defs.specs.Chain.{Granted}
use Rattle.rh_defs.specs.Desk.{Desk, named}
use Rattle.rh_defs.specs.Forms.{is_anchor}
use Rattle.rh_defs.specs.Messages.{Parcel}
use Rattle.rh_defs.specs.Order.{IsReordered, with_queue}
use Rattle.rh_defs.specs.Questions.{shown_at, status_at}
use Rattle.rh_defs.specs.declared.refusal.Refusal.{Refusal}
use Rattle.rh_defs.specs.declared.transfer.Incoming.{Incoming}
use Rattle.rh_defs.specs.declared.transfer.Outgoing.{Outgoing}
use Rattle.rh_explained.specs.Subjects.{flex_size, transfers_of}

abbrev Records : Type 0
Records = ℕ × List Outgoing × List Incoming

abbrev both_ways : Granted Records → Option (List Outgoing × List Incoming)
both_ways r = option_map (λ (s : Records). (s.1, s.2)) (result_ok r)

transfers-requeued : (name : List ℕ) (queue : List Parcel) (d : Desk) → transfers_of name (with_queue queue d) ≡ transfers_of name d
unfolding status_at named
transfers-requeued name queue d = refl

transfers-alike : {a b : Desk} (name : List ℕ) → IsReordered a b → transfers_of name b ≡ transfers_of name a
transfers-alike {a} {b} name same = ap (transfers_of name) same.rest ∙ transfers-requeued name b.post.queued a

-- the records of a task that is live, and of one that isn't
pub transfers-told : {a b : Desk} (name : List ℕ) (s : Records) → IsReordered a b → status_at b name ≡ Ok s → Some (s.1, s.2) ≡ transfers_of name a
transfers-told name s same is = sym (ap both_ways is) ∙ transfers-alike name same

pub transfers-none : {a b : Desk} (name : List ℕ) (e : Refusal) → IsReordered a b → status_at b name ≡ Err e → None ≡ transfers_of name a
transfers-none name e same is = sym (ap both_ways is) ∙ transfers-alike name same

size-requeued : (name : List ℕ) (k : ℕ) (queue : List Parcel) (d : Desk) → flex_size name k (with_queue queue d) ≡ flex_size name k d
unfolding shown_at named
size-requeued name k queue d = refl

size-alike : {a b : Desk} (name : List ℕ) (k : ℕ) → IsReordered a b → flex_size name k b ≡ flex_size name k a
size-alike {a} {b} name k same = ap (flex_size name k) same.rest ∙ size-requeued name k b.post.queued a

abbrev first_of : Granted (ℕ × List ℕ) → Option ℕ
first_of r = option_map (λ (s : ℕ × List ℕ). s.0) (result_ok r)

shown-first : (old new : List ℕ) (shown : Granted (ℕ × List ℕ)) (r : Result ℕ Refusal)
    → MatchResult shown (λ p. (r ≡ Ok p.0) × (new ≡ p.1)) (λ e. (r ≡ Err e) × (new ≡ old)) → result_ok r ≡ first_of shown
shown-first old new (Ok p) r m = ap result_ok m.0
shown-first old new (Err e) r m = ap result_ok m.0

-- the size of a block, as a call that shows none of its bytes tells it
pub size-told : {a b : Desk} (old new : List ℕ) (name : List ℕ) (k : ℕ) (r : Result ℕ Refusal) → is_anchor k ≡ true → IsReordered a b
    → MatchResult (shown_at b name k 0 0) (λ p. (r ≡ Ok p.0) × (new ≡ p.1)) (λ e. (r ≡ Err e) × (new ≡ old))
    → result_ok r ≡ flex_size name k a
size-told {b = b} old new name k r valid same m =
    let size : Option ℕ = first_of (shown_at b name k 0 0) in
    shown-first old new (shown_at b name k 0 0) r m ∙ (sym (ap (λ t. if t then size else None) valid) ∙ size-alike name k same)
