-- What may be refused or have a fault: its steps one after another, up to the first that is or has.
-- This file comes before all others. A `do` writes >>= and >> for short: in `x ← step` x is what the step gives, and
-- `_ ← step`, or a step alone, counts for its refusal alone. p is a pair: what a call leaves, and what it answers.
use Rattle.std.specs.Prelude.{Bool, true, false, Option, Some, None, Result, Ok, Err}
use Rattle.rh_defs.specs.declared.refusal.Refusal.{Refusal}

-- what a step gives, or why it is refused
abbrev pub Granted : Type 0 → Type 0
Granted A = Result A Refusal

infixr 10 ◌>>=◌ ◌>>◌
-- the first step, and with what it gives the next one
unfoldable pub ◌>>=◌ : {A B E : Type 0} → Result A E → (A → Result B E) → Result B E
Ok x >>= next = next x
Err e >>= next = Err e

-- the first step, and then the next one
unfoldable pub ◌>>◌ : {A B : Type 0} → Granted A → Granted B → Granted B
first >> next = first >>= (λ _. next)

-- refused where the condition holds
unfoldable pub refuse_if : Bool → Refusal → Granted (Unit {0})
refuse_if true refusal = Err refusal
refuse_if false refusal = Ok tt

-- refused where there is none
unfoldable pub found_or : {A : Type 0} → Option A → Refusal → Granted A
found_or None refusal = Err refusal
found_or (Some x) refusal = Ok x

-- what the steps give, or by the refusal what is done in their place
unfoldable pub or_else : {A : Type 0} → Granted A → (Refusal → A) → A
or_else (Ok x) instead = x
or_else (Err refusal) instead = instead refusal

-- ---- a call on one part of a desk, or on a heap, as its callers see it

-- what a call answers that also leaves something
abbrev pub answer_of : {A B E : Type 0} → Result (A × B) E → Result B E
answer_of (Ok p) = Ok p.1
answer_of (Err refusal) = Err refusal

-- what such a call leaves of what there was: the same where it was refused
abbrev pub left_of : {A B E : Type 0} → A → Result (A × B) E → A
left_of old (Ok p) = p.0
left_of old (Err refusal) = old

-- done or refused
abbrev pub outcome_of : {A E : Type 0} → Result A E → Result (Unit {0}) E
outcome_of (Ok x) = Ok tt
outcome_of (Err refusal) = Err refusal

-- what a call leaves that answers nothing more
abbrev pub result_or : {A E : Type 0} → A → Result A E → A
result_or old (Ok new) = new
result_or old (Err refusal) = old

-- a call that leaves something and answers nothing more, as one with an answer
abbrev pub no_answer : {A E : Type 0} → Result A E → Result (A × Unit {0}) E
no_answer (Ok new) = Ok (new, tt)
no_answer (Err refusal) = Err refusal
