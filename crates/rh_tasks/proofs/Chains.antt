-- Steps of a command that are granted or refused.
use Rattle.std.proofs.Common.{◌≡◌, ℕ, Bool, true, false, refl, ◌<◌, ◌≤◌, arith}
use Rattle.std.specs.Prelude.{nat_lt, nat_le, Ok, Err, IsOk}
use Rattle.std.proofs.lemmas.Bool.Decides.{nat_tests}
use Rattle.rh_defs.specs.declared.refusal.Refusal.{Refusal}
use Rattle.rh_defs.specs.declared.reply.Reply.{Reply}
use Rattle.rh_defs.specs.Chain.{Granted, ◌>>=◌, ◌>>◌, refuse_if, answer_of, left_of, outcome_of, result_or}
use Rattle.rh_defs.specs.Desk.{Desk}
use Rattle.rh_defs.specs.Commands.{Answer}

pub begins : {A B : Type 0} {first : Granted A} {a : A} (next : A → Granted B) {y : Granted B} → first ≡ Ok a → next a ≡ y → (first >>= next) ≡ y
unfolding ◌>>=◌
begins next e h = rw e h

pub ends : {A B : Type 0} {first : Granted A} {r : Refusal} (next : A → Granted B) → first ≡ Err r → (first >>= next) ≡ Err r
unfolding ◌>>=◌
ends next e = rw e refl

pub past : {B : Type 0} (b : Bool) (r : Refusal) (x : Granted B) {y : Granted B} → b ≡ false → x ≡ y → (refuse_if b r >> x) ≡ y
unfolding ◌>>=◌ ◌>>◌ refuse_if
past b r x e h = rw e h

pub stops : {B : Type 0} (b : Bool) (r : Refusal) (x : Granted B) → b ≡ true → (refuse_if b r >> x) ≡ Err r
unfolding ◌>>=◌ ◌>>◌ refuse_if
stops b r x e = rw e refl

-- a step that isn't refused
pub not-refused : {A : Type 0} (b : Bool) (r : Refusal) (x : A) → b ≡ false → IsOk (refuse_if b r >>= λ _. Ok x)
unfolding ◌>>=◌ refuse_if
not-refused true r x e = absurd (cc)
not-refused false r x e = refl

-- a granted step that is not looked at
pub skipped : {A B : Type 0} (first : Granted A) (x : Granted B) → IsOk first → (first >>= (λ a. x)) ≡ x
unfolding ◌>>=◌
skipped (Ok a) x h = refl
skipped (Err r) x h = absurd (cc)

-- a chain that is refused is refused with more steps behind it
pub stopped : {A B C : Type 0} (first : Granted A) (look : A → Granted B) (next : A → B → Granted C) {r : Refusal} → (first >>= look) ≡ Err r
    → (first >>= (λ a. look a >>= next a)) ≡ Err r
unfolding ◌>>=◌
stopped (Ok a) look next e = rw e refl
stopped (Err q) look next e = let same : q ≡ _ = cc in rw same refl

pub granted-same : {d e : Desk} {r s : Reply} → d ≡ e → r ≡ s → (let x : Granted Answer = Ok (d, r) in x) ≡ (let y : Granted Answer = Ok (e, s) in y)
granted-same p q = cc

pub le-true : (a b : ℕ) → a ≤ b → nat_le a b ≡ true
le-true a b h = grind (arith, nat_tests)

pub le-false : (a b : ℕ) → b < a → nat_le a b ≡ false
le-false a b h = grind (arith, nat_tests)

pub lt-true : (a b : ℕ) → a < b → nat_lt a b ≡ true
lt-true a b h = grind (arith, nat_tests)

pub lt-false : (a b : ℕ) → b ≤ a → nat_lt a b ≡ false
lt-false a b h = grind (arith, nat_tests)

-- ---- what a call's answer and what it leaves say of what was granted

pub answered : {A B : Type 0} (a : A) (b : B) (old : A) (g : Granted (A × B)) → Ok b ≡ answer_of g → a ≡ left_of old g → g ≡ Ok (a, b)
answered a b old (Ok p) e l = let q : b ≡ p.1 = cc in rw (l, q) refl
answered a b old (Err r) e l = absurd (cc)

pub answer-refused : {A B : Type 0} {r : Refusal} (g : Granted (A × B)) → Err r ≡ answer_of g → g ≡ Err r
answer-refused (Ok p) e = absurd (cc)
answer-refused (Err r) e = cc

pub done : {A : Type 0} {a : A} (old : A) (g : Granted A) → Ok tt ≡ outcome_of g → a ≡ result_or old g → g ≡ Ok a
done old (Ok x) e l = cc
done old (Err r) e l = absurd (cc)

pub done-refused : {A : Type 0} {r : Refusal} (g : Granted A) → Err r ≡ outcome_of g → g ≡ Err r
done-refused (Ok x) e = absurd (cc)
done-refused (Err r) e = cc
