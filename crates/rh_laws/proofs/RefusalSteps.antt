-- The steps of a command against the rows of its table, one after another.
use Rattle.rh_laws.proofs.Common.{◌≡◌, Bool, true, false, List, [], ◌∷◌, Option, Some, None, refl, sym, ap, ◌∙◌, is_none, ◌||◌, Ok, Err, if◌then◌else◌}
use Rattle.rh_laws.proofs.Common.{Refusal, Granted, ◌>>=◌, ◌>>◌, refuse_if, found_or, or_else, Desk, Answer}
use Rattle.rh_defs.specs.declared.reply.Reply.TheVariants as reply
use Rattle.rh_laws.specs.RefusalOrder.{RefusalRow, first_refusal, refusal_in}

-- why a command is refused; none where it is granted
abbrev pub told : Granted Answer → Option Refusal
told (Ok a) = refusal_in a.1
told (Err r) = Some r

-- it is told the refusal of the first row that holds
pub record GoesBy (g : Granted Answer) (rows : List RefusalRow) : Type 0 where
  pub is : told g ≡ first_refusal rows

-- the reply says the same
pub replied : (d : Desk) (g : Granted Answer) → refusal_in (or_else g (λ r. (d, reply.Refused r))).1 ≡ told g
unfolding or_else
replied d (Ok a) = refl
replied d (Err r) = refl

-- granted at the end
pub done : (a : Answer) → refusal_in a.1 ≡ None → GoesBy (Ok a) []
done a e = record { is = e }

pub same_rows : {g : Granted Answer} {rows other : List RefusalRow} → rows ≡ other → GoesBy g rows → GoesBy g other
same_rows e q = record { is = q.is ∙ ap first_refusal e }

-- ---- a refusal by a test

row_if : (b : Bool) (r : Refusal) (g : Granted Answer) (rows : List RefusalRow) → (b ≡ false → GoesBy g rows)
    → GoesBy (refuse_if b r >>= λ _. g) ((r, b) ∷ rows)
unfolding ◌>>=◌ refuse_if
row_if true r g rows k = record { is = refl }
row_if false r g rows k = record { is = (k refl).is }

-- where the row asks the same in other words
pub refused_if : (b c : Bool) (r : Refusal) (g : Granted Answer) (rows : List RefusalRow) → b ≡ c
    → (c ≡ false → GoesBy g rows) → GoesBy (refuse_if b r >>= λ _. g) ((r, c) ∷ rows)
refused_if b c r g rows e k = same_rows (ap (λ (x : Bool). (r, x) ∷ rows) e) (row_if b r g rows (λ no. k (sym e ∙ no)))

pub refused_then : (b c : Bool) (r : Refusal) (g : Granted Answer) (rows : List RefusalRow) → b ≡ c
    → (c ≡ false → GoesBy g rows) → GoesBy (refuse_if b r >> g) ((r, c) ∷ rows)
unfolding ◌>>◌
refused_then b c r g rows e k = refused_if b c r g rows e k

-- ---- a refusal where nothing is found

pub found_then : {A : Type 0} (o : Option A) (r : Refusal) (next : A → Granted Answer) (rows : List RefusalRow)
    → ((x : A) → o ≡ Some x → GoesBy (next x) rows) → GoesBy (found_or o r >>= next) ((r, is_none o) ∷ rows)
unfolding ◌>>=◌ found_or
found_then None r next rows k = record { is = refl }
found_then (Some x) r next rows k = record { is = (k x refl).is }

-- ---- steps without a row

-- a step that is granted
pub granted_then : {A : Type 0} (g : Granted A) (x : A) (next : A → Granted Answer) (rows : List RefusalRow) → g ≡ Ok x
    → GoesBy (next x) rows → GoesBy (g >>= next) rows
unfolding ◌>>=◌
granted_then {A} g x next rows e q = record { is = ap (λ (y : Granted A). told (y >>= next)) e ∙ q.is }

-- steps of a step
pub in_steps : {A B : Type 0} (g : Granted A) (f : A → Granted B) (next : B → Granted Answer) (rows : List RefusalRow)
    → GoesBy (g >>= λ x. f x >>= next) rows → GoesBy ((g >>= f) >>= next) rows
unfolding ◌>>=◌
in_steps (Ok x) f next rows q = q
in_steps (Err r) f next rows q = q

pub in_steps_both : {A B : Type 0} (g : Granted A) (f : Granted B) (next : B → Granted Answer) (rows : List RefusalRow)
    → GoesBy (g >>= λ _. f >>= next) rows → GoesBy ((g >> f) >>= next) rows
unfolding ◌>>◌
in_steps_both g f next rows q = in_steps g (λ _. f) next rows q

pub found_is : {A : Type 0} (o : Option A) (x : A) (r : Refusal) → o ≡ Some x → found_or o r ≡ Ok x
unfolding found_or
found_is {A} o x r e = ap (λ (p : Option A). found_or p r) e

pub passes : (b : Bool) (r : Refusal) → b ≡ false → refuse_if b r ≡ Ok tt
unfolding refuse_if
passes b r e = ap (λ (p : Bool). refuse_if p r) e

-- where the row asks the same in other words
pub found_as : {A : Type 0} (o : Option A) (c : Bool) (r : Refusal) (next : A → Granted Answer) (rows : List RefusalRow)
    → is_none o ≡ c → ((x : A) → o ≡ Some x → GoesBy (next x) rows) → GoesBy (found_or o r >>= next) ((r, c) ∷ rows)
found_as o c r next rows e k = same_rows (ap (λ (p : Bool). (r, p) ∷ rows) e) (found_then o r next rows k)

-- a step that finds the block that was found before
pub found_again : {A B : Type 0} (x : A) (r : Refusal) (f : A → Granted B) (next : B → Granted Answer) (rows : List RefusalRow)
    → GoesBy (f x >>= next) rows → GoesBy ((found_or (Some x) r >>= f) >>= next) rows
found_again x r f next rows q = in_steps _ _ _ _ (granted_then _ x _ _ (found_is (Some x) x r refl) q)

-- ---- rows

-- a row whose condition doesn't hold
pub drop_row : {g : Granted Answer} {rows : List RefusalRow} (r : Refusal) (b : Bool) → b ≡ false → GoesBy g ((r, b) ∷ rows)
    → GoesBy g rows
drop_row {rows = rows} r b e q = record { is = q.is ∙ ap (λ (p : Bool). first_refusal ((r, p) ∷ rows)) e }

pub add_row : {g : Granted Answer} {rows : List RefusalRow} (r : Refusal) → GoesBy g rows → GoesBy g ((r, false) ∷ rows)
add_row r q = record { is = q.is }

-- two conditions of one refusal are one
pub one_row : {g : Granted Answer} {rows : List RefusalRow} (row : RefusalRow) (r : Refusal) (a b : Bool)
    → GoesBy g (row ∷ (r, a) ∷ (r, b) ∷ rows) → GoesBy g (row ∷ (r, a || b) ∷ rows)
one_row {rows = rows} row r a b q = record { is = q.is ∙ ap (λ (o : Option Refusal). if row.1 then Some row.0 else o) (both a) }
  where
    both : (a : Bool) → first_refusal ((r, a) ∷ (r, b) ∷ rows) ≡ first_refusal ((r, a || b) ∷ rows)
    both true = refl
    both false = refl
