-- The numbers of an answer, as they are read off a desk item by item.
use Rattle.rh_tasks.proofs.Common.{◌≡◌, refl, ◌∙◌, ap, Ok, Err, Reply, Granted, ◌>>=◌, Shown, Task}
use Rattle.rh_defs.specs.declared.question.Numbers.{Numbers}
use Rattle.rh_defs.specs.declared.reply.Reply.TheVariants as reply
use Rattle.rh_defs.specs.Questions.{Told}
use Rattle.rh_tasks.specs.Answer.{Gives, first_told}
use Rattle.rh_tasks.specs.Inner.CommandAnswers.{answered}

-- a question that was told gives its answer, and changes nothing
pub told-gives : (g : Granted Told) (w : Shown) (told : Granted Numbers) (r : Granted Reply) → told ≡ first_told g → r ≡ answered told
    → Gives (g >>= λ told. Ok (w.desk, reply.Answered told.0)) w w r
unfolding ◌>>=◌
told-gives (Ok told) w n r e f = rw (f, e) refl
told-gives (Err refusal) w n r e f = rw (f, e) (refl, refl)

-- the numbers of what is read
abbrev pub say : {A : Type 0} → (A → Numbers) → Granted A → Granted Numbers
say f (Ok x) = Ok (f x)
say f (Err refusal) = Err refusal

-- where one item of a task tells the same as its whole answer, so does the item that is read
pub read-told : {A : Type 0} (f : A → Numbers) (g : Granted Task) (whole : Task → Granted Told) (one : Task → Granted A)
    → ((t : Task) → say f (one t) ≡ first_told (whole t)) → (r : Granted A) → r ≡ (g >>= one) → say f r ≡ first_told (g >>= whole)
unfolding ◌>>=◌
read-told f (Ok t) whole one same r e = ap (say f) e ∙ same t
read-told f (Err refusal) whole one same r e = ap (say f) e
