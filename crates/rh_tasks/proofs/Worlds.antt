-- What holds of every world, and of the desk that it spells.
use Rattle.std.proofs.Common.{◌≡◌, ℕ, ◌+◌, ◌≤◌, ◌<◌, refl, ap, subst, arith, List, [], ◌∷◌, length}
use Rattle.std.specs.Prelude.{map, Option, Ok, true}
use Rattle.rh_defs.specs.Memory.{Memory}
use Rattle.rh_defs.specs.Files.{FileList}
use Rattle.rh_defs.specs.declared.command.Command.{Command}
use Rattle.rh_defs.specs.declared.reply.Reply.{Reply}
use Rattle.rh_defs.specs.declared.reply.Reply.TheVariants as reply
use Rattle.std.proofs.lemmas.List.{length-map}
use Rattle.rh_defs.specs.Chain.{Granted, or_else}
use Rattle.rh_defs.specs.Range.{in_range}
use Rattle.rh_defs.specs.Post as post
use Rattle.rh_defs.specs.Desk.{Desk, Task, Made, Scrap, most_tasks, free_pages, most_made}
use Rattle.rh_defs.specs.Commands.{Answer, change}
use Rattle.rh_defs.specs.Laws.{IsDesk, Rise}
use Rattle.rh_defs.proofs.Steps.{step-keeps}
use Rattle.rh_defs.specs.Forms.{first_made}
use Rattle.rh_tasks.specs.declared.seat.Seat.{Seat}
use Rattle.rh_tasks.specs.declared.made.MadeArea.{MadeArea}
use Rattle.rh_tasks.specs.View.{Kept, task_of, made_of, desk_of, Avoids, AreDistinct, IsWorld}
use Rattle.rh_tasks.specs.Inner.MadeNumbers.{made_number}

above-avoids : {A B : Type 0} (number : B → ℕ) (f : A → B) (key : A → ℕ) → ((x : A) → number (f x) ≡ key x) → (least next k : ℕ) (xs : List A) → k < least
    → Rise number least next (map f xs) → Avoids k (map key xs)
above-avoids number f key is least next k [] low up = tt
above-avoids number f key is least next k (x ∷ xs) low up =
    ((λ q. absurd (omega (arith, up.0, is x))), above-avoids number f key is (number (f x) + 1) next k xs (omega (arith, up.0)) up.1)

-- numbers that go up are distinct
pub rise-distinct : {A B : Type 0} (number : B → ℕ) (f : A → B) (key : A → ℕ) → ((x : A) → number (f x) ≡ key x) → (least next : ℕ) (xs : List A)
    → Rise number least next (map f xs) → AreDistinct (map key xs)
rise-distinct number f key is least next [] up = tt
rise-distinct number f key is least next (x ∷ xs) up =
    (above-avoids number f key is (number (f x) + 1) next (key x) xs (omega (arith, is x)) up.1, rise-distinct number f key is (number (f x) + 1) next xs up.1)

module _ {m : Memory} {seats : List Seat} {made : List MadeArea} {files : FileList} {kept : Kept} (w : IsWorld m seats made files kept) where
  abbrev pub the_desk : Desk
  the_desk = desk_of m seats made files kept

  pub free-is : free_pages the_desk ≡ m.free
  free-is = omega (arith, w.ledger)

  pub handles : AreDistinct (map (λ (s : Seat). s.handle) seats)
  unfolding task_of
  handles = rise-distinct (λ (t : Task). t.handle) (task_of m) (λ (s : Seat). s.handle) (λ s. refl) 0 kept.next.handle seats w.desk.handles

  pub numbers : AreDistinct (map made_number made)
  unfolding made_of
  numbers = rise-distinct (λ (x : Made). x.number) (made_of m) made_number (λ a. refl) first_made kept.next.area made w.desk.made.numbers

  pub few-made : length made ≤ most_made
  few-made = omega (arith, w.desk.made.few, length-map made (made_of m))

  pub few-seats : length seats ≤ most_tasks
  few-seats = omega (arith, w.desk.few, length-map seats (task_of m))

-- numbers that go up stay below the next one
pub rise-below : {A B : Type 0} (number : B → ℕ) (f : A → B) (key : A → ℕ) → ((x : A) → number (f x) ≡ key x) → (least next : ℕ) (xs : List A)
    → Rise number least next (map f xs) → (least ≤ next) × Avoids next (map key xs)
rise-below number f key is least next [] up = (up, tt)
rise-below number f key is least next (x ∷ xs) up =
    let rest = rise-below number f key is (number (f x) + 1) next xs up.1 in
    (omega (arith, rest.0, up.0), ((λ q. absurd (omega (arith, rest.0, is x))), rest.1))

-- a command that is granted keeps what every command keeps
pub granted-keeps : (d new : Desk) (c : Command) (said : Reply) → change d c ≡ Ok (new, said) → in_range c ≡ true → IsDesk d → IsDesk new
unfolding or_else
granted-keeps d new c said e ranged is =
    subst IsDesk (ap (λ (r : Granted Answer). (or_else r (λ refusal. (d, reply.Refused refusal))).0) e) (step-keeps d c ranged is)

pub same-desk : {tasks tasks' : List Task} {post post' : post.Post} {areas areas' : List ℕ} {made made' : List Made} {pool pool' : ℕ}
    {scrap scrap' : Option Scrap} (d : Desk)
    → tasks ≡ tasks' → post ≡ post' → areas ≡ areas' → made ≡ made' → pool ≡ pool' → scrap ≡ scrap'
    → (let x : Desk = record d { tasks = tasks; post = post; areas = areas; made = made; pool = pool; scrap = scrap } in x)
    ≡ (let y : Desk = record d { tasks = tasks'; post = post'; areas = areas'; made = made'; pool = pool'; scrap = scrap' } in y)
same-desk d p q r s t u = cc
