-- Which refs tasks with code of their own gave: a ref that was given stays one of theirs, or none.
use Rattle.rh_laws.proofs.Common.{◌≡◌, ℕ, ◌+◌, ◌<◌, ◌≤◌, List, [], ◌∷◌, ◌++◌, refl, ◌∙◌, inl, inr, arith, eqb_tells, find, Command, Reply, Desk}
use Rattle.rh_laws.proofs.Common.{has_name, next_ref, after, step, chosen}
use Rattle.std.specs.List.{flat_map}
use Rattle.rh_defs.specs.declared.command.Command.TheVariants as command
use Rattle.rh_defs.specs.declared.raw_command.RawCommand.TheVariants as raw
use Rattle.rh_defs.specs.declared.reply.Reply.TheVariants as reply
use Rattle.rh_defs.specs.RawTasks.{is_raw_task}
use Rattle.rh_safety.specs.Numbers.{GoUp, refs_in}
use Rattle.rh_safety.specs.RawIds.{Gave, gave_from, gave_next, gave_sent}
use Rattle.rh_safety.proofs.Numbers.{numbers-go-up}

-- the next ref doesn't fall
rise-ends : (least next : ℕ) (ns : List ℕ) → GoUp least next ns → least ≤ next
rise-ends least next [] up = up
rise-ends least next (n ∷ ns) up = let here = up.0 in let rest = rise-ends (n + 1) next ns up.1 in omega (arith, here, rest)

pub next-rises : (d : Desk) (c : Command) → next_ref d ≤ next_ref (step d c).0
next-rises d c = rise-ends (next_ref d) (next_ref (step d c).0) (flat_map refs_in ((step d c).1 ∷ [])) (numbers-go-up d (c ∷ [])).refs

module _ (R : Gave) (d : Desk) (i : ℕ) (old : i < next_ref d) where
  -- a reply tells a new ref
  sent-kept : (next : ℕ) (r : Reply) → GoUp (next_ref d) next (flat_map refs_in (r ∷ [])) → gave_sent R r i ≡ R i
  sent-kept next (reply.Sent ref) up = elim (eqb_tells i ref) [
    | inl w ↦ absurd (let low = up.0 in let same = w.1 in omega (arith, old, low, same))
    | inr w ↦ rw w.0 refl
  ]
  sent-kept next r up = refl

  pub gave-kept : (c : Command) → gave_next R d c (step d c).1 i ≡ R i
  gave-kept c = go c (sent-kept (next_ref (step d c).0) (step d c).1 (numbers-go-up d (c ∷ [])).refs)
    where
      go : (c : Command) → gave_sent R (step d c).1 i ≡ R i → gave_next R d c (step d c).1 i ≡ R i
      go (command.Raw (raw.Send name recorded h ref a bytes)) kept = kept
      go (command.Raw (raw.Spool name k h ref)) kept = kept
      go (command.Repeat name) kept = chosen (λ (S : Gave). S i ≡ R i) (is_raw_task (find (has_name name) d.tasks)) _ R kept refl
      go c kept = refl

pub gave-stays : (R : Gave) (d : Desk) (cs : List Command) (i : ℕ) → i < next_ref d → gave_from R d cs i ≡ R i
gave-stays R d [] i old = refl
gave-stays R d (c ∷ cs) i old =
    let up = next-rises d c in
    gave-stays (gave_next R d c (step d c).1) (step d c).0 cs i (omega (arith, old, up)) ∙ gave-kept R d i old c

pub gave-joined : (R : Gave) (d : Desk) (cs ds : List Command) → gave_from R d (cs ++ ds) ≡ gave_from (gave_from R d cs) (after d cs) ds
gave-joined R d [] ds = refl
gave-joined R d (c ∷ cs) ds = gave-joined (gave_next R d c (step d c).1) (step d c).0 cs ds
