-- What a desk leaves to do, by what was offered: what edits of tasks, and letters sent, make of it.
use Rattle.rh_laws.proofs.Common.{◌≡◌, ◌≢◌, ℕ, ◌+◌, ◌≤◌, true, List, [], ◌∷◌, Option, Some, refl, ap, ◌∙◌, inl, inr, arith, map, nat_eq, eq-eqb, eqb_tells}
use Rattle.rh_laws.proofs.Common.{Letter, Incoming, Outgoing, Taking, total, Parcel, Post, held_by, with_id, Slot, Desk, Task, edit_task, free_pages, Ascend}
use Rattle.rh_laws.proofs.Common.{send_letter, with_post, with_sending, with_slot, with_taking, with_task, taking_ended, OnGrant, granted, granted-with, Has}
use Rattle.rh_laws.proofs.Common.{Offers}
use Rattle.rh_defs.specs.declared.transfer.Outgoing.TheVariants as outgoing
use Rattle.rh_defs.specs.AnyMessage.{read_body}
use Rattle.rh_safety.proofs.SeenTasks.{change_other}
use Rattle.rh_safety.proofs.View.{field}
use Rattle.rh_laws.specs.Progress.{held_work, post_work, source_work, work_ahead}
use Rattle.rh_laws.proofs.WorkPosts.{Lets, sent-is}

-- ---- records

-- a transfer that goes out, by what its id offered
abbrev pub offered_work : Offers → Outgoing → ℕ
offered_work o (outgoing.Open x) = source_work (o x.id) x.count
offered_work o _ = 0

abbrev pub outs_work : Offers → List Outgoing → ℕ
outs_work o vs = total (offered_work o) vs

none-with : {A : Type 0} (f : A → ℕ) (i : ℕ) (v : A) (xs : List A) → ((x : A) → Has x xs → f x ≢ i) → with_id f i v xs ≡ xs
none-with f i v [] ne = refl
none-with f i v (x ∷ xs) ne = elim (eqb_tells (f x) i) [
  | inl w ↦ absurd (ne x (inl refl) w.1)
  | inr w ↦ rw w.0 (ap (λ (ys : List _). x ∷ ys) (none-with f i v xs (λ y has. ne y (inr has))))
]

-- the one record of an id, written anew
pub total-with : {A : Type 0} (size : A → ℕ) (f : A → ℕ) (x v : A) (xs : List A) → Ascend f xs → Has x xs →
    total size (with_id f (f x) v xs) + size x ≡ total size xs + size v
total-with size f x v [] up has = absurd has
total-with size f x v (y ∷ xs) up (inl same) =
    let e : nat_eq (f y) (f x) ≡ true = eq-eqb _ _ (ap f same) in
    let id : f y ≡ f x = ap f same in
    let rest : with_id f (f x) v xs ≡ xs = none-with f (f x) v xs (λ z in_xs same. let late = up.0 z in_xs in omega (arith, late, same, id)) in
    let whole : total size (with_id f (f x) v xs) ≡ total size xs = ap (total size) rest in
    let here : size y ≡ size x = ap size same in
    rw e (omega (arith, whole, here))
total-with size f x v (y ∷ xs) up (inr has) =
    let z = total-with size f x v xs up.1 has in
    elim (eqb_tells (f y) (f x)) [
      | inl w ↦ absurd (let late = up.0 x has in let e = w.1 in omega (arith, late, e))
      | inr w ↦ rw w.0 (omega (arith, z))
    ]

-- the names of the tasks
abbrev pub names_of : List Task → List (List ℕ)
names_of tasks = map (λ (t : Task). t.name) tasks

same-names : (h : ℕ) (f : Task → Task) → ((t : Task) → (f t).name ≡ t.name) → (ts : List Task) → names_of (edit_task h f ts) ≡ names_of ts
same-names h f same [] = refl
same-names h f same (t ∷ ts) = elim (eqb_tells t.handle h) [
  | inl w ↦ rw w.0 (ap (λ (name : List ℕ). name ∷ names_of ts) (same t))
  | inr w ↦ rw w.0 (ap (λ (names : List (List ℕ)). t.name ∷ names) (same-names h f same ts))
]

module _ (o : Offers) where
  abbrev pub tasks_work : List Task → ℕ
  tasks_work tasks = total (λ (t : Task). outs_work o t.sending) tasks

  -- what is left to do at a desk
  abbrev pub work_offered : Desk → ℕ
  work_offered d = post_work d.post + tasks_work d.tasks

  -- ---- edits

  -- an edit that leaves what goes out
  same-work : (h : ℕ) (f : Task → Task) → ((t : Task) → (f t).sending ≡ t.sending) → (ts : List Task) →
      tasks_work (edit_task h f ts) ≡ tasks_work ts
  same-work h f same [] = refl
  same-work h f same (t ∷ ts) = elim (eqb_tells t.handle h) [
    | inl w ↦ rw w.0 (let z : outs_work o (f t).sending ≡ outs_work o t.sending = ap (outs_work o) (same t) in omega (arith, z))
    | inr w ↦ rw w.0 (let z = same-work h f same ts in omega (arith, z))
  ]

  -- what goes out of the task with the handle
  abbrev pub sending_of : ℕ → List Task → List Outgoing
  sending_of h ts = field (λ t. t.sending) [] ts h

  edit-work : (h : ℕ) (edit : List Outgoing → List Outgoing) (ts : List Task) →
      tasks_work (edit_task h (λ (t : Task). record t { sending = edit t.sending }) ts) + outs_work o (sending_of h ts)
      ≤ tasks_work ts + outs_work o (edit (sending_of h ts))
  edit-work h edit [] = omega arith
  edit-work h edit (t ∷ ts) = elim (eqb_tells t.handle h) [
    | inl w ↦ rw w.0 (omega arith)
    | inr w ↦ rw w.0 (let z = edit-work h edit ts in omega (arith, z))
  ]

  -- ---- desks on which a message is handled

  -- The work and c more is no more than w; the task of the handle has these transfers going out, and holds this.
  pub record Here (h : ℕ) (outs : List Outgoing) (c w n : ℕ) (held : Option Parcel) (live : List (List ℕ)) (d : Desk) : Type 0 where
    pub work : work_offered d + c ≤ w
    pub sends : sending_of h d.tasks ≡ outs
    pub holds : held_by h d.post.seats ≡ held
    pub next : d.post.next_ref ≡ n
    pub names : names_of d.tasks ≡ live

  module _ {h : ℕ} {outs : List Outgoing} {c w n : ℕ} {held : Option Parcel} {live : List (List ℕ)} where
    pub task-here : (k : ℕ) (f : Task → Task) → ((t : Task) → (f t).handle ≡ t.handle) → ((t : Task) → (f t).sending ≡ t.sending) →
        ((t : Task) → (f t).name ≡ t.name) → (d : Desk) → Here h outs c w n held live d → Here h outs c w n held live (with_task k f d)
    unfolding with_task
    task-here k f same keeps named d is = record {
      work = let z = same-work k f keeps d.tasks in let y = is.work in omega (arith, y, z);
      sends = change_other (λ t. t.sending) [] k f same keeps d.tasks h ∙ is.sends;
      holds = is.holds;
      next = is.next;
      names = same-names k f named d.tasks ∙ is.names;
    }

    pub slots-here : (k : ℕ) (f : Slot → Slot) (d : Desk) → Here h outs c w n held live d →
        Here h outs c w n held live (with_task k (λ (t : Task). record t { slot = f t.slot }) d)
    slots-here k f d is = task-here k (λ (t : Task). record t { slot = f t.slot }) (λ t. refl) (λ t. refl) (λ t. refl) d is

    pub slot-here : (k : ℕ) (s : Slot) (d : Desk) → Here h outs c w n held live d → Here h outs c w n held live (with_slot k s d)
    slot-here k s d is = slots-here k (λ old. s) d is

    pub ins-here : (k : ℕ) (edit : List Incoming → List Incoming) (d : Desk) → Here h outs c w n held live d →
        Here h outs c w n held live (with_taking k edit d)
    ins-here k edit d is = task-here k (λ (t : Task). record t { taking = edit t.taking }) (λ t. refl) (λ t. refl) (λ t. refl) d is

    pub ended-here : (k : ℕ) (f : Taking) (edit : List Incoming → List Incoming) (d : Desk) → Here h outs c w n held live d →
        Here h outs c w n held live (taking_ended k f edit d)
    unfolding taking_ended
    ended-here k f edit d is = ins-here k edit _ (task-here k _ (λ t. refl) (λ t. refl) (λ t. refl) d is)

    -- other transfers going out
    pub outs-here : (edit : List Outgoing → List Outgoing) (a b : ℕ) → outs_work o (edit outs) + a ≤ outs_work o outs + b →
        (d : Desk) → Here h outs c w n held live d → (work_offered (with_sending h edit d) + (c + a) ≤ w + b) × ((with_sending h edit d).post.next_ref ≡ n)
        × (names_of (with_sending h edit d).tasks ≡ live)
    unfolding with_task
    outs-here edit a b less d is = (
      let y = is.work in
          let z = edit-work h edit d.tasks in
          let p : outs_work o (sending_of h d.tasks) ≡ outs_work o outs = ap (outs_work o) is.sends in
          let q : outs_work o (edit (sending_of h d.tasks)) ≡ outs_work o (edit outs) = ap (λ vs. outs_work o (edit vs)) is.sends in
          omega (arith, y, z, p, q, less),
      is.next,
      same-names h (λ (t : Task). record t { sending = edit t.sending }) (λ t. refl) d.tasks ∙ is.names,
    )

  -- a letter of the task that answers what it holds
  pub letter-here : {h : ℕ} {outs : List Outgoing} {c w n : ℕ} {held : Option Parcel} {live : List (List ℕ)} (l : Letter) → l.from ≡ h → Lets l.your_ref held →
      (d : Desk) → Here h outs c w n held live d →
      OnGrant (λ e. (k : Option Parcel) × Here h outs (c + held_work held) (w + work_ahead (read_body l.body)) (n + 1) k live e) (send_letter l d)
  unfolding send_letter
  letter-here {h} {outs} {c} {w} {n} {held} {live} l from lets d is =
      granted-with _ (sent-is (free_pages d) l held d.post (ap (λ k. held_by k d.post.seats) from ∙ is.holds) lets) λ x z.
      granted (
        held_by h x.0.seats,
        task-here l.from (λ (t : Task). record t { last_sent = Some (l, x.1) }) (λ t. refl) (λ t. refl) (λ t. refl)
            (with_post x.0 d) (posted x.0 z.work z.next),
      )
    where
      posted : (p : Post) → post_work p + held_work held ≤ post_work d.post + work_ahead (read_body l.body) → p.next_ref ≡ d.post.next_ref + 1 →
          Here h outs (c + held_work held) (w + work_ahead (read_body l.body)) (n + 1) (held_by h p.seats) live (with_post p d)
      posted p less next = record {
        work = let y = is.work in omega (arith, y, less);
        sends = is.sends;
        holds = refl;
        next = let y = is.next in omega (arith, next, y);
        names = is.names;
      }
