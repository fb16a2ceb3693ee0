-- A transfer writes its bytes into the buffer of the record that opened their place, and leaves all others.
use Rattle.rh_laws.proofs.Common.{◌≡◌, ◌≢◌, ℕ, ◌+◌, ◌-◌, ◌≤◌, Bool, true, false, not, ◌&&◌, ◌||◌, List, [], ◌∷◌, length, Option, Some, None, refl}
use Rattle.rh_laws.proofs.Common.{sym, ap, ◌∙◌, subst, inl, inr, arith, ◌==◌, find, list_any, Ok, eqb_tells, leb_tells, nat_le, nat_eq, Incoming}
use Rattle.rh_laws.proofs.Common.{Taking, Refusal, NoTask, BadRange, in_id, Desk, Task, edit_task, named, task_at, with_task, Answer, step, at_place}
use Rattle.rh_laws.proofs.Common.{Has, and_left, and_right, contains_of, first_is, is_equal, put_same, same_value, is_found, field_is, live_of}
use Rattle.rh_laws.proofs.Common.{buffers_of, task_of, written, held_by}
use Rattle.rh_defs.specs.declared.command.Command.TheVariants as command
use Rattle.rh_defs.specs.declared.raw_command.RawCommand.TheVariants as raw
use Rattle.rh_defs.specs.declared.refusal.Refusal.TheVariants.{WrongManner}
use Rattle.rh_defs.specs.declared.reply.Reply.TheVariants as reply
use Rattle.rh_defs.specs.declared.transfer.Incoming.TheVariants as incoming
use Rattle.rh_defs.specs.Places.{bytes_held, overlap, written_held}
use Rattle.rh_defs.specs.RawCommands.{is_bad_move, is_shut, transfer}
use Rattle.rh_defs.specs.RawTasks.{is_open_to, is_raw, opens_buffer}
use Rattle.rh_defs.specs.Slot.{holds}
use Rattle.rh_safety.proofs.Basics.{Ascend, one_of_id}
use Rattle.rh_safety.proofs.SeenBlocks.{not_refused}
use Rattle.rh_safety.proofs.SeenDocuments.{buffer_is}
use Rattle.rh_safety.proofs.SeenFrames.{bind, done, instead_of, test}
use Rattle.rh_safety.proofs.SeenTransfers.{moved_size}
use Rattle.rh_laws.specs.Contents.{fetches_into, Contents, contents_moved, contents_next, contents_written}
use Rattle.rh_laws.proofs.ContentRecords.{Filled, same-filled, written-filled}
use Rattle.rh_laws.proofs.ContentSlots.{written-into}
use Rattle.rh_laws.proofs.ContentTasks.{Each, Holds, apart, filled-other, fit, found, none-of, recorded, seen, there}
use Rattle.rh_laws.proofs.Frames.{edit-other, edit-own}

-- what passes a test is found
record FoundOne (p : Incoming → Bool) (ws : List Incoming) : Type 0 where
  one : Incoming
  is : find p ws ≡ Some one

find-one : (p : Incoming → Bool) (ws : List Incoming) → list_any p ws ≡ true → FoundOne p ws
find-one p [] q = absurd (let z : false ≡ true = q in (cc))
find-one p (w ∷ ws) q = go (p w) refl q (λ z. find-one p ws z)
  where
    go : (b : Bool) → p w ≡ b → (b || list_any p ws) ≡ true → (list_any p ws ≡ true → FoundOne p ws) → FoundOne p (w ∷ ws)
    go true e z rest = record { one = w; is = rw e refl }
    go false e z rest = let r = rest z in record { one = r.one; is = rw e r.is }

-- other handles' rows are as they were
written-other : (g : Contents) (k y : ℕ) (bytes : List ℕ) (o : Option Incoming) (h : ℕ) → h ≢ k → contents_written g k y bytes o h ≡ g h
written-other g k y bytes (Some (incoming.Fetching f)) h ne = filled-other g k f.id _ h ne
written-other g k y bytes (Some (incoming.Draining f)) h ne = refl
written-other g k y bytes (Some (incoming.Asking q)) h ne = refl
written-other g k y bytes (Some (incoming.Done i a n)) h ne = refl
written-other g k y bytes (Some (incoming.Failed i a n)) h ne = refl
written-other g k y bytes None h ne = refl

module _ {g : Contents} {d : Desk} (w : Holds g d) where
  -- ---- bytes that are moved

  -- to a task that the desk plays, by a record that fetches from the one that moves them
  module _ (t u : Task) (of_t : task_at t.handle d ≡ Some t) (of_u : task_at u.handle d ≡ Some u) (y : ℕ) (new : List ℕ) (n : ℕ)
      (few : length new ≤ n) (codes : is_raw t.manner ≡ true) where
    theirs : (k : Taking) → Has (incoming.Fetching k) u.taking → k.sender ≡ t.handle → k.raw ≡ true
    theirs k has from =
        w.known.raws.flags u.handle k (seen w u of_u (incoming.Fetching k) has) ∙ w.known.raws.senders u.handle k
        (inl (seen w u of_u (incoming.Fetching k) has)) ∙
        ap w.known.coded from ∙ sym (w.known.raws.manners t.handle (live_of d t.handle t of_t)) ∙
        field_is (λ z. is_raw z.manner) false t.handle d.tasks t of_t ∙ codes

    abbrev after_ : Option Incoming → Type 0
    after_ v = Filled (contents_written g u.handle y new v u.handle) (buffers_of (written_held y new u.slot)) u.taking

    into : (v : Incoming) → Has v u.taking → opens_buffer t.handle u.buffer y n v ≡ true → after_ (Some v)
    into (incoming.Fetching k) has opens =
        let from : k.sender ≡ t.handle = is_equal _ _ (and_left (nat_eq k.sender t.handle) _ opens) in
        let inside = and_right (nat_eq k.sender t.handle) _ opens in
        let low : k.buffer ≤ y = grind (arith, leb_tells k.buffer y, and_left (nat_le k.buffer y) _ inside) in
        let high : y + n ≤ k.buffer + u.buffer = grind (arith, leb_tells (y + n) (k.buffer + u.buffer), and_right (nat_le k.buffer y) _ inside) in
        let r = recorded w u of_u in
        let room = r.rooms k (inl (contains_of u.taking (incoming.Fetching k) has)) in
        let size = room.size in
        let here : buffers_of u.slot k.buffer ≡ Some (g u.handle k.id) = (w.each u.handle u of_u).each k has (theirs k has from) in
        let same : room.bytes ≡ g u.handle k.id = same_value (buffers_of u.slot k.buffer) (sym (buffer_is k.buffer u.slot) ∙ room.there) here in
        let long : length room.bytes ≡ length (g u.handle k.id) = ap (λ (z : List ℕ). length z) same in
        let bytes : List ℕ = written (g u.handle k.id) (y - k.buffer) new in
        let one : (j : Taking) → Has (incoming.Fetching j) u.taking → j.id ≡ k.id → j.buffer ≡ k.buffer = λ j there_ id.
        (let z : incoming.Fetching j ≡ incoming.Fetching k = one_of_id in_id u.taking (incoming.Fetching j) (incoming.Fetching k)
        (ascends u of_u) there_ has id in let e : j ≡ k = cc in ap (λ (z : Taking). z.buffer) e) in
        subst (λ (x : ℕ → List ℕ). Filled x (buffers_of (written_held y new u.slot)) u.taking)
        (sym (put_same g u.handle (at_place (g u.handle) k.id bytes)))
        (same-filled (written-filled (w.each u.handle u of_u) k bytes one (λ j there_ e. apart w u of_u j k there_ (inl has) e))
        (written-into y new u.slot k.buffer (g u.handle k.id) ((fit w).slots u.handle u of_u) here low (omega (arith, high, few, size, long))))
      where
        ascends : (u : Task) → task_at u.handle d ≡ Some u → Ascend in_id u.taking
        ascends u at_u = subst (λ (ws : List Incoming). Ascend in_id ws) (field_is (λ z. z.taking) [] u.handle d.tasks u at_u)
            (w.known.good.inv.order.ins u.handle)
    into (incoming.Draining k) has opens = absurd (let z : false ≡ true = opens in (cc))
    into (incoming.Asking k) has opens = absurd (let z : false ≡ true = opens in (cc))
    into (incoming.Done i a k) has opens = absurd (let z : false ≡ true = opens in (cc))
    into (incoming.Failed i a k) has opens = absurd (let z : false ≡ true = opens in (cc))

    opened : list_any (opens_buffer t.handle u.buffer y n) u.taking ≡ true → after_ (find (opens_buffer t.handle u.buffer y n) u.taking)
    opened any =
        let w = find-one (opens_buffer t.handle u.buffer y n) u.taking any in
        let q = first_is (opens_buffer t.handle u.buffer y n) u.taking w.one w.is in
        subst after_ (sym w.is) (into w.one q.0 q.1)

  pub transfer-each : (name : List ℕ) (x k y n : ℕ) → let c = command.Raw (raw.Transfer name x k y n) in Each (contents_next g d c (step d c).1) (step d c)
  unfolding transfer with_task
  transfer-each name x k y n =
      bind P _ _ (instead_of d) same (λ t q. test P _ _ (instead_of d) same (λ u v. bind P _ _ (instead_of d) same (λ r i.
      test P _ _ (instead_of d) same (λ m j. done P _ (instead_of d)
      (moved t q (not_refused _ BadRange u v) r (is_found (task_at k d) NoTask r i) (off (is_raw t.manner) (not_refused _ WrongManner m j)))))))
    where
      P : Answer → Type 0
      P a = Each (contents_next g d (command.Raw (raw.Transfer name x k y n)) a.1) a

      same : (refusal : Refusal) → P (instead_of d refusal)
      same refusal = w.each

      off : (b : Bool) → not b ≡ false → b ≡ true
      off true e = refl
      off false e = absurd (let z : Bool.true ≡ false = e in (cc))

      either_off : (a b : Bool) → (a || b) ≡ false → b ≡ false
      either_off true b e = absurd (let z : Bool.true ≡ false = e in (cc))
      either_off false b e = e

      moved : (t : Task) → named name d ≡ Ok t → is_bad_move d t x k y n ≡ false → (u : Task) → task_at k d ≡ Some u → is_raw t.manner ≡ true →
          P (with_task u.handle (λ (r : Task). record r { slot = written_held y (bytes_held x n t.slot) r.slot }) d, reply.Done)
      moved t q good u at_k codes =
          subst (λ v. Each (contents_moved g v (task_at k d) x y n) a) (sym (found w name t q))
          (subst (λ v. Each (contents_moved g (Some t) v x y n) a) (sym at_k) each)
        where
          new : List ℕ
          new = bytes_held x n t.slot

          edit : Task → Task
          edit r = record r { slot = written_held y (bytes_held x n t.slot) r.slot }

          a : Answer
          a = (with_task u.handle edit d, reply.Done)

          same_k : u.handle ≡ k
          same_k = is_equal _ _ (first_is (λ (z : Task). z.handle == k) d.tasks u at_k).1

          of_u : task_at u.handle d ≡ Some u
          of_u = ap (λ j. task_at j d) same_k ∙ at_k

          shut : is_shut t.handle (held_by t.handle d.post.seats) y n (Some u) ≡ false
          shut = ap (is_shut t.handle (held_by t.handle d.post.seats) y n) (sym at_k)
              ∙ either_off (not (holds x n t.slot) || (t.handle == k && overlap x n y n)) _ good

          open_ : (b : Bool) → is_raw u.manner ≡ b →
              Filled (contents_written g u.handle y new (find (fetches_into t.handle u.buffer y n) u.taking) u.handle)
              (buffers_of (written_held y new u.slot)) u.taking
          open_ true its = none-of w u of_u its _ _
          open_ false plays =
              let opens : is_open_to t.handle (held_by t.handle d.post.seats) u y n ≡ true = off _ shut in
              let any : list_any (opens_buffer t.handle u.buffer y n) u.taking ≡ true = rw plays at opens in
              opened t u (there w name t q) of_u y new n (moved_size x n t.slot) codes any

          each : Each (contents_moved g (Some t) (Some u) x y n) a
          each h v at_ = elim (eqb_tells h u.handle) [
            | inl here ↦
                let now : task_at h a.0 ≡ Some (edit u) =
                ap (λ j. task_of j (edit_task u.handle edit d.tasks)) here.1 ∙ edit-own u.handle edit (λ z. refl) d.tasks u of_u in
                let that : edit u ≡ v = same_value (task_at h a.0) now at_ in
                subst (λ (z : Task). Filled (contents_moved g (Some t) (Some u) x y n h) (buffers_of z.slot) z.taking) that
                (subst (λ j. Filled (contents_moved g (Some t) (Some u) x y n j) (buffers_of (written_held y new u.slot)) u.taking) (sym here.1)
                (open_ (is_raw u.manner) refl))
            | inr away ↦
                subst (λ (z : ℕ → List ℕ). Filled z (buffers_of v.slot) v.taking)
                (sym (written-other g u.handle y new (find (opens_buffer t.handle u.buffer y n) u.taking) h away.1))
                (w.each h v (sym (edit-other u.handle h edit (λ z. refl) d.tasks (λ z. away.1 (sym z))) ∙ at_))
          ]
