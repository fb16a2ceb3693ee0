-- What each command makes of the records of a task that is live before and after it.
use Rattle.rh_laws.proofs.Common.{◌≡◌, ◌≢◌, ℕ, ◌+◌, ◌<◌, ◌≤◌, Bool, true, false, not, ◌==◌, List, [], ◌∷◌, ◌++◌, length, Option, Some, None, Ok}
use Rattle.rh_laws.proofs.Common.{refl, sym, ap, ◌∙◌, subst, inl, inr, ◌⊎◌, arith, eqb_tells, leb_tells, nat_eq, if◌then◌else◌, filter}
use Rattle.rh_laws.proofs.Common.{option_map, AllByRecursion, chosen, either, OnGrant, granted, granted-past, granted-then, granted-with, granted-both}
use Rattle.rh_laws.proofs.Common.{or_else-keeps, any-grant, Command, Manner, Body, Granted, Letter, Parcel, Slot, Sending, Taking}
use Rattle.rh_laws.proofs.Common.{Incoming, Outgoing, Desk, Task, edit_task, named, next_ref, send_letter, task_of, with_delivered}
use Rattle.rh_laws.proofs.Common.{with_sending, with_taking, with_task, taking_ended, appended, handled, in_id, out_id, is_open, with_id}
use Rattle.rh_laws.proofs.Common.{start_task, kill, make, save, repeat, poll, poll_taken, cancel_in, cancel_out, change, step, Answer, Handled}
use Rattle.rh_laws.proofs.Common.{post_poll, unwrap_or, without_buffer, Changed, IsOnMemory, granted-on, in_slot, in_areas, in_made, in_module, in_nothing}
use Rattle.rh_laws.proofs.Common.{Active, Has, contains_of, has_of, first_is, is_equal, none_some, open_is, found_name, is_found, Fits, fits}
use Rattle.rh_laws.proofs.Common.{the_task, live_of, field_is, slot_block, NotOpen, Split, Flex, Part}
use Rattle.rh_defs.specs.AnyMessage.{as_read}
use Rattle.rh_defs.specs.Commands.{with_released}
use Rattle.rh_defs.specs.OutgoingEvents.{scrap_shortage, wider}
use Rattle.rh_defs.specs.Places.{bytes_held, written_held}
use Rattle.rh_defs.specs.RawCommands.{ack, after_answer, send, spool, transfer}
use Rattle.rh_defs.specs.RawTasks.{is_raw}
use Rattle.rh_defs.specs.Receiver as receiver
use Rattle.rh_defs.specs.Records.{dropped, is_going, most_records, one_more}
use Rattle.rh_defs.specs.Sender as sender
use Rattle.rh_defs.specs.Laws.{Rise}
use Rattle.rh_defs.specs.Transfer.{received}
use Rattle.rh_defs.specs.declared.command.Command.TheVariants as command
use Rattle.rh_defs.specs.declared.raw_command.RawCommand.{RawCommand}
use Rattle.rh_defs.specs.declared.raw_command.RawCommand.TheVariants as raw
use Rattle.rh_defs.specs.declared.reply.Outcome.TheVariants as outcome
use Rattle.rh_defs.specs.declared.transfer.Incoming.TheVariants as incoming
use Rattle.rh_defs.specs.declared.transfer.Outgoing.TheVariants as outgoing
use Rattle.rh_defs.proofs.Chains.{grant-holds}
use Rattle.rh_defs.proofs.Chains as chains
use Rattle.rh_defs.proofs.Lists.{rise-below}
use Rattle.rh_safety.specs.Offered.{bytes_of_block}
use Rattle.rh_safety.specs.TaskRecords.{IsRecorded}
use Rattle.rh_safety.proofs.Acts.{Act, abandons, asks, claim_of, claims, fails, finishes, gives_up, handled-acts, is_back, loads, loads_only}
use Rattle.rh_safety.proofs.Acts.{not-back, part_of, saves, sends, skips, takes_full, takes_last, takes_some, transmit_of}
use Rattle.rh_safety.proofs.Basics.{Has-left, Has-right, more_old, with_keeps, with_old, with_puts}
use Rattle.rh_safety.proofs.KeptPolls.{given}
use Rattle.rh_safety.proofs.RecordLaws.{are_recorded}
use Rattle.rh_safety.proofs.SeenBlocks.{the_block}
use Rattle.rh_safety.proofs.SeenLaws.{IsReached}
use Rattle.rh_safety.proofs.SeenTaking.{poll_taken_is}
use Rattle.rh_laws.specs.Frame.{actor, handle_of}
use Rattle.rh_laws.specs.RecordLives.{Becomes, Comes, ListLives, ByOwn, RecordsLive, TurnsIn, TurnsOut, begins_in, begins_out, turns_ins, turns_outs}
use Rattle.std.specs.List.{Contains}
use Rattle.std.specs.Prelude.{nat_le}
use Rattle.rh_laws.proofs.CancelLaws.{above, one-of}

-- ---- lists of records

all-of : {A : Type 0} (P : A → Type 0) (xs : List A) → ((x : A) → Has x xs → P x) → AllByRecursion P xs
all-of P [] each = tt
all-of P (x ∷ xs) each = (each x (inl refl), all-of P xs (λ y has. each y (inr has)))

module _ {A : Type 0} (id_of : A → ℕ) (lasts : A → Bool) (Turns : A → A → Type 0) (Turn Begin : Type 0) where
  -- what becomes of the one list in the other
  abbrev Lived : List A → List A → Type 0
  Lived before after = ListLives id_of lasts Turns Turn Begin before after

  -- nothing changes
  same-lives : (xs : List A) → Lived xs xs
  same-lives xs = record {
    each = all-of _ xs (λ v has. Becomes.kept (contains_of xs v has));
    from = all-of _ xs (λ v has. Comes.old (contains_of xs v has));
    others = λ v w is there. inl is;
  }

  -- the record of an id written anew
  anew-lives : (xs : List A) (x w : A) → Has x xs → ((y : A) → Has y xs → id_of y ≡ id_of x → y ≡ x) → id_of w ≡ id_of x → Turns x w → Turn →
      Lived xs (with_id id_of (id_of x) w xs)
  anew-lives xs x w here one id turns may = record {
    each = all-of _ xs (λ v has. elim (eqb_tells (id_of v) (id_of x)) [
      | inl a ↦ Becomes.turned w (contains_of _ w (with_puts id_of (id_of x) w xs v has a.1)) (id ∙ sym a.1)
          (subst (λ (y : A). Turns y w) (sym (one v has a.1)) turns) may
      | inr b ↦ Becomes.kept (contains_of _ v (with_keeps id_of (id_of x) w xs v has b.1))
    ]);
    from = all-of _ (with_id id_of (id_of x) w xs) (λ y has. elim (with_old id_of (id_of x) w xs y has) [
      | inl a ↦ Comes.old (contains_of xs y a.0)
      | inr a ↦ subst (Comes id_of lasts Turns Turn Begin xs) (sym a) (Comes.anew x (contains_of xs x here) id turns may)
    ]);
    others = λ v y is there. elim (eqb_tells (id_of v) (id_of x)) [
      | inl a ↦ elim (eqb_tells (id_of y) (id_of x)) [
        | inl b ↦ inr (inr (one v (has_of xs v is) a.1 ∙ sym (one y (has_of xs y there) b.1)))
        | inr b ↦ inr (inl (contains_of _ y (with_keeps id_of (id_of x) w xs y (has_of xs y there) b.1)))
      ]
      | inr a ↦ inl (contains_of _ v (with_keeps id_of (id_of x) w xs v (has_of xs v is) a.1))
    ];
  }

  -- where the first record that ended was left out: the others are there, and it was the oldest such
  left-out : (least next : ℕ) (xs : List A) → Rise id_of least next xs → (v : A) → Has v xs →
      Has v (dropped lasts xs) ⊎ ((lasts v ≡ false) × ((y : A) → Has y xs → lasts y ≡ false → id_of v ≤ id_of y))
  left-out least next [] r v has = absurd has
  left-out least next (x ∷ xs) r v has = go (lasts x) refl has (left-out (id_of x + 1) next xs r.1 v)
    where
      Out : List A → Type 0
      Out ys = (lasts v ≡ false) × ((y : A) → Has y ys → lasts y ≡ false → id_of v ≤ id_of y)

      go : (b : Bool) → lasts x ≡ b → Has v (x ∷ xs) → (Has v xs → Has v (dropped lasts xs) ⊎ Out xs) →
          Has v (if b then x ∷ dropped lasts xs else xs) ⊎ Out (x ∷ xs)
      go true e (inl same) later = inl (inl same)
      go true e (inr k) later = elim (later k) [
        | inl w ↦ inl (inr w)
        | inr w ↦ inr (
          w.0,
          λ y there ended. elim there [
            | inl s ↦ absurd (let z : Bool.true ≡ false = sym e ∙ ap lasts s ∙ ended in (cc))
            | inr j ↦ w.1 y j ended
          ],
        )
      ]
      go false e (inl same) later = inr (
        ap lasts (sym same) ∙ e,
        λ y there ended. elim there [
          | inl s ↦ let z : id_of v ≡ id_of y = ap id_of (sym same ∙ s) in omega (arith, z)
          | inr j ↦ let z : id_of x ≡ id_of v = ap id_of same in let low = above id_of (id_of x + 1) next xs y r.1 j in omega (arith, z, low)
        ],
      )
      go false e (inr k) later = inl k

  -- one more record
  more-lives : (next : ℕ) (xs : List A) (w : A) → Rise id_of 0 next xs → length xs ≤ most_records → lasts w ≡ true →
      ((y : A) → Has y xs → id_of y ≢ id_of w) → Begin → Lived xs (one_more lasts w xs)
  more-lives next xs w r few goes new may = record {
    each = all-of _ xs (λ v has. elim (leb_tells most_records (length xs)) [
      | inl full ↦ elim (left-out 0 next xs r v has) [
        | inl k ↦ Becomes.kept (still-full full.0 v k)
        | inr k ↦ Becomes.dropped w k.0 (λ y there. k.1 y (has_of xs y there)) (let z = full.1 in omega (arith, z, few))
            (contains_of _ w (Has-right w _ (w ∷ []) (inl refl))) is-new may
      ]
      | inr room ↦ Becomes.kept (still-there room.0 v has)
    ]);
    from = all-of _ (one_more lasts w xs) (λ y has. elim (more_old most_records lasts xs w y has) [
      | inl a ↦ Comes.old (contains_of xs y a)
      | inr a ↦ subst (Comes id_of lasts Turns Turn Begin xs) (sym a) (Comes.new is-new may)
    ]);
    others = λ v y is there. elim (leb_tells most_records (length xs)) [
      | inl full ↦ elim (left-out 0 next xs r v (has_of xs v is)) [
        | inl k ↦ inl (still-full full.0 v k)
        | inr k ↦ elim (left-out 0 next xs r y (has_of xs y there)) [
          | inl j ↦ inr (inl (still-full full.0 y j))
          | inr j ↦ inr (inr (one-of id_of 0 next xs v y r (has_of xs v is) (has_of xs y there)
              (let a = k.1 y (has_of xs y there) j.0 in let b = j.1 v (has_of xs v is) k.0 in omega (arith, a, b))))
        ]
      ]
      | inr room ↦ inl (still-there room.0 v (has_of xs v is))
    ];
  }
    where
      is-new : (lasts w ≡ true) × ((x : A) → Contains xs x → id_of x ≢ id_of w)
      is-new = (goes, λ y there. new y (has_of xs y there))

      still-full : nat_le most_records (length xs) ≡ true → (v : A) → Has v (dropped lasts xs) → Contains (one_more lasts w xs) v
      still-full full v k = contains_of _ v (rw full (Has-left v (dropped lasts xs) (w ∷ []) k))

      still-there : nat_le most_records (length xs) ≡ false → (v : A) → Has v xs → Contains (one_more lasts w xs) v
      still-there room v k = contains_of _ v (rw room (Has-left v xs (w ∷ []) k))

-- ids are below the next one
below-next : {A : Type 0} (f : A → ℕ) (least next : ℕ) (xs : List A) (x : A) → Rise f least next xs → Has x xs → f x < next
below-next f least next [] x r has = absurd has
below-next f least next (y ∷ xs) x r (inl same) = let z = rise-below f (f y + 1) next xs r.1 in let e : f y ≡ f x = ap f same in omega (arith, z, e)
below-next f least next (y ∷ xs) x r (inr has) = below-next f (f y + 1) next xs x r.1 has

-- ---- lists of tasks

-- the task of a handle after an edit: it was edited, or was there
edited : (k h : ℕ) (f : Task → Task) → ((y : Task) → (f y).handle ≡ y.handle) → (ts : List Task) (u : Task) →
    task_of h (edit_task k f ts) ≡ Some u → ((x : Task) × ((k ≡ h) × ((task_of h ts ≡ Some x) × (f x ≡ u)))) ⊎ (task_of h ts ≡ Some u)
edited k h f kh [] u q = absurd (none_some None refl q)
edited k h f kh (t ∷ ts) u q = elim (eqb_tells t.handle k) [
  | inl a ↦ elim (eqb_tells t.handle h) [
    | inl b ↦
        let new : nat_eq (f t).handle h ≡ true = rw kh b.0 in
        let same : f t ≡ u = let z = rw (a.0, new) at q in cc in
        inl (t, (sym a.1 ∙ b.1, (rw b.0 refl, same)))
    | inr b ↦
        let new : nat_eq (f t).handle h ≡ false = rw kh b.0 in
        inr (rw b.0 (rw (a.0, new) at q))
  ]
  | inr a ↦ elim (eqb_tells t.handle h) [
    | inl b ↦ inr (rw b.0 (rw (a.0, b.0) at q))
    | inr b ↦ let w = edited k h f kh ts u (rw (a.0, b.0) at q) in rw b.0 w
  ]
]

-- a task that is found is found before later ones
found-before : (h : ℕ) (ts us : List Task) (t : Task) → task_of h ts ≡ Some t → task_of h (ts ++ us) ≡ Some t
found-before h [] us t q = absurd (none_some None refl q)
found-before h (x ∷ ts) us t q = elim (eqb_tells x.handle h) [
  | inl a ↦ rw a.0 (rw a.0 at q)
  | inr a ↦ rw a.0 (found-before h ts us t (rw a.0 at q))
]

-- one that is found where tasks of a handle are gone was found before
found-after : (h k : ℕ) (ts : List Task) (u : Task) → task_of h (filter (λ (t : Task). not (t.handle == k)) ts) ≡ Some u → task_of h ts ≡ Some u
found-after h k [] u q = q
found-after h k (t ∷ ts) u q = elim (eqb_tells t.handle k) [
  | inl a ↦
      let rest : task_of h (filter (λ (t : Task). not (t.handle == k)) ts) ≡ Some u = rw a.0 at q in
      elim (eqb_tells t.handle h) [
        | inl b ↦ absurd (gone (sym a.1 ∙ b.1) ts rest)
        | inr b ↦ rw b.0 (found-after h k ts u rest)
      ]
  | inr a ↦ elim (eqb_tells t.handle h) [
    | inl b ↦ rw b.0 (rw (a.0, b.0) at q)
    | inr b ↦ rw b.0 (found-after h k ts u (rw (a.0, b.0) at q))
  ]
]
  where
    gone : k ≡ h → (ts : List Task) → task_of h (filter (λ (t : Task). not (t.handle == k)) ts) ≡ Some u → ⊥
    gone same [] q = none_some None refl q
    gone same (t ∷ ts) q = elim (eqb_tells t.handle k) [
      | inl a ↦ gone same ts (rw a.0 at q)
      | inr a ↦ elim (eqb_tells t.handle h) [
        | inl b ↦ absurd (a.1 (b.1 ∙ sym same))
        | inr b ↦ gone same ts (rw (a.0, b.0) at q)
      ]
    ]

-- ---- the records of one task

-- what is said of the records of a task
abbrev Said : Type 1
Said = List Outgoing → List Incoming → Type 0

module _ (h : ℕ) (t : Task) where
  -- so it is of the task of the handle, where it is there
  abbrev At : Said → Desk → Type 0
  At Q e = (u : Task) → task_of h e.tasks ≡ Some u → Q u.sending u.taking

  -- they are as those of t
  abbrev Same : Said
  Same vs ws = (vs ≡ t.sending) × (ws ≡ t.taking)

  -- an edit that leaves them
  still-edit : (Q : Said) (k : ℕ) (f : Task → Task) → ((y : Task) → (f y).handle ≡ y.handle) →
      ((y : Task) → Q y.sending y.taking → Q (f y).sending (f y).taking) → (e : Desk) → At Q e → At Q (with_task k f e)
  unfolding with_task
  still-edit Q k f kh keeps e at u q = elim (edited k h f kh e.tasks u q) [
    | inl w ↦ subst (λ (y : Task). Q y.sending y.taking) w.1.1.1 (keeps w.0 (at w.0 w.1.1.0))
    | inr w ↦ at u w
  ]

  slot-still : (Q : Said) (k : ℕ) (edit : Slot → Slot) (e : Desk) → At Q e → At Q (with_task k (λ (y : Task). record y { slot = edit y.slot }) e)
  slot-still Q k edit e at = still-edit Q k (λ (y : Task). record y { slot = edit y.slot }) (λ y. refl) (λ y p. p) e at

  letter-still : (Q : Said) (l : Letter) (e : Desk) → At Q e → OnGrant (At Q) (send_letter l e)
  unfolding send_letter
  letter-still Q l e at =
      granted-then _ _ λ sent q.
      granted (still-edit Q l.from (λ (y : Task). record y { last_sent = Some (l, sent.1) }) (λ y. refl) (λ y p. p) (record e { post = sent.0 }) at)

  posted-still : (Q : Said) (e : Desk) {sent : Desk} (l : Letter) → send_letter l e ≡ Ok sent → At Q e → At Q sent
  posted-still Q e l q at = grant-holds (letter-still Q l e at) q

  longer-still : (Q : Said) (d : Desk) (p : Task) {e : Desk} (k : ℕ) (bytes : List ℕ) → appended d p k bytes ≡ Ok e → At Q d → At Q e
  unfolding appended
  longer-still Q d p k bytes q at = grant-holds edits q
    where
      edits : OnGrant (At Q) (appended d p k bytes)
      edits = granted-then _ _ λ document found. granted-then _ _ λ more e. granted-then _ _ λ s f. granted (slot-still Q p.handle (λ old. s) d at)

  -- an edit that changes them: what has to hold where the task is the one that is looked at
  turn-outs : (Q : Said) (k : ℕ) (edit : List Outgoing → List Outgoing) → Q t.sending t.taking → (k ≡ h → Q (edit t.sending) t.taking) →
      (e : Desk) → At Same e → At Q (with_sending k edit e)
  unfolding with_task
  turn-outs Q k edit still turns e at u q = elim (edited k h (λ (y : Task). record y { sending = edit y.sending }) (λ y. refl) e.tasks u q) [
    | inl w ↦
        let p = at w.0 w.1.1.0 in
        subst (λ (y : Task). Q y.sending y.taking) w.1.1.1
        (subst (λ vs. Q (edit vs) w.0.taking) (sym p.0) (subst (λ ws. Q (edit t.sending) ws) (sym p.1) (turns w.1.0)))
    | inr w ↦ let p = at u w in subst (λ vs. Q vs u.taking) (sym p.0) (subst (λ ws. Q t.sending ws) (sym p.1) still)
  ]

  turn-ins : (Q : Said) (k : ℕ) (edit : List Incoming → List Incoming) → Q t.sending t.taking → (k ≡ h → Q t.sending (edit t.taking)) →
      (e : Desk) → At Same e → At Q (with_taking k edit e)
  unfolding with_task
  turn-ins Q k edit still turns e at u q = elim (edited k h (λ (y : Task). record y { taking = edit y.taking }) (λ y. refl) e.tasks u q) [
    | inl w ↦
        let p = at w.0 w.1.1.0 in
        subst (λ (y : Task). Q y.sending y.taking) w.1.1.1
        (subst (λ vs. Q vs (edit w.0.taking)) (sym p.0) (subst (λ ws. Q t.sending (edit ws)) (sym p.1) (turns w.1.0)))
    | inr w ↦ let p = at u w in subst (λ vs. Q vs u.taking) (sym p.0) (subst (λ ws. Q t.sending ws) (sym p.1) still)
  ]

-- ---- commands that change no record

module _ (d : Desk) (h : ℕ) (t : Task) (at : task_of h d.tasks ≡ Some t) where
  abbrev Stay : Desk → Type 0
  Stay e = At h t (Same h t) e

  -- after an answer
  record Stays (a : Answer) : Type 0 where
    pub desk : Stay a.0

  at-first : Stay d
  at-first u q =
      let one : Some t ≡ Some u = sym at ∙ q in
      let same : t ≡ u = cc in
      (ap (λ (y : Task). y.sending) (sym same), ap (λ (y : Task). y.taking) (sym same))

  stay : {a : Answer} → Stay a.0 → OnGrant Stays (Ok a)
  stay s = granted (record { desk = s })

  start_task-stays : (name : List ℕ) (buffer : ℕ) (manner : Manner) → OnGrant Stays (start_task d name buffer manner)
  unfolding start_task
  start_task-stays name buffer manner =
      granted-past _ _ _ λ x. granted-past _ _ _ λ y. granted-past _ _ _ λ z. granted-then _ _ λ s e.
      stay (λ u q. at-first u (at ∙ sym (found-before h d.tasks _ t at) ∙ q))

  kill-stays : (name : List ℕ) → OnGrant Stays (kill d name)
  unfolding kill with_delivered
  kill-stays name = granted-then _ _ λ p e. stay (λ u q. at-first u (found-after h p.handle d.tasks u q))

  changed-stays : {c : Command} (a : Answer) → Changed c d a → Stays a
  changed-stays _ (in_slot name p s about is quiet) = record { desk = slot-still h t (Same h t) p.handle (λ old. s) d at-first }
  changed-stays _ (in_module m quiet) = record { desk = at-first }
  changed-stays _ (in_areas areas quiet) = record { desk = at-first }
  changed-stays _ (in_made areas quiet) = record { desk = at-first }
  changed-stays _ (in_nothing quiet) = record { desk = at-first }

  memory-stays : (c : Command) → IsOnMemory c → OnGrant Stays (change d c)
  memory-stays c is = granted-on d c is changed-stays

  make-stays : (most : ℕ) → OnGrant Stays (make d most)
  unfolding make
  make-stays most = granted-past _ _ _ λ x. granted-past _ _ _ λ y. stay at-first

  answer-stays : (sent : Desk) → Stay sent → Stay (after_answer sent)
  unfolding with_delivered
  answer-stays sent s = s

  repeat-stays : (name : List ℕ) → OnGrant Stays (repeat d name)
  unfolding repeat
  repeat-stays name =
      granted-then _ _ λ p e. granted-then _ _ λ last f. granted-with _ (letter-still h t (Same h t) _ d at-first) λ sent s.
      stay (chosen Stay (is_raw p.manner) (after_answer sent) sent (answer-stays sent s) s)

  send-stays : (name : List ℕ) (recorded : Bool) (to ref a : ℕ) (bytes : List ℕ) → OnGrant Stays (send d name recorded to ref a bytes)
  unfolding send
  send-stays name recorded to ref a bytes =
      granted-then _ _ λ p e. granted-with _ (letter-still h t (Same h t) _ d at-first) λ sent s. granted-past _ _ _ λ its. granted-past _ _ _ λ was.
      stay (answer-stays sent s)

  ack-stays : (name : List ℕ) → OnGrant Stays (ack d name)
  unfolding ack with_delivered
  ack-stays name = granted-then _ _ λ p e. granted-past _ _ _ λ its. stay at-first

  spool-stays : (name : List ℕ) (k to ref : ℕ) → OnGrant Stays (spool d name k to ref)
  unfolding spool
  spool-stays name k to ref =
      granted-then _ _ λ p e. granted-then _ _ λ b f. granted-past _ _ _ λ none. granted-both _ (any-grant _) λ x u. granted-past _ _ _ λ room.
      granted-with _ (letter-still h t (Same h t) _ (wider (scrap_shortage (length b.here.bytes) d) d) at-first) λ sent s.
      granted-past _ _ _ λ its. granted-past _ _ _ λ was. stay s

  transfer-stays : (name : List ℕ) (x to y n : ℕ) → OnGrant Stays (transfer d name x to y n)
  unfolding transfer
  transfer-stays name x to y n =
      granted-then _ _ λ p e. granted-past _ _ _ λ open_. granted-then _ _ λ r f. granted-past _ _ _ λ its.
      stay (slot-still h t (Same h t) r.handle (λ s. written_held y (bytes_held x n p.slot) s) d at-first)

  raw-stays : (c : RawCommand) → OnGrant Stays (change d (command.Raw c))
  raw-stays (raw.Send name recorded to ref a bytes) = send-stays name recorded to ref a (unwrap_or bytes [])
  raw-stays (raw.Write name x bytes) = memory-stays (command.Raw (raw.Write name x bytes)) refl
  raw-stays (raw.Transfer name x to y n) = transfer-stays name x to y n
  raw-stays (raw.Ack name) = ack-stays name
  raw-stays (raw.Spool name k to ref) = spool-stays name k to ref
  raw-stays (raw.Scrap name k) = memory-stays (command.Raw (raw.Scrap name k)) refl

-- ---- commands that change some

-- what is known of the task: its records stand in order, and those that are open count at most their sources
module _ (c : Command) (d : Desk) (h : ℕ) (t : Task) (at : task_of h d.tasks ≡ Some t) (rec : IsRecorded d t) where
  abbrev Outs : List Outgoing → Type 0
  Outs vs = ListLives out_id is_open TurnsOut (ByOwn turns_outs c d h) (ByOwn begins_out c d h) t.sending vs

  abbrev Ins : List Incoming → Type 0
  Ins ws = ListLives in_id is_going TurnsIn (ByOwn turns_ins c d h) (ByOwn begins_in c d h) t.taking ws

  abbrev Live : Said
  Live vs ws = Outs vs × Ins ws

  abbrev Lives : Desk → Type 0
  Lives e = At h t Live e

  outs-same : Outs t.sending
  outs-same = same-lives out_id is_open TurnsOut (ByOwn turns_outs c d h) (ByOwn begins_out c d h) t.sending

  ins-same : Ins t.taking
  ins-same = same-lives in_id is_going TurnsIn (ByOwn turns_ins c d h) (ByOwn begins_in c d h) t.taking

  lives-on : (e : Desk) → At h t (Same h t) e → Lives e
  lives-on e s u q = let p = s u q in (subst Outs (sym p.0) outs-same, subst Ins (sym p.1) ins-same)

  one-out : (v : Outgoing) → Has v t.sending → (y : Outgoing) → Has y t.sending → out_id y ≡ out_id v → y ≡ v
  one-out v has y there e = one-of out_id 0 (next_ref d) t.sending y v rec.ids_out there has e

  one-in : (v : Incoming) → Has v t.taking → (y : Incoming) → Has y t.taking → in_id y ≡ in_id v → y ≡ v
  one-in v has y there e = one-of in_id 0 (next_ref d) t.taking y v rec.ids_in there has e

  anew-outs : (v w : Outgoing) → Has v t.sending → out_id w ≡ out_id v → TurnsOut v w → ByOwn turns_outs c d h → Outs (with_id out_id (out_id v) w t.sending)
  anew-outs v w has id turns may =
      anew-lives out_id is_open TurnsOut (ByOwn turns_outs c d h) (ByOwn begins_out c d h) t.sending v w has (one-out v has) id turns may

  anew-ins : (v w : Incoming) → Has v t.taking → in_id w ≡ in_id v → TurnsIn v w → ByOwn turns_ins c d h → Ins (with_id in_id (in_id v) w t.taking)
  anew-ins v w has id turns may =
      anew-lives in_id is_going TurnsIn (ByOwn turns_ins c d h) (ByOwn begins_in c d h) t.taking v w has (one-in v has) id turns may

  -- after an answer
  record Keeps (a : Answer) : Type 0 where
    pub desk : Lives a.0

  from-stays : {r : Granted Answer} → OnGrant (Stays d h t at) r → OnGrant Keeps r
  from-stays (granted {x = a} s) = granted (record { desk = lives-on a.0 s.desk })
  from-stays chains.refused = chains.refused

  -- the command is of the task that is looked at
  own-actor : (name : List ℕ) → actor c d ≡ handle_of name d → (p : Task) → p.handle ≡ h → named name d ≡ Ok p → actor c d ≡ Some h
  own-actor name is p mine e = is ∙ ap (option_map (λ (y : Task). y.handle)) (found_name d name p e) ∙ ap Some mine

  -- which is the one of its handle
  the-own : Fits d → (name : List ℕ) (p : Task) → named name d ≡ Ok p → p.handle ≡ h → p ≡ t
  the-own f name p e mine =
      let one : Some p ≡ Some t = sym (the_task d name p f e) ∙ ap (λ j. task_of j d.tasks) mine ∙ at in
      cc

  -- ---- a save

  -- the new record's id is the next ref
  new-out : (next : ℕ) (xs : List Outgoing) → Rise out_id 0 next xs → (y : Outgoing) → Has y xs → out_id y ≢ next
  new-out next xs r y has e = let z = below-next out_id 0 next xs y r has in omega (arith, z, e)

  save-lives : (name : List ℕ) (k : ℕ) (to leaf : List ℕ) → c ≡ command.Save name k to leaf → OnGrant Keeps (save d name k to leaf)
  unfolding save
  save-lives name k to leaf is =
      granted-then _ _ λ p e. granted-then _ _ λ b f. granted-past _ _ _ λ full. granted-then _ _ λ r g.
      granted-with _ (letter-still h t (Same h t) _ d (at-first d h t at)) λ sent s. granted-past _ _ _ λ plays.
      granted (record {
        desk = turn-outs h t Live p.handle (sender.sending_offered (next_ref d) r.handle k) (outs-same, ins-same) (λ mine. (
          more-lives out_id is_open TurnsOut (ByOwn turns_outs c d h) (ByOwn begins_out c d h) (next_ref d) t.sending
              (outgoing.Open (sender.new_sending (next_ref d) r.handle k)) rec.ids_out rec.few_out refl
              (new-out (next_ref d) t.sending rec.ids_out) (ap begins_out is, own-actor name (ap (λ (b : Command). actor b d) is) p mine e),
          ins-same,
        )) sent s;
      })

  -- ---- cancels

  cancel_out-lives : Fits d → (name : List ℕ) (id : Option ℕ) → c ≡ command.CancelOut name id → OnGrant Keeps (cancel_out d name id)
  unfolding cancel_out sender.cancel_sending
  cancel_out-lives f name id is =
      granted-then _ _ λ p e. granted-with {Q = λ vs. p.handle ≡ h → Outs vs} _ (granted-then _ _ λ x g. granted (λ mine.
      let own : p ≡ t = the-own f name p e mine in
      let has : Has (outgoing.Open x) p.sending = (open_is _ p.sending x (is_found _ NotOpen x g)).0 in
      subst (λ (y : Task). Outs (with_id out_id x.id (outgoing.Failed x.id x.count) y.sending)) (sym own)
      (anew-outs (outgoing.Open x) (outgoing.Failed x.id x.count) (subst (λ (y : Task). Has (outgoing.Open x) y.sending) own has) refl refl
      (ap turns_outs is, own-actor name (ap (λ (b : Command). actor b d) is) p mine e)))) λ records all.
      granted (record {
        desk = turn-outs h t Live p.handle (λ _. records) (outs-same, ins-same) (λ mine. (all mine, ins-same)) d (at-first d h t at);
      })

  -- what a cancel makes of a record
  cancelled-in : (id : Option ℕ) (v : Incoming) → receiver.is_wanted id v ≡ true → (in_id (receiver.cancelled v) ≡ in_id v) × TurnsIn v (receiver.cancelled v)
  cancelled-in id (incoming.Fetching f) w =
      chosen (λ (v : Incoming). (in_id v ≡ f.id) × TurnsIn (incoming.Fetching f) v) f.raw (incoming.Failed f.id f.anchor f.count) (incoming.Draining f)
      (refl, (refl, omega arith)) (refl, refl)
  cancelled-in id (incoming.Asking q) w = (refl, refl)
  cancelled-in id (incoming.Draining f) w = absurd (let z : false ≡ true = w in (cc))
  cancelled-in id (incoming.Done i k n) w = absurd (let z : false ≡ true = w in (cc))
  cancelled-in id (incoming.Failed i k n) w = absurd (let z : false ≡ true = w in (cc))

  released-still : (k : ℕ) (o : Option Taking) → At h t (Same h t) (with_released k o d)
  released-still k None = at-first d h t at
  released-still k (Some f) = slot-still h t (Same h t) k (λ s. without_buffer f.buffer s) d (at-first d h t at)

  cancel_in-lives : Fits d → (name : List ℕ) (id : Option ℕ) → c ≡ command.CancelIn name id → OnGrant Keeps (cancel_in d name id)
  unfolding cancel_in receiver.cancel_taking
  cancel_in-lives f name id is =
      granted-then _ _ λ p e. granted-with {Q = λ ws. p.handle ≡ h → Ins ws} _ (granted-then _ _ λ v g. granted (λ mine.
      let own : p ≡ t = the-own f name p e mine in
      let found = first_is (receiver.is_wanted id) p.taking v (is_found _ NotOpen v g) in
      let turn = cancelled-in id v found.1 in
      subst (λ (y : Task). Ins (with_id in_id (in_id v) (receiver.cancelled v) y.taking)) (sym own)
      (anew-ins v (receiver.cancelled v) (subst (λ (y : Task). Has v y.taking) own found.0) turn.0 turn.1
      (ap turns_ins is, own-actor name (ap (λ (b : Command). actor b d) is) p mine e)))) λ records all.
      granted (record {
        desk = turn-ins h t Live p.handle (λ _. records) (outs-same, ins-same) (λ mine. (outs-same, all mine))
            (with_released p.handle (receiver.released_by id p.taking) d) (released-still p.handle (receiver.released_by id p.taking));
      })

  -- ---- polls

  -- the task that polls takes a message on the desk e, and is the one that is looked at where it has its handle
  module _ (e : Desk) (s : At h t (Same h t) e) (p : Task) (m : Parcel) (own : p.handle ≡ h → p ≡ t) (outs_may : p.handle ≡ h → ByOwn turns_outs c d h)
      (ins_may : p.handle ≡ h → ByOwn turns_ins c d h) (begins_may : p.handle ≡ h → ByOwn begins_in c d h)
      (unborn : is_back m.code ≡ false → (w : Incoming) → Has w p.taking → in_id w ≢ m.message.my_ref) where
    -- an open record turns
    out : (x : Sending) (w : Outgoing) → Has (outgoing.Open x) p.sending → out_id w ≡ x.id → (p ≡ t → TurnsOut (outgoing.Open x) w) → (i : Desk) →
        At h t (Same h t) i → Lives (with_sending p.handle (λ vs. with_id out_id x.id w vs) i)
    out x w has id turns i same = turn-outs h t Live p.handle (λ vs. with_id out_id x.id w vs) (outs-same, ins-same) (λ mine. (
      anew-outs (outgoing.Open x) w (subst (λ (y : Task). Has (outgoing.Open x) y.sending) (own mine) has) id (turns (own mine)) (outs_may mine),
      ins-same,
    )) i same

    -- one that comes in turns
    in_ : (v w : Incoming) → Has v p.taking → in_id w ≡ in_id v → TurnsIn v w → (i : Desk) → At h t (Same h t) i →
        Lives (with_taking p.handle (λ ws. with_id in_id (in_id v) w ws) i)
    in_ v w has id turns i same = turn-ins h t Live p.handle (λ ws. with_id in_id (in_id v) w ws) (outs-same, ins-same) (λ mine. (
      outs-same,
      anew-ins v w (subst (λ (y : Task). Has v y.taking) (own mine) has) id turns (ins_may mine),
    )) i same

    -- and its buffer goes
    ended : (f : Taking) (v w : Incoming) → in_id v ≡ f.id → Has v p.taking → in_id w ≡ in_id v → TurnsIn v w → (i : Desk) → At h t (Same h t) i →
        Lives (taking_ended p.handle f (λ ws. with_id in_id f.id w ws) i)
    unfolding taking_ended
    ended f v w is has id turns i same =
        subst (λ n. Lives (with_taking p.handle (λ ws. with_id in_id n w ws)
        (with_task p.handle (λ (y : Task). record y { slot = without_buffer f.buffer y.slot }) i))) is
        (in_ v w has id turns _ (slot-still h t (Same h t) p.handle (λ z. without_buffer f.buffer z) i same))

    abbrev Fails : Taking → Type 0
    Fails f = Lives (taking_ended p.handle f (λ ws. with_id in_id f.id (incoming.Failed f.id f.anchor f.count) ws) e)

    gave-up : (f : Taking) → Active p.taking f → Fails f
    gave-up f (inl has) = ended f (incoming.Fetching f) (incoming.Failed f.id f.anchor f.count) refl has refl (refl, omega arith) e s
    gave-up f (inr has) = ended f (incoming.Draining f) (incoming.Failed f.id f.anchor f.count) refl has refl (refl, refl) e s

    letter : (i : Desk) {sent : Desk} (l : Letter) → send_letter l i ≡ Ok sent → At h t (Same h t) i → At h t (Same h t) sent
    letter i l q same = posted-still h t (Same h t) i l q same

    longer : {i : Desk} (k : ℕ) (bytes : List ℕ) → appended e p k bytes ≡ Ok i → At h t (Same h t) i
    longer k bytes q = longer-still h t (Same h t) e p k bytes q s

    -- what was sent ends the record, or it goes on
    part-turns : (x : Sending) (part : Part) (ref : ℕ) → part.offset ≡ x.count →
        let w = if part.is_last then outgoing.Done x.id (part.offset + part.n) else outgoing.Open (record x { count = part.offset + part.n; last = ref }) in
        (out_id w ≡ x.id) × TurnsOut (outgoing.Open x) w
    part-turns x part ref is =
        chosen (λ (w : Outgoing). (out_id w ≡ x.id) × TurnsOut (outgoing.Open x) w) part.is_last (outgoing.Done x.id (part.offset + part.n))
        (outgoing.Open (record x { count = part.offset + part.n; last = ref })) (refl, omega (arith, is)) (refl, (omega (arith, is), refl))

    -- a source has all that its record counts
    whole : (x : Sending) (source : Split Flex) → Has (outgoing.Open x) p.sending → slot_block x.anchor p.slot ≡ Ok source → p ≡ t →
        x.count ≤ length source.here.bytes
    whole x source has there same =
        let w = rec.sources x (contains_of t.sending (outgoing.Open x) (subst (λ (y : Task). Has (outgoing.Open x) y.sending) same has)) in
        let is : bytes_of_block p.slot x.anchor ≡ Some source.here.bytes =
        ap (option_map (λ (b : Split Flex). b.here.bytes)) (the_block x.anchor p.slot source there) in
        let one : Some source.here.bytes ≡ Some w.bytes = sym is ∙ ap (λ (y : Task). bytes_of_block y.slot x.anchor) same ∙ w.there in
        let bytes : source.here.bytes ≡ w.bytes = cc in
        subst (λ (b : List ℕ). x.count ≤ length b) (sym bytes) w.size

    act-lives : {back : Bool} {b : Body} {x : Handled} → Act e p m back b x → is_back m.code ≡ back → Lives x.0
    act-lives (skips none) code = lives-on e s
    act-lives (fails x o it z) code = out x (outgoing.Failed x.id x.count) it.has refl (λ same. refl) e s
    act-lives (sends {buffer = buffer} {n = n} x source r sent it w) code =
        let part : Part = part_of e p m buffer n x source in
        let turn = part-turns x part (next_ref e) refl in
        out x (sender.after_sent (transmit_of e p m buffer n x) part (next_ref e)) it.has turn.0 (λ same. turn.1) _
        (slot-still h t (Same h t) r.handle _ sent (letter _ _ w.letter s))
    act-lives (saves x source sent it there none l) code =
        out x (outgoing.Open (record x { last = next_ref e })) it.has refl (λ same. (omega arith, refl)) (record sent { scrap = Some _ }) (letter _ _ l s)
    act-lives (finishes x source it there) code =
        out x (outgoing.Done x.id (length source.here.bytes)) it.has refl (whole x source it.has there) e s
    act-lives (claims k b q sent few free claim alloc l) code =
        turn-ins h t Live p.handle (receiver.taking_claimed (claim_of e p m) k b.1 (next_ref e)) (outs-same, ins-same) (λ mine. (
          outs-same,
          more-lives in_id is_going TurnsIn (ByOwn turns_ins c d h) (ByOwn begins_in c d h) (next_ref d) t.taking
              (incoming.Fetching (receiver.new_taking (claim_of e p m) k b.1 (next_ref e))) rec.ids_in rec.few_in refl
              (λ y has. unborn code y (subst (λ (z : Task). Has y z.taking) (sym (own mine)) has)) (begins_may mine),
        )) sent (letter _ _ l (slot-still h t (Same h t) p.handle (λ z. q.0) e s))
    act-lives (gives_up f o it z) code = gave-up f it.has
    act-lives (takes_last {n = n} f i it l less) code =
        ended f (incoming.Fetching f) (incoming.Done f.id f.anchor (f.count + n)) refl it.has refl (refl, omega arith) i (longer _ _ l)
    act-lives (takes_some {n = n} f i o it l) code =
        ended f (incoming.Fetching f) (incoming.Failed f.id f.anchor (f.count + n)) refl it.has refl (refl, omega arith) i (longer _ _ l)
    act-lives (takes_full {n = n} f i sent it l full q) code =
        in_ (incoming.Fetching f) (incoming.Fetching (record f { count = f.count + n; fetch = next_ref i })) it.has refl (omega arith, refl) sent
        (letter _ _ q (longer _ _ l))
    act-lives (asks f sent it none l) code =
        ended f (incoming.Fetching f) (incoming.Asking (receiver.asked_by f (next_ref e))) refl it.has refl (is_equal _ _ none, refl) sent (letter _ _ l s)
    act-lives (abandons q o it z) code = in_ (incoming.Asking q) (incoming.Failed q.id q.anchor 0) it.has refl refl e s
    act-lives (loads_only q file i o it w) code =
        in_ (incoming.Asking q) (incoming.Failed q.id q.anchor (length file.bytes)) it.has refl refl (record i { scrap = None }) (longer _ _ w.longer_is)
    act-lives (loads q file i sent it w l) code =
        in_ (incoming.Asking q) (incoming.Done q.id q.anchor (length file.bytes)) it.has refl refl sent (letter _ _ l (longer _ _ w.longer_is))

    -- a task with code of its own keeps all
    received-lives : Lives (received e p m).0
    received-lives = either (λ (x : Handled). Lives x.0) (is_raw p.manner) (e, outcome.Taken) (handled e p m m.code) (λ its. lives-on e s)
        (λ plays. act-lives (handled-acts e p m m.code) refl)

-- ---- any command

module _ (d : Desk) (w : IsReached d) (h : ℕ) (t : Task) (at : task_of h d.tasks ≡ Some t) where
  f : Fits d
  f = fits d w.kept

  rec : IsRecorded d t
  rec = are_recorded w.gave d w.stands.good h t at

  abbrev K : Command → Answer → Type 0
  K c a = Keeps c d h t at rec a

  polled-lives : (name : List ℕ) (p : Task) → named name d ≡ Ok p → (v : Option Parcel) → (post_poll p.handle d.post).1 ≡ v →
      K (command.Poll name) (poll_taken (with_delivered (post_poll p.handle d.post).0 d) p v)
  unfolding poll_taken with_delivered
  polled-lives name p q None taken =
      record { desk = lives-on (command.Poll name) d h t at rec (with_delivered (post_poll p.handle d.post).0 d) (at-first d h t at) }
  polled-lives name p q (Some m) taken =
      let is : task_of p.handle d.tasks ≡ Some p = the_task d name p f q in
      let told = given d p f is w.stands (post_poll p.handle d.post) (f.polled p.handle) (poll_taken_is d p.handle f (live_of d p.handle p is)) m taken in
      let mine : p.handle ≡ h → actor (command.Poll name) d ≡ Some h = λ same. own-actor (command.Poll name) d h t at rec name refl p same q in
      record {
        desk = received-lives (command.Poll name) d h t at rec (with_delivered (post_poll p.handle d.post).0 d) (at-first d h t at) p (as_read m)
            (λ same. the-own (command.Poll name) d h t at rec f name p q same) (λ same. (refl, mine same)) (λ same. (refl, mine same))
            (λ same. (refl, mine same))
            (λ came v has. told.unborn (not-back m.code came) p.handle v (subst (λ (ws : List Incoming). Has v ws)
            (sym (field_is (λ y. y.taking) [] p.handle d.tasks p is)) has));
      }

  poll-lives : (name : List ℕ) → OnGrant (K (command.Poll name)) (poll d name)
  unfolding poll
  poll-lives name = granted-then _ _ λ p q. granted (polled-lives name p q (post_poll p.handle d.post).1 refl)

  stays-lives : (c : Command) {r : Granted Answer} → OnGrant (Stays d h t at) r → OnGrant (K c) r
  stays-lives c s = from-stays c d h t at rec s

  change-lives : (c : Command) → OnGrant (K c) (change d c)
  change-lives (command.Task name buffer manner) = stays-lives _ (start_task-stays d h t at name buffer manner)
  change-lives (command.Kill name) = stays-lives _ (kill-stays d h t at name)
  change-lives (command.Save name k to leaf) = save-lives (command.Save name k to leaf) d h t at rec name k to leaf refl
  change-lives (command.Poll name) = poll-lives name
  change-lives (command.CancelIn name id) = cancel_in-lives (command.CancelIn name id) d h t at rec f name id refl
  change-lives (command.CancelOut name id) = cancel_out-lives (command.CancelOut name id) d h t at rec f name id refl
  change-lives (command.Repeat name) = stays-lives _ (repeat-stays d h t at name)
  change-lives (command.Make most) = stays-lives _ (make-stays d h t at most)
  change-lives (command.Raw c) = stays-lives _ (raw-stays d h t at c)
  change-lives c = stays-lives c (memory-stays d h t at c tt)

  step-lives : (c : Command) → K c (step d c)
  step-lives c =
      or_else-keeps (K c) _ (change-lives c) (λ refusal. record { desk = lives-on c d h t at rec d (at-first d h t at) })

pub records-live : (d : Desk) → IsReached d → RecordsLive d
records-live d w c h t u at now = (step-lives d w h t at c).desk u now
