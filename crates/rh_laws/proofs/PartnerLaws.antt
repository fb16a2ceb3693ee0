-- What a poll makes of the records of its task, by whom its message is of.
use Rattle.rh_laws.proofs.Common.{◌≡◌, ℕ, ◌+◌, ◌<◌, Bool, true, false, not, ◌==◌, List, [], ◌∷◌, length, Option, Some, None, Ok}
use Rattle.rh_laws.proofs.Common.{refl, sym, ap}
use Rattle.rh_laws.proofs.Common.{◌∙◌, subst, inl, inr, arith, eqb_tells, nat_eq, nat_lt, nat_le, option_map, AllByRecursion}
use Rattle.rh_laws.proofs.Common.{Body, EventCode, Acknowledge, Recorded, User, Parcel, post_poll, Desk, Task, named, task_at}
use Rattle.rh_laws.proofs.Common.{next_ref, send_letter}
use Rattle.rh_laws.proofs.Common.{with_delivered, with_sending, with_taking, with_task, taking_ended, appended, handled, poll}
use Rattle.rh_laws.proofs.Common.{poll_taken}
use Rattle.rh_laws.proofs.Common.{Handled, Answer, Letter, Slot, Sending, Taking, Asked, Incoming, Outgoing, Outcome, Active, Has, OnGrant, granted}
use Rattle.rh_laws.proofs.Common.{granted-then}
use Rattle.rh_laws.proofs.Common.{and_left, and_right, contains_of, either, first_is, is_equal, none_some, found_name, Fits, the_task}
use Rattle.rh_laws.proofs.Common.{task_of, in_id, out_id, with_id}
use Rattle.rh_laws.proofs.Common.{Part, Split, Flex, without_buffer}
use Rattle.std.proofs.lemmas.Bool.Decides.{nat_tests}
use Rattle.rh_defs.proofs.Chains.{grant-holds}
use Rattle.rh_defs.specs.AnyMessage.{as_read, read_body}
use Rattle.rh_defs.specs.Transfer.{received}
use Rattle.rh_defs.specs.RawTasks.{is_raw}
use Rattle.rh_defs.specs.declared.message.Body.TheVariants as body
use Rattle.rh_defs.specs.declared.reply.Outcome.TheVariants as outcome
use Rattle.rh_defs.specs.declared.transfer.Incoming.TheVariants as incoming
use Rattle.rh_defs.specs.declared.transfer.Outgoing.TheVariants as outgoing
use Rattle.rh_defs.specs.Sender as sender
use Rattle.rh_defs.specs.Receiver as receiver
use Rattle.rh_safety.proofs.Acts.{Act, abandons, asks, claims, fails, finishes, gives_up, handled-acts, is_back, is_file, is_for_active}
use Rattle.rh_safety.proofs.Acts.{is_for_asking, is_for_open, loads, loads_only, part_of, saves, sends, skips, takes_full, takes_last, takes_some, transmit_of}
use Rattle.rh_safety.proofs.SeenBlocks.{the_block}
use Rattle.rh_safety.proofs.SeenFrames.{bind, done, instead_of}
use Rattle.rh_safety.proofs.SeenTasks.{Distinct, NotIn}
use Rattle.rh_laws.specs.Partners.{AsksMore, ComesOf, EndsIn, EndsOut, GoesOf, IsFor, KeepsPartners, PollsPartners, SaysLoaded, outcome_in}
use Rattle.rh_laws.proofs.Addresses.{all-edit, all-has, all-more, all-with}

-- ---- the task of a handle is one

none-in : (P : Task → Type 0) (h : ℕ) (ts : List Task) → NotIn h ts → AllByRecursion (λ (u : Task). u.handle ≡ h → P u) ts
none-in P h [] away = tt
none-in P h (t ∷ ts) away = ((λ same. absurd (away.0 same)), none-in P h ts away.1)

own-only : (P : Task → Type 0) (h : ℕ) (ts : List Task) (t : Task) → Distinct ts → task_of h ts ≡ Some t → P t →
    AllByRecursion (λ (u : Task). u.handle ≡ h → P u) ts
own-only P h [] t apart q p = tt
own-only P h (x ∷ ts) t apart q p = elim (eqb_tells x.handle h) [
  | inl a ↦
      let same : x ≡ t = let z = rw a.0 at q in cc in
      ((λ e. subst P (sym same) p), none-in P h ts (subst (λ j. NotIn j ts) a.1 apart.0))
  | inr a ↦ ((λ e. absurd (a.1 e)), own-only P h ts t apart.1 (rw a.0 at q) p)
]

all-of : {A : Type 0} (P : A → Type 0) (xs : List A) → ((x : A) → Has x xs → P x) → AllByRecursion P xs
all-of P [] each = tt
all-of P (x ∷ xs) each = (each x (inl refl), all-of P xs (λ y has. each y (inr has)))

-- ---- whom a message is for

for-came : (c : EventCode) (m : Parcel) (other ref : Option ℕ) → is_back c ≡ false → other ≡ Some m.message.from → IsFor c m other ref
for-came User m other ref b e = e
for-came Recorded m other ref b e = e
for-came Acknowledge m other ref b e = absurd (let z : true ≡ false = b in (cc))

for-back : (c : EventCode) (m : Parcel) (other ref : Option ℕ) → is_back c ≡ true → ref ≡ Some m.message.my_ref → IsFor c m other ref
for-back User m other ref b e = absurd (let z : false ≡ true = b in (cc))
for-back Recorded m other ref b e = absurd (let z : false ≡ true = b in (cc))
for-back Acknowledge m other ref b e = e

module _ (d : Desk) (t : Task) (m : Parcel) where
  -- the message as the task reads it
  abbrev r : Parcel
  r = as_read m

  abbrev Code : Bool → Type 0
  Code back = is_back m.code ≡ back

  came-from : (a b : ℕ) → nat_eq a b ≡ true → Some b ≡ Some a
  came-from a b q = ap Some (sym (is_equal a b q))

  open-for : (back : Bool) (b : Body) (x : Sending) → Code back → is_for_open d t r back b x ≡ true →
      IsFor m.code m (Some x.recipient) (Some x.last)
  open-for false (body.DataSaveAck file) x c p =
      for-came m.code m _ _ c (came-from _ _ (and_left _ _ (and_left _ (nat_eq x.id x.last) p)))
  open-for false (body.DataLoadAck file) x c p = for-came m.code m _ _ c (came-from _ _ (and_left _ _ p))
  open-for false (body.RamFetch buffer n) x c p =
      for-came m.code m _ _ c (came-from _ _ (and_left _ _ (and_left _ (nat_le 1 n) (and_right (not _) _ p))))
  open-for true (body.DataSave file) x c p = for-back m.code m _ _ c (ap Some (is_equal _ _ p))
  open-for true (body.DataLoad file) x c p = for-back m.code m _ _ c (ap Some (is_equal _ _ p))
  open-for true (body.RamTransmit buffer n) x c p = for-back m.code m _ _ c (ap Some (is_equal _ _ p))
  open-for back b x c p = absurd (let z : false ≡ true = p in (cc))

  active-for : (back : Bool) (b : Body) (f : Taking) → Code back → is_for_active d t r back b f ≡ true →
      IsFor m.code m (Some f.sender) (Some f.fetch)
  active-for false (body.RamTransmit buffer n) f c p =
      for-came m.code m _ _ c (came-from _ _ (and_left _ _ (and_left _ (nat_eq buffer f.buffer) (and_left _ (nat_le n t.buffer) p))))
  active-for true (body.RamFetch buffer n) f c p = for-back m.code m _ _ c (ap Some (is_equal _ _ p))
  active-for back b f c p = absurd (let z : false ≡ true = p in (cc))

  asking-for : (back : Bool) (b : Body) (q : Asked) → Code back → is_for_asking d t r back b q ≡ true →
      IsFor m.code m (Some q.sender) (Some q.ack)
  asking-for false (body.DataLoad file) q c p =
      for-came m.code m _ _ c (came-from _ _ (and_left _ _ (and_right (is_file m.message.my_ref d.scrap) _ p)))
  asking-for true (body.DataSaveAck file) q c p = for-back m.code m _ _ c (ap Some (is_equal _ _ p))
  asking-for back b q c p = absurd (let z : false ≡ true = p in (cc))

-- ---- desks

module _ (t : Task) (m : Parcel) (o : Outcome) where
  -- the records of a task that may be the one that polls
  abbrev Parts : Task → Type 0
  Parts u = AllByRecursion (ComesOf t m o) u.taking × AllByRecursion (GoesOf t m o) u.sending

  abbrev Owns : Desk → Type 0
  Owns e = AllByRecursion (λ (u : Task). u.handle ≡ t.handle → Parts u) e.tasks

  at-first : (d : Desk) → Fits d → task_of t.handle d.tasks ≡ Some t → Owns d
  at-first d f is = own-only Parts t.handle d.tasks t f.handles is (
    all-of (ComesOf t m o) t.taking (λ w has. ComesOf.kept (contains_of t.taking w has)),
    all-of (GoesOf t m o) t.sending (λ v has. GoesOf.kept (contains_of t.sending v has)),
  )

  edit-owns : (h : ℕ) (f : Task → Task) → ((u : Task) → (u.handle ≡ t.handle → Parts u) → (f u).handle ≡ t.handle → Parts (f u)) →
      (d : Desk) → Owns d → Owns (with_task h f d)
  unfolding with_task
  edit-owns h f keeps d own = all-edit (λ (u : Task). u.handle ≡ t.handle → Parts u) h f (λ u same p. keeps u p) d.tasks own

  slot-owns : (h : ℕ) (edit : Slot → Slot) (d : Desk) → Owns d → Owns (with_task h (λ (u : Task). record u { slot = edit u.slot }) d)
  slot-owns h edit d own = edit-owns h (λ (u : Task). record u { slot = edit u.slot }) (λ u p same. p same) d own

  outs-own : (id : ℕ) (v : Outgoing) → GoesOf t m o v → (d : Desk) → Owns d → Owns (with_sending t.handle (λ vs. with_id out_id id v vs) d)
  outs-own id v is d own =
      edit-owns t.handle (λ (u : Task). record u { sending = with_id out_id id v u.sending })
      (λ u p same. ((p same).0, all-with (GoesOf t m o) out_id id v u.sending is (p same).1)) d own

  ins-own : (edit : List Incoming → List Incoming) →
      ((ws : List Incoming) → AllByRecursion (ComesOf t m o) ws → AllByRecursion (ComesOf t m o) (edit ws)) → (d : Desk) → Owns d →
      Owns (with_taking t.handle edit d)
  ins-own edit keeps d own =
      edit-owns t.handle (λ (u : Task). record u { taking = edit u.taking }) (λ u p same. (keeps u.taking (p same).0, (p same).1)) d own

  in-own : (id : ℕ) (v : Incoming) → ComesOf t m o v → (d : Desk) → Owns d → Owns (with_taking t.handle (λ ws. with_id in_id id v ws) d)
  in-own id v is d own = ins-own (λ ws. with_id in_id id v ws) (λ ws all. all-with (ComesOf t m o) in_id id v ws is all) d own

  ended-own : (f : Taking) (v : Incoming) → ComesOf t m o v → (d : Desk) → Owns d →
      Owns (taking_ended t.handle f (λ ws. with_id in_id f.id v ws) d)
  unfolding taking_ended
  ended-own f v is d own = in-own f.id v is _ (slot-owns t.handle (λ (s : Slot). without_buffer f.buffer s) d own)

  letter-owns : (l : Letter) (d : Desk) → Owns d → OnGrant Owns (send_letter l d)
  unfolding send_letter with_task
  letter-owns l d own =
      granted-then _ _ λ sent e.
      granted (all-edit (λ (u : Task). u.handle ≡ t.handle → Parts u) l.from (λ (u : Task). record u { last_sent = Some (l, sent.1) })
      (λ u same p. p) d.tasks own)

  posted-own : (d : Desk) {sent : Desk} (l : Letter) → send_letter l d ≡ Ok sent → Owns d → Owns sent
  posted-own d l q own = grant-holds (letter-owns l d own) q

  longer-owns : (d : Desk) {e : Desk} (k : ℕ) (bytes : List ℕ) → appended d t k bytes ≡ Ok e → Owns d → Owns e
  unfolding appended
  longer-owns d k bytes q own = grant-holds edits q
    where
      edits : OnGrant Owns (appended d t k bytes)
      edits = granted-then _ _ λ document found. granted-then _ _ λ more e. granted-then _ _ λ s f. granted (slot-owns t.handle (λ old. s) d own)

  -- the records of the task, once it is found
  owned : (e : Desk) (now : Task) → Owns e → task_at t.handle e ≡ Some now → KeepsPartners t m o now
  owned e now own at_ =
      let w = first_is (λ (u : Task). u.handle == t.handle) e.tasks now at_ in
      let p = all-has (λ (u : Task). u.handle ≡ t.handle → Parts u) e.tasks now own w.0 (is_equal _ _ w.1) in
      record { comes = p.0; goes = p.1 }

-- ---- each message

module _ (d : Desk) (t : Task) (m : Parcel) (g : (o : Outcome) → Owns t m o d) where
  -- a record that has a buffer, by what becomes of it
  buffered : (back : Bool) (b : Body) (o : Outcome) (f : Taking) (v : Incoming) → is_back m.code ≡ back → Active t.taking f →
      is_for_active d t (as_read m) back b f ≡ true → f.id ≡ in_id v → EndsIn t o (incoming.Fetching f) v → EndsIn t o (incoming.Draining f) v →
      ComesOf t m o v
  buffered back b o f v c (inl has) p same ends drained =
      ComesOf.turned (incoming.Fetching f) (contains_of t.taking _ has) same (active-for d t m back b f c p) ends
  buffered back b o f v c (inr has) p same ends drained =
      ComesOf.turned (incoming.Draining f) (contains_of t.taking _ has) same (active-for d t m back b f c p) drained

  fetching : (back : Bool) (b : Body) (o : Outcome) (f : Taking) (v : Incoming) → is_back m.code ≡ back → Has (incoming.Fetching f) t.taking →
      is_for_active d t (as_read m) back b f ≡ true → f.id ≡ in_id v → EndsIn t o (incoming.Fetching f) v → ComesOf t m o v
  fetching back b o f v c has p same ends =
      ComesOf.turned (incoming.Fetching f) (contains_of t.taking _ has) same (active-for d t m back b f c p) ends

  asking : (back : Bool) (b : Body) (o : Outcome) (q : Asked) (v : Incoming) → is_back m.code ≡ back → Has (incoming.Asking q) t.taking →
      is_for_asking d t (as_read m) back b q ≡ true → q.id ≡ in_id v → EndsIn t o (incoming.Asking q) v → ComesOf t m o v
  asking back b o q v c has p same ends =
      ComesOf.turned (incoming.Asking q) (contains_of t.taking _ has) same (asking-for d t m back b q c p) ends

  opened : (back : Bool) (b : Body) (o : Outcome) (x : Sending) (v : Outgoing) → is_back m.code ≡ back → Has (outgoing.Open x) t.sending →
      is_for_open d t (as_read m) back b x ≡ true → x.id ≡ out_id v → EndsOut t m o x v → GoesOf t m o v
  opened back b o x v c has p same ends =
      GoesOf.turned x (contains_of t.sending _ has) same (open-for d t m back b x c p) ends

  -- the part that goes out, and what the record says then
  sent-out : (buffer n : ℕ) (x : Sending) (source : Split Flex) (ref : ℕ) → is_back m.code ≡ false → body.RamFetch buffer n ≡ read_body m.message.body →
      Has (outgoing.Open x) t.sending → is_for_open d t (as_read m) false (body.RamFetch buffer n) x ≡ true →
      let p : Part = part_of d t (as_read m) buffer n x source in
      GoesOf t m (outcome.Sent p.n ref) (sender.after_sent (transmit_of d t (as_read m) buffer n x) p ref)
  sent-out buffer n x source ref c read has passes =
      let p : Part = part_of d t (as_read m) buffer n x source in
      let o = outcome.Sent p.n ref in
      either (GoesOf t m o) p.is_last (outgoing.Done x.id (p.offset + p.n)) (outgoing.Open (record x { count = p.offset + p.n; last = ref }))
      (λ less. opened false (body.RamFetch buffer n) o x (outgoing.Done x.id (p.offset + p.n)) c has passes refl
      (subst (AsksMore p.n) read (less-than p.n n less), refl))
      (λ full. opened false (body.RamFetch buffer n) o x (outgoing.Open (record x { count = p.offset + p.n; last = ref })) c has passes refl refl)
    where
      less-than : (a b : ℕ) → nat_lt a b ≡ true → a < b
      less-than a b e = grind (arith, nat_tests)

  act-owns : {back : Bool} {b : Body} {x : Handled} → Act d t (as_read m) back b x → is_back m.code ≡ back → b ≡ read_body m.message.body →
      Owns t m x.1 x.0
  act-owns (skips none) c read = g outcome.Ignored
  act-owns (fails {back = back} {b = b} x o it z) c read =
      outs-own t m o x.id (outgoing.Failed x.id x.count) (opened back b o x (outgoing.Failed x.id x.count) c it.has it.passes refl tt) d (g o)
  act-owns (sends {buffer = buffer} {n = n} x source r sent it w) c read =
      let p : Part = part_of d t (as_read m) buffer n x source in
      let o = outcome.Sent p.n (next_ref d) in
      outs-own t m o x.id (sender.after_sent (transmit_of d t (as_read m) buffer n x) p (next_ref d))
      (sent-out buffer n x source (next_ref d) c read it.has it.passes) _
      (slot-owns t m o r.handle _ sent (posted-own t m o _ _ w.letter (g o)))
  act-owns (saves {file = file} x source sent it there none l) c read =
      let o = outcome.Saved (length source.here.bytes) (next_ref d) in
      let v = outgoing.Open (record x { last = next_ref d }) in
      outs-own t m o x.id v (opened false (body.DataSaveAck file) o x v c it.has it.passes refl refl) (record sent { scrap = Some _ })
      (posted-own t m o _ _ l (g o))
  act-owns (finishes {file = file} x source it there) c read =
      let n = length source.here.bytes in
      let v = outgoing.Done x.id n in
      outs-own t m outcome.Done x.id v (opened false (body.DataLoadAck file) outcome.Done x v c it.has it.passes refl (
        subst SaysLoaded read tt,
        is_equal _ _ (and_right (nat_eq m.message.from x.recipient) _ it.passes),
        ap (option_map length) (ap (option_map (λ (b : Split Flex). b.here.bytes)) (the_block x.anchor t.slot source there)),
      )) d (g outcome.Done)
  act-owns (claims k b p sent few free claim alloc l) c read =
      let o = outcome.Fetch (next_ref d) in
      ins-own t m o _ (λ ws all. all-more (ComesOf t m o) _ _ ws
      (ComesOf.begun _ refl refl refl (λ e. let z : true ≡ false = ap is_back (sym e) ∙ c in (cc))) all) sent
      (posted-own t m o _ _ l (slot-owns t m o t.handle (λ s. p.0) d (g o)))
  act-owns (gives_up {back = back} {b = b} f o it z) c read =
      ended-own t m o f (incoming.Failed f.id f.anchor f.count)
      (buffered back b o f (incoming.Failed f.id f.anchor f.count) c it.has it.passes refl tt tt) d (g o)
  act-owns (takes_last {buffer = buffer} {n = n} f e it l less) c read =
      let o = outcome.TookLast n in
      let v = incoming.Done f.id f.anchor (f.count + n) in
      ended-own t m o f v (fetching false (body.RamTransmit buffer n) o f v c it.has it.passes refl (less-than n t.buffer less, refl)) e
      (longer-owns t m o d _ _ l (g o))
    where
      less-than : (a b : ℕ) → nat_lt a b ≡ true → a < b
      less-than a b e = grind (arith, nat_tests)
  act-owns (takes_some {buffer = buffer} {n = n} f e refusal it l) c read =
      let o = outcome.TookFailed n refusal in
      let v = incoming.Failed f.id f.anchor (f.count + n) in
      ended-own t m o f v (fetching false (body.RamTransmit buffer n) o f v c it.has it.passes refl tt) e (longer-owns t m o d _ _ l (g o))
  act-owns (takes_full {buffer = buffer} {n = n} f e sent it l full s) c read =
      let o = outcome.TookFull n (next_ref e) in
      let v = incoming.Fetching (record f { count = f.count + n; fetch = next_ref e }) in
      in-own t m o f.id v (fetching false (body.RamTransmit buffer n) o f v c it.has it.passes refl refl) sent
      (posted-own t m o _ _ s (longer-owns t m o d _ _ l (g o)))
  act-owns (asks {buffer = buffer} {n = n} f sent it none l) c read =
      let o = outcome.Asked (next_ref d) in
      let v = incoming.Asking (receiver.asked_by f (next_ref d)) in
      ended-own t m o f v (fetching true (body.RamFetch buffer n) o f v c it.has it.passes refl (is_equal _ _ none, refl)) sent (posted-own t m o _ _ l (g o))
  act-owns (abandons {back = back} {b = b} q o it z) c read =
      let v = incoming.Failed q.id q.anchor 0 in
      in-own t m o q.id v (asking back b o q v c it.has it.passes refl tt) d (g o)
  act-owns (loads_only {file = file} q scrap e refusal it w) c read =
      let o = outcome.LoadedFailed (length scrap.bytes) refusal in
      let v = incoming.Failed q.id q.anchor (length scrap.bytes) in
      in-own t m o q.id v (asking false (body.DataLoad file) o q v c it.has it.passes refl tt) (record e { scrap = None })
      (longer-owns t m o d _ _ w.longer_is (g o))
  act-owns (loads {file = file} q scrap e sent it w l) c read =
      let o = outcome.Loaded (length scrap.bytes) in
      let v = incoming.Done q.id q.anchor (length scrap.bytes) in
      in-own t m o q.id v (asking false (body.DataLoad file) o q v c it.has it.passes refl refl) sent
      (posted-own t m o _ _ l (longer-owns t m o d _ _ w.longer_is (g o)))

  -- a task with code of its own keeps all
  received-owns : Owns t m (received d t (as_read m)).1 (received d t (as_read m)).0
  received-owns = either (λ (x : Handled). Owns t m x.1 x.0) (is_raw t.manner) (d, outcome.Taken) (handled d t (as_read m) m.code)
      (λ its. g outcome.Taken)
      (λ plays. act-owns (handled-acts d t (as_read m) m.code) refl refl)

-- ---- a poll

module _ (d : Desk) (f : Fits d) where
  polled : (t now : Task) (v : Option Parcel) (m : Parcel) (o : Outcome) → task_of t.handle d.tasks ≡ Some t → v ≡ Some m →
      let at_ : Desk = with_delivered (post_poll t.handle d.post).0 d in
      outcome_in (poll_taken at_ t v).1 ≡ Some o → task_at t.handle (poll_taken at_ t v).0 ≡ Some now → KeepsPartners t m o now
  unfolding poll_taken with_delivered
  polled t now None m o is e said at_ = absurd (none_some None refl e)
  polled t now (Some n) m o is e said here =
      let at_ : Desk = with_delivered (post_poll t.handle d.post).0 d in
      let same : n ≡ m = cc in
      let one : (received at_ t (as_read n)).1 ≡ o = cc in
      let own : Owns t n o (received at_ t (as_read n)).0 =
      subst (λ (z : Outcome). Owns t n z (received at_ t (as_read n)).0) one (received-owns at_ t n (λ z. at-first t n z d f is)) in
      subst (λ (z : Parcel). KeepsPartners t z o now) same (owned t n o (received at_ t (as_read n)).0 now own here)

  -- of the task that was found
  abbrev Told : List ℕ → Task → Task → Parcel → Outcome → Answer → Type 0
  Told name t now m o a = outcome_in a.1 ≡ Some o → task_at t.handle a.0 ≡ Some now → KeepsPartners t m o now

  pub polls-partners : PollsPartners d
  unfolding poll
  polls-partners name t now m o found taken =
      bind (Told name t now m o) (named name d) _ (instead_of d) (λ r said here. absurd (none_some None refl said)) (λ u q.
      done (Told name t now m o) _ (instead_of d) (
      let one : Some u ≡ Some t = sym (found_name d name u q) ∙ found in
      let same : u ≡ t = cc in
      subst (λ (z : Task). Told name t now m o (poll_taken (with_delivered (post_poll z.handle d.post).0 d) z (post_poll z.handle d.post).1)) (sym same)
      (polled t now (post_poll t.handle d.post).1 m o (the_task d name t f (subst (λ (z : Task). named name d ≡ Ok z) same q)) taken)))
