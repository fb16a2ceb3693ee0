-- What a task does with a message that a poll hands it, told once: the record that the message is for, the letter that goes out,
-- and the desk after it.
use Rattle.rh_safety.proofs.Common.{Acknowledge, Active, AnchorInUse, Append, Asked, Bool, Body, Claim, Desk, Err, EventCode, FoundActive, Granted, Handled}
use Rattle.std.specs.Option.{option_and_then}
use Rattle.rh_safety.proofs.Common.{Has, OnGrant}
use Rattle.rh_safety.proofs.Common.{Incoming, LoadFile, NoTask, None, Ok, Option, Outcome, Part, Recorded, Refusal, SaveFile, Scrap, Sending, Split, Flex}
use Rattle.rh_safety.proofs.Common.{Some, TakeAction, Taking, Task, Transmit, User, accept, ack_back, active_is, and_right, answers_none, append, appended}
use Rattle.rh_safety.proofs.Common.{ask, asking_is, buffer_at, delivered, bounced_to, drains}
use Rattle.rh_safety.proofs.Common.{drop, either, fail_sending, false, fetch_letter, fetch_more, fetches}
use Rattle.rh_safety.proofs.Common.{free_anchor, free_pages, granted, granted-past, granted-then, handled, heap_block_at, ignored, inl, inr}
use Rattle.rh_safety.proofs.Common.{is_deaf, is_equal, is_found, is_full, is_going, is_some, length, load_file, load_letter, loaded, next_ref, not, open_is}
use Rattle.rh_safety.proofs.Common.{open_of, option_map, or_else-keeps, perform_send, perform_take, refl, save_scrap, scrap_shortage, send_letter, send_with}
use Rattle.rh_safety.proofs.Common.{slot_alloc, slot_block, slot_claim, sym, take, take_with, taking_ended, task_at, took, transmit, transmit_letter, true}
use Rattle.rh_safety.proofs.Common.{flex_address, wider}
use Rattle.rh_safety.proofs.Common.{with_sending, with_slot, with_taking, with_task, ℕ, ◌&&◌, ◌+◌, ◌==◌, ◌^◌, ◌≡◌, ap, subst, ◌∙◌, nat_le, nat_lt, Parcel}
use Rattle.rh_defs.specs.declared.message.Body.TheVariants as body
use Rattle.rh_defs.specs.declared.message.FileData.{FileData}
use Rattle.rh_defs.specs.declared.reply.Outcome.TheVariants as outcome
use Rattle.rh_defs.specs.declared.transfer.Incoming.TheVariants as incoming
use Rattle.rh_defs.specs.declared.transfer.Outgoing.TheVariants as outgoing
use Rattle.rh_defs.specs.declared.transfer_action.Next.{Next}
use Rattle.rh_defs.specs.declared.transfer_action.SendAction.TheVariants as send_action
use Rattle.rh_defs.proofs.Chains.{granted-both}
use Rattle.rh_defs.specs.IncomingEvents.{end_failed}
use Rattle.rh_defs.specs.Letters.{ack_letter, load_ack_letter}
use Rattle.rh_defs.specs.OutgoingEvents.{is_bad_range}
use Rattle.rh_defs.specs.Places.{first_bytes, written_in}
use Rattle.rh_defs.specs.RawTasks.{is_raw_at}
use Rattle.rh_defs.specs.Records.{active_of, asking_of}
use Rattle.rh_defs.specs.Sender as sender
use Rattle.rh_defs.specs.Receiver as receiver
use Rattle.rh_safety.proofs.Basics.{active_none, asking_none, not_true, open_none}
use Rattle.rh_defs.proofs.Chains as chains

-- a message came back, by its code
abbrev pub is_back : EventCode → Bool
is_back Acknowledge = true
is_back _ = false

pub not-back : (c : EventCode) → is_back c ≡ false → c ≡ Acknowledge → ⊥
not-back c e z = let y : true ≡ false = subst (λ c. is_back c ≡ false) z e in cc

pub back-is : (c : EventCode) → is_back c ≡ true → c ≡ Acknowledge
back-is User e = absurd (let z : false ≡ true = e in (cc))
back-is Recorded e = absurd (let z : false ≡ true = e in (cc))
back-is Acknowledge e = refl

-- the file of this ref is there
abbrev pub is_file : ℕ → Option Scrap → Bool
is_file ref None = false
is_file ref (Some file) = file.load == ref

-- a step of which nothing is known
pub any-grant : {A : Type 0} (r : Granted A) → OnGrant (λ (x : A). Unit {0}) r
any-grant (Ok x) = granted tt
any-grant (Err refusal) = chains.refused

and-false : (a b : Bool) → b ≡ false → (a && b) ≡ false
and-false true b e = e
and-false false b e = refl

module _ (d : Desk) (t : Task) (m : Parcel) where
  abbrev h : ℕ
  h = t.handle

  abbrev from : ℕ
  from = m.message.from

  abbrev my : ℕ
  my = m.message.my_ref

  abbrev your : ℕ
  your = m.message.your_ref

  -- ---- the records that a message is for, by whether it came back, and its body

  abbrev pub is_for_open : Bool → Body → Sending → Bool
  is_for_open false (body.DataSaveAck file) x = sender.asks_for from your x
  is_for_open false (body.DataLoadAck file) x = sender.is_loaded from your x
  is_for_open false (body.RamFetch buffer n) x = not (answers_none t.manner) && sender.would_answer from your n x
  is_for_open true (body.DataSave file) x = x.last == my
  is_for_open true (body.DataLoad file) x = x.last == my
  is_for_open true (body.RamTransmit buffer n) x = x.last == my
  is_for_open back b x = false

  abbrev pub is_for_active : Bool → Body → Taking → Bool
  is_for_active false (body.RamTransmit buffer n) f = receiver.is_answer t.buffer from your buffer n f
  is_for_active true (body.RamFetch buffer n) f = f.fetch == my
  is_for_active back b f = false

  abbrev pub is_for_asking : Bool → Body → Asked → Bool
  is_for_asking false (body.DataLoad file) q = is_file my d.scrap && receiver.is_load from your q
  is_for_asking true (body.DataSaveAck file) q = q.ack == my
  is_for_asking back b q = false

  pub record ForOpen (back : Bool) (b : Body) (x : Sending) : Type 0 where
    pub found : open_of (is_for_open back b) t.sending ≡ Some x
    pub has : Has (outgoing.Open x) t.sending
    pub passes : is_for_open back b x ≡ true

  pub record ForFetching (back : Bool) (b : Body) (f : Taking) : Type 0 where
    pub found : active_of (is_for_active back b) t.taking ≡ Some (incoming.Fetching f)
    pub has : Has (incoming.Fetching f) t.taking
    pub passes : is_for_active back b f ≡ true

  pub record ForActive (back : Bool) (b : Body) (f : Taking) : Type 0 where
    pub has : Active t.taking f
    pub passes : is_for_active back b f ≡ true

  pub record ForAsking (back : Bool) (b : Body) (q : Asked) : Type 0 where
    pub found : asking_of (is_for_asking back b) t.taking ≡ Some q
    pub has : Has (incoming.Asking q) t.taking
    pub passes : is_for_asking back b q ≡ true

  -- it is for none
  pub record ForNone (back : Bool) (b : Body) : Type 0 where
    pub open_ : (x : Sending) → Has (outgoing.Open x) t.sending → is_for_open back b x ≡ false
    pub active : (f : Taking) → Active t.taking f → is_for_active back b f ≡ false
    pub asking : (q : Asked) → Has (incoming.Asking q) t.taking → is_for_asking back b q ≡ false

  -- ---- what is done with it

  -- why nothing comes of a record: its message came back, or what there was to do was refused
  abbrev pub Refuses : Bool → Outcome → Type 0
  Refuses false o = (r : Refusal) × (o ≡ outcome.Refused r)
  Refuses true o = Unit {0}

  -- why one that has a buffer ends: it was cancelled, or refused, or its fetch came back that wasn't the first
  pub data Leaves (back : Bool) (b : Body) (f : Taking) (o : Outcome) : Type 0 where
    drained : active_of (is_for_active back b) t.taking ≡ Some (incoming.Draining f) → Leaves back b f o
    refused : (r : Refusal) → o ≡ outcome.Refused r → Leaves back b f o
    unanswered : active_of (is_for_active back b) t.taking ≡ Some (incoming.Fetching f) → back ≡ true → (f.count == 0) ≡ false → Leaves back b f o

  -- the answers to a DataSave, a DataSaveAck, a DataLoad and a fetch, and what follows on n bytes
  abbrev pub claim_of : Claim
  claim_of = record { id = my; sender = from; raw = is_raw_at from d }

  abbrev pub save_of : Sending → SaveFile
  save_of x = record { transfer = x; to = from; answers = my }

  abbrev pub load_of : Asked → LoadFile
  load_of q = record { transfer = q; to = from; answers = my }

  abbrev pub transmit_of : ℕ → ℕ → Sending → Transmit
  transmit_of buffer n x = record { transfer = x; to = from; answers = my; buffer = buffer; room = n }

  abbrev pub append_of : ℕ → Taking → Append
  append_of n f = record { transfer = f; n = n; next = receiver.next_of t.buffer my n f }

  -- the document with n bytes of the buffer at its end
  abbrev pub longer_of : ℕ → Taking → Desk → Type 0
  longer_of n f longer = appended d t f.anchor (first_bytes n (heap_block_at f.buffer t.slot)) ≡ Ok longer

  -- the document with the bytes of the scrap file, which the message names
  pub record Loads (q : Asked) (file : Scrap) (longer : Desk) : Type 0 where
    pub there : d.scrap ≡ Some file
    pub names : file.load ≡ my
    pub longer_is : appended d t q.anchor file.bytes ≡ Ok longer

  -- the source of what goes out, the recipient that it goes to, and the desk with the letter
  pub record Sends (buffer n : ℕ) (x : Sending) (source : Split Flex) (r : Task) (sent : Desk) : Type 0 where
    pub source_is : slot_block x.anchor t.slot ≡ Ok source
    pub to : task_at x.recipient d ≡ Some r
    pub letter : send_letter (transmit_letter h (transmit_of buffer n x) (sender.next_part (transmit_of buffer n x) (length source.here.bytes))) d ≡ Ok sent
    pub range :
        is_bad_range t r buffer n
        (flex_address t.slot source.before + (sender.next_part (transmit_of buffer n x) (length source.here.bytes)).offset)
        (sender.next_part (transmit_of buffer n x) (length source.here.bytes)).n ≡ false

  -- what goes out of it, and the recipient's buffer with that
  abbrev pub part_of : ℕ → ℕ → Sending → Split Flex → Part
  part_of buffer n x source = sender.next_part (transmit_of buffer n x) (length source.here.bytes)

  abbrev pub poured : ℕ → ℕ → Part → Split Flex → Task → Desk → Desk
  poured buffer n p source r sent = with_task r.handle (λ (r : Task). record r {
    slot = written_in buffer (take p.n (drop p.offset source.here.bytes)) (buffer_at buffer n r.slot) r.slot;
  }) sent

  pub data Act : Bool → Body → Handled → Type 0 where
    skips : {back : Bool} {b : Body} → ForNone back b → Act back b (ignored d)
    -- an open record fails, sends bytes, saves a file, and ends
    fails : {back : Bool} {b : Body} (x : Sending) (o : Outcome) → ForOpen back b x → Refuses back o → Act back b
        (with_sending h (sender.sending_failed x) d, o)
    sends : {buffer n : ℕ} (x : Sending) (source : Split Flex) (r : Task) (sent : Desk) → ForOpen false (body.RamFetch buffer n) x →
        Sends buffer n x source r sent → Act false (body.RamFetch buffer n) (
          with_sending h (sender.sent (transmit_of buffer n x) (part_of buffer n x source) (next_ref d))
              (poured buffer n (part_of buffer n x source) source r sent),
          outcome.Sent (part_of buffer n x source).n (next_ref d),
        )
    saves : {file : FileData} (x : Sending) (source : Split Flex) (sent : Desk) → ForOpen false (body.DataSaveAck file) x →
        slot_block x.anchor t.slot ≡ Ok source → is_some d.scrap ≡ false →
        send_letter (load_letter h (save_of x) (length source.here.bytes)) (wider (scrap_shortage (length source.here.bytes) d) d) ≡ Ok sent →
        Act false (body.DataSaveAck file) (
          with_sending h (sender.saved (save_of x) (next_ref d)) (record sent { scrap = Some (record { load = next_ref d; bytes = source.here.bytes }) }),
          outcome.Saved (length source.here.bytes) (next_ref d),
        )
    finishes : {file : FileData} (x : Sending) (source : Split Flex) → ForOpen false (body.DataLoadAck file) x → slot_block x.anchor t.slot ≡ Ok source →
        Act false (body.DataLoadAck file) (with_sending h (sender.sending_loaded x (length source.here.bytes)) d, outcome.Done)
    -- a record begins
    claims : {file : FileData} (k : ℕ) (b p : _) (sent : Desk) → is_full is_going t.taking ≡ false → free_anchor t.slot ≡ Some k →
        slot_claim (free_pages d) t.buffer t.slot ≡ Ok b → slot_alloc (free_pages (with_slot h b.0 d)) k 0 b.0 ≡ Ok p →
        send_letter (fetch_letter h (receiver.first_fetch claim_of b.1 t.buffer)) (with_slot h p.0 d) ≡ Ok sent →
        Act false (body.DataSave file) (with_taking h (receiver.taking_claimed claim_of k b.1 (next_ref d)) sent, outcome.Fetch (next_ref d))
    -- one that has a buffer ends with none of the bytes, with the last ones, with the first of more, and goes on; or asks for a file
    gives_up : {back : Bool} {b : Body} (f : Taking) (o : Outcome) → ForActive back b f → Leaves back b f o → Act back b (end_failed d t f, o)
    takes_last : {buffer n : ℕ} (f : Taking) (longer : Desk) → ForFetching false (body.RamTransmit buffer n) f → longer_of n f longer →
        nat_lt n t.buffer ≡ true → Act false (body.RamTransmit buffer n) (
          taking_ended h f (receiver.finished (append_of n f)) longer,
          outcome.TookLast n,
        )
    takes_some : {buffer n : ℕ} (f : Taking) (longer : Desk) (r : Refusal) → ForFetching false (body.RamTransmit buffer n) f → longer_of n f longer →
        Act false (body.RamTransmit buffer n) (taking_ended h f (receiver.failed_with (append_of n f) n) longer, outcome.TookFailed n r)
    takes_full : {buffer n : ℕ} (f : Taking) (longer sent : Desk) → ForFetching false (body.RamTransmit buffer n) f → longer_of n f longer →
        nat_lt n t.buffer ≡ false → send_letter (fetch_letter h (receiver.next_fetch f my t.buffer)) longer ≡ Ok sent →
        Act false (body.RamTransmit buffer n) (
          with_taking h (receiver.fetched (append_of n f) (next_ref longer)) sent,
          outcome.TookFull n (next_ref longer),
        )
    asks : {buffer n : ℕ} (f : Taking) (sent : Desk) → ForFetching true (body.RamFetch buffer n) f → (f.count == 0) ≡ true →
        send_letter (ack_letter h f) d ≡ Ok sent →
        Act true (body.RamFetch buffer n) (taking_ended h f (receiver.asking f (next_ref d)) sent, outcome.Asked (next_ref d))
    -- one that waits for a file ends without it, with it, and with its sender told
    abandons : {back : Bool} {b : Body} (q : Asked) (o : Outcome) → ForAsking back b q → Refuses back o → Act back b
        (with_taking h (receiver.abandoned q 0) d, o)
    loads_only : {file : FileData} (q : Asked) (scrap : Scrap) (longer : Desk) (r : Refusal) → ForAsking false (body.DataLoad file) q → Loads q scrap longer →
        Act false (body.DataLoad file) (
          with_taking h (receiver.abandoned q (length scrap.bytes)) (record longer { scrap = None }),
          outcome.LoadedFailed (length scrap.bytes) r,
        )
    loads : {file : FileData} (q : Asked) (scrap : Scrap) (longer sent : Desk) → ForAsking false (body.DataLoad file) q → Loads q scrap longer →
        send_letter (load_ack_letter h (load_of q) (length scrap.bytes)) (record longer { scrap = None }) ≡ Ok sent →
        Act false (body.DataLoad file) (with_taking h (receiver.taking_loaded q (length scrap.bytes)) sent, outcome.Loaded (length scrap.bytes))

  -- ---- that is all that is done

  -- no open record was found, of a message that is for such alone
  unopened : {back : Bool} {b : Body} → ((f : Taking) → is_for_active back b f ≡ false) → ((q : Asked) → is_for_asking back b q ≡ false) →
      open_of (is_for_open back b) t.sending ≡ None → Act back b (ignored d)
  unopened {back} {b} active asking e = skips (record {
    open_ = λ x has. open_none (is_for_open back b) t.sending x e has;
    active = λ f has. active f;
    asking = λ q has. asking q;
  })

  failed : {b : Body} → ((f : Taking) → is_for_active true b f ≡ false) → ((q : Asked) → is_for_asking true b q ≡ false) → (v : Option Sending) →
      open_of (is_for_open true b) t.sending ≡ v → Act true b (fail_sending d t v)
  unfolding fail_sending
  failed active asking None e = unopened active asking e
  failed {b} active asking (Some x) e =
      let w = open_is (is_for_open true b) t.sending x e in fails x outcome.Failed (record { found = e; has = w.0; passes = w.1 }) tt

  fetched : (buffer n : ℕ) → answers_none t.manner ≡ false → (v : Option Sending) → open_of (sender.would_answer from your n) t.sending ≡ v →
      Act false (body.RamFetch buffer n) (perform_send d t (option_map (sender.transmit_for from my buffer n) v))
  unfolding perform_send send_with transmit
  fetched buffer n some None e = skips (record {
    open_ = λ x has. and-false (not (answers_none t.manner)) _ (open_none (sender.would_answer from your n) t.sending x e has);
    active = λ f has. refl;
    asking = λ q has. refl;
  })
  fetched buffer n some (Some x) e =
      let w = open_is (sender.would_answer from your n) t.sending x e in
      let it : ForOpen false (body.RamFetch buffer n) x = record {
        found = subst (λ c. open_of (λ x. not c && sender.would_answer from your n x) t.sending ≡ Some x) (sym some) e;
        has = w.0;
        passes = rw some w.1;
      } in
      or_else-keeps (Act false (body.RamFetch buffer n)) _
      (granted-then _ _ λ source s. granted-then _ _ λ r to. granted-past _ _ _ λ reach. granted-then _ _ λ sent l.
      granted (sends x source r sent it (record { source_is = s; to = is_found (task_at x.recipient d) NoTask r to; letter = l; range = reach })))
      (λ refusal. fails x (outcome.Refused refusal) it (refusal, refl))

  filed : (file : FileData) (v : Option Sending) → open_of (sender.asks_for from your) t.sending ≡ v →
      Act false (body.DataSaveAck file) (perform_send d t (option_map (sender.file_for from my) v))
  unfolding perform_send send_with save_scrap
  filed file None e = unopened (λ f. refl) (λ q. refl) e
  filed file (Some x) e =
      let w = open_is (sender.asks_for from your) t.sending x e in
      let it : ForOpen false (body.DataSaveAck file) x = record { found = e; has = w.0; passes = w.1 } in
      or_else-keeps (Act false (body.DataSaveAck file)) _
      (granted-then _ _ λ source s. granted-past _ _ _ λ busy. granted-both _ (any-grant _) λ y u. granted-past _ _ _ λ room.
      granted-then _ _ λ sent l. granted (saves x source sent it s busy l))
      (λ refusal. fails x (outcome.Refused refusal) it (refusal, refl))

  finished : (file : FileData) (v : Option Sending) → open_of (sender.is_loaded from your) t.sending ≡ v →
      Act false (body.DataLoadAck file) (perform_send d t (option_map send_action.Finish v))
  unfolding perform_send send_with
  finished file None e = unopened (λ f. refl) (λ q. refl) e
  finished file (Some x) e =
      let w = open_is (sender.is_loaded from your) t.sending x e in
      let it : ForOpen false (body.DataLoadAck file) x = record { found = e; has = w.0; passes = w.1 } in
      or_else-keeps (Act false (body.DataLoadAck file)) _ (granted-then _ _ λ source s. granted (finishes x source it s))
      (λ refusal. fails x (outcome.Refused refusal) it (refusal, refl))

  claimed : (file : FileData) → Act false (body.DataSave file)
      (perform_take d t (receiver.flagged (is_raw_at from d) (receiver.on_save (is_deaf t.manner) from my t.taking)))
  unfolding perform_take take_with accept
  claimed file =
      let nothing : Act false (body.DataSave file) (ignored d) = skips (record {
        open_ = λ x has. refl;
        active = λ f has. refl;
        asking = λ q has. refl;
      }) in
      either (λ (o : Option TakeAction). Act false (body.DataSave file) (perform_take d t (receiver.flagged (is_raw_at from d) o)))
      (not (is_deaf t.manner) && not (is_full is_going t.taking)) _ None
      (λ can. or_else-keeps (Act false (body.DataSave file)) _
      (granted-then _ _ λ k free. granted-then _ _ λ b claim. granted-then _ _ λ p alloc. granted-then _ _ λ sent l.
      granted (claims k b p sent (not_true _ (and_right (not (is_deaf t.manner)) _ can)) (is_found (free_anchor t.slot) AnchorInUse k free) claim alloc l))
      (λ refusal. nothing))
      (λ cannot. nothing)

  module _ {buffer n : ℕ} (f : Taking) (it : ForFetching false (body.RamTransmit buffer n) f) where
    abbrev T : Handled → Type 0
    T x = Act false (body.RamTransmit buffer n) x

    some-taken : (longer : Desk) → longer_of n f longer → T (took longer t (append_of n f) (receiver.next_of t.buffer my n f))
    unfolding took fetch_more
    some-taken longer l =
        either (λ (b : Next). T (took longer t (append_of n f) b)) (nat_lt n t.buffer) _ _ (λ less. takes_last f longer it l less)
        (λ full. or_else-keeps T _ (granted-then _ _ λ sent s. granted (takes_full f longer sent it l full s))
        (λ refusal. takes_some f longer refusal it l))

    appends : T (perform_take d t (Some (receiver.append_for t.buffer my n f)))
    unfolding perform_take take_with append
    appends =
        let active : ForActive false (body.RamTransmit buffer n) f = record { has = inl it.has; passes = it.passes } in
        either (λ (a : TakeAction). T (take_with d t a)) (nat_le (2 ^ 32) (f.count + n)) _ _ (λ many. gives_up f _ active (refused _ refl))
        (λ few. or_else-keeps T _ (granted-then _ _ λ longer l. granted (some-taken longer l)) (λ refusal. gives_up f _ active (refused refusal refl)))

  transmitted : (buffer n : ℕ) (v : Option Incoming) → active_of (receiver.is_answer t.buffer from your buffer n) t.taking ≡ v →
      Act false (body.RamTransmit buffer n) (perform_take d t (option_and_then (receiver.take_for t.buffer my n) v))
  unfolding perform_take take_with
  transmitted buffer n None e = skips (record {
    open_ = λ x has. refl;
    active = λ f has. active_none (receiver.is_answer t.buffer from your buffer n) t.taking f e has;
    asking = λ q has. refl;
  })
  transmitted buffer n (Some w) e = found w e (active_is (receiver.is_answer t.buffer from your buffer n) t.taking w e)
    where
      found : (w : Incoming) → active_of (receiver.is_answer t.buffer from your buffer n) t.taking ≡ Some w →
          FoundActive (receiver.is_answer t.buffer from your buffer n) t.taking w →
          Act false (body.RamTransmit buffer n) (perform_take d t (receiver.take_for t.buffer my n w))
      found w q (fetches f has p) = appends f (record { found = q; has = has; passes = p })
      found w q (drains f has p) = gives_up f _ (record { has = inr has; passes = p }) (drained q)

  returned : (buffer n : ℕ) (v : Option Incoming) → active_of (λ f. f.fetch == my) t.taking ≡ v →
      Act true (body.RamFetch buffer n) (perform_take d t (option_and_then receiver.back_for v))
  unfolding perform_take take_with ask
  returned buffer n None e = skips (record {
    open_ = λ x has. refl;
    active = λ f has. active_none (λ (f : Taking). f.fetch == my) t.taking f e has;
    asking = λ q has. refl;
  })
  returned buffer n (Some w) e = found w e (active_is (λ (f : Taking). f.fetch == my) t.taking w e)
    where
      B : Handled → Type 0
      B x = Act true (body.RamFetch buffer n) x

      found : (w : Incoming) → active_of (λ (f : Taking). f.fetch == my) t.taking ≡ Some w → FoundActive (λ (f : Taking). f.fetch == my) t.taking w →
          B (perform_take d t (receiver.back_for w))
      found w q (drains f has p) = gives_up f _ (record { has = inr has; passes = p }) (drained q)
      found w q (fetches f has p) =
          let active : ForActive true (body.RamFetch buffer n) f = record { has = inl has; passes = p } in
          either (λ (a : TakeAction). B (take_with d t a)) (f.count == 0) _ _
          (λ none. or_else-keeps B _ (granted-then _ _ λ sent l. granted (asks f sent (record { found = q; has = has; passes = p }) none l))
          (λ refusal. gives_up f _ active (refused refusal refl)))
          (λ some. gives_up f _ active (unanswered q refl some))

  module _ (file : FileData) (q : Asked) (found : asking_of (receiver.is_load from your) t.taking ≡ Some q)
      (has : Has (incoming.Asking q) t.taking) (p : receiver.is_load from your q ≡ true) where
    abbrev L : Handled → Type 0
    L x = Act false (body.DataLoad file) x

    file-loaded : (v : Option Scrap) → d.scrap ≡ v → L (load_file d t (load_of q) v)
    unfolding load_file loaded
    file-loaded None e = skips (record { open_ = λ x h. refl; active = λ f h. refl; asking = λ y h. rw e refl })
    file-loaded (Some scrap) e =
        either L (scrap.load == my) _ _ (λ same.
        let it : ForAsking false (body.DataLoad file) q = record {
          found = subst (λ c. asking_of (λ q. c && receiver.is_load from your q) t.taking ≡ Some q) (sym (ap (is_file my) e ∙ same)) found;
          has = has;
          passes = rw (e, same) p;
        } in
        or_else-keeps L _ (granted-then _ _ λ longer l.
        let loaded_ : Loads q scrap longer = record { there = e; names = is_equal _ _ same; longer_is = l } in
        granted (or_else-keeps L _ (granted-then _ _ λ sent s. granted (loads q scrap longer sent it loaded_ s))
        (λ refusal. loads_only q scrap longer refusal it loaded_)))
        (λ refusal. abandons q _ it (refusal, refl)))
        (λ other. skips (record { open_ = λ x h. refl; active = λ f h. refl; asking = λ y h. rw (e, other) refl }))

  asked : (file : FileData) (v : Option Asked) → asking_of (receiver.is_load from your) t.taking ≡ v →
      Act false (body.DataLoad file) (perform_take d t (option_map (receiver.load_for from my) v))
  unfolding perform_take take_with
  asked file None e = skips (record {
    open_ = λ x has. refl;
    active = λ f has. refl;
    asking = λ q has. and-false (is_file my d.scrap) _ (asking_none (receiver.is_load from your) t.taking q e has);
  })
  asked file (Some q) e = let w = asking_is (receiver.is_load from your) t.taking q e in file-loaded file q e w.0 w.1 d.scrap refl

  unasked : (file : FileData) (v : Option Asked) → asking_of (λ q. q.ack == my) t.taking ≡ v → Act true (body.DataSaveAck file) (ack_back d t v)
  unfolding ack_back
  unasked file None e = skips (record {
    open_ = λ x has. refl;
    active = λ f has. refl;
    asking = λ q has. asking_none (λ (q : Asked). q.ack == my) t.taking q e has;
  })
  unasked file (Some q) e =
      let w = asking_is (λ (q : Asked). q.ack == my) t.taking q e in abandons q outcome.Failed (record { found = e; has = w.0; passes = w.1 }) tt

  delivered-acts : (b : Body) → Act false b (delivered d t m b)
  unfolding delivered
  delivered-acts (body.DataSave file) = claimed file
  delivered-acts (body.DataSaveAck file) = filed file _ refl
  delivered-acts (body.DataLoad file) = asked file _ refl
  delivered-acts (body.DataLoadAck file) = finished file _ refl
  delivered-acts (body.RamFetch buffer n) =
      either (Act false (body.RamFetch buffer n)) (answers_none t.manner) (ignored d) _
      (λ none. skips (record { open_ = λ x has. rw none refl; active = λ f has. refl; asking = λ q has. refl })) (λ some. fetched buffer n some _ refl)
  delivered-acts (body.RamTransmit buffer n) = transmitted buffer n _ refl
  delivered-acts (body.Other o) = skips (record { open_ = λ x has. refl; active = λ f has. refl; asking = λ q has. refl })

  bounced_to-acts : (b : Body) → Act true b (bounced_to d t m b)
  unfolding bounced_to
  bounced_to-acts (body.DataSave file) = failed (λ f. refl) (λ q. refl) _ refl
  bounced_to-acts (body.DataSaveAck file) = unasked file _ refl
  bounced_to-acts (body.DataLoad file) = failed (λ f. refl) (λ q. refl) _ refl
  bounced_to-acts (body.DataLoadAck file) = skips (record { open_ = λ x has. refl; active = λ f has. refl; asking = λ q has. refl })
  bounced_to-acts (body.RamFetch buffer n) = returned buffer n _ refl
  bounced_to-acts (body.RamTransmit buffer n) = failed (λ f. refl) (λ q. refl) _ refl
  bounced_to-acts (body.Other o) = skips (record { open_ = λ x has. refl; active = λ f has. refl; asking = λ q has. refl })

  pub handled-acts : (c : EventCode) → Act (is_back c) m.message.body (handled d t m c)
  unfolding handled
  handled-acts User = delivered-acts m.message.body
  handled-acts Recorded = delivered-acts m.message.body
  handled-acts Acknowledge = bounced_to-acts m.message.body
