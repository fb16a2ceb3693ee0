-- Each message that a poll handles keeps what holds of transfers and of the files that were loaded.
use Rattle.rh_laws.proofs.Common.{Acknowledge, Active, AllByRecursion, Asked, Body, Desk, EventCode, Handled, Has, Incoming, Letter, List, None, Ok, OnGrant}
use Rattle.rh_laws.proofs.Common.{Outgoing, Parcel, Part, Recorded, Some, Taking, Task, User, [], and_left, and_right, ap, appended, arith}
use Rattle.rh_laws.proofs.Common.{as_returned, chosen, eqb_tells, false, granted, granted-then, handled, in_id, inl, inr, is_equal, length, load_ack_letter}
use Rattle.rh_laws.proofs.Common.{nat_eq, next_ref, out_id, refl, same_value, send_letter, subst, sym, taking_ended, true, with_id, with_sending}
use Rattle.rh_laws.proofs.Common.{with_taking, with_task, ℕ, ◌+◌, ◌<◌, ◌∙◌, ◌∷◌, ◌≡◌}
use Rattle.rh_defs.proofs.Chains.{grant-holds}
use Rattle.rh_defs.specs.AnyMessage.{read_body}
use Rattle.rh_defs.specs.declared.transfer.Incoming.TheVariants as incoming
use Rattle.rh_defs.specs.declared.transfer.Outgoing.TheVariants as outgoing
use Rattle.rh_defs.specs.Sender as sender
use Rattle.rh_defs.specs.Receiver as receiver
use Rattle.rh_safety.proofs.Acts.{Act, abandons, asks, claims, fails, finishes, gives_up, handled-acts, load_of, loads, loads_only, part_of, saves, sends}
use Rattle.rh_safety.proofs.Acts.{skips, takes_full, takes_last, takes_some, transmit_of}
use Rattle.rh_laws.proofs.Addresses.{CodeAgrees, all-has, all-more, all-with, code-says}
use Rattle.rh_laws.proofs.Deliveries.{Agrees, Comes, Grows, HandleAgrees, InAgrees, Ins, IsOf, Marks, OutAgrees, ParcelAgrees, Says, Unloaded, ended-agrees}
use Rattle.rh_laws.proofs.Deliveries.{grows-same, ins-agree, letter-agrees, marked, ins-become, marked-agrees, marked-grows, marked-here, outs-agree}
use Rattle.rh_laws.proofs.Deliveries.{plain-agrees, says-grows, slot-agrees, task-agrees, tasks-grow}

-- after a message was handled, all agree with what is then known
pub record Keeps (a : Marks) (x : Handled) : Type 0 where
  pub marks : Marks
  pub more : Grows a marks
  pub same : marks.raw ≡ a.raw
  pub desk : Agrees marks x.0

-- a message for the handle that is not on its way back has a larger ref
abbrev pub ParcelAbove : ℕ → ℕ → Parcel → Type 0
ParcelAbove h id p = CodeAgrees p.code (p.to ≡ h → id < p.message.my_ref)

pub back-above : (h id : ℕ) (p : Parcel) → ParcelAbove h id (as_returned p)
back-above h id p = tt

-- the ids of the task's records were given, and no message for it that it hasn't read has one of them; its DataSaveAcks
-- are its own
pub record IsPast (a : Marks) (d : Desk) (t : Task) : Type 0 where
  pub below : (w : Incoming) → Has w t.taking → in_id w < next_ref d
  pub above : (w : Incoming) → Has w t.taking → AllByRecursion (ParcelAbove t.handle (in_id w)) d.post.queued
  pub acks : (q : Asked) → Has (incoming.Asking q) t.taking → a.raw q.ack ≡ false

-- ---- the file of a transfer was loaded

-- the same where one more file was loaded
abbrev now_loaded : Marks → ℕ → ℕ → Marks
now_loaded a h id = record a { loaded = (h, id) ∷ a.loaded }

module _ (a : Marks) (h id : ℕ) where
  abbrev b : Marks
  b = now_loaded a h id

  loads-more : Grows a b
  loads-more = record { refs = λ i j q. q; loads = λ r i has. inr has; raws = λ i q. q }

  -- the other transfers
  others-apart : (r i : ℕ) → (r ≡ h → i ≡ id → ⊥) → Unloaded a r i → Unloaded b r i
  others-apart r i other is (inl same) = other (sym (ap (λ (p : ℕ × ℕ). p.0) same)) (sym (ap (λ (p : ℕ × ℕ). p.1) same))
  others-apart r i other is (inr has) = is has

  -- what is left of a record that comes in: it agrees, or is of that transfer
  abbrev ButOne : Ins
  ButOne r w = (r ≡ h → in_id w ≡ id → ⊥) → InAgrees b r w

  but-one : (r : ℕ) (w : Incoming) → InAgrees a r w → ButOne r w
  but-one r (incoming.Fetching f) is other = others-apart r f.id other is
  but-one r (incoming.Draining f) is other = others-apart r f.id other is
  but-one r (incoming.Asking q) is other = (is.0, others-apart r q.id other is.1)
  but-one r (incoming.Done i k n) is other = tt
  but-one r (incoming.Failed i k n) is other = others-apart r i other is

  -- its record written anew, and those of the other handles
  ins-done : (k n : ℕ) (ws : List Incoming) → AllByRecursion (ButOne h) ws →
      AllByRecursion (InAgrees b h) (with_id in_id id (incoming.Done id k n) ws)
  ins-done k n [] all = tt
  ins-done k n (w ∷ ws) all = elim (eqb_tells (in_id w) id) [
    | inl v ↦ rw v.0 (tt, ins-done k n ws all.1)
    | inr v ↦ rw v.0 (all.0 (λ here same. v.1 same), ins-done k n ws all.1)
  ]

  mail-loaded : (ps : List Parcel) → AllByRecursion (ParcelAbove h id) ps → AllByRecursion (ParcelAgrees a) ps →
      AllByRecursion (ParcelAgrees b) ps
  mail-loaded [] above all = tt
  mail-loaded (p ∷ ps) above all = (by_code p.code above.0 all.0, mail-loaded ps above.1 all.1)
    where
      Came : Marks → Type 0
      Came c = Comes c p.to p.message.from p.message.my_ref p.message.your_ref (read_body p.message.body)

      both : (p.to ≡ h → id < p.message.my_ref) → Came a → Came b
      both low c = record {
        says = says-grows a b loads-more p.message.from p.message.my_ref p.message.your_ref (read_body p.message.body) c.says;
        apart = others-apart p.to p.message.my_ref (λ here same. let less = low here in omega (arith, less, same)) c.apart;
      }

      by_code : (c : EventCode) → CodeAgrees c (p.to ≡ h → id < p.message.my_ref) → CodeAgrees c (Came a) →
          CodeAgrees c (Came b)
      by_code User low c = both low c
      by_code Recorded low c = both low c
      by_code Acknowledge low c = tt

-- ---- edits of a desk that agrees

module _ (b : Marks) (h : ℕ) (e : Desk) (all : Agrees b e) where
  out : (id : ℕ) (v : Outgoing) → OutAgrees b v → Agrees b (with_sending h (λ vs. with_id out_id id v vs) e)
  out id v is = outs-agree h _ (λ vs old. all-with (OutAgrees b) out_id id v vs is old) e all

  in_ : (id : ℕ) (w : Incoming) → InAgrees b h w → Agrees b (with_taking h (λ ws. with_id in_id id w ws) e)
  in_ id w is = ins-agree h _ (λ ws old. all-with (InAgrees b h) in_id id w ws is old) e all

  ended : (f : Taking) (w : Incoming) → InAgrees b h w → Agrees b (taking_ended h f (λ ws. with_id in_id f.id w ws) e)
  ended f w is = ended-agrees h f _ (λ ws old. all-with (InAgrees b h) in_id f.id w ws is old) e all

  posted : {sent : Desk} (l : Letter) → Says b l.from e.post.next_ref l.your_ref (read_body l.body) → send_letter l e ≡ Ok sent → Agrees b sent
  posted l is q = grant-holds (plain-agrees b l e is all) q

-- ---- each message

module _ (a : Marks) (t : Task) (own : HandleAgrees a (InAgrees a) t.handle t) (d : Desk) (g : Agrees a d) (past : IsPast a d t) (m : Parcel) where
  abbrev h : ℕ
  h = t.handle

  of-active : (f : Taking) → Active t.taking f → Unloaded a h f.id
  of-active f (inl has) = all-has (InAgrees a h) t.taking (incoming.Fetching f) own.ins has
  of-active f (inr has) = all-has (InAgrees a h) t.taking (incoming.Draining f) own.ins has

  of-asking : (q : Asked) → Has (incoming.Asking q) t.taking → (a.of_ref q.ack ≡ Some q.id) × Unloaded a h q.id
  of-asking q has = all-has (InAgrees a h) t.taking (incoming.Asking q) own.ins has

  still : {x : Handled} → Agrees a x.0 → Keeps a x
  still all = record { marks = a; more = grows-same a; same = refl; desk = all }

  -- where the next ref belongs to the transfer from then on
  abbrev next_of : ℕ → Marks
  next_of id = marked a (next_ref d) (Some id)

  next-more : (id : ℕ) → Grows a (next_of id)
  next-more id = marked-grows a (next_ref d) (Some id) (g.born (next_ref d) (omega arith))

  next-is : (id : ℕ) → (next_of id).of_ref (next_ref d) ≡ Some id
  next-is id = marked-here a (next_ref d) (Some id)

  marks : {x : Handled} (id : ℕ) → Agrees (next_of id) x.0 → Keeps a x
  marks id all = record { marks = next_of id; more = next-more id; same = refl; desk = all }

  -- the document with more bytes, and the same post
  record IsLonger (e : Desk) : Type 0 where
    desk : Agrees a e
    post : e.post ≡ d.post

  longer : {e : Desk} (k : ℕ) (bytes : List ℕ) → appended d t k bytes ≡ Ok e → IsLonger e
  unfolding appended with_task
  longer {e} k bytes q = grant-holds is q
    where
      is : OnGrant IsLonger (appended d t k bytes)
      is = granted-then _ _ λ document found. granted-then _ _ λ more e. granted-then _ _ λ s e2.
          granted (record { desk = slot-agrees h s d g; post = refl })

  -- a DataLoad that answers a record's DataSaveAck belongs to the record's transfer
  load-answers : (i : ℕ) × (a.of_ref m.message.my_ref ≡ Some i) × IsOf a m.message.your_ref i → (q : Asked) → Has (incoming.Asking q) t.taking →
      receiver.is_load m.message.from m.message.your_ref q ≡ true → a.of_ref m.message.my_ref ≡ Some q.id
  load-answers of q has p =
      let ack : m.message.your_ref ≡ q.ack = is_equal _ _ (and_right (nat_eq m.message.from q.sender) _ p) in
      let plays : a.raw m.message.your_ref ≡ false = ap a.raw ack ∙ past.acks q has in
      let same : of.0 ≡ q.id = same_value (a.of_ref m.message.your_ref) (of.2 plays) (ap a.of_ref ack ∙ (of-asking q has).0) in
      of.1 ∙ ap Some same

  -- the DataLoad that it answers belongs to the transfer of the record
  loaded-keeps : (q : Asked) (n : ℕ) (e sent : Desk) (o : _) → IsLonger e → Has (incoming.Asking q) t.taking → IsOf a m.message.my_ref q.id →
      send_letter (load_ack_letter h (load_of d t m q) n) (record e { scrap = None }) ≡ Ok sent →
      Keeps a (with_taking h (receiver.taking_loaded q n) sent, o)
  loaded-keeps q n e sent o w has is s =
      let more = loads-more a h q.id in
      let low = subst (λ p. q.id < p.next_ref) (sym w.post) (past.below (incoming.Asking q) has) in
      let above = subst (λ p. AllByRecursion (ParcelAbove h q.id) p.queued) (sym w.post) (past.above (incoming.Asking q) has) in
      let all = grant-holds (letter-agrees (now_loaded a h q.id) (ButOne a h q.id) (load_ack_letter h (load_of d t m q) n) (record e { scrap = None }) (record {
        born = λ i up. w.desk.born i (omega (arith, up));
        unloaded = λ r i up. others-apart a h q.id r i (λ here same. omega (arith, low, up, same)) (w.desk.unloaded r i up);
        of_tasks = tasks-grow a (now_loaded a h q.id) more (InAgrees a) (ButOne a h q.id) (but-one a h q.id) e.tasks w.desk.of_tasks;
        mail = mail-loaded a h q.id e.post.queued above w.desk.mail;
        says = λ plays. (q.id, is, inl refl);
      })) s in
      record {
        marks = now_loaded a h q.id;
        more = more;
        same = refl;
        desk = ins-become h (receiver.taking_loaded q n) (ins-done a h q.id q.anchor n) (λ j other w but. but (λ here same. other here)) sent all;
      }

  act-keeps : {back : _} {b : Body} {x : Handled} → Act d t m back b x → (back ≡ false → Says a m.message.from m.message.my_ref m.message.your_ref b) →
      (back ≡ false → Unloaded a h m.message.my_ref) → Keeps a x
  act-keeps (skips none) is apart = still g
  act-keeps (fails x o it z) is apart = still (out a h d g x.id (outgoing.Failed x.id x.count) tt)
  act-keeps (sends {buffer = buffer} {n = n} x source r sent it w) is apart =
      let p : Part = part_of d t m buffer n x source in
      let all = grant-holds (marked-agrees a (Some x.id) _ d (λ plays. tt) g) w.letter in
      marks x.id (out (next_of x.id) h _ (task-agrees r.handle _ (λ u. refl) (λ u old. record { sent = old.sent; outs = old.outs; ins = old.ins }) sent all)
      x.id (sender.after_sent (transmit_of d t m buffer n x) p (next_ref d)) (chosen (OutAgrees (next_of x.id)) p.is_last _ _ tt (next-is x.id)))
  act-keeps (saves x source sent it there none l) is apart =
      let id : m.message.your_ref ≡ x.id =
      is_equal _ _ (and_right _ (nat_eq m.message.your_ref x.id) (and_left _ (nat_eq x.id x.last) it.passes)) in
      let all = grant-holds (marked-agrees a (Some x.id) _ _ (λ plays. (
        x.id,
        next-is x.id,
        λ his. (next-more x.id).refs m.message.my_ref x.id (is refl his ∙ ap Some id),
      )) g) l in
      marks x.id (out (next_of x.id) h (record sent { scrap = Some _ }) all x.id (outgoing.Open (record x { last = next_ref d })) (next-is x.id))
  act-keeps (finishes x source it there) is apart = still (out a h d g x.id (outgoing.Done x.id (length source.here.bytes)) tt)
  act-keeps (claims k b p sent few free claim alloc l) is apart =
      still (ins-agree h _ (λ ws old. all-more (InAgrees a h) _ _ ws (apart refl) old) sent (posted a h _ (slot-agrees h _ d g) _ (λ plays. tt) l))
  act-keeps (gives_up f o it z) is apart = still (ended a h d g f (incoming.Failed f.id f.anchor f.count) (of-active f it.has))
  act-keeps (takes_last {n = n} f e it l less) is apart = still (ended a h e (longer _ _ l).desk f (incoming.Done f.id f.anchor (f.count + n)) tt)
  act-keeps (takes_some {n = n} f e o it l) is apart =
      still (ended a h e (longer _ _ l).desk f (incoming.Failed f.id f.anchor (f.count + n)) (of-active f (inl it.has)))
  act-keeps (takes_full {n = n} f e sent it l full s) is apart =
      still (in_ a h sent (posted a h e (longer _ _ l).desk _ (λ plays. tt) s) f.id (incoming.Fetching (record f { count = f.count + n; fetch = next_ref e }))
      (of-active f (inl it.has)))
  act-keeps (asks f sent it none l) is apart =
      let all = grant-holds (marked-agrees a (Some f.id) _ d (λ plays. next-is f.id) g) l in
      marks f.id (ended (next_of f.id) h sent all f (incoming.Asking (receiver.asked_by f (next_ref d))) (next-is f.id, of-active f (inl it.has)))
  act-keeps (abandons q o it z) is apart = still (in_ a h d g q.id (incoming.Failed q.id q.anchor 0) (of-asking q it.has).1)
  act-keeps (loads_only q file e o it w) is apart =
      still (in_ a h (record e { scrap = None }) (longer _ _ w.longer_is).desk q.id (incoming.Failed q.id q.anchor (length file.bytes)) (of-asking q it.has).1)
  act-keeps (loads q file e sent it w l) is apart =
      loaded-keeps q (length file.bytes) e sent _ (longer _ _ w.longer_is) it.has (λ his. load-answers (is refl his) q it.has (and_right _ _ it.passes)) l

  -- a message that is the task's
  pub mine-keeps : m.to ≡ h →
      CodeAgrees m.code (Comes a m.to m.message.from m.message.my_ref m.message.your_ref m.message.body) →
      Keeps a (handled d t m m.code)
  mine-keeps to is = act-keeps (handled-acts d t m m.code) (λ e. (code-says m.code is e).says)
      (λ e. subst (λ j. Unloaded a j m.message.my_ref) to (code-says m.code is e).apart)
