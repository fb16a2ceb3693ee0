-- Each message that a poll handles keeps what agrees with what was offered.
use Rattle.rh_laws.proofs.Common.{Active, Asked, Body, Desk, Handled, Has, Incoming, List, OnGrant, Outgoing, Parcel, Part, Sending, Taking, Task}
use Rattle.rh_laws.proofs.Common.{Letter, None, Ok, Some, appended, chosen, false, granted, granted-then, handled, in_id, inl, inr, length, next_ref, out_id}
use Rattle.rh_laws.proofs.Common.{refl}
use Rattle.rh_laws.proofs.Common.{send_letter, subst, taking_ended, with_id, with_sending, with_taking, ℕ, ◌+◌, ◌≡◌}
use Rattle.rh_defs.proofs.Chains.{grant-holds}
use Rattle.rh_defs.specs.AnyMessage.{read_body}
use Rattle.rh_defs.specs.declared.transfer.Incoming.TheVariants as incoming
use Rattle.rh_defs.specs.declared.transfer.Outgoing.TheVariants as outgoing
use Rattle.rh_defs.specs.Sender as sender
use Rattle.rh_defs.specs.Receiver as receiver
use Rattle.rh_safety.proofs.Acts.{Act, abandons, asks, claims, fails, finishes, gives_up, handled-acts, loads, loads_only, part_of, saves, sends}
use Rattle.rh_safety.proofs.Acts.{skips, takes_full, takes_last, takes_some, transmit_of}
use Rattle.rh_laws.specs.Addressed.{Addresses, From}
use Rattle.rh_laws.proofs.Addresses.{Agrees, BodyAgrees, CodeAgrees, InAgrees, OutAgrees, TaskAgrees, all-has, all-more, all-with, code-says}
use Rattle.rh_laws.proofs.Addresses.{ended-agrees, ins-agree, outs-agree, plain-agrees, slot-agrees, task-agrees}

module _ (a : Addresses) (t : Task) (own : TaskAgrees a t) (d : Desk) (g : Agrees a d) (m : Parcel) where
  abbrev h : ℕ
  h = t.handle

  -- ---- records of the task: what each is of was offered

  of-open : (x : Sending) → Has (outgoing.Open x) t.sending → From (a x.id) h x.recipient
  of-open x has = all-has (OutAgrees a h) t.sending (outgoing.Open x) own.outs has

  of-asking : (q : Asked) → Has (incoming.Asking q) t.taking → From (a q.id) q.sender h
  of-asking q has = all-has (InAgrees a h) t.taking (incoming.Asking q) own.ins has

  of-active : (f : Taking) → Active t.taking f → From (a f.id) f.sender h
  of-active f (inl has) = all-has (InAgrees a h) t.taking (incoming.Fetching f) own.ins has
  of-active f (inr has) = all-has (InAgrees a h) t.taking (incoming.Draining f) own.ins has

  -- ---- edits of a desk that agrees

  module _ (e : Desk) (all : Agrees a e) where
    out : (id : ℕ) (v : Outgoing) → OutAgrees a h v → Agrees a (with_sending h (λ vs. with_id out_id id v vs) e)
    out id v is = outs-agree h _ (λ vs old. all-with (OutAgrees a h) out_id id v vs is old) e all

    in_ : (id : ℕ) (w : Incoming) → InAgrees a h w → Agrees a (with_taking h (λ ws. with_id in_id id w ws) e)
    in_ id w is = ins-agree h _ (λ ws old. all-with (InAgrees a h) in_id id w ws is old) e all

    ended : (f : Taking) (w : Incoming) → InAgrees a h w → Agrees a (taking_ended h f (λ ws. with_id in_id f.id w ws) e)
    ended f w is = ended-agrees h f _ (λ ws old. all-with (InAgrees a h) in_id f.id w ws is old) e all

    posted : {sent : Desk} (l : Letter) → BodyAgrees a l.from l.to e.post.next_ref (read_body l.body) → send_letter l e ≡ Ok sent → Agrees a sent
    posted l is q = grant-holds (plain-agrees l e is all) q

  longer : {e : Desk} (k : ℕ) (bytes : List ℕ) → appended d t k bytes ≡ Ok e → Agrees a e
  unfolding appended
  longer {e} k bytes q = grant-holds agrees q
    where
      agrees : OnGrant (Agrees a) (appended d t k bytes)
      agrees = granted-then _ _ λ document found. granted-then _ _ λ more e. granted-then _ _ λ s e2. granted (slot-agrees h s d g)

  -- ---- each message

  act-agrees : {back : _} {b : Body} {x : Handled} → Act d t m back b x → (back ≡ false → BodyAgrees a m.message.from h m.message.my_ref b) → Agrees a x.0
  act-agrees (skips none) is = g
  act-agrees (fails x o it z) is = out d g x.id (outgoing.Failed x.id x.count) (x.recipient, of-open x it.has)
  act-agrees (sends {buffer = buffer} {n = n} x source r sent it w) is =
      let p : Part = part_of d t m buffer n x source in
      let from = of-open x it.has in
      out _ (task-agrees r.handle _ (λ u same old. old) sent (posted d g _ tt w.letter)) x.id (sender.after_sent (transmit_of d t m buffer n x) p (next_ref d))
      (chosen (OutAgrees a h) p.is_last _ _ (x.recipient, from) from)
  act-agrees (saves x source sent it there none l) is =
      out (record sent { scrap = Some _ }) (posted _ g _ tt l) x.id (outgoing.Open (record x { last = next_ref d })) (of-open x it.has)
  act-agrees (finishes x source it there) is = out d g x.id (outgoing.Done x.id (length source.here.bytes)) (x.recipient, of-open x it.has)
  act-agrees (claims k b p sent few free claim alloc l) is =
      ins-agree h _ (λ ws old. all-more (InAgrees a h) _ _ ws (is refl) old) sent (posted _ (slot-agrees h _ d g) _ tt l)
  act-agrees (gives_up f o it z) is = ended d g f (incoming.Failed f.id f.anchor f.count) (f.sender, of-active f it.has)
  act-agrees (takes_last {n = n} f e it l less) is =
      ended e (longer _ _ l) f (incoming.Done f.id f.anchor (f.count + n)) (f.sender, of-active f (inl it.has))
  act-agrees (takes_some {n = n} f e o it l) is =
      ended e (longer _ _ l) f (incoming.Failed f.id f.anchor (f.count + n)) (f.sender, of-active f (inl it.has))
  act-agrees (takes_full {n = n} f e sent it l full s) is =
      in_ sent (posted e (longer _ _ l) _ tt s) f.id (incoming.Fetching (record f { count = f.count + n; fetch = next_ref e })) (of-active f (inl it.has))
  act-agrees (asks f sent it none l) is =
      ended sent (posted d g _ tt l) f (incoming.Asking (receiver.asked_by f (next_ref d))) (of-active f (inl it.has))
  act-agrees (abandons q o it z) is = in_ d g q.id (incoming.Failed q.id q.anchor 0) (q.sender, of-asking q it.has)
  act-agrees (loads_only q file e o it w) is =
      in_ (record e { scrap = None }) (longer _ _ w.longer_is) q.id (incoming.Failed q.id q.anchor (length file.bytes)) (q.sender, of-asking q it.has)
  act-agrees (loads q file e sent it w l) is =
      in_ sent (posted (record e { scrap = None }) (longer _ _ w.longer_is) _ tt l) q.id (incoming.Done q.id q.anchor (length file.bytes))
      (q.sender, of-asking q it.has)

  -- a message that is the task's
  pub mine-agrees : m.to ≡ h → CodeAgrees m.code (BodyAgrees a m.message.from m.to m.message.my_ref m.message.body) →
      Agrees a (handled d t m m.code).0
  mine-agrees own agrees = act-agrees (handled-acts d t m m.code) (λ came.
      subst (λ j. BodyAgrees a m.message.from j m.message.my_ref m.message.body) own (code-says m.code agrees came))
