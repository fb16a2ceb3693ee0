-- What a message that was handled makes of a desk, told once: edits of the task's own slot and records, letters of its own,
-- the scrap file and area 5, and bytes that a transmit writes into the recipient's slot.
use Rattle.rh_safety.proofs.Common.{Body, Bool, Desk, EventCode, Flex, Handled, Incoming, List, Ok, Option, Outgoing, Parcel, Scrap, Sending, Slot, Split}
use Rattle.rh_safety.proofs.Common.{Taking, Task, appended, false, granted, granted-then, handled, next_ref, refl, send_letter, taking_ended, with_sending}
use Rattle.rh_safety.proofs.Common.{OnGrant, with_taking, with_task, ℕ, ◌≡◌}
use Rattle.rh_defs.proofs.Chains.{grant-holds}
use Rattle.rh_defs.specs.declared.message.Body.TheVariants as body
use Rattle.rh_defs.specs.declared.message.Letter.{Letter}
use Rattle.rh_defs.specs.declared.reply.Outcome.TheVariants as outcome
use Rattle.rh_defs.specs.Sender as sender
use Rattle.rh_safety.proofs.Acts.{Act, ForOpen, Sends, abandons, asks, claims, fails, finishes, gives_up, handled-acts, loads, loads_only, part_of}
use Rattle.rh_safety.proofs.Acts.{poured, saves, sends, skips, takes_full, takes_last, takes_some, transmit_of}

-- a relation of two desks that holds of each edit of what is a task's own, and of one after another
pub record OwnEdits (h : ℕ) (R : Desk → Desk → Type 0) : Type 0 where
  pub same : (d : Desk) → R d d
  pub after : {d e f : Desk} → R d e → R e f → R d f
  pub slot : (edit : Slot → Slot) (d : Desk) → R d (with_task h (λ t. record t { slot = edit t.slot }) d)
  pub outs : (edit : List Outgoing → List Outgoing) (d : Desk) → R d (with_sending h edit d)
  pub ins : (edit : List Incoming → List Incoming) (d : Desk) → R d (with_taking h edit d)
  pub letter : (l : Letter) (d : Desk) → l.from ≡ h → OnGrant (R d) (send_letter l d)
  pub scrap : (file : Option Scrap) (d : Desk) → R d (record d { scrap = file })
  pub areas : (areas : List ℕ) (d : Desk) → R d (record d { areas = areas })

-- the same of an edit of any task's slot
abbrev pub OfAnySlot : (Desk → Desk → Type 0) → Type 0
OfAnySlot R = (h : ℕ) (edit : Slot → Slot) (d : Desk) → R d (with_task h (λ t. record t { slot = edit t.slot }) d)

module _ (R : Desk → Desk → Type 0) (t : Task) (own : OwnEdits t.handle R) (d : Desk) (m : Parcel) where
  ended : {e : Desk} (f : Taking) (edit : List Incoming → List Incoming) → R d e → R d (taking_ended t.handle f edit e)
  unfolding taking_ended
  ended f edit one = own.after one (own.after (own.slot _ _) (own.ins edit _))

  ins : {e : Desk} (edit : List Incoming → List Incoming) → R d e → R d (with_taking t.handle edit e)
  ins edit one = own.after one (own.ins edit _)

  outs : {e : Desk} (edit : List Outgoing → List Outgoing) → R d e → R d (with_sending t.handle edit e)
  outs edit one = own.after one (own.outs edit _)

  posted : {e sent : Desk} (l : Letter) → l.from ≡ t.handle → send_letter l e ≡ Ok sent → R d e → R d sent
  posted {e} l from q one = own.after one (grant-holds (own.letter l e from) q)

  longer : {e : Desk} (k : ℕ) (bytes : List ℕ) → appended d t k bytes ≡ Ok e → R d e
  unfolding appended
  longer k bytes q = grant-holds edits q
    where
      edits : OnGrant (R d) (appended d t k bytes)
      edits = granted-then _ _ λ document found. granted-then _ _ λ longer e. granted-then _ _ λ s f. granted (own.slot (λ old. s) d)

  -- what holds of such edits holds of each message, if it holds of a transmit
  pub act-own : (P : Bool → Body → Handled → Type 0) → ((back : Bool) (b : Body) (x : Handled) → R d x.0 → P back b x) →
      ((buffer n : ℕ) (x : Sending) (source : Split Flex) (r : Task) (sent : Desk) →
      ForOpen d t m false (body.RamFetch buffer n) x → Sends d t m buffer n x source r sent → R d sent → P false (body.RamFetch buffer n) (
        with_sending t.handle (sender.sent (transmit_of d t m buffer n x) (part_of d t m buffer n x source) (next_ref d))
            (poured d t m buffer n (part_of d t m buffer n x source) source r sent),
        outcome.Sent (part_of d t m buffer n x source).n (next_ref d),
      )) → {back : Bool} {b : Body} {x : Handled} → Act d t m back b x → P back b x
  act-own P just sent_ (skips none) = just _ _ _ (own.same d)
  act-own P just sent_ (fails x o it z) = just _ _ _ (own.outs _ d)
  act-own P just sent_ (sends {buffer = buffer} {n = n} x source r sent it w) = sent_ buffer n x source r sent it w (posted _ refl w.letter (own.same d))
  act-own P just sent_ (saves x source sent it there none l) = just _ _ _ (outs _ (own.after (posted _ refl l (own.areas _ d)) (own.scrap _ sent)))
  act-own P just sent_ (finishes x source it there) = just _ _ _ (own.outs _ d)
  act-own P just sent_ (claims k b p sent few free claim alloc l) = just _ _ _ (ins _ (posted _ refl l (own.slot (λ s. p.0) d)))
  act-own P just sent_ (gives_up f o it z) = just _ _ _ (ended f _ (own.same d))
  act-own P just sent_ (takes_last f e it l less) = just _ _ _ (ended f _ (longer _ _ l))
  act-own P just sent_ (takes_some f e o it l) = just _ _ _ (ended f _ (longer _ _ l))
  act-own P just sent_ (takes_full f e sent it l full s) = just _ _ _ (ins _ (posted _ refl s (longer _ _ l)))
  act-own P just sent_ (asks f sent it none l) = just _ _ _ (ended f _ (posted _ refl l (own.same d)))
  act-own P just sent_ (abandons q o it z) = just _ _ _ (own.ins _ d)
  act-own P just sent_ (loads_only q file e o it w) = just _ _ _ (ins _ (own.after (longer _ _ w.longer_is) (own.scrap _ e)))
  act-own P just sent_ (loads q file e sent it w l) = just _ _ _ (ins _ (posted _ refl l (own.after (longer _ _ w.longer_is) (own.scrap _ e))))

  -- a message of any kind
  pub handled-own : OfAnySlot R → (c : EventCode) → R d (handled d t m c).0
  handled-own any c = act-own (λ back b x. R d x.0) (λ back b x one. one) (λ buffer n x source r sent it w one. outs _ (own.after one (any r.handle _ sent)))
      (handled-acts d t m c)
