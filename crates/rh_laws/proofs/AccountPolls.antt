-- Each message that a poll handles leaves the blocks of the task that polls accounted for.
use Rattle.rh_laws.proofs.Common.{Active, Body, Desk, EventCode, Handled, Has, Incoming, Letter, List, None, Ok, OnGrant, Option, Outcome, Outgoing, Parcel}
use Rattle.rh_laws.proofs.Common.{Part, Post, Rise, Slot, Some, Taking, Task, ap, appended, arith, buffer_at, buffers_of, drop, eqb_tells, granted}
use Rattle.rh_laws.proofs.Common.{granted-then, handled, in_id, inl, inr, is_buffer_of, length, length-take, min, next_ref, refl, send_letter, subst, sym, take}
use Rattle.rh_laws.proofs.Common.{taking_ended, task_at, task_of, with_delivered, with_id, with_post, with_sending, with_slot, with_taking, with_task}
use Rattle.rh_laws.proofs.Common.{without_buffer, written_in, ℕ, ◌+◌, ◌-◌, ◌∙◌, ◌≡◌, ◌≢◌, ◌≤◌}
use Rattle.rh_defs.specs.declared.transfer.Incoming.TheVariants as incoming
use Rattle.rh_defs.specs.Receiver as receiver
use Rattle.rh_defs.proofs.Chains.{grant-holds}
use Rattle.rh_safety.proofs.Acts.{Act, abandons, asks, claim_of, claims, fails, finishes, gives_up, handled-acts, loads, loads_only, part_of, saves, sends}
use Rattle.rh_safety.proofs.Acts.{skips, takes_full, takes_last, takes_some}
use Rattle.rh_safety.proofs.SeenBlocks.{added_still, alloc_is, changed_still, extend_is, put_is}
use Rattle.rh_safety.proofs.SeenHeaps.{claim_is, claimed_free, claimed_map}
use Rattle.rh_laws.proofs.Frames.{edit-other, edit-own}
use Rattle.rh_laws.proofs.Accounts.{Accounts, begun-accounts, ended-accounts, one, renewed-accounts, same-accounts, size_in, sized-accounts}
use Rattle.rh_laws.proofs.AccountSlots.{written-sizes}
use Rattle.rh_safety.proofs.SeenDocuments.{rid_of}

-- ---- the task of a handle

-- the live task of a handle has the slot and the records
pub record Stands (h : ℕ) (d : Desk) (s : Slot) (ws : List Incoming) : Type 0 where
  pub task : Task
  pub there : task_at h d ≡ Some task
  pub slot : task.slot ≡ s
  pub taking : task.taking ≡ ws

module _ {h : ℕ} {d : Desk} {s : Slot} {ws : List Incoming} where
  -- it is edited
  pub stands-own : (f : Task → Task) → ((y : Task) → (f y).handle ≡ y.handle) → (new : Slot) (vs : List Incoming) →
      ((y : Task) → y.slot ≡ s → (f y).slot ≡ new) → ((y : Task) → y.taking ≡ ws → (f y).taking ≡ vs) → Stands h d s ws →
      Stands h (with_task h f d) new vs
  unfolding with_task
  stands-own f kh new vs slot taking w = record {
    task = f w.task;
    there = edit-own h f kh d.tasks w.task w.there;
    slot = slot w.task w.slot;
    taking = taking w.task w.taking;
  }

  -- another one is
  pub stands-other : (k : ℕ) (f : Task → Task) → ((y : Task) → (f y).handle ≡ y.handle) → k ≢ h → Stands h d s ws →
      Stands h (with_task k f d) s ws
  unfolding with_task
  stands-other k f kh ne w = record {
    task = w.task;
    there = edit-other k h f kh d.tasks ne ∙ w.there;
    slot = w.slot;
    taking = w.taking;
  }

  -- any one is, which keeps its slot and these records
  pub stands-still : (k : ℕ) (f : Task → Task) → ((y : Task) → (f y).handle ≡ y.handle) → ((y : Task) → (f y).slot ≡ y.slot) →
      ((y : Task) → (f y).taking ≡ y.taking) → Stands h d s ws → Stands h (with_task k f d) s ws
  stands-still k f kh slot taking w = elim (eqb_tells k h) [
    | inl a ↦ subst (λ j. Stands h (with_task j f d) s ws) (sym a.1)
        (stands-own f kh s ws (λ y q. slot y ∙ q) (λ y q. taking y ∙ q) w)
    | inr a ↦ stands-other k f kh a.1 w
  ]

  pub stands-sends : (edit : List Outgoing → List Outgoing) → Stands h d s ws → Stands h (with_sending h edit d) s ws
  stands-sends edit w = stands-still h (λ (t : Task). record t { sending = edit t.sending }) (λ y. refl) (λ y. refl) (λ y. refl) w

  pub stands-takes : (edit : List Incoming → List Incoming) → Stands h d s ws → Stands h (with_taking h edit d) s (edit ws)
  stands-takes edit w =
      stands-own (λ (t : Task). record t { taking = edit t.taking }) (λ y. refl) s (edit ws) (λ y q. q) (λ y q. ap edit q) w

  pub stands-slot : (new : Slot) → Stands h d s ws → Stands h (with_slot h new d) new ws
  stands-slot new w = stands-own (λ (t : Task). record t { slot = new }) (λ y. refl) new ws (λ y q. refl) (λ y q. q) w

  pub stands-delivered : (p : Post) → Stands h d s ws → Stands h (with_delivered p d) s ws
  unfolding with_delivered
  stands-delivered p w = record { task = w.task; there = w.there; slot = w.slot; taking = w.taking }

pub stands-letter : {h : ℕ} {d : Desk} {s : Slot} {ws : List Incoming} (l : Letter) → Stands h d s ws →
    OnGrant (λ e. Stands h e s ws) (send_letter l d)
unfolding send_letter
stands-letter {h} {d} {s} {ws} l w =
    granted-then _ _ λ sent e.
    granted (stands-still {h = h} {d = with_post sent.0 d} {s = s} {ws = ws} l.from (λ (t : Task). record t { last_sent = Some (l, sent.1) })
    (λ y. refl) (λ y. refl) (λ y. refl) (record { task = w.task; there = w.there; slot = w.slot; taking = w.taking }))

pub stands-ends : {h : ℕ} {d : Desk} {s : Slot} {ws : List Incoming} (f : Taking) (edit : List Incoming → List Incoming) →
    Stands h d s ws → Stands h (taking_ended h f edit d) (without_buffer f.buffer s) (edit ws)
unfolding taking_ended
stands-ends {h} {d} {s} {ws} f edit w =
    stands-takes edit (stands-own (λ (t : Task). record t { slot = without_buffer f.buffer t.slot }) (λ y. refl)
    (without_buffer f.buffer s) ws (λ y q. ap (without_buffer f.buffer) q) (λ y q. q) w)

-- no more bytes go out than were asked for
part-fits : (amount rest : ℕ) (bytes : List ℕ) → length (take (min amount rest) bytes) ≤ amount
part-fits amount rest bytes = simp length-take (omega arith)

-- ---- its account

-- the task of the handle has these records, and its blocks are accounted for
pub record Kept (c : ℕ → Option ℕ) (h : ℕ) (d : Desk) (ws : List Incoming) : Type 0 where
  pub slot : Slot
  pub stands : Stands h d slot ws
  pub all : Accounts c (buffers_of slot) ws

-- the same after a message was handled
pub record Keeps (c : ℕ → Option ℕ) (h : ℕ) (x : Handled) : Type 0 where
  pub records : List Incoming
  pub desk : Kept c h x.0 records

-- the same tasks
pub kept-as : {c : ℕ → Option ℕ} {h : ℕ} {d : Desk} {ws : List Incoming} → Kept c h d ws → (e : Desk) → e.tasks ≡ d.tasks → Kept c h e ws
kept-as {h = h} w e same = record {
  slot = w.slot;
  stands = record { task = w.stands.task; there = ap (task_of h) same ∙ w.stands.there; slot = w.stands.slot; taking = w.stands.taking };
  all = w.all;
}

-- bytes written into a slot's blocks
pub written-kept : {c : ℕ → Option ℕ} {h : ℕ} {d : Desk} {ws : List Incoming} (k : ℕ) (g : Slot → Slot) →
    ((s : Slot) (p : ℕ) → size_in (buffers_of (g s) p) ≡ size_in (buffers_of s p)) → Kept c h d ws →
    Kept c h (with_task k (λ (y : Task). record y { slot = g y.slot }) d) ws
written-kept {c} {h} {d} {ws} k g same w = elim (eqb_tells k h) [
  | inl a ↦ subst (λ j. Kept c h (with_task j (λ (y : Task). record y { slot = g y.slot }) d) ws) (sym a.1) (record {
    slot = g w.slot;
    stands = stands-own (λ (y : Task). record y { slot = g y.slot }) (λ y. refl) (g w.slot) ws (λ y q. ap g q) (λ y q. q) w.stands;
    all = sized-accounts (same w.slot) w.all;
  })
  | inr a ↦ record {
    slot = w.slot;
    stands = stands-other k (λ (y : Task). record y { slot = g y.slot }) (λ y. refl) a.1 w.stands;
    all = w.all;
  }
]

module _ (c : ℕ → Option ℕ) (t : Task) (next : ℕ) (up : Rise in_id 0 next t.taking) (all : Accounts c (buffers_of t.slot) t.taking) where
  abbrev h : ℕ
  h = t.handle

  abbrev K : Handled → Type 0
  K = Keeps c h

  -- a letter
  letter-kept : {d e : Desk} (l : Letter) → send_letter l d ≡ Ok e → Kept c h d t.taking → Kept c h e t.taking
  letter-kept l q g = record { slot = g.slot; stands = grant-holds (stands-letter l g.stands) q; all = g.all }

  outs-keep : (d : Desk) → Kept c h d t.taking → (edit : List Outgoing → List Outgoing) (o : Outcome) → K (with_sending h edit d, o)
  outs-keep d g edit o = record { records = t.taking; desk = record { slot = g.slot; stands = stands-sends edit g.stands; all = g.all } }

  -- a record written anew, which keeps its buffer or has none
  renewed-after : (d : Desk) → Kept c h d t.taking → (w v : Incoming) → Has w t.taking →
      ((p : ℕ) → is_buffer_of p v ≡ is_buffer_of p w) → (o : Outcome) → K (with_taking h (λ ws. with_id in_id (in_id w) v ws) d, o)
  renewed-after d g w v has same o = record {
    records = with_id in_id (in_id w) v t.taking;
    desk = record {
      slot = g.slot;
      stands = stands-takes (λ ws. with_id in_id (in_id w) v ws) g.stands;
      all = renewed-accounts next up w v has same g.all;
    };
  }

  -- a record that ends
  ended-after : (d : Desk) → Kept c h d t.taking → (f : Taking) (v : Incoming) → Active t.taking f → ((p : ℕ) → one p v ≡ 0) → (o : Outcome) →
      K (taking_ended h f (λ ws. with_id in_id f.id v ws) d, o)
  ended-after d g f v has none o = record {
    records = with_id in_id f.id v t.taking;
    desk = record {
      slot = without_buffer f.buffer g.slot;
      stands = stands-ends f (λ ws. with_id in_id f.id v ws) g.stands;
      all = same-accounts (rid_of f.buffer g.slot).buffers (elim has [
        | inl y ↦ ended-accounts next up (incoming.Fetching f) v f.buffer y (λ p. refl) none g.all
        | inr y ↦ ended-accounts next up (incoming.Draining f) v f.buffer y (λ p. refl) none g.all
      ]);
    };
  }

  module _ (d : Desk) (g : Kept c h d t.taking) (m : Parcel) where
    longer : {e : Desk} (k : ℕ) (bytes : List ℕ) → appended d t k bytes ≡ Ok e → Kept c h e t.taking
    unfolding appended
    longer k bytes q = grant-holds kept q
      where
        kept : OnGrant (λ e. Kept c h e t.taking) (appended d t k bytes)
        kept =
            granted-then _ _ λ document found. granted-then _ _ λ longer e. granted-then _ _ λ s f.
            granted (record {
              slot = s;
              stands = stands-slot s g.stands;
              all = same-accounts (λ i. changed_still (put_is k _ bytes longer s f) i ∙ changed_still (extend_is _ k _ t.slot longer e) i) all;
            })

    act-keeps : {back : _} {b : Body} {x : Handled} → Act d t m back b x → K x
    act-keeps (skips none) = record { records = t.taking; desk = g }
    act-keeps (fails x o it z) = outs-keep d g _ _
    act-keeps (sends {buffer = buffer} {n = n} x source r sent it w) =
        let p : Part = part_of d t m buffer n x source in
        let new : List ℕ = take p.n (drop p.offset source.here.bytes) in
        let few : length new ≤ n = part-fits n (length source.here.bytes - p.offset) (drop p.offset source.here.bytes) in
        outs-keep _ (written-kept r.handle (λ s. written_in buffer new (buffer_at buffer n s) s) (λ s p. written-sizes buffer n s new few p)
        (letter-kept _ w.letter g)) _ _
    act-keeps (saves x source sent it there none l) =
        outs-keep (record sent { scrap = Some _ }) (kept-as (letter-kept _ l (kept-as g _ refl)) _ refl) _ _
    act-keeps (finishes x source it there) = outs-keep d g _ _
    act-keeps (claims k b p sent few free e f l) =
        let w = claim_is _ t.buffer t.slot b e in
        let v = alloc_is _ k 0 b.0 p f in
        record {
          records = receiver.taking_claimed (claim_of d t m) k b.1 (next_ref d) t.taking;
          desk = record {
            slot = p.0;
            stands = stands-takes (receiver.taking_claimed (claim_of d t m) k b.1 (next_ref d)) (grant-holds (stands-letter _ (stands-slot p.0 g.stands)) l);
            all = same-accounts (λ i. added_still k _ b.0 p.0 v i ∙ claimed_map w i)
                (begun-accounts (receiver.new_taking (claim_of d t m) k b.1 (next_ref d)) _ (claimed_free w) all);
          };
        }
    act-keeps (gives_up f o it z) = ended-after d g f (incoming.Failed f.id f.anchor f.count) it.has (λ p. refl) o
    act-keeps (takes_last {n = n} f e it l less) =
        ended-after e (longer _ _ l) f (incoming.Done f.id f.anchor (f.count + n)) (inl it.has) (λ p. refl) _
    act-keeps (takes_some {n = n} f e o it l) =
        ended-after e (longer _ _ l) f (incoming.Failed f.id f.anchor (f.count + n)) (inl it.has) (λ p. refl) _
    act-keeps (takes_full {n = n} f e sent it l full s) =
        renewed-after sent (letter-kept _ s (longer _ _ l)) (incoming.Fetching f)
        (incoming.Fetching (record f { count = f.count + n; fetch = next_ref e })) it.has (λ p. refl) _
    act-keeps (asks f sent it none l) =
        ended-after sent (letter-kept _ l g) f (incoming.Asking (receiver.asked_by f (next_ref d))) (inl it.has) (λ p. refl) _
    act-keeps (abandons q o it z) = renewed-after d g (incoming.Asking q) (incoming.Failed q.id q.anchor 0) it.has (λ p. refl) o
    act-keeps (loads_only q file e o it w) =
        renewed-after (record e { scrap = None }) (kept-as (longer _ _ w.longer_is) _ refl) (incoming.Asking q)
        (incoming.Failed q.id q.anchor (length file.bytes)) it.has (λ p. refl) _
    act-keeps (loads q file e sent it w l) =
        renewed-after sent (letter-kept _ l (kept-as (longer _ _ w.longer_is) _ refl)) (incoming.Asking q)
        (incoming.Done q.id q.anchor (length file.bytes)) it.has (λ p. refl) _

    pub handled-keeps : (code : EventCode) → Keeps c t.handle (handled d t m code)
    handled-keeps code = act-keeps (handled-acts d t m code)
