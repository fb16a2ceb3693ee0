-- Each message that a poll handles leaves the buffers of the task that polls with the bytes that were moved there.
use Rattle.rh_laws.proofs.Common.{Active, Body, Bool, Desk, None, length, EventCode, Handled, Has, Incoming, Letter, List, Ok, OnGrant, Outcome}
use Rattle.rh_laws.proofs.Common.{Outgoing, Parcel, Part, Sending, Slot, Split, Some, Taking, Task, ap, appended, buffer_at, buffers_of, drop}
use Rattle.rh_laws.proofs.Common.{eqb_tells, false, granted, granted-then, handled, in_id, inl, inr, next_ref, put_same, refl, send_letter, subst}
use Rattle.rh_laws.proofs.Common.{sym, take, true, task_of, taking_ended, with_id, with_sending, with_taking, with_task, without_buffer, written_in}
use Rattle.rh_laws.proofs.Common.{zeros, block_room, arith, at_place, length-take, min, ◌≤◌, ℕ, ◌+◌, ◌∙◌, ◌≡◌, ◌≢◌, Flex}
use Rattle.rh_defs.specs.declared.message.Body.TheVariants as body
use Rattle.rh_defs.specs.declared.reply.Outcome.TheVariants as outcome
use Rattle.rh_defs.specs.declared.transfer.Incoming.TheVariants as incoming
use Rattle.rh_defs.specs.Receiver as receiver
use Rattle.rh_defs.proofs.Chains.{grant-holds}
use Rattle.rh_safety.proofs.Acts.{Act, ForOpen, Sends, abandons, asks, claim_of, claims, fails, finishes, gives_up, handled-acts, is_back, loads}
use Rattle.rh_safety.proofs.Acts.{loads_only, part_of, saves, sends, skips, takes_full, takes_last, takes_some}
use Rattle.rh_safety.proofs.SeenBlocks.{added_still, alloc_is, changed_still, extend_is, put_is}
use Rattle.rh_safety.proofs.SeenDocuments.{rid_of}
use Rattle.rh_safety.proofs.SeenHeaps.{claim_is, claimed_free, claimed_map}
use Rattle.rh_laws.specs.Contents.{Contents, contents_by}
use Rattle.rh_laws.proofs.AccountPolls.{Stands, stands-ends, stands-letter, stands-other, stands-own, stands-sends, stands-slot, stands-takes}
use Rattle.rh_laws.proofs.ContentRecords.{Filled, begun-filled, ended-filled, going-filled, renewed-filled, same-filled}

-- the task of the handle has these records, and their buffers these bytes
pub record Kept (g : ℕ → List ℕ) (h : ℕ) (d : Desk) (ws : List Incoming) : Type 0 where
  pub slot : Slot
  pub stands : Stands h d slot ws
  pub all : Filled g (buffers_of slot) ws

-- the same after a message was handled
pub record Keeps (g : ℕ → List ℕ) (h : ℕ) (d : Desk) : Type 0 where
  pub records : List Incoming
  pub desk : Kept g h d records

-- the same tasks
kept-as : {g : ℕ → List ℕ} {h : ℕ} {d : Desk} {ws : List Incoming} → Kept g h d ws → (e : Desk) → e.tasks ≡ d.tasks → Kept g h e ws
kept-as {h = h} w e same = record {
  slot = w.slot;
  stands = record { task = w.stands.task; there = ap (task_of h) same ∙ w.stands.there; slot = w.stands.slot; taking = w.stands.taking };
  all = w.all;
}

-- no more bytes go out than were asked for
pub part-few : (amount rest : ℕ) (bytes : List ℕ) (room : ℕ) → amount ≤ room → length (take (min amount rest) bytes) ≤ room
part-few amount rest bytes room le = simp length-take (omega (arith, le))

-- ---- where no record begins

abbrev pub fetches_first : Outcome → Bool
fetches_first (outcome.Fetch ref) = true
fetches_first o = false

pub by-none : (g : Contents) (t : Task) (m : Parcel) (back : Bool) (b : Body) (o : Outcome) → fetches_first o ≡ false → contents_by g t m back b o ≡ g
by-none g t m false (body.DataSave file) (outcome.Fetch ref) q = absurd (let z : true ≡ false = q in (cc))
by-none g t m back b o q = refl

-- ---- what is known of the message

-- where bytes go out to the task itself, its buffers have what they had
abbrev pub Pours : (ℕ → List ℕ) → Desk → Task → Parcel → Bool → Body → Type 0
Pours row d t m back b =
    (buffer n : ℕ) (x : Sending) (source : Split Flex) (r : Task) (sent : Desk) → back ≡ false → b ≡ body.RamFetch buffer n →
    ForOpen d t m false (body.RamFetch buffer n) x → Sends d t m buffer n x source r sent → r.handle ≡ t.handle →
    let p : Part = part_of d t m buffer n x source in
    Filled row (buffers_of (written_in buffer (take p.n (drop p.offset source.here.bytes)) (buffer_at buffer n t.slot) t.slot)) t.taking

-- the ref of a message that came is no record's id
abbrev pub Unborn : Task → Parcel → Bool → Type 0
Unborn t m back = back ≡ false → (w : Incoming) → Has w t.taking → in_id w ≢ m.message.my_ref

module _ (g : Contents) (d : Desk) (t : Task) (m : Parcel) (here : Kept (g t.handle) t.handle d t.taking) (slot_is : here.slot ≡ t.slot)
    (apart : (k f : Taking) → Has (incoming.Fetching k) t.taking → Active t.taking f → k.buffer ≡ f.buffer → k.id ≡ f.id) where
  abbrev h : ℕ
  h = t.handle

  all : Filled (g h) (buffers_of t.slot) t.taking
  all = subst (λ (s : Slot). Filled (g h) (buffers_of s) t.taking) slot_is here.all

  abbrev K : Bool → Body → Handled → Type 0
  K back b x = Keeps (contents_by g t m back b x.1 h) h x.0

  -- no record begins
  still : (back : Bool) (b : Body) (o : Outcome) (e : Desk) → fetches_first o ≡ false → Keeps (g h) h e → K back b (e, o)
  still back b o e none w = subst (λ (z : Contents). Keeps (z h) h e) (sym (by-none g t m back b o none)) w

  letter-kept : {e sent : Desk} (l : Letter) → send_letter l e ≡ Ok sent → Kept (g h) h e t.taking → Kept (g h) h sent t.taking
  letter-kept l q w = record { slot = w.slot; stands = grant-holds (stands-letter l w.stands) q; all = w.all }

  outs-keep : (e : Desk) → Kept (g h) h e t.taking → (edit : List Outgoing → List Outgoing) → Keeps (g h) h (with_sending h edit e)
  outs-keep e w edit = record { records = t.taking; desk = record { slot = w.slot; stands = stands-sends edit w.stands; all = w.all } }

  -- a record written anew
  renewed : (e : Desk) → Kept (g h) h e t.taking → (id : ℕ) (v : Incoming) → ((f : Taking) → v ≡ incoming.Fetching f → ⊥) →
      Keeps (g h) h (with_taking h (λ ws. with_id in_id id v ws) e)
  renewed e w id v ended = record {
    records = with_id in_id id v t.taking;
    desk = record {
      slot = w.slot;
      stands = stands-takes (λ ws. with_id in_id id v ws) w.stands;
      all = renewed-filled w.all id v (λ f q. absurd (ended f q));
    };
  }

  -- a record that ends, and its buffer
  ended : (e : Desk) → Kept (g h) h e t.taking → (f : Taking) (v : Incoming) → Active t.taking f → ((k : Taking) → v ≡ incoming.Fetching k → ⊥) →
      Keeps (g h) h (taking_ended h f (λ ws. with_id in_id f.id v ws) e)
  ended e w f v has ends = record {
    records = with_id in_id f.id v t.taking;
    desk = record {
      slot = without_buffer f.buffer w.slot;
      stands = stands-ends f (λ ws. with_id in_id f.id v ws) w.stands;
      all = same-filled (ended-filled w.all f v (λ k there same. apart k f there has same) ends) (rid_of f.buffer w.slot).buffers;
    };
  }

  longer : {e : Desk} (k : ℕ) (bytes : List ℕ) → appended d t k bytes ≡ Ok e → Kept (g h) h e t.taking
  unfolding appended
  longer k bytes q = grant-holds kept q
    where
      kept : OnGrant (λ e. Kept (g h) h e t.taking) (appended d t k bytes)
      kept =
          granted-then _ _ λ document found. granted-then _ _ λ more e. granted-then _ _ λ s f.
          granted (record {
            slot = s;
            stands = stands-slot s here.stands;
            all = same-filled all (λ i. changed_still (put_is k _ bytes more s f) i ∙ changed_still (extend_is _ k _ t.slot more e) i);
          })

  poured-kept : (e : Desk) (k : ℕ) (edit : Slot → Slot) → Kept (g h) h e t.taking → (w : Stands h e t.slot t.taking) →
      (k ≡ h → Filled (g h) (buffers_of (edit t.slot)) t.taking) → Kept (g h) h (with_task k (λ (y : Task). record y { slot = edit y.slot }) e) t.taking
  poured-kept e k edit kept w own = elim (eqb_tells k h) [
    | inl a ↦ record {
      slot = edit t.slot;
      stands = subst (λ j. Stands h (with_task j (λ (y : Task). record y { slot = edit y.slot }) e) (edit t.slot) t.taking) (sym a.1)
          (stands-own (λ (y : Task). record y { slot = edit y.slot }) (λ y. refl) (edit t.slot) t.taking (λ y q. ap edit q) (λ y q. q) w);
      all = own a.1;
    }
    | inr a ↦ record {
      slot = t.slot;
      stands = stands-other k (λ (y : Task). record y { slot = edit y.slot }) (λ y. refl) a.1 w;
      all = all;
    }
  ]

  act-keeps : {back : Bool} {b : Body} {x : Handled} → Pours (g h) d t m back b → Unborn t m back → Act d t m back b x → K back b x
  act-keeps pours unborn (skips {back = back} {b = b} none) = still back b outcome.Ignored d refl (record { records = t.taking; desk = here })
  act-keeps pours unborn (fails {back = true} x o it z) = outs-keep d here _
  act-keeps pours unborn (fails {back = false} {b = b} x o it z) =
      still false b o _ (ap fetches_first z.1) (outs-keep d here _)
  act-keeps pours unborn (sends {buffer = buffer} {n = n} x source r sent it w) =
      let p : Part = part_of d t m buffer n x source in
      let stands : Stands h d t.slot t.taking = subst (λ (s : Slot). Stands h d s t.taking) slot_is here.stands in
      outs-keep _ (poured-kept sent r.handle (λ s. written_in buffer (take p.n (drop p.offset source.here.bytes)) (buffer_at buffer n s) s)
      (letter-kept _ w.letter here) (grant-holds (stands-letter _ stands) w.letter) (pours buffer n x source r sent refl refl it w)) _
  act-keeps pours unborn (saves x source sent it there none l) =
      outs-keep (record sent { scrap = Some _ }) (kept-as (letter-kept _ l (kept-as here _ refl)) _ refl) _
  act-keeps pours unborn (finishes x source it there) = outs-keep d here _
  act-keeps pours unborn (claims k b p sent few free e f l) =
      let w = claim_is _ t.buffer t.slot b e in
      let v = alloc_is _ k 0 b.0 p f in
      let bytes : List ℕ = zeros (block_room t.buffer) in
      record {
        records = receiver.taking_claimed (claim_of d t m) k b.1 (next_ref d) t.taking;
        desk = record {
          slot = p.0;
          stands = stands-takes (receiver.taking_claimed (claim_of d t m) k b.1 (next_ref d))
              (grant-holds (stands-letter _ (stands-slot p.0 here.stands)) l);
          all = subst (λ (y : ℕ → List ℕ). Filled y (buffers_of p.0) (receiver.taking_claimed (claim_of d t m) k b.1 (next_ref d) t.taking))
              (sym (put_same g h (at_place (g h) m.message.my_ref bytes)))
              (same-filled (begun-filled all (receiver.new_taking (claim_of d t m) k b.1 (next_ref d)) bytes (claimed_free w) (unborn refl))
              (λ i. added_still k _ b.0 p.0 v i ∙ claimed_map w i));
        };
      }
  act-keeps pours unborn (gives_up {back = true} f o it z) = ended d here f (incoming.Failed f.id f.anchor f.count) it.has (λ k q. absurd (cc))
  act-keeps pours unborn (gives_up {back = false} {b = body.RamTransmit buffer n} f o it z) =
      ended d here f (incoming.Failed f.id f.anchor f.count) it.has (λ k q. absurd (cc))
  act-keeps pours unborn (gives_up f o it z) = absurd (let z : false ≡ true = it.passes in (cc))
  act-keeps pours unborn (takes_last {n = n} f e it l less) =
      ended e (longer _ _ l) f (incoming.Done f.id f.anchor (f.count + n)) (inl it.has) (λ k q. absurd (cc))
  act-keeps pours unborn (takes_some {n = n} f e o it l) =
      ended e (longer _ _ l) f (incoming.Failed f.id f.anchor (f.count + n)) (inl it.has) (λ k q. absurd (cc))
  act-keeps pours unborn (takes_full {n = n} f e sent it l full s) =
      let kept = letter-kept _ s (longer _ _ l) in
      let on : Taking = record f { count = f.count + n; fetch = next_ref e } in
      record {
        records = with_id in_id f.id (incoming.Fetching on) t.taking;
        desk = record {
          slot = kept.slot;
          stands = stands-takes (λ ws. with_id in_id f.id (incoming.Fetching on) ws) kept.stands;
          all = going-filled kept.all f on it.has refl refl refl;
        };
      }
  act-keeps pours unborn (asks f sent it none l) =
      ended sent (letter-kept _ l here) f (incoming.Asking (receiver.asked_by f (next_ref d))) (inl it.has) (λ k q. absurd (cc))
  act-keeps pours unborn (abandons {back = true} q o it z) = renewed d here q.id (incoming.Failed q.id q.anchor 0) (λ k e. absurd (cc))
  act-keeps pours unborn (abandons {back = false} {b = body.DataLoad file} q o it z) =
      renewed d here q.id (incoming.Failed q.id q.anchor 0) (λ k e. absurd (cc))
  act-keeps pours unborn (abandons q o it z) = absurd (let z : false ≡ true = it.passes in (cc))
  act-keeps pours unborn (loads_only q file e o it w) =
      renewed (record e { scrap = None }) (kept-as (longer _ _ w.longer_is) _ refl) q.id
      (incoming.Failed q.id q.anchor (length file.bytes)) (λ k z. absurd (cc))
  act-keeps pours unborn (loads q file e sent it w l) =
      renewed sent (letter-kept _ l (kept-as (longer _ _ w.longer_is) _ refl)) q.id
      (incoming.Done q.id q.anchor (length file.bytes)) (λ k z. absurd (cc))

  pub handled-keeps : (code : EventCode) → Pours (g h) d t m (is_back code) m.message.body → Unborn t m (is_back code) → K (is_back code) m.message.body
      (handled d t m code)
  handled-keeps code pours unborn = act-keeps pours unborn (handled-acts d t m code)
