-- The commands of tasks with code of their own keep what is known.
use Rattle.rh_safety.proofs.Common.{◌≡◌, ℕ, Bool, true, false, not, List, [], length, Option, Some, None, refl, sym, ap, ◌∙◌, subst, if◌then◌else◌, Ok}
use Rattle.rh_safety.proofs.Common.{Desk, Task, Slot, named, with_slot, send_letter, next_ref, scrap_shortage}
use Rattle.rh_safety.proofs.Common.{wider, step, view, seen_letter, blocks_of, buffers_of, Offers, Edits, put}
use Rattle.rh_safety.proofs.Common.{field_is, live_of, slot_is, task_of, Fits, bind, test, done, is_found, instead_of, the_task}
use Rattle.rh_defs.specs.declared.refusal.Refusal.TheVariants.{WrongManner}
use Rattle.rh_defs.specs.declared.message.Letter.{Letter}
use Rattle.rh_defs.specs.declared.command.Command.TheVariants as command
use Rattle.rh_defs.specs.declared.raw_command.RawCommand.TheVariants as raw
use Rattle.rh_defs.specs.RawCommands.{send, ack, write, spool, scrap, transfer, spool_letter}
use Rattle.rh_defs.specs.RawCommands.{is_shut}
use Rattle.rh_defs.specs.RawTasks.{is_open_to, is_raw, opens_buffer}
use Rattle.rh_defs.specs.Places.{bytes_held, written_held}
use Rattle.rh_defs.specs.declared.transfer.Incoming.TheVariants as incoming
use Rattle.rh_safety.proofs.Common.{BadRange, DataSave, Has, Incoming, NoTask, Parcel, RamTransmit, Taking, and_left, and_right, arith, buffer_view, first_is}
use Rattle.rh_safety.proofs.Common.{held_by, inl, is_equal, leb_tells, list_any, nat_eq, nat_le, none_some, task_at, with_task, ◌+◌, ◌≤◌}
use Rattle.rh_safety.specs.RawIds.{Gave}
use Rattle.rh_safety.proofs.Sight as sight
use Rattle.rh_safety.proofs.Answers.{answered_stands, put_down_stands}
use Rattle.rh_safety.proofs.Basics.{or_right}
use Rattle.rh_safety.proofs.Endings.{write_inv}
use Rattle.rh_safety.proofs.Keeps.{Keeps, Tells, seen_stands, stands}
use Rattle.rh_safety.proofs.Raws.{theirs_save}
use Rattle.rh_safety.proofs.SeenFiles.{passes}
use Rattle.rh_safety.proofs.SeenTransfers.{moved_size, poured_into}
use Rattle.rh_safety.proofs.Masks.{masked}
use Rattle.rh_safety.proofs.Standing.{foreign_stands, sent_masked, slot_stands, theirs}
use Rattle.rh_safety.proofs.SeenBlocks.{not_refused}
use Rattle.rh_safety.proofs.SeenSends.{sent_view}
use Rattle.rh_safety.proofs.SeenTasks.{slot_view}

not_false : (b : Bool) → not b ≡ false → b ≡ true
not_false true e = refl
not_false false e = absurd (let z : true ≡ false = e in (cc))

module _ {o : Offers} {e : Edits} {R : Gave} (d : Desk) (f : Fits d) (g : Tells o e R (view d)) where
  -- the manner of a task
  raw_at : (t : Task) → task_of t.handle d.tasks ≡ Some t → (view d).raw t.handle ≡ is_raw t.manner
  raw_at t is = field_is (λ y. is_raw y.manner) false t.handle d.tasks t is

  -- another slot for the task
  slot_keeps : (t : Task) (s : Slot) → task_of t.handle d.tasks ≡ Some t → is_raw t.manner ≡ true → Tells o e R (view (with_slot t.handle s d))
  slot_keeps t s is manner =
      let live = live_of d t.handle t is in
      seen_stands (slot_view d t.handle (λ _. s) t.slot live (slot_is d t.handle t is))
      (slot_stands t.handle (blocks_of s) (buffers_of s) live (raw_at t is ∙ manner) g)

  pub send_keeps : (name : List ℕ) (recorded : Bool) (h ref a : ℕ) (bytes : Option (List ℕ)) →
      let c = command.Raw (raw.Send name recorded h ref a bytes) in Keeps o e R d c (step d c)
  unfolding send
  send_keeps name recorded h ref a bytes =
      let c = command.Raw (raw.Send name recorded h ref a bytes) in
      let P = Keeps o e R d c in
      bind P (named name d) _ (instead_of d) (λ r. g) (λ t q. bind P _ _ (instead_of d) (λ r. g) (λ sent y.
      test P _ _ (instead_of d) (λ r. g) (λ u v. test P _ _ (instead_of d) (λ r. g) (λ m n. done P _ (instead_of d) (
      let is = the_task d name t f q in
      answered_stands d sent _ y f (live_of d t.handle t is) (raw_at t is ∙ not_false (is_raw t.manner) (not_refused _ WrongManner u v)) g)))))

  pub ack_keeps : (name : List ℕ) → let c = command.Raw (raw.Ack name) in Keeps o e R d c (step d c)
  unfolding ack
  ack_keeps name =
      let c = command.Raw (raw.Ack name) in
      let P = Keeps o e R d c in
      bind P (named name d) _ (instead_of d) (λ r. g) (λ t q. test P _ _ (instead_of d) (λ r. g) (λ u v. done P _ (instead_of d)
      (put_down_stands d t.handle f g)))

  pub write_keeps : (name : List ℕ) (x : ℕ) (bytes : List ℕ) → let c = command.Raw (raw.Write name x bytes) in Keeps o e R d c (step d c)
  unfolding write
  write_keeps name x bytes =
      let c = command.Raw (raw.Write name x bytes) in
      let P = Keeps o e R d c in
      bind P (named name d) _ (instead_of d) (λ r. g) (λ t q. test P _ _ (instead_of d) (λ r. g) (λ u v.
      test P _ _ (instead_of d) (λ r. g) (λ m n. done P _ (instead_of d)
      (slot_keeps t _ (the_task d name t f q) (not_false (is_raw t.manner) (not_refused _ WrongManner m n))))))

  pub scrap_keeps : (name : List ℕ) (k : ℕ) → let c = command.Raw (raw.Scrap name k) in Keeps o e R d c (step d c)
  unfolding scrap
  scrap_keeps name k =
      let c = command.Raw (raw.Scrap name k) in
      let P = Keeps o e R d c in
      bind P (named name d) _ (instead_of d) (λ r. g) (λ t q. bind P _ _ (instead_of d) (λ r. g) (λ file w.
      bind P _ _ (instead_of d) (λ r. g) (λ p z. bind P _ _ (instead_of d) (λ r. g) (λ s y.
      test P _ _ (instead_of d) (λ r. g) (λ m n. done P _ (instead_of d)
      (slot_keeps t s (the_task d name t f q) (not_false (is_raw t.manner) (not_refused _ WrongManner m n))))))))

  -- a scrap file of theirs isn't seen
  spooled : (h : ℕ) (l : Letter) (bytes : List ℕ) (n : ℕ) (sent : Desk) → l.from ≡ h → send_letter l (wider n d) ≡ Ok sent →
      (view d).live h ≡ true → (view d).raw h ≡ true →
      Tells (put o d.post.next_ref (Some [])) e (put R d.post.next_ref true) (view (record sent { scrap = Some (record { load = next_ref d; bytes = bytes }) }))
  spooled h l bytes n sent own y live raw =
      let m = seen_letter l d.post.next_ref in
      let S = put R d.post.next_ref true in
      let file : sight.Scrap = record { load = d.post.next_ref; bytes = bytes } in
      let D : sight.Desk = record (sight.sent (view d) h m) { scrap = Some file } in
      let v : view sent ≡ sight.sent (view d) h m = sent_view (wider n d) sent l y (ap (view d).live own ∙ live) ∙
      ap (λ k. sight.sent (view d) k m) own in
      let gone : masked S D ≡ record (masked S (sight.sent (view d) h m)) { scrap = None } =
      ap (λ b. record (masked S (sight.sent (view d) h m)) { scrap = if b then None else Some file }) (theirs h m refl own live raw g) in
      seen_stands (ap (λ (z : sight.Desk). record z { scrap = Some file }) v)
      (foreign_stands h m refl own live raw g D
      (gone ∙ ap (λ (z : sight.Desk). record z { scrap = None }) (sent_masked h m refl own live raw g)))

  pub spool_keeps : (name : List ℕ) (k h ref : ℕ) → let c = command.Raw (raw.Spool name k h ref) in Keeps o e R d c (step d c)
  unfolding spool
  spool_keeps name k h ref =
      let c = command.Raw (raw.Spool name k h ref) in
      let P = Keeps o e R d c in
      bind P (named name d) _ (instead_of d) (λ r. g) (λ t q. bind P _ _ (instead_of d) (λ r. g) (λ b w.
      test P _ _ (instead_of d) (λ r. g) (λ u1 v1. test P _ _ (instead_of d) (λ r. g) (λ u2 v2.
      test P _ _ (instead_of d) (λ r. g) (λ u3 v3. bind P _ _ (instead_of d) (λ r. g) (λ sent y.
      test P _ _ (instead_of d) (λ r. g) (λ m n. test P _ _ (instead_of d) (λ r. g) (λ u4 v4. done P _ (instead_of d) (
      let is = the_task d name t f q in
      spooled t.handle (spool_letter t.handle h ref (length b.here.bytes)) b.here.bytes (scrap_shortage (length b.here.bytes) d) sent refl y
      (live_of d t.handle t is) (raw_at t is ∙ not_false (is_raw t.manner) (not_refused _ WrongManner m n)))))))))))

  -- ---- bytes moved to a task that opened their place

  -- into the buffer of a record that fetches from it
  poured : (r : Task) (y : ℕ) (bytes : List ℕ) (x : Taking) (from : ℕ) → task_of r.handle d.tasks ≡ Some r → Has (incoming.Fetching x) r.taking →
      g.coded from ≡ true → x.sender ≡ from → x.buffer ≤ y → y + length bytes ≤ x.buffer + r.buffer →
      Tells o e R (view (with_task r.handle (λ (r : Task). record r { slot = written_held y bytes r.slot }) d))
  poured r y bytes x from is has its sender low high =
      let h = r.handle in
      let live = live_of d h r is in
      let E = masked R (view d) in
      let there : Has (incoming.Fetching x) ((view d).taking h) = subst (Has (incoming.Fetching x)) (sym (field_is (λ y. y.taking) [] h d.tasks r is)) has in
      let buffer = g.good.inv.ins.buffer h x (inl there) in
      let buffers : (view d).heap h ≡ buffers_of r.slot = field_is (λ y. buffers_of y.slot) (λ a. None) h d.tasks r is in
      let room : (view d).buf h ≡ r.buffer = field_is (λ y. y.buffer) 1 h d.tasks r is in
      let w = poured_into y bytes r.slot x.buffer buffer.bytes (f.slots h r is) (ap (λ (m : ℕ → Option (List ℕ)). m x.buffer) (sym buffers) ∙ buffer.there) low
      (let z = buffer.size in omega (arith, z, high, room)) in
      let theirs : R x.id ≡ true = g.raws.senders h x (inl there) ∙ ap g.coded sender ∙ its in
      seen_stands (buffer_view d h x.buffer (λ (s : Slot). written_held y bytes s) (Some w.bytes) r.slot live (slot_is d h r is) w.blocks w.buffers)
      (stands g (record {
        inv = write_inv h x buffer.bytes w.bytes (inl there) buffer.there w.size (λ l u known kind fetches answers from same.
            let raw : R l.me ≡ true = g.raws.letters l known ∙ ap g.coded from ∙ sym (g.raws.senders h u (inl fetches)) ∙ ap R same ∙ theirs in
            let z : DataSave ≡ RamTransmit = sym (theirs_save R (view d) l known raw) ∙ kind in (cc)) g.good.inv;
        pending = λ s v q l k. g.good.pending s v q l k;
        born = g.good.born;
      }) g.raws)

  -- by the record that opened them
  opened : (r : Task) (y n from : ℕ) (bytes : List ℕ) → task_of r.handle d.tasks ≡ Some r → g.coded from ≡ true → length bytes ≤ n → (w : Incoming) →
      Has w r.taking → opens_buffer from r.buffer y n w ≡ true →
      Tells o e R (view (with_task r.handle (λ (r : Task). record r { slot = written_held y bytes r.slot }) d))
  opened r y n from bytes is its less (incoming.Fetching x) has opens =
      let inside = and_right (nat_eq x.sender from) _ opens in
      poured r y bytes x from is has its (is_equal _ _ (and_left (nat_eq x.sender from) _ opens))
      (grind (arith, leb_tells x.buffer y, and_left (nat_le x.buffer y) _ inside))
      (let high : y + n ≤ x.buffer + r.buffer = grind (arith, leb_tells (y + n) (x.buffer + r.buffer), and_right (nat_le x.buffer y) _ inside) in
      omega (arith, high, less))
  opened r y n from bytes is its less w has opens = absurd (let z : false ≡ true = opens in (cc))

  moved : (r : Task) (y n from : ℕ) (held : Option Parcel) (bytes : List ℕ) → task_of r.handle d.tasks ≡ Some r → g.coded from ≡ true → length bytes ≤ n →
      (b : Bool) → is_raw r.manner ≡ b → is_open_to from held r y n ≡ true →
      Tells o e R (view (with_task r.handle (λ (r : Task). record r { slot = written_held y bytes r.slot }) d))
  moved r y n from held bytes is its less true manner opens =
      let live = live_of d r.handle r is in
      seen_stands (slot_view d r.handle (λ (s : Slot). written_held y bytes s) r.slot live (slot_is d r.handle r is))
      (slot_stands r.handle (blocks_of (written_held y bytes r.slot)) (buffers_of (written_held y bytes r.slot)) live (raw_at r is ∙ manner) g)
  moved r y n from held bytes is its less false manner opens =
      let any : list_any (opens_buffer from r.buffer y n) r.taking ≡ true = rw manner at opens in
      let w = passes (opens_buffer from r.buffer y n) r.taking any in
      opened r y n from bytes is its less w.0 w.1.0 w.1.1

  -- what isn't shut is open
  not_shut : (from : ℕ) (held : Option Parcel) (y n : ℕ) (r : Task) (o : Option Task) → o ≡ Some r → is_shut from held y n o ≡ false →
      is_open_to from held r y n ≡ true
  not_shut from held y n r None e q = absurd (none_some None refl e)
  not_shut from held y n r (Some s) e q =
      let same : s ≡ r = cc in
      subst (λ (z : Task). is_open_to from held z y n ≡ true) same (not_false (is_open_to from held s y n) q)

  pub transfer_keeps : (name : List ℕ) (x h y n : ℕ) → let c = command.Raw (raw.Transfer name x h y n) in Keeps o e R d c (step d c)
  unfolding transfer
  transfer_keeps name x h y n =
      let c = command.Raw (raw.Transfer name x h y n) in
      let P = Keeps o e R d c in
      bind P (named name d) _ (instead_of d) (λ r. g) (λ t q. test P _ _ (instead_of d) (λ r. g) (λ u v.
      bind P _ _ (instead_of d) (λ r. g) (λ r z. test P _ _ (instead_of d) (λ r. g) (λ m w. done P _ (instead_of d) (
      let is = the_task d name t f q in
      let found : task_at h d ≡ Some r = is_found (task_at h d) NoTask r z in
      let same : r.handle ≡ h = is_equal _ _ (first_is (λ (k : Task). nat_eq k.handle h) d.tasks r found).1 in
      let its : g.coded t.handle ≡ true = sym (g.raws.manners t.handle (live_of d t.handle t is)) ∙ raw_at t is ∙
      not_false (is_raw t.manner) (not_refused _ WrongManner m w) in
      let shut = or_right _ (is_shut t.handle (held_by t.handle d.post.seats) y n (task_at h d)) (not_refused _ BadRange u v) in
      moved r y n t.handle (held_by t.handle d.post.seats) (bytes_held x n t.slot) (ap (λ k. task_of k d.tasks) same ∙ found) its
      (moved_size x n t.slot) (is_raw r.manner) refl (not_shut t.handle (held_by t.handle d.post.seats) y n r (task_at h d) found shut))))))
