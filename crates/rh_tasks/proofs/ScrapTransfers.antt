-- Transfers by way of the scrap file, on desks.
use Rattle.rh_tasks.proofs.Common.{◌≡◌, ℕ, ◌+◌, ◌-◌, ◌*◌, ◌<◌, ◌≤◌, Bool, true, false, refl, ap, sym, subst, ◌∙◌, arith, List, length, Option, Some, None}
use Rattle.rh_tasks.proofs.Common.{Result, Ok, Err, IsOk, is_some, not, nat_lt, ◌==◌, slice_get, slice_index, nat_tests, slice_get_within, Letter, Refusal}
use Rattle.rh_tasks.proofs.Common.{Busy, NoRoom, BadSize, Outcome, Granted, ◌>>=◌, ◌>>◌, refuse_if, or_else, Split, page_size, Slot, Flex, slot_block}
use Rattle.rh_tasks.proofs.Common.{slot_size, slot_put, Post, post_send, post_send_pages, Desk, Task, Scrap, next_ref, free_pages, with_task}
use Rattle.rh_tasks.proofs.Common.{with_slot, with_sending, with_taking, with_post, send_letter, IsDesk, IsReordered, Handled, ignored}
use Rattle.rh_tasks.proofs.Common.{scrap_shortage, wider, appended, grant-holds, Shown, IsAt, Sends, begins, ends, past, stops, lt-true, lt-false}
use Rattle.rh_tasks.proofs.Common.{reordered-at, reordered-refl, edit-alike}
use Rattle.rh_defs.specs.declared.reply.Outcome.TheVariants as outcome
use Rattle.rh_defs.specs.declared.transfer_action.SaveFile.{SaveFile}
use Rattle.rh_defs.specs.declared.transfer_action.LoadFile.{LoadFile}
use Rattle.rh_defs.specs.Module.{module_need_pages}
use Rattle.rh_defs.specs.Messages.{parcel_size}
use Rattle.rh_defs.specs.Letters.{load_letter, load_ack_letter}
use Rattle.rh_defs.specs.Post.{message_of, sendable}
use Rattle.rh_defs.specs.Sender as sender
use Rattle.rh_defs.specs.Receiver as receiver
use Rattle.rh_defs.specs.Desk.{scrap_area}
use Rattle.rh_defs.specs.OutgoingEvents.{save_scrap}
use Rattle.rh_defs.specs.IncomingEvents.{loaded, load_file}
use Rattle.rh_defs.proofs.Desks.{send_letter-keeps}
use Rattle.rh_defs.proofs.Transfers.{wider-keeps, wider-room}
use Rattle.rh_tasks.specs.Inner.PollSteps.{scrapped}
use Rattle.rh_tasks.proofs.Fixed.{total-set}
use Rattle.rh_tasks.proofs.Places.{edited-at, edited-is, same-at, one-at}
use Rattle.rh_tasks.proofs.SendRooms.{send-fits, send-lacks}
use Rattle.rh_tasks.proofs.Portions.{Sized, sized, unsized}
use Rattle.rh_tasks.proofs.Writes.{KeyAlike, alike-both}
use Rattle.rh_tasks.proofs.Dues.{records_of, sent-records, same-records}

-- ---- desks that differ in the order of messages alone

pub scrap-alike : {a b : Desk} (o : Option Scrap) → IsReordered a b → IsReordered (record a { scrap = o }) (record b { scrap = o })
scrap-alike o r = record { same = r.same; rest = ap (λ (x : Desk). let y : Desk = record x { scrap = o } in y) r.rest }

-- what was done is done
pub as-after : {after other : Handled} {o : Outcome} {new : Desk} → after ≡ other → ((o ≡ other.1) × IsReordered other.0 new)
    → ((o ≡ after.1) × IsReordered after.0 new)
as-after {o = o} {new = new} e h = let P : Handled → Type 0 = λ a. (o ≡ a.1) × IsReordered a.0 new in subst P (sym e) h

pub not-true : (b : Bool) → not b ≡ true → b ≡ false
not-true true e = absurd cc
not-true false e = refl

pub not-false : (b : Bool) → not b ≡ false → b ≡ true
not-false true e = refl
not-false false e = absurd cc

-- ---- the task after a step

pub at-inside : (d : Desk) (i : ℕ) (t : Task) → IsAt i t d → i < length d.tasks
at-inside d i t at = slice_get_within d.tasks i t at

-- the desk has the task there, with another last letter
pub record HasSent (i : ℕ) (t : Task) (e : Desk) : Type 0 where
  pub last : Option (Letter × ℕ)
  pub at : IsAt i (let u : Task = record t { last_sent = last } in u) e

pub sent-at : (d e : Desk) (i : ℕ) (t : Task) (l : Letter) → IsDesk d → IsAt i t d → l.from ≡ t.handle → send_letter l d ≡ Ok e → HasSent i t e
unfolding send_letter with_task ◌>>=◌
sent-at d e i t l is at own given = go (post_send (free_pages d) l d.post) given
  where
    edit : ℕ → Task → Task
    edit ref u = record u { last_sent = Some (l, ref) }

    go : (p : Granted (Post × ℕ)) → (p >>= (λ sent. let r : Granted Desk = Ok (with_task l.from (edit sent.1) (with_post sent.0 d)) in r)) ≡ Ok e
        → HasSent i t e
    go (Ok p) h =
        let same : with_task l.from (edit p.1) (with_post p.0 d) ≡ e = cc in
        record {
          last = Some (l, p.1);
          at = ap (λ (x : Desk). slice_get x.tasks i) (sym same) ∙ edited-at l.from (edit p.1) 0 d.next_handle d.tasks i t is.handles at (sym own);
        }
    go (Err r) h = absurd cc

pub sent-inside : (d : Desk) (i : ℕ) (t : Task) (l : Letter) {mid : Desk} → IsDesk d → IsAt i t d → l.from ≡ t.handle
    → ((e : Desk) × ((send_letter l d ≡ Ok e) × IsReordered e mid)) → i < length mid.tasks
sent-inside d i t l {mid} is at own sent =
    let s = sent-at d sent.0 i t l is at own sent.1.0 in
    let u : Task = record t { last_sent = s.last } in
    at-inside mid i u (reordered-at sent.0 mid i u sent.1.1 s.at)

-- the desk has the task there, with another slot
pub record HasSlid (i : ℕ) (t : Task) (e : Desk) : Type 0 where
  pub slot : Slot
  pub at : IsAt i (let u : Task = record t { slot = slot } in u) e

pub appended-at : (d e : Desk) (i : ℕ) (t : Task) (k : ℕ) (xs : List ℕ) → IsDesk d → IsAt i t d → appended d t k xs ≡ Ok e → HasSlid i t e
unfolding appended ◌>>=◌
appended-at d e i t k xs is at given = go (slot_block k t.slot) _ given
  where
    last : (s : Granted Slot) → (s >>= (λ z. let r : Granted Desk = Ok (with_slot t.handle z d) in r)) ≡ Ok e → HasSlid i t e
    last (Ok z) h =
        let same : with_slot t.handle z d ≡ e = cc in
        record { slot = z; at = ap (λ (x : Desk). slice_get x.tasks i) (sym same) ∙ edited-is d i t (λ u. record u { slot = z }) is at }
    last (Err r) h = absurd cc

    next : (g : Granted Slot) (f : Slot → Granted Slot)
        → (g >>= (λ longer. f longer >>= (λ z. let r : Granted Desk = Ok (with_slot t.handle z d) in r))) ≡ Ok e → HasSlid i t e
    next (Ok longer) f h = last (f longer) h
    next (Err r) f h = absurd cc

    go : (b : Granted (Split Flex)) (g : Split Flex → Granted Slot)
        → (b >>= (λ c. g c >>= (λ longer. slot_put k (length c.here.bytes) xs longer
        >>= (λ z. let r : Granted Desk = Ok (with_slot t.handle z d) in r)))) ≡ Ok e → HasSlid i t e
    go (Ok c) g h = next (g c) (slot_put k (length c.here.bytes) xs) h
    go (Err r) g h = absurd cc

-- ---- the document is there

module _ (d : Desk) (i : ℕ) (t : Task) (is : IsDesk d) (at : IsAt i t d) (act : LoadFile) (n : ℕ) (letter : Letter)
    (same : letter ≡ load_ack_letter t.handle act n) where
  told : {e : Desk} → send_letter letter d ≡ Ok e → loaded d t act n ≡ (with_taking t.handle (receiver.taking_loaded act.transfer n) e, outcome.Loaded n)
  unfolding loaded ◌>>=◌ or_else
  told h = let g = ap (λ l. send_letter l d) (sym same) ∙ h in rw g refl

  untold : {r : Refusal} → send_letter letter d ≡ Err r → loaded d t act n ≡
      (with_taking t.handle (receiver.abandoned act.transfer n) d, outcome.LoadedFailed n r)
  unfolding loaded ◌>>=◌ or_else
  untold h = let g = ap (λ l. send_letter l d) (sym same) ∙ h in rw g refl

  pub loaded-sent : {mid new : Desk} → ((e : Desk) × ((send_letter letter d ≡ Ok e) × IsReordered e mid))
      → ((u : Task) → IsAt i u mid → new ≡ with_taking u.handle (receiver.taking_loaded act.transfer n) mid)
      → (outcome.Loaded n ≡ (loaded d t act n).1) × IsReordered (loaded d t act n).0 new
  loaded-sent {mid} {new} sent edited =
      let e : Desk = sent.0 in
      let s = sent-at d e i t letter is at (ap (λ (l : Letter). l.from) same) sent.1.0 in
      let u : Task = record t { last_sent = s.last } in
      let now : new ≡ with_taking t.handle (receiver.taking_loaded act.transfer n) mid = edited u (reordered-at e mid i u sent.1.1 s.at) in
      as-after (told sent.1.0) (
        refl,
        subst (IsReordered (with_taking t.handle (receiver.taking_loaded act.transfer n) e)) (sym now)
            (edit-alike t.handle _ sent.1.1),
      )

  pub loaded-failed : {r : Refusal} {mid new : Desk} → send_letter letter d ≡ Err r → mid ≡ d
      → ((u : Task) → IsAt i u mid → new ≡ with_taking u.handle (receiver.abandoned act.transfer n) mid)
      → (outcome.LoadedFailed n r ≡ (loaded d t act n).1) × IsReordered (loaded d t act n).0 new
  loaded-failed {r} {mid} {new} h stays edited =
      let now : new ≡ with_taking t.handle (receiver.abandoned act.transfer n) mid = edited t (same-at d mid i t (ap (λ (x : Desk). x.tasks) stays) at) in
      as-after (untold h) (
        refl,
        subst (IsReordered (with_taking t.handle (receiver.abandoned act.transfer n) d))
            (ap (with_taking t.handle (receiver.abandoned act.transfer n)) (sym stays) ∙ sym
            now) (reordered-refl _),
      )

-- ---- the file becomes the document

-- what is told of a document doesn't look at its task's slot
loaded-slid : (d : Desk) (t : Task) (slot : Slot) (act : LoadFile) (n : ℕ) → loaded d (record t { slot = slot }) act n ≡ loaded d t act n
unfolding loaded
loaded-slid d t slot act n = refl

module _ (d : Desk) (t : Task) (act : LoadFile) where
  pub load-nothing : d.scrap ≡ None → load_file d t act d.scrap ≡ ignored d
  unfolding load_file
  load-nothing none = ap (load_file d t act) none

  module _ (file : Scrap) (has : d.scrap ≡ Some file) where
    file-is : load_file d t act d.scrap ≡ load_file d t act (Some file)
    file-is = ap (load_file d t act) has

    pub load-other : (file.load == act.answers) ≡ false → load_file d t act d.scrap ≡ ignored d
    unfolding load_file
    load-other other = file-is ∙ (rw other refl)

    module _ (own : (file.load == act.answers) ≡ true) where
      load-refused : {r : Refusal} → appended d t act.transfer.anchor file.bytes ≡ Err r
          → load_file d t act d.scrap ≡ (with_taking t.handle (receiver.abandoned act.transfer 0) d, outcome.Refused r)
      unfolding load_file ◌>>=◌ or_else
      load-refused h = file-is ∙ (rw (own, h) refl)

      load-done : {e : Desk} → appended d t act.transfer.anchor file.bytes ≡ Ok e
          → load_file d t act d.scrap ≡ loaded (record e { scrap = None }) t act (length file.bytes)
      unfolding load_file ◌>>=◌ or_else
      load-done h = file-is ∙ (rw (own, h) refl)

      pub load-loaded : {e mid new : Desk} {o : Outcome} (i size : ℕ) → IsDesk d → IsAt i t d → appended d t act.transfer.anchor file.bytes ≡ Ok e
          → mid ≡ (let x : Desk = record e { scrap = None } in x) → size ≡ length file.bytes
          → ((u : Task) → IsAt i u mid → (o ≡ (loaded mid u act size).1) × IsReordered (loaded mid u act size).0 new)
          → (o ≡ (load_file d t act d.scrap).1) × IsReordered (load_file d t act d.scrap).0 new
      load-loaded {e} {mid} {new} {o} i size is at h dropped long told =
          let s = appended-at d e i t act.transfer.anchor file.bytes is at h in
          let u : Task = record t { slot = s.slot } in
          let last : Desk = record e { scrap = None } in
          as-after (load-done h ∙ ap (loaded last t act) (sym long) ∙ sym (loaded-slid last t s.slot act size) ∙ ap (λ x. loaded x u act size) (sym dropped))
          (told u (same-at e mid i u (ap (λ (x : Desk). x.tasks) dropped) s.at))

      pub load-failed : {r : Refusal} {mid new : Desk} (i : ℕ) → IsAt i t d → appended d t act.transfer.anchor file.bytes ≡ Err r → mid ≡ d
          → ((u : Task) → IsAt i u mid → new ≡ with_taking u.handle (receiver.abandoned act.transfer 0) mid)
          → (outcome.Refused r ≡ (load_file d t act d.scrap).1) × IsReordered (load_file d t act d.scrap).0 new
      load-failed {r} {mid} {new} i at h stays edited =
          let now : new ≡ with_taking t.handle (receiver.abandoned act.transfer 0) mid =
          edited t (same-at d mid i t (ap (λ (x : Desk). x.tasks) stays) at) in
          as-after (load-refused h) (
            refl,
            subst (IsReordered (with_taking t.handle (receiver.abandoned act.transfer 0) d))
                (ap (with_taking t.handle (receiver.abandoned act.transfer 0)) (sym stays) ∙ sym now) (reordered-refl _),
          )

-- ---- a block becomes the scrap file

nonzero : (n : ℕ) → ((8 + (16 + n)) == 0) ≡ false
nonzero n = grind (arith, nat_tests)

module _ (l : Letter) (post : Post) where
  pub unsendable : {r : Refusal} → post_send_pages l post ≡ Err r → sendable l post ≡ Err r
  unfolding post_send_pages module_need_pages ◌>>=◌ ◌>>◌ refuse_if
  unsendable {r} h = go (sendable l post) (parcel_size (message_of l 0) == 0) _ (nonzero _) h
    where
      go : (s : Granted (Unit {0})) (none : Bool) (n : ℕ) → none ≡ false → (s >> (refuse_if none BadSize >>= (λ _. let x : Granted ℕ = Ok n in x))) ≡ Err r
          → s ≡ Err r
      go (Err q) none n z e = let same : q ≡ r = cc in ap (λ x. Err x) same
      go (Ok u) true n z e = absurd cc
      go (Ok u) false n z e = absurd cc

  pub can-send : {p : ℕ} → post_send_pages l post ≡ Ok p → sendable l post ≡ Ok tt
  unfolding post_send_pages ◌>>=◌ ◌>>◌
  can-send {p} h = go (sendable l post) (module_need_pages (parcel_size (message_of l 0)) post.heap) h
    where
      go : (s : Granted (Unit {0})) (x : Granted ℕ) → (s >> x) ≡ Ok p → s ≡ Ok tt
      go (Ok u) x e = refl
      go (Err r) x e = absurd cc

pub then-past : {B : Type 0} {first : Granted (Unit {0})} (rest : Granted B) {y : Granted B} → first ≡ Ok tt → rest ≡ y → (first >> rest) ≡ y
unfolding ◌>>=◌ ◌>>◌
then-past rest e h = rw e h

pub then-ends : {B : Type 0} {first : Granted (Unit {0})} {r : Refusal} (rest : Granted B) → first ≡ Err r → (first >> rest) ≡ Err r
unfolding ◌>>=◌ ◌>>◌
then-ends rest e = rw e refl

-- fewer pages are free of the longer area's desk
pub free-wider : (more : ℕ) (d : Desk) → IsDesk d → free_pages (wider more d) ≡ free_pages d - more
free-wider more d is =
    omega (arith, is.pages, total-set d.areas scrap_area (slice_index d.areas scrap_area + more) (omega (arith, is.areas.six)))

module _ (d : Desk) (t : Task) (act : SaveFile) where
  pub save-missing : {r : Refusal} → slot_size act.transfer.anchor t.slot ≡ Err r → scrapped d t act ≡ Err r
  save-missing e = ends _ (unsized act.transfer.anchor t.slot (sym e))

  module _ (n : ℕ) (given : slot_size act.transfer.anchor t.slot ≡ Ok n) where
    pub source : Sized act.transfer.anchor n t.slot
    source = sized (sym given)

    abbrev pub letter : Letter
    letter = load_letter t.handle act n

    abbrev pub more : ℕ
    more = scrap_shortage n d

    abbrev pub the_file : Scrap
    the_file = record { load = next_ref d; bytes = source.cut.here.bytes }

    -- the desk once the letter was sent
    abbrev pub saved_desk : Desk → Desk
    saved_desk e = with_sending t.handle (sender.saved act (next_ref d)) (record e { scrap = Some the_file })

    -- the definition's steps, by the size
    abbrev steps : ℕ → Granted Handled
    steps k =
        refuse_if (is_some d.scrap) Busy >> (sendable (load_letter t.handle act k) d.post >> (refuse_if (nat_lt (free_pages d) (scrap_shortage k d)) NoRoom
        >> (send_letter (load_letter t.handle act k) (wider (scrap_shortage k d) d) >>= (λ sent. Ok (saved_desk sent, outcome.Saved k (next_ref d))))))

    steps-are : scrapped d t act ≡ steps n
    unfolding save_scrap
    steps-are = begins _ source.block (ap steps (sym source.long))

    pub save-busy : is_some d.scrap ≡ true → scrapped d t act ≡ Err Busy
    save-busy busy = steps-are ∙ stops _ _ _ busy

    module _ (idle : is_some d.scrap ≡ false) where
      pub save-unsendable : {r : Refusal} → post_send_pages letter d.post ≡ Err r → scrapped d t act ≡ Err r
      save-unsendable e = steps-are ∙ past _ _ _ idle (then-ends _ (unsendable letter d.post e))

      module _ (p : ℕ) (needs : post_send_pages letter d.post ≡ Ok p) where
        pub save-full : free_pages d < more → scrapped d t act ≡ Err NoRoom
        save-full short = steps-are ∙ past _ _ _ idle (then-past _ (can-send letter d.post needs) (stops _ _ _ (lt-true _ _ short)))

        module _ (is : IsDesk d) (room : more ≤ free_pages d) where
          sends-from : {r : Granted (Post × ℕ)} → post_send (free_pages d - more) letter d.post ≡ r → post_send (free_pages (wider more d)) letter d.post ≡ r
          sends-from e = ap (λ free. post_send free letter d.post) (free-wider more d is) ∙ e

          pub save-short : free_pages d - more < p → scrapped d t act ≡ Err NoRoom
          unfolding send_letter
          save-short short =
              steps-are ∙ past _ _ _ idle (then-past _ (can-send letter d.post needs) (past _ _ _ (lt-false _ _ room)
              (ends _ (ends _ (sends-from (send-lacks (free_pages d - more) letter d.post needs short))))))

          pub save-sends : p ≤ free_pages d - more → IsOk (send_letter letter (wider more d))
          unfolding send_letter
          save-sends fits =
              let e = sends-from (send-fits (free_pages d - more) letter d.post needs fits) in
              let P : Granted Desk → Type 0 = λ r. IsOk r in
              subst P (sym (begins _ e refl)) refl

          pub save-done : {e : Desk} → send_letter letter (wider more d) ≡ Ok e → scrapped d t act ≡ Ok (saved_desk e, outcome.Saved n (next_ref d))
          save-done e =
              steps-are ∙ past _ _ _ idle (then-past _ (can-send letter d.post needs) (past _ _ _ (lt-false _ _ room) (begins _ e refl)))

-- ---- the steps of a save

pub sends-ok : (l : Letter) (old new : Shown) (r : Result ℕ Refusal) → Sends l old new r → IsOk (send_letter l old.desk) → IsOk r
sends-ok l old new (Ok ref) s is = refl
sends-ok l old new (Err e) s is = absurd (let h : IsOk (let x : Granted Desk = Err e in x) = subst (λ (x : Granted Desk). IsOk x) s.0 is in cc)

-- what is known once the letter has its size: n is the source's, p the pages that the letter l takes
pub record Saves (d : Desk) (i : ℕ) (t : Task) (act : SaveFile) (n : ℕ) (l : Letter) (p : ℕ) : Type 0 where
  pub is : IsDesk d
  pub at : IsAt i t d
  pub given : slot_size act.transfer.anchor t.slot ≡ Ok n
  pub same : l ≡ load_letter t.handle act n
  pub idle : is_some d.scrap ≡ false
  pub needs : post_send_pages l d.post ≡ Ok p

-- and once area 5 has room
pub record Widens (d first : Desk) (n : ℕ) : Type 0 where
  pub room : scrap_shortage n d ≤ free_pages d
  pub widened : first ≡ wider (scrap_shortage n d) d

module _ {d : Desk} {i : ℕ} {t : Task} {act : SaveFile} {n : ℕ} {l : Letter} {p : ℕ} (a : Saves d i t act n l p) where
  abbrev there : Sized act.transfer.anchor n t.slot
  there = source d t act n a.given

  pub own : l.from ≡ t.handle
  own = ap (λ (l : Letter). l.from) a.same

  letter-needs : post_send_pages (load_letter t.handle act n) d.post ≡ Ok p
  letter-needs = ap (λ l. post_send_pages l d.post) (sym a.same) ∙ a.needs

  pub full-is : free_pages d < scrap_shortage n d → scrapped d t act ≡ Err NoRoom
  full-is = save-full d t act n a.given a.idle p letter-needs

  pub short-is : scrap_shortage n d ≤ free_pages d → free_pages d - scrap_shortage n d < p → scrapped d t act ≡ Err NoRoom
  short-is = save-short d t act n a.given a.idle p letter-needs a.is

  module _ {first : Desk} (b : Widens d first n) where
    pub first-at : IsAt i t first
    first-at = same-at d first i t (ap (λ (x : Desk). x.tasks) b.widened) a.at

    first-desk : IsDesk first
    first-desk = subst IsDesk (sym b.widened) (wider-keeps (scrap_shortage n d) d b.room a.is)

    pub first-sends : p ≤ free_pages d - scrap_shortage n d → IsOk (send_letter l first)
    first-sends fits =
        subst (λ (z : Desk). IsOk (send_letter l z)) (sym b.widened)
        (subst (λ (y : Letter). IsOk (send_letter y (wider (scrap_shortage n d) d))) (sym a.same)
        (save-sends d t act n a.given a.idle p letter-needs a.is b.room fits))

    module _ {second : Desk} (sent : (e : Desk) × ((send_letter l first ≡ Ok e) × IsReordered e second)) where
      has : HasSent i t sent.0
      has = sent-at first sent.0 i t l first-desk first-at own sent.1.0

      abbrev u : Task
      u = record t { last_sent = has.last }

      second-at : IsAt i u second
      second-at = reordered-at sent.0 second i u sent.1.1 has.at

      pub second-inside : i < length second.tasks
      second-inside = at-inside second i u second-at

      sent-areas : sent.0.areas ≡ first.areas
      sent-areas = (grant-holds (send_letter-keeps l first first-desk) sent.1.0).areas

      pub second-room : n ≤ page_size * slice_index second.areas scrap_area
      second-room =
          let areas : second.areas ≡ (wider (scrap_shortage n d) d).areas =
          ap (λ (x : Desk). x.areas) sent.1.1.rest ∙ sent-areas ∙ ap (λ (x : Desk). x.areas) b.widened in
          subst (λ (a : List ℕ). n ≤ page_size * slice_index a scrap_area) (sym areas) (wider-room n d a.is)

      pub second-block : (v : Task) → IsAt i v second → slot_size act.transfer.anchor v.slot ≡ Ok n
      second-block v h = ap (λ (y : Task). slot_size act.transfer.anchor y.slot) (one-at second i v u h second-at) ∙ a.given

      module _ {third : Desk} (load : ℕ) (filled : (v : Task) (b : Split Flex) → IsAt i v second → slot_block act.transfer.anchor v.slot ≡ Ok b
          → third ≡ (let y : Desk = record second { scrap = Some (record { load = load; bytes = b.here.bytes }) } in y)) where
        third-is : third ≡ (let y : Desk = record second { scrap = Some (record { load = load; bytes = there.cut.here.bytes }) } in y)
        third-is = filled u there.cut second-at there.block

        third-at : IsAt i u third
        third-at = same-at second third i u (ap (λ (x : Desk). x.tasks) third-is) second-at

        pub third-inside : i < length third.tasks
        third-inside = at-inside third i u third-at

        pub saved-records : KeyAlike records_of d third
        saved-records =
            alike-both records_of (same-records d first (ap (λ (x : Desk). x.tasks) b.widened))
            (alike-both records_of (sent-records l first sent.0 sent.1.0 sent.1.1) (same-records second third (ap (λ (x : Desk). x.tasks) third-is)))

        pub save-all : {new : Desk} → load ≡ next_ref first → ((v : Task) → IsAt i v third → new ≡ with_sending v.handle (sender.saved act load) third)
            → (e : Desk) × ((scrapped d t act ≡ Ok (e, outcome.Saved n load)) × IsReordered e new)
        save-all {new} ref edited =
            let r : load ≡ next_ref d = ref ∙ ap next_ref b.widened in
            let g : send_letter (load_letter t.handle act n) (wider (scrap_shortage n d) d) ≡ Ok sent.0 =
            ap (λ l. send_letter l (wider (scrap_shortage n d) d)) (sym a.same) ∙ ap (send_letter l) (sym b.widened) ∙ sent.1.0 in
            let done = save-done d t act n a.given a.idle p letter-needs a.is b.room g in
            let last : ℕ → Desk =
            λ k. with_sending t.handle (sender.saved act k) (record second { scrap = Some (record { load = k; bytes = there.cut.here.bytes }) }) in
            let now : new ≡ last (next_ref d) = edited u third-at ∙ ap (with_sending t.handle (sender.saved act load)) third-is ∙ ap last r in (
              saved_desk d t act n a.given sent.0,
              (
                done ∙ ap (λ k. let y : Granted Handled = Ok (saved_desk d t act n a.given sent.0, outcome.Saved n k) in y) (sym r),
                subst (IsReordered (saved_desk d t act n a.given sent.0)) (sym now) (edit-alike t.handle _ (scrap-alike _ sent.1.1)),
              ),
            )
