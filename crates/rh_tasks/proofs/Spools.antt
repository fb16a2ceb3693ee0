-- A block of a task with code of its own that becomes the scrap file.
use Rattle.rh_tasks.proofs.Common.{◌≡◌, ℕ, ◌-◌, ◌*◌, ◌<◌, ◌≤◌, Bool, true, false, refl, ap, sym, subst, ◌∙◌, arith, List, length, Some, None, Ok, Err}
use Rattle.rh_tasks.proofs.Common.{IsOk, is_some, not, nat_le, nat_lt, slice_index, nat_tests, Memory, FileList, Letter, Refusal, Busy, NoRoom, Granted, ◌>>=◌}
use Rattle.rh_tasks.proofs.Common.{◌>>◌}
use Rattle.rh_tasks.proofs.Common.{refuse_if, Split, page_size, Flex, slot_block, slot_size, Post, post_send, post_send_pages, Desk, Task, next_ref, free_pages}
use Rattle.rh_tasks.proofs.Common.{send_letter, IsDesk, IsReordered, Answer, scrap_shortage, wider, grant-holds, slot_in, Seat, MadeArea, Kept, task_of}
use Rattle.rh_tasks.proofs.Common.{desk_of}
use Rattle.rh_tasks.proofs.Common.{IsWorld, FoundSeat, IsAt, begins, ends, past, stops, lt-true, lt-false, sits, named-is, reordered-at}
use Rattle.rh_defs.specs.declared.refusal.Refusal.TheVariants.{WrongManner, BadRef}
use Rattle.rh_defs.specs.declared.reply.Reply.TheVariants as reply
use Rattle.rh_defs.specs.Desk.{scrap_area}
use Rattle.rh_defs.specs.Post.{sendable}
use Rattle.rh_defs.specs.RawCommands.{spool, spool_letter}
use Rattle.rh_defs.specs.RawTasks.{is_raw}
use Rattle.rh_defs.proofs.Desks.{send_letter-keeps}
use Rattle.rh_defs.proofs.Transfers.{wider-keeps, wider-room}
use Rattle.rh_wimp.specs.PostIn.{post_of}
use Rattle.rh_tasks.specs.Inner.RawSteps.{file_room, letter_refusal}
use Rattle.rh_tasks.proofs.Chains.{skipped}
use Rattle.rh_tasks.proofs.Places.{same-at, one-at}
use Rattle.rh_tasks.proofs.Portions.{Sized, sized, unsized}
use Rattle.rh_tasks.proofs.RawSends.{both-stop, both-pass}
use Rattle.rh_tasks.proofs.Scraps.{seen-busy}
use Rattle.rh_tasks.proofs.ScrapTransfers.{at-inside, can-send, free-wider, HasSent, scrap-alike, sent-at, then-past, then-ends, unsendable}
use Rattle.rh_tasks.proofs.SendRooms.{send-fits, send-lacks}
use Rattle.rh_tasks.proofs.Slides.{seat-at}

-- ---- room for the file and its letter

module _ (d : Desk) (l : Letter) (n : ℕ) where
  abbrev wanted : ℕ
  wanted = scrap_shortage n d

  pub room-refused : {r : Refusal} → post_send_pages l d.post ≡ Err r → file_room d l n ≡ Err r
  room-refused e = then-ends _ (unsendable l d.post e)

  module _ (p : ℕ) (needs : post_send_pages l d.post ≡ Ok p) where
    pub room-full : free_pages d < scrap_shortage n d → file_room d l n ≡ Err NoRoom
    room-full short = then-past _ (can-send l d.post needs) (stops _ _ _ (lt-true _ _ short))

    module _ (is : IsDesk d) (room : scrap_shortage n d ≤ free_pages d) where
      sends-from : {r : Granted (Post × ℕ)} → post_send (free_pages d - wanted) l d.post ≡ r → post_send (free_pages (wider wanted d)) l d.post ≡ r
      sends-from e = ap (λ free. post_send free l d.post) (free-wider wanted d is) ∙ e

      pub room-short : free_pages d - scrap_shortage n d < p → file_room d l n ≡ Err NoRoom
      unfolding send_letter
      room-short short =
          then-past _ (can-send l d.post needs) (past _ _ _ (lt-false _ _ room)
          (ends _ (ends _ (sends-from (send-lacks (free_pages d - wanted) l d.post needs short)))))

      letter-sends : p ≤ free_pages d - wanted → IsOk (send_letter l (wider wanted d))
      unfolding send_letter
      letter-sends fits =
          let e = sends-from (send-fits (free_pages d - wanted) l d.post needs fits) in
          let P : Granted Desk → Type 0 = λ r. IsOk r in
          subst P (sym (begins _ e refl)) refl

      pub room-there : p ≤ free_pages d - scrap_shortage n d → file_room d l n ≡ Ok (scrap_shortage n d)
      room-there fits =
          then-past _ (can-send l d.post needs) (past _ _ _ (lt-false _ _ room) (skipped (send_letter l (wider wanted d)) (Ok wanted) (letter-sends fits)))

-- what follows on the room, whatever it is
room-ends : {B : Type 0} (first : Granted (Unit {0})) (short : Bool) (sent : Granted Desk) (next : Desk → Granted B) (n : ℕ) {r : Refusal}
    → Err r ≡ (first >> refuse_if short NoRoom >> (sent >>= (λ _. let x : Granted ℕ = Ok n in x))) → (first >> refuse_if short NoRoom >> (sent >>= next))
    ≡ Err r
unfolding ◌>>=◌ ◌>>◌ refuse_if
room-ends (Err q) short sent next n {r} e = let same : r ≡ q = cc in ap (λ x. Err x) (sym same)
room-ends (Ok u) true sent next n {r} e = let same : r ≡ NoRoom = cc in ap (λ x. Err x) (sym same)
room-ends (Ok u) false (Err q) next n {r} e = let same : r ≡ q = cc in ap (λ x. Err x) (sym same)
room-ends (Ok u) false (Ok s) next n e = absurd cc

-- the letter can be sent, and the pages are free
record HasRoom (first : Granted (Unit {0})) (short : Bool) (sent : Granted Desk) (k n : ℕ) : Type 0 where
  can : first ≡ Ok tt
  free : short ≡ false
  after : Desk
  sends : sent ≡ Ok after
  many : k ≡ n

has-room : (first : Granted (Unit {0})) (short : Bool) (sent : Granted Desk) (k n : ℕ)
    → Ok k ≡ (first >> refuse_if short NoRoom >> (sent >>= (λ _. let x : Granted ℕ = Ok n in x))) → HasRoom first short sent k n
unfolding ◌>>=◌ ◌>>◌ refuse_if
has-room (Ok u) false (Ok s) k n e = record { can = refl; free = refl; after = s; sends = refl; many = cc }
has-room (Ok u) false (Err q) k n e = absurd cc
has-room (Ok u) true sent k n e = absurd cc
has-room (Err q) short sent k n e = absurd cc

at-most : (a b : ℕ) → nat_lt a b ≡ false → b ≤ a
at-most a b e = grind (arith, nat_tests)

-- ---- the steps of a spool

-- what is known once area 5 has room: n is the block's size, l the letter, first the desk with more pages
pub record Spools (d : Desk) (i : ℕ) (t : Task) (k n : ℕ) (l : Letter) (first : Desk) : Type 0 where
  pub is : IsDesk d
  pub at : IsAt i t d
  pub given : Ok n ≡ slot_size k t.slot
  pub own : l.from ≡ t.handle
  pub room : scrap_shortage n d ≤ free_pages d
  pub widened : first ≡ wider (scrap_shortage n d) d
  pub sends : IsOk (send_letter l first)

module _ {d : Desk} {i : ℕ} {t : Task} {k n : ℕ} {l : Letter} {first : Desk} (a : Spools d i t k n l first) where
  pub spool-at : IsAt i t first
  spool-at = same-at d first i t (ap (λ (x : Desk). x.tasks) a.widened) a.at

  first-desk : IsDesk first
  first-desk = subst IsDesk (sym a.widened) (wider-keeps (scrap_shortage n d) d a.room a.is)

  module _ {second : Desk} (sent : (e : Desk) × ((send_letter l first ≡ Ok e) × IsReordered e second)) where
    has : HasSent i t sent.0
    has = sent-at first sent.0 i t l first-desk spool-at a.own sent.1.0

    abbrev u : Task
    u = record t { last_sent = has.last }

    second-at : IsAt i u second
    second-at = reordered-at sent.0 second i u sent.1.1 has.at

    pub spool-inside : i < length second.tasks
    spool-inside = at-inside second i u second-at

    sent-areas : sent.0.areas ≡ first.areas
    sent-areas = (grant-holds (send_letter-keeps l first first-desk) sent.1.0).areas

    pub spool-room : n ≤ page_size * slice_index second.areas scrap_area
    spool-room =
        let areas : second.areas ≡ (wider (scrap_shortage n d) d).areas =
        ap (λ (x : Desk). x.areas) sent.1.1.rest ∙ sent-areas ∙ ap (λ (x : Desk). x.areas) a.widened in
        subst (λ (a : List ℕ). n ≤ page_size * slice_index a scrap_area) (sym areas) (wider-room n d a.is)

    pub spool-block : (v : Task) → IsAt i v second → slot_size k v.slot ≡ Ok n
    spool-block v h = ap (λ (y : Task). slot_size k y.slot) (one-at second i v u h second-at) ∙ sym a.given

    -- the scrap file is the block
    pub spool-file : {third : Desk} (load : ℕ) (b : Split Flex) → slot_block k t.slot ≡ Ok b →
        ((v : Task) (b : Split Flex) → IsAt i v second → slot_block k v.slot ≡ Ok b
        → third ≡ (let y : Desk = record second { scrap = Some (record { load = load; bytes = b.here.bytes }) } in y))
        → IsReordered (let y : Desk = record sent.0 { scrap = Some (record { load = load; bytes = b.here.bytes }) } in y) third
    spool-file {third} load b is filled =
        let P : Desk → Type 0 =
        λ z. IsReordered (let y : Desk = record sent.0 { scrap = Some (record { load = load; bytes = b.here.bytes }) } in y) z in
        subst P (sym (filled u b second-at is)) (scrap-alike _ sent.1.1)

-- ---- the command

module _ {m : Memory} {seats : List Seat} {made : List MadeArea} {files : FileList} {kept : Kept} {name : List ℕ} {i : ℕ} {s : Seat}
    (w : IsWorld m seats made files kept) (f : FoundSeat name seats i s) (k h ref : ℕ) where
  abbrev d : Desk
  d = desk_of m seats made files kept

  abbrev letter : ℕ → Letter
  letter n = spool_letter s.handle h ref n

  next-is : kept.queue.next_ref ≡ next_ref d
  unfolding post_of
  next-is = refl

  abbrev filed : List ℕ → Desk → Desk
  filed bytes sent = record sent { scrap = Some (record { load = next_ref d; bytes = bytes }) }

  abbrev then_sent : List ℕ → Desk → Granted Answer
  then_sent bytes sent =
      refuse_if (not (is_raw s.manner)) WrongManner >> refuse_if (nat_le (next_ref d) ref) BadRef >> Ok (filed bytes sent, reply.Sent (next_ref d))

  abbrev steps : List ℕ → ℕ → Granted Answer
  steps bytes n =
      refuse_if (is_some d.scrap) Busy >> sendable (letter n) d.post >> refuse_if (nat_lt (free_pages d) (scrap_shortage n d)) NoRoom
      >> (send_letter (letter n) (wider (scrap_shortage n d) d) >>= then_sent bytes)

  pub spool-missing : {r : Refusal} → Err r ≡ slot_size k (slot_in m s.slot) → spool d name k h ref ≡ Err r
  unfolding spool task_of
  spool-missing e = begins _ (named-is m made files kept f) (ends _ (unsized k (slot_in m s.slot) e))

  module _ {n : ℕ} (given : Ok n ≡ slot_size k (slot_in m s.slot)) where
    source : Sized k n (slot_in m s.slot)
    source = sized given

    abbrev bytes : List ℕ
    bytes = source.cut.here.bytes

    spool-is : spool d name k h ref ≡ steps bytes n
    unfolding spool task_of
    spool-is = begins _ (named-is m made files kept f) (begins _ source.block (ap (steps bytes) (sym source.long)))

    pub spool-busy : is_some kept.scrap ≡ true → spool d name k h ref ≡ Err Busy
    spool-busy busy = spool-is ∙ stops _ _ _ (seen-busy w refl ∙ busy)

    module _ (idle : is_some kept.scrap ≡ false) where
      pub spool-full : {r : Refusal} → Err r ≡ file_room d (letter n) n → spool d name k h ref ≡ Err r
      spool-full e = spool-is ∙ past _ _ _ (seen-busy w refl ∙ idle) (room-ends _ _ _ _ _ e)

      module _ {more : ℕ} (room : Ok more ≡ file_room d (letter n) n) where
        the : HasRoom (sendable (letter n) d.post) (nat_lt (free_pages d) (scrap_shortage n d)) (send_letter (letter n) (wider (scrap_shortage n d) d)) more
            (scrap_shortage n d)
        the = has-room _ _ _ _ _ room

        rest-is : spool d name k h ref ≡ then_sent bytes the.after
        rest-is =
            spool-is ∙ past _ _ _ (seen-busy w refl ∙ idle) (then-past _ the.can (past _ _ _ the.free (begins _ the.sends refl)))

        -- it is refused in any case
        pub spool-wrong : {r : Refusal} → Some r ≡ letter_refusal s ref kept.queue.next_ref → spool d name k h ref ≡ Err r
        spool-wrong e = rest-is ∙ both-stop (not (is_raw s.manner)) (nat_le (next_ref d) ref) _ (e ∙ ap (letter_refusal s ref) next-is)

        pub spool-more : more ≤ free_pages d
        spool-more = omega (arith, the.many, at-most _ _ the.free)

        module _ {first : Desk} (now : first ≡ wider more d) where
          wide : first ≡ wider (scrap_shortage n d) d
          wide = now ∙ ap (λ x. wider x d) the.many

          sends : send_letter (letter n) first ≡ Ok the.after
          sends = ap (send_letter (letter n)) wide ∙ the.sends

          pub spools : Spools d i (task_of m s) k n (letter n) first
          unfolding task_of
          spools = record {
            is = w.desk;
            at = seat-at w (sits f);
            given = given;
            own = refl;
            room = at-most _ _ the.free;
            widened = wide;
            sends = (let P : Granted Desk → Type 0 = λ r. IsOk r in subst P (sym sends) refl);
          }

          pub spool-done : None ≡ letter_refusal s ref kept.queue.next_ref → {load : ℕ} {second third : Desk} → load ≡ next_ref first
              → (sent : (e : Desk) × ((send_letter (letter n) first ≡ Ok e) × IsReordered e second))
              → ((v : Task) (b : Split Flex) → IsAt i v second → slot_block k v.slot ≡ Ok b
              → third ≡ (let y : Desk = record second { scrap = Some (record { load = load; bytes = b.here.bytes }) } in y))
              → (y : Desk) × ((spool d name k h ref ≡ Ok (y, reply.Sent load)) × IsReordered y third)
          unfolding task_of
          spool-done may {load} {second} {third} ref_is sent filled =
              let r : load ≡ next_ref d = ref_is ∙ ap next_ref now in
              let same : the.after ≡ sent.0 = (let e = sym sends ∙ sent.1.0 in cc) in
              let done : spool d name k h ref ≡ Ok (filed bytes the.after, reply.Sent (next_ref d)) =
              rest-is ∙ both-pass (not (is_raw s.manner)) (nat_le (next_ref d) ref) _ (may ∙ ap (letter_refusal s ref) next-is) in
              let y : Desk = record sent.0 { scrap = Some (record { load = load; bytes = bytes }) } in (
                y,
                (
                  done ∙ ap (λ (x : Desk). let g : Granted Answer = Ok (filed bytes x, reply.Sent (next_ref d)) in g) same
                      ∙ ap (λ x. let g : Granted Answer = Ok
                      ((let z : Desk = record sent.0 { scrap = Some (record { load = x; bytes = bytes }) } in z), reply.Sent x) in g)
                      (sym r),
                  spool-file spools sent load source.cut source.block filled,
                ),
              )
