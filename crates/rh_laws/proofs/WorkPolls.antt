-- Each message that a poll handles leaves less to do than before it was taken.
use Rattle.rh_laws.proofs.Common.{Acknowledge, Ascend, Body, Bool, Desk, EventCode, Flex, Handled, Has, List, NoBlock, None, Offers, Ok, OnGrant}
use Rattle.rh_laws.proofs.Common.{Option, Outcome, Outgoing, Parcel, Part, Recorded, SaveFile, Scrap, Sending, Some, Split, Task, Transmit, User}
use Rattle.rh_laws.proofs.Common.{and_right, ap, appended, arith, block_of, buffer_at, drop, false, granted, granted-then, handled, if◌then◌else◌, inl, inr}
use Rattle.rh_laws.proofs.Common.{is_found, leb_tells, length, nat_le, nat_lt, next_ref, out_id, refl, slot_block, subst, suc, sym, take, true, with_sending}
use Rattle.rh_laws.proofs.Common.{written_in, ℕ, ◌*◌, ◌+◌, ◌-◌, ◌≡◌, ◌≤◌}
use Rattle.rh_defs.proofs.Chains.{grant-holds}
use Rattle.rh_defs.specs.declared.transfer.Outgoing.TheVariants as outgoing
use Rattle.rh_defs.specs.Sender as sender
use Rattle.rh_safety.proofs.Acts.{Act, abandons, asks, claims, fails, finishes, gives_up, handled-acts, loads, loads_only, part_of, save_of, saves, sends}
use Rattle.rh_safety.proofs.Acts.{skips, takes_full, takes_last, takes_some, transmit_of}
use Rattle.rh_laws.specs.Progress.{held_work, source_work, work_ahead, work_back, work_queued}
use Rattle.rh_laws.proofs.WorkPosts.{Lets}
use Rattle.rh_laws.proofs.WorkTasks.{Here, ended-here, ins-here, letter-here, offered_work, outs-here, outs_work, slot-here, slots-here, names_of, total-with}
use Rattle.rh_laws.proofs.WorkTasks.{work_offered}

-- the task's outgoing records stand in order of id, and the source of each open one is what was offered
pub record Owns (o : Offers) (t : Task) : Type 0 where
  pub ids : Ascend out_id t.sending
  pub sources :
      (x : Sending) → Has (outgoing.Open x) t.sending → (s : Split Flex) → block_of x.anchor t.slot ≡ Some s →
      o x.id ≡ Some s.here.bytes

module _ (o : Offers) (t : Task) (own : Owns o t) (w n : ℕ) (held : Option Parcel) (live : List (List ℕ)) where
  abbrev h : ℕ
  h = t.handle

  -- the desk on which the message is handled
  abbrev On : Desk → Type 0
  On d = Here o h t.sending 0 w n held live d

  -- after it there is less to do than with the message, which left p
  pub record Falls (p : ℕ) (r : Handled) : Type 0 where
    pub work : work_offered o r.0 + held_work held + 1 ≤ w + p
    pub next : r.0.post.next_ref ≤ n + 1
    pub names : names_of r.0.tasks ≡ live

  -- after a letter of so much work
  abbrev Sent : ℕ → Desk → Type 0
  Sent more e = (k : Option Parcel) × Here o h t.sending (0 + held_work held) (w + more) (n + 1) k live e

  module _ {p : ℕ} (room : held_work held + 1 ≤ p) where
    -- no message was sent
    pub plain-falls : (d : Desk) (x : Outcome) → On d → Falls p (d, x)
    plain-falls d x is = record {
      work = let y = is.work in omega (arith, y, room);
      next = let y = is.next in omega (arith, y);
      names = is.names;
    }

  -- a letter was sent, of less work than the message's
  sent-falls : {p : ℕ} (more : ℕ) → more + 1 ≤ p → (d : Desk) (x : Outcome) → Sent more d → Falls p (d, x)
  sent-falls more less d x is = record {
    work = let y = is.1.work in omega (arith, y, less);
    next = let y = is.1.next in omega (arith, y);
    names = is.1.names;
  }

  -- ---- outgoing records written anew

  module _ (x : Sending) (has : Has (outgoing.Open x) t.sending) where
    failed-outs : outs_work o (sender.sending_failed x t.sending) + 0 ≤ outs_work o t.sending + 0
    failed-outs =
        let z = total-with (offered_work o) out_id (outgoing.Open x) (outgoing.Failed x.id x.count) t.sending own.ids has in
        omega (arith, z)

    loaded-outs : (k : ℕ) → outs_work o (sender.sending_loaded x k t.sending) + 0 ≤ outs_work o t.sending + 0
    loaded-outs k =
        let z = total-with (offered_work o) out_id (outgoing.Open x) (outgoing.Done x.id k) t.sending own.ids has in
        omega (arith, z)

  saved-outs : (a : SaveFile) → Has (outgoing.Open a.transfer) t.sending → (ref : ℕ) →
      outs_work o (sender.saved a ref t.sending) + 0 ≤ outs_work o t.sending + 0
  saved-outs a has ref =
      let x : Sending = a.transfer in
      let z = total-with (offered_work o) out_id (outgoing.Open x) (outgoing.Open (record x { last = ref })) t.sending own.ids has in
      omega (arith, z)

  module _ (a : Transmit) (has : Has (outgoing.Open a.transfer) t.sending) (ref : ℕ) (bytes : List ℕ) (some : 1 ≤ a.room) where
    abbrev x : Sending
    x = a.transfer

    abbrev p : Part
    p = sender.next_part a (length bytes)

    -- the bytes that went out are done with
    after-less : o x.id ≡ Some bytes → (b : Bool) → (b ≡ false → a.room ≤ p.n) →
        offered_work o (if b then outgoing.Done x.id (p.offset + p.n) else outgoing.Open (record x { count = p.offset + p.n; last = ref })) + 2
        ≤ offered_work o (outgoing.Open x)
    after-less is true long =
        let y : source_work (o x.id) x.count ≡ 2 * (length bytes - x.count + 1) = ap (λ v. source_work v x.count) is in omega (arith, y)
    after-less is false long =
        let y : source_work (o x.id) x.count ≡ 2 * (length bytes - x.count + 1) = ap (λ v. source_work v x.count) is in
        let z : source_work (o x.id) (x.count + p.n) ≡ 2 * (length bytes - (x.count + p.n) + 1) = ap (λ v. source_work v (x.count + p.n)) is in
        let low = long refl in
        omega (arith, y, z, low, some)

    sent-less : o x.id ≡ Some bytes → offered_work o (sender.after_sent a p ref) + 2 ≤ offered_work o (outgoing.Open x)
    sent-less is = after-less is p.is_last (long p.n)
      where
        long : (k : ℕ) → nat_lt k a.room ≡ false → a.room ≤ k
        long k e = elim (leb_tells (suc k) a.room) [
          | inl z ↦ absurd (let y : nat_lt k a.room ≡ true = z.0 in cc)
          | inr z ↦ let y = z.1 in omega (arith, y)
        ]

    sent-outs : o x.id ≡ Some bytes → outs_work o (sender.sent a p ref t.sending) + 2 ≤ outs_work o t.sending + 0
    sent-outs is =
        let z = total-with (offered_work o) out_id (outgoing.Open x) (sender.after_sent a p ref) t.sending own.ids has in
        let y = sent-less is in
        omega (arith, y, z)

  -- the source of an open record of the task
  source-is : (x : Sending) → Has (outgoing.Open x) t.sending → (s : Split Flex) → slot_block x.anchor t.slot ≡ Ok s → o x.id ≡ Some s.here.bytes
  unfolding slot_block
  source-is x has s e = own.sources x has s (is_found (block_of x.anchor t.slot) NoBlock s e)

  -- another scrap file, and other areas
  filed : {c v k : ℕ} {l : Option Parcel} (e : Desk) (sc : Option Scrap) (areas : List ℕ) → Here o h t.sending c v k l live e →
      Here o h t.sending c v k l live (record e { scrap = sc; areas = areas })
  filed e sc areas is = record { work = is.work; sends = is.sends; holds = is.holds; next = is.next; names = is.names }

  -- ---- each message

  -- a message leaves so much, by whether it came back
  abbrev work_of : Bool → Body → ℕ
  work_of false b = work_ahead b
  work_of true b = work_back b

  module _ (m : Parcel) (d : Desk) (is : On d) where
    longer : {e : Desk} (k : ℕ) (bytes : List ℕ) → appended d t k bytes ≡ Ok e → On e
    unfolding appended
    longer k bytes q = grant-holds here q
      where
        here : OnGrant On (appended d t k bytes)
        here = granted-then _ _ λ document e. granted-then _ _ λ longer f. granted-then _ _ λ s i. granted (slot-here o h s d is)

    -- an outgoing record written anew, and no message
    shut-falls : {p : ℕ} → held_work held + 1 ≤ p → (edit : List Outgoing → List Outgoing) → outs_work o (edit t.sending) + 0 ≤ outs_work o t.sending + 0 →
        (x : Outcome) → Falls p (with_sending h edit d, x)
    shut-falls room edit less x =
        let y = outs-here o edit 0 0 less d is in
        let work = y.0 in
        let next = y.1 in
        record { work = omega (arith, work, room); next = omega (arith, next); names = y.2 }

    act-falls : {back : Bool} {b : Body} {r : Handled} → Act d t m back b r → Lets m.message.my_ref held → (back ≡ true → held ≡ None) →
        held_work held + 1 ≤ work_of back b → Falls (work_of back b) r
    act-falls (skips none) lets bare room = plain-falls room d _ is
    act-falls (fails x why it z) lets bare room = shut-falls room (sender.sending_failed x) (failed-outs x it.has) _
    act-falls (sends {buffer = buffer} {n = n} x source r sent it w) lets bare room =
        let a : Transmit = transmit_of d t m buffer n x in
        let part : Part = part_of d t m buffer n x source in
        let bytes : List ℕ = take part.n (drop part.offset source.here.bytes) in
        let all = grant-holds (letter-here o _ refl lets d is) w.letter in
        let here = slots-here o r.handle (λ s. written_in buffer bytes (buffer_at buffer n s) s) sent all.1 in
        let some = elim (leb_tells 1 n) as (λ _. 1 ≤ n) [
          | inl y ↦ y.1
          | inr y ↦ absurd (let z : nat_le 1 n ≡ true = and_right _ (nat_le 1 n)
              (and_right _ (sender.would_answer m.message.from m.message.your_ref n x) it.passes) in
              let v = y.0 in cc)
        ] in
        let y = outs-here o (sender.sent a part (next_ref d)) 2 0
        (sent-outs a it.has (next_ref d) source.here.bytes some (source-is x it.has source w.source_is))
        _ here in
        let work = y.0 in
        let next = y.1 in
        record { work = omega (arith, work); next = omega (arith, next); names = y.2 }
    act-falls (saves x source sent it there none l) lets bare room =
        let all = grant-holds (letter-here o _ refl lets _ (filed d d.scrap _ is)) l in
        let z = outs-here o (sender.saved (save_of d t m x) (next_ref d)) 0 0 (saved-outs (save_of d t m x) it.has (next_ref d)) _
        (filed sent _ sent.areas all.1) in
        let work = z.0 in
        let next = z.1 in
        record { work = omega (arith, work); next = omega (arith, next); names = z.2 }
    act-falls (finishes x source it there) lets bare room =
        shut-falls room (sender.sending_loaded x (length source.here.bytes)) (loaded-outs x it.has _) _
    act-falls (claims k b p sent few free claim alloc l) lets bare room =
        let all = grant-holds (letter-here o _ refl lets _ (slot-here o h _ d is)) l in sent-falls 8 (omega arith) _ _ (all.0, ins-here o h _ sent all.1)
    act-falls (gives_up f why it z) lets bare room = plain-falls room _ _ (ended-here o h f _ d is)
    act-falls (takes_last f e it l less) lets bare room = plain-falls room _ _ (ended-here o h f _ e (longer _ _ l))
    act-falls (takes_some f e x it l) lets bare room = plain-falls room _ _ (ended-here o h f _ e (longer _ _ l))
    act-falls (takes_full f e sent it l full s) lets bare room =
        let all = grant-holds (letter-here o _ refl lets e (longer _ _ l)) s in sent-falls 8 (omega arith) _ _ (all.0, ins-here o h _ sent all.1)
    act-falls (asks f sent it none l) lets bare room =
        let all = grant-holds (letter-here o _ refl (subst (Lets f.id) (sym (bare refl)) tt) d is) l in
        sent-falls 5 (omega arith) _ _ (all.0, ended-here o h f _ sent all.1)
    act-falls (abandons q x it z) lets bare room = plain-falls room _ _ (ins-here o h _ d is)
    act-falls (loads_only q file e x it w) lets bare room =
        plain-falls room _ _ (ins-here o h _ (record e { scrap = None }) (filed e None e.areas (longer _ _ w.longer_is)))
    act-falls (loads q file e sent it w l) lets bare room =
        let all = grant-holds (letter-here o _ refl lets _ (filed e None e.areas (longer _ _ w.longer_is))) l in
        sent-falls 3 (omega arith) _ _ (all.0, ins-here o h _ sent all.1)

    pub handled-falls : Lets m.message.my_ref held → (c : EventCode) → (c ≡ Acknowledge → held ≡ None) →
        held_work held + 1 ≤ work_queued c m.message.body → Falls (work_queued c m.message.body) (handled d t m c)
    handled-falls lets User none room = act-falls (handled-acts d t m User) lets (λ e. absurd (let z : false ≡ true = e in (cc))) room
    handled-falls lets Recorded none room = act-falls (handled-acts d t m Recorded) lets (λ e. absurd (let z : false ≡ true = e in (cc))) room
    handled-falls lets Acknowledge none room = act-falls (handled-acts d t m Acknowledge) lets (λ e. none refl) room
