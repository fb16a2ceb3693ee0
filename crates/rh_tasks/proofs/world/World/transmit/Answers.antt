use Rattle.std.proofs.Common.{rules}
use Rattle.rh_tasks.proofs.Common.{◌≡◌, refl, sym, ap, ◌∙◌, arith, None, err_from_is_err_and, slice_get_within, Letter, Task, task_at}
use Rattle.rh_tasks.proofs.Common.{ℕ, List, Outgoing, Incoming, with_sending, send_letter, task_of, member-at, mapped-at}
use Rattle.rh_defs.specs.Letters.{transmit_letter}
use Rattle.rh_defs.specs.Sender as sender
use Rattle.rh_tasks.proofs.SeatRecords.{sits-in}
use Rattle.rh_tasks.proofs.Fetches.{seated, seat-is}
use Rattle.rh_tasks.proofs.Writes.{alike-length, alike-at, seen}
use Rattle.rh_defs.specs.declared.transfer_action.SendAction.TheVariants as send
use Rattle.rh_tasks.proofs.Dues.{records_of, sent-records, still-sends}
use Rattle.rh_tasks.proofs.Transmits.{Meant, nobody-with, somebody-with, pair_of, sent-pairs, portion-seen, reach-seen, wrote-is, wrote-records}
use Rattle.rh_tasks.proofs.Transmits.{transmit-missing, transmit-nobody, transmit-far, transmit-refused, transmit-whole}
use Rattle.rh_tasks.proofs.world.World.transmit.Goals as goal

pub returns-in_err-portion : goal.returns-in_err-portion
returns-in_err-portion g c =
    let p = err_from_is_err_and c.from_residual.result c.from_residual.ensures.1 in
    rw (p.1, p.2) (λ t at. (transmit-missing c.args.self.now.desk t c.args.a.now (c.in_err-portion.ensures.err t at), refl))

pub returns-in_default : goal.returns-in_default
returns-in_default g c =
    let d = c.args.self.now.desk in
    let none : task_at c.args.a.now.transfer.recipient d ≡ None =
    rw (← c.self.view_is) (nobody-with c.self.invariant c.args.a.now.transfer.recipient (sym c.in_default.ensures)) in
    λ t at. (transmit-nobody d t c.args.a.now (c.in_ok-portion.ensures.ok t at) none, refl)

pub is_bad_range-requires-clause-low : goal.is_bad_range-requires-clause-low
is_bad_range-requires-clause-low g c = c.in_ok-portion.ensures.low

pub returns-then-is_bad_range : goal.returns-then-is_bad_range
returns-then-is_bad_range g c =
    let d = c.args.self.now.desk in
    let r : Meant d c.in-Some.seat c.args.a.now.transfer.recipient =
    rw (← c.self.view_is) (somebody-with c.self.invariant c.args.a.now.transfer.recipient c.in-Some.seat (sym c.in-Some.ensures)) in
    λ t at. (
      transmit-far d t c.args.a.now (c.in_ok-portion.ensures.ok t at) r.task r.found
          (c.if-is_bad_range.ensures t r.task at r.at),
      refl,
    )

pub send_from-requires : goal.send_from-requires
unfolding task_of
send_from-requires g c =
    let m = g.S.Words.memory c.self.inside.store in
    let s = c.index-sender.result.now in
    let own : c.transmit_letter-letter.result.from ≡ s.handle = ap (λ (l : Letter). l.from) c.transmit_letter-letter.ensures in
    let inside = rw (← c.self.view_is) at c.requires.place in
    let at = sits-in c.self.invariant inside (sym c.index-sender.ensures) in
    rw (← c.self.view_is) (task_of m s, (mapped-at (task_of m) c.self.inside.seats.items c.args.i s at, own))

pub returns-in_err-transmit : goal.returns-in_err-transmit
unfolding task_of
returns-in_err-transmit g c =
    let p = err_from_is_err_and c.from_residual-in_err-transmit.result c.from_residual-in_err-transmit.ensures.1 in
    let d = c.args.self.now.desk in
    let m0 = g.S.Words.memory c.self.inside.store in
    let s = c.index-sender.result.now in
    let r : Meant d c.in-Some.seat c.args.a.now.transfer.recipient =
    rw (← c.self.view_is) (somebody-with c.self.invariant c.args.a.now.transfer.recipient c.in-Some.seat (sym c.in-Some.ensures)) in
    rw (p.1, p.2) (λ t at.
    let there = rw (← c.self.view_is) at at in
    let own : s.handle ≡ t.handle =
    sym (ap (λ (u : Task). u.handle) (seat-is (seated m0 c.self.inside.seats.items c.args.i t there) s (sym c.index-sender.ensures))) in
    let letter = c.transmit_letter-letter.ensures ∙ ap (λ h. transmit_letter h c.args.a.now c.in_ok-portion.portion.part) own in
    let near = c.if-is_bad_range.ensures t r.task at r.at in (
      transmit-refused d t c.args.a.now (c.in_ok-portion.ensures.ok t at) r.task r.found near
          (ap (λ l. send_letter l d) (sym letter) ∙ c.in_err-transmit.ensures.0),
      c.in_err-transmit.ensures.1,
    ))

pub write_portion-requires-clause-source : goal.write_portion-requires-clause-source
write_portion-requires-clause-source g c =
    let e = c.in_ok-transmit.ensures in
    let k = sent-pairs c.transmit_letter-letter.result c.args.self.now.desk e.1.0 c.send_from.new.self.desk e.1.1.0 e.1.1.1 in
    omega (arith, alike-length pair_of k, c.requires.place)

pub write_portion-requires-clause-target : goal.write_portion-requires-clause-target
write_portion-requires-clause-target g c =
    let d = c.args.self.now.desk in
    let e = c.in_ok-transmit.ensures in
    let k = sent-pairs c.transmit_letter-letter.result d e.1.0 c.send_from.new.self.desk e.1.1.0 e.1.1.1 in
    let r : Meant d c.in-Some.seat c.args.a.now.transfer.recipient =
    rw (← c.self.view_is) (somebody-with c.self.invariant c.args.a.now.transfer.recipient c.in-Some.seat (sym c.in-Some.ensures)) in
    omega (arith, alike-length pair_of k, slice_get_within d.tasks c.in-Some.seat r.task r.at)

pub write_portion-requires-clause-portion : goal.write_portion-requires-clause-portion
write_portion-requires-clause-portion g c =
    let d = c.args.self.now.desk in
    let e = c.in_ok-transmit.ensures in
    let k = sent-pairs c.transmit_letter-letter.result d e.1.0 c.send_from.new.self.desk e.1.1.0 e.1.1.1 in
    let t = member-at d.tasks c.args.i c.requires.place in
    λ u at. portion-seen (alike-at pair_of k c.args.i t.0 u t.1 at) (c.in_ok-portion.ensures.ok t.0 t.1)

pub write_portion-requires-clause-reach : goal.write_portion-requires-clause-reach
write_portion-requires-clause-reach g c =
    let d = c.args.self.now.desk in
    let e = c.in_ok-transmit.ensures in
    let k = sent-pairs c.transmit_letter-letter.result d e.1.0 c.send_from.new.self.desk e.1.1.0 e.1.1.1 in
    let t = member-at d.tasks c.args.i c.requires.place in
    let r : Meant d c.in-Some.seat c.args.a.now.transfer.recipient =
    rw (← c.self.view_is) (somebody-with c.self.invariant c.args.a.now.transfer.recipient c.in-Some.seat (sym c.in-Some.ensures)) in
    λ u v at bt.
    reach-seen t.0 u r.task v c.args.a.now.buffer c.args.a.now.room c.in_ok-portion.portion.address c.in_ok-portion.portion.part.n
    (alike-at pair_of k c.args.i t.0 u t.1 at) (alike-at pair_of k c.in-Some.seat r.task v r.at bt)
    ∙ sym (c.if-is_bad_range.ensures t.0 r.task t.1 r.at)

pub write_portion-requires-clause-room : goal.write_portion-requires-clause-room
write_portion-requires-clause-room g c = c.in_ok-portion.ensures.most

pub edit_sending-requires-clause-place : goal.edit_sending-requires-clause-place
edit_sending-requires-clause-place g c =
    let d = c.args.self.now.desk in
    let e = c.in_ok-transmit.ensures in
    let k = sent-pairs c.transmit_letter-letter.result d e.1.0 c.send_from.new.self.desk e.1.1.0 e.1.1.1 in
    let sent = sent-records c.transmit_letter-letter.result d e.1.0 e.1.1.0 e.1.1.1 in
    let t = member-at d.tasks c.args.i c.requires.place in
    let r : Meant d c.in-Some.seat c.args.a.now.transfer.recipient =
    rw (← c.self.view_is) (somebody-with c.self.invariant c.args.a.now.transfer.recipient c.in-Some.seat (sym c.in-Some.ensures)) in
    omega (
      arith,
      alike-length records_of (wrote-records k c.args.i c.in-Some.seat t.1 r.at (c.in_ok-portion.ensures.ok t.0 t.1) c.args.a.now.buffer c.args.a.now.room
          c.write_portion.ensures sent),
      c.requires.place,
    )

pub edit_sending-requires-clause-taken : goal.edit_sending-requires-clause-taken
edit_sending-requires-clause-taken g c =
    let d = c.args.self.now.desk in
    let e = c.in_ok-transmit.ensures in
    let k = sent-pairs c.transmit_letter-letter.result d e.1.0 c.send_from.new.self.desk e.1.1.0 e.1.1.1 in
    let sent = sent-records c.transmit_letter-letter.result d e.1.0 e.1.1.0 e.1.1.1 in
    let t = member-at d.tasks c.args.i c.requires.place in
    let r : Meant d c.in-Some.seat c.args.a.now.transfer.recipient =
    rw (← c.self.view_is) (somebody-with c.self.invariant c.args.a.now.transfer.recipient c.in-Some.seat (sym c.in-Some.ensures)) in
    let due =
    still-sends (wrote-records k c.args.i c.in-Some.seat t.1 r.at (c.in_ok-portion.ensures.ok t.0 t.1) c.args.a.now.buffer c.args.a.now.room
    c.write_portion.ensures sent) c.args.i (send.Transmit c.args.a.now) c.requires.due in
    λ u there said new p. let is = due u there in search rules

pub returns : goal.returns
unfolding task_of
returns g c =
    let d = c.args.self.now.desk in
    let m0 = g.S.Words.memory c.self.inside.store in
    let s = c.index-sender.result.now in
    let e = c.in_ok-transmit.ensures in
    let k = sent-pairs c.transmit_letter-letter.result d e.1.0 c.send_from.new.self.desk e.1.1.0 e.1.1.1 in
    let r : Meant d c.in-Some.seat c.args.a.now.transfer.recipient =
    rw (← c.self.view_is) (somebody-with c.self.invariant c.args.a.now.transfer.recipient c.in-Some.seat (sym c.in-Some.ensures)) in
    λ t at.
    let there = rw (← c.self.view_is) at at in
    let own : s.handle ≡ t.handle =
    sym (ap (λ (u : Task). u.handle) (seat-is (seated m0 c.self.inside.seats.items c.args.i t there) s (sym c.index-sender.ensures))) in
    let letter = c.transmit_letter-letter.ensures ∙ ap (λ h. transmit_letter h c.args.a.now c.in_ok-portion.portion.part) own in
    let near = c.if-is_bad_range.ensures t r.task at r.at in
    let p = c.in_ok-portion.ensures.ok t at in
    let sent = sent-records c.transmit_letter-letter.result d e.1.0 e.1.1.0 e.1.1.1 in
    let wrote = wrote-records k c.args.i c.in-Some.seat at r.at p c.args.a.now.buffer c.args.a.now.room c.write_portion.ensures sent in
    let after = seen records_of wrote c.args.i t at in
    let last = c.in_ok-transmit.transmit in
    let edit : List Outgoing → List Outgoing = sender.sent c.args.a.now (sender.next_part c.args.a.now c.in_ok-portion.portion.size) last in
    let recorded = c.edit_sending.ensures after.task edit after.at (λ new p. search rules)
    ∙ ap (λ (r : ℕ × List Outgoing × List Incoming). with_sending r.0 edit c.write_portion.new.self.desk) after.alike in
    transmit-whole d t c.args.a.now p r.task r.found near e.0 (ap (λ l. send_letter l d) (sym letter) ∙ e.1.1.0) e.1.1.1
    (wrote-is k c.args.i c.in-Some.seat at r.at p c.args.a.now.buffer c.args.a.now.room c.write_portion.ensures) recorded
