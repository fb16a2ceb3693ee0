-- Where a sender's record says Done, each record of the transfer has ended or its last transmit is queued, of each desk that a
-- run reaches.
use Rattle.rh_laws.proofs.Common.{Body, Desk, Has, Incoming, List, Offers, Parcel, Some, Taking, Task, [], action_of, after, ap, arith}
use Rattle.rh_laws.proofs.Common.{contains_of, false, field_is, first_is, has_of, in_id, is_equal, length, refl, same_value, seen_parcel, start_with}
use Rattle.rh_laws.proofs.Common.{subst, sym, task_at, view, ℕ, ◌+◌, ◌==◌, ◌∙◌, ◌≡◌}
use Rattle.std.specs.List.{Contains}
use Rattle.rh_defs.specs.declared.message.Action.TheVariants as action
use Rattle.rh_defs.specs.declared.message.Body.TheVariants as body
use Rattle.rh_defs.specs.declared.transfer.Incoming.TheVariants as incoming
use Rattle.rh_defs.specs.declared.transfer.Outgoing.TheVariants as outgoing
use Rattle.rh_defs.specs.Records.{is_going}
use Rattle.rh_safety.proofs.Ends.{Message, Out_done, RamTransmit}
use Rattle.rh_safety.proofs.Invariant.{Counted}
use Rattle.rh_safety.proofs.View.{address_in, amount_in}
use Rattle.rh_laws.specs.SendersDone.{AlwaysMatches, HasEnded, IsFinal, Matches}
use Rattle.rh_laws.specs.Progress.{rounds_of}
use Rattle.rh_laws.proofs.DonePairs.{has-map}
use Rattle.rh_laws.proofs.Dones.{Ends, Final, IsQueued}
use Rattle.rh_safety.specs.RawIds.{Gave, is_raw_id}
use Rattle.rh_laws.specs.RawHandles.{RawHandles}
use Rattle.rh_laws.proofs.PlayedLaws.{PlayedReach, always-reach, always-settles-beside, rounds-reach}

-- the bytes and the buffer of a transmit
transmit-of : (b : Body) → action_of b ≡ action.RamTransmit → b ≡ body.RamTransmit (address_in b) (amount_in b)
transmit-of (body.RamTransmit buffer n) e = refl
transmit-of (body.DataSave f) e = absurd cc
transmit-of (body.DataSaveAck f) e = absurd cc
transmit-of (body.DataLoad f) e = absurd cc
transmit-of (body.DataLoadAck f) e = absurd cc
transmit-of (body.RamFetch buffer n) e = absurd cc
transmit-of (body.Other o) e = absurd cc

module _ {C : RawHandles} {R : Gave} (d : Desk) (reached : PlayedReach C R d) where
  abbrev o : Offers
  o = reached.stands.offers

  module _ (s r id n : ℕ) (t u : Task) (w : Incoming) (at_s : task_at s d ≡ Some t) (done : Contains t.sending (outgoing.Done id n))
      (at_r : task_at r d ≡ Some u) (has : Contains u.taking w) (same : in_id w ≡ id) where
    sent : Has (Out_done id n) ((view d).sending s)
    sent = subst (Has (Out_done id n)) (sym (field_is (λ y. y.sending) [] s d.tasks t at_s)) (has_of t.sending (Out_done id n) done)

    taken : Has w ((view d).taking r)
    taken = subst (Has w) (sym (field_is (λ y. y.taking) [] r d.tasks u at_r)) (has_of u.taking w has)

    same-count : (i k count : ℕ) → w ≡ incoming.Done i k count → count ≡ n
    same-count i k count is =
        let mine : Counted o i count = reached.stands.good.inv.ins.counted r (incoming.Done i k count) (subst (λ v. Has v ((view d).taking r)) is taken) in
        let theirs = reached.stands.good.inv.outs.counted s id n sent in
        let one : mine.all ≡ theirs.all = same_value (o id) (ap o (sym same ∙ ap in_id is) ∙ mine.offered) theirs.offered in
        mine.whole ∙ ap (λ (bytes : List ℕ). length bytes) one ∙ sym theirs.whole

    -- a message that is seen of the queue
    last : (f : Taking) → (m : Message) × (IsQueued (view d) m × Final ((view d).buf r) s r n f m) →
        (p : Parcel) × (Contains d.post.queued p × IsFinal s u n f p)
    last f (m, (there, final)) =
        let z = has-map seen_parcel d.post.queued m there in
        let p : Parcel = z.0 in
        let seen : seen_parcel p ≡ m = z.1.1 in
        let address : address_in p.message.body ≡ f.buffer = ap (λ (q : Message). q.letter.address) seen ∙ final.address in (
          p,
          (
            contains_of d.post.queued p z.1.0,
            record {
              code = ap (λ (q : Message). q.code) seen ∙ final.code;
              to = ap (λ (q : Message). q.to) seen ∙ final.to ∙ sym (is_equal _ _ (first_is (λ (y : Task). y.handle == r) d.tasks u at_r).1);
              from = ap (λ (q : Message). q.letter.from) seen ∙ final.from;
              answers = ap (λ (q : Message). q.letter.answers) seen ∙ final.answers;
              written = amount_in p.message.body;
              body = transmit-of p.message.body (ap (λ (q : Message). q.letter.kind) seen ∙ final.kind) ∙
                  ap (λ a. body.RamTransmit a (amount_in p.message.body)) address;
              short =
                  let less = final.short in
                  let room = field_is (λ y. y.buffer) 1 r d.tasks u at_r in
                  let amount = ap (λ (q : Message). q.letter.amount) seen in
                  omega (arith, less, room, amount);
              whole = ap (λ (q : Message). f.count + q.letter.amount) seen ∙ final.whole;
            },
          ),
        )

    matches : Matches d s u n w
    matches = by w refl (reached.goes.matched.ends s id n r w sent taken same)
      where
        by : (v : Incoming) → w ≡ v → Ends (IsQueued (view d)) ((view d).buf r) s r n v → Matches d s u n v
        by (incoming.Fetching f) is x = last f x
        by (incoming.Draining f) is x = last f x
        by (incoming.Asking q) is x = x
        by (incoming.Done i k count) is x = same-count i k count is
        by (incoming.Failed i k count) is x = tt

-- what matches and doesn't go on has ended
ended : (d : Desk) (s : ℕ) (r : Task) (n : ℕ) (w : Incoming) → Matches d s r n w → is_going w ≡ false → HasEnded n w
ended d s r n (incoming.Fetching f) x going = absurd cc
ended d s r n (incoming.Draining f) x going = absurd cc
ended d s r n (incoming.Asking q) x going = x
ended d s r n (incoming.Done i k count) x going = x
ended d s r n (incoming.Failed i k count) x going = x

pub always-matches : AlwaysMatches
always-matches pool handle ref files commands from ranged =
    let start : Desk = start_with pool files handle ref in
    let d : Desk = after start commands in
    let here = always-reach pool handle ref files commands from ranged in
    record {
      now = matches d here;
      rests = λ rounds in_rounds names few s r id n t u w at_s done at_r has same.
          let end : Desk = after d (rounds_of rounds) in
          let there = rounds-reach rounds in_rounds d here in
          let settled = always-settles-beside pool handle ref files commands from ranged rounds in_rounds names few in
          let mine : is_raw_id start commands (in_id w) ≡ false = ap (is_raw_id start commands) same ∙
          there.stands.raws.outs s (Out_done id n) (sent end there s r id n t u w at_s done at_r has same) in
          ended end s u n w (matches end there s r id n t u w at_s done at_r has same) (settled.comes r u w at_r has mine);
    }
