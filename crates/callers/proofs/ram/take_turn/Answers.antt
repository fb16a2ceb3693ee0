use Rattle.std.proofs.Common.{◌≡◌, ℕ, ◌+◌, ◌<◌, ◌≤◌, length, sym, ap, ◌∙◌, arith}
use Rattle.rh_defs.specs.Messages.{action_of}
use Rattle.rh_defs.specs.declared.message.Message.{Message}
use Rattle.rh_defs.specs.declared.message.Action.TheVariants as action
use Rattle.callers.specs.Inner.HandOver.{heard}
use Rattle.callers.proofs.HandOverWay.{asked-of, answered-of, offered-of, asked-way, answered-way, offered-way}
use Rattle.callers.proofs.ram.take_turn.Goals as goal

pub returns-in-RamFetch : goal.returns-in-RamFetch
returns-in-RamFetch c = λ turn mail letter way at msg then_next.
    let is : action_of letter.body ≡ action.RamFetch = sym (c.in-RamFetch.ensures ∙ ap (λ (m : Message). action_of m.body) msg) in
    let found = asked-of c.args.source.now (length c.args.buffer.now) turn mail c.args.sender.now c.args.receiver.now c.args.document.now
    c.args.buffer.now letter way at is in
    let done = c.send_part.ensures found.0 found.1 (turn + 1) found.3.sends (msg ∙ ap (heard (turn + 1)) found.2) found.3.most c.requires.room in
    asked-way c.args.source.now c.args.document.now c.send_part.new.buffer (length c.args.buffer.now) turn c.args.next mail c.args.sender.now
    c.send_part.new.sender c.args.receiver.now c.send_part.result found.0 found.1 found.3 then_next done

pub returns-in-RamTransmit : goal.returns-in-RamTransmit
returns-in-RamTransmit c = λ turn mail letter way at msg then_next.
    let is : action_of letter.body ≡ action.RamTransmit = sym (c.in-RamTransmit.ensures ∙ ap (λ (m : Message). action_of m.body) msg) in
    let found = answered-of c.args.source.now (length c.args.buffer.now) turn mail c.args.sender.now c.args.receiver.now c.args.document.now
    c.args.buffer.now letter way at is in
    let part = found.4.part in
    let most = found.4.most in
    let done = c.take_part.ensures found.0 (turn + 1) found.2 found.1 found.4.takes (msg ∙ ap (heard (turn + 1)) found.3) (omega (arith, part))
    (omega (arith, part, most, c.requires.same)) (omega (arith, part, most, c.requires.size)) in
    answered-way c.args.source.now c.args.document.now c.take_part.new.document c.args.buffer.now (length c.args.buffer.now) turn c.args.next mail
    c.args.sender.now c.args.receiver.now c.take_part.new.receiver c.take_part.result found.0 found.1 found.2 found.4 then_next
    c.requires.room (omega (arith, c.take_part.auto.document, c.requires.same)) done

pub returns-in_default : goal.returns-in_default
returns-in_default c = λ turn mail letter way at msg then_next.
    let same = c.action.ensures ∙ ap (λ (m : Message). action_of m.body) msg in
    let found = offered-of c.args.source.now (length c.args.buffer.now) turn mail c.args.sender.now c.args.receiver.now c.args.document.now
    c.args.buffer.now letter way at (λ e. c.in_default.not-RamFetch (same ∙ e)) (λ e. c.in_default.not-RamTransmit (same ∙ e)) in
    let offer = msg ∙ ap (heard (turn + 1)) found.0 in
    let my_ref = ap (λ (m : Message). m.my_ref) msg in
    let first = found.1.first in
    let done = c.take_offer.ensures found.1.takes (ap (λ (m : Message). m.from) offer) (omega (arith, my_ref, first)) in
    offered-way c.args.source.now c.args.document.now c.args.buffer.now (length c.args.buffer.now) turn c.args.next mail c.args.sender.now
    c.args.receiver.now c.take_offer.new.receiver c.take_offer.result found.1 then_next done
