use Rattle.std.proofs.Common.{◌≡◌, ℕ, ◌+◌, ◌^◌, ◌<◌, ◌≤◌, List, length, take, drop, ◌++◌, Option, Some, refl, sym, ap, ◌∙◌, arith}
use Rattle.rh_defs.specs.declared.message.Body.TheVariants.{RamTransmit}
use Rattle.rh_defs.specs.declared.message.Message.{Message}
use Rattle.rh_defs.specs.declared.transfer.Incoming.{Incoming}
use Rattle.rh_defs.specs.declared.transfer_action.Append.{Append}
use Rattle.rh_defs.specs.declared.transfer_action.TakeAction.{TakeAction}
use Rattle.rh_defs.specs.declared.transfer_action.TakeAction.TheVariants as take_action
use Rattle.rh_defs.specs.Receiver as receiver
use Rattle.callers.specs.Inner.HandOver.{the_buffer, fetching_at, appended_at, transmit_of, heard}
use Rattle.callers.proofs.HandOverFacts.{on_transmit-fetching}
use Rattle.callers.proofs.ram.take_part.Goals as goal

same-append : (room count my fetch n address written : ℕ) (message : Message) (records : List Incoming) (asked : Option TakeAction) (a : Append)
    → records ≡ fetching_at count fetch → message ≡ heard my (transmit_of room fetch n) → message.body ≡ RamTransmit address written
    → asked ≡ receiver.on_transmit room message.from message.my_ref message.your_ref address written records
    → asked ≡ Some (take_action.Append a) → n ≤ room → count + n < 2 ^ 32 → a ≡ appended_at room count my fetch n
same-append room count my fetch n address written message records asked a recv msg body asks was fits small =
    let same : RamTransmit the_buffer n ≡ RamTransmit address written = sym (ap (λ (m : Message). m.body) msg) ∙ body in
    let address_is : address ≡ the_buffer = cc in
    let written_is : written ≡ n = cc in
    let due = on_transmit-fetching room count my fetch n fits small in
    let given = rw (msg, recv, address_is, written_is) at asks in
    let both : Some (take_action.Append a) ≡ Some (take_action.Append (appended_at room count my fetch n)) = sym was ∙ given ∙ due in
    cc

appends : (room count my fetch n : ℕ) (a : Append) (later document buffer : List ℕ) → a ≡ appended_at room count my fetch n
    → take (a.transfer.count + a.n) later ≡ take a.transfer.count document ++ take a.n (drop 0 buffer)
    → take (count + n) later ≡ take count document ++ take n buffer
appends room count my fetch n a later document buffer same moved = rw same at moved

pub returns : goal.returns
returns c = λ count my fetch n recv msg fits room small.
    let was : c.on_transmit.result ≡ Some (take_action.Append c.in-Append.a) = cc in
    let body : c.args.message.now.body ≡ RamTransmit c.in-RamTransmit.address c.in-RamTransmit.written = cc in
    let same = same-append (length c.args.buffer.now) count my fetch n c.in-RamTransmit.address c.in-RamTransmit.written c.args.message.now
    c.args.receiver.now c.on_transmit.result c.in-Append.a recv msg body c.on_transmit.ensures.action was fits small in
    let goes = c.go_on.ensures (length c.args.buffer.now) count my fetch n recv same small in (
      goes.0,
      goes.1,
      appends (length c.args.buffer.now) count my fetch n c.in-Append.a c.moves.new.to c.args.document.now c.args.buffer.now same
          (c.if-not-moves.ensures.moved refl),
    )
