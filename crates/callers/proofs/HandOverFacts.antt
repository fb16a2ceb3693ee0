-- The machines of a transfer with one record each: what they answer on the way of a file.
use Rattle.std.proofs.Common.{◌≡◌, ℕ, ◌+◌, ◌-◌, ◌^◌, ◌<◌, ◌≤◌, Bool, true, false, refl, ap, sym, ◌∙◌, arith, List, [], ◌∷◌, ◌++◌, length, take, drop}
use Rattle.std.specs.Prelude.{min, nat_lt, nat_le, ◌==◌, Some, None, Ok}
use borrow.Author.Tests.{eq-eqb, le-leb, lt-ltb, le-ltb, lt-leb}
use Rattle.rh_defs.specs.declared.transfer.Sending.{Sending}
use Rattle.rh_defs.specs.declared.transfer.Taking.{Taking}
use Rattle.rh_defs.specs.declared.transfer.Outgoing.TheVariants as outgoing
use Rattle.rh_defs.specs.declared.transfer.Incoming.TheVariants as incoming
use Rattle.rh_defs.specs.declared.transfer_action.Transmit.{Transmit}
use Rattle.rh_defs.specs.declared.transfer_action.Append.{Append}
use Rattle.rh_defs.specs.declared.transfer_action.SendAction.TheVariants as send
use Rattle.rh_defs.specs.declared.transfer_action.TakeAction.TheVariants as take_action
use Rattle.rh_defs.specs.Sender as sender
use Rattle.rh_defs.specs.Receiver as receiver
use Rattle.rh_ram.specs.Told.{tell_sent, tell_fetching, tell_fetched, tell_finished}
use Rattle.rh_ram.proofs.DueLaws.{same_sending, same_taking}
use Rattle.callers.specs.Inner.HandOver.{the_buffer, open_at, went_at, fetching_at, taken_at, appended_at}

-- what a fetch of the whole buffer is answered with
abbrev pub transmitted : ℕ → ℕ → ℕ → ℕ → Transmit
transmitted room c last my = record {
  transfer = record { id = 1; recipient = 2; anchor = 0; count = c; last = last };
  to = 2;
  answers = my;
  buffer = the_buffer;
  room = room;
}

pub on_fetch-open : (room c last my : ℕ) → 0 < room
    → sender.on_fetch 2 my last the_buffer room (open_at c last) ≡ Some (send.Transmit (transmitted room c last my))
on_fetch-open room c last my some = rw (eq-eqb last last refl) (rw (le-leb 1 room (omega arith)) refl)

pub sent-open : (room c last my size next : ℕ)
    → tell_sent (transmitted room c last my) size next (open_at c last) ≡ Ok (went_at room c (min room (size - c)) next)
sent-open room c last my size next = rw (same_sending (transmitted room c last my).transfer) refl

pub on_transmit-fetching : (room c my fetch n : ℕ) → n ≤ room → c + n < 2 ^ 32
    → receiver.on_transmit room 1 my fetch the_buffer n (fetching_at c fetch) ≡ Some (take_action.Append (appended_at room c my fetch n))
on_transmit-fetching room c my fetch n fits small =
    rw (eq-eqb fetch fetch refl) (rw (le-leb n room fits) (rw (lt-leb (2 ^ 32) (c + n) small) refl))

pub fetched-fetching : (room c my fetch n next : ℕ) → room ≤ n → c + n < 2 ^ 32
    → tell_fetched (appended_at room c my fetch n) next (fetching_at c fetch) ≡ Ok (taken_at room c n next)
fetched-fetching room c my fetch n next full small =
    rw (same_taking (appended_at room c my fetch n).transfer) (rw (lt-ltb (c + n) (2 ^ 32) small) (rw (le-ltb n room full) refl))

pub finished-fetching : (room c my fetch n next : ℕ) → n < room → c + n < 2 ^ 32
    → tell_finished (appended_at room c my fetch n) (fetching_at c fetch) ≡ Ok (taken_at room c n next)
finished-fetching room c my fetch n next short small =
    rw (same_taking (appended_at room c my fetch n).transfer) (rw (lt-ltb (c + n) (2 ^ 32) small) (rw (lt-ltb n room short) refl))
