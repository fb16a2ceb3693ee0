-- Calls that may be refused.
use Rattle.std.proofs.Common.{◌≡◌, ℕ, true, false, refl, List}
use Rattle.std.specs.Prelude.{Option, Some, None, Ok, Err, find}
use Rattle.rh_defs.specs.declared.refusal.Refusal.TheVariants.{NotOpen, Busy}
use Rattle.rh_defs.specs.declared.transfer.Sending.{Sending}
use Rattle.rh_defs.specs.declared.transfer.Outgoing.{Outgoing}
use Rattle.rh_defs.specs.declared.transfer.Incoming.{Incoming}
use Rattle.rh_defs.specs.Chain.{◌>>=◌, refuse_if, found_or}
use Rattle.rh_defs.specs.Records.{in_id, is_open, is_full, with_id, open_of, is_meant}
use Rattle.rh_defs.specs.Sender.{offer, sending_offered, sending_failed, cancel_sending as cancel_out}
use Rattle.rh_defs.specs.Receiver.{is_wanted, cancelled, cancel_taking as cancel_in}

pub offer-refused : (id recipient k : ℕ) (records : List Outgoing) → is_full is_open records ≡ true → offer id recipient k records ≡ Err Busy
unfolding offer ◌>>=◌ refuse_if
offer-refused id recipient k records full = rw full refl

pub offer-granted : (id recipient k : ℕ) (records : List Outgoing) → is_full is_open records ≡ false
    → offer id recipient k records ≡ Ok (sending_offered id recipient k records)
unfolding offer ◌>>=◌ refuse_if
offer-granted id recipient k records few = rw few refl

pub cancel_out-refused : (wanted : Option ℕ) (records : List Outgoing) → open_of (λ x. is_meant wanted x.id) records ≡ None
    → cancel_out wanted records ≡ Err NotOpen
unfolding cancel_out ◌>>=◌ found_or
cancel_out-refused wanted records none = rw none refl

pub cancel_out-granted : (wanted : Option ℕ) (records : List Outgoing) (x : Sending) → open_of (λ x. is_meant wanted x.id) records ≡ Some x
    → cancel_out wanted records ≡ Ok (sending_failed x records)
unfolding cancel_out ◌>>=◌ found_or
cancel_out-granted wanted records x found = rw found refl

pub cancel_in-refused : (wanted : Option ℕ) (records : List Incoming) → find (is_wanted wanted) records ≡ None → cancel_in wanted records ≡ Err NotOpen
unfolding cancel_in ◌>>=◌ found_or
cancel_in-refused wanted records none = rw none refl

pub cancel_in-granted : (wanted : Option ℕ) (records : List Incoming) (r : Incoming) → find (is_wanted wanted) records ≡ Some r
    → cancel_in wanted records ≡ Ok (with_id in_id (in_id r) (cancelled r) records)
unfolding cancel_in ◌>>=◌ found_or
cancel_in-granted wanted records r found = rw found refl
