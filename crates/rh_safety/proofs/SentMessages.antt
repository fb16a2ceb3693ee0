-- The messages that tasks send as they deal with another one, and desks after them as they are seen.
use Rattle.rh_safety.proofs.Common.{◌≡◌, ℕ, ◌+◌, Bool, false, List, [], length, Some, None, ap, ◌∙◌, if◌then◌else◌, Asked}
use Rattle.rh_safety.proofs.Common.{Letter, Message, Recorded, RamFetch, DataLoad, Sending, Taking, User, in_id, is_going, one_more, put}
use Rattle.rh_safety.proofs.Common.{with_id}
use Rattle.rh_defs.specs.declared.transfer.Incoming.TheVariants as incoming
use Rattle.rh_defs.specs.declared.transfer.Outgoing.TheVariants as outgoing
use Rattle.rh_safety.specs.RawIds.{Gave}
use Rattle.rh_safety.proofs.Ends.{DataLoadAck, DataSaveAck}
use Rattle.rh_safety.proofs.Masks.{masked, mask_sent, masked_scrap}
use Rattle.rh_safety.proofs.Sight.{Desk, Scrap, asked, begun, ended, fetched, filed, told, with_in, with_out}

-- a fetch of task h for its transfer, in answer to a message
abbrev pub fetching : Desk → ℕ → Taking → ℕ → Message
fetching d h f answers = record {
  code = Recorded;
  to = f.sender;
  letter = record { from = h; me = d.next_ref; answers = answers; kind = RamFetch; address = f.buffer; amount = d.buf h };
}

abbrev pub asking : Desk → ℕ → Taking → Message
asking d h f = record {
  code = Recorded;
  to = f.sender;
  letter = record { from = h; me = d.next_ref; answers = f.id; kind = DataSaveAck; address = 0; amount = 0 };
}

abbrev pub loading : Desk → ℕ → Letter → Sending → ℕ → Message
loading d h l x n = record {
  code = Recorded;
  to = x.recipient;
  letter = record { from = h; me = d.next_ref; answers = l.me; kind = DataLoad; address = 0; amount = n };
}

abbrev pub loaded : Desk → ℕ → Letter → Asked → ℕ → Message
loaded d h l q n = record {
  code = User;
  to = q.sender;
  letter = record { from = h; me = d.next_ref; answers = l.me; kind = DataLoadAck; address = 0; amount = n };
}

-- the record of a first fetch, and of the one after n bytes
abbrev pub first_record : Desk → Letter → ℕ → ℕ → Bool → Taking
first_record d l anchor address raw =
    record { id = l.me; sender = l.from; anchor = anchor; buffer = address; count = 0; fetch = d.next_ref; raw = raw }

abbrev pub next_record : Desk → Taking → ℕ → Taking
next_record d f n = record {
  id = f.id;
  sender = f.sender;
  anchor = f.anchor;
  buffer = f.buffer;
  count = f.count + n;
  fetch = d.next_ref;
  raw = f.raw;
}

-- the record of a file that was saved
abbrev pub filed_record : Desk → Sending → Sending
filed_record d x = record { id = x.id; recipient = x.recipient; anchor = x.anchor; count = x.count; last = d.next_ref }

-- ---- the desks before the messages

abbrev pub before_begun : Desk → ℕ → ℕ → ℕ → List ℕ → Letter → Bool → Desk
before_begun d h anchor address bytes l raw = record d {
  heap = put d.heap h (put (d.heap h) address (Some bytes));
  block = put d.block h (put (d.block h) anchor (Some []));
  taking = put d.taking h (one_more d.most is_going (d.taking h) (incoming.Fetching (first_record d l anchor address raw)));
}

abbrev pub before_fetched : Desk → ℕ → Taking → ℕ → Desk
before_fetched d h f n = record d { taking = put d.taking h (with_id in_id f.id (incoming.Fetching (next_record d f n)) (d.taking h)) }

abbrev pub before_asked : Desk → ℕ → Taking → Desk
before_asked d h f = ended d h f (incoming.Asking (record { id = f.id; sender = f.sender; anchor = f.anchor; ack = d.next_ref }))

-- ---- as they are seen

module _ (R : Gave) (d : Desk) (fresh : R d.next_ref ≡ false) (h : ℕ) where
  pub begun_masked : (anchor address : ℕ) (bytes : List ℕ) (l : Letter) (raw : Bool) →
      masked R (begun d h anchor address bytes l raw) ≡ begun (masked R d) h anchor address bytes l raw
  begun_masked anchor address bytes l raw =
      mask_sent R (before_begun d h anchor address bytes l raw) h (fetching d h (first_record d l anchor address raw) l.me) fresh

  pub fetched_masked : (f : Taking) (n answers : ℕ) → masked R (fetched d h f n answers) ≡ fetched (masked R d) h f n answers
  fetched_masked f n answers = mask_sent R (before_fetched d h f n) h (fetching d h f answers) fresh

  pub asked_masked : (f : Taking) → masked R (asked d h f) ≡ asked (masked R d) h f
  asked_masked f = mask_sent R (before_asked d h f) h (asking d h f) fresh

  pub told_masked : (l : Letter) (q : Asked) (n : ℕ) → masked R (told d h l q n) ≡ told (masked R d) h l q n
  told_masked l q n = mask_sent R (with_in d h q (incoming.Done q.id q.anchor n)) h (loaded d h l q n) fresh

  pub filed_masked : (l : Letter) (x : Sending) (bytes : List ℕ) → masked R (filed d h l x bytes) ≡ filed (masked R d) h l x bytes
  filed_masked l x bytes =
      let file : Scrap = record { load = d.next_ref; bytes = bytes } in
      ap (λ (z : Desk). record z { scrap = masked_scrap R (Some file) })
      (mask_sent R (with_out d h x (outgoing.Open (filed_record d x))) h (loading d h l x (length bytes)) fresh) ∙
      ap (λ b. record (filed (masked R d) h l x bytes) { scrap = if b then None else Some file }) fresh
