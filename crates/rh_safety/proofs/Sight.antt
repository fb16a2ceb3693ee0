-- What a transfer rests on, as it is seen of the desk, and the small edits that commands make to it.
use Rattle.std.specs.Prelude.{ℕ, ◌+◌, Bool, true, false, ◌||◌, ◌==◌, if◌then◌else◌, List, [], ◌∷◌, ◌++◌, length, take, Option, Some, None}
use Rattle.rh_defs.specs.declared.transfer_action.Transmit.{Transmit}
use Rattle.rh_defs.specs.Sender as sender
use Rattle.rh_safety.proofs.Ends.{Code, Plain, Recorded, Returned, DataSave, RamFetch, DataSaveAck}
use Rattle.rh_safety.proofs.Ends.{DataLoad, DataLoadAck, Asked, Letter, Message, Sending, Taking, Out, Open, first, without_first, source_at, document_at}
use Rattle.rh_safety.proofs.Ends.{Out_failed, In, Fetching, Asking, In_done, In_failed, out_id, in_id, is_open, is_going, put, any, one_more, with_id}

-- the scrap file: the ref of its DataLoad, and its bytes
pub record Scrap : Type 0 where
  pub load : ℕ
  pub bytes : List ℕ

-- what a transfer rests on: tasks by handle, their blocks and records, the post and the scrap file
pub record Desk : Type 0 where
  pub most : ℕ  -- a task has at most so many outgoing, and so many incoming records
  pub live : ℕ → Bool
  pub buf : ℕ → ℕ
  pub deaf : ℕ → Bool
  pub file : ℕ → Bool  -- a task that answers no fetch
  pub raw : ℕ → Bool  -- a task with code of its own
  pub block : ℕ → ℕ → Option (List ℕ)  -- the flex block of a task at an anchor
  pub heap : ℕ → ℕ → Option (List ℕ)  -- the block of a task's C heap at an address
  pub sending : ℕ → List Out
  pub taking : ℕ → List In
  pub last : ℕ → Option Message  -- the message that a task sent last
  pub queue : List Message
  pub held : ℕ → Option Message
  pub scrap : Option Scrap
  pub next_handle : ℕ
  pub next_ref : ℕ

-- the first desk: a task has at most so many records each way, and handles and refs count up from these
abbrev pub start : ℕ → ℕ → ℕ → Desk
start most handle first =
    record {
      most = most;
      live = λ h. false;
      buf = λ h. 1;
      deaf = λ h. false;
      file = λ h. false;
      raw = λ h. false;
      block = λ h a. None;
      heap = λ h a. None;
      sending = λ h. [];
      taking = λ h. [];
      last = λ h. None;
      queue = [];
      held = λ h. None;
      scrap = None;
      next_handle = handle;
      next_ref = first;
    }

-- Busy

-- whether a block is the source of an open transfer, or a document that grows
abbrev pub is_busy : Desk → ℕ → ℕ → Bool
is_busy d h a = any (source_at a) (d.sending h) || any (document_at a) (d.taking h)

-- The post

-- the message held, unless this answers it
abbrev pub still_held : Option Message → ℕ → Option Message
still_held None answers = None
still_held (Some m) answers = if m.letter.me == answers then None else Some m

-- the desk after a task sent a message
abbrev pub sent : Desk → ℕ → Message → Desk
sent d h m =
    record d {
      queue = d.queue ++ m ∷ [];
      last = put d.last h (Some m);
      held = put d.held h (still_held (d.held h) m.letter.answers);
      next_ref = d.next_ref + 1;
    }

-- what a bounce puts at the end of the post
abbrev pub back : (ℕ → Bool) → Message → List Message
back live m = if live m.letter.from then record { code = Returned; to = m.letter.from; letter = m.letter } ∷ [] else []

-- the desk after the message that a task holds has gone back
abbrev pub returned : Desk → ℕ → Option Message → Desk
returned d h None = d
returned d h (Some m) = record d { queue = d.queue ++ back d.live m; held = put d.held h None }

-- the desk after a message was taken; a recorded one is held
abbrev pub picked : Desk → ℕ → Message → Code → Desk
picked d h m Plain = record d { queue = without_first h d.queue }
picked d h m Recorded = record d { queue = without_first h d.queue; held = put d.held h (Some m) }
picked d h m Returned = record d { queue = without_first h d.queue }

-- The receiver

-- the desk with a first fetch: a buffer of these bytes at the address, an empty document at the anchor, and a record,
-- with the flag of its sender
abbrev pub begun : Desk → ℕ → ℕ → ℕ → List ℕ → Letter → Bool → Desk
begun d h anchor address bytes l raw =
    sent (record d {
      heap = put d.heap h (put (d.heap h) address (Some bytes));
      block = put d.block h (put (d.block h) anchor (Some []));
      taking = put d.taking h (one_more d.most is_going (d.taking h) (Fetching (record {
        id = l.me;
        sender = l.from;
        anchor = anchor;
        buffer = address;
        count = 0;
        fetch = d.next_ref;
        raw = raw;
      })));
    }) h (record {
      code = Recorded;
      to = l.from;
      letter = record {
        from = h;
        me = d.next_ref;
        answers = l.me;
        kind = RamFetch;
        address = address;
        amount = d.buf h;
      };
    })

-- the record ends, and its buffer is released
abbrev pub ended : Desk → ℕ → Taking → In → Desk
ended d h t v = record d {
  heap = put d.heap h (put (d.heap h) t.buffer None);
  taking = put d.taking h (with_id in_id
      t.id v (d.taking h));
}

-- the bytes of a block, none where there is no block
abbrev pub bytes_of : Option (List ℕ) → List ℕ
bytes_of None = []
bytes_of (Some bytes) = bytes

-- the document with the buffer's first n bytes at its end
abbrev pub longer : Desk → ℕ → Taking → ℕ → Desk
longer d h t n = record d {
  block = put d.block h (put (d.block h) t.anchor (Some (bytes_of (d.block h t.anchor) ++
      take n (bytes_of (d.heap h t.buffer)))));
}

-- the desk with the next fetch, after n bytes
abbrev pub fetched : Desk → ℕ → Taking → ℕ → ℕ → Desk
fetched d h t n answers =
    sent (record d {
      taking = put d.taking h (with_id in_id t.id (Fetching (record {
        id = t.id;
        sender = t.sender;
        anchor = t.anchor;
        buffer = t.buffer;
        count = t.count + n;
        fetch = d.next_ref;
        raw = t.raw;
      })) (d.taking h));
    })
    h (record {
      code = Recorded;
      to = t.sender;
      letter = record {
        from = h;
        me = d.next_ref;
        answers = answers;
        kind = RamFetch;
        address = t.buffer;
        amount = d.buf h;
      };
    })

-- the desk with a transfer failed, its buffer released
abbrev pub given_up : Desk → ℕ → Taking → Desk
given_up d h t = ended d h t (In_failed t.id t.anchor t.count)

-- the sender is asked for a file; the buffer goes
abbrev pub asked : Desk → ℕ → Taking → Desk
asked d h t =
    sent (ended d h t (Asking (record { id = t.id; sender = t.sender; anchor = t.anchor; ack = d.next_ref })))
    h (record {
      code = Recorded;
      to = t.sender;
      letter = record {
        from = h;
        me = d.next_ref;
        answers = t.id;
        kind = DataSaveAck;
        address = 0;
        amount = 0;
      };
    })

-- the desk with a record that waited for a file written anew
abbrev pub with_in : Desk → ℕ → Asked → In → Desk
with_in d h q v = record d { taking = put d.taking h (with_id in_id q.id v (d.taking h)) }

-- the file is the document
abbrev pub copied : Desk → ℕ → Asked → List ℕ → Desk
copied d h q bytes = record d {
  block = put d.block h (put (d.block h) q.anchor (Some (bytes_of (d.block h q.anchor)
      ++ bytes)));
  scrap = None;
}

-- the document has all n bytes of the file, and the sender is told
abbrev pub told : Desk → ℕ → Letter → Asked → ℕ → Desk
told d h l q n =
    sent (with_in d h q (In_done q.id q.anchor n)) h (record {
      code = Plain;
      to = q.sender;
      letter = record {
        from = h;
        me = d.next_ref;
        answers = l.me;
        kind = DataLoadAck;
        address = 0;
        amount = n;
      };
    })

-- The sender

-- the desk with an outgoing record written anew
abbrev pub with_out : Desk → ℕ → Sending → Out → Desk
with_out d h x v = record d { sending = put d.sending h (with_id out_id x.id v (d.sending h)) }

-- the desk with an outgoing transfer failed
abbrev pub failed : Desk → ℕ → Sending → Desk
failed d h x = with_out d h x (Out_failed x.id x.count)

-- what answers a fetch
abbrev pub answer_of : Letter → Sending → Transmit
answer_of l x = record { transfer = x; to = l.from; answers = l.me; buffer = l.address; room = l.amount }

-- the fetch is the record's
abbrev pub would_answer : Letter → Sending → Bool
would_answer l x = sender.would_answer l.from l.answers l.amount x

-- the source's bytes become the scrap file
abbrev pub filed : Desk → ℕ → Letter → Sending → List ℕ → Desk
filed d h l x bytes =
    record (sent (with_out d h x (Open (record {
      id = x.id;
      recipient = x.recipient;
      anchor = x.anchor;
      count = x.count;
      last = d.next_ref;
    }))) h (record {
      code = Recorded;
      to = x.recipient;
      letter = record {
        from = h;
        me = d.next_ref;
        answers = l.me;
        kind = DataLoad;
        address = 0;
        amount = length bytes;
      };
    })) {
      scrap = Some (record { load = d.next_ref; bytes = bytes });
    }

-- Polls

-- the scrap file is given up
abbrev pub lost : Desk → Desk
lost d = record d { scrap = None }

-- the scrap file given up, or not
abbrev pub lost_if : Bool → Desk → Desk
lost_if true d = lost d
lost_if false d = d

-- Deaths

-- the messages that are not for a handle
abbrev pub for_others : ℕ → List Message → List Message
for_others h [] = []
for_others h (m ∷ ms) = if m.to == h then for_others h ms else m ∷ for_others h ms

-- what goes back of a message whose recipient ends
abbrev pub back_if_recorded : (ℕ → Bool) → Message → Code → List Message
back_if_recorded live m Plain = []
back_if_recorded live m Recorded = back live m
back_if_recorded live m Returned = []

-- what goes back of the messages for a handle that ends
abbrev pub bounced_for : (ℕ → Bool) → ℕ → List Message → List Message
bounced_for live h [] = []
bounced_for live h (m ∷ ms) = if m.to == h then back_if_recorded live m m.code ++ bounced_for live h ms else
    bounced_for live h ms

-- what goes back of the message that it holds
abbrev pub back_held : (ℕ → Bool) → Option Message → List Message
back_held live None = []
back_held live (Some m) = back live m

-- the desk without a task
abbrev pub killed : Desk → ℕ → Desk
killed d h =
    let others = put d.live h false in
    record d {
      live = others;
      buf = put d.buf h 1;
      deaf = put d.deaf h false;
      file = put d.file h false;
      raw = put d.raw h false;
      block = put d.block h (λ a. None);
      heap = put d.heap h (λ a. None);
      sending = put d.sending h [];
      taking = put d.taking h [];
      last = put d.last h None;
      queue = for_others h d.queue ++ (back_held others (d.held h) ++ bounced_for others h d.queue);
      held = put d.held h None;
    }

-- Commands

-- the desk after a save
abbrev pub saved : Desk → ℕ → ℕ → ℕ → Desk
saved d h a to =
    sent (record d {
      sending = put d.sending h (one_more d.most is_open (d.sending h)
          (Open (record { id = d.next_ref; recipient = to; anchor = a; count = 0; last = d.next_ref })));
    })
    h (record {
      code = Recorded;
      to = to;
      letter = record {
        from = h;
        me = d.next_ref;
        answers = 0;
        kind = DataSave;
        address = 0;
        amount = length (bytes_of (d.block h a));
      };
    })

-- the message with another ref
abbrev pub again : Message → ℕ → Message
again m me =
    record {
      code = m.code;
      to = m.to;
      letter = record {
        from = m.letter.from;
        me = me;
        answers = m.letter.answers;
        kind = m.letter.kind;
        address = m.letter.address;
        amount = m.letter.amount;
      };
    }

-- the message with the task as its sender
abbrev pub owned : ℕ → Message → Message
owned h m = record {
  code = m.code;
  to = m.to;
  letter = record {
    from = h;
    me = m.letter.me;
    answers = m.letter.answers;
    kind = m.letter.kind;
    address = m.letter.address;
    amount = m.letter.amount;
  };
}

-- the desk with another flex block, or without it
abbrev pub with_block : Desk → ℕ → ℕ → Option (List ℕ) → Desk
with_block d h a v = record d { block = put d.block h (put (d.block h) a v) }

-- the desk with another block in a C heap, or without it
abbrev pub with_heap : Desk → ℕ → ℕ → Option (List ℕ) → Desk
with_heap d h a v = record d { heap = put d.heap h (put (d.heap h) a v) }

-- the desk with a new task
abbrev pub started : Desk → ℕ → Bool → Bool → Bool → Desk
started d buf deaf file raw =
    record d {
      live = put d.live d.next_handle true;
      buf = put d.buf d.next_handle buf;
      deaf = put d.deaf d.next_handle deaf;
      file = put d.file d.next_handle file;
      raw = put d.raw d.next_handle raw;
      block = put d.block d.next_handle (λ a. None);
      heap = put d.heap d.next_handle (λ a. None);
      sending = put d.sending d.next_handle [];
      taking = put d.taking d.next_handle [];
      last = put d.last d.next_handle None;
      next_handle = d.next_handle + 1;
    }
