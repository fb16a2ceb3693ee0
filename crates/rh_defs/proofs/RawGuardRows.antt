-- Worked scripts in which a task with code of its own forges all it can, by computation.
use Rattle.rh_defs.proofs.Common.{◌≡◌, refl, true, [], ◌∷◌, ◌++◌, replicate, hex_on_literals, start_with}
use Rattle.rh_defs.specs.Runs.{start}
use Rattle.rh_defs.specs.Inner.Computing.{computing_script}
use Rattle.rh_defs.proofs.Rows.{Any, Is, Begins, Has, meets}

-- a fetch that a third task answers goes on
pub answered_fetch : meets (start 64 []) (
    ("task a 2", Is "ok 1\n")
    ∷ ("task b 2", Is "ok 2\n")
    ∷ ("task r 1 raw", Is "ok 3\n")
    ∷ ("alloc a 0 3", Is "ok &9008\n")
    ∷ ("put a 0 0 010203", Is "ok\n")
    ∷ ("claim r 12", Is "ok &8114\n")
    ∷ ("write r &8114 ffffffff", Is "ok\n")
    ∷ ("save a 0 b x", Is "ok 1\n")
    ∷ ("poll b", Is "ok 18 DataSave 1 0 fetch 2\n")
    ∷ ("send r 17 2 2 7 1481000000000000", Is "ok 3\n")
    ∷ ("poll b", Is "ok 17 RAMTransmit 3 2 ignored\n")
    ∷ ("poll a", Is "ok 18 RAMFetch 2 1 sent 2 4\n") ∷ []
    ) ≡ true
unfolding computing_script hex_on_literals
answered_fetch = refl

-- a transmit is from the task that sent it
pub sender_is_written : meets (start 64 []) (
    ("task a 2", Is "ok 1\n")
    ∷ ("task b 2", Is "ok 2\n")
    ∷ ("task r 1 raw", Is "ok 3\n")
    ∷ ("alloc a 0 3", Is "ok &9008\n")
    ∷ ("put a 0 0 010203", Is "ok\n")
    ∷ ("claim r 12", Is "ok &8114\n")
    ∷ ("write r &8114 ffffffff", Is "ok\n")
    ∷ ("save a 0 b x", Is "ok 1\n")
    ∷ ("poll b", Is "ok 18 DataSave 1 0 fetch 2\n")
    ∷ ("send r 17 2 2 7 1481000000000000", Is "ok 3\n")
    ∷ ("poll b", Is "ok 17 RAMTransmit 3 2 ignored\n")
    ∷ ("show b 0", Is "ok 0\n") ∷ []
    ) ≡ true
unfolding computing_script hex_on_literals
sender_is_written = refl

-- no third task moves bytes into a buffer
pub moves_into_buffers : meets (start 64 []) (
    ("task a 2", Is "ok 1\n")
    ∷ ("task b 2", Is "ok 2\n")
    ∷ ("task r 1 raw", Is "ok 3\n")
    ∷ ("alloc a 0 3", Is "ok &9008\n")
    ∷ ("put a 0 0 010203", Is "ok\n")
    ∷ ("claim r 12", Is "ok &8114\n")
    ∷ ("write r &8114 ffffffff", Is "ok\n")
    ∷ ("save a 0 b x", Is "ok 1\n")
    ∷ ("poll b", Is "ok 18 DataSave 1 0 fetch 2\n")
    ∷ ("poll a", Is "ok 18 RAMFetch 2 1 sent 2 3\n")
    ∷ ("transfer r &8114 2 &8114 2", Is "refused BadRange\n")
    ∷ ("poll b", Is "ok 18 RAMTransmit 3 2 took 2 fetch 4\n")
    ∷ ("show b 0", Is "ok 2 0102\n") ∷ []
    ) ≡ true
unfolding computing_script hex_on_literals
moves_into_buffers = refl

-- a fetch that was answered opens no buffer, though a newer one has the same
pub older_fetch : meets (start 64 []) (
    ("task a 2", Is "ok 1\n")
    ∷ ("task b 2", Is "ok 2\n")
    ∷ ("task r 1 raw", Is "ok 3\n")
    ∷ ("alloc a 0 3", Is "ok &9008\n")
    ∷ ("put a 0 0 010203", Is "ok\n")
    ∷ ("claim r 12", Is "ok &8114\n")
    ∷ ("write r &8114 ffffffff", Is "ok\n")
    ∷ ("send r 18 2 0 1 0000000000000000000000000000000005000000fd0f0000646f6300", Is "ok 1\n")
    ∷ ("poll b", Is "ok 18 DataSave 1 0 fetch 2\n")
    ∷ ("send r 17 2 2 7 1481000000000000", Is "ok 3\n")
    ∷ ("poll b", Is "ok 17 RAMTransmit 3 2 took 0 done\n")
    ∷ ("save a 0 b x", Is "ok 4\n")
    ∷ ("poll b", Is "ok 18 DataSave 4 0 fetch 5\n")
    ∷ ("poll r", Is "ok 18 RAMFetch 2 1 taken\n  from 2 1481000002000000\n")
    ∷ ("poll a", Is "ok 18 RAMFetch 5 4 sent 2 6\n")
    ∷ ("transfer r &8114 2 &8114 2", Is "refused BadRange\n")
    ∷ ("poll b", Is "ok 18 RAMTransmit 6 5 took 2 fetch 7\n")
    ∷ ("show b 1", Is "ok 2 0102\n") ∷ []
    ) ≡ true
unfolding computing_script hex_on_literals
older_fetch = refl

-- a task writes its own slot alone
pub writes_its_own : meets (start 64 []) (
    ("task a 2", Is "ok 1\n")
    ∷ ("task b 2", Is "ok 2\n")
    ∷ ("task r 1 raw", Is "ok 3\n")
    ∷ ("alloc a 0 3", Is "ok &9008\n")
    ∷ ("put a 0 0 010203", Is "ok\n")
    ∷ ("claim r 12", Is "ok &8114\n")
    ∷ ("write r &8114 ffffffff", Is "ok\n")
    ∷ ("save a 0 b x", Is "ok 1\n")
    ∷ ("poll b", Is "ok 18 DataSave 1 0 fetch 2\n")
    ∷ ("poll a", Is "ok 18 RAMFetch 2 1 sent 2 3\n")
    ∷ ("write b &8114 ffff", Is "refused WrongManner\n")
    ∷ ("poll b", Is "ok 18 RAMTransmit 3 2 took 2 fetch 4\n")
    ∷ ("show b 0", Is "ok 2 0102\n") ∷ []
    ) ≡ true
unfolding computing_script hex_on_literals
writes_its_own = refl

-- a transfer that is given up ends at once where its sender has code of its own
pub given_up : meets (start 64 []) (
    ("task a 2", Is "ok 1\n")
    ∷ ("task b 2", Is "ok 2\n")
    ∷ ("task r 1 raw", Is "ok 3\n")
    ∷ ("alloc a 0 3", Is "ok &9008\n")
    ∷ ("put a 0 0 010203", Is "ok\n")
    ∷ ("claim r 12", Is "ok &8114\n")
    ∷ ("write r &8114 ffffffff", Is "ok\n")
    ∷ ("send r 18 2 0 1 0000000000000000000000000000000005000000fd0f0000646f6300", Is "ok 1\n")
    ∷ ("poll b", Is "ok 18 DataSave 1 0 fetch 2\n")
    ∷ ("poll r", Is "ok 18 RAMFetch 2 1 taken\n  from 2 1481000002000000\n")
    ∷ ("ack r", Is "ok 2\n")
    ∷ ("cancel b in", Is "ok\n")
    ∷ ("poll b", Is "ok 0\n")
    ∷ ("kill r", Is "ok\n")
    ∷ ("poll b", Is "ok 0\n")
    ∷ ("status b", Is "ok 2\n  out idle\n  in failed 1 0\n")
    ∷ ("cancel b in", Is "refused NotOpen\n")
    ∷ ("release b &8114", Is "refused NotABlock\n")
    ∷ ("heap b", Is "ok 3840 3820 3824\n") ∷ []
    ) ≡ true
unfolding computing_script hex_on_literals
given_up = refl

-- and keeps its buffer where the desk plays the sender
pub drains : meets (start 64 []) (
    ("task a 2", Is "ok 1\n")
    ∷ ("task b 2", Is "ok 2\n")
    ∷ ("task r 1 raw", Is "ok 3\n")
    ∷ ("alloc a 0 3", Is "ok &9008\n")
    ∷ ("put a 0 0 010203", Is "ok\n")
    ∷ ("claim r 12", Is "ok &8114\n")
    ∷ ("write r &8114 ffffffff", Is "ok\n")
    ∷ ("save a 0 b x", Is "ok 1\n")
    ∷ ("poll b", Is "ok 18 DataSave 1 0 fetch 2\n")
    ∷ ("cancel b in", Is "ok\n")
    ∷ ("poll a", Is "ok 18 RAMFetch 2 1 sent 2 3\n") ∷ []
    ) ≡ true
unfolding computing_script hex_on_literals
drains = refl

-- there is one scrap file at a time
pub one_file : meets (start 64 []) (
    ("task a 2 file", Is "ok 1\n")
    ∷ ("task b 2", Is "ok 2\n")
    ∷ ("task r 1 raw", Is "ok 3\n")
    ∷ ("alloc a 0 3", Is "ok &9008\n")
    ∷ ("put a 0 0 010203", Is "ok\n")
    ∷ ("alloc r 0 3", Is "ok &9008\n")
    ∷ ("write r &9008 ffffff", Is "ok\n")
    ∷ ("save a 0 b x", Is "ok 1\n")
    ∷ ("poll b", Is "ok 18 DataSave 1 0 fetch 2\n")
    ∷ ("poll a", Is "ok 18 RAMFetch 2 1 ignored\n")
    ∷ ("poll a", Is "ok 0\n")
    ∷ ("poll b", Is "ok 19 RAMFetch 2 1 asked 3\n")
    ∷ ("poll a", Is "ok 18 DataSaveAck 3 1 saved 3 4\n")
    ∷ ("spool r 0 2 0", Is "refused Busy\n")
    ∷ ("poll b", Is "ok 18 DataLoad 4 3 loaded 3 done\n")
    ∷ ("show b 0", Is "ok 3 010203\n") ∷ []
    ) ≡ true
unfolding computing_script hex_on_literals
one_file = refl

-- a DataLoad of a third task is ignored
pub strange_load : meets (start 64 []) (
    ("task a 2 file", Is "ok 1\n")
    ∷ ("task b 2", Is "ok 2\n")
    ∷ ("task r 1 raw", Is "ok 3\n")
    ∷ ("alloc a 0 3", Is "ok &9008\n")
    ∷ ("put a 0 0 010203", Is "ok\n")
    ∷ ("alloc r 0 3", Is "ok &9008\n")
    ∷ ("write r &9008 ffffff", Is "ok\n")
    ∷ ("save a 0 b x", Is "ok 1\n")
    ∷ ("poll b", Is "ok 18 DataSave 1 0 fetch 2\n")
    ∷ ("poll a", Is "ok 18 RAMFetch 2 1 ignored\n")
    ∷ ("poll a", Is "ok 0\n")
    ∷ ("poll b", Is "ok 19 RAMFetch 2 1 asked 3\n")
    ∷ ("spool r 0 2 3", Is "ok 4\n")
    ∷ ("poll b", Is "ok 18 DataLoad 4 3 ignored\n")
    ∷ ("show b 0", Is "ok 0\n") ∷ []
    ) ≡ true
unfolding computing_script hex_on_literals
strange_load = refl

-- a scrap file goes where its DataLoad is answered by any message
pub answered_load : meets (start 64 []) (
    ("task a 2", Is "ok 1\n")
    ∷ ("task c 2", Is "ok 2\n")
    ∷ ("task r 1 raw", Is "ok 3\n")
    ∷ ("alloc a 0 3", Is "ok &9008\n")
    ∷ ("save a 0 r x", Is "ok 1\n")
    ∷ ("send r 18 1 1 2 00000000000000000000000000000000fffffffffd0f00003c57696d702453637261703e00000000", Is "ok 2\n")
    ∷ ("poll a", Is "ok 18 DataSaveAck 2 1 saved 3 3\n")
    ∷ ("poll r", Begins "ok 18 DataSave 1 0 taken\n  from 1 000000000000000000000000000000000300")
    ∷ ("poll r", Begins "ok 18 DataLoad 3 2 taken\n  from 1 000000000000000000000000000000000300")
    ∷ ("send r 17 3 3 9", Is "ok 4\n")
    ∷ ("poll r", Is "ok 17 9 4 3 taken\n  from 3\n")
    ∷ ("spool r 0 1 0", Is "refused NoBlock\n")
    ∷ ("alloc r 0 1", Is "ok &9008\n")
    ∷ ("spool r 0 1 0", Is "ok 5\n")
    ∷ ("kill r", Is "ok\n")
    ∷ ("kill a", Is "ok\n")
    ∷ ("kill c", Is "ok\n")
    ∷ ("area 5 -4096", Is "ok 4096\n") ∷ []
    ) ≡ true
unfolding computing_script hex_on_literals
answered_load = refl

-- a task with code of its own has no records
pub saves_nothing : meets (start 64 []) (
    ("task a 2", Is "ok 1\n")
    ∷ ("task b 2", Is "ok 2\n")
    ∷ ("task r 1 raw", Is "ok 3\n")
    ∷ ("alloc a 0 3", Is "ok &9008\n")
    ∷ ("put a 0 0 010203", Is "ok\n")
    ∷ ("claim r 12", Is "ok &8114\n")
    ∷ ("write r &8114 ffffffff", Is "ok\n")
    ∷ ("alloc r 0 3", Is "ok &9008\n")
    ∷ ("save r 0 b x", Is "refused WrongManner\n")
    ∷ ("poll b", Is "ok 0\n")
    ∷ ("poll r", Is "ok 0\n")
    ∷ ("poll r", Is "ok 0\n")
    ∷ ("poll b", Is "ok 0\n")
    ∷ ("poll r", Is "ok 0\n")
    ∷ ("poll r", Is "ok 0\n")
    ∷ ("poll b", Is "ok 0\n")
    ∷ ("poll r", Is "ok 0\n")
    ∷ ("status r", Is "ok 3\n  out idle\n  in idle\n")
    ∷ ("free r 0", Is "ok\n") ∷ []
    ) ≡ true
unfolding computing_script hex_on_literals
saves_nothing = refl

-- a message goes to a handle, and no task with an old name gets it
pub by_handle : meets (start 64 []) (
    ("task a 2", Is "ok 1\n")
    ∷ ("task r 1 raw", Is "ok 2\n")
    ∷ ("alloc a 0 1", Is "ok &9008\n")
    ∷ ("save a 0 r x", Is "ok 1\n")
    ∷ ("poll r", Begins "ok 18 DataSave 1 0 taken\n  from 1 000000000000000000000000000000000100")
    ∷ ("kill a", Is "ok\n")
    ∷ ("task a 2", Is "ok 3\n")
    ∷ ("send r 17 1 1 12", Is "refused NoTask\n")
    ∷ ("poll a", Is "ok 0\n") ∷ []
    ) ≡ true
unfolding computing_script hex_on_literals
by_handle = refl

-- a fetch names any range of its sender
pub own_range : meets (start 64 []) (
    ("task a 2", Is "ok 1\n")
    ∷ ("task r 1 raw", Is "ok 2\n")
    ∷ ("alloc a 0 1", Is "ok &9008\n")
    ∷ ("save a 0 r x", Is "ok 1\n")
    ∷ ("send r 18 1 1 6 0080000002000000", Is "ok 2\n")
    ∷ ("poll a", Is "ok 18 RAMFetch 2 1 failed BadRange\n") ∷ []
    ) ≡ true
unfolding computing_script hex_on_literals
own_range = refl

-- a recipient may say that it has loaded all before it fetched a byte
pub told_done : meets (start 64 []) (
    ("task a 2", Is "ok 1\n")
    ∷ ("task r 1 raw", Is "ok 2\n")
    ∷ ("alloc a 0 1", Is "ok &9008\n")
    ∷ ("save a 0 r x", Is "ok 1\n")
    ∷ ("send r 17 1 1 4 00000000000000000000000000000000fffffffffd0f00003c57696d702453637261703e00000000", Is "ok 2\n")
    ∷ ("poll a", Is "ok 17 DataLoadAck 2 1 done\n") ∷ []
    ) ≡ true
unfolding computing_script hex_on_literals
told_done = refl

-- a transmit without bytes moved gives what the buffer has
pub gives_zeros : meets (start 64 []) (
    ("task b 2", Is "ok 1\n")
    ∷ ("task r 1 raw", Is "ok 2\n")
    ∷ ("send r 18 1 0 1 0000000000000000000000000000000005000000fd0f0000646f6300", Is "ok 1\n")
    ∷ ("poll b", Is "ok 18 DataSave 1 0 fetch 2\n")
    ∷ ("send r 17 1 2 7 1481000001000000", Is "ok 3\n")
    ∷ ("poll b", Is "ok 17 RAMTransmit 3 2 took 1 done\n")
    ∷ ("show b 0", Is "ok 1 00\n") ∷ []
    ) ≡ true
unfolding computing_script hex_on_literals
gives_zeros = refl

-- a scrap file of a third task answers nothing
pub asked_for : meets (start 64 []) (
    ("task a 2 file", Is "ok 1\n")
    ∷ ("task b 2", Is "ok 2\n")
    ∷ ("task r 1 raw", Is "ok 3\n")
    ∷ ("alloc a 0 3", Is "ok &9008\n")
    ∷ ("alloc r 0 1", Is "ok &9008\n")
    ∷ ("save a 0 b x", Is "ok 1\n")
    ∷ ("poll b", Is "ok 18 DataSave 1 0 fetch 2\n")
    ∷ ("poll a", Is "ok 18 RAMFetch 2 1 ignored\n")
    ∷ ("poll a", Is "ok 0\n")
    ∷ ("poll b", Is "ok 19 RAMFetch 2 1 asked 3\n")
    ∷ ("spool r 0 2 3", Is "ok 4\n")
    ∷ ("poll b", Is "ok 18 DataLoad 4 3 ignored\n") ∷ []
    ) ≡ true
unfolding computing_script hex_on_literals
asked_for = refl

-- an answer to a DataLoad that the task does not hold leaves the scrap file
pub early_answer : meets (start 64 []) (
    ("task a 2 file", Is "ok 1\n")
    ∷ ("task r 1 raw", Is "ok 2\n")
    ∷ ("alloc a 0 3", Is "ok &9008\n")
    ∷ ("save a 0 r x", Is "ok 1\n")
    ∷ ("send r 18 1 1 2 00000000000000000000000000000000fffffffffd0f00003c57696d702453637261703e00000000", Is "ok 2\n")
    ∷ ("poll a", Is "ok 18 DataSaveAck 2 1 saved 3 3\n")
    ∷ ("send r 17 1 3 9", Is "ok 4\n")
    ∷ ("poll a", Is "ok 17 9 4 3 ignored\n")
    ∷ ("poll r", Is "ok 18 DataSave 1 0 taken\n  from 1 0000000000000000000000000000000003000000fd0f000078000000\n")
    ∷ ("scrap r 0", Is "refused NoFile\n") ∷ []
    ) ≡ true
unfolding computing_script hex_on_literals
early_answer = refl

-- a record of such a sender may wait until it is given up
pub waits_on : meets (start 64 []) (
    ("task b 2", Is "ok 1\n")
    ∷ ("task r 1 raw", Is "ok 2\n")
    ∷ ("send r 18 1 0 1 0000000000000000000000000000000005000000fd0f0000646f6300", Is "ok 1\n")
    ∷ ("poll b", Is "ok 18 DataSave 1 0 fetch 2\n")
    ∷ ("poll r", Is "ok 18 RAMFetch 2 1 taken\n  from 1 1481000002000000\n")
    ∷ ("ack r", Is "ok 2\n")
    ∷ ("poll b", Is "ok 0\n")
    ∷ ("poll r", Is "ok 0\n")
    ∷ ("status b", Is "ok 1\n  out idle\n  in fetching 1 0\n")
    ∷ ("cancel b in", Is "ok\n")
    ∷ ("heap b", Is "ok 3840 3820 3824\n") ∷ []
    ) ≡ true
unfolding computing_script hex_on_literals
waits_on = refl
