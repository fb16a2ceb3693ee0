-- Worked scripts of transfers, by computation: what each line answers.
use Rattle.rh_defs.proofs.Common.{◌≡◌, refl, true, [], ◌∷◌, ◌++◌, replicate, hex_on_literals, start_with}
use Rattle.rh_defs.specs.Runs.{start}
use Rattle.rh_defs.specs.Inner.Computing.{computing_script}
use Rattle.rh_defs.proofs.Rows.{Any, Is, Begins, Has, meets}

-- an empty block is transferred
pub empty_file : meets (start 64 []) (
    ("task a 100", Is "ok 1\n")
    ∷ ("task b 100", Is "ok 2\n")
    ∷ ("alloc a 0 0", Is "ok &9008\n")
    ∷ ("save a 0 b empty", Is "ok 1\n")
    ∷ ("poll b", Is "ok 18 DataSave 1 0 fetch 2\n")
    ∷ ("poll a", Is "ok 18 RAMFetch 2 1 sent 0 3\n")
    ∷ ("poll b", Is "ok 17 RAMTransmit 3 2 took 0 done\n")
    ∷ ("status a", Is "ok 1\n  out done 1 0\n  in idle\n")
    ∷ ("status b", Is "ok 2\n  out idle\n  in done 1 0\n")
    ∷ ("blocks b", Is "ok 1\n  0 &9008 0\n")
    ∷ ("show b 0", Is "ok 0\n") ∷ []
    ) ≡ true
unfolding computing_script hex_on_literals
empty_file = refl

-- a file that is a multiple of the buffer ends with a transmit of 0 bytes
pub multiple_of_buffer : meets (start 64 []) (
    ("task a 100", Is "ok 1\n")
    ∷ ("task b 100", Is "ok 2\n")
    ∷ ("alloc a 0 200", Any)
    ∷ ("save a 0 b doc", Is "ok 1\n")
    ∷ ("poll b", Is "ok 18 DataSave 1 0 fetch 2\n")
    ∷ ("poll a", Is "ok 18 RAMFetch 2 1 sent 100 3\n")
    ∷ ("poll b", Is "ok 18 RAMTransmit 3 2 took 100 fetch 4\n")
    ∷ ("poll a", Is "ok 18 RAMFetch 4 3 sent 100 5\n")
    ∷ ("poll b", Is "ok 18 RAMTransmit 5 4 took 100 fetch 6\n")
    ∷ ("poll a", Is "ok 18 RAMFetch 6 5 sent 0 7\n")
    ∷ ("status a", Has "out done 1 200")
    ∷ ("status b", Has "in fetching 1 200")
    ∷ ("poll b", Is "ok 17 RAMTransmit 7 6 took 0 done\n") ∷ []
    ) ≡ true
unfolding computing_script hex_on_literals
multiple_of_buffer = refl

-- a short transmit ends a transfer
pub short_last_buffer : meets (start 64 []) (
    ("task a 100", Is "ok 1\n")
    ∷ ("task b 100", Is "ok 2\n")
    ∷ ("alloc a 0 250", Any)
    ∷ ("save a 0 b doc", Is "ok 1\n")
    ∷ ("poll b", Is "ok 18 DataSave 1 0 fetch 2\n")
    ∷ ("poll a", Is "ok 18 RAMFetch 2 1 sent 100 3\n")
    ∷ ("poll b", Is "ok 18 RAMTransmit 3 2 took 100 fetch 4\n")
    ∷ ("poll a", Is "ok 18 RAMFetch 4 3 sent 100 5\n")
    ∷ ("poll b", Is "ok 18 RAMTransmit 5 4 took 100 fetch 6\n")
    ∷ ("poll a", Is "ok 18 RAMFetch 6 5 sent 50 7\n")
    ∷ ("poll b", Is "ok 17 RAMTransmit 7 6 took 50 done\n") ∷ []
    ) ≡ true
unfolding computing_script hex_on_literals
short_last_buffer = refl

-- the source slides between fetch and transmit
pub source_slides : meets (start 64 []) (
    ("task a 100", Is "ok 1\n")
    ∷ ("task b 4000", Is "ok 2\n")
    ∷ ("alloc b 5 5", Is "ok &9008\n")
    ∷ ("alloc a 0 8", Is "ok &9008\n")
    ∷ ("alloc a 1 3", Is "ok &9018\n")
    ∷ ("put a 1 0 010203", Any)
    ∷ ("save a 1 b doc", Is "ok 1\n")
    ∷ ("poll b", Is "ok 18 DataSave 1 0 fetch 2\n")
    ∷ ("blocks b", Is "ok 2\n  5 &A008 5\n  0 &A018 0\n")
    ∷ ("free a 0", Is "ok\n")
    ∷ ("poll a", Is "ok 18 RAMFetch 2 1 sent 3 3\n")
    ∷ ("poll b", Is "ok 17 RAMTransmit 3 2 took 3 done\n")
    ∷ ("show b 0", Is "ok 3 010203\n") ∷ []
    ) ≡ true
unfolding computing_script hex_on_literals
source_slides = refl

-- a task sends to itself
pub self_transfer : meets (start 64 []) (
    ("task a 100", Any)
    ∷ ("alloc a 0 5", Any)
    ∷ ("put a 0 0 68656c6c6f", Any)
    ∷ ("save a 0 a doc", Is "ok 1\n")
    ∷ ("poll a", Is "ok 18 DataSave 1 0 fetch 2\n")
    ∷ ("poll a", Is "ok 18 RAMFetch 2 1 sent 5 3\n")
    ∷ ("poll a", Is "ok 17 RAMTransmit 3 2 took 5 done\n")
    ∷ ("blocks a", Is "ok 2\n  0 &9008 5\n  1 &9018 5\n")
    ∷ ("show a 1", Is "ok 5 68656c6c6f\n") ∷ []
    ) ≡ true
unfolding computing_script hex_on_literals
self_transfer = refl

-- a deaf task takes no DataSave
pub deaf : meets (start 64 []) (
    ("task a 100", Any)
    ∷ ("task b 100 deaf", Is "ok 2\n")
    ∷ ("alloc a 0 5", Any)
    ∷ ("save a 0 b doc", Is "ok 1\n")
    ∷ ("poll b", Is "ok 18 DataSave 1 0 ignored\n")
    ∷ ("poll b", Is "ok 0\n")
    ∷ ("status a", Has "out open 1 0")
    ∷ ("poll a", Is "ok 19 DataSave 1 0 failed\n")
    ∷ ("status a", Has "out failed 1 0") ∷ []
    ) ≡ true
unfolding computing_script hex_on_literals
deaf = refl

-- messages and blocks share the module area
pub module_area_shrinks : meets (start 8 []) (
    ("task a 100", Any)
    ∷ ("area 3 1", Is "ok 4096\n")
    ∷ ("alloc a 0 5", Any)
    ∷ ("rma claim 4076", Is "ok &1800014\n")
    ∷ ("save a 0 a doc", Is "ok 1\n")
    ∷ ("area 1 -4096", Is "refused ExcessiveShrink\n")
    ∷ ("rma free &1801004", Is "refused NotYours\n")
    ∷ ("rma free &1800014", Is "ok\n")
    ∷ ("areas", Is "ok 3\n  area 0 0\n  area 1 2\n  area 2 0\n  area 3 1\n  area 4 0\n  area 5 0\n  slot a 2\n")
    ∷ ("poll a", Is "ok 18 DataSave 1 0 fetch 2\n")
    ∷ ("area 1 -4096", Is "ok 4096\n") ∷ []
    ) ≡ true
unfolding computing_script hex_on_literals
module_area_shrinks = refl

-- no room for a transmit, nor for the request of a file
pub busy_pool_with_scrap : meets (start 8 []) (
    ("task a 100", Is "ok 1\n")
    ∷ ("task b 100", Is "ok 2\n")
    ∷ ("alloc a 0 5", Any)
    ∷ ("save a 0 b doc", Is "ok 1\n")
    ∷ ("poll b", Is "ok 18 DataSave 1 0 fetch 2\n")
    ∷ ("rma claim 60", Is "ok &1800014\n")
    ∷ ("rma claim 3972", Is "ok &180007C\n")
    ∷ ("area 3 12288", Is "ok 12288\n")
    ∷ ("poll a", Is "ok 18 RAMFetch 2 1 failed NoRoom\n")
    ∷ ("status a", Has "out failed 1 0")
    ∷ ("poll a", Is "ok 0\n")
    ∷ ("poll b", Is "ok 19 RAMFetch 2 1 failed NoRoom\n") ∷ []
    ) ≡ true
unfolding computing_script hex_on_literals
busy_pool_with_scrap = refl

-- what is busy, and until when
pub busy_with_scrap : meets (start 64 []) (
    ("task a 100", Is "ok 1\n")
    ∷ ("task b 100", Is "ok 2\n")
    ∷ ("alloc a 0 5", Any)
    ∷ ("save a 0 b doc", Is "ok 1\n")
    ∷ ("put a 0 0 00", Is "refused Busy\n")
    ∷ ("free a 0", Is "refused Busy\n")
    ∷ ("save a 0 b x", Is "refused Busy\n")
    ∷ ("cancel a out", Is "ok\n")
    ∷ ("cancel a out", Is "refused NotOpen\n")
    ∷ ("put a 0 0 00", Is "ok\n")
    ∷ ("poll b", Is "ok 18 DataSave 1 0 fetch 2\n")
    ∷ ("extend b 0 9", Is "refused Busy\n")
    ∷ ("poll a", Is "ok 18 RAMFetch 2 1 ignored\n")
    ∷ ("poll a", Is "ok 0\n")
    ∷ ("poll b", Is "ok 19 RAMFetch 2 1 asked 3\n") ∷ []
    ) ≡ true
unfolding computing_script hex_on_literals
busy_with_scrap = refl

-- a DataSave that is not granted all three changes nothing
pub ungranted_document : meets (start 8 []) (
    ("task a 100", Any)
    ∷ ("task b 4000", Any)
    ∷ ("alloc a 0 5", Any)
    ∷ ("area 3 12288", Is "ok 12288\n")
    ∷ ("save a 0 b doc", Is "ok 1\n")
    ∷ ("poll b", Is "ok 18 DataSave 1 0 ignored\n")
    ∷ ("heap b", Is "ok 3840 3820 3824\n")
    ∷ ("blocks b", Is "ok 0\n")
    ∷ ("areas", Begins "ok 1")
    ∷ ("poll b", Is "ok 0\n")
    ∷ ("poll a", Is "ok 19 DataSave 1 0 failed\n") ∷ []
    ) ≡ true
unfolding computing_script hex_on_literals
ungranted_document = refl

-- no room for the bytes of a transmit
pub document_cannot_grow : meets (start 8 []) (
    ("task a 100", Is "ok 1\n")
    ∷ ("task b 100", Is "ok 2\n")
    ∷ ("alloc a 0 300", Any)
    ∷ ("alloc b 0 3884", Is "ok &9008\n")
    ∷ ("area 3 12288", Is "ok 12288\n")
    ∷ ("save a 0 b doc", Is "ok 1\n")
    ∷ ("poll b", Is "ok 18 DataSave 1 0 fetch 2\n")
    ∷ ("poll a", Is "ok 18 RAMFetch 2 1 sent 100 3\n")
    ∷ ("poll b", Is "ok 18 RAMTransmit 3 2 took 100 fetch 4\n")
    ∷ ("poll a", Is "ok 18 RAMFetch 4 3 sent 100 5\n")
    ∷ ("poll b", Is "ok 18 RAMTransmit 5 4 failed NoRoom\n")
    ∷ ("status b", Has "in failed 1 100")
    ∷ ("poll b", Is "ok 0\n")
    ∷ ("poll a", Is "ok 19 RAMTransmit 5 4 failed\n")
    ∷ ("status a", Has "out failed 1 200") ∷ []
    ) ≡ true
unfolding computing_script hex_on_literals
document_cannot_grow = refl

-- a fetch sent twice is answered once
pub repeated_fetch : meets (start 64 []) (
    ("task a 100", Is "ok 1\n")
    ∷ ("task b 100", Is "ok 2\n")
    ∷ ("alloc a 0 150", Any)
    ∷ ("save a 0 b doc", Is "ok 1\n")
    ∷ ("poll b", Is "ok 18 DataSave 1 0 fetch 2\n")
    ∷ ("repeat b", Is "ok 3\n")
    ∷ ("poll a", Is "ok 18 RAMFetch 2 1 sent 100 4\n")
    ∷ ("poll a", Is "ok 18 RAMFetch 3 1 ignored\n")
    ∷ ("poll a", Is "ok 0\n")
    ∷ ("poll b", Is "ok 18 RAMTransmit 4 2 took 100 fetch 5\n")
    ∷ ("poll b", Is "ok 19 RAMFetch 3 1 ignored\n")
    ∷ ("poll a", Is "ok 18 RAMFetch 5 4 sent 50 6\n")
    ∷ ("poll b", Is "ok 17 RAMTransmit 6 5 took 50 done\n")
    ∷ ("status b", Has "in done 1 150") ∷ []
    ) ≡ true
unfolding computing_script hex_on_literals
repeated_fetch = refl

-- a transmit sent twice is taken once
pub repeated_transmit : meets (start 64 []) (
    ("task a 100", Is "ok 1\n")
    ∷ ("task b 100", Is "ok 2\n")
    ∷ ("alloc a 0 150", Any)
    ∷ ("save a 0 b doc", Is "ok 1\n")
    ∷ ("poll b", Is "ok 18 DataSave 1 0 fetch 2\n")
    ∷ ("poll a", Is "ok 18 RAMFetch 2 1 sent 100 3\n")
    ∷ ("repeat a", Is "ok 4\n")
    ∷ ("poll b", Is "ok 18 RAMTransmit 3 2 took 100 fetch 5\n")
    ∷ ("poll b", Is "ok 18 RAMTransmit 4 2 ignored\n")
    ∷ ("poll a", Is "ok 18 RAMFetch 5 3 sent 50 6\n")
    ∷ ("poll b", Is "ok 17 RAMTransmit 6 5 took 50 done\n")
    ∷ ("poll a", Is "ok 19 RAMTransmit 4 2 ignored\n")
    ∷ ("status a", Has "out done 1 150") ∷ []
    ) ≡ true
unfolding computing_script hex_on_literals
repeated_transmit = refl

-- a transfer that was given up keeps its buffer until that comes back
pub cancel_drains : meets (start 64 []) (
    ("task a 100", Is "ok 1\n")
    ∷ ("task b 100", Is "ok 2\n")
    ∷ ("alloc a 0 5", Any)
    ∷ ("alloc b 3 4", Any)
    ∷ ("put b 3 0 0a0b0c0d", Any)
    ∷ ("save a 0 b doc", Is "ok 1\n")
    ∷ ("poll b", Is "ok 18 DataSave 1 0 fetch 2\n")
    ∷ ("cancel b in", Is "ok\n")
    ∷ ("release b &8114", Is "refused Busy\n")
    ∷ ("poll a", Is "ok 18 RAMFetch 2 1 sent 5 3\n")
    ∷ ("poll b", Is "ok 17 RAMTransmit 3 2 drained\n")
    ∷ ("release b &8114", Is "refused NotABlock\n")
    ∷ ("show b 3", Is "ok 4 0a0b0c0d\n")
    ∷ ("status b", Is "ok 2\n  out idle\n  in failed 1 0\n") ∷ []
    ) ≡ true
unfolding computing_script hex_on_literals
cancel_drains = refl

-- it is given up once
pub cancel_while_draining : meets (start 64 []) (
    ("task a 100", Is "ok 1\n")
    ∷ ("task b 100", Is "ok 2\n")
    ∷ ("alloc a 0 5", Any)
    ∷ ("save a 0 b doc", Is "ok 1\n")
    ∷ ("poll b", Is "ok 18 DataSave 1 0 fetch 2\n")
    ∷ ("cancel b in", Is "ok\n")
    ∷ ("cancel b in", Is "refused NotOpen\n")
    ∷ ("status b", Has "in draining 1 0") ∷ []
    ) ≡ true
unfolding computing_script hex_on_literals
cancel_while_draining = refl

-- two transfers at a time
pub two_transfers : meets (start 64 []) (
    ("task a 100", Is "ok 1\n")
    ∷ ("task b 100", Is "ok 2\n")
    ∷ ("alloc a 0 5", Any)
    ∷ ("alloc a 1 3", Any)
    ∷ ("put a 0 0 0102030405", Any)
    ∷ ("save a 0 b x", Is "ok 1\n")
    ∷ ("save a 1 b y", Is "ok 2\n")
    ∷ ("save a 0 b z", Is "refused Busy\n")
    ∷ ("poll b", Is "ok 18 DataSave 1 0 fetch 3\n")
    ∷ ("poll b", Is "ok 18 DataSave 2 0 fetch 4\n")
    ∷ ("blocks b", Is "ok 2\n  0 &9008 0\n  1 &9010 0\n")
    ∷ ("cancel b in 2", Is "ok\n")
    ∷ ("poll a", Is "ok 18 RAMFetch 3 1 sent 5 5\n")
    ∷ ("poll a", Is "ok 18 RAMFetch 4 2 sent 3 6\n")
    ∷ ("poll b", Is "ok 17 RAMTransmit 5 3 took 5 done\n")
    ∷ ("poll b", Is "ok 17 RAMTransmit 6 4 drained\n")
    ∷ ("status a", Is "ok 1\n  out done 1 5\n  out done 2 3\n  in idle\n")
    ∷ ("status b", Is "ok 2\n  out idle\n  in done 1 5\n  in failed 2 0\n")
    ∷ ("show b 0", Is "ok 5 0102030405\n")
    ∷ ("cancel b in 2", Is "refused NotOpen\n") ∷ []
    ) ≡ true
unfolding computing_script hex_on_literals
two_transfers = refl

-- eight transfers are open, and not one more
pub eight_open : meets (start 64 []) (
    ("task a 100", Is "ok 1\n")
    ∷ ("task b 100", Is "ok 2\n")
    ∷ ("alloc a 0 1", Any)
    ∷ ("alloc a 1 1", Any)
    ∷ ("alloc a 2 1", Any)
    ∷ ("alloc a 3 1", Any)
    ∷ ("alloc a 4 1", Any)
    ∷ ("alloc a 5 1", Any)
    ∷ ("alloc a 6 1", Any)
    ∷ ("alloc a 7 1", Any)
    ∷ ("alloc a 8 1", Any)
    ∷ ("save a 0 b x", Is "ok 1\n")
    ∷ ("save a 1 b x", Is "ok 2\n")
    ∷ ("save a 2 b x", Is "ok 3\n")
    ∷ ("save a 3 b x", Is "ok 4\n")
    ∷ ("save a 4 b x", Is "ok 5\n")
    ∷ ("save a 5 b x", Is "ok 6\n")
    ∷ ("save a 6 b x", Is "ok 7\n")
    ∷ ("save a 7 b x", Is "ok 8\n")
    ∷ ("save a 8 b x", Is "refused Busy\n")
    ∷ ("cancel a out", Is "ok\n")
    ∷ ("save a 8 b x", Is "ok 9\n")
    ∷ ("status a", Has "out open 2 0")
    ∷ ("status a", Has "out open 9 0") ∷ []
    ) ≡ true
unfolding computing_script hex_on_literals
eight_open = refl

-- a file in place of bytes
pub scrap_file : meets (start 64 []) (
    ("task a 100 file", Is "ok 1\n")
    ∷ ("task b 100", Is "ok 2\n")
    ∷ ("alloc a 0 5", Any)
    ∷ ("put a 0 0 68656c6c6f", Any)
    ∷ ("save a 0 b doc", Is "ok 1\n")
    ∷ ("poll b", Is "ok 18 DataSave 1 0 fetch 2\n")
    ∷ ("poll a", Is "ok 18 RAMFetch 2 1 ignored\n")
    ∷ ("poll a", Is "ok 0\n")
    ∷ ("poll b", Is "ok 19 RAMFetch 2 1 asked 3\n")
    ∷ ("status b", Is "ok 2\n  out idle\n  in asking 1 0\n")
    ∷ ("poll a", Is "ok 18 DataSaveAck 3 1 saved 5 4\n")
    ∷ ("areas", Begins "ok 58")
    ∷ ("area 5 -4096", Is "refused ExcessiveShrink\n")
    ∷ ("poll b", Is "ok 18 DataLoad 4 3 loaded 5 done\n")
    ∷ ("area 5 -4096", Is "ok 4096\n")
    ∷ ("poll a", Is "ok 17 DataLoadAck 5 4 done\n")
    ∷ ("status a", Is "ok 1\n  out done 1 5\n  in idle\n")
    ∷ ("show b 0", Is "ok 5 68656c6c6f\n")
    ∷ ("heap b", Is "ok 3840 3820 3824\n") ∷ []
    ) ≡ true
unfolding computing_script hex_on_literals
scrap_file = refl

-- one scrap file at a time, also where its sender dies
pub scrap_file_taken : meets (start 64 []) (
    ("task a 100 file", Any)
    ∷ ("task b 100", Any)
    ∷ ("task c 100 file", Any)
    ∷ ("alloc a 0 1", Any)
    ∷ ("alloc c 0 1", Any)
    ∷ ("save a 0 b x", Is "ok 1\n")
    ∷ ("save c 0 b y", Is "ok 2\n")
    ∷ ("poll b", Is "ok 18 DataSave 1 0 fetch 3\n")
    ∷ ("poll b", Is "ok 18 DataSave 2 0 fetch 4\n")
    ∷ ("poll a", Is "ok 18 RAMFetch 3 1 ignored\n")
    ∷ ("poll a", Is "ok 0\n")
    ∷ ("poll c", Is "ok 18 RAMFetch 4 2 ignored\n")
    ∷ ("poll c", Is "ok 0\n")
    ∷ ("poll b", Is "ok 19 RAMFetch 3 1 asked 5\n")
    ∷ ("poll b", Is "ok 19 RAMFetch 4 2 asked 6\n")
    ∷ ("poll a", Is "ok 18 DataSaveAck 5 1 saved 1 7\n")
    ∷ ("poll c", Is "ok 18 DataSaveAck 6 2 failed Busy\n")
    ∷ ("poll c", Is "ok 0\n")
    ∷ ("kill a", Is "ok\n")
    ∷ ("poll b", Is "ok 18 DataLoad 7 5 loaded 1 failed NoTask\n")
    ∷ ("poll b", Is "ok 19 DataSaveAck 6 2 failed\n")
    ∷ ("status b", Is "ok 2\n  out idle\n  in failed 1 1\n  in failed 2 0\n")
    ∷ ("area 5 -4096", Is "ok 4096\n") ∷ []
    ) ≡ true
unfolding computing_script hex_on_literals
scrap_file_taken = refl

-- the end of a recipient
pub death_of_a_recipient : meets (start 8 []) (
    ("task a 100", Is "ok 1\n")
    ∷ ("task b 100", Is "ok 2\n")
    ∷ ("alloc a 0 5", Any)
    ∷ ("save a 0 b doc", Is "ok 1\n")
    ∷ ("kill b", Is "ok\n")
    ∷ ("areas", Begins "ok 5")
    ∷ ("areas", Has "slot a 2")
    ∷ ("poll a", Is "ok 19 DataSave 1 0 failed\n")
    ∷ ("kill b", Is "refused NoName\n")
    ∷ ("put a 0 0 00", Is "ok\n") ∷ []
    ) ≡ true
unfolding computing_script hex_on_literals
death_of_a_recipient = refl

-- the end of a task that sent to itself
pub death_of_oneself : meets (start 64 []) (
    ("task a 100", Any)
    ∷ ("alloc a 0 5", Any)
    ∷ ("save a 0 a doc", Is "ok 1\n")
    ∷ ("poll a", Is "ok 18 DataSave 1 0 fetch 2\n")
    ∷ ("kill a", Is "ok\n")
    ∷ ("task a 100", Is "ok 2\n")
    ∷ ("poll a", Is "ok 0\n")
    ∷ ("rma claim 60", Is "ok &1800014\n") ∷ []
    ) ≡ true
unfolding computing_script hex_on_literals
death_of_oneself = refl

-- the end of a sender
pub deaths : meets (start 64 []) (
    ("task a 100", Is "ok 1\n")
    ∷ ("task b 100", Is "ok 2\n")
    ∷ ("alloc a 0 150", Any)
    ∷ ("save a 0 b doc", Any)
    ∷ ("poll b", Is "ok 18 DataSave 1 0 fetch 2\n")
    ∷ ("poll a", Is "ok 18 RAMFetch 2 1 sent 100 3\n")
    ∷ ("poll b", Is "ok 18 RAMTransmit 3 2 took 100 fetch 4\n")
    ∷ ("kill a", Is "ok\n")
    ∷ ("poll b", Is "ok 19 RAMFetch 4 3 failed\n")
    ∷ ("status b", Has "in failed 1 100")
    ∷ ("task a 100", Is "ok 3\n") ∷ []
    ) ≡ true
unfolding computing_script hex_on_literals
deaths = refl

-- the end of a receiver, and another task under its name
pub deaths_of_the_receiver : meets (start 64 []) (
    ("task a 100", Is "ok 1\n")
    ∷ ("task b 100", Is "ok 2\n")
    ∷ ("alloc a 0 150", Any)
    ∷ ("save a 0 b doc", Any)
    ∷ ("poll b", Any)
    ∷ ("kill b", Any)
    ∷ ("task b 100", Is "ok 3\n")
    ∷ ("poll a", Is "ok 18 RAMFetch 2 1 failed NoTask\n")
    ∷ ("status a", Has "out failed 1 0")
    ∷ ("poll a", Is "ok 0\n")
    ∷ ("poll b", Is "ok 0\n") ∷ []
    ) ≡ true
unfolding computing_script hex_on_literals
deaths_of_the_receiver = refl

-- the last ref is given once
pub used_up_refs : meets (start_with 64 [] 4294967295 4294967295) (
    ("task a 100", Is "ok 4294967295\n")
    ∷ ("task b 100", Is "refused NoHandles\n")
    ∷ ("alloc a 0 5", Any)
    ∷ ("save a 0 a doc", Is "ok 4294967295\n")
    ∷ ("repeat a", Is "refused NoRefs\n") ∷ []
    ) ≡ true
unfolding computing_script hex_on_literals
used_up_refs = refl

-- at most 256 messages are live, held ones counted
pub used_up : meets (start 64 []) (
    ("task a 100", Is "ok 1\n")
    ∷ ("task b 100", Is "ok 2\n")
    ∷ ("alloc a 0 5", Any)
    ∷ ("save a 0 b doc", Is "ok 1\n")
    ∷ replicate 254 ("repeat a", Any)
    ++ ("repeat a", Is "ok 256\n")
    ∷ ("repeat a", Is "refused QueueFull\n")
    ∷ ("poll b", Is "ok 18 DataSave 1 0 ignored\n") ∷ []
    ) ≡ true
unfolding computing_script hex_on_literals
used_up = refl
