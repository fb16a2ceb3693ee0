-- Worked scripts of tasks with code of their own, by computation: messages, and bytes moved.
use Rattle.rh_defs.proofs.Common.{◌≡◌, refl, true, [], ◌∷◌, ◌++◌, replicate, hex_on_literals, start_with}
use Rattle.rh_defs.specs.Runs.{start}
use Rattle.rh_defs.specs.Inner.Computing.{computing_script}
use Rattle.rh_defs.proofs.Rows.{Any, Is, Begins, Has, meets}

-- a raw task takes a DataSave and answers nothing: it comes back
pub taken : meets (start 64 []) (
    ("task a 100", Is "ok 1\n")
    ∷ ("task r 100 raw", Is "ok 2\n")
    ∷ ("alloc a 0 5", Is "ok &9008\n")
    ∷ ("save a 0 r doc", Is "ok 1\n")
    ∷ ("status r", Is "ok 2\n  out idle\n  in idle\n")
    ∷ ("poll r", Is "ok 18 DataSave 1 0 taken\n  from 1 0000000000000000000000000000000005000000fd0f0000646f6300\n")
    ∷ ("poll r", Is "ok 0\n")
    ∷ ("poll a", Is "ok 19 DataSave 1 0 failed\n")
    ∷ ("poll a", Is "ok 0\n")
    ∷ ("status a", Is "ok 1\n  out failed 1 0\n  in idle\n") ∷ []
    ) ≡ true
unfolding computing_script hex_on_literals
taken = refl

-- a raw receiver fetches twice from a desk-played sender
pub receives : meets (start 64 []) (
    ("task a 100", Is "ok 1\n")
    ∷ ("task r 1 raw", Is "ok 2\n")
    ∷ ("alloc a 0 5", Is "ok &9008\n")
    ∷ ("put a 0 0 68656c6c6f", Is "ok\n")
    ∷ ("save a 0 r doc", Is "ok 1\n")
    ∷ ("poll r", Is "ok 18 DataSave 1 0 taken\n  from 1 0000000000000000000000000000000005000000fd0f0000646f6300\n")
    ∷ ("claim r 8", Is "ok &8114\n")
    ∷ ("send r 18 1 1 6 1481000004000000", Is "ok 2\n")
    ∷ ("poll a", Is "ok 18 RAMFetch 2 1 sent 4 3\n")
    ∷ ("poll r", Is "ok 18 RAMTransmit 3 2 taken\n  from 1 1481000004000000\n")
    ∷ ("read r &8114 4", Is "ok 4 68656c6c\n")
    ∷ ("send r 18 1 3 6 1481000004000000", Is "ok 4\n")
    ∷ ("poll a", Is "ok 18 RAMFetch 4 3 sent 1 5\n")
    ∷ ("poll r", Is "ok 17 RAMTransmit 5 4 taken\n  from 1 1481000001000000\n")
    ∷ ("read r &8114 4", Is "ok 4 6f656c6c\n")
    ∷ ("status a", Is "ok 1\n  out done 1 5\n  in idle\n")
    ∷ ("put a 0 0 00", Is "ok\n") ∷ []
    ) ≡ true
unfolding computing_script hex_on_literals
receives = refl

-- a raw sender (file type &FAF) to a desk-played receiver
pub sends : meets (start 64 []) (
    ("task b 4", Is "ok 1\n")
    ∷ ("task r 1 raw", Is "ok 2\n")
    ∷ ("alloc r 0 6", Is "ok &9008\n")
    ∷ ("write r &9008 010203040506", Is "ok\n")
    ∷ ("send r 18 1 0 1 0000000000000000000000000000000006000000af0f000068746d6c00000000", Is "ok 1\n")
    ∷ ("poll b", Is "ok 18 DataSave 1 0 fetch 2\n")
    ∷ ("poll r", Is "ok 18 RAMFetch 2 1 taken\n  from 1 1481000004000000\n")
    ∷ ("transfer r &9008 1 &8114 4", Is "ok\n")
    ∷ ("send r 18 1 2 7 1481000004000000", Is "ok 3\n")
    ∷ ("poll b", Is "ok 18 RAMTransmit 3 2 took 4 fetch 4\n")
    ∷ ("poll r", Is "ok 18 RAMFetch 4 3 taken\n  from 1 1481000004000000\n")
    ∷ ("transfer r &900C 1 &8114 2", Is "ok\n")
    ∷ ("send r 17 1 4 7 1481000002000000", Is "ok 5\n")
    ∷ ("poll b", Is "ok 17 RAMTransmit 5 4 took 2 done\n")
    ∷ ("status b", Is "ok 1\n  out idle\n  in done 1 6\n")
    ∷ ("show b 0", Is "ok 6 010203040506\n")
    ∷ ("heap b", Is "ok 3840 3820 3824\n")
    ∷ ("poll r", Is "ok 0\n") ∷ []
    ) ≡ true
unfolding computing_script hex_on_literals
sends = refl

-- between raw tasks a transfer needs a held RAMFetch that names the range
pub raw_to_raw : meets (start 64 []) (
    ("task r 1 raw", Is "ok 1\n")
    ∷ ("task q 1 raw", Is "ok 2\n")
    ∷ ("claim r 12", Is "ok &8114\n")
    ∷ ("claim q 20", Is "ok &8114\n")
    ∷ ("claim q 4", Is "ok &812C\n")
    ∷ ("write r &8114 0102030405060708090a0b0c", Is "ok\n")
    ∷ ("transfer r &8114 2 &8114 4", Is "refused BadRange\n")
    ∷ ("send q 18 1 0 6 1881000008000000", Is "ok 1\n")
    ∷ ("poll r", Is "ok 18 RAMFetch 1 0 taken\n  from 2 1881000008000000\n")
    ∷ ("transfer r &8114 2 &8114 4", Is "refused BadRange\n")
    ∷ ("transfer r &8114 2 &8118 9", Is "refused BadRange\n")
    ∷ ("transfer r &8114 2 &8118 8", Is "ok\n")
    ∷ ("transfer r &8118 2 &811C 0", Is "ok\n")
    ∷ ("read q &8114 20", Is "ok 20 0000000001020304050607080000000000000000\n")
    ∷ ("send r 17 2 1 7 1881000008000000", Is "ok 2\n")
    ∷ ("transfer r &8114 2 &8118 4", Is "refused BadRange\n")
    ∷ ("poll q", Is "ok 17 RAMTransmit 2 1 taken\n  from 1 1881000008000000\n") ∷ []
    ) ≡ true
unfolding computing_script hex_on_literals
raw_to_raw = refl

-- a third task forges a transmit, a fetch, a DataLoadAck and a transfer
pub third : meets (start 64 []) (
    ("task a 4", Is "ok 1\n")
    ∷ ("task b 4", Is "ok 2\n")
    ∷ ("task r 1 raw", Is "ok 3\n")
    ∷ ("alloc a 0 6", Is "ok &9008\n")
    ∷ ("put a 0 0 010203040506", Is "ok\n")
    ∷ ("save a 0 b doc", Is "ok 1\n")
    ∷ ("poll b", Is "ok 18 DataSave 1 0 fetch 2\n")
    ∷ ("send r 17 2 2 7 1481000000000000", Is "ok 3\n")
    ∷ ("send r 18 1 1 6 0080000004000000", Is "ok 4\n")
    ∷ ("send r 17 1 1 4 0000000000000000000000000000000006000000fd0f00003c57696d702453637261703e00000000", Is "ok 5\n")
    ∷ ("poll b", Is "ok 17 RAMTransmit 3 2 ignored\n")
    ∷ ("poll a", Is "ok 18 RAMFetch 2 1 sent 4 6\n")
    ∷ ("poll a", Is "ok 18 RAMFetch 4 1 ignored\n")
    ∷ ("poll a", Is "ok 17 DataLoadAck 5 1 ignored\n")
    ∷ ("transfer r &8114 2 &8114 0", Is "refused BadRange\n")
    ∷ ("claim r 12", Is "ok &8114\n")
    ∷ ("transfer r &8114 2 &8114 4", Is "refused BadRange\n")
    ∷ ("poll b", Is "ok 18 RAMTransmit 6 2 took 4 fetch 7\n")
    ∷ ("poll a", Is "ok 18 RAMFetch 7 6 sent 2 8\n")
    ∷ ("poll b", Is "ok 17 RAMTransmit 8 7 took 2 done\n")
    ∷ ("show b 0", Is "ok 6 010203040506\n")
    ∷ ("status a", Is "ok 1\n  out done 1 6\n  in idle\n")
    ∷ ("poll r", Is "ok 19 RAMFetch 4 1 taken\n  from 3 0080000004000000\n") ∷ []
    ) ≡ true
unfolding computing_script hex_on_literals
third = refl

-- a fetch that was answered before it was taken opens nothing
pub stale : meets (start 64 []) (
    ("task a 4", Is "ok 1\n")
    ∷ ("task b 4", Is "ok 2\n")
    ∷ ("task r 1 raw", Is "ok 3\n")
    ∷ ("claim r 4", Is "ok &8114\n")
    ∷ ("write r &8114 ffffffff", Is "ok\n")
    ∷ ("alloc a 0 4", Is "ok &9008\n")
    ∷ ("put a 0 0 01020304", Is "ok\n")
    ∷ ("send r 18 2 0 1 0000000000000000000000000000000005000000fd0f0000646f6300", Is "ok 1\n")
    ∷ ("poll b", Is "ok 18 DataSave 1 0 fetch 2\n")
    ∷ ("send r 17 2 2 7 1481000000000000", Is "ok 3\n")
    ∷ ("poll b", Is "ok 17 RAMTransmit 3 2 took 0 done\n")
    ∷ ("save a 0 b doc", Is "ok 4\n")
    ∷ ("poll b", Is "ok 18 DataSave 4 0 fetch 5\n")
    ∷ ("poll r", Is "ok 18 RAMFetch 2 1 taken\n  from 2 1481000004000000\n")
    ∷ ("poll a", Is "ok 18 RAMFetch 5 4 sent 4 6\n")
    ∷ ("transfer r &8114 2 &8114 4", Is "refused BadRange\n")
    ∷ ("poll b", Is "ok 18 RAMTransmit 6 5 took 4 fetch 7\n")
    ∷ ("poll a", Is "ok 18 RAMFetch 7 6 sent 0 8\n")
    ∷ ("poll b", Is "ok 17 RAMTransmit 8 7 took 0 done\n")
    ∷ ("show b 1", Is "ok 4 01020304\n") ∷ []
    ) ≡ true
unfolding computing_script hex_on_literals
stale = refl

-- a cancelled record of a raw sender ends at once, and its buffer is closed
pub cancelled : meets (start 64 []) (
    ("task b 4", Is "ok 1\n")
    ∷ ("task r 1 raw", Is "ok 2\n")
    ∷ ("claim r 4", Is "ok &8114\n")
    ∷ ("send r 18 1 0 1 0000000000000000000000000000000005000000fd0f0000646f6300", Is "ok 1\n")
    ∷ ("poll b", Is "ok 18 DataSave 1 0 fetch 2\n")
    ∷ ("poll r", Is "ok 18 RAMFetch 2 1 taken\n  from 1 1481000004000000\n")
    ∷ ("transfer r &8114 1 &8114 4", Is "ok\n")
    ∷ ("cancel b in", Is "ok\n")
    ∷ ("status b", Is "ok 1\n  out idle\n  in failed 1 0\n")
    ∷ ("heap b", Is "ok 3840 3820 3824\n")
    ∷ ("transfer r &8114 1 &8114 4", Is "refused BadRange\n")
    ∷ ("send r 18 1 2 7 1481000004000000", Is "ok 3\n")
    ∷ ("poll b", Is "ok 18 RAMTransmit 3 2 ignored\n")
    ∷ ("poll b", Is "ok 0\n")
    ∷ ("poll r", Is "ok 19 RAMTransmit 3 2 taken\n  from 2 1481000004000000\n")
    ∷ ("cancel b in", Is "refused NotOpen\n") ∷ []
    ) ≡ true
unfolding computing_script hex_on_literals
cancelled = refl

-- a fetch is looked up in its sender's own slot: too long is BadRange, and no third task is written to
pub named : meets (start 64 []) (
    ("task a 4", Is "ok 1\n")
    ∷ ("task c 4", Is "ok 2\n")
    ∷ ("task r 1 raw", Is "ok 3\n")
    ∷ ("alloc a 0 3", Is "ok &9008\n")
    ∷ ("put a 0 0 010203", Is "ok\n")
    ∷ ("alloc a 1 3", Is "ok &9014\n")
    ∷ ("claim c 12", Is "ok &8114\n")
    ∷ ("claim r 4", Is "ok &8114\n")
    ∷ ("save a 0 r x", Is "ok 1\n")
    ∷ ("save a 1 r y", Is "ok 2\n")
    ∷ ("send r 17 1 1 6 1481000008000000", Is "ok 3\n")
    ∷ ("poll a", Is "ok 17 RAMFetch 3 1 failed BadRange\n")
    ∷ ("send r 17 1 2 6 1481000002000000", Is "ok 4\n")
    ∷ ("poll a", Is "ok 17 RAMFetch 4 2 sent 2 5\n")
    ∷ ("read r &8114 4", Is "ok 4 00000000\n")
    ∷ ("read c &8114 12", Is "ok 12 000000000000000000000000\n")
    ∷ ("status a", Is "ok 1\n  out failed 1 0\n  out open 2 2\n  in idle\n") ∷ []
    ) ≡ true
unfolding computing_script hex_on_literals
named = refl

-- actions that the desk doesn't know; data is whole words
pub unknown : meets (start 64 []) (
    ("task a 4", Is "ok 1\n")
    ∷ ("task r 1 raw", Is "ok 2\n")
    ∷ ("send r 18 1 0 15 00000000ffffffff6400000000000000010000000000000000", Is "bad Word 7\n")
    ∷ ("send r 17 1 0 0", Is "ok 1\n")
    ∷ ("send r 18 1 0 4294967295 0102030405060708", Is "ok 2\n")
    ∷ ("poll a", Is "ok 17 0 1 0 ignored\n")
    ∷ ("poll a", Is "ok 18 4294967295 2 0 ignored\n")
    ∷ ("poll a", Is "ok 0\n")
    ∷ ("poll r", Is "ok 19 4294967295 2 0 taken\n  from 2 0102030405060708\n")
    ∷ ("poll r", Is "ok 0\n")
    ∷ ("poll r", Is "ok 0\n") ∷ []
    ) ≡ true
unfolding computing_script hex_on_literals
unknown = refl

-- a DataSave without a 0 byte isn't read as one; bytes after the leafname stay
pub malformed : meets (start 64 []) (
    ("task a 4", Is "ok 1\n")
    ∷ ("task r 1 raw", Is "ok 2\n")
    ∷ ("send r 18 1 0 1 00000000000000000000000000000000050000000000000061626364", Is "ok 1\n")
    ∷ ("send r 18 1 0 1 000000000000000000000000000000000500000000000000616263000d0d0d0d", Is "ok 2\n")
    ∷ ("send r 17 1 1 6 14810000", Is "ok 3\n")
    ∷ ("poll a", Is "ok 18 1 1 0 ignored\n")
    ∷ ("poll a", Is "ok 18 DataSave 2 0 fetch 4\n")
    ∷ ("poll a", Is "ok 17 6 3 1 ignored\n")
    ∷ ("poll r", Is "ok 19 1 1 0 taken\n  from 2 00000000000000000000000000000000050000000000000061626364\n")
    ∷ ("poll r", Is "ok 18 RAMFetch 4 2 taken\n  from 1 1481000004000000\n") ∷ []
    ) ≡ true
unfolding computing_script hex_on_literals
malformed = refl

-- refusals and bad lines of the new commands
pub refusals : meets (start 64 []) (
    ("task a 4", Is "ok 1\n")
    ∷ ("task r 1 raw", Is "ok 2\n")
    ∷ ("claim a 12", Is "ok &8114\n")
    ∷ ("alloc a 0 4", Is "ok &9008\n")
    ∷ ("send z 17 1 0 0", Is "refused NoName\n")
    ∷ ("send a 17 9 0 0", Is "refused NoTask\n")
    ∷ ("send a 17 1 9 0", Is "refused WrongManner\n")
    ∷ ("send r 17 1 1 0", Is "refused BadRef\n")
    ∷ ("send r 17 9 1 0", Is "refused NoTask\n")
    ∷ ("send r 19 1 0 0", Is "bad Word 3\n")
    ∷ ("send r 17 0 0 0", Is "bad Word 4\n")
    ∷ ("send r 17 1 0 0 00", Is "bad Word 7\n")
    ∷ ("write a &8114 00", Is "refused WrongManner\n")
    ∷ ("write a &8115 000000000000000000000000", Is "refused BadRange\n")
    ∷ ("write r &8114 00", Is "refused BadRange\n")
    ∷ ("transfer a &8114 1 &8114 1", Is "refused BadRange\n")
    ∷ ("transfer r &8114 9 &8114 1", Is "refused BadRange\n")
    ∷ ("transfer a &8114 9 &8114 1", Is "refused NoTask\n")
    ∷ ("ack a", Is "refused WrongManner\n")
    ∷ ("ack r", Is "ok 0\n")
    ∷ ("save r 0 a x", Is "refused NoBlock\n")
    ∷ ("alloc r 0 4", Is "ok &9008\n")
    ∷ ("save r 0 a x", Is "refused WrongManner\n")
    ∷ ("save r 0 q x", Is "refused NoTask\n")
    ∷ ("cancel r in", Is "refused NotOpen\n")
    ∷ ("repeat r", Is "refused NothingSent\n")
    ∷ ("scrap r 1", Is "refused NoFile\n")
    ∷ ("spool a 0 1 0", Is "refused WrongManner\n")
    ∷ ("spool r 1 1 0", Is "refused NoBlock\n")
    ∷ ("spool r 0 1 1", Is "refused BadRef\n")
    ∷ ("read a &8114 12", Is "ok 12 000000000000000000000000\n")
    ∷ ("read a &8114 13", Is "refused BadRange\n")
    ∷ ("read a &8120 0", Is "ok 0\n") ∷ []
    ) ≡ true
unfolding computing_script hex_on_literals
refusals = refl
