-- Worked scripts of tasks with code of their own, by computation: limits, and the scrap file.
use Rattle.rh_defs.proofs.Common.{◌≡◌, refl, true, [], ◌∷◌, ◌++◌, replicate, hex_on_literals, start_with}
use Rattle.rh_defs.specs.Runs.{start}
use Rattle.rh_defs.specs.Inner.Computing.{computing_script}
use Rattle.rh_defs.proofs.Rows.{Any, Is, Begins, Has, meets}

-- a raw task fills the post with messages to itself; its death empties it
pub flood : meets (start 64 []) (
    ("task a 4", Is "ok 1\n")
    ∷ ("task b 4", Is "ok 2\n")
    ∷ ("task r 1 raw", Is "ok 3\n")
    ∷ ("alloc a 0 1", Is "ok &9008\n")
    ∷ ("save a 0 b x", Is "ok 1\n")
    ∷ ("poll b", Is "ok 18 DataSave 1 0 fetch 2\n")
    ∷ ("send r 17 3 0 9", Is "ok 3\n")
    ∷ replicate 254 ("send r 17 3 0 9", Any)
    ++ ("send r 17 3 0 9", Is "refused QueueFull\n")
    ∷ ("poll a", Is "ok 18 RAMFetch 2 1 failed QueueFull\n")
    ∷ ("save a 0 b y", Is "refused QueueFull\n")
    ∷ ("status a", Is "ok 1\n  out failed 1 0\n  in idle\n")
    ∷ ("kill r", Is "ok\n")
    ∷ ("save a 0 b y", Is "ok 258\n") ∷ []
    ) ≡ true
unfolding computing_script hex_on_literals
flood = refl

-- a raw sender by way of the scrap file
pub spools : meets (start 64 []) (
    ("task b 4", Is "ok 1\n")
    ∷ ("task r 1 raw", Is "ok 2\n")
    ∷ ("alloc r 0 6", Is "ok &9008\n")
    ∷ ("write r &9008 010203040506", Is "ok\n")
    ∷ ("send r 18 1 0 1 0000000000000000000000000000000006000000fd0f0000646f6300", Is "ok 1\n")
    ∷ ("poll b", Is "ok 18 DataSave 1 0 fetch 2\n")
    ∷ ("poll r", Is "ok 18 RAMFetch 2 1 taken\n  from 1 1481000004000000\n")
    ∷ ("poll r", Is "ok 0\n")
    ∷ ("poll b", Is "ok 19 RAMFetch 2 1 asked 3\n")
    ∷ ("poll r", Is "ok 18 DataSaveAck 3 1 taken\n  from 1 00000000000000000000000000000000fffffffffd0f00003c57696d702453637261703e00000000\n")
    ∷ ("spool r 0 1 3", Is "ok 4\n")
    ∷ ("spool r 0 1 3", Is "refused Busy\n")
    ∷ ("poll b", Is "ok 18 DataLoad 4 3 loaded 6 done\n")
    ∷ ("area 5 -4096", Is "ok 4096\n")
    ∷ ("poll r", Is "ok 17 DataLoadAck 5 4 taken\n  from 1 0000000000000000000000000000000006000000fd0f00003c57696d702453637261703e00000000\n")
    ∷ ("show b 0", Is "ok 6 010203040506\n")
    ∷ ("status b", Is "ok 1\n  out idle\n  in done 1 6\n") ∷ []
    ) ≡ true
unfolding computing_script hex_on_literals
spools = refl

-- a raw receiver of a task that answers no fetch
pub loads : meets (start 64 []) (
    ("task a 4 file", Is "ok 1\n")
    ∷ ("task r 1 raw", Is "ok 2\n")
    ∷ ("alloc a 0 5", Is "ok &9008\n")
    ∷ ("put a 0 0 68656c6c6f", Is "ok\n")
    ∷ ("save a 0 r doc", Is "ok 1\n")
    ∷ ("scrap r 3", Is "refused NoFile\n")
    ∷ ("poll r", Is "ok 18 DataSave 1 0 taken\n  from 1 0000000000000000000000000000000005000000fd0f0000646f6300\n")
    ∷ ("send r 18 1 1 2 00000000000000000000000000000000fffffffffd0f00003c57696d702453637261703e00000000", Is "ok 2\n")
    ∷ ("poll a", Is "ok 18 DataSaveAck 2 1 saved 5 3\n")
    ∷ ("poll r", Is "ok 18 DataLoad 3 2 taken\n  from 1 0000000000000000000000000000000005000000fd0f00003c57696d702453637261703e00000000\n")
    ∷ ("scrap r 3", Is "ok &9008\n")
    ∷ ("scrap r 3", Is "refused AnchorInUse\n")
    ∷ ("show r 3", Is "ok 5 68656c6c6f\n")
    ∷ ("area 5 -4096", Is "refused ExcessiveShrink\n")
    ∷ ("send r 17 1 3 4 0000000000000000000000000000000005000000fd0f00003c57696d702453637261703e00000000", Is "ok 4\n")
    ∷ ("area 5 -4096", Is "ok 4096\n")
    ∷ ("scrap r 4", Is "refused NoFile\n")
    ∷ ("poll a", Is "ok 17 DataLoadAck 4 3 done\n")
    ∷ ("status a", Is "ok 1\n  out done 1 5\n  in idle\n") ∷ []
    ) ≡ true
unfolding computing_script hex_on_literals
loads = refl

-- a DataLoad with a pathname of its own is ignored; the record stays until it is cancelled
pub own_file : meets (start 64 []) (
    ("task b 4", Is "ok 1\n")
    ∷ ("task r 1 raw", Is "ok 2\n")
    ∷ ("send r 18 1 0 1 0000000000000000000000000000000006000000fd0f0000646f6300", Is "ok 1\n")
    ∷ ("poll b", Is "ok 18 DataSave 1 0 fetch 2\n")
    ∷ ("poll r", Is "ok 18 RAMFetch 2 1 taken\n  from 1 1481000004000000\n")
    ∷ ("poll r", Is "ok 0\n")
    ∷ ("poll b", Is "ok 19 RAMFetch 2 1 asked 3\n")
    ∷ ("poll r", Is "ok 18 DataSaveAck 3 1 taken\n  from 1 00000000000000000000000000000000fffffffffd0f00003c57696d702453637261703e00000000\n")
    ∷ ("send r 18 1 3 3 0000000000000000000000000000000006000000fd0f0000414446533a3a342e242e6400", Is "ok 4\n")
    ∷ ("poll b", Is "ok 18 DataLoad 4 3 ignored\n")
    ∷ ("status b", Is "ok 1\n  out idle\n  in asking 1 0\n")
    ∷ ("poll b", Is "ok 0\n")
    ∷ ("poll r", Is "ok 19 DataLoad 4 3 taken\n  from 2 0000000000000000000000000000000006000000fd0f0000414446533a3a342e242e6400\n")
    ∷ ("cancel b in", Is "ok\n")
    ∷ ("status b", Is "ok 1\n  out idle\n  in failed 1 0\n")
    ∷ ("alloc r 0 1", Is "ok &9008\n")
    ∷ ("spool r 0 1 0", Is "ok 5\n")
    ∷ ("poll b", Is "ok 18 DataLoad 5 0 ignored\n")
    ∷ ("scrap b 9", Is "refused WrongManner\n")
    ∷ ("poll b", Is "ok 0\n")
    ∷ ("spool r 0 1 0", Is "refused Busy\n")
    ∷ ("poll r", Is "ok 19 DataLoad 5 0 taken\n  from 2 0000000000000000000000000000000001000000fd0f00003c57696d702453637261703e00000000\n")
    ∷ ("spool r 0 1 0", Is "ok 6\n") ∷ []
    ) ≡ true
unfolding computing_script hex_on_literals
own_file = refl

-- a raw receiver says that it loaded the file
pub says_done : meets (start 64 []) (
    ("task a 4", Is "ok 1\n")
    ∷ ("task r 1 raw", Is "ok 2\n")
    ∷ ("alloc a 0 5", Is "ok &9008\n")
    ∷ ("save a 0 r doc", Is "ok 1\n")
    ∷ ("poll r", Is "ok 18 DataSave 1 0 taken\n  from 1 0000000000000000000000000000000005000000fd0f0000646f6300\n")
    ∷ ("send r 17 1 1 4 0000000000000000000000000000000005000000fd0f0000646f6300", Is "ok 2\n")
    ∷ ("poll a", Is "ok 17 DataLoadAck 2 1 done\n")
    ∷ ("status a", Is "ok 1\n  out done 1 5\n  in idle\n")
    ∷ ("free a 0", Is "ok\n") ∷ []
    ) ≡ true
unfolding computing_script hex_on_literals
says_done = refl

-- a raw sender dies with a fetch unread
pub dies : meets (start 64 []) (
    ("task b 4", Is "ok 1\n")
    ∷ ("task r 1 raw", Is "ok 2\n")
    ∷ ("claim r 4", Is "ok &8114\n")
    ∷ ("write r &8114 01020304", Is "ok\n")
    ∷ ("send r 18 1 0 1 0000000000000000000000000000000006000000fd0f0000646f6300", Is "ok 1\n")
    ∷ ("poll b", Is "ok 18 DataSave 1 0 fetch 2\n")
    ∷ ("poll r", Is "ok 18 RAMFetch 2 1 taken\n  from 1 1481000004000000\n")
    ∷ ("transfer r &8114 1 &8114 4", Is "ok\n")
    ∷ ("send r 18 1 2 7 1481000004000000", Is "ok 3\n")
    ∷ ("poll b", Is "ok 18 RAMTransmit 3 2 took 4 fetch 4\n")
    ∷ ("kill r", Is "ok\n")
    ∷ ("poll b", Is "ok 19 RAMFetch 4 3 failed\n")
    ∷ ("status b", Is "ok 1\n  out idle\n  in failed 1 4\n")
    ∷ ("show b 0", Is "ok 4 01020304\n")
    ∷ ("heap b", Is "ok 3840 3820 3824\n") ∷ []
    ) ≡ true
unfolding computing_script hex_on_literals
dies = refl

-- a handle names one task for ever, a name doesn't
pub old_name : meets (start 64 []) (
    ("task a 4", Is "ok 1\n")
    ∷ ("task r 1 raw", Is "ok 2\n")
    ∷ ("alloc a 0 1", Is "ok &9008\n")
    ∷ ("save a 0 r x", Is "ok 1\n")
    ∷ ("poll r", Is "ok 18 DataSave 1 0 taken\n  from 1 0000000000000000000000000000000001000000fd0f000078000000\n")
    ∷ ("kill a", Is "ok\n")
    ∷ ("task a 4", Is "ok 3\n")
    ∷ ("send r 17 1 1 12", Is "refused NoTask\n")
    ∷ ("send r 17 3 1 12", Is "ok 2\n")
    ∷ ("poll a", Is "ok 17 12 2 1 ignored\n")
    ∷ ("poll r", Is "ok 0\n") ∷ []
    ) ≡ true
unfolding computing_script hex_on_literals
old_name = refl

-- a held message that is acknowledged, or answered by any message, doesn't come back
pub ack : meets (start 64 []) (
    ("task a 4", Is "ok 1\n")
    ∷ ("task r 1 raw", Is "ok 2\n")
    ∷ ("alloc a 0 1", Is "ok &9008\n")
    ∷ ("save a 0 r x", Is "ok 1\n")
    ∷ ("poll r", Is "ok 18 DataSave 1 0 taken\n  from 1 0000000000000000000000000000000001000000fd0f000078000000\n")
    ∷ ("ack r", Is "ok 1\n")
    ∷ ("ack r", Is "ok 0\n")
    ∷ ("poll r", Is "ok 0\n")
    ∷ ("poll a", Is "ok 0\n")
    ∷ ("status a", Is "ok 1\n  out open 1 0\n  in idle\n")
    ∷ ("cancel a out", Is "ok\n")
    ∷ ("send r 18 2 0 9 01000000", Is "ok 2\n")
    ∷ ("poll r", Is "ok 18 9 2 0 taken\n  from 2 01000000\n")
    ∷ ("send r 17 1 2 10", Is "ok 3\n")
    ∷ ("poll r", Is "ok 0\n")
    ∷ ("poll a", Is "ok 17 10 3 2 ignored\n") ∷ []
    ) ≡ true
unfolding computing_script hex_on_literals
ack = refl

-- `repeat` sends the same bytes under a new ref
pub repeat : meets (start 64 []) (
    ("task b 4", Is "ok 1\n")
    ∷ ("task r 1 raw", Is "ok 2\n")
    ∷ ("send r 18 1 0 1 0000000001000000020000000300000006000000af0f0000646f630009090909", Is "ok 1\n")
    ∷ ("repeat r", Is "ok 2\n")
    ∷ ("poll b", Is "ok 18 DataSave 1 0 fetch 3\n")
    ∷ ("poll b", Is "ok 18 DataSave 2 0 fetch 4\n")
    ∷ ("status b", Is "ok 1\n  out idle\n  in fetching 1 0\n  in fetching 2 0\n")
    ∷ ("poll r", Is "ok 18 RAMFetch 3 1 taken\n  from 1 1481000004000000\n")
    ∷ ("poll r", Is "ok 18 RAMFetch 4 2 taken\n  from 1 1c81000004000000\n")
    ∷ ("kill b", Is "ok\n")
    ∷ ("repeat r", Is "refused NoTask\n") ∷ []
    ) ≡ true
unfolding computing_script hex_on_literals
repeat = refl

-- the last ref
pub last_ref : meets (start_with 64 [] 4294967294 4294967295) (
    ("task r 1 raw", Is "ok 4294967294\n")
    ∷ ("send r 17 4294967294 4294967294 9", Is "ok 4294967295\n")
    ∷ ("send r 17 4294967294 4294967295 9", Is "refused NoRefs\n")
    ∷ ("send r 17 4294967294 0 9", Is "refused NoRefs\n")
    ∷ ("poll r", Is "ok 17 9 4294967295 4294967294 taken\n  from 4294967294\n") ∷ []
    ) ≡ true
unfolding computing_script hex_on_literals
last_ref = refl
