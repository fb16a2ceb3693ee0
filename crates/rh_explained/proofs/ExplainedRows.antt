-- Worked scripts, by computation: what is said of each line.
use Rattle.std.proofs.Common.{◌≡◌, refl, ℕ, ◌+◌, Bool, true, ◌&&◌, List, [], ◌∷◌, codes}
use Rattle.std.specs.Str.{bytes_eq}
use Prim.Native.String.{String}
use Rattle.rh_defs.specs.Desk.{Desk}
use Rattle.rh_defs.specs.Inner.Computing.{computing_script}
use Rattle.rh_defs.specs.Runs.{start}
use Rattle.rh_defs.specs.Script.{line_desk}
use Rattle.rh_defs.proofs.Common.{hex_on_literals}
use Rattle.rh_explained.specs.Explained.{said_of_line, said_of_rest}

-- just this is said of each line of a script, of which n stand before the first, from a desk on
abbrev says : Desk → ℕ → List (String × String) → Bool
says d n [] = true
says d n (row ∷ rows) = bytes_eq (said_of_line d (n + 1) (codes row.0)) (codes row.1) && says (line_desk d (codes row.0)) (n + 1) rows

-- the worked script of docs/FORMATS.md
mistakes : says (start 64 []) 0 (
    ("tsk a 100", "line 1, word 1 \"tsk\": no command has this name\n  tsk a 100\n")
    ∷ ("task a 100", "")
    ∷ ("alloc a 64 5", "line 3, word 3 \"64\": an anchor is 0 to 63\n  alloc a 64 5\n")
    ∷ ("alloc a 0", "line 4: expected alloc NAME A N\n  alloc a 0\n")
    ∷ ("alloc a 0 5", "")
    ∷ ("save a 0 a doc", "")
    ∷ ("put a 0 0 00", "line 7: a transfer uses the block: transfer 1 sends it\n  put a 0 0 00\n  poll until the transfer has ended, or cancel it\n")
    ∷ []
    ) ≡ true
unfolding computing_script hex_on_literals
mistakes = refl

-- what no word may have is told before all else, and no line that is skipped is told
odd : says (start 64 []) 0 (
    ("# a remark\r", "")
    ∷ ("areas\r", "line 2: a carriage return at its end; end lines with a line feed alone\n  areas\\x0d\n")
    ∷ ("task\ta 100", "line 3: a tab; part words by spaces\n  task\\x09a 100\n")
    ∷ ("", "")
    ∷ ("kill z", "line 5: no live task has this name: z\n  kill z\n  start it by task NAME BUF; upper and lower case differ\n")
    ∷ ("areas\r 1", "line 6: the byte &D; words have characters from ! to ~ alone\n  areas\\x0d 1\n")
    ∷ []
    ) ≡ true
unfolding computing_script hex_on_literals
odd = refl

-- what a transfer uses at its other end
received : says (start 64 []) 0 (
    ("task a 100", "")
    ∷ ("alloc a 0 5", "")
    ∷ ("save a 0 a doc", "")
    ∷ ("poll a", "")
    ∷ ("free a 1", "line 5: a transfer uses the block: transfer 1 receives into it\n  free a 1\n  poll until the transfer has ended, or cancel it\n")
    ∷ (
      "release a &8114",
      "line 6: a transfer uses the block: transfer 1 has it as its buffer\n  release a &8114\n  poll until the transfer has ended, or cancel it\n",
    )
    ∷ ("put a 1 1 00", "line 7: a transfer uses the block: transfer 1 receives into it\n  put a 1 1 00\n  poll until the transfer has ended, or cancel it\n")
    ∷ ("show a 2", "line 8: this anchor has no block: 2\n  show a 2\n  alloc or load puts a block there\n")
    ∷ []
    ) ≡ true
unfolding computing_script hex_on_literals
received = refl

-- a range that is no block's, and for which tasks each command is
bytes_and_manners : says (start 64 []) 0 (
    ("task a 100", "")
    ∷ ("task r 100 raw", "")
    ∷ ("alloc a 0 5", "")
    ∷ ("alloc r 0 5", "")
    ∷ ("read a &9008 6", "line 5: no live block has these bytes\n  read a &9008 6\n  heap and blocks list the task's blocks\n")
    ∷ ("write r &9007 00", "line 6: no live block has these bytes\n  write r &9007 00\n  heap and blocks list the task's blocks\n")
    ∷ ("write a &9008 00", "line 7: this isn't for tasks of its manner\n  write a &9008 00\n  write is for raw tasks; others write by put\n")
    ∷ ("ack a", "line 8: this isn't for tasks of its manner\n  ack a\n  ack is for raw tasks; a poll answers for others\n")
    ∷ ("send a 17 2 0 9", "line 9: this isn't for tasks of its manner\n  send a 17 2 0 9\n  send is for raw tasks; others offer files by save\n")
    ∷ ("spool a 0 2 0", "line 10: this isn't for tasks of its manner\n  spool a 0 2 0\n  spool is for raw tasks; others offer files by save\n")
    ∷ ("save r 0 a doc", "line 11: this isn't for tasks of its manner\n  save r 0 a doc\n  save isn't for raw tasks; they send by send or spool\n")
    ∷ []
    ) ≡ true
unfolding computing_script hex_on_literals
bytes_and_manners = refl

-- a line that was cut
cut : bytes_eq (said_of_rest 3 (codes "areas"))
    (codes "line 3: cut, as the script ends without a line feed\n  areas\n  end the last line with a line feed\n") ≡ true
unfolding computing_script
cut = refl
