-- Worked scripts, by computation: what each writes, in full.
use Rattle.rh_defs.proofs.Common.{◌≡◌, ◌++◌, refl, [], codes, true, false, hex_on_literals}
use Rattle.std.specs.Prelude.{ℕ, List}
use Rattle.rh_defs.specs.Files.{FileList}
use Rattle.rh_defs.specs.Runs.{start}
use Rattle.rh_defs.specs.Script.{script_text, has_bad_line}
use Rattle.rh_defs.specs.Inner.Computing.{computing_script}

-- all that a script writes over a fresh desk of so many pages with these files
abbrev text : List ℕ → ℕ → FileList → List ℕ
text script pages files = script_text (start pages files) script

-- a block is written and shown
pub written_block : text (codes "task a 100\nalloc a 0 5\nput a 0 0 68656c6c6f\nblocks a\nshow a 0\n") 64 []
    ≡ codes "ok 1\nok &9008\nok\nok 1\n  0 &9008 5\nok 5 68656c6c6f\n"
unfolding computing_script hex_on_literals
written_block = refl

-- an empty block is shown as its size alone
pub empty_block : text (codes "task a 100\nalloc a 63 0\nshow a 63\n") 64 [] ≡ codes "ok 1\nok &9008\nok 0\n"
unfolding computing_script hex_on_literals
empty_block = refl

-- the refusals of these commands, each where the ones before it don't hold
pub refused_commands : text (codes "task a 5\ntask a 5\nalloc b 0 1\nalloc a 0 3\nalloc a 0 1\nput b 0 0 00\nput a 1 0 00\n"
    ++ codes "put a 0 2 0000\nshow a 1\nblocks b\nalloc a 1 24569\n") 8 []
    ≡ codes "ok 1\nrefused NameInUse\nrefused NoName\nok &9008\nrefused AnchorInUse\nrefused NoName\nrefused NoBlock\n"
    ++ codes "refused BadRange\nrefused NoBlock\nrefused NoName\nrefused NoRoom\n"
unfolding computing_script hex_on_literals
refused_commands = refl

-- bad lines, and one that is cut
pub bad_lines : text (codes "tsk a\ntask a\ntask a 0\nrma\nrma x 1\nalloc a 64 1\nput a 0 0 abc\nareas") 64 []
    ≡ codes "bad Unknown\nbad Count\nbad Word 3\nbad Count\nbad Word 2\nbad Word 3\nbad Word 5\nbad Unended\n"
unfolding computing_script hex_on_literals
bad_lines = refl

pub bad_lines_are_bad : has_bad_line (codes "task a 0\n") ≡ true
unfolding computing_script
bad_lines_are_bad = refl

-- an empty script writes nothing, and has no bad line
pub empty_script : text [] 64 [] ≡ []
empty_script = refl

pub no_bad_line : has_bad_line (codes "# a remark\n\n  areas  \n") ≡ false
unfolding computing_script
no_bad_line = refl

-- a tab or a carriage return belongs to a word; leading zeros count as digits
pub strange_words : text (codes "areas\r\ntask\ta 1\ntask a 0000000001\ntask b 00000000001\n") 64 []
    ≡ codes "bad Unknown\nbad Unknown\nok 1\nbad Word 3\n"
unfolding computing_script
strange_words = refl

-- words that are not of their form, the leftmost first; how many words a line may have
pub strange_lines : text (codes "task a 1 loud\ntask a 1 deaf x\nrma\nrma free\nrma free 1\nrma x\nmid a 0 0 -\nmid a 0 0 --1\n"
    ++ codes "release a &\nrelease a &123456789\nbudge a On\ncancel a up 0\ncancel a in 0\ncancel a in 4294967296\n"
    ++ codes "cancel a\narea 65536 0\nmake 1025\nremove 5\nsave a 0 b abcdefghijk\n") 64 []
    ≡ codes "bad Word 4\nbad Count\nbad Count\nbad Count\nbad Word 3\nbad Word 2\nbad Word 5\nbad Word 5\nbad Word 3\nbad Word 3\n"
    ++ codes "bad Word 3\nbad Word 3\nbad Word 4\nbad Word 4\nbad Count\nbad Word 2\nbad Word 2\nbad Word 2\nbad Word 5\n"
unfolding computing_script
strange_lines = refl

-- signs, digits of either case, the greatest numbers
pub strange_numbers : text (codes "task a 65536 file\nrelease a &aBcDeF01\narea 4 -0\narea 6 -2147483647\ncancel a out 4294967295\n") 64 []
    ≡ codes "ok 1\nrefused NotABlock\nok 0\nrefused NoArea\nrefused NotOpen\n"
unfolding computing_script
strange_numbers = refl
