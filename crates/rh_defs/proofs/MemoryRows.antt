-- Worked scripts on memory, by computation: what each line answers.
use Rattle.rh_defs.proofs.Common.{◌≡◌, refl, true, [], ◌∷◌, codes, hex_on_literals, start_with}
use Rattle.rh_defs.specs.Runs.{start}
use Rattle.rh_defs.specs.Inner.Computing.{computing_script}
use Rattle.rh_defs.proofs.Rows.{Any, Is, Begins, Has, meets}

-- one page for the module area, and one for a slot
pub fresh_desk : meets (start 8 []) (
    ("task a 100", Is "ok 1\n")
    ∷ ("areas", Is "ok 6\n  area 0 0\n  area 1 1\n  area 2 0\n  area 3 0\n  area 4 0\n  area 5 0\n  slot a 1\n") ∷ []
    ) ≡ true
unfolding computing_script hex_on_literals
fresh_desk = refl

-- a block that takes the whole pool
pub whole_pool : meets (start 8 []) (
    ("task a 100", Any)
    ∷ ("alloc a 0 24568", Is "ok &9008\n")
    ∷ ("areas", Begins "ok 0")
    ∷ ("areas", Has "slot a 7") ∷ []
    ) ≡ true
unfolding computing_script hex_on_literals
whole_pool = refl

-- one byte more is refused, and nothing changes
pub whole_pool_one_byte_more : meets (start 8 []) (
    ("task a 100", Any)
    ∷ ("alloc a 0 24569", Is "refused NoRoom\n")
    ∷ ("areas", Is "ok 6\n  area 0 0\n  area 1 1\n  area 2 0\n  area 3 0\n  area 4 0\n  area 5 0\n  slot a 1\n") ∷ []
    ) ≡ true
unfolding computing_script hex_on_literals
whole_pool_one_byte_more = refl

-- the C heap grows, and the flex block gives way
pub budging : meets (start 64 []) (
    ("task a 100", Any)
    ∷ ("alloc a 0 5", Is "ok &9008\n")
    ∷ ("put a 0 0 68656c6c6f", Is "ok\n")
    ∷ ("claim a 4000", Is "ok &8114\n")
    ∷ ("blocks a", Is "ok 1\n  0 &A008 5\n")
    ∷ ("show a 0", Is "ok 5 68656c6c6f\n") ∷ []
    ) ≡ true
unfolding computing_script hex_on_literals
budging = refl

-- with budging off it does not
pub budging_off : meets (start 64 []) (
    ("task a 100", Any)
    ∷ ("alloc a 0 5", Is "ok &9008\n")
    ∷ ("put a 0 0 68656c6c6f", Is "ok\n")
    ∷ ("budge a off", Is "ok on\n")
    ∷ ("claim a 4000", Is "refused NoBudge\n") ∷ []
    ) ≡ true
unfolding computing_script hex_on_literals
budging_off = refl

-- the first hole that fits is taken
pub first_fit : meets (start 64 []) (
    ("task a 100", Any)
    ∷ ("claim a 10", Is "ok &8114\n")
    ∷ ("claim a 10", Is "ok &8124\n")
    ∷ ("claim a 10", Is "ok &8134\n")
    ∷ ("release a &8124", Is "ok\n")
    ∷ ("claim a 12", Is "ok &8124\n")
    ∷ ("claim a 13", Is "ok &8144\n")
    ∷ ("release a &8118", Is "refused NotABlock\n")
    ∷ ("heap a", Is "ok 3840 3748 3752\n  used &8114 12\n  used &8124 12\n  used &8134 12\n  used &8144 20\n")
    ∷ ("release a &8114", Any)
    ∷ ("release a &8124", Any)
    ∷ ("heap a", Is "ok 3840 3748 3784\n  hole &8110 32\n  used &8134 12\n  used &8144 20\n") ∷ []
    ) ≡ true
unfolding computing_script hex_on_literals
first_fit = refl

-- blocks slide down; bytes are taken out and put in
pub slide_and_mid : meets (start 64 []) (
    ("task a 100", Any)
    ∷ ("alloc a 0 5", Is "ok &9008\n")
    ∷ ("alloc a 1 5", Is "ok &9018\n")
    ∷ ("alloc a 1 5", Is "refused AnchorInUse\n")
    ∷ ("put a 1 0 776f726c64", Any)
    ∷ ("free a 0", Is "ok\n")
    ∷ ("blocks a", Is "ok 1\n  1 &9008 5\n")
    ∷ ("mid a 1 2 -2", Is "ok\n")
    ∷ ("show a 1", Is "ok 3 726c64\n")
    ∷ ("mid a 1 1 -2", Is "refused BadRange\n")
    ∷ ("mid a 1 3 2", Is "ok\n")
    ∷ ("show a 1", Is "ok 5 726c640000\n")
    ∷ ("mid a 1 6 1", Is "refused BadRange\n") ∷ []
    ) ≡ true
unfolding computing_script hex_on_literals
slide_and_mid = refl

-- a block grows and shrinks below another
pub extend_slides : meets (start 64 []) (
    ("task a 100", Any)
    ∷ ("alloc a 0 5", Is "ok &9008\n")
    ∷ ("alloc a 1 5", Is "ok &9018\n")
    ∷ ("extend a 0 9", Is "ok\n")
    ∷ ("blocks a", Is "ok 2\n  0 &9008 9\n  1 &901C 5\n")
    ∷ ("extend a 0 2", Is "ok\n")
    ∷ ("blocks a", Is "ok 2\n  0 &9008 2\n  1 &9014 5\n")
    ∷ ("show a 0", Is "ok 2 0000\n") ∷ []
    ) ≡ true
unfolding computing_script hex_on_literals
extend_slides = refl

-- blocks of the C heap get other sizes
pub resize_lines : meets (start 64 []) (
    ("task a 100", Any)
    ∷ ("claim a 10", Is "ok &8114\n")
    ∷ ("claim a 10", Is "ok &8124\n")
    ∷ ("resize a &8114 1", Is "ok &8134\n")
    ∷ ("resize a &8134 8", Is "ok &8134\n")
    ∷ ("resize a &8124 -12", Is "refused BadSize\n")
    ∷ ("resize a &8124 -1", Is "ok &8124\n")
    ∷ ("resize a &8124 -8", Is "ok &8124\n")
    ∷ ("heap a", Is "ok 3840 3756 3784\n  hole &8110 16\n  used &8124 4\n  hole &8128 8\n  used &8134 28\n")
    ∷ ("resize a &8124 8", Is "ok &8124\n")
    ∷ ("claim a 0", Is "refused BadSize\n") ∷ []
    ) ≡ true
unfolding computing_script hex_on_literals
resize_lines = refl

-- refusals, each where the ones before do not hold
pub refusals : meets (start 64 ((codes "f", 1 ∷ 2 ∷ 3 ∷ []) ∷ [])) (
    ("task a 100", Any)
    ∷ ("load a 0 f", Is "ok &9008\n")
    ∷ ("show a 0", Is "ok 3 010203\n")
    ∷ ("load a 1 g", Is "refused NoFile\n")
    ∷ ("load a 0 f", Is "refused AnchorInUse\n")
    ∷ ("load z 0 f", Is "refused NoName\n")
    ∷ ("task a 5", Is "refused NameInUse\n")
    ∷ ("free a 9", Is "refused NoBlock\n")
    ∷ ("repeat a", Is "refused NothingSent\n")
    ∷ ("save a 0 q doc", Is "refused NoTask\n") ∷ []
    ) ≡ true
unfolding computing_script hex_on_literals
refusals = refl

-- areas get and lose pages
pub area_changes : meets (start 8 []) (
    ("task a 100", Any)
    ∷ ("area 3 1", Is "ok 4096\n")
    ∷ ("area 3 -4097", Is "refused ExcessiveShrink\n")
    ∷ ("area 3 -1", Is "ok 4096\n")
    ∷ ("area 1 -4096", Is "refused ExcessiveShrink\n")
    ∷ ("area 1 0", Is "ok 0\n")
    ∷ ("area 4 99999", Is "refused NoRoom\n")
    ∷ ("area 3 -2147483647", Is "refused ExcessiveShrink\n") ∷ []
    ) ≡ true
unfolding computing_script hex_on_literals
area_changes = refl

-- blocks that make the module area grow
pub module_blocks_grow_the_area : meets (start 8 []) (
    ("rma claim 4076", Is "ok &1800014\n")
    ∷ ("rma claim 1", Is "ok &1801004\n")
    ∷ ("area 1 -4096", Is "refused ExcessiveShrink\n")
    ∷ ("rma free &1801004", Is "ok\n")
    ∷ ("area 1 -4096", Is "ok 4096\n")
    ∷ ("rma free &1801004", Is "refused NotABlock\n")
    ∷ ("rma resize &1800014 4096", Is "ok &1800014\n")
    ∷ ("areas", Begins "ok 6")
    ∷ ("areas", Has "area 1 2")
    ∷ ("rma resize &1800014 -8172", Is "refused BadSize\n")
    ∷ ("rma claim 0", Is "refused BadSize\n")
    ∷ ("rma claim 2147483647", Is "refused NoRoom\n") ∷ []
    ) ≡ true
unfolding computing_script hex_on_literals
module_blocks_grow_the_area = refl

-- with 8 pages the eighth task has no room
pub limits_few_pages : meets (start 8 []) (
    ("task t1 100", Is "ok 1\n")
    ∷ ("task t2 100", Is "ok 2\n")
    ∷ ("task t3 100", Is "ok 3\n")
    ∷ ("task t4 100", Is "ok 4\n")
    ∷ ("task t5 100", Is "ok 5\n")
    ∷ ("task t6 100", Is "ok 6\n")
    ∷ ("task t7 100", Is "ok 7\n")
    ∷ ("task t8 100", Is "refused NoRoom\n") ∷ []
    ) ≡ true
unfolding computing_script hex_on_literals
limits_few_pages = refl

-- at most 32 tasks are live
pub limits : meets (start 64 []) (
    ("task t1 100", Is "ok 1\n")
    ∷ ("task t2 100", Is "ok 2\n")
    ∷ ("task t3 100", Is "ok 3\n")
    ∷ ("task t4 100", Is "ok 4\n")
    ∷ ("task t5 100", Is "ok 5\n")
    ∷ ("task t6 100", Is "ok 6\n")
    ∷ ("task t7 100", Is "ok 7\n")
    ∷ ("task t8 100", Is "ok 8\n")
    ∷ ("task t9 100", Is "ok 9\n")
    ∷ ("task t10 100", Is "ok 10\n")
    ∷ ("task t11 100", Is "ok 11\n")
    ∷ ("task t12 100", Is "ok 12\n")
    ∷ ("task t13 100", Is "ok 13\n")
    ∷ ("task t14 100", Is "ok 14\n")
    ∷ ("task t15 100", Is "ok 15\n")
    ∷ ("task t16 100", Is "ok 16\n")
    ∷ ("task t17 100", Is "ok 17\n")
    ∷ ("task t18 100", Is "ok 18\n")
    ∷ ("task t19 100", Is "ok 19\n")
    ∷ ("task t20 100", Is "ok 20\n")
    ∷ ("task t21 100", Is "ok 21\n")
    ∷ ("task t22 100", Is "ok 22\n")
    ∷ ("task t23 100", Is "ok 23\n")
    ∷ ("task t24 100", Is "ok 24\n")
    ∷ ("task t25 100", Is "ok 25\n")
    ∷ ("task t26 100", Is "ok 26\n")
    ∷ ("task t27 100", Is "ok 27\n")
    ∷ ("task t28 100", Is "ok 28\n")
    ∷ ("task t29 100", Is "ok 29\n")
    ∷ ("task t30 100", Is "ok 30\n")
    ∷ ("task t31 100", Is "ok 31\n")
    ∷ ("task t32 100", Is "ok 32\n")
    ∷ ("task t33 100", Is "refused TooManyTasks\n") ∷ []
    ) ≡ true
unfolding computing_script hex_on_literals
limits = refl

-- the last handle is given once
pub used_up_handles : meets (start_with 64 [] 4294967295 4294967295) (
    ("task a 100", Is "ok 4294967295\n")
    ∷ ("task b 100", Is "refused NoHandles\n") ∷ []
    ) ≡ true
unfolding computing_script hex_on_literals
used_up_handles = refl

-- areas made at run
pub made_areas : meets (start 8 []) (
    ("task a 100", Any)
    ∷ ("make 2", Is "ok 256\n")
    ∷ ("area 256 4096", Is "ok 4096\n")
    ∷ ("area 256 4097", Is "refused TooBig\n")
    ∷ ("area 256 4096", Is "ok 4096\n")
    ∷ ("area 256 -8193", Is "refused ExcessiveShrink\n")
    ∷ ("area 256 16385", Is "refused NoRoom\n")
    ∷ ("make 1", Is "ok 257\n")
    ∷ ("remove 256", Is "ok\n")
    ∷ ("area 256 99999", Is "refused NoArea\n")
    ∷ ("area 6 -1", Is "refused NoArea\n")
    ∷ ("make 1025", Is "bad Word 2\n")
    ∷ ("remove 5", Is "bad Word 2\n")
    ∷ ("areas", Is "ok 6\n  area 0 0\n  area 1 1\n  area 2 0\n  area 3 0\n  area 4 0\n  area 5 0\n  area 257 0\n  slot a 1\n") ∷ []
    ) ≡ true
unfolding computing_script hex_on_literals
made_areas = refl

-- at most 32 of them are live
pub made_areas_thirty_two : meets (start 64 []) (
    ("make 1", Is "ok 256\n")
    ∷ ("make 1", Is "ok 257\n")
    ∷ ("make 1", Is "ok 258\n")
    ∷ ("make 1", Is "ok 259\n")
    ∷ ("make 1", Is "ok 260\n")
    ∷ ("make 1", Is "ok 261\n")
    ∷ ("make 1", Is "ok 262\n")
    ∷ ("make 1", Is "ok 263\n")
    ∷ ("make 1", Is "ok 264\n")
    ∷ ("make 1", Is "ok 265\n")
    ∷ ("make 1", Is "ok 266\n")
    ∷ ("make 1", Is "ok 267\n")
    ∷ ("make 1", Is "ok 268\n")
    ∷ ("make 1", Is "ok 269\n")
    ∷ ("make 1", Is "ok 270\n")
    ∷ ("make 1", Is "ok 271\n")
    ∷ ("make 1", Is "ok 272\n")
    ∷ ("make 1", Is "ok 273\n")
    ∷ ("make 1", Is "ok 274\n")
    ∷ ("make 1", Is "ok 275\n")
    ∷ ("make 1", Is "ok 276\n")
    ∷ ("make 1", Is "ok 277\n")
    ∷ ("make 1", Is "ok 278\n")
    ∷ ("make 1", Is "ok 279\n")
    ∷ ("make 1", Is "ok 280\n")
    ∷ ("make 1", Is "ok 281\n")
    ∷ ("make 1", Is "ok 282\n")
    ∷ ("make 1", Is "ok 283\n")
    ∷ ("make 1", Is "ok 284\n")
    ∷ ("make 1", Is "ok 285\n")
    ∷ ("make 1", Is "ok 286\n")
    ∷ ("make 1", Is "ok 287\n")
    ∷ ("make 1", Is "refused TooManyAreas\n") ∷ []
    ) ≡ true
unfolding computing_script hex_on_literals
made_areas_thirty_two = refl

-- a pool of 1,024 pages is one slot's, but for the module area
pub thousand_pages : meets (start 1024 []) (
    ("task a 100", Is "ok 1\n")
    ∷ ("areas", Begins "ok 1022\n")
    ∷ ("alloc a 0 4186105", Is "refused NoRoom\n") ∷ []
    ) ≡ true
unfolding computing_script hex_on_literals
thousand_pages = refl

-- the last number of a made area is given once
pub last_area_number : meets (record (start 8 []) { next_area = 65535 }) (
    ("make 1", Is "ok 65535\n")
    ∷ ("remove 65535", Is "ok\n")
    ∷ ("make 1", Is "refused NoNumbers\n") ∷ []
    ) ≡ true
unfolding computing_script hex_on_literals
last_area_number = refl
