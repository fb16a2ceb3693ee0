-- A worked lens, by computation: a slot of one block, over 8 pages, of which each taker takes the last free one.
use Rattle.std.specs.Prelude.{◌≡◌, refl, ℕ, ◌==◌, if◌then◌else◌, List, [], ◌∷◌, ◌++◌, codes, Option, Some, None}
use Rattle.std.specs.List.{flat_map}
use Rattle.hex.proofs.OnLiterals.{hex_on_literals}
use Rattle.rh_defs.specs.declared.command.Command.{Command}
use Rattle.rh_defs.specs.declared.command.Command.TheVariants as command
use Rattle.rh_defs.specs.declared.command.Manner.TheVariants.{Plain}
use Rattle.rh_defs.specs.Desk.{Desk, Task, task_at}
use Rattle.rh_defs.specs.Runs.{start, after}
use Rattle.rh_figure.specs.Share.{Owner, AreaOf, SlotOf}
use Rattle.rh_figure.specs.Scene.{Scene, before_of, no_marks, scene_of}
use Rattle.rh_figure.specs.Inner.ComputingMaps.{computing_map}
use Rattle.rh_lens.specs.Lens.{slot_lens}

-- lines with their line feeds
abbrev text_of : List (List ℕ) → List ℕ
text_of lines = flat_map (λ line. line ++ codes "\n") lines

-- the module area has page 7, and the slot of task 1 pages 6 and 5
abbrev owned : Owner → List ℕ
owned (AreaOf k) = if k == 1 then 7 ∷ [] else []
owned (SlotOf h) = if h == 1 then 6 ∷ 5 ∷ [] else []

abbrev commands : List Command
commands =
    command.Task (codes "a") 100 Plain
    ∷ command.Alloc (codes "a") 0 5
    ∷ command.Put (codes "a") 0 0 (104 ∷ 101 ∷ 108 ∷ 108 ∷ 111 ∷ [])
    ∷ []

-- behind a command that changes nothing
abbrev seen_after : Desk → Scene
seen_after d = scene_of d (record { free = 0 ∷ 1 ∷ 2 ∷ 3 ∷ 4 ∷ []; pages_of = owned }) (before_of d None) no_marks

abbrev lens_of : Desk → Option Task → List ℕ
lens_of d None = []
lens_of d (Some t) = slot_lens (seen_after d) t 600 16

abbrev lens_after : Desk → List ℕ
lens_after d = lens_of d (task_at 1 d)

pub hello_lens : lens_after (after (start 8 []) commands) ≡ text_of (
    codes "<svg viewBox=\"0 0 600 174\" role=\"img\">"
    ∷ codes "<title>The slot of a</title>"
    ∷ codes "<desc>heap descriptor, &amp;8100. free, &amp;8110. flex block 0, &amp;9008, 5 bytes. unused, &amp;9010. </desc>"
    ∷ codes "<rect class=\"page t0\" x=\"0\" y=\"0\" width=\"300\" height=\"19\"/>"
    ∷ codes "<text class=\"pagen\" x=\"3\" y=\"12\">&amp;8000 is page 6</text>"
    ∷ codes "<rect class=\"page t0\" x=\"300\" y=\"0\" width=\"300\" height=\"19\"/>"
    ∷ codes "<text class=\"pagen\" x=\"303\" y=\"12\">&amp;9000 is page 5</text>"
    ∷ codes "<rect class=\"mark anchors\" x=\"0\" y=\"14\" width=\"18\" height=\"5\"/>"
    ∷ codes "<rect class=\"mark head\" x=\"18\" y=\"14\" width=\"1\" height=\"5\"/>"
    ∷ codes "<rect class=\"mark flex\" x=\"300\" y=\"14\" width=\"1\" height=\"5\"/>"
    ∷ codes "<text class=\"band\" x=\"0\" y=\"34\">flex blocks</text>"
    ∷ codes "<g data-key=\"flex0\">"
    ∷ codes "<rect class=\"part flex t0\" x=\"0\" y=\"39\" width=\"128\" height=\"51\"><title>flex block 0, &amp;9008, 5 bytes</title></rect>"
    ∷ codes "<rect class=\"word\" x=\"0\" y=\"39\" width=\"14\" height=\"51\"/>"
    ∷ codes "<rect class=\"byte\" x=\"14\" y=\"57\" width=\"22\" height=\"33\"/>"
    ∷ codes "<text class=\"digits\" x=\"25\" y=\"69\">68</text>"
    ∷ codes "<text class=\"letter\" x=\"25\" y=\"84\">h</text>"
    ∷ codes "<rect class=\"byte\" x=\"36\" y=\"57\" width=\"22\" height=\"33\"/>"
    ∷ codes "<text class=\"digits\" x=\"47\" y=\"69\">65</text>"
    ∷ codes "<text class=\"letter\" x=\"47\" y=\"84\">e</text>"
    ∷ codes "<rect class=\"byte\" x=\"58\" y=\"57\" width=\"22\" height=\"33\"/>"
    ∷ codes "<text class=\"digits\" x=\"69\" y=\"69\">6c</text>"
    ∷ codes "<text class=\"letter\" x=\"69\" y=\"84\">l</text>"
    ∷ codes "<rect class=\"byte\" x=\"80\" y=\"57\" width=\"22\" height=\"33\"/>"
    ∷ codes "<text class=\"digits\" x=\"91\" y=\"69\">6c</text>"
    ∷ codes "<text class=\"letter\" x=\"91\" y=\"84\">l</text>"
    ∷ codes "<rect class=\"byte\" x=\"102\" y=\"57\" width=\"22\" height=\"33\"/>"
    ∷ codes "<text class=\"digits\" x=\"113\" y=\"69\">6f</text>"
    ∷ codes "<text class=\"letter\" x=\"113\" y=\"84\">o</text>"
    ∷ codes "<text class=\"name\" x=\"17\" y=\"53\">0 &amp;9008 5 bytes</text>"
    ∷ codes "</g>"
    ∷ codes "<g data-key=\"unused\">"
    ∷ codes "<rect class=\"part spare\" x=\"130\" y=\"39\" width=\"150\" height=\"51\"><title>unused, &amp;9010</title></rect>"
    ∷ codes "<text class=\"name\" x=\"133\" y=\"53\">unused</text>"
    ∷ codes "<text class=\"told\" x=\"133\" y=\"68\">4080 bytes</text>"
    ∷ codes "<path class=\"break\" d=\"M265 90L271 39M270 90L276 39\"/>"
    ∷ codes "</g>"
    ∷ codes "<path class=\"leads\" d=\"M35 120C35 102 14 111 14 93\"/>"
    ∷ codes "<g data-key=\"anchor0\">"
    ∷ codes "<rect class=\"part anchor\" x=\"0\" y=\"120\" width=\"70\" height=\"51\"/>"
    ∷ codes "<text class=\"name\" x=\"3\" y=\"134\">anchor 0</text>"
    ∷ codes "<text class=\"told\" x=\"3\" y=\"149\">&amp;9008</text>"
    ∷ codes "</g>"
    ∷ codes "<text class=\"band\" x=\"80\" y=\"115\">C heap</text>"
    ∷ codes "<g data-key=\"descriptor\">"
    ∷ codes "<rect class=\"part head\" x=\"80\" y=\"120\" width=\"42\" height=\"51\"><title>heap descriptor, &amp;8100</title></rect>"
    ∷ codes "<text class=\"name\" x=\"83\" y=\"134\">Heap</text>"
    ∷ codes "<text class=\"told\" x=\"83\" y=\"149\">16 B</text>"
    ∷ codes "</g>"
    ∷ codes "<g data-key=\"top\">"
    ∷ codes "<rect class=\"part top\" x=\"124\" y=\"120\" width=\"150\" height=\"51\"><title>free, &amp;8110</title></rect>"
    ∷ codes "<text class=\"name\" x=\"127\" y=\"134\">free on top</text>"
    ∷ codes "<text class=\"told\" x=\"127\" y=\"149\">3824 bytes</text>"
    ∷ codes "<path class=\"break\" d=\"M259 171L265 120M264 171L270 120\"/>"
    ∷ codes "</g>"
    ∷ codes "</svg>"
    ∷ []
    )
unfolding computing_map hex_on_literals
hello_lens = refl
