-- A worked sheet, by computation: three commands over 8 pages, of which each takes the last free one. Small documents, and
-- what of a sheet is markup.
use Rattle.std.specs.Prelude.{◌≡◌, refl, ℕ, ◌==◌, if◌then◌else◌, List, [], ◌∷◌, ◌++◌, codes, false}
use Rattle.std.specs.List.{concat, flat_map, range_with_len}
use Rattle.hex.proofs.OnLiterals.{hex_on_literals}
use Rattle.rh_defs.specs.declared.command.Command.TheVariants as command
use Rattle.rh_defs.specs.Line.{line_means}
use Rattle.rh_defs.specs.Desk.{Desk}
use Rattle.rh_defs.specs.Runs.{start}
use Rattle.rh_defs.specs.Script.{lines_desk}
use Rattle.rh_figure.specs.Share.{Owner, AreaOf, SlotOf, Share}
use Rattle.rh_figure.specs.Map.{Stage, map_start}
use Rattle.rh_sheet.specs.SheetSteps.{at_true_scale}
use Rattle.rh_sheet.specs.Sheet.{command_on, sheet_lines}
use Rattle.rh_sheet.specs.WellFormed.{Words, Lost, read_on}
use Rattle.rh_sheet.specs.TextLaws.{markup, AreRetold}
use Rattle.rh_sheet.specs.Inner.ComputingSheets.{computing_sheet}

-- lines with their line feeds
abbrev text_of : List (List ℕ) → List ℕ
text_of lines = flat_map (λ line. line ++ codes "\n") lines

-- the module area has page 7, and the slot of task 1 these pages
abbrev owned : List ℕ → Owner → List ℕ
owned slot (AreaOf k) = if k == 1 then 7 ∷ [] else []
owned slot (SlotOf h) = slot

-- the first n pages are free
abbrev shared : ℕ → List ℕ → Share
shared n slot = record { free = range_with_len 0 n; pages_of = owned slot }

-- a line with the share behind it
abbrev stage : List ℕ → Share → Stage
stage line s = ((line, line_means line), s)

abbrev stages : List Stage
stages =
    stage (codes "task a 100") (shared 6 (6 ∷ []))
    ∷ stage (codes "#picture  A block of 5 bytes ") (shared 6 (6 ∷ []))
    ∷ stage (codes "alloc a 0 5") (shared 5 (6 ∷ 5 ∷ []))
    ∷ stage (codes "show a 0") (shared 5 (6 ∷ 5 ∷ []))
    ∷ []

-- the first step, but for the module area
abbrev first_step : List (List ℕ)
first_step =
    codes "<section id=\"d1\">"
    ∷ codes "<div class=\"says\">"
    ∷ codes "<nav><span>&#9664;</span> <a href=\"#d2\">&#9654;</a> <a href=\"#all\">all</a></nav>"
    ∷ codes "<h2><b>1</b> <code>task a 100</code></h2>"
    ∷ codes "<pre>ok 1</pre>"
    ∷ codes "<p class=\"change\">Task a begins, with handle 1</p>"
    ∷ codes "<p class=\"change\">Slot a takes page 6</p>"
    ∷ codes "</div>"
    ∷ codes "<div class=\"memory\">"
    ∷ codes "<svg viewBox=\"0 0 1176 34\" role=\"img\">"
    ∷ codes "<title>The pool of pages</title>"
    ∷ codes "<desc>Module area: page 7. Slot a: page 6. 6 of 8 free.</desc>"
    ∷ codes "<path class=\"cell m\" d=\"M375 1h30v30h-30z\"><title>Module area: page 7</title></path>"
    ∷ codes "<path class=\"cell t0 fresh\" d=\"M343 1h30v30h-30z\"><title>Slot a takes page 6</title></path>"
    ∷ codes "<use href=\"#grid\"/>"
    ∷ codes "<text class=\"tag\" x=\"390\" y=\"28\">mod</text>"
    ∷ codes "<text class=\"tag\" x=\"358\" y=\"28\">a</text>"
    ∷ codes "<text class=\"side\" x=\"0\" y=\"14\">Pool</text>"
    ∷ codes "<text class=\"small\" x=\"0\" y=\"31\">6 of 8 free</text>"
    ∷ codes "</svg>"
    ∷ codes "<h3><b>a</b> task 1, buffer of 100, 1 page</h3>"
    ∷ codes "<svg viewBox=\"0 0 1176 32\" role=\"img\">"
    ∷ codes "<title>The slot of a</title>"
    ∷ codes "<desc>Page 6. C heap of 3840 bytes. </desc>"
    ∷ codes "<text class=\"addr\" x=\"0\" y=\"20\">&amp;8000</text>"
    ∷ codes "<rect class=\"chip t0\" x=\"96\" y=\"3\" width=\"46\" height=\"24\"/>"
    ∷ codes "<text class=\"chipn\" x=\"119\" y=\"20\">6</text>"
    ∷ codes "<rect class=\"row\" x=\"150\" y=\"3\" width=\"1024\" height=\"24\"/>"
    ∷ codes "<rect class=\"anchors\" x=\"150\" y=\"3\" width=\"64\" height=\"24\"><title>64 anchor words, &amp;8000</title></rect>"
    ∷ codes "<rect class=\"head\" x=\"214\" y=\"3\" width=\"4\" height=\"24\"><title>heap descriptor, &amp;8100</title></rect>"
    ∷ codes "<rect class=\"top\" x=\"218\" y=\"3\" width=\"956\" height=\"24\"><title>free, &amp;8110</title></rect>"
    ∷ codes "<text class=\"lab top\" x=\"696\" y=\"20\">3824 free</text>"
    ∷ codes "</svg>"
    ∷ []

-- the module area, and the end of a step
abbrev module_part : List (List ℕ)
module_part =
    codes "<h3><b>Module area</b> 1 page</h3>"
    ∷ codes "<svg viewBox=\"0 0 1176 32\" role=\"img\">"
    ∷ codes "<title>The module area</title>"
    ∷ codes "<desc>Page 7. </desc>"
    ∷ codes "<text class=\"addr\" x=\"0\" y=\"20\">&amp;1800000</text>"
    ∷ codes "<rect class=\"chip m\" x=\"96\" y=\"3\" width=\"46\" height=\"24\"/>"
    ∷ codes "<text class=\"chipn\" x=\"119\" y=\"20\">7</text>"
    ∷ codes "<rect class=\"row\" x=\"150\" y=\"3\" width=\"1024\" height=\"24\"/>"
    ∷ codes "<rect class=\"head\" x=\"150\" y=\"3\" width=\"4\" height=\"24\"><title>heap descriptor, &amp;1800000</title></rect>"
    ∷ codes "<rect class=\"top\" x=\"154\" y=\"3\" width=\"1020\" height=\"24\"><title>free, &amp;1800010</title></rect>"
    ∷ codes "<text class=\"lab top\" x=\"664\" y=\"20\">4080 free</text>"
    ∷ codes "</svg>"
    ∷ codes "</div>"
    ∷ codes "</section>"
    ∷ []

-- the second step, which a remark begins
abbrev second_step : List (List ℕ)
second_step =
    codes "<section id=\"d2\">"
    ∷ codes "<div class=\"says\">"
    ∷ codes "<nav><a href=\"#d1\">&#9664;</a> <a href=\"#d3\">&#9654;</a> <a href=\"#all\">all</a></nav>"
    ∷ codes "<p class=\"title\">A block of 5 bytes</p>"
    ∷ codes "<h2><b>3</b> <code>alloc a 0 5</code></h2>"
    ∷ codes "<pre>ok &amp;9008</pre>"
    ∷ codes "<p class=\"change\">Slot a takes page 5</p>"
    ∷ codes "<p class=\"change\">Flex block 0 is new: 5 bytes at &amp;9008</p>"
    ∷ codes "</div>"
    ∷ codes "<div class=\"memory\">"
    ∷ codes "<svg viewBox=\"0 0 1176 34\" role=\"img\">"
    ∷ codes "<title>The pool of pages</title>"
    ∷ codes "<desc>Module area: page 7. Slot a: page 6 5. 5 of 8 free.</desc>"
    ∷ codes "<path class=\"cell m\" d=\"M375 1h30v30h-30z\"><title>Module area: page 7</title></path>"
    ∷ codes "<path class=\"cell t0\" d=\"M343 1h30v30h-30z\"><title>Slot a: page 6 5</title></path>"
    ∷ codes "<path class=\"cell t0 fresh\" d=\"M311 1h30v30h-30z\"><title>Slot a takes page 5</title></path>"
    ∷ codes "<use href=\"#grid\"/>"
    ∷ codes "<text class=\"tag\" x=\"390\" y=\"28\">mod</text>"
    ∷ codes "<text class=\"tag\" x=\"358\" y=\"28\">a</text>"
    ∷ codes "<text class=\"tag\" x=\"326\" y=\"28\">a</text>"
    ∷ codes "<text class=\"side\" x=\"0\" y=\"14\">Pool</text>"
    ∷ codes "<text class=\"small\" x=\"0\" y=\"31\">5 of 8 free</text>"
    ∷ codes "</svg>"
    ∷ codes "<h3><b>a</b> task 1, buffer of 100, 2 pages</h3>"
    ∷ codes "<svg viewBox=\"0 0 1176 144\" role=\"img\">"
    ∷ codes "<title>The slot of a</title>"
    ∷ codes "<desc>Page 6 5. C heap of 3840 bytes. anchor 0 &amp;9008, 5 bytes, 0000000000. </desc>"
    ∷ codes "<path class=\"lens\" d=\"M150 85L151 63H315L154 85z\"/>"
    ∷ codes "<rect class=\"card flex fresh\" x=\"151\" y=\"1\" width=\"164\" height=\"62\"/>"
    ∷ codes "<text class=\"first\" x=\"159\" y=\"20\">anchor 0 &amp;9008</text>"
    ∷ codes "<text class=\"line\" x=\"159\" y=\"38\">5 bytes</text>"
    ∷ codes "<text class=\"line\" x=\"159\" y=\"56\">0000000000</text>"
    ∷ codes "<text class=\"addr\" x=\"0\" y=\"132\">&amp;8000</text>"
    ∷ codes "<rect class=\"chip t0\" x=\"96\" y=\"115\" width=\"46\" height=\"24\"/>"
    ∷ codes "<text class=\"chipn\" x=\"119\" y=\"132\">6</text>"
    ∷ codes "<rect class=\"row\" x=\"150\" y=\"115\" width=\"1024\" height=\"24\"/>"
    ∷ codes "<rect class=\"anchors\" x=\"150\" y=\"115\" width=\"64\" height=\"24\"><title>64 anchor words, &amp;8000</title></rect>"
    ∷ codes "<rect class=\"head\" x=\"214\" y=\"115\" width=\"4\" height=\"24\"><title>heap descriptor, &amp;8100</title></rect>"
    ∷ codes "<rect class=\"top\" x=\"218\" y=\"115\" width=\"956\" height=\"24\"><title>free, &amp;8110</title></rect>"
    ∷ codes "<text class=\"lab top\" x=\"696\" y=\"132\">3824 free</text>"
    ∷ codes "<text class=\"addr\" x=\"0\" y=\"102\">&amp;9000</text>"
    ∷ codes "<rect class=\"chip t0\" x=\"96\" y=\"85\" width=\"46\" height=\"24\"/>"
    ∷ codes "<text class=\"chipn\" x=\"119\" y=\"102\">5</text>"
    ∷ codes "<rect class=\"row\" x=\"150\" y=\"85\" width=\"1024\" height=\"24\"/>"
    ∷ codes "<rect class=\"flex t0 fresh\" x=\"150\" y=\"85\" width=\"4\" height=\"24\"><title>flex block 0, &amp;9008, 5 bytes</title></rect>"
    ∷ codes "<rect class=\"spare\" x=\"154\" y=\"85\" width=\"1020\" height=\"24\"><title>unused, &amp;9010</title></rect>"
    ∷ codes "<text class=\"lab spare\" x=\"664\" y=\"102\">4080 unused</text>"
    ∷ codes "<path class=\"tick\" d=\"M150 115v24\"/>"
    ∷ codes "</svg>"
    ∷ []

-- a step without a figure, and the end of the sheet
abbrev rest_of_sheet : List (List ℕ)
rest_of_sheet =
    codes "<section id=\"d3\">"
    ∷ codes "<div class=\"says\">"
    ∷ codes "<nav><a href=\"#d2\">&#9664;</a> <a href=\"#d4\">&#9654;</a> <a href=\"#all\">all</a></nav>"
    ∷ codes "<h2><b>4</b> <code>show a 0</code></h2>"
    ∷ codes "<pre>ok 5 0000000000</pre>"
    ∷ codes "<p class=\"still\">Memory stays as it is: see <a href=\"#d2\">the last figure</a>.</p>"
    ∷ codes "</div>"
    ∷ codes "</section>"
    ∷ codes "</main>"
    ∷ codes "<nav id=\"d4\">"
    ∷ codes "<a href=\"#d1\">1</a>"
    ∷ codes "<a href=\"#d2\">2</a>"
    ∷ codes "<a href=\"#d3\">3</a>"
    ∷ codes "</nav>"
    ∷ codes "</body>"
    ∷ codes "</html>"
    ∷ []

pub worked_sheet :
    sheet_lines false (record { place = map_start 8 []; shown = 0; last = 0; left = 0; opened = false; notes = []; looks = at_true_scale }) stages
    ≡ text_of (first_step ++ module_part ++ second_step ++ module_part ++ rest_of_sheet)
unfolding computing_sheet hex_on_literals
worked_sheet = refl

-- a desk on which a message waits for a task with code of its own
abbrev handing : Desk
handing = lines_desk (start 8 []) (codes "task a 1 raw" ∷ codes "task b 1 raw" ∷ codes "send a 17 2 0 1296 48690000" ∷ [])

-- the reply to its poll has the message's data behind it
handed_out : (command_on (shared 5 []) (command.Poll (codes "b")) handing).reply ≡ codes "ok 17 1296 1 0 taken\n  from 1 48690000\n"
unfolding computing_sheet hex_on_literals
handed_out = refl

-- ---- what a reader makes of small documents

nested : read_on ([], Words) (codes "<!DOCTYPE html>\n<p class=\"a\">x &lt; y <b>z</b><br/></p>") ≡ ([], Words)
nested = refl

-- the outer element ends before the inner one
crossed : read_on ([], Words) (codes "<p><b>z</p></b>") ≡ (codes "b" ∷ codes "p" ∷ [], Lost)
crossed = refl

-- a remark that begins an element
begun : read_on ([], Words) (codes "<p>a <b of</p>") ≡ (codes "p" ∷ [], Lost)
begun = refl

-- a quote that ends a value
unquoted : read_on ([], Words) (codes "<p title=\"a\"<\">z</p>") ≡ ([], Lost)
unquoted = refl

-- ---- what is markup

attributes : markup ([], Words) (codes "<p title=\"a &gt; b\">x &lt; y <b>z</b><br/></p>") ≡ codes "<p title=\"a &gt; b\"><b></b><br/></p>"
attributes = refl

-- an element that stands in a text as it is ends where it has to, and is found
balanced : read_on ([], Words) (codes "<p>a<b></b></p>") ≡ ([], Words)
balanced = refl

found : markup ([], Words) (codes "<p>a<b></b></p>") ≡ codes "<p><b></b></p>"
found = refl

-- a remark and a bad line, and others in their places
abbrev said : List Stage
said = stage (codes "# A remark") (shared 7 []) ∷ stage (codes "no command") (shared 7 []) ∷ []

abbrev said_with_signs : List Stage
said_with_signs = stage (codes "#</p><b></b> \"&") (shared 7 []) ∷ stage (codes "<i>x</i>") (shared 7 []) ∷ []

retold : AreRetold said said_with_signs
unfolding computing_sheet
retold = (
  record { meaning = refl; share = refl; skipped = λ none. record { title = refl; words = refl; remark = refl } },
  (record { meaning = refl; share = refl; skipped = λ none. record { title = refl; words = refl; remark = refl } }, tt),
)

-- the elements of both, from a sheet's head on
marked_up :
    markup (codes "niam" ∷ codes "ydob" ∷ codes "lmth" ∷ [], Words)
    (sheet_lines false (record { place = map_start 8 []; shown = 0; last = 0; left = 0; opened = false; notes = []; looks = at_true_scale }) said_with_signs)
    ≡ concat (
    codes "<section id=\"d1\"><div class=\"says\"><nav><span></span><a href=\"#d2\"></a><a href=\"#all\"></a></nav>"
    ∷ codes "<p class=\"remark\"></p><h2><b></b><code></code></h2><pre></pre><p class=\"still\"></p></div></section>"
    ∷ codes "</main><nav id=\"d2\"><a href=\"#d1\"></a></nav></body></html>" ∷ []
    )
unfolding computing_sheet hex_on_literals
marked_up = refl
