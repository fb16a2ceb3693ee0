use Rattle.rh_map.proofs.Common.{◌++◌, ◌∙◌, ap, sym, map, take, length, length-take, length-append, arith, append_assoc, codes, shown_byte}
use Rattle.std.proofs.lemmas.List.{length-map}
use Rattle.rh_map.proofs.LineLemmas.{cut-long}
use Rattle.rh_map.proofs.line.add_line.Goals as goal

pub slice_bounds-add_shown-length : goal.slice_bounds-add_shown-length
slice_bounds-add_shown-length c = omega (arith, length-take 77 c.args.text.now, c.if-text-le-MAP_COLUMNS.false)

pub add_shown-requires-else-text-le-MAP_COLUMNS : goal.add_shown-requires-else-text-le-MAP_COLUMNS
add_shown-requires-else-text-le-MAP_COLUMNS c = omega (arith, length-take 77 c.args.text.now, c.requires)

pub text-requires : goal.text-requires
text-requires c =
    let front = take 77 c.args.text.now in
    let shown = length-map front shown_byte in
    omega (
      arith,
      ap length c.add_shown-else-text-le-MAP_COLUMNS.ensures,
      length-append c.args.row.now (map shown_byte front),
      shown,
      length-take 77 c.args.text.now,
      c.requires,
    )

pub returns-else-text-le-MAP_COLUMNS-clause-value : goal.returns-else-text-le-MAP_COLUMNS-clause-value
returns-else-text-le-MAP_COLUMNS-clause-value c =
    let front = map shown_byte (take 77 c.args.text.now) in
    c.text.ensures
    ∙ (
    ap (λ row. row ++ codes "..") c.add_shown-else-text-le-MAP_COLUMNS.ensures
    ∙ (
    append_assoc c.args.row.now front (codes "..")
    ∙ ap (λ line. c.args.row.now ++ line) (sym (cut-long c.args.text.now c.if-text-le-MAP_COLUMNS.false))
    )
    )

pub returns-else-text-le-MAP_COLUMNS-clause-few : goal.returns-else-text-le-MAP_COLUMNS-clause-few
returns-else-text-le-MAP_COLUMNS-clause-few c =
    let front = take 77 c.args.text.now in
    omega (
      arith,
      ap length c.text.ensures,
      length-append c.add_shown-else-text-le-MAP_COLUMNS.new.row (codes ".."),
      ap length c.add_shown-else-text-le-MAP_COLUMNS.ensures,
      length-append c.args.row.now (map shown_byte front),
      length-map front shown_byte,
      length-take 77 c.args.text.now,
    )
