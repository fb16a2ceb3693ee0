use Rattle.rh_map.proofs.Common.{ℕ, ◌∷◌, [], ◌++◌, ◌*◌, ◌+◌, ap, ◌∙◌, sym, length, length-append, arith, append_assoc, map, range_with_len}
use Rattle.std.proofs.lemmas.List.FromFn.{length-map-range_with_len, map-range_with_len_more}
use Rattle.rh_figure.specs.Rows.{cell_mark}
use Rattle.rh_figure.specs.declared.limits.TheConstants.{CELL_BYTES}
use Rattle.rh_map.proofs.rows.add_cells.Goals as goal

pub byte-requires : goal.byte-requires
byte-requires c =
    let f = λ (k : ℕ). cell_mark c.args.pieces.now (c.args.at + CELL_BYTES * k) in
    omega (
      arith,
      ap length c.loop-cell.invariant,
      length-append c.args.row.now (map f (range_with_len 0 c.loop-cell.cell)),
      length-map-range_with_len f 0 c.loop-cell.cell,
      c.loop-cell-test.true,
      c.requires.room,
    )

pub loop-cell-preserved : goal.loop-cell-preserved
loop-cell-preserved c =
    let f = λ (k : ℕ). cell_mark c.args.pieces.now (c.args.at + CELL_BYTES * k) in
    c.byte.ensures
    ∙ (ap (λ row. row ++ c.cell_mark.result ∷ []) c.loop-cell.invariant
    ∙ (append_assoc c.args.row.now (map f (range_with_len 0 c.loop-cell.cell)) (c.cell_mark.result ∷ [])
    ∙ (ap (λ mark. c.args.row.now ++ (map f (range_with_len 0 c.loop-cell.cell) ++ mark ∷ [])) c.cell_mark.ensures
    ∙ ap (λ cells. c.args.row.now ++ cells) (sym (map-range_with_len_more f 0 c.loop-cell.cell c.loop-cell.cell (omega arith))))))
