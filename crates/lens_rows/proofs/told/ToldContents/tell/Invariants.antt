use Rattle.std.proofs.Common.{◌≡◌}
use Rattle.std.specs.Prelude.{◌==◌, drop, find}
use Rattle.rh_figure.specs.declared.piece.Piece.{Piece}
use Rattle.rh_lens.specs.Items.{bare}
use Rattle.rh_lens.specs.ToldInside.{IsTold}
use Rattle.lens_rows.specs.RowItems.{Row}
use Rattle.lens_rows.proofs.told.ToldContents.tell.Given as goal

-- no row so far is at the piece's place, and nothing is told
abbrev pub invariant-loop-row : goal.invariant-loop-row
invariant-loop-row l =
    (find (λ (r : Row). r.at == l.piece.at) (drop l.row-index l.self.rows.now)
    ≡ find (λ (r : Row). r.at == l.piece.at) l.self.rows.now)
    × ((p : Piece) → IsTold l.inside p (bare p))
