-- A line of a map that is cut.
use Rattle.rh_map.proofs.Common.{◌≡◌, ◌<◌, List, ℕ, ◌++◌, length, map, take, ap, ◌∙◌, arith, codes, nat_le, cond_false, shown_byte, shown_line}
use Rattle.std.proofs.lemmas.List.{length-map, take-map}
use Rattle.rh_defs.proofs.HeapLists.{leb_no}
use Rattle.rh_figure.specs.declared.limits.TheConstants.{MAP_COLUMNS}

-- of a long text the first bytes are shown, and two dots
pub cut-long : (t : List ℕ) → MAP_COLUMNS < length t → shown_line t ≡ map shown_byte (take 77 t) ++ codes ".."
cut-long t long =
    cond_false (nat_le (length (map shown_byte t)) MAP_COLUMNS) _ _ (leb_no _ _ (omega (arith, length-map t shown_byte, long)))
    ∙ ap (λ front. front ++ codes "..") (take-map shown_byte 77 t)
