-- Text that is escaped part by part.
use Rattle.rh_elements.proofs.Common.{◌≡◌, ℕ, ◌-◌, List, ◌++◌, length, take, drop, ap, sym, ◌∙◌, flat_map-append, escape, escaped_byte}
use Rattle.std.proofs.lemmas.List.{take-append-drop, take_rest}

-- the first bytes, and those behind them
pub escape-parts : (n : ℕ) (t : List ℕ) → escape t ≡ escape (take n t) ++ escape (take (length t - n) (drop n t))
escape-parts n t =
    ap escape (sym (take-append-drop n t)) ∙ (flat_map-append escaped_byte (take n t) (drop n t)
    ∙ ap (λ z. escape (take n t) ++ escape z) (sym (take_rest t n)))
