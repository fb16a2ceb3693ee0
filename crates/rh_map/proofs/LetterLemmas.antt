-- Letterboxes, part by part.
use Rattle.rh_map.proofs.Common.{◌≡◌, ℕ, ◌+◌, ◌<◌, List, [], ◌∷◌, ◌++◌, length, sym, ap, ◌∙◌, length-append, append_assoc, arith, codes, not, ◌==◌, flat_map}
use Rattle.rh_map.proofs.Common.{decimal, where_so, message_entry_text}
use Rattle.rh_defs.specs.Text.{action_name}
use Rattle.rh_figure.specs.Phrases.{and_more, is_returned}
use Rattle.rh_map.specs.declared.letterboxes.MessageEntry.{MessageEntry}
use Rattle.rh_map.specs.MapMessages.{waits_text}
use Rattle.rh_map.proofs.FillLemmas.{some-text}

-- messages behind commas
abbrev pub behind_commas : List MessageEntry → List ℕ
behind_commas es = flat_map (λ e. codes ", " ++ message_entry_text e) es

-- a message has a text
some-entry : (e : MessageEntry) → 0 < length (message_entry_text e)
some-entry e =
    let rest : List ℕ = action_name e.action ++ (where_so (is_returned e.code) (codes " back") ++ []) in
    omega (arith, length-append (decimal e.my_ref) (32 ∷ rest))

-- what waits, where something does
waits-some : (row : List ℕ) (first : MessageEntry) (others : List MessageEntry) (n : ℕ)
    → (((row ++ codes " waiting ") ++ message_entry_text first) ++ behind_commas others) ++ and_more n
    ≡ row ++ where_so (not (length (waits_text (first ∷ others) n) == 0)) (codes " waiting " ++ waits_text (first ∷ others) n)
waits-some row first others n =
    let w : List ℕ = waits_text (first ∷ others) n in
    let whole : length w ≡ length (message_entry_text first) + length (behind_commas others) + length (and_more n) =
    length-append (message_entry_text first ++ behind_commas others) (and_more n)
    ∙ ap (λ k. k + length (and_more n)) (length-append (message_entry_text first) (behind_commas others)) in
    let some : 0 < length w = omega (arith, whole, some-entry first) in
    append_assoc ((row ++ codes " waiting ") ++ message_entry_text first) (behind_commas others) (and_more n)
    ∙ (append_assoc (row ++ codes " waiting ") (message_entry_text first) (behind_commas others ++ and_more n)
    ∙ (append_assoc row (codes " waiting ") (message_entry_text first ++ (behind_commas others ++ and_more n))
    ∙ (ap (λ t. row ++ (codes " waiting " ++ t)) (sym (append_assoc (message_entry_text first) (behind_commas others) (and_more n)))
    ∙ ap (λ t. row ++ t) (sym (some-text w (codes " waiting " ++ w) some)))))

pub waits-are : (row filled : List ℕ) (first : MessageEntry) (others waits : List MessageEntry) (n : ℕ)
    → waits ≡ first ∷ others → filled ≡ (row ++ codes " waiting ") ++ message_entry_text first
    → (filled ++ behind_commas others) ++ and_more n
    ≡ row ++ where_so (not (length (waits_text waits n) == 0)) (codes " waiting " ++ waits_text waits n)
waits-are row filled first others waits n e f =
    ap (λ r. (r ++ behind_commas others) ++ and_more n) f
    ∙ (waits-some row first others n
    ∙ ap (λ es. row ++ where_so (not (length (waits_text es n) == 0)) (codes " waiting " ++ waits_text es n)) (sym e))
