-- The lines of a reply, one by one.
use Rattle.rh_elements.proofs.Common.{◌≡◌, ℕ, suc, Bool, true, false, List, [], ◌∷◌, ◌++◌, refl, sym, ap, ◌∙◌, codes, if◌then◌else◌, flat_map}
use Rattle.rh_elements.proofs.Common.{join_by, flat_map-append, cut, lines_in, escape, escaped_byte, behind_feeds}
use Rattle.rh_figure.specs.declared.limits.TheConstants.{REPLY_COLUMNS, MOST_REPLY_LINES}
use Rattle.rh_map.specs.Replies.{excerpt_lines, first_lines, more_behind}

-- lines with line feeds between them
abbrev pub joined : List (List ℕ) → List ℕ
joined lines = escape (join_by (λ (t : List ℕ). t) (codes "\n") lines)

-- the next line behind a line feed, and those behind it
pub feeds-next : (lines behind : List (List ℕ)) (line : List ℕ) (n m : ℕ) → n ≡ suc m → lines ≡ line ∷ behind
    → escape (behind_feeds (first_lines n lines))
    ≡ escape (codes "\n" ++ cut REPLY_COLUMNS line) ++ escape (behind_feeds (first_lines m behind))
feeds-next lines behind line n m e is =
    ap (λ k. escape (behind_feeds (first_lines k lines))) e
    ∙ (ap (λ ls. escape (behind_feeds (first_lines (suc m) ls))) is
    ∙ flat_map-append escaped_byte (codes "\n" ++ cut REPLY_COLUMNS line) (behind_feeds (first_lines m behind)))

-- no line at all
pub feeds-none : (lines : List (List ℕ)) (n : ℕ) → n ≡ 0 → escape (behind_feeds (first_lines n lines)) ≡ []
feeds-none lines n none = ap (λ k. escape (behind_feeds (first_lines k lines))) none

one-line : (some : Bool) (line : List ℕ)
    → joined (if some then line ∷ [] else []) ≡ escape (flat_map (λ (l : List ℕ). l) (if some then line ∷ [] else []))
one-line true line = refl
one-line false line = refl

-- a reply whose front has some: the first one, those behind it, and what is said of the others
pub joined-some : (front behind : List ℕ) (line : List ℕ) (count : ℕ) → lines_in front ≡ line ∷ lines_in behind
    → escape (cut REPLY_COLUMNS line) ++ (escape (behind_feeds (first_lines 13 (lines_in behind)))
    ++ escape (behind_feeds (more_behind count))) ≡ joined (excerpt_lines front count)
joined-some front behind line count is =
    let first : List ℕ = cut REPLY_COLUMNS line in
    let next : List (List ℕ) = first_lines 13 (lines_in behind) in
    let all : List ℕ = behind_feeds (next ++ more_behind count) in
    ap (λ z. escape first ++ z) (sym (flat_map-append escaped_byte (behind_feeds next) (behind_feeds (more_behind count))))
    ∙ (ap (λ z. escape first ++ escape z) (sym (flat_map-append (λ (l : List ℕ). codes "\n" ++ l) next (more_behind count)))
    ∙ (sym (flat_map-append escaped_byte first all)
    ∙ sym (ap (λ ls. joined (first_lines MOST_REPLY_LINES ls ++ more_behind count)) is)))
