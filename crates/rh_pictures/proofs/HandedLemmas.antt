-- Replies with the line of a message that is handed out: a front has room for both lines, and shows them.
use Rattle.rh_pictures.proofs.Common.{◌≡◌, ℕ, ◌≤◌, refl, ap, sym, subst, ◌∙◌, arith, List, [], ◌∷◌, ◌++◌, length, Option, Some, None, codes}
use Rattle.rh_pictures.proofs.Common.{decimal, length-append, Reply, Nothing, ended, unended, first_line, Excerpts}
use Rattle.std.specs.Prelude.{◌-◌, ◌^◌, min, IfSome}
use Rattle.std.proofs.lemmas.List.{take_all}
use Rattle.hex.specs.Hex.{encode_lower, lower_digits}
use Rattle.hex.proofs.HexLemmas.{length-encode_with}
use Rattle.rh_defs.specs.Text.{handed_text, hex_words, rest_of_line}
use Rattle.rh_session.proofs.LineLemmas.{no_feed_open, unended-append, unended_first}
use Rattle.rh_map.specs.Replies.{front_of}
use Rattle.rh_map.proofs.SeamLemmas.{whole-reply}
use Rattle.rh_pictures.proofs.AnswerLemmas.{ended-few, hex-words}
use Rattle.rh_pictures.proofs.ExcerptLemmas.{OneLine, decimal-open, decimal-word, first-few, first-one, line-one}

-- a text of few bytes that ends with a line feed is kept whole
whole-kept : (text : List ℕ) → unended text ≡ [] → length text ≤ 4096 → Excerpts (front_of text) (length (ended text)) text
whole-kept text none few =
    let P : List ℕ → Type 0 = λ z. Excerpts z (length (ended text)) text in
    subst P (sym (take_all 4096 text few)) (whole-reply text none)

one-closed : (text : List ℕ) → OneLine text → unended text ≡ []
one-closed text t = ap unended t.is ∙ unended_first t.words [] t.open_

-- ---- the line of a message

handed-one : (parts : ℕ × List ℕ) → OneLine (handed_text (Some parts))
handed-one parts =
    line-one (codes "  from") (decimal parts.0 ∷ hex_words parts.1) (no_feed_open (codes "  from") refl) (decimal-open parts.0, hex-words parts.1)

handed-closed : (handed : Option (ℕ × List ℕ)) → unended (handed_text handed) ≡ []
handed-closed None = refl
handed-closed (Some parts) = one-closed (handed_text (Some parts)) (handed-one parts)

digits-fit : (bytes : List ℕ) → length bytes ≤ 236 → length (rest_of_line (hex_words bytes)) ≤ 474
digits-fit [] short = omega arith
digits-fit (b ∷ bytes) short =
    let many = length-encode_with lower_digits (b ∷ bytes) in
    omega (arith, many, length-append (encode_lower (b ∷ bytes)) (rest_of_line []))

handed-few : (handed : Option (ℕ × List ℕ)) → IfSome handed (λ parts. length parts.1 ≤ 236) → length (handed_text handed) ≤ 546
handed-few None short = omega arith
handed-few (Some parts) short =
    let few = (decimal-word parts.0).few in
    omega (arith, few, digits-fit parts.1 short, length-append (decimal parts.0) (rest_of_line (hex_words parts.1)))

-- ---- both lines

module _ (r : Reply) (handed : Option (ℕ × List ℕ)) (short : IfSome handed (λ parts. length parts.1 ≤ 236)) where
  abbrev both : List ℕ
  both = first_line r Nothing ++ handed_text handed

  both-closed : unended both ≡ []
  both-closed =
      unended-append (first_line r Nothing) (handed_text handed)
      ∙ (ap (λ z. unended (z ++ handed_text handed)) (one-closed (first_line r Nothing) (first-one r)) ∙ handed-closed handed)

  both-few : length both ≤ 4096
  both-few = omega (arith, length-append (first_line r Nothing) (handed_text handed), first-few r, handed-few handed short)

  -- what a front shows of them, by its count of lines
  pub both-kept : (n : ℕ) → n ≡ min (length (ended both)) (2 ^ 32 - 1) → Excerpts (front_of both) n both
  both-kept n counted =
      let count : n ≡ length (ended both) = omega (arith, counted, ended-few both, both-few) in
      let P : ℕ → Type 0 = λ k. Excerpts (front_of both) k both in
      subst P (sym count) (whole-kept both both-closed both-few)
