-- Bytes as digits at the end of a line, behind a space where there are any.
use Rattle.std.proofs.Common.{◌≡◌, ◌≢◌, ℕ, List, [], ◌∷◌, ◌++◌, length, refl, sym, ap, ◌∙◌, append_assoc}
use Rattle.hex.specs.Hex.{encode_lower}
use Rattle.rh_defs.specs.Text.{hex_words, rest_of_line}

-- no bytes
pub unspaced : (bytes : List ℕ) → length bytes ≡ 0 → rest_of_line (hex_words bytes) ≡ 10 ∷ []
unspaced [] none = refl
unspaced (b ∷ bytes) none = absurd (cc)

-- the space, the digits and the line feed
spaced : (bytes : List ℕ) → length bytes ≢ 0 → rest_of_line (hex_words bytes) ≡ 32 ∷ (encode_lower bytes ++ 10 ∷ [])
spaced [] some = absurd (some refl)
spaced (b ∷ bytes) some = refl

-- the same, one after the other
pub spaced_put : (bytes o p q r : List ℕ) → length bytes ≢ 0 → p ≡ o ++ 32 ∷ [] → q ≡ p ++ encode_lower bytes → r ≡ q ++ 10 ∷ []
    → r ≡ o ++ rest_of_line (hex_words bytes)
spaced_put bytes o p q r some space digits end =
    end ∙ (ap (λ z. z ++ 10 ∷ []) (digits ∙ ap (λ z. z ++ encode_lower bytes) space) ∙ (append_assoc (o ++ 32 ∷ []) (encode_lower bytes) (10 ∷ [])
    ∙ (append_assoc o (32 ∷ []) (encode_lower bytes ++ 10 ∷ []) ∙ ap (λ z. o ++ z) (sym (spaced bytes some)))))
