-- What is written of cards, one after the other.
use Rattle.rh_pictures.proofs.Common.{◌≡◌, ℕ, ◌+◌, Bool, refl, ap, ap₂, sym, ◌∙◌, List, [], ◌∷◌, ◌++◌, codes, nat_lt, flat_map, flat_map-append, Text, where_so}
use Rattle.rh_pictures.proofs.Common.{escape, escaped_byte, band_text_from}
use Rattle.hex.specs.Hex.{encode_lower}
use Rattle.rh_figure.specs.Cards.{Card, CardKind}
use Rattle.rh_figure.specs.Phrases.{bytes_text}
use Rattle.rh_map.specs.MapCards.{IsFrontOf, front_text}
use Rattle.rh_sheet.specs.SheetCards.{card_sentence}
use Rattle.rh_pictures.specs.declared.sheet.bands.BandForm.TheVariants.{Told}

-- ---- a card by its parts

abbrev pub card_with : CardKind → Text → Text → Text → Bool → Card
card_with kind first second third fresh =
    record { kind = kind; first = first; second = second; third = third; fresh = fresh }

pub card-same : (kind : CardKind) {a b c p q r : Text} {f g : Bool} → a ≡ p → b ≡ q → c ≡ r → f ≡ g
    → card_with kind a b c f ≡ card_with kind p q r g
card-same kind {a} {b} {c} {p} {q} {r} {f} {g} i j k l =
    ap (λ z. card_with kind z b c f) i
    ∙ (ap (λ z. card_with kind p z c f) j
    ∙ (ap (λ z. card_with kind p q z f) k
    ∙ ap (λ z. card_with kind p q r z) l))

-- the first bytes of a block
pub front-bytes : (size : ℕ) (front bytes : List ℕ) → IsFrontOf size front bytes → front_text size front ≡ bytes_text bytes
front-bytes size front bytes p =
    ap₂ (λ f n. encode_lower f ++ where_so (nat_lt 7 n) (codes "..")) (sym p.first) (sym p.whole)

-- ---- cards that are read out

pub told-all : (k : ℕ) (cards : List Card) → band_text_from Told k cards ≡ escape (flat_map card_sentence cards)
told-all k [] = refl
told-all k (c ∷ cards) =
    ap (λ z. escape (card_sentence c) ++ z) (told-all (k + 1) cards)
    ∙ sym (flat_map-append escaped_byte (card_sentence c) (flat_map card_sentence cards))
