-- The texts of cards.
use Rattle.rh_map.proofs.Common.{◌≡◌, ℕ, ◌<◌, ◌+◌, ◌*◌, Bool, List, [], ◌∷◌, ◌++◌, length, length-append, ap, ◌∙◌, arith, codes, decimal, size_text}
use Rattle.std.proofs.lemmas.Grind.{common_steps}
use Rattle.std.specs.List.{concat}
use Rattle.rh_defs.specs.declared.message.Action.{Action}
use Rattle.rh_defs.specs.declared.message.EventCode.{EventCode}
use Rattle.rh_defs.specs.Messages.{code_number}
use Rattle.rh_defs.specs.Text.{address, action_name}
use Rattle.rh_figure.specs.Cards.{Card, CardKind, FlexCard, PostCard, between_text, flex_card, message_card}
use Rattle.rh_figure.specs.Map.{card_line}
use Rattle.rh_map.specs.MapCards.{IsFrontOf, front_text}
use Rattle.rh_map.specs.Inner.TextLines.{texts_line}
use Rattle.hex.specs.Hex.{encode_lower, lower_digits}
use Rattle.hex.proofs.HexLemmas.{length-encode_with}

-- a row with the digits of some bytes behind it
pub digits-length : (row new bytes : List ℕ) → new ≡ row ++ encode_lower bytes → length new ≡ length row + 2 * length bytes
digits-length row new bytes e =
    omega (arith, ap length e, length-append row (encode_lower bytes), length-encode_with lower_digits bytes)

-- the line of a card whose first text isn't empty
card-texts : (kind : CardKind) (a : ℕ) (first second third : List ℕ) (fresh : Bool)
    → texts_line (a ∷ first) second third fresh
    ≡ card_line (record { kind = kind; first = a ∷ first; second = second; third = third; fresh = fresh })
card-texts kind a first [] [] fresh = grind (arith, common_steps)
card-texts kind a first [] (c ∷ third) fresh = grind (arith, common_steps)
card-texts kind a first (b ∷ second) [] fresh = grind (arith, common_steps)
card-texts kind a first (b ∷ second) (c ∷ third) fresh = grind (arith, common_steps)

-- the same of a first text that is known to be something
pub some-texts : (kind : CardKind) (first second third : List ℕ) (fresh : Bool) → 0 < length first
    → texts_line first second third fresh
    ≡ card_line (record { kind = kind; first = first; second = second; third = third; fresh = fresh })
some-texts kind [] second third fresh some = absurd (omega (arith, some))
some-texts kind (a ∷ first) second third fresh some = card-texts kind a first second third fresh

-- the line of a message's card, by its three texts
pub message-line : (ref : ℕ) (action : Action) (code : EventCode) (from to place first second third : List ℕ)
    (fresh : Bool) → 0 < length first → first ≡ concat (decimal ref ∷ codes " " ∷ action_name action ∷ [])
    → second ≡ between_text code from to → third ≡ concat (decimal (code_number code) ∷ codes ", " ∷ place ∷ [])
    → texts_line first second third fresh ≡ card_line (message_card ref action code from to place fresh)
message-line ref action code from to place first second third fresh some one two three =
    some-texts PostCard first second third fresh some
    ∙ (ap (λ t. card_line (record { kind = PostCard; first = t; second = second; third = third; fresh = fresh })) one
    ∙ (ap (λ t. card_line (card-of t third)) two ∙ ap (λ t. card_line (card-of (between_text code from to) t)) three))
  where
    card-of : List ℕ → List ℕ → Card
    card-of t u = record {
      kind = PostCard;
      first = concat (decimal ref ∷ codes " " ∷ action_name action ∷ []);
      second = t;
      third = u;
      fresh = fresh;
    }

-- the line of a flex block's card, by what is read of the block
pub flex-line : (at k size : ℕ) (front user bytes name : List ℕ) (fresh : Bool) → IsFrontOf size front bytes
    → name ≡ concat (codes "anchor " ∷ decimal k ∷ codes " " ∷ address at ∷ [])
    → texts_line name (size_text size ++ user) (front_text size front) fresh ≡ card_line (flex_card at k bytes user fresh)
flex-line at k size front user bytes name fresh p e =
    rw (e, ← p.whole, ← p.first) (card-texts FlexCard 97 _ _ _ fresh)
