-- What stands in a text ends no element.
use Rattle.std.proofs.Common.{ℕ, ◌<◌, ◌≡◌, ◌≢◌, refl, sym, ◌∙◌, arith, Bool, true, false, List, [], ◌∷◌, ◌++◌, eq-eqb, true≢false}
use Rattle.std.specs.Prelude.{◌==◌, if◌then◌else◌, codes}
use Rattle.rh_sheet.specs.Markup.{escape}
use Rattle.rh_sheet.specs.SheetLaws.{IsEscaped, EscapesAll, begins_sign}

-- a letter before such a text
letter : (b : ℕ) (t : List ℕ) → 62 < b → IsEscaped t → IsEscaped (b ∷ t)
letter b t high rest = (
  record {
    less = λ e. omega (arith, e, high);
    more = λ e. omega (arith, e, high);
    quote = λ e. omega (arith, e, high);
    sign = λ e. absurd (omega (arith, e, high));
  },
  rest,
)

semicolon : (t : List ℕ) → IsEscaped t → IsEscaped (59 ∷ t)
semicolon t rest = (
  record {
    less = λ e. omega (arith, e);
    more = λ e. omega (arith, e);
    quote = λ e. omega (arith, e);
    sign = λ e. absurd (omega (arith, e));
  },
  rest,
)

ampersand : (t : List ℕ) → begins_sign t ≡ true → IsEscaped t → IsEscaped (38 ∷ t)
ampersand t begins rest = (
  record {
    less = λ e. omega (arith, e);
    more = λ e. omega (arith, e);
    quote = λ e. omega (arith, e);
    sign = λ e. begins;
  },
  rest,
)

-- a byte that is none of the four, as its tests say
other : (b : ℕ) (t : List ℕ) → b ≢ 38 → b ≢ 60 → b ≢ 62 → b ≢ 34 → IsEscaped t → IsEscaped (b ∷ t)
other b t no_sign no_less no_more no_quote rest = (
  record { less = no_less; more = no_more; quote = no_quote; sign = λ e. absurd (no_sign e) },
  rest,
)

-- a byte that was escaped as its tests say, before such a text
tested : (p q r s : Bool) (b : ℕ) (t : List ℕ) → (p ≡ false → b ≢ 38) → (q ≡ false → b ≢ 60) → (r ≡ false → b ≢ 62)
    → (s ≡ false → b ≢ 34) → IsEscaped t
    → IsEscaped ((
    if p then codes "&amp;"
    else if q then codes "&lt;"
    else if r then codes "&gt;"
    else if s then codes "&quot;"
    else b ∷ []
    ) ++ t)
tested true q r s b t no_sign no_less no_more no_quote rest = ampersand
    (97 ∷ 109 ∷ 112 ∷ 59 ∷ t) refl
    (letter 97 _ (omega arith) (letter 109 _ (omega arith) (letter 112 _ (omega arith) (semicolon t rest))))
tested false true r s b t no_sign no_less no_more no_quote rest = ampersand
    (108 ∷ 116 ∷ 59 ∷ t) refl (letter 108 _ (omega arith) (letter 116 _ (omega arith) (semicolon t rest)))
tested false false true s b t no_sign no_less no_more no_quote rest = ampersand
    (103 ∷ 116 ∷ 59 ∷ t) refl (letter 103 _ (omega arith) (letter 116 _ (omega arith) (semicolon t rest)))
tested false false false true b t no_sign no_less no_more no_quote rest = ampersand
    (113 ∷ 117 ∷ 111 ∷ 116 ∷ 59 ∷ t) refl
    (letter 113 _ (omega arith) (letter 117 _ (omega arith) (letter 111 _ (omega arith) (letter 116 _ (omega arith)
    (semicolon t rest)))))
tested false false false false b t no_sign no_less no_more no_quote rest =
    other b t (no_sign refl) (no_less refl) (no_more refl) (no_quote refl) rest

-- a test that says no
apart : (a b : ℕ) → (a == b) ≡ false → a ≢ b
apart a b fails = λ e. true≢false (sym (eq-eqb a b e) ∙ fails)

pub escapes-all : EscapesAll
escapes-all [] = tt
escapes-all (b ∷ t) = tested
    (b == 38) (b == 60) (b == 62) (b == 34) b (escape t) (apart b 38) (apart b 60) (apart b 62) (apart b 34)
    (escapes-all t)
