-- How a reader goes through texts: piece by piece, through words that have no sign, and through values.
use Rattle.std.proofs.Common.{◌≡◌, ℕ, zero, suc, ◌+◌, ◌/◌, ◌%◌, ◌<◌, ◌≢◌, Bool, true, false, eqb, refl, sym, ap, ◌∙◌, arith, ne_eqb, true≢false, List, [], ◌∷◌}
use Rattle.std.proofs.Common.{◌++◌, map}
use borrow.Author.Tests.{tests}
use Rattle.std.specs.Prelude.{◌==◌, nat_lt, not, ◌||◌, ◌&&◌, if◌then◌else◌, codes}
use Rattle.std.specs.List.{concat, flat_map, list_all}
use Rattle.std.specs.Fmt.{decimal, digit_glyph, digits, digits_onto}
use Rattle.rh_figure.specs.Phrases.{Text, where_so}
use Rattle.rh_sheet.specs.Markup.{escape, escaped_byte}
use Rattle.rh_sheet.specs.WellFormed.{Reader, Words, Sign, Within, Lost, Quoted, read_byte, read_on}

abbrev pub Same : Reader → Reader → Type 0
Same r s = r ≡ s

both_on : (r : Reader) (a b : Text) → read_on r (a ++ b) ≡ read_on (read_on r a) b
both_on r [] b = refl
both_on r (c ∷ a) b = both_on (read_byte r.0 r.1 c) a b

-- one text behind another
pub on : (r : Reader) (a b : Text) {s u : Reader} → read_on r a ≡ s → read_on s b ≡ u → read_on r (a ++ b) ≡ u
on r a b {s} {u} first rest = both_on r a b ∙ ap (λ (q : Reader). read_on q b) first ∙ rest

-- ---- texts of pieces

-- a piece of a text: fixed, or one that leaves the reader where it is, or one that takes it elsewhere
pub data Piece : Type 0 where
  Fixed : (text : Text) → Piece
  Stays : (text : Text) → Piece
  Goes : (text : Text) (to : Reader) → Piece

abbrev pub text_of : Piece → Text
text_of (Fixed t) = t
text_of (Stays t) = t
text_of (Goes t to) = t

-- where a reader stands behind some pieces
abbrev pub behind : Reader → List Piece → Reader
behind r [] = r
behind r (Fixed t ∷ ps) = behind (read_on r t) ps
behind r (Stays t ∷ ps) = behind r ps
behind r (Goes t to ∷ ps) = behind to ps

-- what has to be shown of them
abbrev pub Goes_on : Reader → List Piece → Type 0
Goes_on r [] = Unit {0}
Goes_on r (Fixed t ∷ ps) = Goes_on (read_on r t) ps
Goes_on r (Stays t ∷ ps) = Same (read_on r t) r × Goes_on r ps
Goes_on r (Goes t to ∷ ps) = Same (read_on r t) to × Goes_on to ps

pub through : (r : Reader) (ps : List Piece) → Goes_on r ps → read_on r (concat (map text_of ps)) ≡ behind r ps
through r [] goes = refl
through r (Fixed t ∷ ps) goes = both_on r t (concat (map text_of ps)) ∙ through (read_on r t) ps goes
through r (Stays t ∷ ps) goes = on r t (concat (map text_of ps)) goes.0 (through r ps goes.1)
through r (Goes t to ∷ ps) goes = on r t (concat (map text_of ps)) goes.0 (through to ps goes.1)

-- ---- texts that leave a reader where it is

-- a text among words
pub record Whole (t : Text) : Type 0 where
  pub reads : (around : List Text) → Same (read_on (around, Words) t) (around, Words)

-- a text in a value
pub record Value (t : Text) : Type 0 where
  pub reads : (around : List Text) (name : Text) → Same (read_on (around, Quoted name) t) (around, Quoted name)

pub whole-both : (a b : Text) → Whole a → Whole b → Whole (a ++ b)
whole-both a b first rest =
    record { reads = λ around. on (around, Words) a b (first.reads around) (rest.reads around) }

pub whole-if : (b : Bool) (s t : Text) → Whole s → Whole t → Whole (if b then s else t)
whole-if true s t first second = first
whole-if false s t first second = second

pub whole-none : Whole []
whole-none = record { reads = λ around. refl }

pub whole-so : (b : Bool) (t : Text) → Whole t → Whole (where_so b t)
whole-so b t is = whole-if b t [] is whole-none

pub whole-all : {X : Type 0} (f : X → Text) (xs : List X) → ((x : X) → Whole (f x)) → Whole (flat_map f xs)
whole-all f [] each = whole-none
whole-all f (x ∷ xs) each = whole-both (f x) (flat_map f xs) (each x) (whole-all f xs each)

pub value-both : (a b : Text) → Value a → Value b → Value (a ++ b)
value-both a b first rest =
    record { reads = λ around name. on (around, Quoted name) a b (first.reads around name) (rest.reads around name) }

pub value-if : (b : Bool) (s t : Text) → Value s → Value t → Value (if b then s else t)
value-if true s t first second = first
value-if false s t first second = second

pub value-none : Value []
value-none = record { reads = λ around name. refl }

pub value-so : (b : Bool) (t : Text) → Value t → Value (where_so b t)
value-so b t is = value-if b t [] is value-none

pub value-all : {X : Type 0} (f : X → Text) (xs : List X) → ((x : X) → Value (f x)) → Value (flat_map f xs)
value-all f [] each = value-none
value-all f (x ∷ xs) each = value-both (f x) (flat_map f xs) (each x) (value-all f xs each)

-- ---- bytes that are no signs

-- bytes of which none is `<` or a quote
abbrev pub Quiet : Text → Type 0
Quiet [] = Unit {0}
Quiet (b ∷ t) = ((eqb b 60 ≡ false) × (eqb b 34 ≡ false)) × Quiet t

word : (around : List Text) (e : Bool) → e ≡ false → Same (around, if e then Sign else Words) (around, Words)
word around e none = ap (λ (e : Bool). (around, if e then Sign else Words)) none

quiet-whole : (t : Text) → Quiet t → Whole t
quiet-whole [] quiet = whole-none
quiet-whole (b ∷ t) quiet =
    whole-both (b ∷ []) t (record { reads = λ around. word around (eqb b 60) quiet.0.0 }) (quiet-whole t quiet.1)

letter : (around : List Text) (name : Text) (d e : Bool) → d ≡ false → e ≡ false
    → Same (around, if d then Within name else if e then Lost else Quoted name) (around, Quoted name)
letter around name d e no_quote no_sign =
    ap (λ (d : Bool). (around, if d then Within name else if e then Lost else Quoted name)) no_quote
    ∙ ap (λ (e : Bool). (around, if e then Lost else Quoted name)) no_sign

quiet-value : (t : Text) → Quiet t → Value t
quiet-value [] quiet = value-none
quiet-value (b ∷ t) quiet = value-both
    (b ∷ []) t (record { reads = λ around name. letter around name (eqb b 34) (eqb b 60) quiet.0.1 quiet.0.0 })
    (quiet-value t quiet.1)

-- whether none of the bytes is a sign
abbrev pub is_plain : Text → Bool
is_plain t = list_all (λ b. not (b == 60 || b == 34)) t

plain-quiet : (t : Text) → is_plain t ≡ true → Quiet t
plain-quiet [] is = tt
plain-quiet (b ∷ t) is = go (eqb b 60) (eqb b 34) (is_plain t) refl refl refl is (plain-quiet t)
  where
    go : (s q p : Bool) → eqb b 60 ≡ s → eqb b 34 ≡ q → is_plain t ≡ p → (not (s || q) && p) ≡ true
        → (is_plain t ≡ true → Quiet t) → Quiet (b ∷ t)
    go true q p sign quote rest is more = absurd (true≢false (sym is))
    go false true p sign quote rest is more = absurd (true≢false (sym is))
    go false false p sign quote rest is more = ((sign, quote), more (rest ∙ is))

-- a fixed text in a value
pub plain : {t : Text} → is_plain t ≡ true → Value t
plain {t} is = quiet-value t (plain-quiet t is)

-- ---- digits

-- a digit is none of the signs
digit-quiet : (d : ℕ) → d < 10 → Quiet (digit_glyph false d ∷ [])
digit-quiet d small = ((here 60 (λ e. omega (arith, e, small)), here 34 (λ e. omega (arith, e, small))), tt)
  where
    low : nat_lt d 10 ≡ true
    low = grind (arith, tests)

    here : (sign : ℕ) → 48 + d ≢ sign → eqb (digit_glyph false d) sign ≡ false
    here sign other = ap (λ (t : Bool). eqb (if t then 48 + d else 87 + d) sign) low ∙ ne_eqb (48 + d) sign other

onto-quiet : (k n : ℕ) (acc : Text) → Quiet acc → Quiet (digits_onto k 10 false n acc)
onto-quiet zero n acc quiet = quiet
onto-quiet (suc k) n acc quiet =
    let here : Quiet (digit_glyph false (n % 10) ∷ acc) = ((digit-quiet (n % 10) (omega arith)).0, quiet) in
    go (n / 10 == 0) here (onto-quiet k (n / 10) (digit_glyph false (n % 10) ∷ acc) here)
  where
    go : (t : Bool) → Quiet (digit_glyph false (n % 10) ∷ acc)
        → Quiet (digits_onto k 10 false (n / 10) (digit_glyph false (n % 10) ∷ acc))
        → Quiet (if t then digit_glyph false (n % 10) ∷ acc else digits_onto k 10 false (n / 10) (digit_glyph false (n % 10) ∷ acc))
    go true a b = a
    go false a b = b

decimal-quiet : (n : ℕ) → Quiet (decimal n)
unfolding digits
decimal-quiet n = onto-quiet 64 n [] tt

pub decimal-whole : (n : ℕ) → Whole (decimal n)
decimal-whole n = quiet-whole (decimal n) (decimal-quiet n)

pub decimal-value : (n : ℕ) → Value (decimal n)
decimal-value n = quiet-value (decimal n) (decimal-quiet n)

-- ---- what is escaped

-- a byte that was escaped as its tests say
byte-whole : (p q r s : Bool) (b : ℕ) → eqb b 60 ≡ q
    → Whole (if p then codes "&amp;" else if q then codes "&lt;" else if r then codes "&gt;" else if s then codes "&quot;" else b ∷ [])
byte-whole true q r s b none = record { reads = λ around. refl }
byte-whole false true r s b none = record { reads = λ around. refl }
byte-whole false false true s b none = record { reads = λ around. refl }
byte-whole false false false true b none = record { reads = λ around. refl }
byte-whole false false false false b none = record { reads = λ around. word around (eqb b 60) none }

pub escape-whole : (t : Text) → Whole (escape t)
escape-whole t =
    whole-all escaped_byte t (λ b. byte-whole (b == 38) (b == 60) (b == 62) (b == 34) b refl)
