-- What a line means can be spelled, and its printed line is not the longer one.
use Rattle.rh_laws.proofs.Common.{◌≡◌, ℕ, zero, suc, ◌+◌, ◌-◌, ◌<◌, ◌≤◌, Bool, true, false, ◌&&◌, not, cond, List, [], ◌∷◌, ◌++◌, length, take, refl}
use Rattle.rh_defs.specs.declared.sizes.TheConstants.{GREATEST_NUMBER}
use Rattle.rh_laws.proofs.Common.{sym, subst}
use Rattle.rh_laws.proofs.Common.{◌∙◌, ap, arith, length-append, inl, inr, ◌⊎◌, nat_le, nat_lt, ◌==◌, ℤ, pos, Some, None, Result, Ok, Err, if◌then◌else◌}
use Rattle.rh_laws.proofs.Common.{unwrap_or, slice_get, slice_index, drop, list_all, join_with_byte, decimal, signed_decimal, bytes_eq, is_ascii_digit}
use Rattle.rh_laws.proofs.Common.{nat_tests, bytes_eq-Decides, encode_lower, Unknown, Command, space, Number, Choice, Maybe, GrammarRow, rows, is_name, is_leaf}
use Rattle.rh_laws.proofs.Common.{is_decimal, number_of, longest_line, nth_word, hex_number, grammar_row, command_of, is_skipped, line_means, Words, address}
use Rattle.rh_laws.proofs.Common.{in_range}
use Rattle.rh_laws.proofs.Common.{all_in_range, and_left, and_right}
use Rattle.std.specs.List.{slice_split, onto_first, filter}
use Rattle.std.specs.Char.{is_ascii_alphabetic, is_ascii_alphanumeric}
use Rattle.hex.specs.declared.error.FromHexError.{FromHexError}
use Rattle.hex.specs.Hex.{lower_digits, decode_of, is_hex_digit}
use Rattle.hex.proofs.HexLemmas.{decode_of-ok, length-encode_with}
use Rattle.rh_defs.specs.declared.fault.LineFault.{LineFault}
use Rattle.rh_defs.specs.declared.fault.LineFault.TheVariants.{TooLong, Count, Word}
use Rattle.rh_defs.specs.Grammar.{Form, Name, Leaf, Ref, Delta, Address, Bytes, Data, Choices, Third, First, Middle, Last, Value, Values, Maker, Spelling}
use Rattle.rh_defs.specs.Grammar.{spelled_by}
use Rattle.rh_defs.proofs.GrammarLaws.{Spells, AllSpell, rows-spell}
use Rattle.rh_defs.specs.Forms.{is_graphic, last_ref}
use Rattle.rh_defs.specs.Chain.{◌>>=◌}
use Rattle.rh_defs.specs.Line.{Meaning, words_of, name_at, number_at, delta_at, signed, is_negative, unsigned, is_address, address_at, leaf_at}
use Rattle.rh_defs.specs.OtherBodies.{is_whole as are_words}
use Rattle.rh_defs.specs.Line.{choice_at, choices_at, data_read_at, bytes_read_at, value_at, command_from, is_count, follow, row_means, command_by}
use Rattle.rh_defs.specs.Script.{commands_in}
use Rattle.rh_safety.proofs.Lines.{commands_in_range}
use Rattle.rh_laws.specs.Printer.{form_text, third_word, texts, words_spelled, command_words, is_word, is_sized, are_sized, is_typed, has_sizes, line_of}
use Rattle.rh_laws.specs.Printer.{fits_a_line}
use Rattle.rh_laws.specs.Printer.{AreSpelled}
use Rattle.rh_laws.proofs.Lengths.{decimal_short, hex_short, hex_word}

abbrev pub has_byte : List ℕ → Bool
has_byte w = nat_le 1 (length w)

-- ---- the bytes that words take in a line, each with what parts it from the next

abbrev pub cost : Words → ℕ
cost [] = 0
cost (w ∷ ws) = suc (length w) + cost ws

pub cost_joined : (w : List ℕ) (ws : Words) → suc (length (join_with_byte space (w ∷ ws))) ≡ cost (w ∷ ws)
cost_joined w [] = omega arith
cost_joined w (y ∷ ws) = omega (arith, cost_joined y ws, length-append w (space ∷ join_with_byte space (y ∷ ws)))

cost_first : (x : ℕ) (ws : Words) → 1 ≤ cost ws → cost (onto_first x ws) ≡ suc (cost ws)
cost_first x [] h = absurd (omega arith)
cost_first x (w ∷ ws) h = omega arith

cost_split : (xs : List ℕ) → cost (slice_split (λ b. b == space) xs) ≡ suc (length xs)
cost_split [] = refl
cost_split (x ∷ xs) = by (x == space) refl (cost_split xs)
  where
    by : (b : Bool) → (x == space) ≡ b → cost (slice_split (λ b. b == space) xs) ≡ suc (length xs) →
        cost (slice_split (λ b. b == space) (x ∷ xs)) ≡ suc (length (x ∷ xs))
    by true e rest = rw e (omega (arith, rest))
    by false e rest = rw e (omega (arith, rest, cost_first x (slice_split (λ b. b == space) xs) (omega (arith, rest))))

cost_kept : (test : List ℕ → Bool) (ws : Words) → cost (filter test ws) ≤ cost ws
cost_kept test [] = omega arith
cost_kept test (w ∷ ws) = by (test w) refl (cost_kept test ws)
  where
    by : (b : Bool) → test w ≡ b → cost (filter test ws) ≤ cost ws → cost (filter test (w ∷ ws)) ≤ cost (w ∷ ws)
    by true e rest = rw e (omega (arith, rest))
    by false e rest = rw e (omega (arith, rest))

pub cost_words : (line : List ℕ) → cost (words_of line) ≤ suc (length line)
cost_words line =
    let kept = cost_kept (λ w. not (length w == 0)) (slice_split (λ b. b == space) line) in
    omega (arith, kept, cost_split line)

pub cost_front : (ws : Words) (n : ℕ) → cost (take n ws) ≤ cost ws
cost_front [] zero = omega arith
cost_front [] (suc n) = omega arith
cost_front (w ∷ ws) zero = omega arith
cost_front (w ∷ ws) (suc n) = omega (arith, cost_front ws n)

abbrev word_at : Words → ℕ → List ℕ
word_at ws n = unwrap_or (slice_get ws n) []

cost_at : (ws : Words) (n : ℕ) → 1 ≤ length (word_at ws n) →
    cost (take (suc n) ws) ≡ cost (take n ws) + suc (length (word_at ws n))
cost_at [] n h = absurd (omega arith)
cost_at (w ∷ ws) zero h = omega arith
cost_at (w ∷ ws) (suc n) h = omega (arith, cost_at ws n h)

-- a word that has a byte is one of the words
pub cost_next : (ws : Words) (n : ℕ) → 1 ≤ length (nth_word ws (n + 1)) →
    cost (take (suc n) ws) ≡ cost (take n ws) + suc (length (nth_word ws (n + 1)))
cost_next ws n some =
    let same : n ≡ n + 1 - 1 = omega arith in
    subst (λ m. 1 ≤ length (word_at ws m) → cost (take (suc n) ws) ≡ cost (take n ws) + suc (length
    (word_at ws m))) same
    (cost_at ws n) some

-- ---- what a form prints costs no more than the word that it read

-- whether the words of a choice have bytes
abbrev pub is_proper : Form → Bool
is_proper (Choice first second) = nat_le 1 (length first) && nat_le 1 (length second)
is_proper (Choices first second third) = nat_le 1 (length first) && (nat_le 1 (length second) && nat_le 1 (length third))
is_proper (Maybe form) = is_proper form
is_proper form = true

-- what is known of a word's value
record IsPrinted (form : Form) (words : Words) (n : ℕ) (value : Value form) : Type 0 where
  sized : is_sized form value ≡ true
  short : cost (take n words) + cost (form_text form value) ≤ cost (take (suc n) words)

-- a word that has a byte, and what is printed in its place
one_word : (words : Words) (n : ℕ) (printed : List ℕ) → 1 ≤ length (nth_word words (n + 1)) →
    length printed ≤ length (nth_word words (n + 1)) →
    cost (take n words) + cost (printed ∷ []) ≤ cost (take (suc n) words)
one_word words n printed some short = omega (arith, cost_next words n some, short)

-- ---- what a meaning was, where it is one

if_ok : {A : Type 0} (b : Bool) (x y : A) (fault : LineFault) → (if b then Ok x else Err fault) ≡ Ok y →
    (b ≡ true) × (x ≡ y)
if_ok true x y fault e = (refl, cc)
if_ok false x y fault e = absurd cc

then_ok : {A B : Type 0} (m : Meaning A) (next : A → Meaning B) (y : B) → (m >>= next) ≡ Ok y →
    (x : A) × (m ≡ Ok x) × (next x ≡ Ok y)
unfolding ◌>>=◌
then_ok (Ok x) next y e = (x, refl, e)
then_ok (Err fault) next y e = absurd cc

-- ---- each form

-- a word that stands for itself
itself : (words : Words) (n : ℕ) (w : List ℕ) → nat_le 1 (length (nth_word words (n + 1))) ≡ true →
    nth_word words (n + 1) ≡ w →
    cost (take n words) + cost (w ∷ []) ≤ cost (take (suc n) words)
itself words n w some same =
    let has : 1 ≤ length (nth_word words (n + 1)) = grind (arith, nat_tests, some) in
    one_word words n w has (omega (arith, ap length same))

name_printed : (words : Words) (n : ℕ) (name : List ℕ) → name_at words (n + 1) ≡ Ok name → IsPrinted Name words n name
unfolding name_at
name_printed words n name e =
    let w = nth_word words (n + 1) in
    let told = if_ok (is_name w) w name (Word (n + 1)) e in
    let some = and_left (nat_le 1 (length w)) _ (and_left _ (is_ascii_alphabetic (slice_index w 0)) (and_left _
    (list_all is_ascii_alphanumeric w) told.0)) in
    record { sized = refl; short = itself words n name some told.1 }

leaf_printed : (words : Words) (n : ℕ) (leaf : List ℕ) → leaf_at words (n + 1) ≡ Ok leaf → IsPrinted Leaf words n leaf
unfolding leaf_at
leaf_printed words n leaf e =
    let w = nth_word words (n + 1) in
    let told = if_ok (is_leaf w) w leaf (Word (n + 1)) e in
    let some = and_left (nat_le 1 (length w)) _ (and_left _ (list_all is_graphic w) told.0) in
    record { sized = refl; short = itself words n leaf some told.1 }

decimal_some : (w : List ℕ) → is_decimal w ≡ true → 1 ≤ length w
unfolding is_decimal
decimal_some w h =
    let some = and_right (list_all is_ascii_digit w) _ (and_left _ (nat_le (length w) 10) h) in grind (
      arith,
      nat_tests,
      some,
    )

-- what decimal digits spell, within the numbers asked for, and as it is printed
record IsNumber (words : Words) (n high k : ℕ) : Type 0 where
  most : nat_le k high ≡ true
  short : cost (take n words) + cost (decimal k ∷ []) ≤ cost (take (suc n) words)

number_shown : (words : Words) (n low high k : ℕ) → number_at words (n + 1) low high ≡ Ok k → IsNumber words n high k
unfolding number_at
number_shown words n low high k e =
    let w = nth_word words (n + 1) in
    let told = if_ok (is_decimal w && nat_le low (number_of w) && nat_le (number_of w) high) (number_of w) k (Word
    (n + 1)) e in
    let digits_only = and_left (is_decimal w) _ (and_left _ (nat_le (number_of w) high) told.0) in
    let short : length (decimal k) ≤ length w = subst (λ m. length (decimal m) ≤ length w) told.1
    (decimal_short w digits_only) in
    record {
      most = subst (λ m. nat_le m high ≡ true) told.1 (and_right _ (nat_le (number_of w) high) told.0);
      short = one_word words n (decimal k) (decimal_some w digits_only) short;
    }

-- a number with its sign
signed_short : (w : List ℕ) (negative : Bool) → is_negative w ≡ negative → is_decimal (unsigned w) ≡ true →
    (1 ≤ length w) × (length (signed_decimal (signed negative (number_of (unsigned w)))) ≤ length w)
signed_short [] negative e h = absurd (let some = decimal_some [] h in omega (arith, some))
signed_short (b ∷ w) false e h =
    let whole : unsigned (b ∷ w) ≡ b ∷ w = rw e refl in (
      omega arith,
      subst (λ v. length (signed_decimal (pos (number_of v))) ≤ length (b ∷ w)) (sym whole) (decimal_short
          (b ∷ w) (subst (λ v. is_decimal v ≡ true) whole h)),
    )
signed_short (b ∷ w) true e h =
    let rest : unsigned (b ∷ w) ≡ w = rw e refl in
    let short = decimal_short w (subst (λ v. is_decimal v ≡ true) rest h) in (
      omega arith,
      subst (λ v. length (signed_decimal (signed true (number_of v))) ≤ length (b ∷ w)) (sym rest)
          (behind_sign (number_of w) short),
    )
  where
    behind_sign : (n : ℕ) → length (decimal n) ≤ length w → length (signed_decimal (signed true n)) ≤ suc (length w)
    behind_sign zero short = omega (arith, short)
    behind_sign (suc n) short = omega (arith, short)

delta_printed : (words : Words) (n : ℕ) (by : ℤ) → delta_at words (n + 1) ≡ Ok by → IsPrinted Delta words n by
unfolding delta_at
delta_printed words n by e =
    let w = nth_word words (n + 1) in
    let told = if_ok (is_decimal (unsigned w) && nat_le (number_of (unsigned w)) GREATEST_NUMBER) (signed (is_negative w)
    (number_of (unsigned w))) by (Word (n + 1)) e in
    let parts = signed_short w (is_negative w) refl (and_left (is_decimal (unsigned w)) _ told.0) in
    record {
      sized = refl;
      short = one_word words n (signed_decimal by) parts.0 (subst (λ v. length
          (signed_decimal v) ≤ length w) told.1 parts.1);
    }

address_short : (w : List ℕ) → is_address w ≡ true → (1 ≤ length w) × (is_word (hex_number (drop 1 w)) ≡ true) ×
    (length (address (hex_number (drop 1 w))) ≤ length w)
unfolding is_address address
address_short [] h = absurd cc
address_short (b ∷ w) h =
    let front = and_left _ (list_all is_hex_digit w) h in
    let most = and_right _ (nat_le (suc (length w)) 9) front in
    let least = and_right _ (nat_le 2 (suc (length w))) (and_left _ (nat_le (suc (length w)) 9) front) in
    let some : nat_le 1 (length w) ≡ true = grind (arith, nat_tests, least) in
    let few : nat_le (length w) 8 ≡ true = grind (arith, nat_tests, most) in
    (omega arith, hex_word w few, omega (arith, hex_short w some))

address_printed : (words : Words) (n place : ℕ) → address_at words (n + 1) ≡ Ok place →
    IsPrinted Address words n place
unfolding address_at
address_printed words n place e =
    let w = nth_word words (n + 1) in
    let told = if_ok (is_address w) (hex_number (drop 1 w)) place (Word (n + 1)) e in
    let parts = address_short w told.0 in
    record {
      sized = subst (λ v. is_word v ≡ true) told.1 parts.1;
      short = one_word words n (address place) parts.0 (subst (λ v. length (address v) ≤ length w) told.1 parts.2);
    }

-- what two hexadecimal digits for each byte spell
record AreBytes (w bytes : List ℕ) : Type 0 where
  some : 1 ≤ length w
  small : list_all (λ b. nat_lt b 256) bytes ≡ true
  short : length (encode_lower bytes) ≤ length w

all_small : (bytes : List ℕ) → ((i : ℕ) → slice_index bytes i < 256) → list_all (λ b. nat_lt b 256) bytes ≡ true
all_small [] h = refl
all_small (b ∷ bytes) h =
    let first : nat_lt b 256 ≡ true = let small = h 0 in grind (arith, nat_tests, small) in
    rw first (all_small bytes (λ i. h (suc i)))

bytes_by : (words : Words) (n : ℕ) (bytes : List ℕ) (some : Bool) (d : Result (List ℕ) FromHexError) →
    nat_le 1 (length (nth_word words n)) ≡ some →
    decode_of (nth_word words n) ≡ d → bytes_read_at words n ≡ Ok bytes → AreBytes (nth_word words n) bytes
unfolding bytes_read_at
bytes_by words n bytes true (Ok found) q s e =
    let same : found ≡ bytes = let read : Ok found ≡ Ok bytes = subst (λ m. m ≡ Ok bytes) (rw (q, s) refl) e in cc in
    let told = decode_of-ok (nth_word words n) bytes (s ∙ ap Ok same) in
    record {
      some = grind (arith, nat_tests, q);
      small = all_small bytes told.3;
      short = omega (arith, told.2, length-encode_with lower_digits bytes);
    }
bytes_by words n bytes true (Err fault) q s e = absurd (let z : Err (Word n) ≡ Ok bytes = subst (λ m. m ≡ Ok bytes)
    (rw (q, s) refl) e in cc)
bytes_by words n bytes false d q s e = absurd (let z : Err (Word n) ≡ Ok bytes = subst (λ m. m ≡ Ok bytes)
    (rw q refl) e in cc)

bytes_printed : (words : Words) (n : ℕ) (bytes : List ℕ) → bytes_read_at words (n + 1) ≡ Ok bytes →
    IsPrinted Bytes words n bytes
bytes_printed words n bytes e =
    let w = nth_word words (n + 1) in
    let are = bytes_by words (n + 1) bytes (nat_le 1 (length w)) (decode_of w) refl refl e in
    record { sized = are.small; short = one_word words n (encode_lower bytes) are.some are.short }

same_word : (w v : List ℕ) → bytes_eq w v ≡ true → w ≡ v
same_word w v h = (bytes_eq-Decides w v).0 h

choice_by : (words : Words) (n : ℕ) (first second : List ℕ) (is_first : Bool) (is : Bool) →
    bytes_eq (nth_word words n) first ≡ is →
    choice_at words n first second ≡ Ok is_first → nth_word words n ≡ cond is_first first second
unfolding choice_at
choice_by words n first second is_first true q e =
    let read : Ok true ≡ Ok is_first = subst (λ m. m ≡ Ok is_first) (rw q refl) e in
    let same : true ≡ is_first = cc in
    subst (λ b. nth_word words n ≡ cond b first second) same (same_word (nth_word words n) first q)
choice_by words n first second is_first false q e =
    let read : (if bytes_eq (nth_word words n) second then Ok false else Err (Word n)) ≡ Ok is_first = subst
    (λ m. m ≡ Ok is_first) (rw q refl) e in
    let told = if_ok (bytes_eq (nth_word words n) second) false is_first (Word n) read in
    subst (λ b. nth_word words n ≡ cond b first second) told.1 (same_word (nth_word words n) second told.0)

proper_choice : (first second : List ℕ) (is_first : Bool) → (nat_le 1 (length first) && nat_le 1
    (length second)) ≡ true →
    nat_le 1 (length (cond is_first first second)) ≡ true
proper_choice first second true h = and_left _ (nat_le 1 (length second)) h
proper_choice first second false h = and_right (nat_le 1 (length first)) _ h

choice_printed : (words : Words) (n : ℕ) (first second : List ℕ) (is_first : Bool) →
    (nat_le 1 (length first) && nat_le 1 (length second)) ≡ true →
    choice_at words (n + 1) first second ≡ Ok is_first → IsPrinted (Choice first second) words n is_first
choice_printed words n first second is_first proper e =
    let same = choice_by words (n + 1) first second is_first (bytes_eq (nth_word words (n + 1)) first) refl e in
    record {
      sized = refl;
      short = itself words n (cond is_first first second) (subst (λ v. nat_le 1 (length v) ≡ true) (sym same)
          (proper_choice first second is_first proper)) same;
    }

-- one of three words
choices_by : (words : Words) (n : ℕ) (first second third : List ℕ) (which : Third) (is also : Bool) →
    bytes_eq (nth_word words n) first ≡ is → bytes_eq (nth_word words n) second ≡ also →
    choices_at words n first second third ≡ Ok which → nth_word words n ≡ third_word first second third which
unfolding choices_at
choices_by words n first second third which true also q r e =
    let read : Ok First ≡ Ok which = subst (λ m. m ≡ Ok which) (rw q refl) e in
    let same : First ≡ which = cc in
    subst (λ v. nth_word words n ≡ third_word first second third v) same (same_word (nth_word words n) first q)
choices_by words n first second third which false true q r e =
    let read : Ok Middle ≡ Ok which = subst (λ m. m ≡ Ok which) (rw (q, r) refl) e in
    let same : Middle ≡ which = cc in
    subst (λ v. nth_word words n ≡ third_word first second third v) same (same_word (nth_word words n) second r)
choices_by words n first second third which false false q r e =
    let read : (if bytes_eq (nth_word words n) third then Ok Last else Err (Word n)) ≡ Ok which = subst
    (λ m. m ≡ Ok which) (rw (q, r) refl) e in
    let told = if_ok (bytes_eq (nth_word words n) third) Last which (Word n) read in
    subst (λ v. nth_word words n ≡ third_word first second third v) told.1 (same_word (nth_word words n) third told.0)

proper_third : (first second third : List ℕ) (which : Third) → is_proper (Choices first second third) ≡ true →
    nat_le 1 (length (third_word first second third which)) ≡ true
proper_third first second third First h = and_left (nat_le 1 (length first)) _ h
proper_third first second third Middle h =
    and_left (nat_le 1 (length second)) (nat_le 1 (length third)) (and_right (nat_le 1 (length first)) _ h)
proper_third first second third Last h =
    and_right (nat_le 1 (length second)) (nat_le 1 (length third)) (and_right (nat_le 1 (length first)) _ h)

choices_printed : (words : Words) (n : ℕ) (first second third : List ℕ) (which : Third) →
    is_proper (Choices first second third) ≡ true → choices_at words (n + 1) first second third ≡ Ok which →
    IsPrinted (Choices first second third) words n which
choices_printed words n first second third which proper e =
    let w = nth_word words (n + 1) in
    let same = choices_by words (n + 1) first second third which (bytes_eq w first) (bytes_eq w second) refl refl e in
    record {
      sized = refl;
      short = itself words n (third_word first second third which) (subst (λ v. nat_le 1 (length v) ≡ true) (sym same)
          (proper_third first second third which proper)) same;
    }

-- the data of a message
data_printed : (words : Words) (n : ℕ) (bytes : List ℕ) → data_read_at words (n + 1) ≡ Ok bytes →
    IsPrinted Data words n bytes
unfolding data_read_at
data_printed words n bytes e =
    let told = then_ok (bytes_read_at words (n + 1)) (λ bytes. if are_words bytes then Ok bytes else Err (Word (n + 1))) bytes e in
    let one = if_ok (are_words told.0) told.0 bytes (Word (n + 1)) told.2 in
    let printed = bytes_printed words n bytes (told.1 ∙ ap Ok one.1) in
    record { sized = printed.sized; short = printed.short }

cost_more : (ws : Words) (n : ℕ) → cost (take n ws) ≤ cost (take (suc n) ws)
cost_more [] zero = omega arith
cost_more [] (suc n) = omega arith
cost_more (w ∷ ws) zero = omega arith
cost_more (w ∷ ws) (suc n) = omega (arith, cost_more ws n)

maybe_by : (form : Form) (words : Words) (n : ℕ) (value : Value form) (b : Bool) → (length words == n + 1 - 1) ≡ b →
    value_at (Maybe form) words (n + 1) ≡ Ok (Some value) → value_at form words (n + 1) ≡ Ok value
maybe_by form words n value true q e =
    absurd (let read : Ok None ≡ Ok (Some value) = subst (λ m. m ≡ Ok (Some value)) (rw q refl) e in cc)
maybe_by form words n value false q e =
    let read : (value_at form words (n + 1) >>= λ v. Ok (Some v)) ≡ Ok (Some value) =
    subst (λ m. m ≡ Ok (Some value)) (rw q refl) e in
    let told = then_ok (value_at form words (n + 1)) (λ v. Ok (Some v)) (Some value) read in
    let same : told.0 ≡ value = cc told.2 in
    told.1 ∙ ap Ok same

value_printed : (form : Form) (words : Words) (n : ℕ) (value : Value form) → is_proper form ≡ true →
    value_at form words (n + 1) ≡ Ok value → IsPrinted form words n value
value_printed Name words n value proper e = name_printed words n value e
value_printed Leaf words n value proper e = leaf_printed words n value e
value_printed (Number low high) words n value proper e = record { sized = refl; short = (number_shown words n low high value e).short }
value_printed Ref words n value proper e =
    let shown = number_shown words n 1 last_ref value e in record { sized = shown.most; short = shown.short }
value_printed Delta words n value proper e = delta_printed words n value e
value_printed Address words n value proper e = address_printed words n value e
value_printed Bytes words n value proper e = bytes_printed words n value e
value_printed Data words n value proper e = data_printed words n value e
value_printed (Choices first second third) words n value proper e = choices_printed words n first second third value proper e
value_printed (Choice first second) words n value proper e = choice_printed words n first second value proper e
value_printed (Maybe form) words n None proper e = record { sized = refl; short = omega (arith, cost_more words n) }
value_printed (Maybe form) words n (Some value) proper e =
    let printed = value_printed form words n value proper (maybe_by form words n value
    (length words == n + 1 - 1) refl e) in
    record { sized = printed.sized; short = printed.short }

-- ---- a row's command

-- what a command's words cost, made of values behind words of that cost
abbrev pub Writes : (forms : List Form) → Maker forms → ℕ → Type 0
Writes [] command front = (has_sizes command ≡ true) × (cost (command_words command) ≤ front)
Writes (form ∷ forms) make front =
    (value : Value form) → is_sized form value ≡ true → Writes forms (make value) (front + cost (form_text form value))

-- the printed words cost no more than those that were read
record IsShort (words : Words) (c : Command) : Type 0 where
  sizes : has_sizes c ≡ true
  short : cost (command_words c) ≤ cost words

from_writes : (forms : List Form) (make : Maker forms) (words : Words) (n front : ℕ) (c : Command) →
    list_all is_proper forms ≡ true → Writes forms make front → front ≤ cost (take n words) →
    command_from forms make words n ≡ Ok c → IsShort words c
from_writes [] command words n front c proper writes so_far e =
    let same : command ≡ c = cc e in
    let all = cost_front words n in
    record {
      sizes = subst (λ c. has_sizes c ≡ true) same writes.0;
      short = subst (λ c. cost (command_words c) ≤ cost words) same (omega (arith, writes.1, so_far, all));
    }
from_writes (form ∷ forms) make words n front c proper writes so_far e =
    let told = then_ok (value_at form words (n + 1)) (λ value. command_from forms (make value) words (n + 1)) c e in
    let printed = value_printed form words n told.0 (and_left (is_proper form)
    (list_all is_proper forms) proper) told.1 in
    let next : suc n ≡ n + 1 = omega arith in
    let paid : front + cost (form_text form told.0) ≤ cost (take (n + 1) words) =
    subst (λ m. front + cost (form_text form told.0) ≤ cost (take m words)) next (omega (arith, so_far, printed.short)) in
    from_writes forms (make told.0) words (n + 1) (front + cost (form_text form told.0)) c
    (and_right (is_proper form) (list_all is_proper forms) proper) (writes told.0 printed.sized) paid told.2

-- the same of a row, whose own words have bytes
pub record RowWrites (row : GrammarRow) : Type 0 where
  pub proper : list_all is_proper row.forms ≡ true
  pub named : list_all has_byte (row.first ∷ row.further) ≡ true
  pub writes : Writes row.forms row.make (cost (row.first ∷ row.further))

abbrev pub AllWrite : List GrammarRow → Type 0
AllWrite [] = Unit {0}
AllWrite (row ∷ rows) = RowWrites row × AllWrite rows

cost_both : (ws vs : Words) → cost (ws ++ vs) ≡ cost ws + cost vs
cost_both [] vs = omega arith
cost_both (w ∷ ws) vs = omega (arith, cost_both ws vs)

-- a command whose spelling is known
spelled_writes : (forms : List Form) (make : Maker forms) (give : Values forms → Spelling) (front : ℕ) → Spells forms make give →
    ((values : Values forms) → is_typed (give values) ≡ are_sized forms values) →
    ((values : Values forms) → cost (words_spelled (give values)) ≡ front + cost (texts forms values)) → Writes forms make front
unfolding has_sizes command_words
spelled_writes [] command give front spells sizes costs = (
  ap is_typed spells ∙ sizes tt,
  let all = ap (λ s. cost (words_spelled s)) spells in omega (arith, all, costs tt),
)
spelled_writes (form ∷ forms) make give front spells sizes costs = λ value sized.
    spelled_writes forms (make value) (λ values. give (value, values)) (front + cost (form_text form value)) (spells value)
    (λ values. sizes (value, values) ∙ ap (λ b. b && are_sized forms values) sized)
    (λ values. omega (arith, costs (value, values), cost_both (form_text form value) (texts forms values)))

-- a row whose own words, and those of its choices, have bytes
abbrev pub is_sound : GrammarRow → Bool
is_sound row = list_all is_proper row.forms && list_all has_byte (row.first ∷ row.further)

all-write : (rs : List GrammarRow) → AllSpell rs → list_all is_sound rs ≡ true → AllWrite rs
all-write [] all sound = tt
all-write (row ∷ rs) all sound =
    let here = and_left (is_sound row) (list_all is_sound rs) sound in (
      record {
        proper = and_left (list_all is_proper row.forms) (list_all has_byte (row.first ∷ row.further)) here;
        named = and_right (list_all is_proper row.forms) (list_all has_byte (row.first ∷ row.further)) here;
        writes =
            spelled_writes row.forms row.make (spelled_by row) (cost (row.first ∷ row.further)) all.0 (λ values. refl)
            (λ values. cost_both (row.first ∷ row.further) (texts row.forms values));
      },
      all-write rs all.1 (and_right (is_sound row) (list_all is_sound rs) sound),
    )

-- the one or the other of two meanings
either : {A : Type 0} (b : Bool) (m n : Meaning A) (y : A) → (if b then m else n) ≡ Ok y →
    ((b ≡ true) × (m ≡ Ok y)) ⊎ (n ≡ Ok y)
either true m n y e = inl (refl, e)
either false m n y e = inr e

-- a row that begins a line, and what its words cost
record IsBegun (words : Words) (row : GrammarRow) : Type 0 where
  row_writes : RowWrites row
  begun : (bytes_eq (nth_word words 1) row.first && follow row.further words 1) ≡ true

row_found : (rs : List GrammarRow) (words : Words) (fault : LineFault) (row : GrammarRow) → AllWrite rs →
    grammar_row rs (nth_word words 1) words fault ≡ Ok row → IsBegun words row
row_found [] words fault row all e = absurd cc
row_found (r ∷ rs) words fault row all e =
    elim (either (bytes_eq (nth_word words 1) r.first && follow r.further words 1) (Ok r) _ row e) [
      | inl this ↦ let same : r ≡ row = cc this.1 in subst (IsBegun words) same
          (record { row_writes = all.0; begun = this.0 })
      | inr other ↦ row_found rs words _ row all.1 other
    ]

follow_cost : (texts words : Words) (n front : ℕ) → list_all has_byte texts ≡ true → follow texts words n ≡ true →
    front ≤ cost (take n words) → front + cost texts ≤ cost (take (n + length texts) words)
follow_cost [] words n front some h so_far =
    let same : n ≡ n + length {A = List ℕ} [] = omega arith in
    subst (λ m. front + 0 ≤ cost (take m words)) same (omega (arith, so_far))
follow_cost (w ∷ texts) words n front some h so_far =
    let here = same_word (nth_word words (n + 1)) w (and_left _ (follow texts words (n + 1)) h) in
    let has : 1 ≤ length (nth_word words (n + 1)) = let told = and_left (has_byte w)
    (list_all has_byte texts) some in grind (arith, nat_tests, told, ap length here) in
    let next : suc n ≡ n + 1 = omega arith in
    let paid : front + cost (w ∷ []) ≤ cost (take (n + 1) words) =
    subst (λ m. front + cost (w ∷ []) ≤ cost (take m words)) next (omega (
      arith,
      so_far,
      cost_next words n has,
      ap length here,
    )) in
    let rest = follow_cost texts words (n + 1) (front + cost (w ∷ [])) (and_right (has_byte w)
    (list_all has_byte texts) some) (and_right _ (follow texts words (n + 1)) h) paid in
    let end : n + 1 + length texts ≡ n + length (w ∷ texts) = omega arith in
    subst (λ m. front + cost (w ∷ texts) ≤ cost (take m words)) end (omega (arith, rest))

row_cost : (words : Words) (row : GrammarRow) → IsBegun words row →
    cost (row.first ∷ row.further) ≤ cost (take (1 + length row.further) words)
row_cost words row begun =
    let first = same_word (nth_word words 1) row.first (and_left _ (follow row.further words 1) begun.begun) in
    let has : 1 ≤ length (nth_word words 1) = let told = and_left (has_byte row.first)
    (list_all has_byte row.further) begun.row_writes.named in grind (arith, nat_tests, told, ap length first) in
    follow_cost row.further words 1 (suc (length row.first)) (and_right (has_byte row.first)
    (list_all has_byte row.further) begun.row_writes.named)
    (and_right (bytes_eq (nth_word words 1) row.first) _ begun.begun) (omega (
      arith,
      cost_next words 0 has,
      ap length first,
    ))

-- ---- a line

command_short : AllWrite rows → (words : Words) (c : Command) → command_of words ≡ Ok c → IsShort words c
unfolding command_by
command_short all words c e =
    let found = then_ok (grammar_row rows (nth_word words 1) words Unknown) (λ row. row_means row words) c e in
    let row = found.0 in
    let begun = row_found rows words Unknown row all found.1 in
    elim (either (is_count row.forms (1 + length row.further) (length words)) (command_from row.forms row.make words
    (1 + length row.further)) (Err Count) c found.2) [
      | inl counted ↦
          from_writes row.forms row.make words (1 + length row.further) (cost (row.first ∷ row.further)) c
          begun.row_writes.proper begun.row_writes.writes (row_cost words row begun) counted.1
      | inr fault ↦ absurd cc
    ]

-- what is known of a line that means a command
record MeansOne (line : List ℕ) (c : Command) : Type 0 where
  fits : nat_lt longest_line (length line) ≡ false
  is_short : IsShort (words_of line) c

means_one : AllWrite rows → (line : List ℕ) (c : Command) → line_means line ≡ Ok (Some c) → MeansOne line c
unfolding line_means
means_one all line c e = by (nat_lt longest_line (length line)) refl (is_skipped (words_of line)) refl
  where
    by : (long : Bool) → nat_lt longest_line (length line) ≡ long → (skipped : Bool) →
        is_skipped (words_of line) ≡ skipped → MeansOne line c
    by true l skipped s = absurd (let z : Err TooLong ≡ Ok (Some c) = subst (λ m. m ≡ Ok (Some c))
        (rw l refl) e in cc)
    by false l true s = absurd (let z : Ok None ≡ Ok (Some c) = subst (λ m. m ≡ Ok (Some c)) (rw (l, s) refl) e in cc)
    by false l false s =
        let read : (command_of (words_of line) >>= λ c. Ok (Some c)) ≡ Ok (Some c) = subst (λ m. m ≡ Ok (Some c)) (rw
        (l, s) refl) e in
        let told = then_ok (command_of (words_of line)) (λ c. Ok (Some c)) (Some c) read in
        let same : told.0 ≡ c = cc told.2 in
        record { fits = l; is_short = command_short all (words_of line) c (told.1 ∙ ap Ok same) }

line_in_range : (line : List ℕ) (c : Command) → line_means line ≡ Ok (Some c) → in_range c ≡ true
line_in_range line c e =
    let one : commands_in (line ∷ []) ≡ c ∷ [] = rw e refl in
    and_left (in_range c) true (subst (λ commands. all_in_range commands ≡ true) one (commands_in_range (line ∷ [])))

all_rows : AllWrite rows
unfolding rows
all_rows = all-write rows rows-spell refl

joined_cost : (ws : Words) → length (join_with_byte space ws) ≤ cost ws - 1
joined_cost [] = omega arith
joined_cost (w ∷ ws) = omega (arith, cost_joined w ws)

pub are-spelled : AreSpelled
are-spelled line c e =
    let told = means_one all_rows line c e in
    let short : length (line_of c) ≤ length line =
    omega (arith, joined_cost (command_words c), told.is_short.short, cost_words line) in
    let fits : fits_a_line c ≡ true = let line_fits = told.fits in grind (arith, nat_tests, short, line_fits) in
    (rw (line_in_range line c e, told.is_short.sizes, fits) refl, short)
