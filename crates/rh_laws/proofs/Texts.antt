-- What is printed behind the words of a row, and that the row reads it again.
use Rattle.rh_laws.proofs.Common.{◌≡◌, ℕ, zero, suc, ◌+◌, ◌-◌, ◌^◌, ◌<◌, Bool, true, false, ◌&&◌, ◌||◌, not, cond, List, [], ◌∷◌, ◌++◌, length, drop}
use Rattle.rh_laws.proofs.Common.{length-append, refl, sym, subst, ap, ◌∙◌, arith, nat_le, nat_lt, ◌==◌, Some, None, Ok, slice_get, unwrap_or}
use Rattle.rh_laws.proofs.Common.{list_all, decimal, signed_decimal, bytes_eq, nat_tests, bytes_eq-Decides, encode_lower, Command, Unknown, is_name, is_leaf}
use Rattle.rh_laws.proofs.Common.{◌>>=◌, is_delta, Number, Choice, Maybe, GrammarRow, rows, nth_word, grammar_row, command_of, Words, address, and_left}
use Rattle.rh_laws.proofs.Common.{and_right}
use Rattle.rh_defs.specs.Grammar.{Form, Name, Leaf, Ref, Delta, Address, Bytes, Data, Choices, Third, First, Middle, Last, Value, Values, Maker, spelled_by}
use Rattle.rh_defs.specs.Forms.{last_ref}
use Rattle.rh_defs.specs.Range.{is_of}
use Rattle.rh_defs.proofs.GrammarLaws.{made}
use Rattle.rh_defs.specs.OtherBodies.{is_whole as are_words}
use Rattle.rh_defs.specs.Line.{choice_at, choices_at, data_read_at, value_at, command_from, is_count, command_by}
use Rattle.rh_laws.specs.Printer.{form_text, third_word, texts, words_spelled, is_sized}
use Rattle.rh_laws.proofs.Words.{is_whole}
use Rattle.rh_laws.proofs.Numbers.{decimal_is_whole}
use Rattle.rh_laws.proofs.Readers.{name_is_whole, leaf_is_whole, number_read, delta_read, delta_is_whole, address_read, address_is_whole, bytes_read}
use Rattle.rh_laws.proofs.Readers.{bytes_are_whole, name_read, leaf_read}

-- ---- what is read again

-- whether a form reads what is printed for a value
abbrev pub is_readable : (form : Form) → Value form → Bool
is_readable form value = is_of form value && is_sized form value

abbrev pub are_readable : (forms : List Form) → Values forms → Bool
are_readable [] values = true
are_readable (form ∷ forms) values = is_readable form values.0 && are_readable forms values.1

-- a form whose word can't be left out
abbrev is_wanted : Form → Bool
is_wanted (Maybe form) = false
is_wanted form = true

-- a form whose texts are told apart, and whose numbers are words
abbrev is_clear : Form → Bool
is_clear (Number low high) = nat_lt high (2 ^ 32)
is_clear (Choice first second) = is_whole first && is_whole second && not (bytes_eq second first)
is_clear (Choices first second third) =
    (is_whole first && (is_whole second && is_whole third))
    && (not (bytes_eq second first) && (not (bytes_eq third first) && not (bytes_eq third second)))
is_clear (Maybe form) = is_wanted form && is_clear form
is_clear form = true

-- the same of all, of which the last alone may be left out
abbrev pub are_clear : List Form → Bool
are_clear [] = true
are_clear (form ∷ []) = is_clear form
are_clear (form ∷ next ∷ forms) = is_wanted form && is_clear form && are_clear (next ∷ forms)

-- ---- words behind the first n

record Stand (words : Words) (n : ℕ) (rest : Words) : Type 0 where
  behind : drop n words ≡ rest
  long : length words ≡ n + length rest

word_there : (words : Words) (n : ℕ) (w : List ℕ) (rest : Words) → drop n words ≡ w ∷ rest →
    unwrap_or (slice_get words n) [] ≡ w
word_there [] zero w rest e = absurd cc
word_there [] (suc n) w rest e = absurd cc
word_there (x ∷ words) zero w rest e = cc
word_there (x ∷ words) (suc n) w rest e = word_there words n w rest e

next_there : (words : Words) (n : ℕ) (w : List ℕ) (rest : Words) → drop n words ≡ w ∷ rest → drop (suc n) words ≡ rest
next_there [] zero w rest e = absurd cc
next_there [] (suc n) w rest e = absurd cc
next_there (x ∷ words) zero w rest e = cc
next_there (x ∷ words) (suc n) w rest e = next_there words n w rest e

word_first : (words : Words) (n : ℕ) (w : List ℕ) (rest : Words) → Stand words n (w ∷ rest) → nth_word words (n + 1) ≡ w
word_first words n w rest stand =
    let same : n ≡ n + 1 - 1 = omega arith in
    subst (λ m. unwrap_or (slice_get words m) [] ≡ w) same (word_there words n w rest stand.behind)

word_next : (words : Words) (n : ℕ) (w : List ℕ) (rest : Words) → Stand words n (w ∷ rest) → Stand words (n + 1) rest
word_next words n w rest stand =
    let same : suc n ≡ n + 1 = omega arith in
    record {
      behind = subst (λ m. drop m words ≡ rest) same (next_there words n w rest stand.behind);
      long = omega (arith, stand.long);
    }

drop_front : (front rest : Words) → drop (length front) (front ++ rest) ≡ rest
drop_front [] rest = refl
drop_front (w ∷ front) rest = drop_front front rest

-- ---- one word

choice_whole : (first second : List ℕ) (is_first : Bool) → is_clear (Choice first second) ≡ true →
    is_whole (cond is_first first second) ≡ true
choice_whole first second true clear =
    and_left (is_whole first) (is_whole second) (and_left _ (not (bytes_eq second first)) clear)
choice_whole first second false clear =
    and_right (is_whole first) (is_whole second) (and_left _ (not (bytes_eq second first)) clear)

not_first : (b : Bool) → not b ≡ true → b ≡ false
not_first true h = absurd cc
not_first false h = refl

choice_read : (words : Words) (n : ℕ) (first second : List ℕ) (is_first : Bool) →
    is_clear (Choice first second) ≡ true → nth_word words n ≡ cond is_first first second →
    choice_at words n first second ≡ Ok is_first
unfolding choice_at
choice_read words n first second true clear is = rw (is, (bytes_eq-Decides first first).1 refl) refl
choice_read words n first second false clear is =
    let apart = not_first (bytes_eq second first) (and_right _ (not (bytes_eq second first)) clear) in
    rw (is, apart, (bytes_eq-Decides second second).1 refl) refl

-- three words that are told apart
record AreThree (first second third : List ℕ) : Type 0 where
  whole : (which : Third) → is_whole (third_word first second third which) ≡ true
  second_first : bytes_eq second first ≡ false
  third_first : bytes_eq third first ≡ false
  third_second : bytes_eq third second ≡ false

are_three : (first second third : List ℕ) → is_clear (Choices first second third) ≡ true → AreThree first second third
are_three first second third clear =
    let words = and_left (is_whole first && (is_whole second && is_whole third)) _ clear in
    let apart = and_right (is_whole first && (is_whole second && is_whole third)) _ clear in
    let rest = and_right (is_whole first) (is_whole second && is_whole third) words in
    let others = and_right (not (bytes_eq second first)) (not (bytes_eq third first) && not (bytes_eq third second)) apart in
    record {
      whole = λ which. by which (and_left (is_whole first) (is_whole second && is_whole third) words)
          (and_left (is_whole second) (is_whole third) rest) (and_right (is_whole second) (is_whole third) rest);
      second_first = not_first _ (and_left (not (bytes_eq second first)) _ apart);
      third_first = not_first _ (and_left (not (bytes_eq third first)) (not (bytes_eq third second)) others);
      third_second = not_first _ (and_right (not (bytes_eq third first)) (not (bytes_eq third second)) others);
    }
  where
    by : (which : Third) → is_whole first ≡ true → is_whole second ≡ true → is_whole third ≡ true →
        is_whole (third_word first second third which) ≡ true
    by First a b c = a
    by Middle a b c = b
    by Last a b c = c

choices_read : (words : Words) (n : ℕ) (first second third : List ℕ) (which : Third) → AreThree first second third →
    nth_word words n ≡ third_word first second third which → choices_at words n first second third ≡ Ok which
unfolding choices_at
choices_read words n first second third First are is = rw (is, (bytes_eq-Decides first first).1 refl) refl
choices_read words n first second third Middle are is =
    rw (is, are.second_first, (bytes_eq-Decides second second).1 refl) refl
choices_read words n first second third Last are is =
    rw (is, are.third_first, are.third_second, (bytes_eq-Decides third third).1 refl) refl

data_read : (words : Words) (n : ℕ) (bytes : List ℕ) → nth_word words n ≡ encode_lower bytes → nat_le 1 (length bytes) ≡ true →
    list_all (λ b. nat_lt b 256) bytes ≡ true → are_words bytes ≡ true → data_read_at words n ≡ Ok bytes
unfolding data_read_at ◌>>=◌
data_read words n bytes is some small whole = rw (bytes_read words n bytes is some small, whole) refl

-- what can't be left out is one word
one_text : (form : Form) (value : Value form) → is_wanted form ≡ true → (w : List ℕ) × (form_text form value ≡ w ∷ [])
one_text Name name wanted = (name, refl)
one_text Leaf leaf wanted = (leaf, refl)
one_text (Number low high) n wanted = (decimal n, refl)
one_text Ref ref wanted = (decimal ref, refl)
one_text Delta by wanted = (signed_decimal by, refl)
one_text Address place wanted = (address place, refl)
one_text Bytes bytes wanted = (encode_lower bytes, refl)
one_text Data bytes wanted = (encode_lower bytes, refl)
one_text (Choices first second third) which wanted = (third_word first second third which, refl)
one_text (Choice first second) is_first wanted = (cond is_first first second, refl)
one_text (Maybe form) value wanted = absurd cc

text_next : (form : Form) (words : Words) (n : ℕ) (value : Value form) (rest : Words) → is_wanted form ≡ true →
    Stand words n (form_text form value ++ rest) → Stand words (n + 1) rest
text_next form words n value rest wanted stand =
    let one = one_text form value wanted in
    word_next words n one.0 rest (subst (λ ws. Stand words n (ws ++ rest)) one.1 stand)

-- a word that is printed is whole, and read
record IsRead (form : Form) (words : Words) (n : ℕ) (value : Value form) (rest : Words) : Type 0 where
  whole : list_all is_whole (form_text form value) ≡ true
  read : Stand words n (form_text form value ++ rest) → value_at form words (n + 1) ≡ Ok value

word_read : (form : Form) (words : Words) (n : ℕ) (value : Value form) (rest : Words) → is_wanted form ≡ true →
    is_clear form ≡ true → is_readable form value ≡ true → IsRead form words n value rest
word_read Name words n name rest wanted clear h =
    let named = and_left (is_name name) true h in
    record {
      whole = rw (name_is_whole name named) refl;
      read = λ stand.
          let is = word_first words n name rest stand in
          name_read words (n + 1) (subst (λ w. is_name w ≡ true) (sym is) named) ∙ ap Ok is;
    }
word_read Leaf words n leaf rest wanted clear h =
    let graphic = and_left (is_leaf leaf) true h in
    record {
      whole = rw (leaf_is_whole leaf graphic) refl;
      read = λ stand.
          let is = word_first words n leaf rest stand in
          leaf_read words (n + 1) (subst (λ w. is_leaf w ≡ true) (sym is) graphic) ∙ ap Ok is;
    }
word_read (Number low high) words n k rest wanted clear h =
    let range = and_left (nat_le low k && nat_le k high) true h in
    let most = and_right (nat_le low k) (nat_le k high) range in
    let small : k < 2 ^ 32 = grind (arith, nat_tests, most, clear) in
    record {
      whole = rw (decimal_is_whole k small) refl;
      read = λ stand. number_read words (n + 1) low high k (word_first words n (decimal k) rest stand) small range;
    }
word_read Ref words n k rest wanted clear h =
    let most = and_right (nat_le 1 k) (nat_le k last_ref) h in
    let small : k < 2 ^ 32 = grind (arith, nat_tests, most) in
    record {
      whole = rw (decimal_is_whole k small) refl;
      read = λ stand. number_read words (n + 1) 1 last_ref k (word_first words n (decimal k) rest stand) small h;
    }
word_read Delta words n amount rest wanted clear h =
    let small = and_left (is_delta amount) true h in
    record {
      whole = rw (delta_is_whole amount small) refl;
      read = λ stand. delta_read words (n + 1) amount (word_first words n (signed_decimal amount) rest stand) small;
    }
word_read Address words n place rest wanted clear h = record {
  whole = rw (address_is_whole place h) refl;
  read = λ stand. address_read words (n + 1) place (word_first words n (address place) rest stand) h;
}
word_read Bytes words n bytes rest wanted clear h =
    let some = and_left (nat_le 1 (length bytes)) (list_all (λ b. nat_lt b 256) bytes) h in
    let small = and_right (nat_le 1 (length bytes)) (list_all (λ b. nat_lt b 256) bytes) h in
    record {
      whole = rw (bytes_are_whole bytes some small) refl;
      read = λ stand.
          bytes_read words (n + 1) bytes (word_first words n (encode_lower bytes) rest stand) some small;
    }
word_read Data words n bytes rest wanted clear h =
    let front = and_left (nat_le 1 (length bytes) && are_words bytes) (list_all (λ b. nat_lt b 256) bytes) h in
    let small = and_right (nat_le 1 (length bytes) && are_words bytes) (list_all (λ b. nat_lt b 256) bytes) h in
    let some = and_left (nat_le 1 (length bytes)) (are_words bytes) front in
    let whole = and_right (nat_le 1 (length bytes)) (are_words bytes) front in
    record {
      whole = rw (bytes_are_whole bytes some small) refl;
      read = λ stand. data_read words (n + 1) bytes (word_first words n (encode_lower bytes) rest stand) some small whole;
    }
word_read (Choices first second third) words n which rest wanted clear h =
    let are = are_three first second third clear in
    record {
      whole = rw (are.whole which) refl;
      read = λ stand. choices_read words (n + 1) first second third which are
          (word_first words n (third_word first second third which) rest stand);
    }
word_read (Choice first second) words n is_first rest wanted clear h = record {
  whole = rw (choice_whole first second is_first clear) refl;
  read = λ stand.
      choice_read words (n + 1) first second is_first clear
      (word_first words n (cond is_first first second) rest stand);
}
word_read (Maybe form) words n value rest wanted clear h = absurd cc

-- the last word, which may be left out
last_read : (form : Form) (words : Words) (n : ℕ) (value : Value form) → is_clear form ≡ true →
    is_readable form value ≡ true → IsRead form words n value []
unfolding ◌>>=◌
last_read (Maybe form) words n None clear h = record {
  whole = refl;
  read = λ stand.
      let ended : (length words == n + 1 - 1) ≡ true = let long = stand.long in grind (arith, nat_tests, long) in
      rw ended refl;
}
last_read (Maybe form) words n (Some value) clear h =
    let wanted = and_left (is_wanted form) (is_clear form) clear in
    let given = word_read form words n value [] wanted (and_right (is_wanted form) (is_clear form) clear) h in
    record {
      whole = given.whole;
      read = λ stand.
          let more : (length words == n + 1 - 1) ≡ false =
          let long = stand.long in
          let one : length (form_text form value ++ []) ≡ 1 = ap (λ ws. length (ws ++ [])) (one_text form value wanted).1 in
          grind (arith, nat_tests, long, one) in
          rw (more, given.read stand) refl;
    }
last_read form words n value clear h = word_read form words n value [] refl clear h

ended : (words : Words) (n : ℕ) → Stand words n [] → (length words == n) ≡ true
ended words n stand = let long = stand.long in grind (arith, nat_tests, long)

-- ---- all words behind a row's own

-- they are whole, as many as the row asks for, and make its command
record AreRead (forms : List Form) (make : Maker forms) (words : Words) (n : ℕ) (values : Values forms) : Type 0 where
  whole : list_all is_whole (texts forms values) ≡ true
  count : Stand words n (texts forms values) → is_count forms n (length words) ≡ true
  read : Stand words n (texts forms values) → command_from forms make words n ≡ Ok (made forms make values)

all_whole : (front rest : Words) → list_all is_whole front ≡ true → list_all is_whole rest ≡ true →
    list_all is_whole (front ++ rest) ≡ true
all_whole [] rest h r = r
all_whole (w ∷ front) rest h r =
    rw (and_left (is_whole w) (list_all is_whole front) h)
    (all_whole front rest (and_right (is_whole w) (list_all is_whole front) h) r)

counted : (form : Form) (forms : List Form) (n count : ℕ) → is_count forms (n + 1) count ≡ true →
    is_count (form ∷ forms) n count ≡ true
counted (Maybe form) forms n count h = by (count == n) h
  where
    by : (b : Bool) → is_count forms (n + 1) count ≡ true → (b || is_count forms (n + 1) count) ≡ true
    by true h = refl
    by false h = h
counted form forms n count h = h

-- with the last word left out or not
last_count : (form : Form) (words : Words) (n : ℕ) (value : Value form) → is_clear form ≡ true →
    Stand words n (form_text form value ++ []) → is_count (form ∷ []) n (length words) ≡ true
last_count (Maybe form) words n None clear stand =
    let ended : (length words == n) ≡ true = let long = stand.long in grind (arith, nat_tests, long) in rw ended refl
last_count (Maybe form) words n (Some value) clear stand =
    counted (Maybe form) [] n (length words)
    (ended words (n + 1) (text_next form words n value [] (and_left (is_wanted form) (is_clear form) clear) stand))
last_count form words n value clear stand = ended words (n + 1) (text_next form words n value [] refl stand)

all_read : (forms : List Form) (make : Maker forms) (words : Words) (n : ℕ) (values : Values forms) →
    are_clear forms ≡ true → are_readable forms values ≡ true → AreRead forms make words n values
unfolding ◌>>=◌
all_read [] make words n values clear h = record { whole = refl; count = ended words n; read = λ stand. refl }
all_read (form ∷ []) make words n values clear h =
    let one = last_read form words n values.0 clear (and_left (is_readable form values.0) true h) in
    record {
      whole = all_whole (form_text form values.0) [] one.whole refl;
      count = last_count form words n values.0 clear;
      read = λ stand. rw (one.read stand) refl;
    }
all_read (form ∷ next ∷ forms) make words n values clear h =
    let front = and_left (is_wanted form && is_clear form) (are_clear (next ∷ forms)) clear in
    let wanted = and_left (is_wanted form) (is_clear form) front in
    let one = word_read form words n values.0 (texts (next ∷ forms) values.1) wanted
    (and_right (is_wanted form) (is_clear form) front)
    (and_left (is_readable form values.0) (are_readable (next ∷ forms) values.1) h) in
    let rest = all_read (next ∷ forms) (make values.0) words (n + 1) values.1
    (and_right (is_wanted form && is_clear form) (are_clear (next ∷ forms)) clear)
    (and_right (is_readable form values.0) (are_readable (next ∷ forms) values.1) h) in
    record {
      whole = all_whole (form_text form values.0) (texts (next ∷ forms) values.1) one.whole rest.whole;
      count = λ stand.
          counted form (next ∷ forms) n (length words)
          (rest.count (text_next form words n values.0 (texts (next ∷ forms) values.1) wanted stand));
      read = λ stand.
          rw (one.read stand)
          (rest.read (text_next form words n values.0 (texts (next ∷ forms) values.1) wanted stand));
    }

-- ---- a row

-- whether the words of a row, and the texts of its forms, can be told apart in a line
abbrev pub is_clear_row : GrammarRow → Bool
is_clear_row row = are_clear row.forms && list_all is_whole (row.first ∷ row.further)

-- words that spell a command
pub record Spells (words : Words) (c : Command) : Type 0 where
  pub whole : list_all is_whole words ≡ true
  pub means : command_of words ≡ Ok c

pub row_spells : (row : GrammarRow) (values : Values row.forms) → is_clear_row row ≡ true →
    grammar_row rows row.first (words_spelled (spelled_by row values)) Unknown ≡ Ok row → are_readable row.forms values ≡ true →
    Spells (words_spelled (spelled_by row values)) (made row.forms row.make values)
unfolding command_by ◌>>=◌
row_spells row values proper found h =
    let words = words_spelled (spelled_by row values) in
    let n : ℕ = 1 + length row.further in
    let all = all_read row.forms row.make words n values
    (and_left (are_clear row.forms) (list_all is_whole (row.first ∷ row.further)) proper) h in
    let named : suc (length row.further) ≡ n = omega arith in
    let stand : Stand words n (texts row.forms values) = record {
      behind =
          subst (λ m. drop m words ≡ texts row.forms values) named
          (drop_front (row.first ∷ row.further) (texts row.forms values));
      long = omega (arith, length-append row.further (texts row.forms values));
    } in
    record {
      whole =
          all_whole (row.first ∷ row.further) (texts row.forms values)
          (and_right (are_clear row.forms) (list_all is_whole (row.first ∷ row.further)) proper) all.whole;
      means = rw (found, all.count stand) (all.read stand);
    }
