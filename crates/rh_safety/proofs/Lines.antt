-- Lines spell commands in range, and the desk after lines is that after their commands.
use Rattle.rh_safety.proofs.Common.{◌≡◌, ℕ, zero, suc, ◌+◌, ◌-◌, ◌*◌, Bool, true, false, ◌&&◌, List, [], ◌∷◌, length, Option, Some, None, refl, ap, ◌∙◌}
use Rattle.rh_defs.specs.declared.sizes.TheConstants.{GREATEST_NUMBER}
use Rattle.rh_safety.proofs.Common.{subst, arith}
use Rattle.rh_safety.proofs.Common.{Result, Ok, Err, IfSome, nat_le, nat_lt, ◌==◌, if◌then◌else◌, filter_map, bytes_eq, leb_tells, Command, is_name, in_range}
use Rattle.rh_safety.proofs.Common.{Desk, step, after, and_left, and_right}
use Rattle.std.specs.List.{list_all, cons_option}
use Rattle.std.specs.Result.{result_ok}
use Rattle.hex.specs.Hex.{decode_of}
use Rattle.hex.specs.declared.error.FromHexError.{FromHexError}
use Rattle.hex.proofs.HexLemmas.{decode_of-ok}
use Rattle.rh_defs.specs.declared.fault.LineFault.{LineFault}
use Rattle.rh_defs.specs.declared.fault.LineFault.TheVariants.{TooLong, Unknown, Count, Word}
use Rattle.rh_defs.specs.Forms.{is_delta, is_decimal, is_leaf, number_of, last_ref}
use Rattle.rh_defs.specs.Grammar.{Form, Name, Leaf, Number, Ref, Delta, Address, Bytes, Choice, Choices, Data, Maybe, Values, Maker, GrammarRow, Spelling}
use Rattle.rh_defs.specs.Grammar.{spelled_by, rows}
use Rattle.rh_defs.specs.Range.{is_of, all_of, can_be_read, all_in_range}
use Rattle.rh_defs.proofs.GrammarLaws.{Spells, RowSpells, AllSpell, rows-spell}
use Rattle.rh_defs.specs.Script.{commands_in, lines_desk, meaning_desk}
use Rattle.rh_defs.specs.Chain.{◌>>=◌}
use Rattle.rh_defs.specs.Line.{Meaning, longest_line, words_of, nth_word, name_at, number_at, delta_at, signed, is_negative, unsigned, address_at}
use Rattle.rh_defs.specs.Line.{leaf_at}
use Rattle.rh_defs.specs.OtherBodies.{is_whole}
use Rattle.rh_defs.specs.Line.{choice_at, choices_at, data_read_at, bytes_read_at, value_at, command_from, is_count, follow, grammar_row, command_by}
use Rattle.rh_defs.specs.Line.{command_of, is_skipped, line_means}

-- ---- what holds of a meaning, where there is one

abbrev Means : {A : Type 0} → (A → Type 0) → Meaning A → Type 0
Means P (Ok x) = P x
Means P (Err fault) = Unit {0}

then_means : {A B : Type 0} (P : A → Type 0) (Q : B → Type 0) (m : Meaning A) (next : A → Meaning B) → Means P m →
    ((x : A) → P x → Means Q (next x)) → Means Q (m >>= next)
unfolding ◌>>=◌
then_means P Q (Ok x) next p f = f x p
then_means P Q (Err fault) next p f = tt

means_also : {A : Type 0} (P Q : A → Type 0) (m : Meaning A) → ((x : A) → P x → Q x) → Means P m → Means Q m
means_also P Q (Ok x) f p = f x p
means_also P Q (Err fault) f p = tt

-- what a test passes
where_true : {A : Type 0} (P : A → Type 0) (b : Bool) (x : A) (fault : LineFault) → (b ≡ true → P x) →
    Means P (if b then Ok x else Err fault)
where_true P true x fault f = f refl
where_true P false x fault f = tt

one_of : {A : Type 0} (P : A → Type 0) (b : Bool) (m n : Meaning A) → Means P m → Means P n →
    Means P (if b then m else n)
one_of P true m n p q = p
one_of P false m n p q = q

-- anything
abbrev Any : {A : Type 0} → A → Type 0
Any x = Unit {0}

any_means : {A : Type 0} (m : Meaning A) → Means Any m
any_means (Ok x) = tt
any_means (Err fault) = tt

-- ---- words

abbrev Passes : {A : Type 0} → (A → Bool) → A → Type 0
Passes test x = test x ≡ true

both : (a b : Bool) → a ≡ true → b ≡ true → (a && b) ≡ true
both true b p q = q
both false b p q = absurd cc

last_two : (a b c : Bool) → ((a && b) && c) ≡ true → (b && c) ≡ true
last_two true b c q = q
last_two false b c q = absurd cc

name_means : (words : List (List ℕ)) (n : ℕ) → Means (Passes is_name) (name_at words n)
unfolding name_at
name_means words n = where_true (Passes is_name) (is_name (nth_word words n)) (nth_word words n) (Word n) (λ q. q)

leaf_means : (words : List (List ℕ)) (n : ℕ) → Means (Passes is_leaf) (leaf_at words n)
unfolding leaf_at
leaf_means words n = where_true (Passes is_leaf) (is_leaf (nth_word words n)) (nth_word words n) (Word n) (λ q. q)

number_means : (words : List (List ℕ)) (n low high : ℕ) →
    Means (Passes (λ k. nat_le low k && nat_le k high)) (number_at words n low high)
unfolding number_at
number_means words n low high =
    let w = nth_word words n in
    where_true (Passes (λ k. nat_le low k && nat_le k high)) _ (number_of w) (Word n) (λ q. last_two (is_decimal w) _
    _ q)

signed_delta : (negative : Bool) (n : ℕ) → nat_le n GREATEST_NUMBER ≡ true → is_delta (signed negative n) ≡ true
signed_delta false n q = q
signed_delta true zero q = refl
signed_delta true (suc n) q = q

delta_means : (words : List (List ℕ)) (n : ℕ) → Means (Passes is_delta) (delta_at words n)
unfolding delta_at
delta_means words n =
    let w = nth_word words n in
    where_true (Passes is_delta) _ (signed (is_negative w) (number_of (unsigned w))) (Word n) (λ q. signed_delta
    (is_negative w) (number_of (unsigned w)) (and_right (is_decimal (unsigned w)) _ q))

abbrev has_byte : List ℕ → Bool
has_byte bytes = nat_le 1 (length bytes)

decoded_byte : (w bytes : List ℕ) (d : Result (List ℕ) FromHexError) → decode_of w ≡ d → result_ok d ≡ Some bytes →
    has_byte w ≡ true → has_byte bytes ≡ true
decoded_byte w bytes (Ok b) e s q =
    let same : b ≡ bytes = cc in
    let twice : length w ≡ 2 * length bytes = subst (λ xs. length w ≡ 2 * length xs) same ((decode_of-ok w b e).2) in
    grind (arith, leb_tells, twice)
decoded_byte w bytes (Err fault) e s q = absurd (let z : None ≡ Some bytes = s in cc)

bytes_by : (words : List (List ℕ)) (n : ℕ) (b : Bool) (o : Option (List ℕ)) → has_byte (nth_word words n) ≡ b →
    result_ok (decode_of (nth_word words n)) ≡ o → Means (Passes has_byte) (bytes_read_at words n)
unfolding bytes_read_at
bytes_by words n true (Some bytes) q s = rw (q, s) (decoded_byte (nth_word words n) bytes (decode_of (nth_word words n)) refl
    s q)
bytes_by words n true None q s = rw (q, s) tt
bytes_by words n false o q s = rw q tt

bytes_means : (words : List (List ℕ)) (n : ℕ) → Means (Passes has_byte) (bytes_read_at words n)
bytes_means words n = bytes_by words n (has_byte (nth_word words n)) (result_ok (decode_of (nth_word words n))) refl refl

-- whole words of at least one byte
whole_means : (b : Bool) (bytes : List ℕ) (n : ℕ) → is_whole bytes ≡ b → has_byte bytes ≡ true →
    Means (Passes (is_of Data)) (if b then Ok bytes else Err (Word n))
whole_means true bytes n e q = rw (q, e) refl
whole_means false bytes n e q = tt

data_means : (words : List (List ℕ)) (n : ℕ) → Means (Passes (is_of Data)) (data_read_at words n)
unfolding data_read_at
data_means words n =
    then_means (Passes has_byte) (Passes (is_of Data)) (bytes_read_at words n) _ (bytes_means words n)
    (λ bytes q. whole_means (is_whole bytes) bytes n refl q)

-- ---- forms

value_means : (form : Form) (words : List (List ℕ)) (n : ℕ) → Means (Passes (is_of form)) (value_at form words n)
value_means Name words n = name_means words n
value_means Leaf words n = leaf_means words n
value_means (Number low high) words n = number_means words n low high
value_means Ref words n = means_also _ (Passes (nat_le 1)) (number_at words n 1 last_ref) (λ k q. and_left (nat_le 1 k) (nat_le k last_ref) q)
    (number_means words n 1 last_ref)
value_means Delta words n = delta_means words n
value_means Address words n = means_also Any _ (address_at words n) (λ x u. refl) (any_means (address_at words n))
value_means Bytes words n = bytes_means words n
value_means Data words n = data_means words n
value_means (Choices first second third) words n =
    means_also Any _ (choices_at words n first second third) (λ x u. refl) (any_means (choices_at words n first second third))
value_means (Choice first second) words n =
    means_also Any _ (choice_at words n first second) (λ x u. refl) (any_means (choice_at words n first second))
value_means (Maybe form) words n =
    one_of (Passes (is_of (Maybe form))) (length words == n - 1) (Ok None) _ refl
    (then_means (Passes (is_of form)) (Passes (is_of (Maybe form))) (value_at form words n) _ (value_means form words n)
    (λ value q. q))

-- ---- commands

abbrev IsCommand : Meaning Command → Type 0
IsCommand m = Means (Passes in_range) m

-- a command whose spelling is known, of values of their forms
from_in : (forms : List Form) (make : Maker forms) (give : Values forms → Spelling) (tested : Bool) (words : List (List ℕ)) (n : ℕ) →
    Spells forms make give → ((values : Values forms) → can_be_read (give values) ≡ all_of tested forms values) → tested ≡ true →
    IsCommand (command_from forms make words n)
unfolding in_range
from_in [] command give tested words n spells reads h = ap can_be_read spells ∙ reads tt ∙ h
from_in (form ∷ forms) make give tested words n spells reads h =
    then_means (Passes (is_of form)) (Passes in_range) (value_at form words (n + 1)) _ (value_means form words (n + 1))
    (λ value q. from_in forms (make value) (λ values. give (value, values)) (tested && is_of form value) words (n + 1)
    (spells value) (λ values. reads (value, values)) (both tested (is_of form value) h q))

row_in : (row : GrammarRow) (words : List (List ℕ)) (n : ℕ) → RowSpells row → IsCommand (command_from row.forms row.make words n)
row_in row words n spells = from_in row.forms row.make (spelled_by row) true words n spells (λ values. refl) refl

row_found : (rs : List GrammarRow) (first : List ℕ) (words : List (List ℕ)) (fault : LineFault) → AllSpell rs →
    Means RowSpells (grammar_row rs first words fault)
row_found [] first words fault h = tt
row_found (row ∷ rs) first words fault h =
    one_of RowSpells (bytes_eq first row.first && follow row.further words 1) (Ok row) _ h.0 (row_found rs first words _ h.1)

command_in : (words : List (List ℕ)) → IsCommand (command_of words)
unfolding command_by
command_in words =
    then_means RowSpells (Passes in_range) (grammar_row rows (nth_word words 1) words Unknown) _
    (row_found rows (nth_word words 1) words Unknown rows-spell) (λ row spells.
    one_of (Passes in_range) (is_count row.forms (1 + length row.further) (length words)) _ (Err Count)
    (row_in row words (1 + length row.further) spells) tt)

-- ---- lines

-- a command that a line spells, if it spells one
abbrev IsSpelled : Option Command → Type 0
IsSpelled o = IfSome o (Passes in_range)

line_in : (line : List ℕ) → Means IsSpelled (line_means line)
unfolding line_means
line_in line =
    one_of IsSpelled (nat_lt longest_line (length line)) (Err TooLong) _ tt
    (one_of IsSpelled (is_skipped (words_of line)) (Ok None) _ tt
    (then_means (Passes in_range) IsSpelled (command_of (words_of line)) _ (command_in (words_of line)) (λ c q. q)))

-- what a test passes of each item given is passed by all
all_given : {A B : Type 0} (give : A → Option B) (test : B → Bool) (xs : List A) →
    ((x : A) → IfSome (give x) (Passes test)) → list_all test (filter_map give xs) ≡ true
all_given give test [] f = refl
all_given give test (x ∷ xs) f = go (give x) (f x) (all_given give test xs f)
  where
    go : (o : Option _) → IfSome o (Passes test) → list_all test (filter_map give xs) ≡ true →
        list_all test (cons_option o (filter_map give xs)) ≡ true
    go None p q = q
    go (Some y) p q = both (test y) _ p q

by_meaning : {X : Type 0} (m : Meaning (Option Command)) → ((c : Option Command) → m ≡ Ok c → X) →
    ((fault : LineFault) → m ≡ Err fault → X) → X
by_meaning (Ok c) f g = f c refl
by_meaning (Err fault) f g = g fault refl

pub commands_in_range : (lines : List (List ℕ)) → all_in_range (commands_in lines) ≡ true
commands_in_range lines = all_given _ in_range lines (λ line. by_meaning (line_means line) (λ c e.
    rw e (subst (λ m. Means IsSpelled m) e (line_in line))) (λ fault e. rw e tt))

-- ---- the desk after lines

module _ (give : List ℕ → Option Command) (ls : List (List ℕ)) where
  -- after one line more
  one_more : (c : Option Command) (d : Desk) → ((e : Desk) → lines_desk e ls ≡ after e (filter_map give ls)) →
      lines_desk (meaning_desk d (Ok c)) ls ≡ after d (cons_option c (filter_map give ls))
  one_more None d rest = rest d
  one_more (Some c) d rest = rest (step d c).0

after_given : (give : List ℕ → Option Command) →
    ((l : List ℕ) (c : Option Command) → line_means l ≡ Ok c → give l ≡ c) →
    ((l : List ℕ) (fault : LineFault) → line_means l ≡ Err fault → give l ≡ None) → (ls : List (List ℕ)) (d : Desk) →
    lines_desk d ls ≡ after d (filter_map give ls)
after_given give is none [] d = refl
after_given give is none (l ∷ ls) d =
    let rest : (e : Desk) → lines_desk e ls ≡ after e (filter_map give ls) = after_given give is none ls in
    by_meaning (line_means l) (λ c e. rw (e, is l c e) (one_more give ls c d rest))
    (λ fault e. rw (e, none l fault e) (rest d))

-- the desk after lines is that after the commands that they spell
pub after_lines : (d : Desk) (lines : List (List ℕ)) → lines_desk d lines ≡ after d (commands_in lines)
after_lines d lines = after_given _ (λ l c e. rw e refl) (λ l fault e. rw e refl) lines d
