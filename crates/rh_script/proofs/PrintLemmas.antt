-- Bytes as digits part by part, records, and replies.
use Rattle.rh_script.proofs.Common.{◌≡◌, ◌≢◌, ℕ, true, false, ◌+◌, List, [], ◌∷◌, ◌++◌, length, take, drop, Ok, Err, refl, sym, ◌∙◌, ap, map}
use Rattle.rh_script.proofs.Common.{append_assoc, append-nil, decimal, flat_map, if◌then◌else◌, ok, record_line}
use Rattle.rh_defs.specs.declared.question.RecordItem.{RecordItem}
use Rattle.rh_defs.specs.declared.refusal.Refusal.{Refusal}
use Rattle.rh_defs.specs.declared.reply.Reply.TheVariants as reply
use Rattle.rh_defs.specs.Chain.{Granted, ◌>>=◌}
use Rattle.rh_defs.specs.Desk.{Desk, Task}
use Rattle.rh_defs.specs.Questions.{Bytes, Nothing}
use Rattle.rh_defs.specs.declared.question.Numbers.TheVariants as numbers
use Rattle.rh_defs.specs.Questions.{Told, asked, begins}
use Rattle.rh_defs.specs.declared.command.Command.{Command}
use Rattle.rh_defs.specs.declared.command.Command.TheVariants as command
use Rattle.rh_defs.specs.declared.question.Question.{Question}
use Rattle.rh_defs.specs.declared.reply.Reply.{Reply}
use Rattle.rh_defs.specs.Range.{can_be_asked, in_range}
use Rattle.std.proofs.Math.Seq.{take-add}
use Rattle.hex.specs.Hex.{encode_with, encode_lower, lower_digits}
use Rattle.rh_defs.specs.Text.{answer_text, reply_text, first_line, later_lines, hex_words, record_lines}

-- ---- bytes as digits, part by part

encode_with-append : (t xs ys : List ℕ) → encode_with t (xs ++ ys) ≡ encode_with t xs ++ encode_with t ys
unfolding encode_with
encode_with-append t [] ys = refl
encode_with-append t (x ∷ xs) ys = let rest = encode_with-append t xs ys in cc

-- the digits of the first i bytes and of n more
part_more : (bytes : List ℕ) (i n : ℕ) → encode_lower (take (i + n) bytes) ≡ encode_lower (take i bytes) ++ encode_lower (take n (drop i bytes))
part_more bytes i n =
    ap encode_lower (take-add i n bytes) ∙ encode_with-append lower_digits (take i bytes) (take n (drop i bytes))

pub no_digits : (o : List ℕ) → o ≡ o ++ encode_lower []
unfolding encode_with
no_digits o = sym (append-nil o)

-- n more bytes
pub digits_more : (bytes : List ℕ) (i n : ℕ) (o p q : List ℕ) → p ≡ o ++ encode_lower (take i bytes) → q ≡ p ++ encode_lower (take n (drop i bytes))
    → q ≡ o ++ encode_lower (take (i + n) bytes)
digits_more bytes i n o p q so_far more =
    more ∙ (ap (λ z. z ++ encode_lower (take n (drop i bytes))) so_far
    ∙ (append_assoc o (encode_lower (take i bytes)) (encode_lower (take n (drop i bytes))) ∙ ap (λ z. o ++ z) (sym (part_more bytes i n))))

-- ---- bytes behind their size

pub show_text : (answer : Granted Told) (size : ℕ) (bytes : List ℕ) → answer ≡ Ok (numbers.Shown size, Bytes bytes)
    → ok (decimal size ∷ hex_words bytes) ≡ answer_text answer
unfolding answer_text first_line later_lines
show_text answer size bytes e = rw e (sym (append-nil (ok (decimal size ∷ hex_words bytes))))

-- ---- the records of transfers

each_map : {X : Type 0} (f : X → RecordItem) (way : List ℕ) (xs : List X) → flat_map (λ x. record_line way (f x)) xs ≡ flat_map (record_line way) (map f xs)
each_map f way [] = refl
each_map f way (x ∷ xs) = ap (λ z. record_line way (f x) ++ z) (each_map f way xs)

-- the lines of some records
pub some_records : {X : Type 0} (f : X → RecordItem) (way : List ℕ) (xs : List X) → length xs ≢ 0
    → flat_map (λ x. record_line way (f x)) xs ≡ record_lines way (map f xs)
some_records f way [] some = absurd (some refl)
some_records f way (x ∷ xs) some = each_map f way (x ∷ xs)

-- ---- whole answers

-- a question that is refused
pub refused_text : (answer : Granted Told) (refusal : Refusal) → answer ≡ Err refusal → first_line (reply.Refused refusal) Nothing ≡ answer_text answer
unfolding answer_text
refused_text answer refusal e = rw e refl

-- where one question about a task has no task, no other has one
pub refused_alike : {A B : Type 0} (g : Granted Task) (one : Task → A) (whole : Task → Granted B) (refusal : Refusal) → (g >>= λ t. Ok (one t)) ≡ Err refusal
    → (g >>= whole) ≡ Err refusal
unfolding ◌>>=◌
refused_alike (Ok t) one whole refusal e = absurd (cc)
refused_alike (Err r) one whole refusal e = cc

pub ok_same : {A : Type 0} {x y : A} → ◌≡◌ {A = Granted A} (Ok x) (Ok y) → x ≡ y
ok_same e = cc

-- ---- the reply to a command

-- a command that no line spells
pub unspelled_text : (d : Desk) (c : Command) (r : Reply) → in_range c ≡ false → reply_text d c r ≡ first_line r Nothing
unfolding reply_text in_range
unspelled_text d (command.Ask q) r e = rw e refl
unspelled_text d c r e = refl

-- a question that a line spells
pub asked_ranged : (q : Question) → in_range (command.Ask q) ≡ true → can_be_asked q ≡ true
unfolding in_range
asked_ranged q e = e

-- its reply
pub question_text : (d : Desk) (q : Question) (r : Reply) → can_be_asked q ≡ true
    → reply_text d (command.Ask q) r ≡ (if begins (asked d q) r then answer_text (asked d q) else first_line r Nothing)
unfolding reply_text
question_text d q r e = rw e refl
