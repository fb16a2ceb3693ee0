-- Replies as they are kept: how many lines they have, and what their front shows.
use Rattle.rh_pictures.proofs.Common.{◌≡◌, ℕ, zero, suc, ◌+◌, ◌*◌, ◌/◌, ◌%◌, ◌<◌, ◌≤◌, Bool, true, false, eqb, refl, ap, ap₂, sym, subst, ◌∙◌, arith, List, []}
use Rattle.rh_pictures.proofs.Common.{◌∷◌, ◌++◌, append-nil, append_assoc, length, take, drop, codes, if◌then◌else◌, nat_le, nat_lt, ◌==◌, decimal}
use Rattle.rh_pictures.proofs.Common.{AllByRecursion, ne_eqb, nat_tests, length-append, length-drop, LineFault, TooLong, Reply, Nothing, ended, unended}
use Rattle.rh_pictures.proofs.Common.{fault_text, first_line, rules, cut, Excerpts}
use Rattle.std.specs.Fmt.{digit_glyph, digits, digits_onto}
use Rattle.rh_defs.specs.declared.fault.LineFault.TheVariants.{Unended, Unknown, Count, Word}
use Rattle.rh_defs.specs.declared.message.Action.{Action}
use Rattle.rh_defs.specs.declared.message.Action.TheVariants as action
use Rattle.rh_defs.specs.declared.refusal.Refusal.{Refusal}
use Rattle.rh_defs.specs.declared.refusal.Refusal.TheVariants.{NameInUse, NoName, TooManyTasks, NoHandles, NoFile, NoBlock, AnchorInUse, NotABlock, NotYours}
use Rattle.rh_defs.specs.declared.refusal.Refusal.TheVariants.{Busy, NotOpen, NothingSent, BadRange, BadSize, ExcessiveShrink, NoTask, NoRefs, QueueFull}
use Rattle.rh_defs.specs.declared.refusal.Refusal.TheVariants.{NoBudge, NoRoom, NoArea, TooManyAreas, NoNumbers, TooBig, WrongManner, BadRef}
use Rattle.rh_defs.specs.declared.reply.Outcome.{Outcome}
use Rattle.rh_defs.specs.declared.reply.Outcome.TheVariants as outcome
use Rattle.rh_defs.specs.declared.reply.Reply.TheVariants as reply
use Rattle.rh_defs.specs.Messages.{code_number}
use Rattle.rh_defs.specs.Text.{Words, action_name, address, line, on_or_off, outcome_words, refusal_name, rest_of_line}
use Rattle.rh_session.proofs.LineLemmas.{NoFeed, ended_first, ended_none, no_feed_join, no_feed_open, unended_first}
use Rattle.rh_map.specs.Replies.{excerpt_lines, lines_in}
use Rattle.rh_map.proofs.SeamLemmas.{whole-reply}
use Rattle.std.specs.Prelude.{◌^◌, ◌-◌, min}
use Rattle.rh_map.specs.Replies.{front_of}
use Rattle.rh_defs.specs.declared.question.Numbers.{Numbers}
use Rattle.rh_defs.specs.Questions.{each_of}
use borrow.Author.Tests.{tests}
use Rattle.std.proofs.Common.{length-take-le, map, take-append-drop}

-- ---- words without a line feed

digit-open : (upper : Bool) (d : ℕ) → NoFeed (digit_glyph upper d ∷ [])
digit-open upper d = (go (nat_lt d 10) upper, tt)
  where
    go : (t u : Bool) → eqb (if t then 48 + d else (if u then 55 + d else 87 + d)) 10 ≡ false
    go true u = ne_eqb (48 + d) 10 (λ e. omega arith)
    go false true = ne_eqb (55 + d) 10 (λ e. omega arith)
    go false false = ne_eqb (87 + d) 10 (λ e. omega arith)

onto-open : (k base : ℕ) (upper : Bool) (n : ℕ) (acc : List ℕ) → NoFeed acc → NoFeed (digits_onto k base upper n acc)
onto-open zero base upper n acc clear = clear
onto-open (suc k) base upper n acc clear =
    let here : NoFeed (digit_glyph upper (n % base) ∷ acc) = ((digit-open upper (n % base)).0, clear) in
    go (n / base == 0) here (onto-open k base upper (n / base) (digit_glyph upper (n % base) ∷ acc) here)
  where
    go : (t : Bool) → NoFeed (digit_glyph upper (n % base) ∷ acc) → NoFeed (digits_onto k base upper (n / base) (digit_glyph upper (n % base) ∷ acc))
        → NoFeed (if t then digit_glyph upper (n % base) ∷ acc else digits_onto k base upper (n / base) (digit_glyph upper (n % base) ∷ acc))
    go true a b = a
    go false a b = b

digits-open : (base : ℕ) (upper : Bool) (n : ℕ) → NoFeed (digits base upper n)
unfolding digits
digits-open base upper n = onto-open 64 base upper n [] tt

pub decimal-open : (n : ℕ) → NoFeed (decimal n)
decimal-open n = digits-open 10 false n

pub address-open : (n : ℕ) → NoFeed (address n)
unfolding address
address-open n = (refl, digits-open 16 true n)

-- a word without a line feed that is no longer than an address
pub record ShortWord (w : List ℕ) : Type 0 where
  pub open_ : NoFeed w
  pub few : length w ≤ 65

abbrev pub AreWords : Words → Type 0
AreWords words = AllByRecursion ShortWord words

onto-few : (k base : ℕ) (upper : Bool) (n : ℕ) (acc : List ℕ) → length (digits_onto k base upper n acc) ≤ k + length acc
onto-few zero base upper n acc = omega arith
onto-few (suc k) base upper n acc =
    go (n / base == 0) (onto-few k base upper (n / base) (digit_glyph upper (n % base) ∷ acc))
  where
    go : (t : Bool)
        → length (digits_onto k base upper (n / base) (digit_glyph upper (n % base) ∷ acc)) ≤ k + length (digit_glyph upper (n % base) ∷ acc)
        → length (if t then digit_glyph upper (n % base) ∷ acc else digits_onto k base upper (n / base) (digit_glyph upper (n % base) ∷ acc)) ≤ suc k
        + length acc
    go true a = omega arith
    go false a = omega arith

digits-few : (base : ℕ) (upper : Bool) (n : ℕ) → length (digits base upper n) ≤ 64
unfolding digits
digits-few base upper n = onto-few 64 base upper n []

pub decimal-word : (n : ℕ) → ShortWord (decimal n)
decimal-word n = record { open_ = decimal-open n; few = omega (arith, digits-few 10 false n) }

address-few : (n : ℕ) → length (address n) ≤ 65
unfolding address
address-few n = let few : length (digits 16 true n) ≤ 64 = digits-few 16 true n in omega arith

pub address-word : (n : ℕ) → ShortWord (address n)
address-word n = record { open_ = address-open n; few = address-few n }

few-of : (n : ℕ) → nat_le n 65 ≡ true → n ≤ 65
few-of n e = search (rules, tests)

-- a word that is spelled out
pub word-of : (w : List ℕ) → ended w ≡ [] → nat_le (length w) 65 ≡ true → ShortWord w
word-of w none few = record { open_ = no_feed_open w none; few = few-of (length w) few }

abbrev pub AreOpen : Words → Type 0
AreOpen words = AllByRecursion NoFeed words

pub words-open : (ws : Words) → AreWords ws → AreOpen ws
words-open [] all = tt
words-open (w ∷ ws) all = (all.0.open_, words-open ws all.1)

pub rest-few : (ws : Words) → AreWords ws → length (rest_of_line ws) ≤ 66 * length ws + 1
rest-few [] all = omega arith
rest-few (w ∷ ws) all =
    let rest : length (rest_of_line ws) ≤ 66 * length ws + 1 = rest-few ws all.1 in
    let few = all.0.few in
    omega (arith, length-append w (rest_of_line ws))

refusal-word : (r : Refusal) → ShortWord (refusal_name r)
refusal-word NameInUse = word-of (codes "NameInUse") refl refl
refusal-word NoName = word-of (codes "NoName") refl refl
refusal-word TooManyTasks = word-of (codes "TooManyTasks") refl refl
refusal-word NoHandles = word-of (codes "NoHandles") refl refl
refusal-word NoFile = word-of (codes "NoFile") refl refl
refusal-word NoBlock = word-of (codes "NoBlock") refl refl
refusal-word AnchorInUse = word-of (codes "AnchorInUse") refl refl
refusal-word NotABlock = word-of (codes "NotABlock") refl refl
refusal-word NotYours = word-of (codes "NotYours") refl refl
refusal-word Busy = word-of (codes "Busy") refl refl
refusal-word NotOpen = word-of (codes "NotOpen") refl refl
refusal-word NothingSent = word-of (codes "NothingSent") refl refl
refusal-word BadRange = word-of (codes "BadRange") refl refl
refusal-word BadSize = word-of (codes "BadSize") refl refl
refusal-word ExcessiveShrink = word-of (codes "ExcessiveShrink") refl refl
refusal-word NoTask = word-of (codes "NoTask") refl refl
refusal-word NoRefs = word-of (codes "NoRefs") refl refl
refusal-word QueueFull = word-of (codes "QueueFull") refl refl
refusal-word NoBudge = word-of (codes "NoBudge") refl refl
refusal-word NoRoom = word-of (codes "NoRoom") refl refl
refusal-word NoArea = word-of (codes "NoArea") refl refl
refusal-word TooManyAreas = word-of (codes "TooManyAreas") refl refl
refusal-word NoNumbers = word-of (codes "NoNumbers") refl refl
refusal-word TooBig = word-of (codes "TooBig") refl refl
refusal-word WrongManner = word-of (codes "WrongManner") refl refl
refusal-word BadRef = word-of (codes "BadRef") refl refl

action-word : (a : Action) → ShortWord (action_name a)
action-word action.DataSave = word-of (codes "DataSave") refl refl
action-word action.DataSaveAck = word-of (codes "DataSaveAck") refl refl
action-word action.DataLoad = word-of (codes "DataLoad") refl refl
action-word action.DataLoadAck = word-of (codes "DataLoadAck") refl refl
action-word action.RamFetch = word-of (codes "RAMFetch") refl refl
action-word action.RamTransmit = word-of (codes "RAMTransmit") refl refl
action-word (action.Other number) = decimal-word number

switch-word : (on : Bool) → ShortWord (on_or_off on)
switch-word true = word-of (codes "on") refl refl
switch-word false = word-of (codes "off") refl refl

outcome-words : (o : Outcome) → AreWords (outcome_words o)
outcome-words outcome.Ignored = (word-of (codes "ignored") refl refl, tt)
outcome-words (outcome.Fetch ref) = (word-of (codes "fetch") refl refl, (decimal-word ref, tt))
outcome-words (outcome.Sent count ref) = (word-of (codes "sent") refl refl, (decimal-word count, (decimal-word ref, tt)))
outcome-words (outcome.Refused refusal) = (word-of (codes "failed") refl refl, (refusal-word refusal, tt))
outcome-words outcome.Failed = (word-of (codes "failed") refl refl, tt)
outcome-words outcome.Drained = (word-of (codes "drained") refl refl, tt)
outcome-words (outcome.TookLast count) = (word-of (codes "took") refl refl, (decimal-word count, (word-of (codes "done") refl refl, tt)))
outcome-words (outcome.TookFull count ref) =
    (word-of (codes "took") refl refl, (decimal-word count, (word-of (codes "fetch") refl refl, (decimal-word ref, tt))))
outcome-words (outcome.TookFailed count refusal) =
    (word-of (codes "took") refl refl, (decimal-word count, (word-of (codes "failed") refl refl, (refusal-word refusal, tt))))
outcome-words (outcome.Asked ref) = (word-of (codes "asked") refl refl, (decimal-word ref, tt))
outcome-words (outcome.Saved count ref) = (word-of (codes "saved") refl refl, (decimal-word count, (decimal-word ref, tt)))
outcome-words (outcome.Loaded count) = (word-of (codes "loaded") refl refl, (decimal-word count, (word-of (codes "done") refl refl, tt)))
outcome-words (outcome.LoadedFailed count refusal) =
    (word-of (codes "loaded") refl refl, (decimal-word count, (word-of (codes "failed") refl refl, (refusal-word refusal, tt))))
outcome-words outcome.Done = (word-of (codes "done") refl refl, tt)
outcome-words outcome.Taken = (word-of (codes "taken") refl refl, tt)

outcome-few : (o : Outcome) → length (outcome_words o) ≤ 4
outcome-few o = search (rules, arith)

-- ---- texts of one line

-- a line with its line feed, and no other
pub record OneLine (text : List ℕ) : Type 0 where
  pub words : List ℕ
  pub open_ : NoFeed words
  pub is : text ≡ words ++ 10 ∷ []

pub rest-one : (ws : Words) → AreOpen ws → OneLine (rest_of_line ws)
rest-one [] all = record { words = []; open_ = tt; is = refl }
rest-one (w ∷ ws) all =
    let r = rest-one ws all.1 in
    record {
      words = 32 ∷ (w ++ r.words);
      open_ = (refl, no_feed_join w r.words all.0 r.open_);
      is = ap (λ z. 32 ∷ (w ++ z)) r.is ∙ ap (λ z. 32 ∷ z) (sym (append_assoc w r.words (10 ∷ [])));
    }

pub line-one : (w : List ℕ) (ws : Words) → NoFeed w → AreOpen ws → OneLine (line w ws)
line-one w ws here all =
    let r = rest-one ws all in
    record { words = w ++ r.words; open_ = no_feed_join w r.words here r.open_; is = ap (λ z. w ++ z) r.is ∙ sym (append_assoc w r.words (10 ∷ [])) }

-- a line of a first word and eight more at most
record Worded (text : List ℕ) : Type 0 where
  first : List ℕ
  words : Words
  here : ShortWord first
  all : AreWords words
  few : length words ≤ 8
  is : text ≡ line first words

refused-worded : (ws : Words) → AreWords ws → length ws ≤ 8 → Worded (line (codes "refused") ws)
refused-worded ws all few = record { first = codes "refused"; words = ws; here = word-of (codes "refused") refl refl; all = all; few = few; is = refl }

ok-worded : (ws : Words) → AreWords ws → length ws ≤ 8 → Worded (line (codes "ok") ws)
ok-worded ws all few = record { first = codes "ok"; words = ws; here = word-of (codes "ok") refl refl; all = all; few = few; is = refl }

pub number-words : (ns : List ℕ) → AreWords (map decimal ns ++ [])
number-words [] = tt
number-words (n ∷ ns) = (decimal-word n, number-words ns)

pub few-numbers : (numbers : Numbers) → length (map decimal (each_of numbers) ++ []) ≤ 3
few-numbers numbers = search (rules, arith)

first-worded : (r : Reply) → Worded (first_line r Nothing)
unfolding first_line
first-worded (reply.Refused refusal) = refused-worded (refusal_name refusal ∷ []) (refusal-word refusal, tt) (omega arith)
first-worded reply.Done = ok-worded [] tt (omega arith)
first-worded (reply.Started handle) = ok-worded (decimal handle ∷ []) (decimal-word handle, tt) (omega arith)
first-worded (reply.Block place) = ok-worded (address place ∷ []) (address-word place, tt) (omega arith)
first-worded (reply.WasBudging on) = ok-worded (on_or_off on ∷ []) (switch-word on, tt) (omega arith)
first-worded (reply.Sent ref) = ok-worded (decimal ref ∷ []) (decimal-word ref, tt) (omega arith)
first-worded (reply.Answering ref) = ok-worded (decimal ref ∷ []) (decimal-word ref, tt) (omega arith)
first-worded (reply.Moved bytes) = ok-worded (decimal bytes ∷ []) (decimal-word bytes, tt) (omega arith)
first-worded (reply.Made number) = ok-worded (decimal number ∷ []) (decimal-word number, tt) (omega arith)
first-worded (reply.Answered numbers) =
    ok-worded (map decimal (each_of numbers) ++ []) (number-words (each_of numbers)) (omega (arith, few-numbers numbers))
first-worded reply.NoEvent = ok-worded (codes "0" ∷ []) (word-of (codes "0") refl refl, tt) (omega arith)
first-worded (reply.Event code action mine yours outcome) =
    ok-worded (decimal (code_number code) ∷ action_name action ∷ decimal mine ∷ decimal yours ∷ outcome_words outcome)
    (decimal-word (code_number code), (action-word action, (decimal-word mine, (decimal-word yours, outcome-words outcome))))
    (omega (arith, outcome-few outcome))

pub first-one : (r : Reply) → OneLine (first_line r Nothing)
first-one r =
    let t = first-worded r in
    subst OneLine (sym t.is) (line-one t.first t.words t.here.open_ (words-open t.words t.all))

-- the first line of a reply has room in a front with more
pub first-few : (r : Reply) → length (first_line r Nothing) ≤ 594
first-few r =
    let t = first-worded r in
    let here = t.here.few in
    let many = t.few in
    omega (arith, ap length t.is, length-append t.first (rest_of_line t.words), rest-few t.words t.all)

pub fault-one : (f : LineFault) → OneLine (fault_text f)
unfolding fault_text
fault-one TooLong = line-one (codes "bad") (codes "TooLong" ∷ []) (no_feed_open (codes "bad") refl) (no_feed_open (codes "TooLong") refl, tt)
fault-one Unended = line-one (codes "bad") (codes "Unended" ∷ []) (no_feed_open (codes "bad") refl) (no_feed_open (codes "Unended") refl, tt)
fault-one Unknown = line-one (codes "bad") (codes "Unknown" ∷ []) (no_feed_open (codes "bad") refl) (no_feed_open (codes "Unknown") refl, tt)
fault-one Count = line-one (codes "bad") (codes "Count" ∷ []) (no_feed_open (codes "bad") refl) (no_feed_open (codes "Count") refl, tt)
fault-one (Word n) =
    line-one (codes "bad") (codes "Word" ∷ decimal n ∷ []) (no_feed_open (codes "bad") refl) (no_feed_open (codes "Word") refl, (decimal-open n, tt))

-- ---- what a front shows

-- a part of a line that ends before the line feed
record Part (l front : List ℕ) : Type 0 where
  rest : List ℕ
  is : l ≡ front ++ rest

part-of : (l front : List ℕ) (b : ℕ) (back : List ℕ) → l ++ 10 ∷ [] ≡ front ++ b ∷ back → Part l front
part-of l [] b back e = record { rest = l; is = refl }
part-of [] (x ∷ front) b back e =
    let none : front ++ b ∷ back ≡ [] = cc in
    absurd (omega (arith, length-append front (b ∷ back), ap length none))
part-of (y ∷ l) (x ∷ front) b back e =
    let same : y ≡ x = cc in
    let rest : l ++ 10 ∷ [] ≡ front ++ b ∷ back = cc in
    let p = part-of l front b back rest in
    record { rest = p.rest; is = ap₂ (λ z zs. z ∷ zs) same p.is }

open-front : (xs ys : List ℕ) → NoFeed (xs ++ ys) → NoFeed xs
open-front [] ys clear = tt
open-front (x ∷ xs) ys clear = (clear.0, open-front xs ys clear.1)

take-front : (n : ℕ) (xs ys : List ℕ) → n ≤ length xs → take n (xs ++ ys) ≡ take n xs
take-front zero xs ys low = refl
take-front (suc n) [] ys low = absurd (omega arith)
take-front (suc n) (x ∷ xs) ys low = ap (λ z. x ∷ z) (take-front n xs ys (omega arith))

cut-part : (front rest : List ℕ) → 76 < length front → cut 76 front ≡ cut 76 (front ++ rest)
cut-part front rest long =
    let a : nat_le (length front) 76 ≡ false = grind (arith, nat_tests) in
    let more : 76 < length (front ++ rest) = omega (arith, length-append front rest) in
    let b : nat_le (length (front ++ rest)) 76 ≡ false = grind (arith, nat_tests) in
    rw (a, b) (ap (λ z. z ++ codes "..") (sym (take-front 74 front rest (omega arith))))

open-lines : (front : List ℕ) → 0 < length front → NoFeed front → lines_in front ≡ front ∷ []
open-lines [] some clear = absurd (omega arith)
open-lines (b ∷ bs) some clear = rw (ended_none (b ∷ bs) clear) refl

whole-one : (text : List ℕ) → OneLine text → Excerpts text 1 text
whole-one text t =
    let e : ended text ≡ t.words ∷ [] = ap ended t.is ∙ ended_first t.words [] t.open_ in
    let u : unended text ≡ [] = ap unended t.is ∙ unended_first t.words [] t.open_ in
    let n : length (ended text) ≡ 1 = ap length e in
    ap (excerpt_lines text) (sym n) ∙ whole-reply text u

part-one : (text front : List ℕ) (b : ℕ) (back : List ℕ) → OneLine text → text ≡ front ++ b ∷ back → length front ≡ 4096 → Excerpts front 1 text
part-one text front b back t e full =
    let p = part-of t.words front b back (sym t.is ∙ e) in
    let open_ : NoFeed front = open-front front p.rest (subst NoFeed p.is t.open_) in
    let lines : ended text ≡ t.words ∷ [] = ap ended t.is ∙ ended_first t.words [] t.open_ in
    let same : cut 76 front ≡ cut 76 t.words = cut-part front p.rest (omega arith) ∙ ap (cut 76) (sym p.is) in
    rw (open-lines front (omega arith) open_, lines) (ap (λ z. z ∷ []) same)

-- ---- what a front keeps

-- a text that has room, or a front of a longer one
pub data Kept (text : List ℕ) : Type 0 where
  all : front_of text ≡ text → Kept text
  part : (b : ℕ) (back : List ℕ) → text ≡ front_of text ++ b ∷ back → length (front_of text) ≡ 4096 → Kept text

pub kept : (text : List ℕ) → Kept text
kept text = go (drop 4096 text) refl
  where
    go : (behind : List ℕ) → drop 4096 text ≡ behind → Kept text
    go [] e =
        Kept.all (sym (append-nil (front_of text)) ∙ ap (λ z. front_of text ++ z) (sym e) ∙ take-append-drop 4096 text)
    go (b ∷ back) e =
        let long : length (drop 4096 text) ≡ suc (length back) = ap length e in
        Kept.part b back (sym (take-append-drop 4096 text) ∙ ap (λ z. front_of text ++ z) e)
        (length-take-le 4096 text (omega (arith, length-drop 4096 text)))

-- what a front shows of a text of one line
pub one-kept : (text : List ℕ) → OneLine text → Excerpts (front_of text) 1 text
one-kept text t = go (kept text)
  where
    go : Kept text → Excerpts (front_of text) 1 text
    go (Kept.all is) = let P : List ℕ → Type 0 = λ z. Excerpts z 1 text in subst P (sym is) (whole-one text t)
    go (Kept.part b back whole full) = part-one text (front_of text) b back t whole full

-- ---- what is written to a front that had nothing

pub written : {old new text : List ℕ} → old ≡ [] → new ≡ old ++ text → new ≡ text
written {text = text} none offered = offered ∙ ap (λ z. z ++ text) none

-- the count of a line that was written
pub one-counted : {n : ℕ} (text : List ℕ) → OneLine text → n ≡ min (length (ended text)) (2 ^ 32 - 1) → n ≡ 1
one-counted text t e =
    let one : length (ended text) ≡ 1 = ap length (ap ended t.is ∙ ended_first t.words [] t.open_) in
    omega (arith, e, one)
