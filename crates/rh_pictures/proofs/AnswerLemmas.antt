-- Answers as they are kept: how many lines each has, and what the first 4,096 bytes show of them.
use Rattle.rh_pictures.proofs.Common.{◌≡◌, ℕ, zero, suc, ◌+◌, ◌*◌, ◌/◌, ◌%◌, ◌<◌, ◌≤◌, ◌⊎◌, inl, inr, Bool, true, false, eqb, refl, ap, ap₂, sym, subst, ◌∙◌}
use Rattle.rh_pictures.proofs.Common.{arith, rules, List, [], ◌∷◌, ◌++◌, append-nil, append_assoc, length, take, map, Option, Some, None, Ok, Err, codes, find}
use Rattle.rh_pictures.proofs.Common.{if◌then◌else◌, max, not, slice_get, slice_index, decimal, AllByRecursion, enumerate_from, flat_map}
use Rattle.rh_pictures.proofs.Common.{flat_map-append, length-append, BlockItem, Desk, Made, Task, task_pages, block_items, in_item, out_item, asked, ended}
use Rattle.rh_pictures.proofs.Common.{unended, answer_text, first_line, cut, Excerpts, heap_seen, option_map}
use Rattle.std.proofs.lemmas.List.FromFn.{length-enumerate_from}
use borrow.Author.Tests.{tests}
use Rattle.hex.specs.Hex.{encode_with, lower_digits}
use Rattle.rh_defs.specs.declared.question.AreaItem.{AreaItem}
use Rattle.rh_defs.specs.declared.question.AreaItem.TheVariants as item
use Rattle.rh_defs.specs.declared.question.RecordItem.{RecordItem}
use Rattle.rh_defs.specs.declared.question.SegmentItem.{SegmentItem}
use Rattle.rh_defs.specs.declared.question.SegmentItem.TheVariants as segment
use Rattle.rh_defs.specs.declared.question.State.{State}
use Rattle.rh_defs.specs.declared.question.State.TheVariants as state
use Rattle.rh_defs.specs.declared.question.Question.{Question}
use Rattle.rh_defs.specs.declared.question.Question.TheVariants as question
use Rattle.rh_defs.specs.declared.refusal.Refusal.{Refusal}
use Rattle.rh_defs.specs.declared.refusal.Refusal.TheVariants.{BadRange, NoName}
use Rattle.rh_defs.specs.declared.reply.Reply.TheVariants as reply
use Rattle.rh_defs.specs.Chain.{Granted, found_or, refuse_if, ◌>>=◌, ◌>>◌}
use Rattle.rh_defs.specs.Desk.{has_name, named}
use Rattle.rh_defs.specs.Questions.{Areas, Blocks, Bytes, Listed, Records, Segments, area_item, area_items, segment_items, Told, areas, blocks, heap}
use Rattle.rh_defs.specs.Questions.{read, show, status}
use Rattle.rh_defs.specs.Script.{onto_line, unended_after}
use Rattle.rh_defs.specs.Places.{bytes_held}
use Rattle.rh_defs.specs.Slot.{holds, slot_block}
use Rattle.rh_defs.specs.Text.{Words, address, area_line, block_line, hex_words, later, later_lines, line, record_line, record_lines, rest_of_line}
use Rattle.rh_defs.specs.Text.{segment_line, state_name}
use Rattle.rh_session.proofs.LineLemmas.{NoFeed, bool_cases, ended-unended, ended_first, no_feed_open, unended-append, unended_first}
use Rattle.rh_figure.specs.Map.{reply_lines}
use Rattle.rh_map.specs.Replies.{excerpt_lines, lines_in, more_behind, rest_line}
use Rattle.rh_map.proofs.SeamLemmas.{whole-reply}
use Rattle.rh_scene.proofs.Places.{front-none, front-some}
use Rattle.rh_scene.proofs.SegmentWalks.{length-items}
use Rattle.rh_pictures.specs.Inner.SmallTasks.{AreSmall, IsSmallTask}
use Rattle.rh_map.specs.Replies.{front_of}
use Rattle.rh_pictures.proofs.ExcerptLemmas.{AreOpen, AreWords, OneLine, ShortWord, address-word, decimal-open, decimal-word, few-numbers, first-one}
use Rattle.rh_pictures.proofs.ExcerptLemmas.{line-one, number-words, one-kept, rest-few, rest-one, word-of, words-open}
use Rattle.rh_map.proofs.FrontLemmas.{onto-long}
use Rattle.std.proofs.Common.{sym}
use Rattle.rh_defs.specs.declared.question.Numbers.{Numbers}
use Rattle.rh_defs.specs.declared.question.Numbers.TheVariants as numbers
use Rattle.rh_defs.specs.Laws.{IsDesk}
use Rattle.rh_defs.specs.Questions.{each_of, block_items_from}
use Rattle.rh_defs.specs.Slot.{Flex, weight, flex_start}
use Rattle.rh_defs.specs.Text.{shown_bytes}
use Rattle.rh_defs.specs.Pieces.{total}
use Rattle.rh_scene.specs.declared.sight.HeapOf.TheVariants as heap_of
use Rattle.rh_scene.specs.Walks.{ComesToRest}
use Rattle.rh_scene.proofs.Heaps.{room, seen, sized-many, task-slot}
use Rattle.rh_scene.proofs.SlotPieces.{few-blocks}
use Rattle.rh_pictures.proofs.ExcerptLemmas.{Kept, kept}

-- ---- short lines

-- a line without its line feed: fourteen of them with theirs fit a front
pub record Short (l : List ℕ) : Type 0 where
  pub open_ : NoFeed l
  pub few : length l < 292

-- lines, each with its line feed
abbrev pub joined : List (List ℕ) → List ℕ
joined [] = []
joined (l ∷ ls) = l ++ 10 ∷ joined ls

abbrev pub AreShort : List (List ℕ) → Type 0
AreShort lines = AllByRecursion Short lines

-- a text of so many short lines
pub record ShortLines (n : ℕ) (text : List ℕ) : Type 0 where
  pub lines : List (List ℕ)
  pub short : AreShort lines
  pub is : text ≡ joined lines
  pub count : n ≡ length lines

joined-append : (xs ys : List (List ℕ)) → joined (xs ++ ys) ≡ joined xs ++ joined ys
joined-append [] ys = refl
joined-append (l ∷ xs) ys = ap (λ z. l ++ 10 ∷ z) (joined-append xs ys) ∙ sym (append_assoc l (10 ∷ joined xs) (joined ys))

short-append : (xs ys : List (List ℕ)) → AreShort xs → AreShort ys → AreShort (xs ++ ys)
short-append [] ys a b = b
short-append (l ∷ xs) ys a b = (a.0, short-append xs ys a.1 b)

ended-joined : (ls : List (List ℕ)) → AreShort ls → ended (joined ls) ≡ ls
ended-joined [] all = refl
ended-joined (l ∷ ls) all = ended_first l (joined ls) all.0.open_ ∙ ap (λ z. l ∷ z) (ended-joined ls all.1)

unended-joined : (ls : List (List ℕ)) → AreShort ls → unended (joined ls) ≡ []
unended-joined [] all = refl
unended-joined (l ∷ ls) all = unended_first l (joined ls) all.0.open_ ∙ unended-joined ls all.1

-- no line
no-lines : ShortLines 0 []
no-lines = record { lines = []; short = tt; is = refl; count = refl }

-- lines behind lines
lines-both : {n m : ℕ} {x y : List ℕ} → ShortLines n x → ShortLines m y → ShortLines (n + m) (x ++ y)
lines-both s t = record {
  lines = s.lines ++ t.lines;
  short = short-append s.lines t.lines s.short t.short;
  is = ap₂ (λ a b. a ++ b) s.is t.is ∙ sym (joined-append s.lines t.lines);
  count = omega (arith, length-append s.lines t.lines, s.count, t.count);
}

lines-so : {n m : ℕ} {x y : List ℕ} → n ≡ m → x ≡ y → ShortLines n x → ShortLines m y
lines-so e f s = record { lines = s.lines; short = s.short; is = sym f ∙ s.is; count = sym e ∙ s.count }

-- ---- what a front of 4,096 bytes shows of them

-- a line in whole, and what stands behind it
record Cut (l more front rest : List ℕ) : Type 0 where
  behind : List ℕ
  front_is : front ≡ l ++ 10 ∷ behind
  rest_is : more ≡ behind ++ rest

cut-off : (l more front rest : List ℕ) → l ++ 10 ∷ more ≡ front ++ rest → length l < length front → Cut l more front rest
cut-off l more [] rest e long = absurd (omega arith)
cut-off [] more (x ∷ front) rest e long =
    let same : 10 ≡ x = cc in
    let tail : more ≡ front ++ rest = cc in
    record { behind = front; front_is = ap (λ z. z ∷ front) (sym same); rest_is = tail }
cut-off (y ∷ l) more (x ∷ front) rest e long =
    let same : y ≡ x = cc in
    let tail : l ++ 10 ∷ more ≡ front ++ rest = cc in
    let p = cut-off l more front rest tail (omega arith) in
    record { behind = p.behind; front_is = ap₂ (λ z zs. z ∷ zs) (sym same) p.front_is; rest_is = p.rest_is }

lines-first : (l behind : List ℕ) → NoFeed l → lines_in (l ++ 10 ∷ behind) ≡ l ∷ lines_in behind
lines-first l behind open_ = ap₂ (λ ls rest. ls ++ rest_line rest) (ended_first l behind open_) (unended_first l behind open_)

same-first : (m : ℕ) (ls : List (List ℕ)) (front rest : List ℕ) → AreShort ls → joined ls ≡ front ++ rest → 292 * m ≤ length front
    → take m (lines_in front) ≡ take m ls
same-first zero ls front rest all e long = refl
same-first (suc m) [] front rest all e long = absurd (omega (arith, length-append front rest, ap length e))
same-first (suc m) (l ∷ ls) front rest all e long =
    let here = all.0 in
    let few = here.few in
    let p = cut-off l (joined ls) front rest e (omega arith) in
    let left : 292 * m ≤ length p.behind = omega (arith, length-append l (10 ∷ p.behind), ap length p.front_is) in
    ap (λ z. take (suc m) (lines_in z)) p.front_is
    ∙ (ap (take (suc m)) (lines-first l p.behind here.open_) ∙ ap (λ z. l ∷ z) (same-first m ls p.behind rest all.1 p.rest_is left))

part-short : (n : ℕ) (text front back : List ℕ) → ShortLines n text → text ≡ front ++ back → length front ≡ 4096 → Excerpts front n text
part-short n text front back t e full =
    let lines : ended text ≡ t.lines = ap ended t.is ∙ ended-joined t.lines t.short in
    let same = same-first 14 t.lines front back t.short (sym t.is ∙ e) (omega arith) in
    ap₂ (λ ls k. map (cut 76) ls ++ more_behind k) same t.count ∙ ap reply_lines (sym lines)

whole-short : (n : ℕ) (text : List ℕ) → ShortLines n text → Excerpts text n text
whole-short n text t =
    let lines : ended text ≡ t.lines = ap ended t.is ∙ ended-joined t.lines t.short in
    let none : unended text ≡ [] = ap unended t.is ∙ unended-joined t.lines t.short in
    ap (excerpt_lines text) (t.count ∙ ap length (sym lines)) ∙ whole-reply text none

short-kept : (n : ℕ) (text : List ℕ) → ShortLines n text → Excerpts (front_of text) n text
short-kept n text t = go (kept text)
  where
    go : Kept text → Excerpts (front_of text) n text
    go (Kept.all is) = let P : List ℕ → Type 0 = λ z. Excerpts z n text in subst P (sym is) (whole-short n text t)
    go (Kept.part b back whole full) = part-short n text (front_of text) (b ∷ back) t whole full

-- a text of one line, however long, or of so many short ones
abbrev pub IsCounted : ℕ → List ℕ → Type 0
IsCounted n text = ((n ≡ 1) × OneLine text) ⊎ ShortLines n text

pub counted-is : (n : ℕ) (text : List ℕ) → IsCounted n text → n ≡ length (ended text)
counted-is n text (inl t) = t.0 ∙ sym (ap length (ap ended t.1.is ∙ ended_first t.1.words [] t.1.open_))
counted-is n text (inr t) = t.count ∙ ap length (sym (ap ended t.is ∙ ended-joined t.lines t.short))

-- what a front shows of it
pub counted-kept : (n : ℕ) (text : List ℕ) → IsCounted n text → Excerpts (front_of text) n text
counted-kept n text (inl t) = let P : ℕ → Type 0 = λ z. Excerpts (front_of text) z text in subst P (sym t.0) (one-kept text t.1)
counted-kept n text (inr t) = short-kept n text t

-- ---- short lines of words

short-line : (w : List ℕ) (ws : Words) → NoFeed w → length w ≤ 67 → AreWords ws → length ws ≤ 3 → ShortLines 1 (line w ws)
short-line w ws open_ few all many =
    let one = line-one w ws open_ (words-open ws all) in
    let rest : length (rest_of_line ws) ≤ 66 * length ws + 1 = rest-few ws all in
    let whole : length (line w ws) ≡ length w + length (rest_of_line ws) = length-append w (rest_of_line ws) in
    let same : length (line w ws) ≡ length (one.words ++ 10 ∷ []) = ap length one.is in
    let long : length (one.words ++ 10 ∷ []) ≡ length one.words + 1 = length-append one.words (10 ∷ []) in
    record { lines = one.words ∷ []; short = (record { open_ = one.open_; few = omega arith }, tt); is = one.is; count = refl }

ok-line : (ws : Words) → AreWords ws → length ws ≤ 3 → ShortLines 1 (line (codes "ok") ws)
ok-line ws all many = short-line (codes "ok") ws (no_feed_open (codes "ok") refl) (omega arith) all many

later-line : (w : List ℕ) (ws : Words) → ShortWord w → AreWords ws → length ws ≤ 3 → ShortLines 1 (later w ws)
later-line w ws word all many = let few = word.few in short-line (32 ∷ 32 ∷ w) ws (refl, (refl, word.open_)) (omega arith) all many

-- a line of an item with two words behind the first
two-words : (w a b : List ℕ) → ShortWord w → ShortWord a → ShortWord b → ShortLines 1 (later w (a ∷ b ∷ []))
two-words w a b word first second = later-line w (a ∷ b ∷ []) word (first, (second, tt)) (omega arith)

-- ---- lines of items

lines-each : {A : Type 0} (f : A → List ℕ) (xs : List A) → ((x : A) → ShortLines 1 (f x)) → ShortLines (length xs) (flat_map f xs)
lines-each f [] each = no-lines
lines-each f (x ∷ xs) each = lines-so (omega arith) refl (lines-both (each x) (lines-each f xs each))

lines-of : {A B : Type 0} (g : A → B) (f : B → List ℕ) (xs : List A) → ((x : A) → ShortLines 1 (f (g x)))
    → ShortLines (length xs) (flat_map f (map g xs))
lines-of g f [] each = no-lines
lines-of g f (x ∷ xs) each = lines-so (omega arith) refl (lines-both (each x) (lines-of g f xs each))

block-line : (b : BlockItem) → ShortLines 1 (block_line b)
block-line b = two-words (decimal b.anchor) (address b.address) (decimal b.size) (decimal-word b.anchor) (address-word b.address) (decimal-word b.size)

segment-line : (g : SegmentItem) → ShortLines 1 (segment_line g)
segment-line (segment.Used place size) =
    two-words (codes "used") (address place) (decimal size) (word-of (codes "used") refl refl) (address-word place) (decimal-word size)
segment-line (segment.Hole place size) =
    two-words (codes "hole") (address place) (decimal size) (word-of (codes "hole") refl refl) (address-word place) (decimal-word size)

state-word : (s : State) → ShortWord (state_name s)
state-word state.Open = word-of (codes "open") refl refl
state-word state.Fetching = word-of (codes "fetching") refl refl
state-word state.Draining = word-of (codes "draining") refl refl
state-word state.Asking = word-of (codes "asking") refl refl
state-word state.Done = word-of (codes "done") refl refl
state-word state.Failed = word-of (codes "failed") refl refl

record-line : (way : List ℕ) → ShortWord way → (r : RecordItem) → ShortLines 1 (record_line way r)
record-line way word r =
    let ws : Words = state_name r.state ∷ decimal r.id ∷ decimal r.count ∷ [] in
    let words : AreWords ws = (state-word r.state, (decimal-word r.id, (decimal-word r.count, tt))) in
    later-line way ws word words (omega arith)

-- records of one direction, each told as an item
records-lines : {A : Type 0} (g : A → RecordItem) (way : List ℕ) → ShortWord way → (xs : List A)
    → ShortLines (max (length xs) 1) (record_lines way (map g xs))
records-lines g way word [] = later-line way (codes "idle" ∷ []) word (word-of (codes "idle") refl refl, tt) (omega arith)
records-lines g way word (x ∷ xs) =
    lines-so (omega arith) refl (lines-of g (record_line way) (x ∷ xs) (λ r. record-line way word (g r)))

area-line : (number pages : ℕ) → ShortLines 1 (area_line (item.Area number pages))
area-line number pages =
    two-words (codes "area") (decimal number) (decimal pages) (word-of (codes "area") refl refl) (decimal-word number) (decimal-word pages)

-- ---- a text that ends with a line feed, whatever is in it

feed-is : (x : ℕ) → eqb x 10 ≡ true → x ≡ 10
feed-is x e = search (rules, tests)

-- a text is its lines and the last one that was begun
lines-left : (t : List ℕ) → t ≡ joined (ended t) ++ unended t
lines-left [] = refl
lines-left (b ∷ bs) = go (bool_cases (eqb b 10)) (lines-left bs)
  where
    onto : (ls : List (List ℕ)) → ended bs ≡ ls → eqb b 10 ≡ false → bs ≡ joined (ended bs) ++ unended bs
        → b ∷ bs ≡ joined (ended (b ∷ bs)) ++ unended (b ∷ bs)
    onto [] is e h =
        let none : ended (b ∷ bs) ≡ [] = rw (e, is) refl in
        let all : unended (b ∷ bs) ≡ b ∷ bs = ap (λ ls. unended_after b bs ls (unended bs)) none in
        sym (ap₂ (λ ls rest. joined ls ++ rest) none all)
    onto (l ∷ ls) is e h =
        let some : ended (b ∷ bs) ≡ (b ∷ l) ∷ ls = rw (e, is) refl in
        let rest : unended (b ∷ bs) ≡ unended bs = ap (λ ls. unended_after b bs ls (unended bs)) some in
        let tail : bs ≡ joined (l ∷ ls) ++ unended bs = h ∙ ap (λ z. joined z ++ unended bs) is in
        ap (λ z. b ∷ z) tail ∙ sym (ap₂ (λ ls rest. joined ls ++ rest) some rest)

    go : (eqb b 10 ≡ true) ⊎ (eqb b 10 ≡ false) → bs ≡ joined (ended bs) ++ unended bs
        → b ∷ bs ≡ joined (ended (b ∷ bs)) ++ unended (b ∷ bs)
    go (inl e) h =
        let some : ended (b ∷ bs) ≡ [] ∷ ended bs = rw e refl in
        let rest : unended (b ∷ bs) ≡ unended bs = ap (λ ls. unended_after b bs ls (unended bs)) some in
        ap₂ (λ x z. x ∷ z) (feed-is b e) h ∙ sym (ap₂ (λ ls rest. joined ls ++ rest) some rest)
    go (inr e) h = onto (ended bs) refl e h

-- a byte at the head of the first line
abbrev AreWithin : ℕ → List (List ℕ) → Type 0
AreWithin n lines = AllByRecursion (λ l. NoFeed l × (length l < n)) lines

within-more : (n m : ℕ) (ls : List (List ℕ)) → n ≤ m → AreWithin n ls → AreWithin m ls
within-more n m [] less all = tt
within-more n m (l ∷ ls) less all = let few = all.0.1 in ((all.0.0, omega arith), within-more n m ls less all.1)

lines-within : (t : List ℕ) → AreWithin (length t) (ended t)
lines-within [] = tt
lines-within (b ∷ bs) = go (bool_cases (eqb b 10)) (lines-within bs)
  where
    onto : (ls : List (List ℕ)) → eqb b 10 ≡ false → AreWithin (length bs) ls → AreWithin (length (b ∷ bs)) (onto_line b ls)
    onto [] e all = tt
    onto (l ∷ ls) e all =
        let few = all.0.1 in (((e, all.0.0), omega arith), within-more (length bs) (length (b ∷ bs)) ls (omega arith) all.1)

    go : (eqb b 10 ≡ true) ⊎ (eqb b 10 ≡ false) → AreWithin (length bs) (ended bs) → AreWithin (length (b ∷ bs)) (ended (b ∷ bs))
    go (inl e) all = rw e ((tt, omega arith), within-more (length bs) (length (b ∷ bs)) (ended bs) (omega arith) all)
    go (inr e) all = rw e (onto (ended bs) e all)

within-short : (n : ℕ) (ls : List (List ℕ)) → n ≤ 292 → AreWithin n ls → AreShort ls
within-short n [] less all = tt
within-short n (l ∷ ls) less all = let few = all.0.1 in (record { open_ = all.0.0; few = omega arith }, within-short n ls less all.1)

-- a text of at most 292 bytes that ends with a line feed has short lines
lines-closed : (t : List ℕ) → unended t ≡ [] → length t ≤ 292 → ShortLines (length (ended t)) t
lines-closed t none few = record {
  lines = ended t;
  short = within-short (length t) (ended t) few (lines-within t);
  is = lines-left t ∙ (ap (λ z. joined (ended t) ++ z) none ∙ append-nil (joined (ended t)));
  count = refl;
}

pub unended-closed : (xs : List ℕ) → unended (xs ++ 10 ∷ []) ≡ []
unended-closed xs = unended-append xs (10 ∷ []) ∙ unended_first (unended xs) [] (no_feed_open (unended xs) (ended-unended xs))

-- line feeds are counted part by part
feeds-append : (xs ys : List ℕ) → length (ended (xs ++ ys)) ≡ length (ended xs) + length (ended ys)
feeds-append [] ys = omega arith
feeds-append (x ∷ xs) ys = go (bool_cases (eqb x 10)) (feeds-append xs ys)
  where
    go : (eqb x 10 ≡ true) ⊎ (eqb x 10 ≡ false) → length (ended (xs ++ ys)) ≡ length (ended xs) + length (ended ys)
        → length (ended (x ∷ (xs ++ ys))) ≡ length (ended (x ∷ xs)) + length (ended ys)
    go (inl e) h = rw e (omega arith)
    go (inr e) h = rw e (omega (arith, onto-long x (ended (xs ++ ys)), onto-long x (ended xs)))

-- a slot's line, where its task's name may be of any bytes
slot-line : (name : List ℕ) (pages : ℕ) → length name ≤ 12 → ShortLines (1 + length (ended name)) (area_line (item.Slot name pages))
slot-line name pages few =
    let ws : Words = decimal pages ∷ [] in
    let words : AreWords ws = (decimal-word pages, tt) in
    let one = rest-one ws (words-open ws words) in
    let head = codes "  slot " in
    let text = area_line (item.Slot name pages) in
    let whole : text ≡ (head ++ (name ++ one.words)) ++ 10 ∷ [] =
    ap (λ z. head ++ (name ++ z)) one.is
    ∙ (ap (λ z. head ++ z) (sym (append_assoc name one.words (10 ∷ []))) ∙ sym (append_assoc head (name ++ one.words) (10 ∷ []))) in
    let none : unended text ≡ [] = ap unended whole ∙ unended-closed (head ++ (name ++ one.words)) in
    let rest : length (rest_of_line ws) ≤ 67 = rest-few ws words in
    let long : length text ≡ length head + length (name ++ rest_of_line ws) = length-append head (name ++ rest_of_line ws) in
    let more : length (name ++ rest_of_line ws) ≡ length name + length (rest_of_line ws) = length-append name (rest_of_line ws) in
    let seven : length head ≡ 7 = refl in
    let last : length (ended (rest_of_line ws)) ≡ 1 = ap length (ap ended one.is ∙ ended_first one.words [] one.open_) in
    let feeds : length (ended text) ≡ length (ended head) + length (ended (name ++ rest_of_line ws)) = feeds-append head (name ++ rest_of_line ws) in
    let feeds_behind : length (ended (name ++ rest_of_line ws)) ≡ length (ended name) + length (ended (rest_of_line ws)) =
    feeds-append name (rest_of_line ws) in
    let none_ahead : length (ended head) ≡ 0 = refl in
    lines-so (omega arith) refl (lines-closed text none (omega arith))

-- ---- slots, one by one

-- there are no more lines than bytes
pub ended-few : (t : List ℕ) → length (ended t) ≤ length t
ended-few [] = omega arith
ended-few (b ∷ bs) = go (bool_cases (eqb b 10)) (ended-few bs)
  where
    go : (eqb b 10 ≡ true) ⊎ (eqb b 10 ≡ false) → length (ended bs) ≤ length bs → length (ended (b ∷ bs)) ≤ length (b ∷ bs)
    go (inl e) h = rw e (omega arith)
    go (inr e) h = rw e (omega (arith, onto-long b (ended bs)))

abbrev slot_item : Task → AreaItem
slot_item t = item.Slot t.name (task_pages t)

-- the tasks up to the next one, and all of them
pub small-more : (ts : List Task) (i : ℕ) (t : Task) → AllByRecursion IsSmallTask (take i ts) → slice_get ts i ≡ Some t → IsSmallTask t
    → AllByRecursion IsSmallTask (take (i + 1) ts)
small-more ts i t all at here = subst (AllByRecursion IsSmallTask) (sym (front-some ts i t at)) (go (take i ts) all)
  where
    go : (xs : List Task) → AllByRecursion IsSmallTask xs → AllByRecursion IsSmallTask (xs ++ t ∷ [])
    go [] all = (here, tt)
    go (x ∷ xs) all = (all.0, go xs all.1)

pub small-all : (ts : List Task) (i : ℕ) → AllByRecursion IsSmallTask (take i ts) → slice_get ts i ≡ None → AllByRecursion IsSmallTask ts
small-all ts i all past = subst (AllByRecursion IsSmallTask) (front-none ts i past) all

-- one line for each slot, and one more for each line feed of its name
abbrev slot_lines : List Task → ℕ
slot_lines tasks = total (λ (t : Task). 1 + length (ended t.name)) tasks

slots-lines : (ts : List Task) → AllByRecursion IsSmallTask ts → ShortLines (slot_lines ts) (flat_map area_line (map slot_item ts))
slots-lines [] all = no-lines
slots-lines (t ∷ ts) all = lines-both (slot-line t.name (task_pages t) all.0.name) (slots-lines ts all.1)

slots-few : (ts : List Task) → AllByRecursion IsSmallTask ts → slot_lines ts ≤ 13 * length ts
slots-few [] all = omega arith
slots-few (t ∷ ts) all = omega (arith, all.0.name, ended-few t.name, slots-few ts all.1)

areas-lines : (d : Desk) → AllByRecursion IsSmallTask d.tasks
    → ShortLines (length d.areas + (length d.made + slot_lines d.tasks)) (flat_map area_line (area_items d))
areas-lines d names =
    let fixed = map (area_item d) (enumerate_from 0 d.areas) in
    let made = map (λ (m : Made). item.Area m.number m.pages) d.made in
    let slots = map slot_item d.tasks in
    let a = lines-of (area_item d) area_line (enumerate_from 0 d.areas) (λ x. area-line x.0 _) in
    let b = lines-of (λ (m : Made). item.Area m.number m.pages) area_line d.made (λ m. area-line m.number m.pages) in
    let c = slots-lines d.tasks names in
    let whole : flat_map area_line (area_items d) ≡ (flat_map area_line fixed ++ flat_map area_line made) ++ flat_map area_line slots =
    flat_map-append area_line (fixed ++ made) slots ∙ ap (λ z. z ++ flat_map area_line slots) (flat_map-append area_line fixed made) in
    let many : length (enumerate_from 0 d.areas) ≡ length d.areas = length-enumerate_from 0 d.areas in
    lines-so (omega arith) (sym whole) (lines-both (lines-both a b) c)

-- ---- a block's bytes

index-open : (table : List ℕ) → NoFeed table → (i : ℕ) → eqb (slice_index table i) 10 ≡ false
index-open [] clear i = refl
index-open (x ∷ xs) clear zero = clear.0
index-open (x ∷ xs) clear (suc i) = index-open xs clear.1 i

hex-open : (table : List ℕ) → NoFeed table → (bytes : List ℕ) → NoFeed (encode_with table bytes)
unfolding encode_with
hex-open table clear [] = tt
hex-open table clear (b ∷ bytes) = (index-open table clear (b / 16), (index-open table clear (b % 16), hex-open table clear bytes))

pub hex-words : (bytes : List ℕ) → AreOpen (hex_words bytes)
hex-words [] = tt
hex-words (b ∷ bytes) = (hex-open lower_digits (no_feed_open lower_digits refl) (b ∷ bytes), tt)

shown-one : (size : ℕ) (bytes : List ℕ) → OneLine (answer_text (Ok (numbers.Shown size, Bytes bytes)))
unfolding answer_text first_line later_lines
shown-one size bytes =
    let text = line (codes "ok") (decimal size ∷ hex_words bytes) in
    let one = line-one (codes "ok") (decimal size ∷ hex_words bytes) (no_feed_open (codes "ok") refl) (decimal-open size, hex-words bytes) in
    subst OneLine (sym (append-nil text)) one

-- ---- answers

refused-one : (refusal : Refusal) → OneLine (answer_text (Err refusal))
unfolding answer_text
refused-one refusal = first-one (reply.Refused refusal)

-- the first line of an answer that shows no bytes
first-short : (numbers : Numbers) (listed : Listed) → shown_bytes listed ≡ [] → ShortLines 1 (first_line (reply.Answered numbers) listed)
unfolding first_line
first-short numbers listed none =
    rw none (ok-line (map decimal (each_of numbers) ++ []) (number-words (each_of numbers)) (few-numbers numbers))

-- one of some
all-at : (P : Task → Type 0) (ts : List Task) (i : ℕ) (t : Task) → AllByRecursion P ts → slice_get ts i ≡ Some t → P t
all-at P [] i t all e = cc
all-at P (x ∷ ts) zero t all e = let same : x ≡ t = cc in subst P same all.0
all-at P (x ∷ ts) (suc i) t all e = all-at P ts i t all.1 e

-- a text with few lines, which are counted
pub record FewLines (text : List ℕ) : Type 0 where
  pub count : ℕ
  pub counted : IsCounted count text
  pub few : count ≤ 8388608

told-lines : (numbers : Numbers) (listed : Listed) (n : ℕ) → ShortLines n (later_lines listed) → shown_bytes listed ≡ [] → n < 8388608
    → FewLines (answer_text (Ok (numbers, listed)))
unfolding answer_text
told-lines numbers listed n rest none few =
    record { count = 1 + n; counted = inr (lines-both (first-short numbers listed none) rest); few = omega (arith, few) }

-- an answer about a task that may not be there
module _ (d : Desk) (is : IsDesk d) (small : AreSmall d.tasks) where
  found-at : (p : Task → Bool) (ts : List Task) (t : Task) → find p ts ≡ Some t → (i : ℕ) × (slice_get ts i ≡ Some t)
  found-at p [] t e = cc
  found-at p (x ∷ ts) t e = go (p x) e (found-at p ts t)
    where
      go : (b : Bool) → (if b then Some x else find p ts) ≡ Some t → (find p ts ≡ Some t → (i : ℕ) × (slice_get ts i ≡ Some t))
          → (i : ℕ) × (slice_get (x ∷ ts) i ≡ Some t)
      go true e rest = (0, e)
      go false e rest = let at = rest e in (suc at.0, at.1)

  told-of : (name : List ℕ) (f : Task → Granted Told) → ((i : ℕ) (t : Task) → slice_get d.tasks i ≡ Some t → FewLines (answer_text (f t)))
      → FewLines (answer_text (named name d >>= f))
  unfolding ◌>>=◌ named found_or
  told-of name f each = go (find (has_name name) d.tasks) refl
    where
      go : (o : Option Task) → find (has_name name) d.tasks ≡ o → FewLines (answer_text (found_or o NoName >>= f))
      go None e = record { count = 1; counted = inl (refl, refused-one NoName); few = omega arith }
      go (Some t) e = let at = found-at (has_name name) d.tasks t e in each at.0 t at.1

  -- an answer of one line behind a step that may be refused
  one-of : {A : Type 0} (g : Granted A) (f : A → Granted Told) → ((x : A) → OneLine (answer_text (f x))) → OneLine (answer_text (g >>= f))
  unfolding ◌>>=◌
  one-of (Ok x) f each = each x
  one-of (Err refusal) f each = refused-one refusal

  show-few : (name : List ℕ) (k : ℕ) → FewLines (answer_text (show d name k))
  unfolding show
  show-few name k = record {
    count = 1;
    counted = inl (refl, one-of (named name d) _ (λ t. one-of (slot_block k t.slot) _ (λ b. shown-one (length b.here.bytes) b.here.bytes)));
    few = omega arith;
  }

  -- the same behind a step of which the refusal alone counts
  one-behind : {A : Type 0} (g : Granted A) (next : Granted Told) → OneLine (answer_text next) → OneLine (answer_text (g >> next))
  unfolding ◌>>◌ ◌>>=◌
  one-behind (Ok x) next one = one
  one-behind (Err refusal) next one = refused-one refusal

  read-few : (name : List ℕ) (x n : ℕ) → FewLines (answer_text (read d name x n))
  unfolding read
  read-few name x n = record {
    count = 1;
    counted = inl (refl, one-of (named name d) _ (λ t. one-behind (refuse_if (not (holds x n t.slot)) BadRange) _ (shown-one n (bytes_held x n t.slot))));
    few = omega arith;
  }

  blocks-few : (name : List ℕ) → FewLines (answer_text (blocks d name))
  unfolding blocks later_lines
  blocks-few name = told-of name _ λ i t at.
      let items = block_items t.slot in
      let few = few-blocks t.slot.blocks (task-slot is i t at).anchors in
      told-lines _ (Blocks items) (length items) (lines-each block_line items block-line) refl
      (omega (arith, few, items-long (flex_start t.slot) t.slot.blocks))
    where
      items-long : (place : ℕ) (bs : List Flex) → length (block_items_from place bs) ≡ length bs
      items-long place [] = refl
      items-long place (b ∷ bs) = ap suc (items-long (place + weight b) bs)

  heap-few : (name : List ℕ) → FewLines (answer_text (heap d name))
  unfolding heap later_lines
  heap-few name = told-of name _ λ i t at.
      let h = t.slot.heap in
      let items = segment_items t.slot in
      let e = ap (option_map (λ (u : Task). u.slot.heap)) at in
      let w : ComesToRest (heap_seen (heap_of.Task i) d) 16 h.segments = record { heap = h; is = e; below = []; whole = refl; at = refl } in
      let small_heap = seen is (heap_of.Task i) h e in
      let k = room w small_heap in
      let many : length items ≡ length h.segments = length-items _ h.segments in
      told-lines _ (Segments items) (length items) (lines-each segment_line items segment-line) refl
      (omega (arith, k.fits, small_heap.few, sized-many h.segments k.sized, many))

  status-few : (name : List ℕ) → FewLines (answer_text (status d name))
  unfolding status later_lines
  status-few name = told-of name _ λ i t at.
      let few = all-at IsSmallTask d.tasks i t small.each at in
      told-lines _ (Records (map out_item t.sending) (map in_item t.taking)) (max (length t.sending) 1 + max (length t.taking) 1)
      (lines-both
      (records-lines out_item (codes "out") (word-of (codes "out") refl refl) t.sending)
      (records-lines in_item (codes "in") (word-of (codes "in") refl refl) t.taking)) refl (omega (arith, few.sending, few.taking))

  areas-few : FewLines (answer_text (asked d question.Areas))
  unfolding later_lines
  areas-few =
      told-lines (areas d).0 (Areas (area_items d)) (length d.areas + (length d.made + slot_lines d.tasks)) (areas-lines d small.each) refl
      (omega (arith, is.areas.six, is.made.few, small.few, slots-few d.tasks small.each))

  -- each answer has few lines
  pub answer-few : (q : Question) → FewLines (answer_text (asked d q))
  answer-few (question.Show name k) = show-few name k
  answer-few (question.Read name x n) = read-few name x n
  answer-few (question.Blocks name) = blocks-few name
  answer-few (question.Heap name) = heap-few name
  answer-few (question.Status name) = status-few name
  answer-few question.Areas = areas-few
