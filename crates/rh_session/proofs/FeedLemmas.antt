-- Lines that are taken, one after the other.
use Rattle.std.proofs.Common.{◌≡◌, ℕ, ◌+◌, ◌-◌, ◌*◌, ◌<◌, ◌≤◌, ◌≢◌, List, [], ◌∷◌, ◌++◌, length, take, eqb, Bool, true, false, ◌||◌, map, Option}
use Rattle.std.proofs.Common.{Some, None, Result, Ok}
use Rattle.std.proofs.Common.{Err, inl, inr, append_assoc, append-nil, refl, sym, ◌∙◌, ap, subst, arith}
use Rattle.std.specs.Prelude.{OnErr, OnOk, slice_index}
use Rattle.std.proofs.lemmas.Bool.Decides.{nat_tests}
use Rattle.std.proofs.lemmas.List.{length-drop, map-append}
use Rattle.std.specs.Io.KnownBytes.{Consumes, Keeps, IsAtEnd}
use Rattle.rh_defs.specs.Script.{ended, unended}
use Rattle.rh_lines.specs.Flow.{Input, Output, Breaks, Takes, reads_after}
use Rattle.rh_lines.specs.Pens.{begun_of, offered_of, text_of}
use Rattle.rh_lines.specs.declared.sink.Sink.{Ghosts}
use Rattle.rh_lines.specs.declared.writer_pen.WriterPen.{WriterPen}
use Rattle.rh_lines.proofs.FlowLemmas.{takes_none}
use Rattle.rh_lines.proofs.PenLemmas.{told_as}
use Rattle.rh_session.specs.Lines.{kept, kept_lines, kept_rest}
use Rattle.rh_session.specs.Taken.{Step, Gives, TookAll, TookFront, TookScript, Fed, FedAll, FedUntil}
use Rattle.rh_session.proofs.LineLemmas.{NoFeed, NoneBelow, behind, behind_is, cut_at, ended_none, ended_first, unended_first, unended_all, ended-unended}
use Rattle.rh_session.proofs.LineLemmas.{ended-append, kept_front, kept_kept, kept_nil, kept_lines-append, no_feed_all}
use Rattle.rh_session.proofs.LineLemmas.{no_feed_below, no_feed_join, no_feed_open}
use Rattle.rh_session.proofs.LineLemmas.{unended-append}

-- what holds anyway holds where a result is an error, or is none
pub on_err : {E : Type 0} {P : Type 0} (r : Result Unit E) → P → OnErr r P
on_err (Ok x) p = tt
on_err (Err e) p = p

pub on_ok : {E : Type 0} {P : Type 0} (r : Result Unit E) → P → OnOk r P
on_ok (Ok x) p = p
on_ok (Err e) p = tt

-- what follows where a result is no error, or is one
pub ok_so : {E P Q : Type 0} (r : Result Unit E) → (P → Q) → OnOk r P → OnOk r Q
ok_so (Ok x) f h = f h
ok_so (Err e) f h = tt

pub err_so : {E P Q : Type 0} (r : Result Unit E) → (P → Q) → OnErr r P → OnErr r Q
err_so (Ok x) f h = tt
err_so (Err e) f h = f h

-- ---- lists of lines

pub took_more : {S : Type 0} (step : Step S) (s t u : S) (a b : List ℕ) (xs ys : List (List ℕ)) → TookAll step s xs t a → TookAll step t ys u b
    → TookAll step s (xs ++ ys) u (a ++ b)
took_more {S} step s t u a b [] ys (same, none) q =
    subst (λ (z : S). TookAll step z ys u (a ++ b)) (sym same)
    (subst (λ (z : List ℕ). TookAll step t ys u z) (sym (ap (λ z. z ++ b) none)) q)
took_more step s t u a b (l ∷ ls) ys (v, c, d, one, rest, is) q =
    (v, c, d ++ b, one, took_more step v t u d b ls ys rest q, ap (λ z. z ++ b) is ∙ append_assoc c d b)

-- one more line
pub took_one : {S : Type 0} (step : Step S) (s t u : S) (a b : List ℕ) (lines : List (List ℕ)) (line : List ℕ) → TookAll step s lines t a
    → step t line u b → TookAll step s (lines ++ line ∷ []) u (a ++ b)
took_one step s t u a b lines line p q =
    took_more step s t u a b lines (line ∷ []) p (u, b, [], q, (refl, refl), sym (append-nil b))

-- what was offered with both
pub offers_more : {P Q : List ℕ → Type 0} {old mid new : List ℕ} (p : Gives P old mid) (q : Gives Q mid new) → new ≡ old ++ (p.text ++ q.text)
offers_more {old = old} p q = q.offered ∙ (ap (λ z. z ++ q.text) p.offered ∙ append_assoc old p.text q.text)

-- one text behind another
pub gives_more : {P Q R : List ℕ → Type 0} {old mid new : List ℕ} → Gives P old mid → Gives Q mid new
    → ((a b : List ℕ) → P a → Q b → R (a ++ b)) → Gives R old new
gives_more p q f = record {
  text = p.text ++ q.text;
  meets = f p.text q.text p.meets q.meets;
  offered = offers_more p q;
}

-- no more is offered
pub offers_same : {P : List ℕ → Type 0} {old new now : List ℕ} → now ≡ new → Gives P old new → Gives P old now
offers_same same p = record { text = p.text; meets = p.meets; offered = same ∙ p.offered }

-- no text
pub gives_none : {P : List ℕ → Type 0} (old : List ℕ) → P [] → Gives P old old
gives_none old p = record { text = []; meets = p; offered = sym (append-nil old) }

-- the same text, of which more is known, and which is offered now
pub gives_so : {P Q : List ℕ → Type 0} {old new now : List ℕ} → now ≡ new → ((text : List ℕ) → P text → Q text) → Gives P old new → Gives Q old now
gives_so same f p = record { text = p.text; meets = f p.text p.meets; offered = same ∙ p.offered }

-- ---- the bytes of a piece

-- Of a front and the bytes behind it lines were taken, and a part of the next line was seen; the rest is to come.
pub record Went {S : Type 0} (step : Step S) (first now : S) (line front bytes rest text : List ℕ) : Type 0 where
  pub done : List ℕ
  pub begun : List ℕ
  pub whole : front ++ bytes ≡ done ++ (begun ++ rest)
  pub closed : unended done ≡ []
  pub begun_open : ended begun ≡ []
  pub line_is : line ≡ kept begun
  pub taken : TookAll step first (kept_lines done) now text

pub went_nowhere : {S : Type 0} {step : Step S} {first : S} {line : List ℕ} (front bytes : List ℕ) → ended front ≡ [] → line ≡ kept front
    → Went step first first line front bytes bytes []
went_nowhere front bytes e is = record {
  done = [];
  begun = front;
  whole = refl;
  closed = refl;
  begun_open = e;
  line_is = is;
  taken = (refl, refl);
}

-- the next line and its line feed, and what stands behind it
next_whole : (front bytes done begun rest : List ℕ) (n : ℕ) → front ++ bytes ≡ done ++ (begun ++ rest) → n < length rest → eqb (slice_index rest n) 10 ≡ true
    → front ++ bytes ≡ (done ++ ((begun ++ take n rest) ++ 10 ∷ [])) ++ behind rest n
next_whole front bytes done begun rest n e lt at =
    e ∙ (ap (λ z. done ++ (begun ++ z)) (cut_at rest n lt at ∙ ap (λ z. take n rest ++ (10 ∷ z)) (sym (behind_is rest n)))
    ∙ (ap (λ z. done ++ z) (sym (append_assoc begun (take n rest) (10 ∷ behind rest n))
    ∙ sym (append_assoc (begun ++ take n rest) (10 ∷ []) (behind rest n)))
    ∙ sym (append_assoc done ((begun ++ take n rest) ++ 10 ∷ []) (behind rest n))))

-- the line that was taken, as far as it is kept
taken_line : (begun first line given : List ℕ) → line ≡ kept begun → kept given ≡ kept (line ++ first) → kept given ≡ kept (begun ++ first)
taken_line begun first line given is e = e ∙ (ap (λ z. kept (z ++ first)) is ∙ kept_front begun first)

-- the lines so far and one more
lines_more : (done line : List ℕ) → unended done ≡ [] → NoFeed line → kept_lines (done ++ (line ++ 10 ∷ [])) ≡ kept_lines done ++ kept line ∷ []
lines_more done line closed none =
    kept_lines-append done (line ++ 10 ∷ [])
    ∙ ap (λ z. kept_lines done ++ z) (ap (λ z. kept_lines (z ++ (line ++ 10 ∷ []))) closed ∙ ap (map kept) (ended_first line [] none))

closed_more : (done line : List ℕ) → unended done ≡ [] → NoFeed line → unended (done ++ (line ++ 10 ∷ [])) ≡ []
closed_more done line closed none =
    unended-append done (line ++ 10 ∷ [])
    ∙ (ap (λ z. unended (z ++ (line ++ 10 ∷ []))) closed ∙ unended_first line [] none)

line_open : (begun rest : List ℕ) (n : ℕ) → ended begun ≡ [] → n < length rest → NoneBelow rest n → NoFeed (begun ++ take n rest)
line_open begun rest n begun_open lt none =
    no_feed_join begun (take n rest) (no_feed_open begun begun_open) (no_feed_below rest n (omega arith) none)

-- one more line was taken
pub went_on : {S : Type 0} {step : Step S} {first now : S} {line front bytes rest old mid new : List ℕ} (next : S) (cleared given : List ℕ) (n : ℕ)
    → Gives (Went step first now line front bytes rest) old mid → n < length rest → NoneBelow rest n → eqb (slice_index rest n) 10 ≡ true
    → kept given ≡ kept (line ++ take n rest) → Gives (step now (kept given) next) mid new → cleared ≡ []
    → Gives (Went step first next cleared front bytes (behind rest n)) old new
went_on {S} {step} {first} {now} {line} {front} {bytes} {rest} next cleared given n gone lt none at e one empty =
    gives_more gone one on
  where
    on : (a b : List ℕ) → Went step first now line front bytes rest a → step now (kept given) next b
        → Went step first next cleared front bytes (behind rest n) (a ++ b)
    on a b w q =
        let read : List ℕ = w.begun ++ take n rest in
        let no_feed : NoFeed read = line_open w.begun rest n w.begun_open lt none in
        let P : List ℕ → Type 0 = λ z. step now z next b in
        let Q : List (List ℕ) → Type 0 = λ z. TookAll step first z next (a ++ b) in
        record {
          done = w.done ++ (read ++ 10 ∷ []);
          begun = [];
          whole = next_whole front bytes w.done w.begun rest n w.whole lt at;
          closed = closed_more w.done read w.closed no_feed;
          begun_open = refl;
          line_is = empty ∙ sym kept_nil;
          taken = subst Q (sym (lines_more w.done read w.closed no_feed)) (took_one step first now next a b (kept_lines w.done) (kept read) w.taken
              (subst P (taken_line w.begun (take n rest) line given w.line_is e) q));
        }

-- no more lines are taken
pub went_so_far : {S : Type 0} {step : Step S} {first now : S} {line front bytes rest text : List ℕ} → Went step first now line front bytes rest text
    → TookFront step first (front ++ bytes) text
went_so_far {now = now} {rest = rest} w = record {
  front = ended w.done;
  behind = ended (w.begun ++ rest);
  whole = ap ended w.whole ∙ (ended-append w.done (w.begun ++ rest) ∙ ap (λ z. ended w.done ++ ended (z ++ (w.begun ++ rest))) w.closed);
  taker = now;
  taken = w.taken;
}

all_lines : (done read : List ℕ) → unended done ≡ [] → NoFeed read → kept_lines (done ++ read) ≡ kept_lines done
all_lines done read closed none =
    kept_lines-append done read
    ∙ (ap (λ z. kept_lines done ++ kept_lines (z ++ read)) closed
    ∙ (ap (λ z. kept_lines done ++ map kept z) (ended_none read none) ∙ append-nil (kept_lines done)))

-- what is left ends no line
pub went_through : {S : Type 0} {step : Step S} {first now : S} {line front bytes rest text : List ℕ}
    → Went step first now line front bytes rest text → NoneBelow rest (length rest) → TookAll step first (kept_lines (front ++ bytes)) now text
went_through {S} {step} {first} {now} {line} {front} {bytes} {rest} {text} w none =
    let no_feed : NoFeed (w.begun ++ rest) = no_feed_join w.begun rest (no_feed_open w.begun w.begun_open) (no_feed_all rest none) in
    let P : List (List ℕ) → Type 0 = λ z. TookAll step first z now text in
    subst P (sym (ap kept_lines w.whole ∙ all_lines w.done (w.begun ++ rest) w.closed no_feed)) w.taken

pub rest_through : {S : Type 0} {step : Step S} {first now : S} {line front bytes rest text : List ℕ} (after : List ℕ)
    → Went step first now line front bytes rest text → NoneBelow rest (length rest) → after ≡ kept (line ++ rest) → after ≡ kept_rest (front ++ bytes)
rest_through {line = line} {front = front} {bytes = bytes} {rest = rest} after w none is =
    let no_feed : NoFeed (w.begun ++ rest) = no_feed_join w.begun rest (no_feed_open w.begun w.begun_open) (no_feed_all rest none) in
    let read : unended (front ++ bytes) ≡ w.begun ++ rest =
    ap unended w.whole ∙ (unended-append w.done (w.begun ++ rest)
    ∙ (ap (λ z. unended (z ++ (w.begun ++ rest))) w.closed ∙ unended_all (w.begun ++ rest) no_feed)) in
    is ∙ (ap (λ z. kept (z ++ rest)) w.line_is ∙ (kept_front w.begun rest ∙ sym (ap kept read)))

-- what is left behind a line is shorter by the line and its line feed
pub behind_less : (xs : List ℕ) (n : ℕ) → n < length xs → length (behind xs n) + (n + 1) ≡ length xs
behind_less xs n lt = rw (behind_is xs n) (grind (arith, length-drop))

-- ---- read by read

pub Consumes-more : (a b c : Option (List ℕ)) (x y : List ℕ) → Consumes a b x → Consumes b c y → Consumes a c (x ++ y)
Consumes-more None b c x y p q = tt
Consumes-more (Some a) None c x y p q = absurd p
Consumes-more (Some a) (Some b) None x y p q = absurd q
Consumes-more (Some a) (Some b) (Some c) x y p q = p ∙ (ap (λ z. x ++ z) q ∙ sym (append_assoc x y c))

pub Consumes-none : (a : Option (List ℕ)) → Consumes a a []
Consumes-none None = tt
Consumes-none (Some a) = refl

pub Consumes-keeps : (a b c : Option (List ℕ)) (x : List ℕ) → Consumes a b x → Keeps b c → Consumes a c x
Consumes-keeps None b c x p q = tt
Consumes-keeps (Some a) None c x p q = absurd p
Consumes-keeps (Some a) (Some b) None x p q = absurd q
Consumes-keeps (Some a) (Some b) (Some c) x p q = p ∙ ap (λ z. x ++ z) (sym q)

-- what was read so far was handed on, but for a line that has no end yet
pub record Going {S : Type 0} (step : Step S) (before now : Input) (s t : S) (line text : List ℕ) : Type 0 where
  pub bytes : List ℕ
  pub read : Consumes before.left now.left bytes
  pub taken : TookAll step s (kept_lines bytes) t text
  pub line_is : line ≡ kept_rest bytes

pub going_starts : {S : Type 0} {step : Step S} {s : S} {line : List ℕ} (i : Input) → line ≡ [] → Going step i i s s line []
going_starts i e = record { bytes = []; read = Consumes-none i.left; taken = (refl, refl); line_is = e ∙ sym kept_nil }

-- one more piece
pub going_on : {S : Type 0} {step : Step S} {before now : Input} {s t : S} {line old mid new : List ℕ} (after : Input) (next : S)
    (kept_line more : List ℕ) → Gives (Going step before now s t line) old mid → Consumes now.left after.left more
    → ((front : List ℕ) → ended front ≡ [] → line ≡ kept front → Gives (TookAll step t (kept_lines (front ++ more)) next) mid new)
    → ((front : List ℕ) → ended front ≡ [] → line ≡ kept front → kept_line ≡ kept_rest (front ++ more))
    → Gives (Going step before after s next kept_line) old new
going_on {S} {step} {before} {now} {s} {t} {line} after next kept_line more gone c took rest =
    let g = gone.meets in
    let begun_open : ended (unended g.bytes) ≡ [] = ended-unended g.bytes in
    let here = took (unended g.bytes) begun_open g.line_is in
    let text = gone.text ++ here.text in
    let P : List (List ℕ) → Type 0 = λ z. TookAll step s z next text in
    record {
      text = text;
      meets = record {
        bytes = g.bytes ++ more;
        read = Consumes-more before.left now.left after.left g.bytes more g.read c;
        taken = subst P (sym (kept_lines-append g.bytes more))
            (took_more step s t next gone.text here.text (kept_lines g.bytes) (kept_lines (unended g.bytes ++ more)) g.taken here.meets);
        line_is = rest (unended g.bytes) begun_open g.line_is ∙ sym (ap kept (unended-append g.bytes more));
      };
      offered = offers_more gone here;
    }

-- some lines of one more piece
front_on : {S : Type 0} {step : Step S} {s t : S} (bytes more a b : List ℕ) → TookAll step s (kept_lines bytes) t a
    → TookFront step t (unended bytes ++ more) b → TookFront step s (bytes ++ more) (a ++ b)
front_on {step = step} {s = s} {t = t} bytes more a b p q =
    let P : List (List ℕ) → Type 0 = λ z. TookAll step s z q.taker (a ++ b) in
    record {
      front = ended bytes ++ q.front;
      behind = q.behind;
      whole = ended-append bytes more ∙ (ap (λ z. ended bytes ++ z) q.whole ∙ sym (append_assoc (ended bytes) q.front q.behind));
      taker = q.taker;
      taken = subst P (sym (map-append kept (ended bytes) q.front)) (took_more step s t q.taker a b (kept_lines bytes) (map kept q.front) p q.taken);
    }

-- ---- how it ends, where a text of some kind was written

-- what holds of all that was written with a pen, as of the text behind what was written with it before
abbrev pub Told : (Output → Output → List ℕ → Type 0) → Output → Output → List ℕ → List ℕ → Type 0
Told P o p old new = (text : List ℕ) → new ≡ old ++ text → P o p text

pub told_by : {W : Type 0} {S : Ghosts W} (P : Output → Output → List ℕ → Type 0) (old new : WriterPen W S) (o p : Output) → begun_of old ≡ o
    → text_of old ≡ [] → P (begun_of new) p (text_of new) → Told P o p (offered_of old) (offered_of new)
told_by P old new o p begun none holds = λ text e. told_as (λ q t. P q p t) old new o text e begun none holds

-- with a pen that was offered nothing yet
pub takes_nothing : {o p : Output} {text : List ℕ} → p ≡ o → text ≡ [] → Takes o p text
takes_nothing {o} {p} {text} same none =
    subst (λ (z : Output). Takes o z text) (sym same) (subst (λ (z : List ℕ). Takes o o z) (sym none) (takes_none o))

-- a read failed, or there were too many
pub fed : {S : Type 0} {step : Step S} {before now : Input} {s t : S} {line old new : List ℕ} (after : Input) {o p : Output}
    → Gives (Going step before now s t line) old new → Keeps now.left after.left → Told Takes o p old new → Fed step before after s t o p
fed {before = before} {now = now} after gone k told =
    let g = gone.meets in
    record {
      bytes = g.bytes;
      read = Consumes-keeps before.left now.left after.left g.bytes g.read k;
      text = gone.text;
      taken = g.taken;
      written = told gone.text gone.offered;
    }

pub keeps_same : (a : Option (List ℕ)) → Keeps a a
keeps_same None = tt
keeps_same (Some a) = refl

-- what stands behind the last line feed, as it is kept
kept_of : (rest line bytes : List ℕ) → rest ≡ line → line ≡ kept_rest bytes → kept rest ≡ kept_rest bytes
kept_of rest line bytes same is = ap kept (same ∙ is) ∙ kept_kept (unended bytes)

-- the whole script was taken
whole_taken : {S : Type 0} {step last : Step S} {before now : Input} {s t : S} {line old mid new : List ℕ} (end : S) (rest : List ℕ)
    → (gone : Gives (Going step before now s t line) old mid) → rest ≡ line → Gives (last t (kept rest) end) mid new
    → Gives (TookScript step last s gone.meets.bytes end) old new
whole_taken {S} {step} {last} {before} {now} {s} {t} {line} end rest gone same one =
    let Q : List ℕ → Type 0 = λ z. last t z end one.text in
    record {
      text = gone.text ++ one.text;
      meets = record {
        taker = t;
        front = gone.text;
        rest = one.text;
        taken = gone.meets.taken;
        ended = subst Q (kept_of rest line gone.meets.bytes same gone.meets.line_is) one.meets;
        whole = refl;
      };
      offered = offers_more gone one;
    }

read_whole : (before now after : Input) (bytes : List ℕ) → Consumes before.left now.left bytes → Consumes now.left after.left []
    → Consumes before.left after.left bytes
read_whole before now after bytes a b =
    subst (λ (z : List ℕ). Consumes before.left after.left z) (append-nil bytes) (Consumes-more before.left now.left after.left bytes [] a b)

-- the reader came to its end
pub fed_all : {S : Type 0} {step last : Step S} {before now : Input} {s t : S} {line old mid new : List ℕ} (after : Input) (end : S) (rest : List ℕ)
    {o p : Output} → Gives (Going step before now s t line) old mid → Consumes now.left after.left [] → IsAtEnd after.left → after.failed ≡ before.failed
    → rest ≡ line → Gives (last t (kept rest) end) mid new → Told Takes o p old new → FedAll step last before after s end o p
fed_all {last = last} {before = before} {now = now} after end rest gone c e f same one told =
    let all = whole_taken {last = last} end rest gone same one in
    record {
      bytes = gone.meets.bytes;
      read = read_whole before now after gone.meets.bytes gone.meets.read c;
      at_end = e;
      well = f;
      text = all.text;
      taken = all.meets;
      written = told all.text all.offered;
    }

-- the writer failed at the end
pub fed_until_rest : {S : Type 0} {step last : Step S} {before now : Input} {s t : S} {line old mid new : List ℕ} (after : Input) (end : S)
    (rest : List ℕ) {o p : Output} → Gives (Going step before now s t line) old mid → Consumes now.left after.left [] → IsAtEnd after.left → rest ≡ line
    → Gives (last t (kept rest) end) mid new → Told Breaks o p old new → FedUntil step last before after s o p
fed_until_rest {last = last} {before = before} {now = now} after end rest gone c e same one told =
    let all = whole_taken {last = last} end rest gone same one in
    record {
      bytes = gone.meets.bytes;
      read = read_whole before now after gone.meets.bytes gone.meets.read c;
      text = all.text;
      taken = inr (e, end, all.meets);
      broken = told all.text all.offered;
    }

-- the writer failed at the lines of a piece
pub fed_until : {S : Type 0} {step last : Step S} {before now : Input} {s t : S} {line old mid new : List ℕ} (after : Input) (more : List ℕ)
    {o p : Output} → Gives (Going step before now s t line) old mid → Consumes now.left after.left more
    → ((front : List ℕ) → ended front ≡ [] → line ≡ kept front → Gives (TookFront step t (front ++ more)) mid new) → Told Breaks o p old new
    → FedUntil step last before after s o p
fed_until {before = before} {now = now} after more gone c stopped told =
    let g = gone.meets in
    let here = stopped (unended g.bytes) (ended-unended g.bytes) g.line_is in
    let text = gone.text ++ here.text in
    record {
      bytes = g.bytes ++ more;
      read = Consumes-more before.left now.left after.left g.bytes more g.read c;
      text = text;
      taken = inl (front_on g.bytes more gone.text here.text g.taken here.meets);
      broken = told text (offers_more gone here);
    }

pub or_false : (b : Bool) → (b || false) ≡ b
or_false true = refl
or_false false = refl

room_step : (n most room next count : ℕ) → (n + 1) * most < room → room ≤ next + count → count ≤ most → n * most < next
room_step n most room next count h p q = grind arith

-- what there is room for behind one more read
pub room_left : (reads turn most room next count : ℕ) → turn < reads → (reads - turn) * most < room → room ≤ next + count → count ≤ most
    → (reads - (turn + 1)) * most < next
room_left reads turn most room next count lt h p q =
    let e : reads - turn ≡ (reads - (turn + 1)) + 1 = omega arith in
    room_step (reads - (turn + 1)) most room next count (subst (λ (m : ℕ). m * most < room) e h) p q

-- a read that gave no bytes
pub none_given : (a b : Option (List ℕ)) (n : ℕ) (buffer : List ℕ) → n ≡ 0 → Consumes a b (take n buffer) → Consumes a b []
none_given a b n buffer e h = rw e at h

pub counted : (before after n turn : ℕ) → n ≢ 0 → before ≡ turn → turn < 1000000 → after ≡ reads_after before n → after ≡ turn + 1
counted before after n turn p e l s = grind (arith, nat_tests)
