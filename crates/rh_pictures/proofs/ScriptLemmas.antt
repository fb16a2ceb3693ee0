-- The lines of a script one after the other, whichever picture shows them.
use Rattle.rh_pictures.proofs.Common.{◌≡◌, ℕ, zero, suc, ◌+◌, ◌<◌, ◌≤◌, ◌⊎◌, inl, inr, Bool, true, false, ◌||◌, List, [], ◌∷◌, ◌++◌, length, map, take, refl}
use Rattle.rh_pictures.proofs.Common.{sym, ap, ap₂, ◌∙◌, subst, append_assoc, arith, Option, Some, None, Ok, Err, codes, nat_le, nat_lt, if◌then◌else◌, is_err}
use Rattle.rh_pictures.proofs.Common.{not, ◌==◌, list_any, length-take, map-append, ne_eqb, Command, TooLong, Desk, Meaning, line_means, IsReordered}
use Rattle.rh_pictures.proofs.Common.{with_queue, ended, unended, kept, kept_means, rest_means, Share, IsShared, Text, cut, Place, Read, Stage, after_read}
use Rattle.rh_pictures.proofs.Common.{is_mark, read_line, AreShared}
use Rattle.rh_defs.specs.declared.fault.LineFault.TheVariants.{Unended}
use Rattle.rh_defs.specs.Line.{longest_line}
use Rattle.rh_defs.specs.Script.{has_bad_line, is_bad}
use Rattle.rh_defs.proofs.HeapLists.{cond_false, leb_no}
use Rattle.rh_defs.proofs.Steps.{order-ignored}
use Rattle.rh_session.specs.Taken.{TookAll, TookScript}
use Rattle.rh_session.proofs.LineLemmas.{is_above, kept_nil, kept_short, split_at}
use Rattle.rh_figure.specs.Map.{read_lines, read_rest}
use Rattle.rh_figure.specs.Whole.{read_of}
use Rattle.rh_figure.specs.declared.limits.TheConstants.{LINE_COLUMNS}

-- ---- tests

pub or-off : (b : Bool) → b ≡ (b || false)
or-off true = refl
or-off false = refl

pub or-on : (b : Bool) → true ≡ (b || true)
or-on true = refl
or-on false = refl

either-first : (a b c : Bool) → ((a || b) || c) ≡ (a || (b || c))
either-first true b c = refl
either-first false b c = refl

-- ---- desks but for the order of messages to different tasks

pub reordered-same : (d : Desk) → IsReordered d d
reordered-same d = record { same = record { each = λ h. refl }; rest = refl }

pub reordered-as : {D : Type 0} (desk : D → Desk) (a b : D) → b ≡ a → IsReordered (desk a) (desk b)
reordered-as desk a b e = let P : Desk → Type 0 = λ z. IsReordered (desk a) z in subst P (ap desk (sym e)) (reordered-same (desk a))

pub reordered-more : {a b c : Desk} → IsReordered a b → IsReordered b c → IsReordered a c
reordered-more {a} {b} {c} p q = record {
  same = record { each = λ h. p.same.each h ∙ q.same.each h };
  rest = q.rest ∙ ap (λ d. with_queue c.post.queued d) p.rest;
}

-- a desk's queue has no pages
pub shared-alike : (s : Share) {a b : Desk} → IsReordered a b → IsShared s b → IsShared s a
shared-alike s {a} {b} is shared =
    let k : IsShared s (with_queue b.post.queued a) = subst (IsShared s) is.rest shared in
    record { each = k.each; free = k.free; once = k.once }

-- ---- places

-- the same places but for the order
pub record SamePlaces (p q : Place) : Type 0 where
  pub desks : IsReordered p.desk q.desk
  pub lines : q.lines ≡ p.lines
  pub wanted : q.wanted ≡ p.wanted

-- a line leads on from both
pub places-alike : (p q : Place) (r : Read) → SamePlaces p q → SamePlaces (after_read p r) (after_read q r)
places-alike p q (line, Ok None) is = record {
  desks = is.desks;
  lines = ap (λ n. n + 1) is.lines;
  wanted = ap (λ w. w || is_mark line) is.wanted;
}
places-alike p q (line, Ok (Some c)) is = record {
  desks = (order-ignored p.desk q.desk c is.desks).desks;
  lines = ap (λ n. n + 1) is.lines;
  wanted = refl;
}
places-alike p q (line, Err fault) is = record { desks = is.desks; lines = ap (λ n. n + 1) is.lines; wanted = refl }

-- where some lines lead
abbrev pub after_reads : Place → List Read → Place
after_reads p [] = p
after_reads p (r ∷ rs) = after_reads (after_read p r) rs

shared-more : (p : Place) (xs ys : List Stage) → AreShared p xs → AreShared (after_reads p (map read_of xs)) ys → AreShared p (xs ++ ys)
shared-more p [] ys a b = b
shared-more p ((q, u) ∷ rest) ys a b = (a.0, shared-more (after_read p q) rest ys a.1 b)

-- whether a line is bad
abbrev is_bad_read : Read → Bool
is_bad_read r = is_err r.1

bad-lines : (lines : List Text) → list_any is_bad_read (map read_line lines) ≡ list_any is_bad lines
bad-lines [] = refl
bad-lines (l ∷ ls) = ap (λ b. is_bad l || b) (bad-lines ls)

-- a line is bad just where what is kept of it is
bad-kept : (lines : List Text) → list_any is_bad_read (map read_line (map kept lines)) ≡ list_any is_bad lines
bad-kept [] = refl
bad-kept (l ∷ ls) = ap₂ (λ a b. a || b) (ap is_err (kept_means l)) (bad-kept ls)

-- ---- a line as far as it is kept

front-twice : (m n : ℕ) (xs : List ℕ) → m ≤ n → take m (take n xs) ≡ take m xs
front-twice zero n xs le = refl
front-twice (suc m) zero xs le = absurd (omega arith)
front-twice (suc m) (suc n) [] le = refl
front-twice (suc m) (suc n) (x ∷ xs) le = ap (λ z. x ∷ z) (front-twice m n xs (omega arith))

cut-long : (text : Text) → LINE_COLUMNS < length text → cut LINE_COLUMNS text ≡ take 90 text ++ codes ".."
cut-long text long = cond_false (nat_le (length text) LINE_COLUMNS) text (take 90 text ++ codes "..") (leb_no _ _ long)

-- a text is cut long before the end of what is kept of it
pub cut-kept : (text : Text) → longest_line < length text → cut LINE_COLUMNS (take (longest_line + 1) text) ≡ cut LINE_COLUMNS text
cut-kept text long =
    cut-long (take (longest_line + 1) text) (omega (arith, length-take (longest_line + 1) text))
    ∙ (ap (λ front. front ++ codes "..") (front-twice 90 (longest_line + 1) text (omega arith)) ∙ sym (cut-long text (omega arith)))

-- a line that is too long
means-long : (line : Text) → longest_line < length line → line_means line ≡ Err TooLong
unfolding line_means
means-long line long = rw (is_above longest_line (length line) long) refl

rest-long : (line : Text) → longest_line < length line → rest_means line ≡ Err TooLong
rest-long line long = ap (λ b. let m : Meaning (Option Command) = if b then Err TooLong else Err Unended in m) (is_above longest_line (length line) long)

kept-long : (line : Text) → longest_line < length line → longest_line < length (kept line)
unfolding kept
kept-long line long = omega (arith, length-take (longest_line + 1) line)

-- what stands behind the last line feed is bad, and kept where it is there
pub rest-bad : (line : Text) → is_err (rest_means line) ≡ true
rest-bad line = go (nat_lt longest_line (length line))
  where
    go : (b : Bool) → is_err (let m : Meaning (Option Command) = if b then Err TooLong else Err Unended in m) ≡ true
    go true = refl
    go false = refl

pub kept-first : (b : ℕ) (bs : Text) → kept (b ∷ bs) ≡ b ∷ take longest_line bs
unfolding kept
kept-first b bs = refl

pub kept-there : (rest : Text) → (length (kept rest) == 0) ≡ (length rest == 0)
kept-there [] = ap (λ l. length l == 0) kept_nil
kept-there (b ∷ bs) =
    ap (λ l. length l == 0) (kept-first b bs)
    ∙ (ne_eqb (length (b ∷ take longest_line bs)) 0 (λ q. omega (arith, q)) ∙ sym (ne_eqb (length (b ∷ bs)) 0 (λ q. omega (arith, q))))

-- ---- how a picture shows a line

-- where it stands, what it writes of a line with some share of the pool behind that, and where the line leads; of a line
-- that is too long it shows no more than is kept
pub record Telling (X : Type 0) : Type 0 where
  pub place_of : X → Place
  pub text_of : Share → X → Read → List ℕ
  pub behind : Share → X → Read → X
  pub leads : (s : Share) (x : X) (r : Read) → place_of (behind s x r) ≡ after_read (place_of x) r
  pub long_text : (line : Text) → longest_line < length line → (s : Share) (x : X) → text_of s x (kept line, Err TooLong) ≡ text_of s x (line, Err TooLong)
  pub long_behind : (line : Text) (s : Share) (x : X) → behind s x (kept line, Err TooLong) ≡ behind s x (line, Err TooLong)

-- what is done with a line of some meaning is the same by what is kept of it
pub record SameRead {X : Type 0} (t : Telling X) (means : Text → Meaning (Option Command)) (line : Text) : Type 0 where
  pub text : (s : Share) (x : X) → t.text_of s x (kept line, means (kept line)) ≡ t.text_of s x (line, means line)
  pub behind : (s : Share) (x : X) → t.behind s x (kept line, means (kept line)) ≡ t.behind s x (line, means line)

module _ {X : Type 0} (t : Telling X) where
  same-short : (means : Text → Meaning (Option Command)) (line : Text) → kept line ≡ line → SameRead t means line
  same-short means line e = record {
    text = λ s x. ap (λ l. t.text_of s x (l, means l)) e;
    behind = λ s x. ap (λ l. t.behind s x (l, means l)) e;
  }

  same-long : (means : Text → Meaning (Option Command)) (line : Text) → longest_line < length line → means (kept line) ≡ Err TooLong
      → means line ≡ Err TooLong → SameRead t means line
  same-long means line long of-kept of-line = record {
    text = λ s x.
        ap (λ m. t.text_of s x (kept line, m)) of-kept
        ∙ (t.long_text line long s x ∙ sym (ap (λ m. t.text_of s x (line, m)) of-line));
    behind = λ s x.
        ap (λ m. t.behind s x (kept line, m)) of-kept
        ∙ (t.long_behind line s x ∙ sym (ap (λ m. t.behind s x (line, m)) of-line));
  }

  pub same-line : (line : Text) → SameRead t line_means line
  same-line line = go (split_at (length line))
    where
      go : (length line ≤ longest_line) ⊎ (longest_line < length line) → SameRead t line_means line
      go (inl short) = same-short line_means line (sym (kept_short line (omega arith)))
      go (inr long) = same-long line_means line long (kept_means line ∙ means-long line long) (means-long line long)

  pub same-rest : (line : Text) → SameRead t rest_means line
  same-rest line = go (split_at (length line))
    where
      go : (length line ≤ longest_line) ⊎ (longest_line < length line) → SameRead t rest_means line
      go (inl short) = same-short rest_means line (sym (kept_short line (omega arith)))
      go (inr long) = same-long rest_means line long (rest-long (kept line) (kept-long line long)) (rest-long line long)

  -- the places behind both
  pub place-kept : {means : Text → Meaning (Option Command)} {line : Text} → SameRead t means line → (s : Share) (x : X)
      → after_read (t.place_of x) (kept line, means (kept line)) ≡ after_read (t.place_of x) (line, means line)
  place-kept {means} {line} same s x =
      sym (t.leads s x (kept line, means (kept line))) ∙ (ap (λ w. t.place_of w) (same.behind s x) ∙ t.leads s x (line, means line))

  -- ---- lines one after the other

  -- what is written of them, and where they lead
  abbrev pub text-of-all : X → List Stage → List ℕ
  text-of-all x [] = []
  text-of-all x ((r, s) ∷ rest) = t.text_of s x r ++ text-of-all (t.behind s x r) rest

  abbrev pub behind-all : X → List Stage → X
  behind-all x [] = x
  behind-all x ((r, s) ∷ rest) = behind-all (t.behind s x r) rest

  pub place-after : (x : X) (xs : List Stage) → t.place_of (behind-all x xs) ≡ after_reads (t.place_of x) (map read_of xs)
  place-after x [] = refl
  place-after x ((r, s) ∷ rest) = place-after (t.behind s x r) rest ∙ ap (λ p. after_reads p (map read_of rest)) (t.leads s x r)

  -- what is written to the end of a script
  module _ (end : X → List ℕ) where
    abbrev pub text-to-end : X → List Stage → List ℕ
    text-to-end x xs = text-of-all x xs ++ end (behind-all x xs)

    split-end : (x : X) (xs ys : List Stage) → text-to-end x (xs ++ ys) ≡ text-of-all x xs ++ text-to-end (behind-all x xs) ys
    split-end x [] ys = refl
    split-end x ((r, s) ∷ rest) ys =
        let y = t.behind s x r in
        append_assoc (t.text_of s x r) (text-of-all y (rest ++ ys)) (end (behind-all y (rest ++ ys)))
        ∙ (ap (λ z. t.text_of s x r ++ z) (split-end y rest ys)
        ∙ sym (append_assoc (t.text_of s x r) (text-of-all y rest) (text-to-end (behind-all y rest) ys)))

-- ---- the lines themselves, not only as far as they are kept

-- the same lines and shares, each line whole
abbrev whole-stages : List Text → List Stage → List Stage
whole-stages [] stages = []
whole-stages (l ∷ ls) [] = []
whole-stages (l ∷ ls) ((r, s) ∷ stages) = (read_line l, s) ∷ whole-stages ls stages

stage-is : (r q : Read) (s : Share) (stages : List Stage) (reads : List Read) → map read_of ((r, s) ∷ stages) ≡ q ∷ reads
    → (r ≡ q) × (map read_of stages ≡ reads)
stage-is r q s stages reads e = (ap first_read e, ap rest_reads e)
  where
    first_read : List Read → Read
    first_read [] = r
    first_read (y ∷ ys) = y

    rest_reads : List Read → List Read
    rest_reads [] = []
    rest_reads (y ∷ ys) = ys

record Wholes {X : Type 0} (t : Telling X) (x : X) (lines : List Text) (stages : List Stage) : Type 0 where
  reads : map read_of (whole-stages lines stages) ≡ map read_line lines
  shared : AreShared (t.place_of x) (whole-stages lines stages)
  text : text-of-all t x (whole-stages lines stages) ≡ text-of-all t x stages
  after : behind-all t x (whole-stages lines stages) ≡ behind-all t x stages

-- the same of what stands behind the last line feed
record WholeRest {X : Type 0} (t : Telling X) (end : X → List ℕ) (x : X) (rest : Text) (stages : List Stage) : Type 0 where
  whole : List Stage
  lines : map read_of whole ≡ read_rest rest
  shared : AreShared (t.place_of x) whole
  text : text-to-end t end x whole ≡ text-to-end t end x stages

module _ {X : Type 0} (t : Telling X) where
  wholes : (x : X) (lines : List Text) (stages : List Stage) → map read_of stages ≡ map read_line (map kept lines) → AreShared (t.place_of x) stages
      → Wholes t x lines stages
  wholes x [] [] e shared = record { reads = refl; shared = tt; text = refl; after = refl }
  wholes x [] (y ∷ stages) e shared = absurd (cc)
  wholes x (l ∷ ls) [] e shared = absurd (cc)
  wholes x (l ∷ ls) ((r, s) ∷ stages) e shared =
      let parts = stage-is r (read_line (kept l)) s stages (map read_line (map kept ls)) e in
      let same = same-line t l in
      let here : t.behind s x r ≡ t.behind s x (read_line l) = ap (t.behind s x) parts.0 ∙ same.behind s x in
      let P : Place → Type 0 = λ z. AreShared z stages in
      let Q : Place → Type 0 = λ z. IsShared s z.desk in
      let R : Place → Type 0 = λ z. AreShared z (whole-stages ls stages) in
      let there = ap (after_read (t.place_of x)) parts.0 ∙ place-kept t same s x in
      let rest = wholes (t.behind s x (read_line l)) ls stages parts.1 (subst P (there ∙ sym (t.leads s x (read_line l))) shared.1) in
      record {
        reads = ap (λ rs. read_line l ∷ rs) rest.reads;
        shared = (subst Q there shared.0, subst R (t.leads s x (read_line l)) rest.shared);
        text = ap₂ (λ a b. a ++ b) (sym (same.text s x) ∙ sym (ap (t.text_of s x) parts.0))
            (rest.text ∙ ap (λ w. text-of-all t w stages) (sym here));
        after = rest.after ∙ ap (λ w. behind-all t w stages) (sym here);
      }

  module _ (end : X → List ℕ) where
    whole-line : (x : X) (b : ℕ) (bs : Text) (stages : List Stage) → map read_of stages ≡ (kept (b ∷ bs), rest_means (kept (b ∷ bs))) ∷ []
        → AreShared (t.place_of x) stages → WholeRest t end x (b ∷ bs) stages
    whole-line x b bs [] e shared = absurd (cc)
    whole-line x b bs ((r, s) ∷ y ∷ more) e shared = absurd (cc)
    whole-line x b bs ((r, s) ∷ []) e shared =
        let line : Text = b ∷ bs in
        let q : Read = (line, rest_means line) in
        let parts = stage-is r (kept line, rest_means (kept line)) s [] [] e in
        let same = same-rest t line in
        let here : t.behind s x r ≡ t.behind s x q = ap (t.behind s x) parts.0 ∙ same.behind s x in
        let Q : Place → Type 0 = λ z. IsShared s z.desk in
        record {
          whole = (q, s) ∷ [];
          lines = refl;
          shared = (subst Q (ap (after_read (t.place_of x)) parts.0 ∙ place-kept t same s x) shared.0, tt);
          text = ap₂ (λ u w. (u ++ []) ++ end w) (sym (ap (t.text_of s x) parts.0 ∙ same.text s x)) (sym here);
        }

    whole-rest : (x : X) (rest : Text) (stages : List Stage) → map read_of stages ≡ read_rest (kept rest) → AreShared (t.place_of x) stages
        → WholeRest t end x rest stages
    whole-rest x [] stages e shared = record { whole = stages; lines = e ∙ ap read_rest kept_nil; shared = shared; text = refl }
    whole-rest x (b ∷ bs) stages e shared =
        whole-line x b bs stages
        (e ∙ (ap read_rest (kept-first b bs) ∙ ap (λ l. (l, rest_means l) ∷ []) (sym (kept-first b bs)))) shared

-- ---- lines that were taken

-- this was written of one line, and the taker stands behind it
pub record One {X M : Type 0} (t : Telling X) (stands : X → M → Type 0) (bad : M → Bool) (x : X) (r : Read) (m n : M) (written : List ℕ) : Type 0 where
  pub share : Share
  pub shared : IsShared share (after_read (t.place_of x) r).desk
  pub text_is : written ≡ t.text_of share x r
  pub stands_on : stands (t.behind share x r) n
  pub bad_is : bad n ≡ (bad m || is_bad_read r)

-- the same of several
pub record Taken {X M : Type 0} (t : Telling X) (stands : X → M → Type 0) (bad : M → Bool) (x : X) (reads : List Read) (m n : M)
    (written : List ℕ) : Type 0 where
  pub stages : List Stage
  pub lines : map read_of stages ≡ reads
  pub shared : AreShared (t.place_of x) stages
  pub text_is : written ≡ text-of-all t x stages
  pub stands_on : stands (behind-all t x stages) n
  pub bad_is : bad n ≡ (bad m || list_any is_bad_read reads)

-- this was written of what stands behind the last line feed, and of the script's end
pub record TakenRest {X M : Type 0} (t : Telling X) (end : X → List ℕ) (bad : M → Bool) (x : X) (rest : Text) (m n : M)
    (written : List ℕ) : Type 0 where
  pub stages : List Stage
  pub lines : map read_of stages ≡ read_rest rest
  pub shared : AreShared (t.place_of x) stages
  pub text_is : written ≡ text-to-end t end x stages
  pub bad_is : bad n ≡ (bad m || not (length rest == 0))

-- this was written of a whole script
pub record TakenScript {X M : Type 0} (t : Telling X) (end : X → List ℕ) (bad : M → Bool) (x : X) (bytes : List ℕ) (n : M)
    (written : List ℕ) : Type 0 where
  pub stages : List Stage
  pub lines : map read_of stages ≡ read_lines bytes
  pub shared : AreShared (t.place_of x) stages
  pub text_is : written ≡ text-to-end t end x stages
  pub bad_is : bad n ≡ has_bad_line bytes

module _ {X M : Type 0} (t : Telling X) (stands : X → M → Type 0) (bad : M → Bool) where
  taken-none : {x : X} {m : M} → stands x m → Taken t stands bad x [] m m []
  taken-none {m = m} is = record { stages = []; lines = refl; shared = tt; text_is = refl; stands_on = is; bad_is = or-off (bad m) }

  taken-more : {x : X} {m n l : M} {a b : List ℕ} (r : Read) (reads : List Read) (here : One t stands bad x r m n a)
      → Taken t stands bad (t.behind here.share x r) reads n l b → Taken t stands bad x (r ∷ reads) m l (a ++ b)
  taken-more {x = x} {m = m} r reads here rest =
      let P : Place → Type 0 = λ z. AreShared z rest.stages in
      record {
        stages = (r, here.share) ∷ rest.stages;
        lines = ap (λ rs. r ∷ rs) rest.lines;
        shared = (here.shared, subst P (t.leads here.share x r) rest.shared);
        text_is = ap₂ (λ u v. u ++ v) here.text_is rest.text_is;
        stands_on = rest.stands_on;
        bad_is = rest.bad_is ∙ (ap (λ b. b || list_any is_bad_read reads) here.bad_is ∙ either-first (bad m) (is_bad_read r) (list_any is_bad_read reads));
      }

  module _ (took : M → List ℕ → M → List ℕ → Type 0)
      (one : (x : X) (line : Text) (m n : M) (a : List ℕ) → stands x m → took m line n a → One t stands bad x (read_line line) m n a) where
    -- as far as they are kept
    taken-kept : (x : X) {m n : M} {text : List ℕ} (lines : List Text) → stands x m → TookAll took m lines n text
        → Taken t stands bad x (map read_line lines) m n text
    taken-kept x {m} {n} {text} [] is (a, b) =
        let P : M → Type 0 = λ z. Taken t stands bad x [] m z text in
        let Q : List ℕ → Type 0 = λ z. Taken t stands bad x [] m m z in
        subst P a (subst Q (sym b) (taken-none is))
    taken-kept x {m} {n} {text} (line ∷ lines) is (k, a, b, first, rest, e) =
        let here = one x line m k a is first in
        let Q : List ℕ → Type 0 = λ z. Taken t stands bad x (map read_line (line ∷ lines)) m n z in
        subst Q (sym e) (taken-more (read_line line) (map read_line lines) here (taken-kept (t.behind here.share x (read_line line)) lines here.stands_on rest))

    -- each whole
    pub taken-lines : {x : X} {m n : M} {text : List ℕ} (lines : List Text) → stands x m → TookAll took m (map kept lines) n text
        → Taken t stands bad x (map read_line lines) m n text
    taken-lines {x} {m} {n} lines is took-all =
        let all = taken-kept x (map kept lines) is took-all in
        let whole = wholes t x lines all.stages all.lines all.shared in
        let Q : X → Type 0 = λ z. stands z n in
        record {
          stages = whole-stages lines all.stages;
          lines = whole.reads;
          shared = whole.shared;
          text_is = all.text_is ∙ sym whole.text;
          stands_on = subst Q (sym whole.after) all.stands_on;
          bad_is = all.bad_is ∙ ap (λ b. bad m || b) (bad-kept lines ∙ sym (bad-lines lines));
        }

    -- a script from its first line to its end
    module _ (end : X → List ℕ) (last : M → List ℕ → M → List ℕ → Type 0)
        (ends : (x : X) (rest : Text) (m n : M) (a : List ℕ) → stands x m → last m rest n a → TakenRest t end bad x rest m n a) where
      pub taken-script : {x : X} {m n : M} {text : List ℕ} (bytes : List ℕ) → stands x m → bad m ≡ false → TookScript took last m bytes n text
          → TakenScript t end bad x bytes n text
      taken-script {x} {m} {n} bytes is well script =
          let p = taken-lines (ended bytes) is script.taken in
          let y = behind-all t x p.stages in
          let r = ends y (kept (unended bytes)) script.taker n script.rest p.stands_on script.ended in
          let w = whole-rest t end y (unended bytes) r.stages r.lines r.shared in
          let P : Place → Type 0 = λ z. AreShared z w.whole in
          let written : text-to-end t end x (p.stages ++ w.whole) ≡ text-of-all t x p.stages ++ text-to-end t end y w.whole =
          split-end t end x p.stages w.whole in
          let of-lines : bad script.taker ≡ list_any is_bad (ended bytes) = p.bad_is ∙ ap₂ (λ a b. a || b) well (bad-lines (ended bytes)) in
          record {
            stages = p.stages ++ w.whole;
            lines = map-append read_of p.stages w.whole ∙ ap₂ (λ a b. a ++ b) p.lines w.lines;
            shared = shared-more (t.place_of x) p.stages w.whole p.shared (subst P (place-after t x p.stages) w.shared);
            text_is = script.whole ∙ (ap₂ (λ a b. a ++ b) p.text_is (r.text_is ∙ sym w.text) ∙ sym written);
            bad_is = r.bad_is ∙ ap₂ (λ a b. a || not b) of-lines (kept-there (unended bytes));
          }
