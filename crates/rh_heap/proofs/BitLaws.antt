-- The bits of a map: one that is set or cleared, and the search for the last one that is set.
use Rattle.rh_heap.proofs.Common.{◌≡◌, ◌≢◌, ℕ, ◌+◌, ◌-◌, ◌*◌, ◌/◌, ◌%◌, ◌^◌, ◌<◌, ◌≤◌, inl, inr, Bool, true, false, eqb, List, length, get_or, set, suc, refl}
use Rattle.rh_heap.proofs.Common.{sym, ap, subst, ◌∙◌, arith, bit_and, cases_eq, cases_lt, eqb_same, BITS, bit, Became, LastBit}
use Rattle.std.specs.Int.{bit_at}
use Rattle.std.specs.Int.Count.{count_leading_zeros}
use Rattle.std.proofs.lemmas.List.{get_or-set_same, get_or-set_other}
use Rattle.std.proofs.Math.Nat.{pow-suc}
use Rattle.std.proofs.lemmas.Nat.{and_le_l, leading_top, le-div, div_below, pow_pos, one_shl}
use Rattle.std.proofs.lemmas.Nat.Bits.{bit_at-zero, bit_at-lt, bit_at_above, bit_at_and, bit_at_ones, bit_at_ones_above}

-- ---- one word of a map is changed
module _ (lane k v b : ℕ) (old new : List ℕ) (lt : lane < 2) (e : new ≡ set old (2 * (k / BITS) + lane) v) (inside : 2 * (k / BITS) + lane < length old) where
  word_now : (j lane' : ℕ) → 2 * (j / BITS) + lane' ≡ 2 * (k / BITS) + lane → get_or new (2 * (j / BITS) + lane') 0 ≡ v
  word_now j lane' q = ap (λ l. get_or l (2 * (j / BITS) + lane') 0) e ∙ ap (λ i. get_or (set old (2 * (k / BITS) + lane) v) i 0) q
      ∙ get_or-set_same old (2 * (k / BITS) + lane) v 0 inside

  word_still : (j lane' : ℕ) → 2 * (j / BITS) + lane' ≢ 2 * (k / BITS) + lane → get_or new (2 * (j / BITS) + lane') 0 ≡ get_or old (2 * (j / BITS) + lane') 0
  word_still j lane' q = ap (λ l. get_or l (2 * (j / BITS) + lane') 0) e ∙ get_or-set_other old (2 * (k / BITS) + lane) (2 * (j / BITS) + lane') v 0 q

  pub became : bit_at v (k % BITS) ≡ b → ((m : ℕ) → m < BITS → m ≢ k % BITS → bit_at v m ≡ bit_at (get_or old (2 * (k / BITS) + lane) 0) m)
      → Became lane k b old new
  became here others = record {
    here = ap (λ w. bit_at w (k % BITS)) (word_now k lane refl) ∙ here;
    same = λ j ne. elim (cases_eq (2 * (j / BITS) + lane) (2 * (k / BITS) + lane)) [
      | inl q ↦ ap (λ w. bit_at w (j % BITS)) (word_now j lane q) ∙ others (j % BITS) (omega arith) (omega arith)
          ∙ ap (λ i. bit_at (get_or old i 0) (j % BITS)) (sym q)
      | inr q ↦ ap (λ w. bit_at w (j % BITS)) (word_still j lane q)
    ];
    other = λ lane' j small ne. ap (λ w. bit_at w (j % BITS)) (word_still j lane' (omega arith));
  }

-- ---- the search
-- A search below n has come to a line, and what is left of it is in a word.
pub record Scan (lane : ℕ) (starts : List ℕ) (n line word : ℕ) : Type 0 where
  pub small : word < 2 ^ 64
  pub inside : 2 * line + lane < length starts
  pub up_to : BITS * line ≤ n
  pub here : (i : ℕ) → i < BITS → BITS * line + i < n → bit_at word i ≡ bit lane starts (BITS * line + i)
  pub above : (i : ℕ) → i < BITS → n ≤ BITS * line + i → bit_at word i ≡ 0
  pub passed : (j : ℕ) → BITS * (line + 1) ≤ j → j < n → bit lane starts j ≡ 0

-- a bit of a line
bit_of_line : (lane : ℕ) (starts : List ℕ) (line i : ℕ) → i < BITS → bit lane starts (BITS * line + i) ≡ bit_at (get_or starts (2 * line + lane) 0) i
bit_of_line lane starts line i l =
    ap (λ d. bit_at (get_or starts (2 * d + lane) 0) ((BITS * line + i) % BITS)) (let e : (BITS * line + i) / BITS ≡ line = omega arith in e)
    ∙ ap (bit_at (get_or starts (2 * line + lane) 0)) (let e : (BITS * line + i) % BITS ≡ i = omega arith in e)

pub scan_start : (lane : ℕ) (starts : List ℕ) (n word : ℕ) → 2 * (n / BITS) + lane < length starts → get_or starts (2 * (n / BITS) + lane) 0 < 2 ^ 64
    → word ≡ bit_and (get_or starts (2 * (n / BITS) + lane) 0) (1 * 2 ^ (n % BITS) % 2 ^ 64 - 1) → Scan lane starts n (n / BITS) word
scan_start lane starts n word inside small e =
    let w = get_or starts (2 * (n / BITS) + lane) 0 in
    let k = n % BITS in
    let mask : word ≡ bit_and w (2 ^ k - 1) = e ∙ ap (λ m. bit_and w (m - 1)) (one_shl k BITS (omega arith)) in
    record {
      small = omega (arith, e, and_le_l w (1 * 2 ^ (n % BITS) % 2 ^ 64 - 1));
      inside = inside;
      up_to = omega arith;
      here = λ i l below.
          let one = bit_at_ones k i (omega arith) in
          let few = bit_at-lt w i in
          ap (λ m. bit_at m i) mask ∙ bit_at_and w (2 ^ k - 1) i ∙ omega arith ∙ sym (bit_of_line lane starts (n / BITS) i l);
      above = λ i l past.
          let none = bit_at_ones_above k i (omega arith) in
          ap (λ m. bit_at m i) mask ∙ bit_at_and w (2 ^ k - 1) i ∙ omega arith;
      passed = λ j past below. absurd (omega arith);
    }

-- the highest set bit of a word
pub record Highest (word j : ℕ) : Type 0 where
  pub top : bit_at word j ≡ 1
  pub none : (i : ℕ) → j < i → bit_at word i ≡ 0

highest : (word j : ℕ) → 2 ^ j ≤ word → word < 2 ^ suc j → Highest word j
highest word j lo hi =
    let twice : 2 ^ suc j ≡ 2 ^ j * 2 = pow-suc 2 j in
    let one = le-div 1 word (2 ^ j) (pow_pos j) (omega arith) in
    let two = div_below word (2 ^ j) 2 (pow_pos j) (omega arith) in
    record {
      top = ap (λ d. d % 2) (let e : word / 2 ^ j ≡ 1 = omega arith in e);
      none = λ i l. bit_at_above word (suc j) i hi (omega arith);
    }

pub scan_found : (lane : ℕ) (starts : List ℕ) (n line word zeros : ℕ) → Scan lane starts n line word → word ≢ 0 → zeros ≡ count_leading_zeros 64 word
    → LastBit lane starts n (BITS * line + (63 - zeros))
scan_found lane starts n line word zeros s ne e =
    let top = leading_top BITS word (omega arith) s.small in
    let j = top.0 in
    let sum = top.1 in
    let at : BITS * line + (63 - zeros) ≡ BITS * line + j = omega arith in
    let high = highest word j top.2 top.3 in
    let is_one = high.top in
    let less : BITS * line + j < n = elim (cases_lt (BITS * line + j) n) [ inl l ↦ l | inr l ↦ absurd (let z = s.above j (omega arith) l in omega arith) ] in
    subst (LastBit lane starts n) (sym at) (record {
      below = less;
      is_set = sym (s.here j (omega arith) less) ∙ is_one;
      none = λ i over below. elim (cases_lt i (BITS * (line + 1))) [
        | inl l ↦
            let same : BITS * line + (i - BITS * line) ≡ i = omega arith in
            subst (λ q. bit lane starts q ≡ 0) same (sym (s.here (i - BITS * line) (omega arith) (omega arith)) ∙ high.none (i - BITS * line) (omega arith))
        | inr l ↦ s.passed i l below
      ];
    })

-- a line without a set bit is passed
pub none_from : (lane : ℕ) (starts : List ℕ) (n line word : ℕ) → Scan lane starts n line word → word ≡ 0 → (j : ℕ) → BITS * line ≤ j → j < n
    → bit lane starts j ≡ 0
none_from lane starts n line word s e j from below = elim (cases_lt j (BITS * (line + 1))) [
  | inl l ↦
      let same : BITS * line + (j - BITS * line) ≡ j = omega arith in
      subst (λ q. bit lane starts q ≡ 0) same (sym (s.here (j - BITS * line) (omega arith) (omega arith)) ∙ ap (λ w. bit_at w (j - BITS * line)) e
      ∙ bit_at-zero (j - BITS * line))
  | inr l ↦ s.passed j l below
]

pub scan_next : (lane : ℕ) (starts : List ℕ) (n line word line' word' : ℕ) → Scan lane starts n line word → word ≡ 0 → line ≡ line' + 1 → word' < 2 ^ 64
    → word' ≡ get_or starts (2 * line' + lane) 0 → Scan lane starts n line' word'
scan_next lane starts n line word line' word' s e next small read =
    let up = s.up_to in
    let room = s.inside in
    record {
      small = small;
      inside = omega arith;
      up_to = omega arith;
      here = λ i l below. ap (λ w. bit_at w i) read ∙ sym (bit_of_line lane starts line' i l);
      above = λ i l past. absurd (omega arith);
      passed = λ j past below. none_from lane starts n line word s e j (omega arith) below;
    }

-- and so are lines before it that have none
pub scan_jump : (lane : ℕ) (starts : List ℕ) (n line word behind line' word' : ℕ) → Scan lane starts n line word → word ≡ 0 → behind ≤ line → behind ≡ line' + 1
    → ((j : ℕ) → BITS * behind ≤ j → j < BITS * line → bit lane starts j ≡ 0) → word' < 2 ^ 64 → word' ≡ get_or starts (2 * line' + lane) 0
    → Scan lane starts n line' word'
scan_jump lane starts n line word behind line' word' s e on next empty small read =
    let up = s.up_to in
    let room = s.inside in
    record {
      small = small;
      inside = omega arith;
      up_to = omega arith;
      here = λ i l below. ap (λ w. bit_at w i) read ∙ sym (bit_of_line lane starts line' i l);
      above = λ i l past. absurd (omega arith);
      passed = λ j past below. elim (cases_lt j (BITS * line)) [
        | inl l ↦ empty j (omega arith) l
        | inr r ↦ none_from lane starts n line word s e j r below
      ];
    }

-- or no line is left
pub scan_ends : (lane : ℕ) (starts : List ℕ) (n line word : ℕ) → Scan lane starts n line word → word ≡ 0
    → ((j : ℕ) → j < BITS * line → bit lane starts j ≡ 0) → (j : ℕ) → j < n → bit lane starts j ≡ 0
scan_ends lane starts n line word s e empty j below = elim (cases_lt j (BITS * line)) [
  | inl l ↦ empty j l
  | inr r ↦ none_from lane starts n line word s e j r below
]

-- a bit that isn't 1 is 0
pub bit_zero : (lane : ℕ) (starts : List ℕ) (j : ℕ) → bit lane starts j ≢ 1 → bit lane starts j ≡ 0
bit_zero lane starts j ne = let few = bit_at-lt (get_or starts (2 * (j / BITS) + lane) 0) (j % BITS) in omega arith

-- what a test of a bit says
pub not_set : (r : Bool) (n : ℕ) → r ≡ eqb n 1 → r ≡ false → n ≢ 1
not_set r n e f one = let same = eqb_same n 1 one in let z : true ≡ false = sym same ∙ sym e ∙ f in absurd cc
