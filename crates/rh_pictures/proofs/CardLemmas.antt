-- Bands of cards: which cards of a list are shown.
use Rattle.rh_pictures.proofs.Common.{◌≡◌, ◌⊎◌, inl, inr, add-one, append_assoc, ℕ, zero, suc, ◌+◌, ◌-◌, ◌<◌, ◌≤◌, Bool, true, false, refl, ap, sym, subst, ◌∙◌}
use Rattle.rh_pictures.proofs.Common.{arith, List, [], ◌∷◌, ◌++◌, length, take, drop, get_or, Some, None, min, filter, if◌then◌else◌, nat_le, slice_get}
use Rattle.rh_pictures.proofs.Common.{nat_tests, drop_all, drop_more, take_all, slice_get-get_or, slice_get_within, BlockItem, Task, block_items, flex_start}
use Rattle.rh_pictures.proofs.Common.{Card, flex_cards, more_card, shown_cards, card_line, is_fresh_flex, Scene, card_lines, cards_behind, codes, count_shown}
use Rattle.rh_pictures.proofs.Common.{length-take, place_behind, rest-some, shown_lines}
use Rattle.rh_defs.specs.Questions.{block_items_from}
use Rattle.rh_defs.specs.Slot.{Flex, weight}
use Rattle.rh_figure.specs.Cards.{flex_card, flex_cards_from, use_of_block}
use Rattle.rh_figure.specs.Map.{shown_line}
use Rattle.rh_pictures.specs.DrawnCards.{cards_text}
use Rattle.rh_pictures.specs.Inner.CardsBehind.{place_from}

-- ---- how many are shown

pub all-count : (n : ℕ) → n ≤ 24 → count_shown n ≡ n
all-count n few = let e : nat_le n 24 ≡ true = grind (arith, nat_tests) in ap (λ b. if b then n else 22) e

pub some-count : (n : ℕ) → 24 < n → count_shown n ≡ 22
some-count n many = let e : nat_le n 24 ≡ false = grind (arith, nat_tests) in ap (λ b. if b then n else 22) e

pub shown-few : (cards : List Card) → length cards ≤ 24 → shown_cards cards ≡ cards
shown-few cards few = let e : nat_le (length cards) 24 ≡ true = grind (arith, nat_tests) in rw e refl

pub shown-parts : (cards : List Card) → 24 < length cards → shown_cards cards ≡ take 22 cards ++ cards_behind cards
shown-parts cards many =
    let k : nat_le (length cards) 24 ≡ false = grind (arith, nat_tests) in
    let fresh = take 1 (filter (λ (c : Card). c.fresh) (drop 22 cards)) in
    rw k (append_assoc (take 22 cards) fresh (more_card (length cards - 22 - length fresh) ∷ []))

pub behind-are : (cards : List Card) (fresh : List Card) → take 1 (filter (λ (c : Card). c.fresh) (drop 22 cards)) ≡ fresh
    → cards_behind cards ≡ fresh ++ more_card (length cards - 22 - length fresh) ∷ []
behind-are cards fresh e = rw e refl

-- ---- the first changed one

-- cards of items, of which a test says whether they have changed
abbrev pub Alike : {A : Type 0} → (A → Bool) → List A → List Card → Type 0
Alike test [] [] = Unit {0}
Alike test [] (c ∷ cards) = ⊥
Alike test (x ∷ items) [] = ⊥
Alike test (x ∷ items) (c ∷ cards) = (test x ≡ c.fresh) × Alike test items cards

pub alike-drop : {A : Type 0} (test : A → Bool) (n : ℕ) (items : List A) (cards : List Card) → Alike test items cards → Alike test (drop n items) (drop n cards)
alike-drop test zero items cards a = a
alike-drop test (suc n) [] [] a = tt
alike-drop test (suc n) [] (c ∷ cards) a = absurd a
alike-drop test (suc n) (x ∷ items) [] a = absurd a
alike-drop test (suc n) (x ∷ items) (c ∷ cards) a = alike-drop test n items cards a.1

pub pick-none : {A : Type 0} (test : A → Bool) (n : ℕ) (items : List A) (cards : List Card) → Alike test items cards → place_from test n items ≡ None
    → take 1 (filter (λ (c : Card). c.fresh) cards) ≡ []
pick-none test n [] [] a e = refl
pick-none test n [] (c ∷ cards) a e = absurd a
pick-none test n (x ∷ items) [] a e = absurd a
pick-none test n (x ∷ items) (c ∷ cards) a e = go (pick-none test (suc n) items cards a.1) (test x) refl
  where
    go : (place_from test (suc n) items ≡ None → take 1 (filter (λ (d : Card). d.fresh) cards) ≡ []) → (b : Bool) → test x ≡ b
        → take 1 (filter (λ (d : Card). d.fresh) (c ∷ cards)) ≡ []
    go before true k = let q : Some n ≡ None = rw k at e in absurd (cc)
    go before false k =
        let q : place_from test (suc n) items ≡ None = rw k at e in
        let f : c.fresh ≡ false = sym a.0 ∙ k in
        rw f (before q)

-- the first changed card stands at the place
pub record Picked (n k : ℕ) (cards : List Card) : Type 0 where
  pub card : Card
  pub above : n ≤ k
  pub at : slice_get cards (k - n) ≡ Some card
  pub first : take 1 (filter (λ (c : Card). c.fresh) cards) ≡ card ∷ []

picked-on : (n k : ℕ) (c : Card) (cards : List Card) → c.fresh ≡ false → Picked (suc n) k cards → Picked n k (c ∷ cards)
picked-on n k c cards off p =
    let low : suc n ≤ k = p.above in
    let here : k - n ≡ suc (k - suc n) = omega arith in
    record { card = p.card; above = omega arith; at = ap (slice_get (c ∷ cards)) here ∙ p.at; first = rw off p.first }

pub pick-some : {A : Type 0} (test : A → Bool) (n k : ℕ) (items : List A) (cards : List Card) → Alike test items cards → place_from test n items ≡ Some k
    → Picked n k cards
pick-some test n k [] cards a e = absurd (cc)
pick-some test n k (x ∷ items) [] a e = absurd a
pick-some test n k (x ∷ items) (c ∷ cards) a e = go (pick-some test (suc n) k items cards a.1) (test x) refl
  where
    go : (place_from test (suc n) items ≡ Some k → Picked (suc n) k cards) → (b : Bool) → test x ≡ b → Picked n k (c ∷ cards)
    go before true t =
        let q : Some n ≡ Some k = rw t at e in
        let same : n ≡ k = cc in
        let f : c.fresh ≡ true = sym a.0 ∙ t in
        let zero_at : k - n ≡ 0 = omega arith in
        record { card = c; above = omega arith; at = ap (slice_get (c ∷ cards)) zero_at; first = rw f refl }
    go before false t =
        let q : place_from test (suc n) items ≡ Some k = rw t at e in
        picked-on n k c cards (sym a.0 ∙ t) (before q)

-- ---- flex blocks

pub flex-alike : (x : Scene) (t : Task) (place : ℕ) (blocks : List Flex)
    → Alike (λ (b : BlockItem). is_fresh_flex x t.handle b.anchor b.size) (block_items_from place blocks) (flex_cards_from x t place blocks)
flex-alike x t place [] = tt
flex-alike x t place (b ∷ blocks) = (refl, flex-alike x t (place + weight b) blocks)

pub flex-long : (x : Scene) (t : Task) (place : ℕ) (blocks : List Flex) → length (flex_cards_from x t place blocks) ≡ length (block_items_from place blocks)
flex-long x t place [] = refl
flex-long x t place (b ∷ blocks) = ap suc (flex-long x t (place + weight b) blocks)

-- ---- the first cards, one by one

pub get-front : {A : Type 0} (n k : ℕ) (xs : List A) → k < n → slice_get (take n xs) k ≡ slice_get xs k
get-front zero k xs low = absurd (omega arith)
get-front (suc n) k [] low = refl
get-front (suc n) zero (x ∷ xs) low = refl
get-front (suc n) (suc k) (x ∷ xs) low = get-front n k xs (omega arith)

-- the card at a place
pub record CardAt (k : ℕ) (cards : List Card) : Type 0 where
  pub card : Card
  pub is : slice_get cards k ≡ Some card

pub card-at : (k : ℕ) (cards : List Card) → k < length cards → CardAt k cards
card-at k cards low = record { card = get_or cards k (more_card 0); is = slice_get-get_or cards k (more_card 0) low }

-- ---- the first cards, and what stands behind them

pub le-or : (n : ℕ) → (n ≤ 24) ⊎ (24 < n)
le-or n = go (nat_le n 24) refl
  where
    go : (b : Bool) → nat_le n 24 ≡ b → (n ≤ 24) ⊎ (24 < n)
    go true e = inl (grind (arith, nat_tests))
    go false e = inr (grind (arith, nat_tests))

pub count-few : (n : ℕ) → count_shown n ≡ n → n ≤ 24
count-few n e = go (le-or n)
  where
    go : (n ≤ 24) ⊎ (24 < n) → n ≤ 24
    go (inl few) = few
    go (inr many) = let k = some-count n many in absurd (omega arith)

pub count-many : (n : ℕ) → (count_shown n ≡ n → ⊥) → 24 < n
count-many n e = go (le-or n)
  where
    go : (n ≤ 24) ⊎ (24 < n) → 24 < n
    go (inl few) = absurd (e (all-count n few))
    go (inr many) = many

pub count-within : (n : ℕ) → count_shown n ≤ n
count-within n = go (le-or n)
  where
    go : (n ≤ 24) ⊎ (24 < n) → count_shown n ≤ n
    go (inl few) = let k = all-count n few in omega arith
    go (inr many) = let k = some-count n many in omega arith

pub count-most : (n : ℕ) → count_shown n ≤ 24
count-most n = go (le-or n)
  where
    go : (n ≤ 24) ⊎ (24 < n) → count_shown n ≤ 24
    go (inl few) = let k = all-count n few in omega arith
    go (inr many) = let k = some-count n many in omega arith

-- ---- what is shown of cards

module _ (shown : ℕ × Card → List ℕ) where
  -- the card at a place, and those behind it
  pub cards-some : (cards : List Card) (k : ℕ) (c : Card) → slice_get cards k ≡ Some c
      → cards_text shown k (drop k cards) ≡ shown (k, c) ++ cards_text shown (k + 1) (drop (k + 1) cards)
  cards-some cards k c e = ap (cards_text shown k) (rest-some cards k c e)

  -- behind the last
  pub cards-end : (cards : List Card) (k : ℕ) → length cards ≤ k → cards_text shown k (drop k cards) ≡ []
  cards-end cards k past = ap (cards_text shown k) (drop_all k cards past)

  -- cards in two parts
  cards-append : (k : ℕ) (xs ys : List Card) → cards_text shown k (xs ++ ys) ≡ cards_text shown k xs ++ cards_text shown (k + length xs) ys
  cards-append k [] ys = let e : k ≡ k + 0 = omega arith in ap (λ n. cards_text shown n ys) e
  cards-append k (x ∷ xs) ys =
      let e : k + 1 + length xs ≡ k + length (x ∷ xs) = omega arith in
      ap (λ z. shown (k, x) ++ z) (cards-append (k + 1) xs ys ∙ ap (λ n. cards_text shown (k + 1) xs ++ cards_text shown n ys) e)
      ∙ sym (append_assoc (shown (k, x)) (cards_text shown (k + 1) xs) (cards_text shown (k + length (x ∷ xs)) ys))

  -- the first 22, and what stands behind them
  pub shown-behind : (cards : List Card) → 24 < length cards
      → cards_text shown 0 (take 22 cards ++ cards_behind cards) ≡ cards_text shown 0 (take 22 cards) ++ cards_text shown 22 (cards_behind cards)
  shown-behind cards many =
      let long : 0 + length (take 22 cards) ≡ 22 = omega (arith, length-take 22 cards) in
      cards-append 0 (take 22 cards) (cards_behind cards)
      ∙ ap (λ n. cards_text shown 0 (take 22 cards) ++ cards_text shown n (cards_behind cards)) long

-- cards as lines of a map
pub cards-lined : (k : ℕ) (cards : List Card)
    → cards_text (λ (placed : ℕ × Card). shown_line (card_line placed.1) ++ codes "\n") k cards ≡ shown_lines (card_lines cards)
cards-lined k [] = refl
cards-lined k (c ∷ cards) = ap (λ z. (shown_line (card_line c) ++ codes "\n") ++ z) (cards-lined (k + 1) cards)

-- ---- a flex block as it is listed

pub record FlexHere (x : Scene) (t : Task) (blocks : List Flex) (k : ℕ) (item : BlockItem) (card : Card) : Type 0 where
  pub block : Flex
  pub stands : slice_get blocks k ≡ Some block
  pub size : length block.bytes ≡ item.size
  pub card_is : card ≡ flex_card item.address item.anchor block.bytes (use_of_block t item.anchor) (is_fresh_flex x t.handle item.anchor item.size)

pub flex-here : (x : Scene) (t : Task) (place : ℕ) (blocks : List Flex) (k : ℕ) (item : BlockItem) (card : Card)
    → slice_get (block_items_from place blocks) k ≡ Some item → slice_get (flex_cards_from x t place blocks) k ≡ Some card → FlexHere x t blocks k item card
flex-here x t place [] k item card e f = absurd (cc)
flex-here x t place (b ∷ blocks) zero item card e f =
    let i : record { anchor = b.anchor; address = place + 8; size = length b.bytes } ≡ item = cc in
    let c : flex_card (place + 8) b.anchor b.bytes (use_of_block t b.anchor) (is_fresh_flex x t.handle b.anchor (length b.bytes)) ≡ card = cc in
    let P : BlockItem → Type 0 = λ z. FlexHere x t (b ∷ blocks) zero z card in
    subst P i (record { block = b; stands = refl; size = refl; card_is = sym c })
flex-here x t place (b ∷ blocks) (suc k) item card e f =
    let rest = flex-here x t (place + weight b) blocks k item card e f in
    record { block = rest.block; stands = rest.stands; size = rest.size; card_is = rest.card_is }

-- ---- a walk to the first that passes a test

module _ {A : Type 0} (test : A → Bool) (k : ℕ) (xs : List A) (x : A) (low : k < length xs) (is : x ≡ get_or xs k x) where
  here-is : (b : Bool) → test x ≡ b → place_behind test k xs ≡ (if b then Some k else place_from test (suc k) (drop (k + 1) xs))
  here-is b e =
      let t : test (get_or xs k x) ≡ b = ap test (sym is) ∙ e in
      ap (place_from test k) (drop_more xs k x low) ∙ ap (λ z. if z then Some k else place_from test (suc k) (drop (k + 1) xs)) t

  pub behind-here : test x ≡ true → Some k ≡ place_behind test k xs
  behind-here e = sym (here-is true e)

  pub behind-on : test x ≡ false → place_behind test (k + 1) xs ≡ place_behind test k xs
  behind-on e = ap (λ n. place_from test n (drop (k + 1) xs)) (add-one k) ∙ sym (here-is false e)

pub behind-none : {A : Type 0} (test : A → Bool) (k : ℕ) (xs : List A) → length xs ≤ k → None ≡ place_behind test k xs
behind-none test k xs past = sym (ap (place_from test k) (drop_all k xs past))

-- the block of an item
pub record ItemBlock (blocks : List Flex) (k : ℕ) (item : BlockItem) : Type 0 where
  pub block : Flex
  pub stands : slice_get blocks k ≡ Some block
  pub size : length block.bytes ≡ item.size

pub item-block : (place : ℕ) (blocks : List Flex) (k : ℕ) (item : BlockItem) → slice_get (block_items_from place blocks) k ≡ Some item → ItemBlock blocks k item
item-block place [] k item e = absurd (cc)
item-block place (b ∷ blocks) zero item e =
    let size : length b.bytes ≡ item.size = cc in
    record { block = b; stands = refl; size = size }
item-block place (b ∷ blocks) (suc k) item e =
    let rest = item-block (place + weight b) blocks k item e in
    record { block = rest.block; stands = rest.stands; size = rest.size }

-- the first bytes of a block are those that are shown
pub front-is : (size n : ℕ) (bytes : List ℕ) → length bytes ≡ size → n ≡ min size 7 → take 7 bytes ≡ take n bytes
front-is size n bytes whole e = go (nat_le size 7) refl
  where
    go : (b : Bool) → nat_le size 7 ≡ b → take 7 bytes ≡ take n bytes
    go true k =
        let few : size ≤ 7 = grind (arith, nat_tests) in
        take_all 7 bytes (omega arith) ∙ sym (take_all n bytes (omega arith))
    go false k =
        let many : 7 < size = grind (arith, nat_tests) in
        let seven : 7 ≡ n = omega arith in
        ap (λ m. take m bytes) seven

-- ---- the first changed block behind the first 22

get-drop : {A : Type 0} (n j : ℕ) (xs : List A) → slice_get (drop n xs) j ≡ slice_get xs (n + j)
get-drop zero j xs = let e : j ≡ 0 + j = omega arith in ap (slice_get xs) e
get-drop (suc n) j [] = refl
get-drop (suc n) j (x ∷ xs) = let e : suc (n + j) ≡ suc n + j = omega arith in get-drop n j xs ∙ ap (slice_get (x ∷ xs)) e

pub record FlexPicked (x : Scene) (t : Task) (k : ℕ) : Type 0 where
  pub card : Card
  pub at : slice_get (flex_cards x t) k ≡ Some card
  pub low : k < length (flex_cards x t)
  pub first : take 1 (filter (λ (c : Card). c.fresh) (drop 22 (flex_cards x t))) ≡ card ∷ []

pub flex-picked : (x : Scene) (t : Task) (k : ℕ)
    → place_behind (λ (b : BlockItem). is_fresh_flex x t.handle b.anchor b.size) 22 (block_items t.slot) ≡ Some k → FlexPicked x t k
flex-picked x t k e =
    let test = λ (b : BlockItem). is_fresh_flex x t.handle b.anchor b.size in
    let all = flex-alike x t (flex_start t.slot) t.slot.blocks in
    let p = pick-some test 22 k (drop 22 (block_items t.slot)) (drop 22 (flex_cards x t)) (alike-drop test 22 (block_items t.slot) (flex_cards x t) all) e in
    let above = p.above in
    let same : 22 + (k - 22) ≡ k = omega arith in
    let at = ap (slice_get (flex_cards x t)) (sym same) ∙ (sym (get-drop 22 (k - 22) (flex_cards x t)) ∙ p.at) in
    record { card = p.card; at = at; low = slice_get_within (flex_cards x t) k p.card at; first = p.first }

pub flex-unpicked : (x : Scene) (t : Task) → place_behind (λ (b : BlockItem). is_fresh_flex x t.handle b.anchor b.size) 22 (block_items t.slot) ≡ None
    → take 1 (filter (λ (c : Card). c.fresh) (drop 22 (flex_cards x t))) ≡ []
flex-unpicked x t e =
    let test = λ (b : BlockItem). is_fresh_flex x t.handle b.anchor b.size in
    pick-none test 22 (drop 22 (block_items t.slot)) (drop 22 (flex_cards x t))
    (alike-drop test 22 (block_items t.slot) (flex_cards x t) (flex-alike x t (flex_start t.slot) t.slot.blocks)) e
