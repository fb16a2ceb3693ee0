-- The words of anchors, after some were written, and the blocks that they lead to.
use Rattle.rh_wide_slot.proofs.Common.{◌≡◌, ◌≢◌, ℕ, zero, suc, ◌+◌, ◌-◌, ◌*◌, ◌^◌, ◌<◌, ◌≤◌, ◌==◌, ◌⊎◌, inl, inr, Bool, true, false}
use Rattle.rh_wide_slot.proofs.Common.{List, length, get_or, refl, sym, ap, subst, ◌∙◌, arith, not, nat_le, ◌&&◌, ◌||◌, Some, None}
use Rattle.rh_wide_slot.proofs.Common.{cases_eq, cases_lt, nat_tests, word, part, put_word, word_same, length-put_word, word-put_word}
use Rattle.rh_wide_slot.proofs.Common.{word-put_word_below, word-put_word_above, get-put_word_above, get-put_word_below}
use Rattle.rh_wide_slot.proofs.Common.{IsWideSlot, WideSlot, row_place, row_size, has_moved}
use Rattle.rh_wide_slot.proofs.Common.{row_block, any_moved, ToldBelow, moved_place, with_entry, any_from}

-- ---- both words of one anchor

module _ (b : List ℕ) (k p z : ℕ) (room : 8 * k + 8 ≤ length b) where
  abbrev half : List ℕ
  half = put_word b (8 * k) p

  pub entry_len : length (with_entry b k p z) ≡ length b
  entry_len = length-put_word half (8 * k + 4) z ∙ length-put_word b (8 * k) p

  pub entry_place : p < 2 ^ 32 → row_place (with_entry b k p z) k ≡ p
  entry_place h = word-put_word_below half (8 * k + 4) z (8 * k) (omega arith) ∙ word-put_word b (8 * k) p (omega arith) h

  pub entry_size : z < 2 ^ 32 → row_size (with_entry b k p z) k ≡ z
  entry_size h = word-put_word half (8 * k + 4) z (omega (arith, length-put_word b (8 * k) p)) h

  pub entry_places : (j : ℕ) → j ≢ k → row_place (with_entry b k p z) j ≡ row_place b j
  entry_places j d = elim (cases_lt j k) [
    | inl l ↦ word-put_word_below half (8 * k + 4) z (8 * j) (omega arith) ∙ word-put_word_below b (8 * k) p (8 * j) (omega arith)
    | inr g ↦ word-put_word_above half (8 * k + 4) z (8 * j) (omega arith) ∙ word-put_word_above b (8 * k) p (8 * j) (omega arith)
  ]

  pub entry_sizes : (j : ℕ) → j ≢ k → row_size (with_entry b k p z) j ≡ row_size b j
  entry_sizes j d = elim (cases_lt j k) [
    | inl l ↦ word-put_word_below half (8 * k + 4) z (8 * j + 4) (omega arith) ∙ word-put_word_below b (8 * k) p (8 * j + 4) (omega arith)
    | inr g ↦ word-put_word_above half (8 * k + 4) z (8 * j + 4) (omega arith) ∙ word-put_word_above b (8 * k) p (8 * j + 4) (omega arith)
  ]

  pub entry_bytes : (i : ℕ) → 8 * k + 8 ≤ i → get_or (with_entry b k p z) i 0 ≡ get_or b i 0
  entry_bytes i h = get-put_word_above half (8 * k + 4) z i (omega arith) ∙ get-put_word_above b (8 * k) p i (omega arith)

-- ---- the places of blocks that move together

pub told_start : (b : List ℕ) (from to : ℕ) → ToldBelow b b from to 0
told_start b from to = record { len = refl; places = λ j l. absurd (omega arith); sizes = λ j l. absurd (omega arith); above = λ i l. refl }

-- one more: all else stays in this step
pub told_on : (b c d : List ℕ) (from to n : ℕ) → ToldBelow b c from to n → length d ≡ length c → row_place d n ≡ moved_place from to (row_place b n)
    → ((i : ℕ) → (i < 8 * n) ⊎ (8 * n + 4 ≤ i) → get_or d i 0 ≡ get_or c i 0) → ToldBelow b d from to (n + 1)
told_on b c d from to n t len here rest =
    let low : (p : ℕ) → p + 4 ≤ 8 * n → word d p ≡ word c p = λ p h. word_same c d p (record { each = λ i x y. rest i (inl (omega arith)) }) in
    let size : (j : ℕ) → j < n + 1 → row_size d j ≡ row_size c j = λ j l. elim (cases_eq j n) [
      | inl e ↦ word_same c d (8 * j + 4) (record { each = λ i x y. rest i (inr (omega arith)) })
      | inr ne ↦ low (8 * j + 4) (omega arith)
    ] in
    record {
      len = len ∙ t.len;
      places = λ j l. elim (cases_eq j n) [
        | inl e ↦ ap (row_place d) e ∙ here ∙ ap (λ i. moved_place from to (row_place b i)) (sym e)
        | inr ne ↦ low (8 * j) (omega arith) ∙ t.places j (omega arith)
      ];
      sizes = λ j l. elim (cases_eq j n) [
        | inl e ↦ size j l ∙ word_same b c (8 * j + 4) (record { each = λ i x y. t.above i (omega arith) })
        | inr ne ↦ size j l ∙ t.sizes j (omega arith)
      ];
      above = λ i l. rest i (inr (omega arith)) ∙ t.above i (omega arith);
    }

-- the next place is as it was
pub told_still : (b c : List ℕ) (from to n : ℕ) → ToldBelow b c from to n → row_place c n ≡ row_place b n
told_still b c from to n t = word_same b c (8 * n) (record { each = λ i x y. t.above i (omega arith) })

pub moved_at : (from to p : ℕ) → from ≤ p → moved_place from to p ≡ to + (p - from)
moved_at from to p h = grind (arith, nat_tests)

pub rests_at : (from to p : ℕ) → p < from → moved_place from to p ≡ p
rests_at from to p h = grind (arith, nat_tests)

-- a place that is written, and one that stays
pub told_moved : (b c : List ℕ) (from to n w : ℕ) → ToldBelow b c from to n → 8 * n + 8 ≤ length b → from ≤ row_place b n → w ≡ to + (row_place b n - from)
    → w < 2 ^ 32 → ToldBelow b (put_word c (8 * n) w) from to (n + 1)
told_moved b c from to n w t room high e few =
    let len = t.len in
    told_on b c (put_word c (8 * n) w) from to n t (length-put_word c (8 * n) w)
    (word-put_word c (8 * n) w (omega arith) few ∙ e ∙ sym (moved_at from to (row_place b n) high))
    (λ i s. elim s [
      | inl l ↦ get-put_word_below c (8 * n) w i l
      | inr g ↦ get-put_word_above c (8 * n) w i g
    ])

pub told_passed : (b c : List ℕ) (from to n : ℕ) → ToldBelow b c from to n → row_place b n < from → ToldBelow b c from to (n + 1)
told_passed b c from to n t low =
    told_on b c c from to n t refl (told_still b c from to n t ∙ sym (rests_at from to (row_place b n) low)) (λ i s. refl)

-- whether one has moved, counted one further
pub any_yes : (from n : ℕ) (b : List ℕ) → from ≤ row_place b n → any_from from (n + 1) b ≡ true
unfolding any_from
any_yes from n b h = grind (arith, nat_tests)

pub any_no : (from n : ℕ) (b : List ℕ) → row_place b n < from → any_from from (n + 1) b ≡ any_from from n b
unfolding any_from
any_no from n b h = grind (arith, nat_tests)

-- none of them has where each begins below
pub none_from : (from n : ℕ) (b : List ℕ) → ((j : ℕ) → j < n → row_place b j < from) → any_from from n b ≡ false
unfolding any_from
none_from from zero b h = refl
none_from from (suc n) b h =
    ap (λ t. t || nat_le from (row_place b n)) (none_from from n b (λ j l. h j (omega arith))) ∙ below from (row_place b n) (h n (omega arith))
  where
    below : (x y : ℕ) → y < x → nat_le x y ≡ false
    below x y h = grind (arith, nat_tests)

-- ---- blocks by their words

pub no_block : (b : List ℕ) (k : ℕ) → row_place b k ≡ 0 → row_block b k ≡ None
unfolding row_block
no_block b k e = grind (arith, nat_tests)

pub a_block : (b : List ℕ) (k : ℕ) → row_place b k ≢ 0 → row_block b k ≡ Some (part b (row_place b k) (row_size b k))
unfolding row_block
a_block b k d = grind (arith, nat_tests)

-- the same bytes at another place
pub same_block : (b c : List ℕ) (k : ℕ) → (row_place b k ≡ 0 → row_place c k ≡ 0) → (row_place b k ≢ 0 → row_place c k ≢ 0) → row_size c k ≡ row_size b k
    → (row_place b k ≢ 0 → part c (row_place c k) (row_size b k) ≡ part b (row_place b k) (row_size b k)) → row_block c k ≡ row_block b k
same_block b c k z n s p = elim (cases_eq (row_place b k) 0) [
  | inl e ↦ no_block c k (z e) ∙ sym (no_block b k e)
  | inr d ↦ a_block c k (n d) ∙ ap (λ i. Some (part c (row_place c k) i)) s ∙ ap Some (p d) ∙ sym (a_block b k d)
]

-- ---- which blocks have moved

pub any_same : (n : ℕ) (b c d e : List ℕ) → ((j : ℕ) → j < n → has_moved b c j ≡ has_moved d e j) → any_moved n b c ≡ any_moved n d e
unfolding any_moved
any_same zero b c d e h = refl
any_same (suc n) b c d e h =
    ap (λ t. t || has_moved b c n) (any_same n b c d e (λ j l. h j (omega arith))) ∙ ap (λ t. any_moved n d e || t) (h n (omega arith))

pub none_moved : (n : ℕ) (b c : List ℕ) → ((j : ℕ) → j < n → has_moved b c j ≡ false) → any_moved n b c ≡ false
unfolding any_moved
none_moved zero b c h = refl
none_moved (suc n) b c h =
    ap (λ t. t || has_moved b c n) (none_moved n b c (λ j l. h j (omega arith))) ∙ h n (omega arith)

pub still_at : (b c : List ℕ) (j : ℕ) → row_place b j ≡ row_place c j → has_moved b c j ≡ false
still_at b c j e = grind (arith, nat_tests)

pub new_at : (b c : List ℕ) (j : ℕ) → row_place b j ≡ 0 → has_moved b c j ≡ false
new_at b c j e = grind (arith, nat_tests)

pub gone_at : (b c : List ℕ) (j : ℕ) → row_place c j ≡ 0 → has_moved b c j ≡ false
gone_at b c j e = grind (arith, nat_tests)

-- those that began at a place or above have
pub any_shifted : (from to n : ℕ) (b c : List ℕ) → 0 < from → 0 < to → from ≢ to
    → ((j : ℕ) → j < n → row_place c j ≡ moved_place from to (row_place b j)) → any_moved n b c ≡ any_from from n b
unfolding any_moved any_from
any_shifted from to zero b c f t d h = refl
any_shifted from to (suc n) b c f t d h =
    ap (λ x. x || has_moved b c n) (any_shifted from to n b c f t d (λ j l. h j (omega arith)))
    ∙ ap (λ x. any_from from n b || x) (one (row_place b n) (row_place c n) (h n (omega arith)))
  where
    one : (x y : ℕ) → y ≡ moved_place from to x → (not (x == 0) && not (y == 0) && not (x == y)) ≡ nat_le from x
    one x y e = elim (cases_lt x from) [
      | inl l ↦ (let q : y ≡ x = e ∙ rests_at from to x l in grind (arith, nat_tests))
      | inr g ↦ (let q : y ≡ to + (x - from) = e ∙ moved_at from to x g in grind (arith, nat_tests))
    ]

-- ---- the walk that tells them

-- the walk has passed n of so many anchors
pub record Telling (b c : List ℕ) (from to most n : ℕ) (moved : Bool) : Type 0 where
  pub told : ToldBelow b c from to n
  pub found : moved ≡ any_from from n b
  pub few : n ≤ most

pub telling_start : (b : List ℕ) (from to most : ℕ) → Telling b b from to most 0 false
unfolding any_from
telling_start b from to most = record { told = told_start b from to; found = refl; few = omega arith }

module _ (b c : List ℕ) (s : WideSlot) (from to n : ℕ) (moved : Bool) (w : IsWideSlot b s) (t : Telling b c from to s.anchors n moved)
    (more : n < s.anchors) (fit : to + (s.top - from) ≤ length b) where
  -- a place that is to be written is one of 32 bits
  pub telling_fits : (place : ℕ) → place ≡ row_place c n → to + (place - from) < 2 ^ 32
  telling_fits place e =
      let few = w.few in
      let same = told_still b c from to n t.told in
      elim (cases_eq (row_place b n) 0) [
        | inl z ↦ omega arith
        | inr d ↦ (let high = w.high n more d in omega arith)
      ]

  room_at : 8 * n + 8 ≤ length b
  room_at = let table = w.table in let up = w.up in let within = w.within in omega arith

  pub telling_moved : (d : List ℕ) (place at new : ℕ) (now : Bool) → place ≡ row_place c n → from ≤ place → at ≡ 8 * n → new ≡ to + (place - from)
      → d ≡ put_word c at new → now ≡ true → Telling b d from to s.anchors (n + 1) now
  telling_moved d place at new now e high ea en ed em =
      let same = told_still b c from to n t.told in
      let fits = telling_fits place e in
      let room = room_at in
      let told : ToldBelow b (put_word c (8 * n) new) from to (n + 1) =
      told_moved b c from to n new t.told (omega arith) (omega arith) (omega arith) (omega arith) in
      record {
        told = subst (λ l. ToldBelow b l from to (n + 1)) (sym (ed ∙ ap (λ i. put_word c i new) ea)) told;
        found = em ∙ sym (any_yes from n b (omega arith));
        few = omega arith;
      }

  pub telling_passed : (d : List ℕ) (place : ℕ) (now : Bool) → place ≡ row_place c n → place < from → d ≡ c → now ≡ moved
      → Telling b d from to s.anchors (n + 1) now
  telling_passed d place now e low ed em =
      let same = told_still b c from to n t.told in
      record {
        told = subst (λ l. ToldBelow b l from to (n + 1)) (sym ed) (told_passed b c from to n t.told (omega arith));
        found = em ∙ t.found ∙ sym (any_no from n b (omega arith));
        few = omega arith;
      }

pub telling_end : (b c : List ℕ) (from to most n : ℕ) (moved : Bool) → Telling b c from to most n moved → most ≤ n
    → ToldBelow b c from to most × (moved ≡ any_from from most b)
telling_end b c from to most n moved t h =
    let few = t.few in
    let e : n ≡ most = omega arith in
    (subst (ToldBelow b c from to) e t.told, t.found ∙ ap (λ i. any_from from i b) e)
