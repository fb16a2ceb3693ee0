-- A block has slid just where the anchor word of the lowest one that may have moved has changed.
use Rattle.rh_lent_slot.proofs.Common.{◌≡◌, ℕ, ◌+◌, ◌*◌, ◌<◌, ◌^◌, ◌%◌, ◌==◌, Bool, true, false, List, [], ◌∷◌, ◌++◌, refl, sym, ap, subst}
use Rattle.rh_lent_slot.proofs.Common.{◌∙◌, arith, Some, nat_tests}
use Rattle.std.proofs.Common.{zero, suc, ◌≢◌, ◌⊎◌, inl, inr}
use Rattle.std.specs.Prelude.{not, ◌&&◌, ◌||◌}
use Rattle.std.proofs.lemmas.Bool.{cases_eq}
use Rattle.rh_defs.specs.Bytes.{word}
use Rattle.rh_defs.specs.Pieces.{total}
use Rattle.rh_defs.specs.Slot.{Flex, Slot, weight, IsFree, anchor_count}
use Rattle.rh_defs.specs.SlotImage.{Anchored, SlotWords, flex_place}
use Rattle.rh_defs.proofs.HeapLists.{cond_true, cond_false, eqb_same, eqb_apart}
use Rattle.rh_defs.proofs.SlotLaws.{Anchored-split, IsFree-join}
use Rattle.rh_lent_slot.specs.SlotSlides.{has_slid, any_slid, slides_after}
use Rattle.rh_lent_slot.specs.Inner.NotedWords.{slides_noted}
use Rattle.rh_lent_slot.specs.declared.slides.NotedWord.{NotedWord}

-- ---- one anchor word, and all of them

-- an anchor's block stays where it is, or the anchor has none before or after
pub data Rests (b c : List ℕ) (k : ℕ) : Type 0 where
  rests_same : word b (4 * k) ≡ word c (4 * k) → Rests b c k
  rests_new : word b (4 * k) ≡ 0 → Rests b c k
  rests_gone : word c (4 * k) ≡ 0 → Rests b c k

no_slide : (x y : ℕ) → (x ≡ y) ⊎ ((x ≡ 0) ⊎ (y ≡ 0)) → (not (x == 0) && not (y == 0) && not (x == y)) ≡ false
no_slide x y (inl e) = grind (arith, nat_tests)
no_slide x y (inr (inl e)) = grind (arith, nat_tests)
no_slide x y (inr (inr e)) = grind (arith, nat_tests)

a_slide : (x y : ℕ) → x ≢ 0 → y ≢ 0 → x ≢ y → (not (x == 0) && not (y == 0) && not (x == y)) ≡ true
a_slide x y h i d = grind (arith, nat_tests)

rests_false : (b c : List ℕ) (k : ℕ) → Rests b c k → has_slid b c k ≡ false
rests_false b c k (rests_same e) = no_slide _ _ (inl e)
rests_false b c k (rests_new e) = no_slide _ _ (inr (inl e))
rests_false b c k (rests_gone e) = no_slide _ _ (inr (inr e))

none_slid : (n : ℕ) (b c : List ℕ) → ((k : ℕ) → k < n → Rests b c k) → any_slid n b c ≡ false
unfolding any_slid
none_slid zero b c h = refl
none_slid (suc n) b c h =
    ap (λ t. t || has_slid b c n) (none_slid n b c (λ k l. h k (omega arith))) ∙ rests_false b c n (h n (omega arith))

or_true : (t : Bool) → (t || true) ≡ true
or_true true = refl
or_true false = refl

one_slid : (n : ℕ) (b c : List ℕ) (k : ℕ) → k < n → has_slid b c k ≡ true → any_slid n b c ≡ true
unfolding any_slid
one_slid zero b c k l e = absurd (omega arith)
one_slid (suc n) b c k l e = elim (cases_eq k n) [
  | inl q ↦ ap (λ t. any_slid n b c || t) (ap (has_slid b c) (sym q) ∙ e) ∙ or_true (any_slid n b c)
  | inr d ↦ ap (λ t. t || has_slid b c n) (one_slid n b c k (omega arith) e)
]

-- ---- the count

-- every block rests
abbrev pub AllRest : List ℕ → List ℕ → Type 0
AllRest b c = (k : ℕ) → k < anchor_count → Rests b c k

pub counts_none : (n : ℕ) (b c : List ℕ) → AllRest b c → n ≡ slides_after n b c
unfolding slides_after
counts_none n b c h = sym (cond_false (any_slid 64 b c) _ _ (none_slid 64 b c h))

pub counts_one : (n : ℕ) (b c : List ℕ) (k : ℕ) → k < anchor_count → word b (4 * k) ≢ 0 → word c (4 * k) ≢ 0 → word b (4 * k) ≢ word c (4 * k)
    → (n + 1) % 2 ^ 32 ≡ slides_after n b c
unfolding slides_after
counts_one n b c k l x y d = sym (cond_true (any_slid 64 b c) _ _ (one_slid 64 b c k l (a_slide _ _ x y d)))

-- the word that was noted tells: it is the same just where every block rests
pub counts_noted : (n : ℕ) (b c : List ℕ) (k : ℕ) (noted : NotedWord) → noted.at ≡ 4 * k → noted.word ≡ word b noted.at
    → k < anchor_count → word b (4 * k) ≢ 0 → word c (4 * k) ≢ 0 → (word b (4 * k) ≡ word c (4 * k) → AllRest b c)
    → slides_noted n (Some noted) c ≡ slides_after n b c
counts_noted n b c k noted at was l x y rest =
    let before : noted.word ≡ word b (4 * k) = was ∙ ap (word b) at in
    let after : word c noted.at ≡ word c (4 * k) = ap (word c) at in
    elim (cases_eq (word b (4 * k)) (word c (4 * k))) [
      | inl e ↦ cond_true (word c noted.at == noted.word) _ _ (eqb_same _ _ (after ∙ sym e ∙ sym before)) ∙ counts_none n b c (rest e)
      | inr ne ↦ cond_false (word c noted.at == noted.word) _ _ (eqb_apart _ _ (λ e. ne (sym before ∙ sym e ∙ after))) ∙ counts_one n b c k l x y ne
    ]

-- ---- rows of blocks

-- blocks that stand in one place have the same anchor words
row_same : (b c : List ℕ) (p : ℕ) (xs : List Flex) → Anchored b p xs → Anchored c p xs → (k : ℕ) → IsFree k xs ⊎ (word b (4 * k) ≡ word c (4 * k))
row_same b c p [] h i k = inl tt
row_same b c p (f ∷ xs) h i k = elim (cases_eq f.anchor k) [
  | inl e ↦ inr (ap (λ j. word b (4 * j)) (sym e) ∙ h.0 ∙ sym i.0 ∙ ap (λ j. word c (4 * j)) e)
  | inr ne ↦ elim (row_same b c (p + weight f) xs h.1 i.1 k) [ inl u ↦ inl (ne, u) | inr e ↦ inr e ]
]

module _ (b c : List ℕ) (s t : Slot) (w : SlotWords b s) (x : SlotWords c t) where
  -- all blocks stand where they stood
  pub all_same : flex_place s ≡ flex_place t → s.blocks ≡ t.blocks → AllRest b c
  all_same p e k l =
      let i : Anchored c (flex_place s) s.blocks = subst (λ q. Anchored c q s.blocks) (sym p) (subst (Anchored c (flex_place t)) (sym e) x.anchored) in
      elim (row_same b c (flex_place s) s.blocks w.anchored i k) [ inl u ↦ rests_new (w.none k l u) | inr q ↦ rests_same q ]

  module _ (place : flex_place s ≡ flex_place t) (xs : List Flex) (f : Flex) where
    -- the top block has gone
    pub top_gone : s.blocks ≡ xs ++ f ∷ [] → t.blocks ≡ xs → AllRest b c
    top_gone e g k l =
        let h = (Anchored-split b (flex_place s) xs (f ∷ []) (subst (Anchored b (flex_place s)) e w.anchored)).0 in
        let i : Anchored c (flex_place s) xs = subst (λ q. Anchored c q xs) (sym place) (subst (Anchored c (flex_place t)) g x.anchored) in
        elim (row_same b c (flex_place s) xs h i k) [ inl u ↦ rests_gone (x.none k l (subst (IsFree k) (sym g) u)) | inr q ↦ rests_same q ]

    module _ (ys : List Flex) (e : s.blocks ≡ xs ++ f ∷ ys) where
      hangs : Anchored b (flex_place s) xs × Anchored b (flex_place s + total weight xs) (f ∷ ys)
      hangs = Anchored-split b (flex_place s) xs (f ∷ ys) (subst (Anchored b (flex_place s)) e w.anchored)

      -- a block has other bytes, and those above stand where they stood
      module _ (g : Flex) (anchor : g.anchor ≡ f.anchor) (now : t.blocks ≡ xs ++ g ∷ ys) where
        hangs_now : Anchored c (flex_place s) xs × Anchored c (flex_place s + total weight xs) (g ∷ ys)
        hangs_now =
            Anchored-split c (flex_place s) xs (g ∷ ys)
            (subst (λ q. Anchored c q (xs ++ g ∷ ys)) (sym place) (subst (Anchored c (flex_place t)) now x.anchored))

        above_same : weight f ≡ weight g → (k : ℕ) → IsFree k ys ⊎ (word b (4 * k) ≡ word c (4 * k))
        above_same e =
            row_same b c (flex_place s + total weight xs + weight f) ys hangs.1.1
            (subst (λ n. Anchored c (flex_place s + total weight xs + n) ys) (sym e) hangs_now.1.1)

        changed : ((k : ℕ) → IsFree k ys ⊎ (word b (4 * k) ≡ word c (4 * k))) → AllRest b c
        changed above k l = elim (row_same b c (flex_place s) xs hangs.0 hangs_now.0 k) [
          | inr q ↦ rests_same q
          | inl u ↦ elim (cases_eq f.anchor k) [
            | inl r ↦ rests_same (ap (λ j. word b (4 * j)) (sym r) ∙ hangs.1.0 ∙ sym hangs_now.1.0 ∙ ap (λ j. word c (4 * j)) (anchor ∙ r))
            | inr ne ↦ elim (above k) [
              | inr q ↦ rests_same q
              | inl v ↦ rests_new (w.none k l (subst (IsFree k) (sym e) (IsFree-join k xs (f ∷ ys) u (ne, v))))
            ]
          ]
        ]

        pub same_weight : weight f ≡ weight g → AllRest b c
        same_weight e = changed (above_same e)

        pub none_above : ys ≡ [] → AllRest b c
        none_above z = changed (λ k. inl (subst (IsFree k) (sym z) tt))
