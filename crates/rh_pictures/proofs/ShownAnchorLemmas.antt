-- Which anchors a lens shows: whether each leads to a block, now or before the command.
use Rattle.rh_pictures.proofs.Common.{◌≡◌, ℕ, ◌+◌, zero, suc, Bool, true, false, refl, ap, ap₂, sym, ◌∙◌, arith, List, [], ◌∷◌, ◌++◌, Option, Some, None, map}
use Rattle.rh_pictures.proofs.Common.{◌||◌, ◌&&◌, ◌==◌, not, filter, find, if◌then◌else◌, list_any, option_map, range_with_len, map-append, append-nil}
use Rattle.rh_pictures.proofs.Common.{BlockItem, Task, Scene, block_items, has_anchor}
use Rattle.std.specs.Prelude.{is_some}
use Rattle.std.proofs.lemmas.List.Elements.{filter-append}
use Rattle.rh_sheet.specs.Slides.{address_in}
use Rattle.rh_lens.specs.Anchors.{is_same_address, leads_now, led_before, shown_anchor}
use Rattle.rh_lens.specs.declared.anchors.ShownAnchor.{ShownAnchor}

-- ---- one anchor

-- an anchor that leads to a block, now or before the command
abbrev pub is_among : Scene → Task → ℕ → Bool
is_among x t k = leads_now t k || led_before x t k

abbrev pub if_among : Scene → Task → ℕ → Option ShownAnchor
if_among x t k = if is_among x t k then Some (shown_anchor x t k) else None

abbrev pub anchor_with : ℕ → Option ℕ → Bool → ShownAnchor
anchor_with number held moved = record { number = number; held = held; is_moved = moved }

-- there is an address where there is a block
some-any : {A : Type 0} (p : A → Bool) (f : A → ℕ) (xs : List A) → is_some (option_map f (find p xs)) ≡ list_any p xs
some-any p f [] = refl
some-any p f (x ∷ xs) = go (p x) (some-any p f xs)
  where
    go : (b : Bool) → is_some (option_map f (find p xs)) ≡ list_any p xs → is_some (option_map f (if b then Some x else find p xs)) ≡ (b || list_any p xs)
    go true rest = refl
    go false rest = rest

has-address : (k : ℕ) (blocks : List BlockItem) → is_some (address_in k blocks) ≡ has_anchor k blocks
has-address k blocks = some-any (λ (b : BlockItem). b.anchor == k) (λ (b : BlockItem). b.address) blocks

-- what a command knows of a task alone that it names
had-address : (b : Bool) (k : ℕ) (blocks : List BlockItem) → is_some (if b then address_in k blocks else None) ≡ (b && has_anchor k blocks)
had-address true k blocks = has-address k blocks
had-address false k blocks = refl

moved-is : (b : Bool) (o held : Option ℕ) → (b && not (is_same_address (if b then o else None) held)) ≡ (b && not (is_same_address o held))
moved-is true o held = refl
moved-is false o held = refl

-- an anchor by the addresses that it has and had
pub record AnchorSeen (x : Scene) (t : Task) (k : ℕ) (held before : Option ℕ) : Type 0 where
  pub now : held ≡ address_in k (block_items t.slot)
  pub then_was : before ≡ (if t.handle == x.before.handle then address_in k x.before.blocks else None)

among-is : (x : Scene) (t : Task) (k : ℕ) (held before : Option ℕ) → AnchorSeen x t k held before → (is_some held || is_some before) ≡ is_among x t k
among-is x t k held before s =
    ap₂ (λ a b. a || b) (ap is_some s.now ∙ has-address k (block_items t.slot))
    (ap is_some s.then_was ∙ had-address (t.handle == x.before.handle) k x.before.blocks)

pub among-none : (x : Scene) (t : Task) (k : ℕ) (held before : Option ℕ) → AnchorSeen x t k held before → (is_some held || is_some before) ≡ false
    → None ≡ if_among x t k
among-none x t k held before s off =
    ap (λ (b : Bool). if b then Some (shown_anchor x t k) else None) (sym off ∙ among-is x t k held before s)

pub among-some : (x : Scene) (t : Task) (k n : ℕ) (held before : Option ℕ) (moved : Bool) → AnchorSeen x t k held before
    → (is_some held || is_some before) ≡ true → n ≡ k → moved ≡ (t.handle == x.before.handle && not (is_same_address before held))
    → Some (anchor_with n held moved) ≡ if_among x t k
among-some x t k n held before moved s on en e =
    let m : moved ≡ (t.handle == x.before.handle && not (is_same_address (address_in k x.before.blocks) (address_in k (block_items t.slot)))) =
    e ∙ (ap₂ (λ o h. t.handle == x.before.handle && not (is_same_address o h)) s.then_was s.now
    ∙ moved-is (t.handle == x.before.handle) (address_in k x.before.blocks) (address_in k (block_items t.slot))) in
    ap (λ i. Some (anchor_with i held moved)) en
    ∙ (ap₂ (λ h b. Some (anchor_with k h b)) s.now m
    ∙ ap (λ (b : Bool). if b then Some (shown_anchor x t k) else None) (sym on ∙ among-is x t k held before s))

-- ---- one anchor after the other

-- those below a number
abbrev pub among_below : Scene → Task → ℕ → List ShownAnchor
among_below x t n = map (shown_anchor x t) (filter (is_among x t) (range_with_len 0 n))

range-more : (from n : ℕ) → range_with_len from (suc n) ≡ range_with_len from n ++ (from + n) ∷ []
range-more from zero = let e : from ≡ from + 0 = omega arith in ap (λ k. k ∷ []) e
range-more from (suc n) = let e : from + 1 + n ≡ from + suc n = omega arith in ap (λ l. from ∷ l)
    (range-more (from + 1) n ∙ ap (λ k. range_with_len (from + 1) n ++ k ∷ []) e)

below-more : (x : Scene) (t : Task) (n : ℕ) → among_below x t (n + 1) ≡ among_below x t n ++ map (shown_anchor x t) (filter (is_among x t) (n ∷ []))
below-more x t n =
    let f = shown_anchor x t in
    let p = is_among x t in
    let one : n + 1 ≡ suc n = omega arith in
    let here : 0 + n ≡ n = omega arith in
    let more : range_with_len 0 (n + 1) ≡ range_with_len 0 n ++ n ∷ [] =
    ap (range_with_len 0) one ∙ (range-more 0 n ∙ ap (λ k. range_with_len 0 n ++ k ∷ []) here) in
    ap (λ l. map f (filter p l)) more
    ∙ (ap (map f) (filter-append p (range_with_len 0 n) (n ∷ [])) ∙ map-append f (filter p (range_with_len 0 n)) (filter p (n ∷ [])))

pub below-none : (x : Scene) (t : Task) (n : ℕ) {k : ℕ} → None ≡ if_among x t k → k ≡ n → among_below x t n ≡ among_below x t (n + 1)
below-none x t n at same = go (is_among x t n) refl
  where
    e : None ≡ if_among x t n
    e = at ∙ ap (if_among x t) same

    go : (b : Bool) → is_among x t n ≡ b → among_below x t n ≡ among_below x t (n + 1)
    go true k = let q : None ≡ Some (shown_anchor x t n) = e ∙ ap (λ (b : Bool). if b then Some (shown_anchor x t n) else None) k in absurd (cc)
    go false k =
        sym (below-more x t n ∙ (ap (λ (b : Bool). among_below x t n ++ map (shown_anchor x t) (if b then n ∷ [] else [])) k
        ∙ append-nil (among_below x t n)))

pub below-some : (x : Scene) (t : Task) (n : ℕ) (a : ShownAnchor) {k : ℕ} → Some a ≡ if_among x t k → k ≡ n
    → among_below x t n ++ a ∷ [] ≡ among_below x t (n + 1)
below-some x t n a at same = go (is_among x t n) refl
  where
    e : Some a ≡ if_among x t n
    e = at ∙ ap (if_among x t) same

    go : (b : Bool) → is_among x t n ≡ b → among_below x t n ++ a ∷ [] ≡ among_below x t (n + 1)
    go true k =
        let q : Some a ≡ Some (shown_anchor x t n) = e ∙ ap (λ (b : Bool). if b then Some (shown_anchor x t n) else None) k in
        let same : a ≡ shown_anchor x t n = cc in
        ap (λ z. among_below x t n ++ z ∷ []) same
        ∙ sym (below-more x t n ∙ ap (λ (b : Bool). among_below x t n ++ map (shown_anchor x t) (if b then n ∷ [] else [])) k)
    go false k = let q : Some a ≡ None = e ∙ ap (λ (b : Bool). if b then Some (shown_anchor x t n) else None) k in absurd (cc)
