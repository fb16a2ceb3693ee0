-- The post stays where the module area's calls claim, free and resize blocks of others, or move the area's end.
use Rattle.rh_wimp.proofs.Common.{◌≡◌, ℕ, ◌-◌, ◌<◌, ◌≤◌, inl, inr, Bool, true, false, List, [], ◌∷◌, length, refl, sym, ap, subst, ◌∙◌, arith, cases_eq}
use Rattle.rh_wimp.proofs.Common.{cases_lt, eqb_tells, Option, Some, None, Ok, Err, ◌==◌, ◌||◌, ℤ, list_any, option_map, block_bytes, SameShape, Granted}
use Rattle.rh_wimp.proofs.Common.{answer_of, left_of, Heap, block_room, release_block, total, Memory, Parcel, module_claim, Post, module_claim-alike}
use Rattle.rh_wimp.proofs.Common.{module_heap_in}
use Rattle.rh_wimp.proofs.Common.{Module, IsQueue, Chains, ArePostChains, SpellsPostIn, Off, entry_at, row_at, rows_of, row_parcels}
use Rattle.rh_defs.specs.Chain.{◌>>=◌, refuse_if, found_or, no_answer}
use Rattle.rh_defs.specs.Heap.{Segment, Placed, as_granted, base, block_at, bytes_of, fitted, new_size, resize_growing, resize_need, size_of}
use Rattle.rh_defs.specs.Pieces.{Split, lacks_pages, moved, pages_for}
use Rattle.rh_defs.specs.declared.refusal.Refusal.{Refusal}
use Rattle.rh_defs.specs.declared.refusal.Refusal.TheVariants.{BadSize, NotABlock, ExcessiveShrink, NoRoom}
use Rattle.rh_defs.specs.Module.{changed_length, module_change, module_free, module_resize}
use Rattle.rh_defs.specs.Post.{post_is_message}
use Rattle.rh_defs.proofs.BlockCalls.{module_free-there}
use Rattle.rh_defs.proofs.BlockLaws.{bytes_here, block_at-bytes}
use Rattle.rh_defs.proofs.ModuleLaws.{module_change-low, module_change-short, module_change-done, module_free-none}
use Rattle.rh_defs.proofs.ResizeLaws.{CutAlike, Moves, resize_growing-alike, resize_growing-moves, resize_need-alike}
use Rattle.rh_defs.proofs.ShapeLaws.{Alike, blank_cut, block-blank, same_heap, total-blank}
use Rattle.rh_module.specs.ModuleCalls as module_calls
use Rattle.rh_wimp.specs.QueueLaws.{GoesBeside, IsSmallModule, post_with_heap}
use Rattle.rh_wimp.specs.PostIn.{post_in}
use Rattle.rh_wimp.proofs.FrameLaws.{IsOff, block-changed, blocks-changed, claimed-beside, freed-beside}
use Rattle.rh_wimp.proofs.LinkLaws.{zero-off, none-low}
use Rattle.rh_wimp.proofs.PostCalls.{post_in-in_order, post_in-is}
use Rattle.rh_wimp.proofs.RowLaws.{row-fresh}
use Rattle.rh_wimp.proofs.SearchLaws.{one-has, rows-have}

-- ---- blocks of others
off-list : (a : ℕ) (ps : List Parcel) → list_any (λ (p : Parcel). p.block == a) ps ≡ false → Off a ps
off-list a [] e = tt
off-list a (p ∷ ps) e = elim (eqb_tells p.block a) [
  | inl u ↦ let bad : true ≡ false = sym (ap (λ t. t || list_any (λ (x : Parcel). x.block == a) ps) u.0) ∙ e in absurd cc
  | inr v ↦ (v.1, off-list a ps (sym (ap (λ t. t || list_any (λ (x : Parcel). x.block == a) ps) v.0) ∙ e))
]

-- a block that is no message's is off them all
pub off-message : (h : Heap) (q : Chains) (post : Post) (a : ℕ) → ArePostChains h q post → post_is_message a post ≡ false → IsOff a post
unfolding post_is_message
off-message h q post a s e j l = off-list a (row_parcels (row_at (rows_of post) j)) (go (list_any test (row_parcels (row_at (rows_of post) j))) refl)
  where
    test : Parcel → Bool
    test p = p.block == a

    go : (t : Bool) → list_any test (row_parcels (row_at (rows_of post) j)) ≡ t → t ≡ false
    go true f = sym (one-has test (rows_of post) j l f) ∙ rows-have test post s.recipients ∙ e
    go false f = refl

-- ---- a call beside the queue
-- The area's heap and the post's heap grant the same, and the post is spelled with the heap that its own one becomes.
pub record Beside {A : Type 0} (h : Heap) (q : Chains) (post : Post) (granted plain : Granted (Heap × A)) : Type 0 where
  pub answer : answer_of granted ≡ answer_of plain
  pub spells : ArePostChains (left_of h granted) q (post_with_heap (left_of post.heap plain) post)

module _ {A : Type 0} (h : Heap) (q : Chains) (post : Post) where
  -- both are refused
  pub both-refused : (granted plain : Granted (Heap × A)) (refusal : Refusal) → ArePostChains h q post → granted ≡ Err refusal → plain ≡ Err refusal
      → Beside h q post granted plain
  both-refused granted plain refusal s e f =
      subst (λ g. Beside h q post g plain) (sym e) (subst (Beside h q post (Err refusal)) (sym f) (record { answer = refl; spells = s }))

  -- both are granted
  pub both-granted : (granted plain : Granted (Heap × A)) (k d : Heap) (answer : A) → ArePostChains k q (post_with_heap d post) → granted ≡ Ok (k, answer)
      → plain ≡ Ok (d, answer) → Beside h q post granted plain
  both-granted granted plain k d answer s e f =
      subst (λ g. Beside h q post g plain) (sym e) (subst (Beside h q post (Ok (k, answer))) (sym f) (record { answer = refl; spells = s }))

-- a claim
pub claim-beside : (h : Heap) (q : Chains) (post : Post) (free n : ℕ) → ArePostChains h q post
    → Beside h q post (module_claim free n h) (module_claim free n post.heap)
claim-beside h q post free n s = go (module_claim free n h) refl (module_claim free n post.heap) refl (module_claim-alike free n h post.heap s.linked.shape)
  where
    go : (g : Granted (Heap × ℕ)) → module_claim free n h ≡ g → (p : Granted (Heap × ℕ)) → module_claim free n post.heap ≡ p → Alike g p
        → Beside h q post (module_claim free n h) (module_claim free n post.heap)
    go (Ok x) e (Ok y) f a = let w = claimed-beside h q post free n x s e in both-granted h q post _ _ x.0 w.plain x.1 w.spells e w.granted
    go (Ok x) e (Err r) f a = absurd a
    go (Err r) e (Ok y) f a = absurd a
    go (Err r) e (Err t) f a = both-refused h q post _ _ r s e (f ∙ ap (λ z. Err z) (sym a))

-- no block begins there
gone-nowhere : (a : ℕ) (h : Heap) → block_bytes a h ≡ None → module_free a h ≡ Err NotABlock
gone-nowhere a h e = go (block_at a h) refl (block_at-bytes a h)
  where
    go : (o : Option (Split Segment)) → block_at a h ≡ o → bytes_here o ≡ block_bytes a h → module_free a h ≡ Err NotABlock
    go None f b = module_free-none a h f
    go (Some s) f b = let bad = b ∙ e in absurd cc

-- a block of others is freed
pub free-beside : (h : Heap) (q : Chains) (post : Post) (a : ℕ) → ArePostChains h q post → IsOff a post
    → Beside h q post (no_answer (module_free a h)) (no_answer (module_free a post.heap))
free-beside h q post a s off = go (block_bytes a h) refl
  where
    go : (o : Option (List ℕ)) → block_bytes a h ≡ o → Beside h q post (no_answer (module_free a h)) (no_answer (module_free a post.heap))
    go None e = both-refused h q post _ _ NotABlock s (ap (λ g. no_answer g) (gone-nowhere a h e))
        (ap (λ g. no_answer g) (gone-nowhere a post.heap (sym (s.linked.others a off) ∙ e)))
    go (Some bs) e =
        both-granted h q post _ _ (release_block a h) (release_block a post.heap) tt (freed-beside h q post a s off)
        (ap (λ g. no_answer g) (module_free-there a h bs e)) (ap (λ g. no_answer g) (module_free-there a post.heap bs (sym (s.linked.others a off) ∙ e)))

-- ---- a resize
cut_of : (s c : Split Segment) → ◌≡◌ {A = Option (Split Segment)} (Some s) (Some c) → s ≡ c
cut_of s c e = cc

bytes_of_cut : (bs cs : List ℕ) → ◌≡◌ {A = Option (List ℕ)} (Some bs) (Some cs) → bs ≡ cs
bytes_of_cut bs cs e = cc

-- a block of others is at the same cut in both heaps
cuts-alike : (h d : Heap) (a : ℕ) (s c : Split Segment) → SameShape h d → block_bytes a h ≡ block_bytes a d → block_at a h ≡ Some s → block_at a d ≡ Some c
    → CutAlike h d s c
cuts-alike h d a s c shape same e f = record {
  shape = shape;
  cut = cut_of (blank_cut s) (blank_cut c)
      (ap (option_map blank_cut) (sym e) ∙ sym (block-blank a 16 h.segments) ∙ ap (λ (k : Heap). block_at a k) (same_heap h d shape)
      ∙ block-blank a 16 d.segments ∙ ap (option_map blank_cut) f);
  bytes = bytes_of_cut (bytes_of s.here) (bytes_of c.here) (ap bytes_here (sym e) ∙ block_at-bytes a h ∙ same ∙ sym (block_at-bytes a d) ∙ ap bytes_here f);
}

-- a block of others is resized in both heaps
resized-beside : (h : Heap) (q : Chains) (post : Post) (a n : ℕ) (s c : Split Segment) → ArePostChains h q post → IsOff a post → block_at a h ≡ Some s
    → block_at a post.heap ≡ Some c → CutAlike h post.heap s c → ArePostChains (resize_growing n s h).heap q
    (post_with_heap (resize_growing n c post.heap).heap post)
resized-beside h q post a n s c w off e f alike =
    let d = post.heap in
    let k = resize_growing n s h in
    let l = resize_growing n c d in
    let p = resize_growing-alike n h d s c alike in
    let x = resize_growing-moves a n s h e in
    let y = subst (Moves a (fitted (block_room n) (bytes_of c.here)) d l.heap) (sym p.address) (resize_growing-moves a n c d f) in
    let bytes : fitted (block_room n) (bytes_of s.here) ≡ fitted (block_room n) (bytes_of c.here) = ap (fitted (block_room n)) alike.bytes in
    let here : block_bytes k.address k.heap ≡ block_bytes k.address l.heap = x.here ∙ ap Some bytes ∙ sym y.here in
    let off_there : IsOff k.address post = λ j b. elim (cases_eq a k.address) [
      | inl z ↦ subst (λ m. Off m (row_parcels (row_at (rows_of post) j))) z (off j b)
      | inr ne ↦ row-fresh h (entry_at q.entries j) (row_at (rows_of post) j) k.address (x.fresh ne) (w.rows.each j b)
    ] in
    let there : block_bytes a k.heap ≡ block_bytes a l.heap = elim (cases_eq a k.address) [
      | inl z ↦ subst (λ m. block_bytes m k.heap ≡ block_bytes m l.heap) (sym z) here
      | inr ne ↦ x.gone ne ∙ sym (y.gone ne)
    ] in
    blocks-changed h k.heap q post l.heap a k.address w off off_there p.shape x.others y.others there here

-- a resize of a block of others
pub resize-beside : (h : Heap) (q : Chains) (post : Post) (free a : ℕ) (delta : ℤ) → ArePostChains h q post → IsOff a post
    → Beside h q post (module_resize free a delta h) (module_resize free a delta post.heap)
unfolding module_resize ◌>>=◌ refuse_if found_or
resize-beside h q post free a delta w off = go (block_at a h) refl (block_at a d) refl
  where
    d : Heap
    d = post.heap

    same : block_bytes a h ≡ block_bytes a d
    same = w.linked.others a off

    granted : Heap → Split Segment → Granted (Heap × ℕ)
    granted g s = refuse_if (new_size delta s == 0) BadSize
        >>= (λ x. refuse_if (lacks_pages free (resize_need (new_size delta s) s g)) NoRoom
        >>= (λ y. Ok (as_granted (resize_growing (new_size delta s) s g))))

    found : (g : Heap) (s : Split Segment) → block_at a g ≡ Some s → module_resize free a delta g ≡ granted g s
    found g s e = ap (λ o. found_or o NotABlock >>= granted g) e

    missing : (g : Heap) → block_at a g ≡ None → module_resize free a delta g ≡ Err NotABlock
    missing g e = ap (λ o. found_or o NotABlock >>= granted g) e

    chosen : (t u : Bool) (k l : Placed) → k.address ≡ l.address → ArePostChains k.heap q (post_with_heap l.heap post)
        → Beside h q post (refuse_if t BadSize >>= (λ x. refuse_if u NoRoom >>= (λ y. Ok (as_granted k))))
        (refuse_if t BadSize >>= (λ x. refuse_if u NoRoom >>= (λ y. Ok (as_granted l))))
    chosen true u k l e v = record { answer = refl; spells = w }
    chosen false true k l e v = record { answer = refl; spells = w }
    chosen false false k l e v = record { answer = ap (λ x. Ok x) e; spells = v }

    both : (s c : Split Segment) → block_at a h ≡ Some s → block_at a d ≡ Some c → Beside h q post (granted h s) (granted d c)
    both s c e f =
        let alike = cuts-alike h d a s c w.linked.shape same e f in
        let size : new_size delta s ≡ new_size delta c = ap (λ l. moved (length l) delta) alike.bytes in
        let n = new_size delta s in
        subst (λ m. Beside h q post (granted h s) (refuse_if (m == 0) BadSize
        >>= (λ x. refuse_if (lacks_pages free (resize_need m c d)) NoRoom >>= (λ y. Ok (as_granted (resize_growing m c d)))))) size
        (subst (λ m. Beside h q post (granted h s) (refuse_if (n == 0) BadSize
        >>= (λ x. refuse_if (lacks_pages free m) NoRoom >>= (λ y. Ok (as_granted (resize_growing n c d)))))) (resize_need-alike n h d s c alike)
        (chosen (n == 0) (lacks_pages free (resize_need n s h)) (resize_growing n s h) (resize_growing n c d) (resize_growing-alike n h d s c alike).address
        (resized-beside h q post a n s c w off e f alike)))

    go : (o : Option (Split Segment)) → block_at a h ≡ o → (p : Option (Split Segment)) → block_at a d ≡ p
        → Beside h q post (module_resize free a delta h) (module_resize free a delta d)
    go None e None f = both-refused h q post _ _ NotABlock w (missing h e) (missing d f)
    go (Some s) e (Some c) f = subst (λ g. Beside h q post g (module_resize free a delta d)) (sym (found h s e))
        (subst (Beside h q post (granted h s)) (sym (found d c f)) (both s c e f))
    go None e (Some c) f = absurd (let bad : None ≡ Some (bytes_of c.here) = ap bytes_here (sym e) ∙ block_at-bytes a h ∙ same ∙ sym (block_at-bytes a d)
        ∙ ap bytes_here f in cc)
    go (Some s) e None f = absurd (let bad : Some (bytes_of s.here) ≡ None = ap bytes_here (sym e) ∙ block_at-bytes a h ∙ same ∙ sym (block_at-bytes a d)
        ∙ ap bytes_here f in cc)

-- ---- the area's end
abbrev pub ended : ℕ → Heap → Heap
ended n h = record h { end = n }

-- the ends move alike
pub ended-beside : (h : Heap) (q : Chains) (post : Post) (n m : ℕ) → n ≡ m → ArePostChains h q post → ArePostChains (ended n h) q
    (post_with_heap (ended m post.heap) post)
ended-beside h q post n m e s =
    block-changed h (ended n h) q post (ended m post.heap) 0 s (λ j l. zero-off post.heap (row_parcels (row_at (rows_of post) j)) (s.linked.lie j l))
    (record { blank = s.linked.shape.blank; end = e }) (λ b ne. refl) (λ b ne. refl) (none-low (ended n h) (ended m post.heap) 0 (omega arith))

same-base : (h d : Heap) → SameShape h d → base h ≡ base d
same-base h d s = omega (arith, total-blank h.segments, total-blank d.segments, ap (λ l. total size_of l) s.blank)

-- a change of the area's length
pub change-beside : (h : Heap) (q : Chains) (post : Post) (free : ℕ) (delta : ℤ) → ArePostChains h q post
    → Beside h q post (module_change free delta h) (module_change free delta post.heap)
change-beside h q post free delta s =
    let d = post.heap in
    let e : changed_length h.end delta ≡ changed_length d.end delta = ap (λ n. changed_length n delta) s.linked.shape.end in
    let b = same-base h d s.linked.shape in
    let more : changed_length h.end delta - h.end ≡ changed_length d.end delta - d.end = ap (λ n. changed_length n delta - n) s.linked.shape.end in
    elim (cases_lt (changed_length h.end delta) (base h)) [
      | inl l ↦ both-refused h q post _ _ ExcessiveShrink s (module_change-low free delta h l)
          (module_change-low free delta d (subst (λ n. n < base d) e (subst (λ n. changed_length h.end delta < n) b l)))
      | inr g ↦
          let g' = subst (λ n. base d ≤ n) e (subst (λ n. n ≤ changed_length h.end delta) b g) in
          elim (cases_lt free (pages_for (changed_length h.end delta - h.end))) [
            | inl l ↦ both-refused h q post _ _ NoRoom s (module_change-short free delta h g l)
                (module_change-short free delta d g' (subst (λ n. free < pages_for n) more l))
            | inr r ↦ both-granted h q post _ _ (ended (changed_length h.end delta) h) (ended (changed_length d.end delta) d) _
                (ended-beside h q post (changed_length h.end delta) (changed_length d.end delta) e s)
                (module_change-done free delta h g r) (module_change-done free delta d g' (subst (λ n. pages_for n ≤ free) more r))
          ]
    ]

-- ---- in the module area
module _ {A : Type 0} (m n : Memory) (module_area : Module) (q : Chains) (granted : Granted (Heap × A)) (result : Granted A)
    (l : module_calls.LeavesModule m n module_area granted result) where
  pub answers-beside : (post : Post) (plain : Granted (Heap × A)) → Beside (module_heap_in m module_area) q post granted plain → result ≡ answer_of plain
  answers-beside post plain b = l.answer ∙ b.answer

  pub spells-beside : (post : Post) (plain : Granted (Heap × A)) → Beside (module_heap_in m module_area) q post granted plain
      → SpellsPostIn n module_area q (post_with_heap (left_of post.heap plain) post)
  spells-beside post plain b = subst (λ h. ArePostChains h q (post_with_heap (left_of post.heap plain) post)) (sym l.heap) b.spells

  -- it still is a queue
  pub queue-beside : (post : Post) (plain : Granted (Heap × A)) → Beside (module_heap_in m module_area) q post granted plain → IsQueue n module_area q
  queue-beside post plain b = record { area = l.still; post = post_with_heap (left_of post.heap plain) post; spells = spells-beside post plain b }

  -- the post that is read has the heap that its own one becomes
  pub post_in-calls : (plain : Granted (Heap × A)) → IsSmallModule m module_area → IsSmallModule n module_area → IsQueue m module_area q → Beside
      (module_heap_in m module_area) q
      (post_in m module_area q) granted plain
      → post_in n module_area q ≡ post_with_heap (left_of (post_in m module_area q).heap plain) (post_in m module_area q)
  post_in-calls plain small smaller s b =
      let post = post_in m module_area q in
      post_in-is n module_area q (post_with_heap (left_of post.heap plain) post) smaller l.still (spells-beside post plain b)
      ∙ sym (ap (post_with_heap (left_of post.heap plain)) (post_in-in_order m module_area q small s))

-- a call that the post's heap grants as the area's does
goes-beside : {A : Type 0} (allowed : Post → Type 0) (call : ℕ → Heap → Granted (Heap × A))
    → ((h : Heap) (q : Chains) (post : Post) (free : ℕ) → allowed post → ArePostChains h q post → Beside h q post (call free h) (call free post.heap))
    → GoesBeside allowed call
goes-beside allowed call f m n module_area q post result a s l =
    let b = f (module_heap_in m module_area) q post m.free a s in (
      answers-beside m n module_area q (call m.free (module_heap_in m module_area)) result l post (call m.free post.heap) b,
      spells-beside m n module_area q (call m.free (module_heap_in m module_area)) result l post (call m.free post.heap) b,
    )

pub claims-beside : (n : ℕ) → GoesBeside (λ post. Unit {0}) (λ free h. module_claim free n h)
claims-beside n = goes-beside (λ post. Unit {0}) (λ free h. module_claim free n h) (λ h q post free a s. claim-beside h q post free n s)

pub frees-beside : (a : ℕ) → GoesBeside (λ post. post_is_message a post ≡ false) (λ free h. no_answer (module_free a h))
frees-beside a = goes-beside (λ post. post_is_message a post ≡ false) (λ free h. no_answer (module_free a h))
    (λ h q post free e s. free-beside h q post a s (off-message h q post a s e))

pub resizes-beside : (a : ℕ) (delta : ℤ) → GoesBeside (λ post. post_is_message a post ≡ false) (λ free h. module_resize free a delta h)
resizes-beside a delta = goes-beside (λ post. post_is_message a post ≡ false) (λ free h. module_resize free a delta h)
    (λ h q post free e s. resize-beside h q post free a delta s (off-message h q post a s e))

pub changes-beside : (delta : ℤ) → GoesBeside (λ post. Unit {0}) (λ free h. module_change free delta h)
changes-beside delta = goes-beside (λ post. Unit {0}) (λ free h. module_change free delta h) (λ h q post free a s. change-beside h q post free delta s)
