-- What a lens tells of pieces: the items that this makes.
use Rattle.rh_pictures.proofs.Common.{◌≡◌, ℕ, zero, suc, ◌+◌, ◌-◌, ◌*◌, ◌^◌, ◌<◌, ◌≤◌, refl, ap, ap₂, sym, subst, ◌∙◌, arith, List, [], ◌∷◌, length, take}
use Rattle.rh_pictures.proofs.Common.{Option, Some, None}
use Rattle.rh_pictures.proofs.Common.{◌==◌, find, min, slice_get, AllByRecursion, BlockItem, Desk, IsDesk, Parcel, Piece, Scene, Task, flex_start, heap_start}
use Rattle.rh_pictures.proofs.Common.{message_of_scene, task-slot, Heap, Text, SeesBlock, heap_seen, option_map}
use Rattle.std.proofs.lemmas.List.{take_min}
use Rattle.rh_defs.specs.Heap.{block_at}
use Rattle.rh_defs.specs.Slot.{Flex, HaveAnchors, heap_block_at, slot_start}
use Rattle.rh_figure.specs.Cards.{use_of_block, use_of_buffer}
use Rattle.rh_figure.specs.Layout.{heap_pieces, module_legend, module_pieces, slot_pieces}
use Rattle.rh_figure.specs.declared.piece.Kind.{Kind}
use Rattle.rh_figure.specs.declared.piece.Kind.TheVariants.{AnchorWords, Claimed, Descriptor, FlexBlock, FreeHole, FreeTop, MoreSegments, Posted, Unused}
use Rattle.rh_lens.specs.Items.{Item, Lines, bare, bytes_of_flex, bytes_of_found, message_lines, module_item, module_item_of, no_lines, posted_item}
use Rattle.rh_lens.specs.Items.{slot_item_of}
use Rattle.rh_lens.specs.ToldInside.{IsTold, lines_of}
use Rattle.rh_lens.specs.declared.contents.Inside.{Inside}
use Rattle.rh_map.specs.MapCards.{use_text}
use Rattle.rh_scene.proofs.Heaps.{seen as seen-heap, task-length}
use Rattle.rh_scene.specs.Seen.{HasFlex}
use Rattle.rh_scene.specs.declared.sight.HeapOf.TheVariants as heap_of
use Rattle.rh_scene.specs.declared.sight.TaskSight.{TaskSight}
use Rattle.rh_pictures.specs.LensContents.{IsModulePiece, IsSlotPiece, slot_item_in}
use Rattle.rh_pictures.proofs.LensPieces.{FlexOf, ModuleClaimed, SlotClaimed, at-of, claimed-of, flex-of, found-block, found-flex, module-claimed}
use Rattle.rh_pictures.proofs.SlotLemmas.{EndsBy, heap-ends, slot-ends}

abbrev pub lines_with : Text → Text → Text → Lines
lines_with first second third = record { first = first; second = second; third = third }

-- ---- an item is of its piece

of-kind : (t : Task) (p : Piece) (k : Kind) → (slot_item_of t p k).piece ≡ p
of-kind t p AnchorWords = refl
of-kind t p Descriptor = refl
of-kind t p (Claimed n) = refl
of-kind t p (Posted ref) = refl
of-kind t p FreeHole = refl
of-kind t p (MoreSegments n) = refl
of-kind t p FreeTop = refl
of-kind t p (FlexBlock k n) = refl
of-kind t p Unused = refl

pub slot-item-of : (o : Option Task) (p : Piece) → (slot_item_in o p).piece ≡ p
slot-item-of None p = refl
slot-item-of (Some t) p = of-kind t p p.kind

posted-of : (x : Scene) (p : Piece) (o : Option Parcel) → (posted_item x p o).piece ≡ p
posted-of x p None = refl
posted-of x p (Some m) = refl

of-module-kind : (x : Scene) (p : Piece) (k : Kind) → (module_item_of x p k).piece ≡ p
of-module-kind x p AnchorWords = refl
of-module-kind x p Descriptor = refl
of-module-kind x p (Claimed n) = refl
of-module-kind x p (Posted ref) = posted-of x p (message_of_scene x (p.at + 4))
of-module-kind x p FreeHole = refl
of-module-kind x p (MoreSegments n) = refl
of-module-kind x p FreeTop = refl
of-module-kind x p (FlexBlock k n) = refl
of-module-kind x p Unused = refl

pub module-item-of : (x : Scene) (p : Piece) → (module_item x p).piece ≡ p
module-item-of x p = of-module-kind x p p.kind

-- ---- pieces of a slot

anchor-low : (blocks : List Flex) (i : ℕ) (b : Flex) → HaveAnchors blocks → slice_get blocks i ≡ Some b → b.anchor < 64
anchor-low [] i b all e = absurd (cc)
anchor-low (c ∷ blocks) zero b all e = let same : c ≡ b = cc in subst (λ (z : Flex). z.anchor < 64) same all.0
anchor-low (c ∷ blocks) (suc i) b all e = anchor-low blocks i b all.2 e

module _ {d : Desk} (is : IsDesk d) {i : ℕ} {seen : TaskSight} {p : Piece} (r : IsSlotPiece d i seen p) where
  -- it lies within the pool's pages
  pub piece-low : p.at + p.size ≤ 4194304
  piece-low =
      let fits = (task-slot is i r.task r.is).heap.fits in
      at-of (EndsBy 4194304) (slot_pieces r.scene r.task.handle r.task.slot) r.place p
      (slot-ends 4194304 r.scene r.task.handle r.task.slot fits (task-length is i r.task r.is).1) r.stands

  -- the flex block that it stands for
  pub flex-piece : (k n : ℕ) → p.kind ≡ FlexBlock k n → FlexOf (flex_start r.task.slot) r.task.slot.blocks p.at k n
  flex-piece k n kind = flex-of r.scene r.task.handle r.task.slot r.place p k n r.stands kind

  pub flex-has : (k n : ℕ) (e : p.kind ≡ FlexBlock k n) (item : BlockItem) → item ≡ record { anchor = k; address = slot_start + p.at + 8; size = n }
      → HasFlex (slice_get d.tasks i) item (flex-piece k n e).block.bytes
  flex-has k n e item same =
      let f = flex-piece k n e in
      let P : BlockItem → Type 0 = λ z. HasFlex (slice_get d.tasks i) z f.block.bytes in
      subst P (sym same)
      (record { task = r.task; is = r.is; place = f.number; listed = f.listed; block = f.block; stands = f.stands; bytes_are = refl })

  -- its anchor is one of 64
  pub flex-low : (k n : ℕ) → p.kind ≡ FlexBlock k n → k < 64
  flex-low k n e =
      let f = flex-piece k n e in
      let low = anchor-low r.task.slot.blocks f.number f.block (task-slot is i r.task r.is).anchors f.stands in
      omega (arith, f.anchor)

  -- the block of the C heap that it stands for
  pub claimed-piece : (n : ℕ) → p.kind ≡ Claimed n → SlotClaimed r.task.slot p.at n
  claimed-piece n kind = claimed-of r.scene r.task.handle r.task.slot r.place p n r.stands kind

  pub claimed-sees : (n : ℕ) (e : p.kind ≡ Claimed n) → SeesBlock (heap_seen (heap_of.Task i) d) (p.at - 256) (claimed-piece n e).bytes
  claimed-sees n e =
      let f = claimed-piece n e in
      let P : Option Heap → Type 0 = λ o. SeesBlock o (p.at - 256) f.bytes in
      subst P (sym (ap (option_map (λ (t : Task). t.slot.heap)) r.is)) f.block

  -- what is told of it is its item

  item-by : (k : Kind) → p.kind ≡ k → slot_item_in (slice_get d.tasks i) p ≡ slot_item_of r.task p k
  item-by k e = ap (λ o. slot_item_in o p) r.is ∙ ap (slot_item_of r.task p) e

  pub told-flex : (k n : ℕ) (e : p.kind ≡ FlexBlock k n) (told : Inside) → told.bytes.items ≡ take 256 (flex-piece k n e).block.bytes
      → use_text told.usage ≡ use_of_block r.task k → lines_of told.message ≡ no_lines → IsTold told p (slot_item_in (slice_get d.tasks i) p)
  told-flex k n e told bytes used none =
      let f = flex-piece k n e in
      let found = found-flex r.task.slot.blocks f.number f.block (task-slot is i r.task r.is).anchors f.stands in
      let there : bytes_of_flex (find (λ (z : Flex). z.anchor == k) r.task.slot.blocks) ≡ f.block.bytes =
      ap (λ j. bytes_of_flex (find (λ (z : Flex). z.anchor == j) r.task.slot.blocks)) (sym f.anchor) ∙ found in
      subst (IsTold told p) (sym (item-by (FlexBlock k n) e))
      (record { piece = refl; bytes = ap (take 256) there ∙ sym bytes; used_by = sym used; message = sym none })

  pub told-claimed : (n : ℕ) (e : p.kind ≡ Claimed n) (told : Inside) → told.bytes.items ≡ take 256 (claimed-piece n e).bytes
      → use_text told.usage ≡ use_of_buffer r.task (slot_start + p.at + 4) → lines_of told.message ≡ no_lines
      → IsTold told p (slot_item_in (slice_get d.tasks i) p)
  told-claimed n e told bytes used none =
      let f = claimed-piece n e in
      let above = f.above in
      let same : slot_start + p.at + 4 - heap_start ≡ p.at - 256 + 4 = omega arith in
      let there : bytes_of_found (heap_block_at (slot_start + p.at + 4) r.task.slot) ≡ f.bytes =
      ap (λ a. bytes_of_found (block_at a r.task.slot.heap)) same ∙ found-block r.task.slot.heap (p.at - 256) f.bytes f.block in
      subst (IsTold told p) (sym (item-by (Claimed n) e))
      (record { piece = refl; bytes = ap (take 256) there ∙ sym bytes; used_by = sym used; message = sym none })

-- ---- pieces that stand for no block

-- an item of a kind that nothing is told of
other-kind : (t : Task) (p : Piece) (k : Kind) → ((a n : ℕ) → k ≡ FlexBlock a n → ⊥) → ((n : ℕ) → k ≡ Claimed n → ⊥) → slot_item_of t p k ≡ bare p
other-kind t p AnchorWords f g = refl
other-kind t p Descriptor f g = refl
other-kind t p (Claimed n) f g = absurd (g n refl)
other-kind t p (Posted ref) f g = refl
other-kind t p FreeHole f g = refl
other-kind t p (MoreSegments n) f g = refl
other-kind t p FreeTop f g = refl
other-kind t p (FlexBlock a n) f g = absurd (f a n refl)
other-kind t p Unused f g = refl

other-module-kind : (x : Scene) (p : Piece) (k : Kind) → ((ref : ℕ) → k ≡ Posted ref → ⊥) → ((n : ℕ) → k ≡ Claimed n → ⊥) → module_item_of x p k ≡ bare p
other-module-kind x p AnchorWords f g = refl
other-module-kind x p Descriptor f g = refl
other-module-kind x p (Claimed n) f g = absurd (g n refl)
other-module-kind x p (Posted ref) f g = absurd (f ref refl)
other-module-kind x p FreeHole f g = refl
other-module-kind x p (MoreSegments n) f g = refl
other-module-kind x p FreeTop f g = refl
other-module-kind x p (FlexBlock a n) f g = refl
other-module-kind x p Unused f g = refl

-- a piece of which no more is told
pub told-bare : {d : Desk} {i : ℕ} {seen : TaskSight} {p : Piece} → IsSlotPiece d i seen p → (told : Inside) → ((a n : ℕ) → p.kind ≡ FlexBlock a n → ⊥)
    → ((n : ℕ) → p.kind ≡ Claimed n → ⊥) → IsTold told p (bare p) → IsTold told p (slot_item_in (slice_get d.tasks i) p)
told-bare {d} {i} {seen} {p} r told f g is = subst (IsTold told p) (sym (ap (λ o. slot_item_in o p) r.is ∙ other-kind r.task p p.kind f g)) is

pub told-bare-module : (x : Scene) (p : Piece) (told : Inside) → ((ref : ℕ) → p.kind ≡ Posted ref → ⊥) → ((n : ℕ) → p.kind ≡ Claimed n → ⊥)
    → IsTold told p (bare p) → IsTold told p (module_item x p)
told-bare-module x p told f g is = subst (IsTold told p) (sym (other-module-kind x p p.kind f g)) is

-- ---- pieces of the module area

-- each lies within the pool's pages
pub module-drawn : {d : Desk} → IsDesk d → (x : Scene) → x.desk.post.heap ≡ d.post.heap → AllByRecursion (EndsBy 4194304) (module_pieces x)
module-drawn {d} is x same =
    let s = seen-heap is heap_of.Module d.post.heap refl in
    let few = s.few in
    let P : Heap → Type 0 = λ h. AllByRecursion (EndsBy 4194304) (heap_pieces (module_legend x) 0 h) in
    subst P (sym same) (heap-ends 4194304 (module_legend x) 0 d.post.heap s.is.fits (omega arith))

module _ (x : Scene) (p : Piece) where
  pub module-low : {d : Desk} → IsDesk d → x.desk.post.heap ≡ d.post.heap → IsModulePiece x p → p.at + p.size ≤ 4194304
  module-low is same r = at-of (EndsBy 4194304) (module_pieces x) r.place p (module-drawn is x same) r.stands

  pub claimed-module : (n : ℕ) → IsModulePiece x p → p.kind ≡ Claimed n → ModuleClaimed x p.at n
  claimed-module n r kind = module-claimed x r.place p n r.stands kind

  pub told-module-block : (n : ℕ) (f : ModuleClaimed x p.at n) → p.kind ≡ Claimed n → (told : Inside) → told.bytes.items ≡ take 256 f.bytes
      → [] ≡ use_text told.usage → no_lines ≡ lines_of told.message → IsTold told p (module_item x p)
  told-module-block n f kind told bytes used none =
      let same : 25165824 + p.at + 4 - 25165824 ≡ p.at + 4 = omega arith in
      let there : bytes_of_found (block_at (25165824 + p.at + 4 - 25165824) x.desk.post.heap) ≡ f.bytes =
      ap (λ a. bytes_of_found (block_at a x.desk.post.heap)) same ∙ found-block x.desk.post.heap p.at f.bytes f.block in
      subst (IsTold told p) (sym (ap (module_item_of x p) kind))
      (record { piece = refl; bytes = ap (take 256) there ∙ sym bytes; used_by = used; message = none })

  -- a message, by what is listed
  module _ (ref : ℕ) (kind : p.kind ≡ Posted ref) where
    pub told-message : (m : Parcel) (told : Inside) → message_of_scene x (p.at + 4) ≡ Some m → [] ≡ told.bytes.items → [] ≡ use_text told.usage
        → lines_of told.message ≡ message_lines x m → IsTold told p (module_item x p)
    told-message m told e bytes used words =
        subst (IsTold told p) (sym (ap (module_item_of x p) kind ∙ ap (posted_item x p) e))
        (record { piece = refl; bytes = bytes; used_by = used; message = sym words })

    pub told-no-message : (told : Inside) → message_of_scene x (p.at + 4) ≡ None → IsTold told p (bare p) → IsTold told p (module_item x p)
    told-no-message told e is = subst (IsTold told p) (sym (ap (module_item_of x p) kind ∙ ap (posted_item x p) e)) is

-- the lines of a message, one by one
pub lines-same : {a b c e f g : Text} → a ≡ b → c ≡ e → f ≡ g → lines_with a c f ≡ lines_with b e g
lines-same {a} {b} {c} {e} {f} {g} i j k = ap₂ (λ y z. lines_with y z f) i j ∙ ap (lines_with b e) k

-- the first bytes of a block are those that are told
pub front-told : (n m : ℕ) (bytes : List ℕ) → length bytes ≡ n → m ≡ min n 256 → take m bytes ≡ take 256 bytes
front-told n m bytes long e =
    let same : m ≡ min 256 (length bytes) = omega arith in
    ap (λ k. take k bytes) same ∙ take_min 256 bytes
