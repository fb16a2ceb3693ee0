-- What the lens of a slot, and of the module area, is drawn from.
use Rattle.rh_pictures.proofs.Common.{◌≡◌, ℕ, ◌+◌, ◌-◌, ◌*◌, ◌<◌, ◌≤◌, refl, ap, ap₂, sym, subst, ◌∙◌, arith, List, length, take, drop, map, Option, Some}
use Rattle.rh_pictures.proofs.Common.{slice_get, AllByRecursion, BlockItem, Desk, IsDesk, Piece, Scene, SlotOf, Task, Text, base, block_items, share_in}
use Rattle.rh_pictures.proofs.Common.{task_pages}
use Rattle.rh_pictures.proofs.Common.{Heap, IsShared, IsTaskSeen, few-blocks, length-append, length-drop, take_all, module_pages, task-slot, [], ◌∷◌, ◌++◌}
use Rattle.rh_defs.specs.Slot.{slot_length}
use Rattle.rh_figure.specs.Layout.{flex_pieces, heap_pieces, module_legend, module_pieces, slot_legend, slot_pieces}
use Rattle.rh_figure.specs.Share.{AreaOf}
use Rattle.rh_lens.specs.Anchors.{shown_anchors}
use Rattle.rh_lens.specs.declared.anchors.ShownAnchor.{ShownAnchor}
use Rattle.rh_lens.specs.Items.{Item, module_item, seen, unused_piece}
use Rattle.rh_lens.specs.Lens.{AreaLook}
use Rattle.rh_lens.specs.LensBands.{SlotLook, slot_look}
use Rattle.rh_lens.specs.PlacedSpots.{IsTellable}
use Rattle.rh_lens.specs.Views.{CanBeStripped}
use Rattle.rh_sheet.specs.Owners.{area_class, task_class}
use Rattle.rh_defs.specs.Desk.{module_area}
use Rattle.rh_scene.proofs.Heaps.{task-length}
use Rattle.rh_scene.proofs.SlotPieces.{heap-few}
use Rattle.rh_scene.specs.declared.sight.PagesOf.TheVariants as pages
use Rattle.rh_scene.specs.declared.sight.TaskSight.{TaskSight}
use Rattle.rh_pictures.specs.LensContents.{IsModulePiece, IsSlotPiece, slot_item_in}
use Rattle.rh_pictures.proofs.LensPieces.{all-behind, all-front, anchors_piece, at-of, each-of, flex-many, flex_band, heap_band, lower-band, slot-joined}
use Rattle.rh_pictures.proofs.LensPieces.{upper-band}
use Rattle.rh_pictures.proofs.LensTells.{module-drawn, piece-low}
use Rattle.rh_pictures.proofs.PageLemmas.{owned-few, owned-fixed, owned-slot, seen-fixed, seen-slot}
use Rattle.rh_pictures.proofs.SlotLemmas.{EndsBy, heap-ends, slot-ends}

-- ---- a slot

abbrev pub look_with : Text → Text → List ℕ → List Piece → List Item → List Item → List ShownAnchor → SlotLook
look_with name tint pages pieces heap flex anchors =
    record { name = name; tint = tint; pages = pages; pieces = pieces; heap = heap; flex = flex; anchors = anchors }

look-same : {a b : Text} {h k : ℕ} {p q : List ℕ} {c e : List Piece} {f g m n : List Item} {r s : List ShownAnchor} → a ≡ b → h ≡ k → p ≡ q → c ≡ e → f ≡ g
    → m ≡ n → r ≡ s → look_with a (task_class h) p c f m r ≡ look_with b (task_class k) q e g n s
look-same {a} {b} {h} {k} {p} {q} {c} {e} {f} {g} {m} {n} {r} {s} i j l o t u v =
    ap₂ (λ x y. look_with x (task_class y) p c f m r) i j
    ∙ (ap₂ (λ x y. look_with b (task_class k) x y f m r) l o
    ∙ (ap₂ (λ x y. look_with b (task_class k) q e x y r) t u
    ∙ ap (look_with b (task_class k) q e g n) v))

module _ {d : Desk} (is : IsDesk d) (x : Scene) (i : ℕ) {t : Task} (there : slice_get d.tasks i ≡ Some t) where
  -- each piece of it can be told and drawn
  pub slot-tellable : {sight : TaskSight} → IsTaskSeen sight t → AllByRecursion (IsTellable (IsSlotPiece d i sight)) (slot_pieces x t.handle t.slot)
  slot-tellable {sight} so =
      each-of (IsTellable (IsSlotPiece d i sight)) (slot_pieces x t.handle t.slot) (λ j p at.
      let r : IsSlotPiece d i sight p = record { task = t; is = there; so = so; scene = x; place = j; stands = at } in
      let low = piece-low is r in
      (r, omega arith))

  -- they lie in its pages
  pub slot-stripped : (numbers found : List ℕ) (shared : IsShared (share_in numbers d) d) → length numbers ≡ d.pool
      → found ≡ (share_in numbers d).pages_of (SlotOf t.handle) → CanBeStripped found (slot_pieces x t.handle t.slot)
  slot-stripped numbers found shared all e =
      let many : length found ≡ task_pages t = ap length e ∙ owned-slot is numbers shared i t there in
      let room = task-length is i t there in
      let few = owned-few is numbers shared (pages.Slot i) (SlotOf t.handle) (seen-slot is i t there) all in
      let fits = (task-slot is i t there).heap.fits in
      record {
        some = omega (arith, room.0, many);
        few = omega (arith, few, ap length e);
        within = slot-ends (4096 * length found) x t.handle t.slot fits (omega (arith, many));
      }

  -- the pieces of its bands, by where the upper one begins
  pub slot-low : {pieces : List Piece} {n above : ℕ} → pieces ≡ slot_pieces x t.handle t.slot → n ≡ length (block_items t.slot) → above ≡ length pieces - n - 1
      → take (above - 1) (drop 1 pieces) ≡ heap_band x t.handle t.slot
  slot-low {pieces} {n} {above} ep en e =
      ap (λ ps. take (above - 1) (drop 1 ps)) ep ∙ lower-band x t.handle t.slot above (e ∙ ap₂ (λ ps k. length ps - k - 1) ep en)

  pub slot-high : {pieces : List Piece} {n above : ℕ} → pieces ≡ slot_pieces x t.handle t.slot → n ≡ length (block_items t.slot) → above ≡ length pieces - n - 1
      → take (length pieces - above) (drop above pieces) ≡ flex_band x t.handle t.slot
  slot-high {pieces} {n} {above} ep en e =
      take_all (length pieces - above) (drop above pieces) (omega (arith, length-drop above pieces))
      ∙ (ap (drop above) ep ∙ upper-band x t.handle t.slot above (e ∙ ap₂ (λ ps k. length ps - k - 1) ep en))

  -- each piece of them can be told
  pub low-tellable : {sight : TaskSight} → IsTaskSeen sight t → AllByRecursion (IsTellable (IsSlotPiece d i sight)) (heap_band x t.handle t.slot)
  low-tellable {sight} so =
      let Q = IsTellable (IsSlotPiece d i sight) in
      let all = subst (AllByRecursion Q) (slot-joined x t.handle t.slot) (slot-tellable so) in
      (all-front Q (anchors_piece x t.handle t.slot ∷ heap_band x t.handle t.slot) (flex_band x t.handle t.slot) all).1

  pub high-tellable : {sight : TaskSight} → IsTaskSeen sight t → AllByRecursion (IsTellable (IsSlotPiece d i sight)) (flex_band x t.handle t.slot)
  high-tellable {sight} so =
      let Q = IsTellable (IsSlotPiece d i sight) in
      let all = subst (AllByRecursion Q) (slot-joined x t.handle t.slot) (slot-tellable so) in
      all-behind Q (anchors_piece x t.handle t.slot ∷ heap_band x t.handle t.slot) (flex_band x t.handle t.slot) all

  -- the parts of its look
  pub slot-look : {name : Text} {h : ℕ} {found : List ℕ} {pieces low high : List Piece} {anchors : List ShownAnchor} → name ≡ t.name → h ≡ t.handle
      → found ≡ x.share.pages_of (SlotOf t.handle) → pieces ≡ slot_pieces x t.handle t.slot → low ≡ heap_band x t.handle t.slot
      → high ≡ flex_band x t.handle t.slot → anchors ≡ shown_anchors x t
      → look_with name (task_class h) found pieces (map (slot_item_in (slice_get d.tasks i)) (seen low)) (map (slot_item_in (slice_get d.tasks i)) (seen high))
      anchors ≡ slot_look x t
  slot-look en eh ef ep el eu ek =
      look-same en eh ef ep (ap₂ (λ o ps. map (slot_item_in o) (seen ps)) there el) (ap₂ (λ o ps. map (slot_item_in o) (seen ps)) there eu) ek

  -- they are few
  pub bands-few : (length (heap_band x t.handle t.slot) ≤ 1000) × (length (flex_band x t.handle t.slot) ≤ 1000)
  bands-few =
      let low = heap-few (slot_legend x t.handle) 256 t.slot.heap in
      let high = length-append (flex_pieces x t.handle (256 + t.slot.heap.end) t.slot.blocks) (unused_piece t.slot ∷ []) in
      let blocks = few-blocks t.slot.blocks (task-slot is i t there).anchors in
      let many = flex-many x t.handle (256 + t.slot.heap.end) t.slot.blocks in
      (omega arith, omega arith)

-- ---- the module area

module _ {d : Desk} (is : IsDesk d) (x : Scene) (same : x.desk.post.heap ≡ d.post.heap) where
  -- its pieces lie in its pages
  pub module-stripped : (numbers found : List ℕ) (shared : IsShared (share_in numbers d) d) → length numbers ≡ d.pool
      → found ≡ (share_in numbers d).pages_of (AreaOf 1) → CanBeStripped found (module_pieces x)
  module-stripped numbers found shared all e =
      let many : length found ≡ module_pages d = ap length e ∙ owned-fixed is numbers shared 1 (module_pages d) (omega arith) refl in
      let few = owned-few is numbers shared (pages.Fixed 1) (AreaOf 1) (seen-fixed is 1 (omega arith)) all in
      let fits = is.post.heap.heap.fits in
      let whole = is.post.heap.whole in
      let P : Heap → Type 0 = λ h. AllByRecursion (EndsBy (4096 * length found)) (heap_pieces (module_legend x) 0 h) in
      record {
        some = omega arith;
        few = omega (arith, ap length e);
        within = subst P (sym same) (heap-ends (4096 * length found) (module_legend x) 0 d.post.heap fits (omega arith));
      }

  pub module-few : length (module_pieces x) ≤ 1000
  module-few = let low = heap-few (module_legend x) 0 x.desk.post.heap in omega arith

  -- each piece can be told
  pub module-tellable : {A : Type 0} → A → AllByRecursion (IsTellable (λ p. A × IsModulePiece x p)) (module_pieces x)
  module-tellable {A} so =
      each-of (IsTellable (λ p. A × IsModulePiece x p)) (module_pieces x) (λ i p at.
      let low = at-of (EndsBy 4194304) (module_pieces x) i p (module-drawn is x same) at in
      ((so, record { place = i; stands = at }), omega arith))

-- what it is drawn from, by its pages and its pieces
abbrev pub area_look : Scene → List ℕ → List Piece → AreaLook
area_look x found pieces = record { tint = area_class module_area; pages = found; pieces = pieces; parts = map (module_item x) (seen pieces) }

pub module-look-same : (x : Scene) {found other : List ℕ} {pieces others : List Piece} → found ≡ other → pieces ≡ others
    → area_look x found pieces ≡ area_look x other others
module-look-same x e f = ap₂ (area_look x) e f
