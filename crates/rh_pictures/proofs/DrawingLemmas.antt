-- The rows of an area, and the letter of a slot.
use Rattle.rh_pictures.proofs.Common.{◌≡◌, ℕ, zero, suc, ◌+◌, ◌<◌, ◌≤◌, Bool, true, false, refl, ap, subst, ◌∙◌, arith, eq-eqb, List, [], ◌∷◌, length, map}
use Rattle.rh_pictures.proofs.Common.{Some, None, ◌==◌, find, if◌then◌else◌, nat_lt, slice_get, position, ne_eqb, nat_tests, slice_get_within, Desk, Task}
use Rattle.rh_pictures.proofs.Common.{task_at, IsDesk, Rise, Card, Panel, slot_panel, area_rows, Scene, SlotOf}
use Rattle.std.specs.List.{position_or_len}
use Rattle.std.proofs.lemmas.List.{length-map}
use Rattle.rh_figure.specs.declared.piece.Piece.{Piece}
use Rattle.rh_figure.specs.Figure.{Drawing}
use Rattle.rh_figure.specs.Rows.{area_row, rows_down}
use Rattle.rh_figure.specs.Share.{is_owner}
use Rattle.rh_map.specs.Written.{area_of}

-- the rows are the same whatever cards stand below them
rows-same : (start : ℕ) (pages : List ℕ) (pieces : List Piece) (cards : List Card) (n i : ℕ)
    → rows_down (area_of start pages pieces) n i ≡ rows_down (record { start = start; pages = pages; pieces = pieces; cards = cards }) n i
rows-same start pages pieces cards n zero = refl
rows-same start pages pieces cards n (suc i) =
    ap (λ rest. area_row (area_of start pages pieces) n i ∷ rest) (rows-same start pages pieces cards n i)

pub rows-are : (g : Drawing) (start : ℕ) (pages : List ℕ) (pieces : List Piece) → start ≡ g.start → pages ≡ g.pages → pieces ≡ g.pieces
    → area_rows (area_of start pages pieces) ≡ area_rows g
rows-are g start pages pieces s p q =
    ap (λ z. area_rows (area_of z pages pieces)) s
    ∙ (ap (λ z. area_rows (area_of g.start z pieces)) p
    ∙ (ap (λ z. area_rows (area_of g.start g.pages z)) q ∙ rows-same g.start g.pages g.pieces g.cards (length g.pages) _))

-- ---- where a task stands

abbrev pub is_slot_of : ℕ → Panel → Bool
is_slot_of h p = is_owner p.owner (SlotOf h)

-- a later task has a higher handle
later-handle : (least next : ℕ) (tasks : List Task) (i : ℕ) (t : Task) → Rise (λ (u : Task). u.handle) least next tasks → slice_get tasks i ≡ Some t
    → least ≤ t.handle
later-handle least next [] i t r e = absurd (cc)
later-handle least next (u ∷ us) zero t r e = let k : u ≡ t = cc in subst (λ (z : Task). least ≤ z.handle) k r.0
later-handle least next (u ∷ us) (suc i) t r e =
    let k : u.handle + 1 ≤ t.handle = later-handle (u.handle + 1) next us i t r.1 e in
    omega (arith, r.0)

slot-place : (x : Scene) (least next : ℕ) (tasks : List Task) (i : ℕ) (t : Task) → Rise (λ (u : Task). u.handle) least next tasks → slice_get tasks i ≡ Some t
    → position_or_len (is_slot_of t.handle) (map (slot_panel x) tasks) ≡ i
slot-place x least next [] i t r e = absurd (cc)
slot-place x least next (u ∷ us) zero t r e =
    let k : u ≡ t = cc in
    let same : (u.handle == t.handle) ≡ true = eq-eqb u.handle t.handle (ap (λ (z : Task). z.handle) k) in
    rw same refl
slot-place x least next (u ∷ us) (suc i) t r e =
    let above : u.handle + 1 ≤ t.handle = later-handle (u.handle + 1) next us i t r.1 e in
    let other : (u.handle == t.handle) ≡ false = ne_eqb u.handle t.handle (λ q. omega arith) in
    let rest : position_or_len (is_slot_of t.handle) (map (slot_panel x) us) ≡ i = slot-place x (u.handle + 1) next us i t r.1 e in
    rw other (ap (λ n. 1 + n) rest ∙ omega arith)

pub slot-stands : {d : Desk} (is : IsDesk d) (x : Scene) (i : ℕ) (t : Task) → slice_get d.tasks i ≡ Some t
    → position (is_slot_of t.handle) (map (slot_panel x) d.tasks) ≡ Some i
slot-stands {d} is x i t e =
    let at = slot-place x 0 d.next_handle d.tasks i t is.handles e in
    let low : i < length (map (slot_panel x) d.tasks) = omega (arith, slice_get_within d.tasks i t e, length-map d.tasks (slot_panel x)) in
    let inside : nat_lt i (length (map (slot_panel x) d.tasks)) ≡ true = grind (arith, nat_tests) in
    ap (λ n. if nat_lt n (length (map (slot_panel x) d.tasks)) then Some n else None) at ∙ ap (λ b. if b then Some i else None) inside

-- one task stands at a place
pub seen-same : {A : Type 0} (P : A → Type 0) (xs : List A) (i : ℕ) (a b : A) → slice_get xs i ≡ Some a → slice_get xs i ≡ Some b → P a → P b
seen-same P xs i a b e f h = let k : a ≡ b = cc in subst P k h

-- the task with a handle
task-found : (least next : ℕ) (tasks : List Task) (i : ℕ) (t : Task) → Rise (λ (u : Task). u.handle) least next tasks → slice_get tasks i ≡ Some t
    → find (λ (u : Task). u.handle == t.handle) tasks ≡ Some t
task-found least next [] i t r e = absurd (cc)
task-found least next (u ∷ us) zero t r e =
    let k : u ≡ t = cc in
    let same : (u.handle == t.handle) ≡ true = eq-eqb u.handle t.handle (ap (λ (z : Task). z.handle) k) in
    rw same e
task-found least next (u ∷ us) (suc i) t r e =
    let above : u.handle + 1 ≤ t.handle = later-handle (u.handle + 1) next us i t r.1 e in
    let other : (u.handle == t.handle) ≡ false = ne_eqb u.handle t.handle (λ q. omega arith) in
    let rest : find (λ (v : Task). v.handle == t.handle) us ≡ Some t = task-found (u.handle + 1) next us i t r.1 e in
    rw other rest

pub task-stands : {d : Desk} (is : IsDesk d) (i : ℕ) (t : Task) → slice_get d.tasks i ≡ Some t → task_at t.handle d ≡ Some t
task-stands {d} is i t e = task-found 0 d.next_handle d.tasks i t is.handles e
