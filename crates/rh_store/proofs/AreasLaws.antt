-- Laws of the list of areas.
use Rattle.std.proofs.Common.{replicate, ◌≡◌, ℕ, zero, suc, ◌+◌, ◌-◌, ◌*◌, ◌/◌, ◌%◌, ◌<◌, ◌≤◌, ◌==◌, cond, ◌≢◌, Bool, true, false, List, [], ◌∷◌, ◌++◌}
use Rattle.std.proofs.Common.{length, get_or, set, take, drop, refl, sym, ap, subst, ◌∙◌, arith}
use Rattle.std.specs.Prelude.{Vec, Option, Some, None, IsSome, IsNone, unwrap_or, All, vec_capacity}
use Rattle.std.proofs.lemmas.Grind.{elements, common_steps}
use Rattle.std.proofs.lemmas.List.{length-set, with_items_is, get_or-take, get_or-drop, set-append_left, set-append_right, take-append-drop, length-take-le}
use Rattle.std.proofs.Math.Nat.{le_refl}
use Rattle.std.specs.Vec.{with_items}
use Rattle.std.proofs.Math.Path.{fun_ext}
use Rattle.std.proofs.lemmas.Bool.Decides.{nat_tests}
use Rattle.rh_store.specs.declared.area.Area.{Area}
use Rattle.rh_store.specs.Areas.{shown, contents, room_at, memory_in, IsTidyArea, HasRoomFor, IsStore, ChangedAt}
use Rattle.rh_defs.specs.declared.sizes.TheConstants.{PAGE}
use Rattle.rh_defs.specs.Memory.{Memory, area_set, bytes, with_bytes, opened, closed, grown, shrunk, fresh}
use Rattle.rh_defs.proofs.MemoryLaws.{pages_below-set}
use Rattle.rh_store.specs.Inner.Kept.{open_index, contents-past, whole_contents, numbered_areas}

other : (k i : ℕ) (x y : Option (List ℕ)) → k ≢ i → cond (k == i) x y ≡ y
other k i x y ne = grind (arith, nat_tests)

same_test : (k i : ℕ) → (k == i) ≡ (suc k == suc i)
same_test k i = grind (arith, nat_tests)

contents_at : (list : List Area) (i : ℕ) (a : Area) (k : ℕ) → i < length list → contents (set list i a) k ≡ area_set (contents list) i (shown a) k
unfolding contents area_set
contents_at [] i a k h = absurd (omega arith)
contents_at (x ∷ list) zero a zero h = refl
contents_at (x ∷ list) zero a (suc k) h = sym (other (suc k) 0 (shown a) (contents list k) (omega arith))
contents_at (x ∷ list) (suc i) a zero h = sym (other 0 (suc i) (shown a) (shown x) (omega arith))
contents_at (x ∷ list) (suc i) a (suc k) h = contents_at list i a k (omega arith) ∙ ap (λ (b : Bool). cond b (shown a) (contents list k)) (same_test k i)

-- the areas after one was replaced
pub contents-set : (list : List Area) (i : ℕ) (a : Area) → i < length list → contents (set list i a) ≡ area_set (contents list) i (shown a)
contents-set list i a h = fun_ext (λ k. contents_at list i a k h)

-- an area that stands in the list
pub contents-get : (list : List Area) (i : ℕ) (d : Area) → i < length list → contents list i ≡ shown (get_or list i d)
unfolding contents
contents-get [] i d h = absurd (omega arith)
contents-get (x ∷ list) zero d h = refl
contents-get (x ∷ list) (suc i) d h = contents-get list i d (omega arith)

if_shown : (b : Bool) (y : List ℕ) → IsSome (cond b (Some y) None) → b ≡ true
if_shown true y h = refl
if_shown false y h = absurd cc

if_hidden : (b : Bool) (y : List ℕ) → IsNone (cond b (Some y) None) → b ≡ false
if_hidden true y h = absurd cc
if_hidden false y h = refl

shown_items : (a : Area) → a.opened ≡ true → shown a ≡ Some a.bytes.items
shown_items a o = rw o refl

-- what was read at an open area's number
pub open_read : (list : List Area) (i : ℕ) (a : Area) → IsSome (contents list i) → a ≡ get_or list i a
    → (a.opened ≡ true) × (unwrap_or (contents list i) [] ≡ a.bytes.items)
open_read list i a o e =
    let is : contents list i ≡ shown a = contents-get list i a (open_index list i o) ∙ ap shown (sym e) in
    let on : a.opened ≡ true = if_shown a.opened a.bytes.items (subst (λ (x : Option (List ℕ)). IsSome x) is o) in
    (on, ap (λ (x : Option (List ℕ)). unwrap_or x []) (is ∙ shown_items a on))

-- an area replaced by one that shows o
replaced : (list : List Area) (i : ℕ) (a b : Area) (o : Option (List ℕ)) → i < length list → a ≡ get_or list i a → shown b ≡ o
    → (length (unwrap_or o []) % PAGE ≡ 0 → IsTidyArea b) → vec_capacity a.bytes ≤ vec_capacity b.bytes → ChangedAt list (set list i b) i o
replaced list i a b o h e s t c = record {
  len = length-set list i b;
  contents_are = contents-set list i b h ∙ ap (area_set (contents list) i) s;
  tidy = λ whole all. let one = t whole in grind (arith, elements);
  reserved = λ pages all. let was : HasRoomFor pages a =
      subst (HasRoomFor pages) (sym e) (all i a h) in let one : HasRoomFor pages b = record { room = let r = was.room in omega arith } in grind
      (arith, elements);
}

-- an open area gets other bytes
pub rewritten : (list : List Area) (i : ℕ) (a b : Area) (bs : List ℕ) → IsSome (contents list i) → a ≡ get_or list i a → b.opened ≡ a.opened
    → b.bytes.items ≡ bs → vec_capacity a.bytes ≤ vec_capacity b.bytes → ChangedAt list (set list i b) i (Some bs)
rewritten list i a b bs o e op eb c =
    let on : b.opened ≡ true = op ∙ (open_read list i a o e).0 in
    replaced list i a b (Some bs) (open_index list i o) e (shown_items b on ∙ ap (λ (l : List ℕ). Some l) eb)
    (λ whole. record { whole = ap (λ l. length l % PAGE) eb ∙ whole; empty = λ f. absurd (let t : true ≡ false = sym on ∙ f in cc) }) c

-- an area is closed and left empty
pub hidden : (list : List Area) (i : ℕ) (a b : Area) → IsSome (contents list i) → a ≡ get_or list i a → b.opened ≡ false → b.bytes.items ≡ []
    → vec_capacity b.bytes ≡ vec_capacity a.bytes → ChangedAt list (set list i b) i None
hidden list i a b o e off eb c = replaced list i a b None (open_index list i o) e (rw off refl)
    (λ whole. record { whole = ap (λ (l : List ℕ). length l % PAGE) eb; empty = λ f. eb }) (omega arith)

-- a closed area is opened
pub revealed : (list : List Area) (i : ℕ) (a b : Area) → i < length list → IsNone (contents list i) → All IsTidyArea list → a ≡ get_or list i a → b.opened
    ≡ true
    → b.bytes.items ≡ a.bytes.items → vec_capacity b.bytes ≡ vec_capacity a.bytes → ChangedAt list (set list i b) i (Some [])
revealed list i a b h n all e on eb c =
    let is : contents list i ≡ shown a = contents-get list i a h ∙ ap shown (sym e) in
    let off : a.opened ≡ false = if_hidden a.opened a.bytes.items (subst (λ (x : Option (List ℕ)). IsNone x) is n) in
    let tidy : IsTidyArea a = subst IsTidyArea (sym e) (all i a h) in
    let none : b.bytes.items ≡ [] = eb ∙ tidy.empty off in
    replaced list i a b (Some []) h e (shown_items b on ∙ ap (λ (l : List ℕ). Some l) none)
    (λ whole. record { whole = ap (λ (l : List ℕ). length l % PAGE) none; empty = λ f. none }) (omega arith)

-- an open area gets other bytes in its slice
pub written_slice : (list : List Area) (i : ℕ) (a : Area) (new bs : List ℕ) → IsSome (contents list i) → a ≡ get_or list i a → new ≡ bs
    → length bs ≡ length a.bytes.items → ChangedAt list (set list i (record a { bytes = with_items a.bytes new })) i (Some bs)
written_slice list i a new bs o e w l =
    let fits : length new ≡ a.bytes.len = ap length w ∙ l ∙ sym a.bytes.ok.0 in
    rewritten list i a (record a { bytes = with_items a.bytes new }) bs o e refl (with_items_is a.bytes new fits ∙ w) (le_refl (vec_capacity a.bytes))

-- where an area of the front or the back part of a list stands in the list
pub in_front : (list front : List Area) (i j : ℕ) (x : Area) → front ≡ take j list → i < j → x ≡ get_or front i x → x ≡ get_or list i x
in_front list front i j x f h e = e ∙ ap (λ (l : List Area). get_or l i x) f ∙ get_or-take j list i x h

pub in_back : (list back : List Area) (j : ℕ) (x : Area) → back ≡ drop j list → x ≡ get_or back 0 x → x ≡ get_or list j x
in_back list back j x b e = e ∙ ap (λ (l : List Area). get_or l 0 x) b ∙ get_or-drop j list 0 x ∙ ap (λ k. get_or list k x) (omega arith)

set_front : (list front back : List Area) (i j : ℕ) (y : Area) → front ≡ take j list → back ≡ drop j list → i < j → j ≤ length list
    → set front i y ++ back ≡ set list i y
set_front list front back i j y f b h l =
    ap (λ (k : List Area). set k i y ++ back) f ∙ ap (λ (k : List Area). set (take j list) i y ++ k) b
    ∙ sym (set-append_left (take j list) (drop j list) i y (omega (arith, length-take-le j list l)))
    ∙ ap (λ (k : List Area). set k i y) (take-append-drop j list)

set_back : (list front back : List Area) (j : ℕ) (y : Area) → front ≡ take j list → back ≡ drop j list → j ≤ length list → front ++ set back 0 y ≡ set list j y
set_back list front back j y f b l =
    ap (λ (k : List Area). k ++ set back 0 y) f ∙ ap (λ (k : List Area). take j list ++ set k 0 y) b
    ∙ ap (λ k. take j list ++ set (drop j list) k y) (omega arith)
    ∙ sym (set-append_right (take j list) (drop j list) j j y (length-take-le j list l) (le_refl j))
    ∙ ap (λ (k : List Area). set k j y) (take-append-drop j list)

-- an area of the front part gets other bytes in its slice
pub written_front : {Z : Type 0} (v : Vec Area Z) (front back : List Area) (i j : ℕ) (x : Area) (new bs : List ℕ) → front ≡ take j v.items
    → back ≡ drop j v.items → i < j → j ≤ length v.items
    → x ≡ get_or front i x → IsSome (contents v.items i) → new ≡ bs → length bs ≡ length (unwrap_or (contents v.items i) [])
    → ChangedAt v.items (with_items v (set front i (record (get_or front i x) { bytes = with_items (get_or front i x).bytes new }) ++ back)).items i (Some bs)
written_front v front back i j x new bs f b h l is o w len =
    let a = get_or front i x in
    let y : Area = record a { bytes = with_items a.bytes new } in
    let stands : a ≡ get_or v.items i a = subst (λ (z : Area). z ≡ get_or v.items i z) is (in_front v.items front i j x f h is) in
    let e = set_front v.items front back i j y f b h l in
    let fits : length (set front i y ++ back) ≡ v.len = ap length e ∙ length-set v.items i y ∙ sym v.ok.0 in
    subst (λ (k : List Area). ChangedAt v.items k i (Some bs)) (sym (with_items_is v (set front i y ++ back) fits ∙ e))
    (written_slice v.items i a new bs o stands w (len ∙ ap length (open_read v.items i a o stands).1))

-- the first area of the back part gets other bytes in its slice
pub written_back : {Z : Type 0} (v : Vec Area Z) (front back : List Area) (j : ℕ) (x : Area) (new bs : List ℕ) → front ≡ take j v.items
    → back ≡ drop j v.items → j ≤ length v.items
    → x ≡ get_or back 0 x → IsSome (contents v.items j) → new ≡ bs → length bs ≡ length (unwrap_or (contents v.items j) [])
    → ChangedAt v.items (with_items v (front ++ set back 0 (record (get_or back 0 x) { bytes = with_items (get_or back 0 x).bytes new }))).items j (Some bs)
written_back v front back j x new bs f b l is o w len =
    let a = get_or back 0 x in
    let y : Area = record a { bytes = with_items a.bytes new } in
    let stands : a ≡ get_or v.items j a = subst (λ (z : Area). z ≡ get_or v.items j z) is (in_back v.items back j x b is) in
    let e = set_back v.items front back j y f b l in
    let fits : length (front ++ set back 0 y) ≡ v.len = ap length e ∙ length-set v.items j y ∙ sym v.ok.0 in
    subst (λ (k : List Area). ChangedAt v.items k j (Some bs)) (sym (with_items_is v (front ++ set back 0 y) fits ∙ e))
    (written_slice v.items j a new bs o stands w (len ∙ ap length (open_read v.items j a o stands).1))

-- what a slice of an open area's bytes contains
pub read_slice : (list : List Area) (i : ℕ) (x a : Area) (bs : List ℕ) → IsSome (contents list i) → x ≡ get_or list i x → x ≡ a → bs ≡ a.bytes.items
    → bs ≡ unwrap_or (contents list i) []
read_slice list i x a bs o stands is e = e ∙ ap (λ (z : Area). z.bytes.items) (sym is) ∙ sym (open_read list i x o stands).1

-- a closed area's number
pub hidden_at : (list : List Area) (i : ℕ) (a : Area) → i < length list → a ≡ get_or list i a → a.opened ≡ false → IsNone (contents list i)
hidden_at list i a h e off = let none : shown a ≡ None = rw off refl in rw (contents-get list i a h ∙ ap shown (sym e) ∙ none) refl

-- an open area's number
pub shown_at : (list : List Area) (i : ℕ) (a : Area) → i < length list → a ≡ get_or list i a → a.opened ≡ true → IsSome (contents list i)
shown_at list i a h e on = rw (contents-get list i a h ∙ ap shown (sym e) ∙ shown_items a on) refl

-- the room of an area that stands in the list
pub room_at-get : (list : List Area) (i : ℕ) (d : Area) → i < length list → room_at list i ≡ vec_capacity (get_or list i d).bytes
unfolding room_at
room_at-get [] i d h = absurd (omega arith)
room_at-get (x ∷ list) zero d h = refl
room_at-get (x ∷ list) (suc i) d h = room_at-get list i d (omega arith)

pub room_at-all : (pages : ℕ) (list : List Area) (i : ℕ) → All (HasRoomFor pages) list → i < length list → PAGE * pages ≤ room_at list i
unfolding room_at
room_at-all pages [] i all h = absurd (omega arith)
room_at-all pages (x ∷ list) i all h = let r = (all i x h).room in let e = room_at-get (x ∷ list) i x h in omega arith

-- the memory after an area was set
set_memory : (list new : List Area) (i : ℕ) (o : Option (List ℕ)) (free pages : ℕ) → ChangedAt list new i o
    → memory_in new free pages ≡ record { area = area_set (contents list) i o; free = free; pages = pages; loan = 0 }
set_memory list new i o free pages s =
    ap (λ (f : ℕ → Option (List ℕ)). let r : Memory = record { area = f; free = free; pages = pages; loan = 0 } in r) s.contents_are

pub memory-rewritten : (list new : List Area) (i : ℕ) (bs : List ℕ) (free pages : ℕ) → ChangedAt list new i (Some bs)
    → memory_in new free pages ≡ with_bytes (memory_in list free pages) i bs
unfolding with_bytes
memory-rewritten list new i bs free pages s = set_memory list new i (Some bs) free pages s

pub memory-opened : (list new : List Area) (i free pages : ℕ) → ChangedAt list new i (Some []) → memory_in new free pages ≡ opened (memory_in list free pages) i
unfolding opened
memory-opened list new i free pages s = set_memory list new i (Some []) free pages s

pub memory-closed : (list new : List Area) (i free pages : ℕ) → ChangedAt list new i None
    → memory_in new (free + length (bytes (memory_in list free pages) i) / PAGE) pages ≡ closed (memory_in list free pages) i
unfolding closed
memory-closed list new i free pages s = set_memory list new i None (free + length (bytes (memory_in list free pages) i) / PAGE) pages s

pub memory-grown : (list new : List Area) (i n free pages : ℕ) → ChangedAt list new i (Some (bytes (memory_in list free pages) i ++ replicate (PAGE * n) 0))
    → memory_in new (free - n) pages ≡ grown (memory_in list free pages) i n
unfolding grown
memory-grown list new i n free pages s = set_memory list new i (Some (bytes (memory_in list free pages) i ++ replicate (PAGE * n) 0)) (free - n) pages s

pub memory-shrunk : (list new : List Area) (i n free pages : ℕ) → ChangedAt list new i
    (Some (take (length (bytes (memory_in list free pages) i) - PAGE * n) (bytes (memory_in list free pages) i)))
    → memory_in new (free + n) pages ≡ shrunk (memory_in list free pages) i n
unfolding shrunk
memory-shrunk list new i n free pages s =
    set_memory list new i (Some (take (length (bytes (memory_in list free pages) i) - PAGE * n) (bytes (memory_in list free pages) i))) (free + n) pages s

-- the areas are a store's again after one was set
pub changed : (list new : List Area) (i : ℕ) (o : Option (List ℕ)) (free free' pages limit : ℕ) → IsStore list free pages limit → ChangedAt list new i o
    → i < limit → length (unwrap_or o []) % PAGE ≡ 0
    → free' + length (unwrap_or o []) / PAGE ≡ free + length (unwrap_or (contents list i) []) / PAGE → IsStore new free' pages limit
changed list new i o free free' pages limit k s h whole sum = record {
  table = s.len ∙ k.table;
  tidy = s.tidy whole k.tidy;
  reserved = s.reserved pages k.reserved;
  ledger = let was = k.ledger in let e = pages_below-set (contents list) i o limit h in rw s.contents_are (omega arith);
}

-- and after an area got as many bytes as it had
pub stays : (list new : List Area) (i : ℕ) (bs : List ℕ) (free pages limit : ℕ) → IsStore list free pages limit → ChangedAt list new i (Some bs)
    → IsSome (contents list i) → length bs ≡ length (unwrap_or (contents list i) []) → IsStore new free pages limit
stays list new i bs free pages limit k s o e =
    changed list new i (Some bs) free free pages limit k s (numbered_areas list free pages limit i k o)
    (ap (λ n. n % PAGE) e ∙ whole_contents list i k.tidy) (ap (λ n. free + n / PAGE) e)

pub none_is : (o : Option (List ℕ)) → IsNone o → o ≡ None
none_is None h = refl
none_is (Some x) h = absurd cc

-- an empty area pushed to closed ones
pub contents-push : (list : List Area) (a : Area) → ((k : ℕ) → contents list k ≡ None) → a.opened ≡ false → (k : ℕ) → contents (list ++ a ∷ []) k ≡ None
unfolding contents
contents-push [] a closed off zero = rw off refl
contents-push [] a closed off (suc k) = refl
contents-push (x ∷ list) a closed off zero = closed 0
contents-push (x ∷ list) a closed off (suc k) = contents-push list a (λ j. closed (suc j)) off k

pub tidy-push : (list : List Area) (a : Area) → All IsTidyArea list → IsTidyArea a → All IsTidyArea (list ++ a ∷ [])
tidy-push list a all one = grind (arith, common_steps)

pub reserved-push : (pages : ℕ) (list : List Area) (a : Area) → All (HasRoomFor pages) list → HasRoomFor pages a → All (HasRoomFor pages) (list ++ a ∷ [])
reserved-push pages list a all one = grind (arith, common_steps)

pub contents-nil : (list : List Area) → list ≡ [] → (k : ℕ) → contents list k ≡ None
contents-nil list e k = contents-past list k (omega (arith, ap length e))

-- closed areas are a fresh memory
pub memory-fresh : (list : List Area) (pages : ℕ) → ((k : ℕ) → contents list k ≡ None) → memory_in list pages pages ≡ fresh pages
unfolding fresh
memory-fresh list pages closed =
    ap (λ (f : ℕ → Option (List ℕ)). let r : Memory = record { area = f; free = pages; pages = pages; loan = 0 } in r) (fun_ext closed)
