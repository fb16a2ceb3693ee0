-- Slots that stay under a renaming: each call leaves such a slot. A renaming that keeps the bytes of a list and makes all
-- others 0 leaves just the bytes of that list, and 0.
use Rattle.rh_laws.proofs.Common.{[], ap, Bool, buffer_at, cond, drop, drop-map, false, Flex, Follows, Granted, heap_block_at, Hole, List, map, OnGrant, refl}
use Rattle.rh_laws.proofs.Common.{Segment, Slot, slot_alloc, slot_block, slot_claim, slot_extend, slot_free, slot_mid, slot_put, slot_release, slot_resize}
use Rattle.rh_laws.proofs.Common.{Split, subst, sym, take, take-map, true, Used, without_buffer, written_in, ℕ, ℤ, ◌++◌, ◌==◌, ◌||◌, ◌∙◌, ◌∷◌, ◌≡◌}
use Rattle.rh_defs.specs.Places.{bytes_held, first_bytes, written_held}
use Rattle.rh_defs.proofs.Chains as chains
use Rattle.rh_laws.specs.Renaming.{has_byte, renamed_block, renamed_segment, renamed_slot}
use Rattle.rh_laws.proofs.RenamedParts.{By}
use Rattle.rh_laws.proofs.RenamedDesks.{result-by}
use Rattle.rh_laws.proofs.RenamedLaws.{or-right, zero-stays}
use Rattle.rh_laws.proofs.RenamedSlots.{buffer_at-renamed, first_bytes-renamed, heap_block_at-renamed, renamed_given, renamed_here, slot_alloc-renamed}
use Rattle.rh_laws.proofs.RenamedSlots.{slot_block-renamed, slot_claim-renamed, slot_extend-renamed, slot_free-renamed, slot_mid-renamed, slot_put-renamed}
use Rattle.rh_laws.proofs.RenamedSlots.{bytes_held-renamed, slot_release-renamed, slot_resize-renamed, written_held-renamed, written_in-renamed}

-- ---- the bytes of a list

-- a byte of the list as it is, and 0 for each other
abbrev pub keeping : List ℕ → ℕ → ℕ
keeping list b = cond (has_byte b list) b 0

pub keeping-zero : (list : List ℕ) → keeping list 0 ≡ 0
keeping-zero list = zero-stays (has_byte 0 list)

-- bytes and a slot that this leaves: they have none but those of the list, and 0
abbrev pub AreOnly : List ℕ → List ℕ → Type 0
AreOnly list bytes = map (keeping list) bytes ≡ bytes

pub record HasOnly (list : List ℕ) (s : Slot) : Type 0 where
  pub same : renamed_slot (keeping list) s ≡ s

-- ---- calls

-- what a chain gives that does the same to the renamed thing, which is that thing
pub fixed-by : {A : Type 0} {g : A → A} {x y : Granted A} → Follows (By g) x y → y ≡ x → OnGrant (λ z. g z ≡ z) x
fixed-by (Follows.both {x = x} {y = y} e) same = let e' : y ≡ x = cc in chains.granted (sym e ∙ e')
fixed-by Follows.neither same = chains.refused

-- the same, told otherwise
pub granted-as : {A : Type 0} {P Q : A → Type 0} {r : Granted A} → ((x : A) → P x → Q x) → OnGrant P r → OnGrant Q r
granted-as f (chains.granted {x = x} p) = chains.granted (f x p)
granted-as f chains.refused = chains.refused

-- some of the bytes
pub part-only : (list : List ℕ) (n from : ℕ) (bytes : List ℕ) → AreOnly list bytes → AreOnly list (take n (drop from bytes))
part-only list n from bytes e =
    sym (take-map (keeping list) n (drop from bytes)) ∙ ap (take n) (sym (drop-map (keeping list) from bytes)) ∙ ap (λ l. take n (drop from l)) e

module _ {list : List ℕ} {s : Slot} (has : HasOnly list s) where
  abbrev f : ℕ → ℕ
  f = keeping list

  abbrev zero-is : f 0 ≡ 0
  zero-is = keeping-zero list

  -- a slot, and one with an address, out of a call that does the same to the renamed slot
  slot-only : (call : Slot → Granted Slot) → Follows (By (renamed_slot f)) (call s) (call (renamed_slot f s)) → OnGrant (HasOnly list) (call s)
  slot-only call alike = granted-as (λ (n : Slot) e. record { same = e }) (fixed-by alike (ap call has.same))

  given-only : (call : Slot → Granted (Slot × ℕ)) → Follows (By (renamed_given f)) (call s) (call (renamed_slot f s)) →
      OnGrant (λ (p : Slot × ℕ). HasOnly list p.0) (call s)
  given-only call alike =
      granted-as (λ (p : Slot × ℕ) e. record { same = ap (λ (q : Slot × ℕ). q.0) e }) (fixed-by alike (ap call has.same))

  pub block-only : (k : ℕ) → OnGrant (λ (b : Split Flex). AreOnly list b.here.bytes) (slot_block k s)
  block-only k =
      granted-as (λ (b : Split Flex) e. ap (λ (c : Split Flex). c.here.bytes) e)
      (fixed-by {g = renamed_here f} (slot_block-renamed f k s) (ap (slot_block k) has.same))

  pub alloc-only : (free k n : ℕ) → OnGrant (λ (p : Slot × ℕ). HasOnly list p.0) (slot_alloc free k n s)
  alloc-only free k n = given-only (slot_alloc free k n) (slot_alloc-renamed f zero-is free k n s)

  pub free-only : (k : ℕ) → OnGrant (HasOnly list) (slot_free k s)
  free-only k = slot-only (slot_free k) (slot_free-renamed f k s)

  pub extend-only : (free k n : ℕ) → OnGrant (HasOnly list) (slot_extend free k n s)
  extend-only free k n = slot-only (slot_extend free k n) (slot_extend-renamed f zero-is free k n s)

  pub mid-only : (free k offset : ℕ) (by : ℤ) → OnGrant (HasOnly list) (slot_mid free k offset by s)
  mid-only free k offset by = slot-only (slot_mid free k offset by) (slot_mid-renamed f zero-is free k offset by s)

  pub put-only : (k offset : ℕ) (bytes : List ℕ) → AreOnly list bytes → OnGrant (HasOnly list) (slot_put k offset bytes s)
  put-only k offset bytes e =
      slot-only (slot_put k offset bytes) (subst (λ l. Follows (By (renamed_slot f)) (slot_put k offset bytes s)
      (slot_put k offset l (renamed_slot f s))) e (slot_put-renamed f k offset bytes s))

  pub claim-only : (free n : ℕ) → OnGrant (λ (p : Slot × ℕ). HasOnly list p.0) (slot_claim free n s)
  claim-only free n = given-only (slot_claim free n) (slot_claim-renamed f zero-is free n s)

  pub release-only : (address : ℕ) → OnGrant (HasOnly list) (slot_release address s)
  release-only address = slot-only (slot_release address) (slot_release-renamed f address s)

  pub resize-only : (free address : ℕ) (delta : ℤ) → OnGrant (λ (p : Slot × ℕ). HasOnly list p.0) (slot_resize free address delta s)
  resize-only free address delta = given-only (slot_resize free address delta) (slot_resize-renamed f zero-is free address delta s)

  pub without-only : (address : ℕ) → HasOnly list (without_buffer address s)
  without-only address = record { same = sym (result-by s (slot_release-renamed f address s)) ∙ ap (without_buffer address) has.same }

  pub first-only : (n address : ℕ) → AreOnly list (first_bytes n (heap_block_at address s))
  first-only n address =
      sym (first_bytes-renamed f n (heap_block_at address s)) ∙ ap (first_bytes n) (sym (heap_block_at-renamed f address s))
      ∙ ap (λ u. first_bytes n (heap_block_at address u)) has.same

  pub written-only : (address room : ℕ) (bytes : List ℕ) → AreOnly list bytes → HasOnly list (written_in address bytes (buffer_at address room s) s)
  written-only address room bytes e = record {
    same =
        sym (written_in-renamed f address bytes (buffer_at address room s) s)
        ∙ ap (λ o. written_in address (map f bytes) o (renamed_slot f s)) (sym (buffer_at-renamed f address room s))
        ∙ ap (λ u. written_in address (map f bytes) (buffer_at address room u) u) has.same
        ∙ ap (λ l. written_in address l (buffer_at address room s) s) e;
  }

  -- bytes that are read, and bytes that are written, at an address
  pub read-only : (x n : ℕ) → AreOnly list (bytes_held x n s)
  read-only x n = sym (bytes_held-renamed f x n s) ∙ ap (bytes_held x n) has.same

  pub write-only : (x : ℕ) (bytes : List ℕ) → AreOnly list bytes → HasOnly list (written_held x bytes s)
  write-only x bytes e = record {
    same =
        sym (written_held-renamed f x bytes s) ∙ ap (λ u. written_held x (map f bytes) u) has.same ∙ ap (λ l. written_held x l s) e;
  }

-- ---- more bytes

-- each byte of the first is one of the second
abbrev pub Within : List ℕ → List ℕ → Type 0
Within small large = (b : ℕ) → has_byte b small ≡ true → has_byte b large ≡ true

pub before-within : (xs ys : List ℕ) → Within xs (xs ++ ys)
before-within [] ys b e = absurd cc
before-within (x ∷ xs) ys b e =
    elim (x == b) as (λ t. (t || has_byte b xs) ≡ true → (t || has_byte b (xs ++ ys)) ≡ true)
    [ true ↦ λ q. refl | false ↦ λ q. before-within xs ys b q ] e

pub behind-within : (xs ys : List ℕ) → Within ys (xs ++ ys)
behind-within [] ys b e = e
behind-within (x ∷ xs) ys b e = or-right (x == b) _ (behind-within xs ys b e)

-- what stays where fewer bytes are kept
module _ (small large : List ℕ) (within : Within small large) where
  twice : (b : ℕ) → keeping large (keeping small b) ≡ keeping small b
  twice b = go (has_byte b small) refl
    where
      go : (t : Bool) → has_byte b small ≡ t → keeping large (cond t b 0) ≡ cond t b 0
      go true e = ap (λ u. cond u b 0) (within b e)
      go false e = keeping-zero large

  map-twice : {A : Type 0} (f g : A → A) → ((x : A) → g (f x) ≡ f x) → (xs : List A) → map g (map f xs) ≡ map f xs
  map-twice f g same [] = refl
  map-twice f g same (x ∷ xs) = ap (λ y. y ∷ map g (map f xs)) (same x) ∙ ap (λ l. f x ∷ l) (map-twice f g same xs)

  pub bytes-wider : (bytes : List ℕ) → AreOnly small bytes → AreOnly large bytes
  bytes-wider bytes e = ap (map (keeping large)) (sym e) ∙ map-twice (keeping small) (keeping large) twice bytes ∙ e

  pub slot-wider : (s : Slot) → HasOnly small s → HasOnly large s
  slot-wider s has = record { same = ap (renamed_slot (keeping large)) (sym has.same) ∙ both ∙ has.same }
    where
      block : (b : Flex) → renamed_block (keeping large) (renamed_block (keeping small) b) ≡ renamed_block (keeping small) b
      block b = ap (with_bytes b.anchor) (map-twice (keeping small) (keeping large) twice b.bytes)
        where
          with_bytes : ℕ → List ℕ → Flex
          with_bytes k bytes = record { anchor = k; bytes = bytes }

      segment : (g : Segment) → renamed_segment (keeping large) (renamed_segment (keeping small) g) ≡ renamed_segment (keeping small) g
      segment (Used bytes) = ap Used (map-twice (keeping small) (keeping large) twice bytes)
      segment (Hole size) = refl

      slot : List Segment → List Flex → Slot
      slot segments blocks = record { heap = record { segments = segments; end = s.heap.end }; blocks = blocks; budging = s.budging }

      both : renamed_slot (keeping large) (renamed_slot (keeping small) s) ≡ renamed_slot (keeping small) s
      both =
          ap (λ l. slot l (map (renamed_block (keeping large)) (map (renamed_block (keeping small)) s.blocks)))
          (map-twice (renamed_segment (keeping small)) (renamed_segment (keeping large)) segment s.heap.segments)
          ∙ ap (slot (map (renamed_segment (keeping small)) s.heap.segments))
          (map-twice (renamed_block (keeping small)) (renamed_block (keeping large)) block s.blocks)
