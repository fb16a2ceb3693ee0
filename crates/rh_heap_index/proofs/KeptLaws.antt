-- What keeps a map that of its area's heap.
use Rattle.std.proofs.Common.{◌≡◌, ◌≢◌, ℕ, ◌+◌, ◌-◌, ◌*◌, ◌<◌, ◌≤◌, get_or, inl, inr, true, false, List, length, take, refl, sym, ap}
use Rattle.std.proofs.Common.{subst, ◌∙◌, arith, length-set, length-take}
use Rattle.std.specs.Prelude.{slice_index, slice_set, reverse, Option, Some, None, IfSome, Result, Ok, Err, IfOk, OnOk, OnErr, IsNone}
use Rattle.std.proofs.lemmas.Bool.{cases_eq, cases_lt}
use Rattle.std.proofs.lemmas.List.{get_or_past, get_or_read, get_or-reverse, get_or-set_other, get_or-set_same, get_or-take, length-reverse}
use Rattle.rh_defs.specs.declared.sizes.TheConstants.{PAGE}
use Rattle.rh_defs.specs.Bytes.{SameIn, SameOutside}
use Rattle.rh_defs.specs.Memory.{Memory, bytes, with_bytes, opened, closed, grown, shrunk}
use Rattle.rh_defs.specs.HeapImage.{Spells, heap_of}
use Rattle.rh_defs.proofs.BytesLaws.{SameIn-below, SameIn-above}
use Rattle.rh_defs.proofs.HeapLaws.{heap_of-Spells}
use Rattle.rh_defs.proofs.MemoryLaws.{bytes-with_bytes, bytes-with_other, bytes-none, bytes-opened, bytes-opened_other, bytes-closed_other, bytes-grown_other}
use Rattle.rh_defs.proofs.MemoryLaws.{bytes-shrunk_other, length-grown, length-shrunk, SameIn-grown, SameIn-shrunk}
use Rattle.rh_defs.proofs.SlotLaws.{Spells-same}
use Rattle.rh_store.specs.Starts.{AreRowsOf, IsMapOf}
use Rattle.rh_store.specs.declared.store.AreaId.{AreaId}
use Rattle.rh_store.specs.declared.store.StoreFault.{StoreFault}
use Rattle.rh_heap_index.specs.Maps.{Map, IsKeptMap, IsLaid, IsStale, map_of, AreKept, AreLaid, AreReached, AreStale, AreTied, EndsBy, IsOff}
use Rattle.rh_heap_index.specs.Maps.{Forgot, Loosened, Spoilt}

-- a map stays that of bytes in which its heap's bytes stay
pub map_same : (words : List ℕ) (split : ℕ) (b c : List ℕ) (at upper : ℕ) → SameIn b c at upper → upper ≤ length c → IsMapOf words split b at upper
    → IsMapOf words split c at upper
map_same words split b c at upper same within k =
    let h = heap_of b at in
    let spells : Spells c at h = Spells-same b c at h (subst (λ u. SameIn b c at u) k.upper_is same) (omega (arith, k.upper_is)) k.spells in
    let is : heap_of c at ≡ h = heap_of-Spells c at h spells in
    record {
      spells = subst (Spells c at) (sym is) spells;
      upper_is = k.upper_is ∙ ap (λ g. at + g.end) (sym is);
      rows = subst (AreRowsOf words split) (sym is) k.rows;
    }

-- the heap's bytes lie in the area's
pub map_within : (words : List ℕ) (split : ℕ) (b : List ℕ) (at upper : ℕ) → IsMapOf words split b at upper → upper ≤ length b
map_within words split b at upper k = let w = k.spells.within in omega (arith, k.upper_is)

-- one that is off the bytes that change stays
pub kept_off : (b c : List ℕ) (low upper : ℕ) → SameOutside b c low upper → (o : Option Map) → IfSome o (IsOff low upper) → IfSome o (IsKeptMap b)
    → IfSome o (IsKeptMap c)
kept_off b c low upper out None off k = tt
kept_off b c low upper out (Some s) off k = λ known.
    let m = k known in
    let within : s.upper ≤ length c = omega (arith, map_within s.lines.items s.split b s.at s.upper m, out.len) in
    elim (off known) [
      | inl above ↦ map_same s.lines.items s.split b c s.at s.upper (SameIn-above b c low upper s.at s.upper out above) within m
      | inr below ↦ map_same s.lines.items s.split b c s.at s.upper (SameIn-below b c low upper s.at s.upper out below) within m
    ]

-- one that isn't said to be up to date is kept of any bytes
pub kept_stale : (c : List ℕ) (o : Option Map) → IfSome o IsStale → IfSome o (IsKeptMap c)
kept_stale c None off = tt
kept_stale c (Some s) off = λ known. absurd (let bad : false ≡ true = sym off.0 ∙ known in cc)

module _ (m n : Memory) (old new : List (Option Map)) (id : ℕ) where
  -- what is known of one area and of the others
  pub each : AreKept m old → ((j : ℕ) → j ≢ id → map_of new j ≡ map_of old j) → ((j : ℕ) → j ≢ id → bytes n j ≡ bytes m j)
      → IfSome (map_of new id) (IsKeptMap (bytes n id)) → AreKept n new
  each k others stay here j = elim (cases_eq j id) [
    | inl same ↦ subst (λ i. IfSome (map_of new i) (IsKeptMap (bytes n i))) (sym same) here
    | inr apart ↦ rw (others j apart, stay j apart) (k j)
  ]

-- a map that isn't said to be up to date ends wherever one likes
ends_stale : (reach : ℕ) (o : Option Map) → IfSome o IsStale → IfSome o (EndsBy reach)
ends_stale reach None off = tt
ends_stale reach (Some s) off = λ known. absurd (let bad : false ≡ true = sym off.0 ∙ known in cc)

-- one that isn't said to be up to date stands as it has to
laid_stale : (o : Option Map) → IfSome o IsStale → IfSome o IsLaid
laid_stale None off = tt
laid_stale (Some s) off = off.1

module _ (old new : List (Option Map)) (id : ℕ) where
  laid_each : AreLaid old → ((j : ℕ) → j ≢ id → map_of new j ≡ map_of old j) → IfSome (map_of new id) IsLaid → AreLaid new
  laid_each l others here j = elim (cases_eq j id) [
    | inl same ↦ subst (λ i. IfSome (map_of new i) IsLaid) (sym same) here
    | inr apart ↦ rw (others j apart) (l j)
  ]

  pub laid_forgot : (low upper : ℕ) → AreLaid old → Forgot old new id low upper → AreLaid new
  laid_forgot low upper l f = laid_each l f.others (f.laid (l id))

  pub laid_spoilt : AreLaid old → Spoilt old new id → AreLaid new
  laid_spoilt l s = laid_each l s.others (laid_stale (map_of new id) s.off)

module _ (old new : List (Option Map)) (reach : List ℕ) (id : ℕ) where
  reached_each : AreReached old reach → ((j : ℕ) → j ≢ id → map_of new j ≡ map_of old j) → IfSome (map_of new id) (EndsBy (slice_index reach id))
      → AreReached new reach
  reached_each r others here j = elim (cases_eq j id) [
    | inl same ↦ subst (λ i. IfSome (map_of new i) (EndsBy (slice_index reach i))) (sym same) here
    | inr apart ↦ rw (others j apart) (r j)
  ]

  pub reached_forgot : (low upper : ℕ) → AreReached old reach → Forgot old new id low upper → AreReached new reach
  reached_forgot low upper r f = reached_each r f.others (f.ends (slice_index reach id) (r id))

  pub reached_spoilt : AreReached old reach → Spoilt old new id → AreReached new reach
  reached_spoilt r s = reached_each r s.others (ends_stale (slice_index reach id) (map_of new id) s.off)

-- bytes of an area are written
written : (m : Memory) (old new : List (Option Map)) (id low upper : ℕ) (bs : List ℕ) → AreKept m old → Forgot old new id low upper
    → SameOutside (bytes m id) bs low upper → AreKept (with_bytes m id bs) new
written m old new id low upper bs k f out =
    each m (with_bytes m id bs) old new id k f.others (bytes-with_other m id bs)
    (rw (bytes-with_bytes m id bs) (kept_off (bytes m id) bs low upper out (map_of new id) f.off (f.still (bytes m id) (k id))))

pub kept_written : (m : Memory) (old new : List (Option Map)) (reach : List ℕ) (id low upper : ℕ) (bs : List ℕ) → AreTied m old reach
    → Forgot old new id low upper → SameOutside (bytes m id) bs low upper → AreTied (with_bytes m id bs) new reach
kept_written m old new reach id low upper bs t f out =
    record {
      kept = written m old new id low upper bs t.kept f out;
      laid = laid_forgot old new id low upper t.laid f;
      reached = reached_forgot old new reach id low upper t.reached f;
    }

-- an area gets pages
grown_here : (m : Memory) (id n : ℕ) (o : Option Map) → IfSome o (IsKeptMap (bytes m id)) → IfSome o (IsKeptMap (bytes (grown m id n) id))
grown_here m id n None k = tt
grown_here m id n (Some s) k = λ known.
    let at = k known in
    let within = map_within s.lines.items s.split (bytes m id) s.at s.upper at in
    map_same s.lines.items s.split (bytes m id) (bytes (grown m id n) id) s.at s.upper (SameIn-grown m id n s.at s.upper within)
    (omega (arith, length-grown m id n)) at

pub kept_grown : (m : Memory) (maps : List (Option Map)) (id n : ℕ) → AreKept m maps → AreKept (grown m id n) maps
kept_grown m maps id n k = each m (grown m id n) maps maps id k (λ j apart. refl) (bytes-grown_other m id n) (grown_here m id n (map_of maps id) (k id))

-- an area loses its last pages
shrunk_here : (m : Memory) (id n : ℕ) → PAGE * n ≤ length (bytes m id) → (o : Option Map)
    → IfSome o (IsOff (length (bytes m id) - PAGE * n) (length (bytes m id))) → IfSome o (IsKeptMap (bytes m id))
    → IfSome o (IsKeptMap (bytes (shrunk m id n) id))
shrunk_here m id n room None off k = tt
shrunk_here m id n room (Some s) off k = λ known.
    let at = k known in
    let within = map_within s.lines.items s.split (bytes m id) s.at s.upper at in
    let fits = at.spells.heap.fits in
    elim (off known) [
      | inl above ↦ absurd (let up = at.upper_is in let least : 16 ≤ (heap_of (bytes m id) s.at).end = omega arith in omega arith)
      | inr below ↦ map_same s.lines.items s.split (bytes m id) (bytes (shrunk m id n) id) s.at s.upper (SameIn-shrunk m id n s.at s.upper (omega arith))
          (omega (arith, length-shrunk m id n)) at
    ]

pub kept_shrunk : (m : Memory) (old new : List (Option Map)) (reach : List ℕ) (id n : ℕ) → PAGE * n ≤ length (bytes m id) → AreTied m old reach
    → Forgot old new id (length (bytes m id) - PAGE * n) (length (bytes m id)) → AreTied (shrunk m id n) new reach
kept_shrunk m old new reach id n room t f = record {
  kept = each m (shrunk m id n) old new id t.kept f.others (bytes-shrunk_other m id n)
      (shrunk_here m id n room (map_of new id) f.off (f.still (bytes m id) (t.kept id)));
  laid = laid_forgot old new id _ _ t.laid f;
  reached = reached_forgot old new reach id _ _ t.reached f;
}

-- an area is opened, which had no bytes before
pub kept_opened : (m : Memory) (maps : List (Option Map)) (id : ℕ) → m.area id ≡ None → AreKept m maps → AreKept (opened m id) maps
kept_opened m maps id closed k =
    each m (opened m id) maps maps id k (λ j apart. refl) (bytes-opened_other m id) (rw (bytes-opened m id, ← bytes-none m id closed) (k id))

-- an area is closed
pub kept_closed : (m : Memory) (old new : List (Option Map)) (reach : List ℕ) (id : ℕ) → AreTied m old reach → Spoilt old new id
    → AreTied (closed m id) new reach
kept_closed m old new reach id t s = record {
  kept = each m (closed m id) old new id t.kept s.others (bytes-closed_other m id) (kept_stale (bytes (closed m id) id) (map_of new id) s.off);
  laid = laid_spoilt old new id t.laid s;
  reached = reached_spoilt old new reach id t.reached s;
}

-- of a map that was taken out of its place is known what was known there
pub taken : (P : Map → Type 0) (maps : List (Option Map)) (id : ℕ) (found : Option Map) (s : Map) → id < length maps → found ≡ get_or maps id found
    → Some s ≡ found → IfSome (map_of maps id) P → P s
taken P maps id found s there read is known = subst (λ o. IfSome o P) (sym (is ∙ get_or_read maps id found there read None)) known

-- ---- calls that may be refused
pub kept_grow : (m n : Memory) (maps : List (Option Map)) (id pages : ℕ) (result : Result (Unit {0}) StoreFault) → AreKept m maps
    → OnOk result (n ≡ grown m id pages) → OnErr result (n ≡ m) → AreKept n maps
kept_grow m n maps id pages (Ok x) k ok err = rw ok (kept_grown m maps id pages k)
kept_grow m n maps id pages (Err e) k ok err = rw err k

none_is : (o : Option (List ℕ)) → IsNone o → o ≡ None
none_is None h = refl
none_is (Some x) h = absurd cc

pub kept_open : (m n : Memory) (maps : List (Option Map)) (result : Result AreaId StoreFault) → AreKept m maps
    → IfOk result (λ id. IsNone (m.area id.0) × (n ≡ opened m id.0)) → OnErr result (n ≡ m) → AreKept n maps
kept_open m n maps (Ok id) k ok err = rw ok.1 (kept_opened m maps id.0 (none_is (m.area id.0) ok.0) k)
kept_open m n maps (Err e) k ok err = rw err k

-- ---- maps that change places
-- one more map isn't said to be up to date
pub loosened : (old mid new : List (Option Map)) (id : ℕ) → Loosened old mid → Spoilt mid new id → Loosened old new
loosened old mid new id l s j = elim (cases_eq j id) [
  | inl same ↦ inr (subst (λ i. IfSome (map_of new i) IsStale) (sym same) s.off)
  | inr apart ↦ rw (s.others j apart) (l j)
]

-- ---- maps of no heap yet
-- in the other order
pub stale_reversed : (maps : List (Option Map)) → AreStale maps → AreStale (reverse maps)
stale_reversed maps off id = elim (cases_lt id (length maps)) [
  | inl h ↦ rw (get_or-reverse maps id None h) (off (length maps - 1 - id))
  | inr h ↦ rw (get_or_past (reverse maps) id None (omega (arith, length-reverse maps))) tt
]

-- the first of them
pub stale_taken : (n : ℕ) (maps : List (Option Map)) → AreStale maps → AreStale (take n maps)
stale_taken n maps off id = elim (cases_lt id n) [
  | inl h ↦ rw (get_or-take n maps id None h) (off id)
  | inr h ↦ rw (get_or_past (take n maps) id None (omega (arith, length-take n maps))) tt
]

-- they are tied to any memory
pub tied_stale : (m : Memory) (maps : List (Option Map)) (reach : List ℕ) → AreStale maps → AreTied m maps reach
tied_stale m maps reach off = record {
  kept = λ id. kept_stale (bytes m id) (map_of maps id) (off id);
  laid = λ id. laid_stale (map_of maps id) (off id);
  reached = λ id. ends_stale (slice_index reach id) (map_of maps id) (off id);
}

-- ---- a map that is kept
module _ (maps : List (Option Map)) (id : ℕ) (s : Map) where
  -- what holds of a map holds of what stands in its place
  set_here : (P : Map → Type 0) → P s → IfSome (map_of (slice_set maps id (Some s)) id) P
  set_here P holds = elim (cases_lt id (length maps)) [
    | inl h ↦ rw (get_or-set_same maps id (Some s) None h) holds
    | inr h ↦ rw (get_or_past (slice_set maps id (Some s)) id None (omega (arith, length-set maps id (Some s)))) tt
  ]

  set_others : (j : ℕ) → j ≢ id → map_of (slice_set maps id (Some s)) j ≡ map_of maps j
  set_others j apart = get_or-set_other maps id j (Some s) None apart

  reached_set : (reach : List ℕ) → id < length reach → AreReached maps reach → AreReached (slice_set maps id (Some s)) (slice_set reach id s.upper)
  reached_set reach room r j = elim (cases_eq j id) [
    | inl same ↦
        let e : slice_index (slice_set reach id s.upper) id ≡ s.upper = get_or-set_same reach id s.upper 0 room in
        subst (λ i. IfSome (map_of (slice_set maps id (Some s)) i) (EndsBy (slice_index (slice_set reach id s.upper) i))) (sym same)
        (set_here (EndsBy (slice_index (slice_set reach id s.upper) id)) (λ known. omega (arith, e)))
    | inr apart ↦
        let e : slice_index (slice_set reach id s.upper) j ≡ slice_index reach j = get_or-set_other reach id j s.upper 0 apart in
        rw (set_others j apart, e) (r j)
  ]

  pub tied_set : (m : Memory) (reach : List ℕ) → id < length reach → AreTied m maps reach → IsKeptMap (bytes m id) s → IsLaid s
      → AreTied m (slice_set maps id (Some s)) (slice_set reach id s.upper)
  tied_set m reach room t is laid = record {
    kept = each m m maps (slice_set maps id (Some s)) id t.kept set_others (λ j apart. refl) (set_here (IsKeptMap (bytes m id)) is);
    laid = laid_each maps (slice_set maps id (Some s)) id t.laid set_others (set_here IsLaid laid);
    reached = reached_set reach room t.reached;
  }
