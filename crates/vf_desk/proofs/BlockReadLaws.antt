-- What is read of blocks, on each desk that a handle may be seen as.
use Rattle.vf_desk.proofs.Common.{◌≡◌, ℕ, List, Option, Some, None, Result, Ok, Err, refl, sym, ap, subst, ◌∙◌, MatchResult, Desk, Console, SeenBy}
use Rattle.vf_desk.proofs.Common.{closed_status}
use Rattle.std.specs.Option.{option_map}
use Rattle.rh_defs.specs.declared.refusal.Refusal.{Refusal}
use Rattle.rh_defs.specs.Chain.{Granted}
use Rattle.rh_defs.specs.Desk.{named}
use Rattle.rh_defs.specs.Messages.{Parcel}
use Rattle.rh_defs.specs.Order.{IsReordered, SameForEach, with_queue}
use Rattle.rh_defs.specs.Questions.{shown_at}
use Rattle.rh_tasks.specs.BlockBytes.{block_shown}
use Rattle.rh_tasks.proofs.BlockOrders.{block_shown-same, module_shown-same}
use Rattle.vf_desk.specs.declared.block_reads.Lookup.{Lookup}
use Rattle.vf_desk.specs.declared.block_reads.Lookup.TheVariants as place
use Rattle.vf_desk.specs.BlockReads.{Read, Reading, Tells, anchor_reading, block_reading, bytes_or, read_by, read_on, reading_with}
use Rattle.vf_desk.specs.BlockReads.{size_or, status_of_read}
use Rattle.vf_desk.specs.DeskForms.{anchor_in, name_read}
use Rattle.vf_desk.specs.DeskStatus.{bad_argument, refusal_number}
use Rattle.vf_desk.specs.Inner.BlockSteps.{IsRead, reading_of}

-- ---- the order of messages to different tasks isn't seen

-- a read that gives the same whatever the queue is
abbrev pub Unordered : Reading → Type 0
Unordered reading = (d : Desk) (queue : List Parcel) → SameForEach d.post.queued queue → reading (with_queue queue d) ≡ reading d

-- each of a place
abbrev pub AllUnordered : Option Reading → Type 0
AllUnordered None = Unit {0}
AllUnordered (Some reading) = Unordered reading

shown-same : (name : List ℕ) (k offset n : ℕ) → Unordered (λ d. shown_at d name k offset n)
unfolding shown_at named
shown-same name k offset n d queue same = refl

unordered : (p : Lookup) (offset n : ℕ) → AllUnordered (reading_of p offset n)
unordered (place.Anchored name anchor) offset n = go (name_read name.now) (anchor_in anchor)
  where
    go : (known : Option (List ℕ)) (k : Option ℕ) → AllUnordered (reading_with known k offset n)
    go None k = tt
    go (Some known) None = tt
    go (Some known) (Some k) = shown-same known k offset n
unordered (place.Addressed name address) offset n = go (name_read name.now)
  where
    go : (known : Option (List ℕ)) → AllUnordered (option_map (λ known d. block_shown d known address offset n) known)
    go None = tt
    go (Some known) = λ d queue same. block_shown-same d queue known address offset n
unordered (place.InModule address) offset n = λ d queue same. module_shown-same d queue same address offset n

pub read-alike : (p : Lookup) (offset n : ℕ) {a b : Desk} → IsReordered a b
    → read_by (Some b) (reading_of p offset n) ≡ read_by (Some a) (reading_of p offset n)
read-alike p offset n {a} {b} r = go (reading_of p offset n) (unordered p offset n)
  where
    go : (reading : Option Reading) → AllUnordered reading → read_by (Some b) reading ≡ read_by (Some a) reading
    go None all = refl
    go (Some reading) all = ap read_on (ap reading r.rest ∙ all a b.post.queued r.same)

-- ---- on a desk that is open, and on one that isn't

pub read-open : {held : Option Console} {console : Console} → held ≡ Some console → (p : Lookup) (offset n : ℕ) (s : Option Desk) → SeenBy held s
    → read_by s (reading_of p offset n) ≡ read_by (Some console.world.desk) (reading_of p offset n)
read-open {held} {console} is p offset n s seen = go s (subst (λ h. SeenBy h s) is seen)
  where
    go : (s : Option Desk) → SeenBy (Some console) s → read_by s (reading_of p offset n) ≡ read_by (Some console.world.desk) (reading_of p offset n)
    go None seen = absurd seen
    go (Some d) seen = sym (read-alike p offset n seen)

pub read-closed : {held : Option Console} → held ≡ None → (reading : Option Reading) (s : Option Desk) → SeenBy held s → read_by s reading ≡ Err closed_status
read-closed {held} is reading s seen = go s (subst (λ h. SeenBy h s) is seen)
  where
    go : (s : Option Desk) → SeenBy None s → read_by s reading ≡ Err closed_status
    go None seen = refl
    go (Some d) seen = absurd seen

-- ---- what is told of it

pub tells-status : {read : Read} (status was : ℕ) (before : List ℕ) → read ≡ Err status → Tells read status was was before before
tells-status status was before e = record {
  status_is = sym (ap status_of_read e);
  size_is = sym (ap (λ r. size_or r was) e);
  bytes_are = sym (ap (λ r. bytes_or r before) e);
}

module _ (reading : Option Reading) (d : Desk) (was : ℕ) (before after : List ℕ) where
  -- a name or an anchor isn't of its form
  pub tells-bad : IsRead reading d None before after → Tells (read_by (Some d) reading) bad_argument was was before after
  tells-bad is = go reading is
    where
      go : (reading : Option Reading) → IsRead reading d None before after → Tells (read_by (Some d) reading) bad_argument was was before after
      go None is = record { status_is = refl; size_is = refl; bytes_are = is }
      go (Some reading) is = absurd is

  pub tells-refused : (e : Refusal) → IsRead reading d (Some (Err e)) before after
      → Tells (read_by (Some d) reading) (refusal_number e) was was before after
  tells-refused e is = go reading is
    where
      answered : (g : Granted (ℕ × List ℕ)) → MatchResult g (λ p. ((let r : Result ℕ Refusal = Err e in r) ≡ Ok p.0) × (after ≡ p.1))
          (λ x. ((let r : Result ℕ Refusal = Err e in r) ≡ Err x) × (after ≡ before)) → Tells (read_on g) (refusal_number e) was was before after
      answered (Ok p) a = absurd (let bad = a.0 in cc)
      answered (Err x) a =
          let first = a.0 in
          let same : e ≡ x = cc in
          record { status_is = ap refusal_number same; size_is = refl; bytes_are = a.1 }

      go : (reading : Option Reading) → IsRead reading d (Some (Err e)) before after
          → Tells (read_by (Some d) reading) (refusal_number e) was was before after
      go None is = absurd is
      go (Some reading) is = answered (reading d) is

  pub tells-read : (size : ℕ) → IsRead reading d (Some (Ok size)) before after → Tells (read_by (Some d) reading) 0 was size before after
  tells-read size is = go reading is
    where
      answered : (g : Granted (ℕ × List ℕ)) → MatchResult g (λ p. ((let r : Result ℕ Refusal = Ok size in r) ≡ Ok p.0) × (after ≡ p.1))
          (λ x. ((let r : Result ℕ Refusal = Ok size in r) ≡ Err x) × (after ≡ before)) → Tells (read_on g) 0 was size before after
      answered (Ok p) a =
          let first = a.0 in
          let same : size ≡ p.0 = cc in
          record { status_is = refl; size_is = same; bytes_are = a.1 }
      answered (Err x) a = absurd (let bad = a.0 in cc)

      go : (reading : Option Reading) → IsRead reading d (Some (Ok size)) before after → Tells (read_by (Some d) reading) 0 was size before after
      go None is = absurd is
      go (Some reading) is = answered (reading d) is

-- ---- what a world answers, by its arguments

pub is-read-none : (reading : Option Reading) (d : Desk) (bytes : List ℕ) → None ≡ reading → IsRead reading d None bytes bytes
is-read-none reading d bytes e = subst (λ r. IsRead r d None bytes bytes) e refl

pub is-read : (reading : Option Reading) (d : Desk) (word : Reading) (answer : Result ℕ Refusal) (before after : List ℕ) → Some word ≡ reading
    → MatchResult (word d) (λ p. (answer ≡ Ok p.0) × (after ≡ p.1)) (λ e. (answer ≡ Err e) × (after ≡ before)) → IsRead reading d (Some answer) before after
is-read reading d word answer before after e m = subst (λ r. IsRead r d (Some answer) before after) e m

module _ (name : List ℕ) (offset n : ℕ) where
  pub nameless-block : (address : ℕ) → None ≡ name_read name → None ≡ block_reading name address offset n
  nameless-block address none = ap (option_map (λ known d. block_shown d known address offset n)) none

  pub nameless-anchor : (anchor : ℕ) → None ≡ name_read name → None ≡ anchor_reading name anchor offset n
  nameless-anchor anchor none = ap (λ o. reading_with o (anchor_in anchor) offset n) none

  module _ (known : List ℕ) (named : Some known ≡ name_read name) where
    pub named-block : (address : ℕ) → Some (λ (d : Desk). block_shown d known address offset n) ≡ block_reading name address offset n
    named-block address = ap (option_map (λ known d. block_shown d known address offset n)) named

    pub no-anchor-there : (anchor : ℕ) → None ≡ anchor_in anchor → None ≡ anchor_reading name anchor offset n
    no-anchor-there anchor none = ap (λ o. reading_with (Some known) o offset n) none ∙ ap (λ o. reading_with o (anchor_in anchor) offset n) named

    pub named-anchor : (anchor k : ℕ) → Some k ≡ anchor_in anchor → Some (λ (d : Desk). shown_at d known k offset n) ≡ anchor_reading name anchor offset n
    named-anchor anchor k some = ap (λ o. reading_with (Some known) o offset n) some ∙ ap (λ o. reading_with o (anchor_in anchor) offset n) named
