-- What is held has as many bytes as its record counts, and a record counts no more than was offered.
use Rattle.rh_safety.proofs.Common.{◌≡◌, ℕ, ◌≤◌, Bool, true, false, List, [], length, take, Option, Some, None, refl, sym, ap, ◌∙◌, subst, arith, ◌==◌, find}
use Rattle.rh_safety.proofs.Common.{Command, Incoming, in_id, Desk, Task, task_at, start_with, after, in_anchor, view, blocks_of, Has, first_is, has_of}
use Rattle.rh_safety.proofs.Common.{is_equal, length_take, same_value, Offered, Counts, Untouched, IsGood, Good, field_is}
use Rattle.std.specs.List.{Contains}
use Rattle.rh_defs.specs.declared.transfer.Incoming.TheVariants as incoming
use Rattle.rh_safety.specs.Offered.{bytes_of_block, offered}
use Rattle.rh_safety.specs.Held.{document_of, held_of}
use Rattle.rh_safety.specs.Counts.{counted_in, AlwaysCounts, CountsHeld, CountsFile, CountsOffered}
use Rattle.rh_safety.specs.RawIds.{Gave, is_raw_id}
use Rattle.rh_safety.proofs.Masks.{masked}
use Rattle.rh_safety.proofs.Strangers.{counts_same}
use Rattle.rh_safety.proofs.SeenLaws.{block_is, stands_after}

-- a front of n bytes, of a file that has so many
front_counts : (n : ℕ) (all got : List ℕ) → n ≤ length all → Option.Some (take n all) ≡ Some got → length got ≡ n
front_counts n all got fits same =
    let bytes : take n all ≡ got = cc in
    ap (λ (v : List ℕ). length v) (sym bytes) ∙ length_take n all fits

-- the whole of a file that has n bytes
whole_counts : (o : Option (List ℕ)) (n : ℕ) (all file got : List ℕ) → o ≡ Some all → o ≡ Some file → n ≡ length file →
    Option.Some all ≡ Some got → length got ≡ n
whole_counts o n all file got p q is same =
    let bytes : all ≡ got = cc in
    let one : all ≡ file = same_value o p q in
    ap (λ (v : List ℕ). length v) (sym bytes ∙ one) ∙ sym is

-- the document of a record that no edit came to
record_counts : (o : Offered) (w : Incoming) (bytes : Option (List ℕ)) (got : List ℕ) → IsGood o w bytes → Counts o w →
    bytes ≡ Some got → length got ≡ counted_in w
record_counts o (incoming.Fetching f) bytes got g c q = front_counts f.count g.all got g.fits (sym g.there ∙ q)
record_counts o (incoming.Draining f) bytes got g c q = front_counts f.count g.all got g.fits (sym g.there ∙ q)
record_counts o (incoming.Asking a) bytes got g c q = front_counts 0 g.all got g.fits (sym g.there ∙ q)
record_counts o (incoming.Failed i a k) bytes got g c q = front_counts k g.all got g.fits (sym g.there ∙ q)
record_counts o (incoming.Done i a k) bytes got g c q =
    whole_counts (o i) k g.all c.all got g.offered c.offered c.whole (sym g.there ∙ q)

pub untouched : (e : ℕ → Bool) (w : Incoming) → e (in_id w) ≡ false → Untouched e w
untouched e (incoming.Fetching f) q = tt
untouched e (incoming.Draining f) q = q
untouched e (incoming.Asking a) q = tt
untouched e (incoming.Failed i a k) q = q
untouched e (incoming.Done i a k) q = q

-- what is held is the document of the record, to which no edit came
pub record IsShown (t : Task) (w : Incoming) (edited : Bool) (got : List ℕ) : Type 0 where
  pub clean : edited ≡ false
  pub there : bytes_of_block t.slot (in_anchor w) ≡ Some got

pub shown_by : (t : Task) (w : Incoming) (edited : Bool) (got : List ℕ) → document_of t edited (Some w) ≡ Some got →
    IsShown t w edited got
shown_by t w true got q = absurd (let z : None ≡ Some got = q in cc)
shown_by t w false got q = record { clean = refl; there = q }

module _ {o : Offered} {e : ℕ → ℕ → Bool} (R : Gave) (d : Desk) (g : Good o e (masked R (view d))) (h : ℕ) (t : Task) (w : Incoming)
    (at : task_at h d ≡ Some t) where
  seen : Has w t.taking → Has w ((view d).taking h)
  seen has = subst (λ (y : List Incoming). Has w y) (sym (field_is (λ y. y.taking) [] h d.tasks t at)) has

  held_counts : (id : ℕ) (got : List ℕ) → held_of (task_at h d) id (e h id) ≡ Some got →
      find (λ (r : Incoming). in_id r == id) t.taking ≡ Some w → length got ≡ counted_in w
  held_counts id got q found =
      let one : document_of t (e h id) (find (λ (r : Incoming). in_id r == id) t.taking) ≡ Some got =
      ap (λ (v : Option Task). held_of v id (e h id)) (sym at) ∙ q in
      let s = shown_by t w (e h id) got (ap (document_of t (e h id)) (sym found) ∙ one) in
      let which = first_is (λ (r : Incoming). in_id r == id) t.taking w found in
      let has = seen which.0 in
      let clean : e h (in_id w) ≡ false = ap (e h) (is_equal _ _ which.1) ∙ s.clean in
      let there : (view d).block h (in_anchor w) ≡ Some got =
      ap (λ (f : ℕ → Option (List ℕ)). f (in_anchor w)) (field_is (λ y. blocks_of y.slot) (λ a. None) h d.tasks t at) ∙
      block_is t.slot (in_anchor w) ∙ s.there in
      record_counts o w ((view d).block h (in_anchor w)) got (g.inv.ins.good h w has (untouched (e h) w clean))
      (g.inv.ins.counted h w has) there

  offered_counts : Contains t.taking w → Counts o w
  offered_counts has = g.inv.ins.counted h w (seen (has_of t.taking w has))

pub always_counts_held : AlwaysCounts CountsHeld
always_counts_held pool handle ref files cs from ranged id h got t w q at found =
    held_counts (is_raw_id (start_with pool files handle ref) cs) (after (start_with pool files handle ref) cs)
    (stands_after pool handle ref files cs from ranged).good h t w at
    id got q found

-- ---- beside what was offered

file_counts : (d : Desk) (cs : List Command) (w : Incoming) → Counts (offered d cs) w → CountsFile d cs w
file_counts d cs (incoming.Fetching f) c = record { file = c.all; is = c.offered; most = c.fits; all = λ no. absurd cc }
file_counts d cs (incoming.Draining f) c = record { file = c.all; is = c.offered; most = c.fits; all = λ no. absurd cc }
file_counts d cs (incoming.Asking q) c = record { file = c.all; is = c.offered; most = c.fits; all = λ no. absurd cc }
file_counts d cs (incoming.Failed i a k) c = record { file = c.all; is = c.offered; most = c.fits; all = λ no. absurd cc }
file_counts d cs (incoming.Done i a k) c =
    let whole = c.whole in record { file = c.all; is = c.offered; most = omega arith; all = λ yes. whole }

pub always_counts_offered : AlwaysCounts CountsOffered
always_counts_offered pool handle ref files cs from ranged h t w at has mine =
    let d = start_with pool files handle ref in
    let s = stands_after pool handle ref files cs from ranged in
    file_counts d cs w (counts_same s.offers (offered d cs) w (sym (s.same (in_id w) mine))
    (offered_counts (is_raw_id d cs) (after d cs) s.good h t w at has))
