-- What is known of a heap's bytes in part: while a walk goes over them, and while a stretch between segments stands
-- open. Read HeapImage first. b is the bytes, at where the heap begins in them, p the place of a segment, f and q
-- places of links, bs a block's bytes; xs are the segments before the stretch, ys those behind. x is a place from `at`
-- on, 0 for none. `-` of naturals stops at 0: *rest_in* has no segments where place is not below base.
use Rattle.std.specs.Prelude.{◌≡◌, ◌≢◌, ℕ, ◌+◌, ◌-◌, ◌<◌, ◌≤◌, ◌%◌, List, [], ◌∷◌, length}
use Rattle.rh_defs.specs.Bytes.{word, part}
use Rattle.rh_defs.specs.Pieces.{total}
use Rattle.rh_defs.specs.Heap.{Segment, Used, Hole, size_of}
use Rattle.rh_defs.specs.HeapImage.{Stand, segments_read, special_word}

-- each hole has room for its two words
abbrev pub HasRoom : List Segment → Type 0
HasRoom [] = Unit {0}
HasRoom (Used bytes ∷ ss) = HasRoom ss
HasRoom (Hole n ∷ ss) = (8 ≤ n) × HasRoom ss

-- the place of the last link behind segments that stand at p
abbrev pub last_link : ℕ → ℕ → List Segment → ℕ
last_link f p [] = f
last_link f p (Used bs ∷ ss) = last_link f (p + (4 + length bs)) ss
last_link f p (Hole n ∷ ss) = last_link p (p + n) ss

-- the segments stand there, and nothing is said of the last link
abbrev pub Open : List ℕ → ℕ → ℕ → List Segment → Type 0
Open b f p [] = Unit {0}
Open b f p (Used bs ∷ ss) = (word b p ≡ 4 + length bs) × (part b (p + 4) (length bs) ≡ bs) × Open b f (p + (4 + length bs)) ss
Open b f p (Hole n ∷ ss) = (f + word b f ≡ p) × (word b (p + 4) ≡ n) × Open b p (p + n) ss

-- The link at place f leads to the place at + x, or is 0 where x is 0.
pub record LinksTo (b : List ℕ) (at f x : ℕ) : Type 0 where
  pub none : x ≡ 0 → word b f ≡ 0
  pub some : x ≢ 0 → f + word b f ≡ at + x
  pub ahead : x ≢ 0 → f < at + x

-- The segments stand from place p on, and the first hole of them is where at + x is: x is 0 for none.
abbrev pub Await : List ℕ → ℕ → ℕ → ℕ → List Segment → Type 0
Await b at x p [] = x ≡ 0
Await b at x p (Used bs ∷ ss) = (word b p ≡ 4 + length bs) × (part b (p + 4) (length bs) ≡ bs) × Await b at x (p + (4 + length bs)) ss
Await b at x p (Hole n ∷ ss) = (at + x ≡ p) × (word b (p + 4) ≡ n) × Stand b p (p + n) ss

-- Of the heap's bytes from `at` on, all is there but what lies from low up to upper, the base, and the link at q before.
pub record HasStretch (b : List ℕ) (at end : ℕ) (xs ys : List Segment) (q low x upper : ℕ) : Type 0 where
  pub special : word b at ≡ special_word
  pub last : word b (at + 12) ≡ end
  pub within : at + end ≤ length b
  pub multiple : end % 8 ≡ 0
  pub fits : upper + total size_of ys ≤ at + end
  pub front : Open b (at + 4) (at + 16) xs
  pub link : q ≡ last_link (at + 4) (at + 16) xs
  pub place : low ≡ at + 16 + total size_of xs
  pub order : low ≤ upper
  pub tail : Await b at x upper ys
  pub room_before : HasRoom xs
  pub room_behind : HasRoom ys

-- the segments from a place up to base
abbrev pub rest_in : List ℕ → ℕ → ℕ → ℕ → List Segment
rest_in b base from place = segments_read (length b) b from place (base - place)

-- The segments that are left stand from a place up to base, where the link at `from` leads to their first hole.
pub record IsRest (b : List ℕ) (base from place : ℕ) : Type 0 where
  pub stand : Stand b from place (rest_in b base from place)
  pub room : HasRoom (rest_in b base from place)
  pub ends : place + total size_of (rest_in b base from place) ≡ base
  pub within : base ≤ length b
  pub ahead : from + 4 ≤ place
