-- The anchor word that is noted before a call.
use Rattle.std.specs.Prelude.{◌≡◌, ℕ, ◌+◌, ◌-◌, ◌*◌, ◌%◌, ◌^◌, ◌≤◌, ◌==◌, true, if◌then◌else◌, List, [], ◌∷◌, Option, Some, None}
use Rattle.rh_defs.specs.Bytes.{word}
use Rattle.rh_defs.specs.Pieces.{Split}
use Rattle.rh_defs.specs.Slot.{Flex, Slot, block_of, slot_start}
use Rattle.rh_defs.specs.SlotImage.{is_block}
use Rattle.rh_defs.specs.declared.sizes.TheConstants.{C_HEAP_PLACE, WORD}
use Rattle.rh_lent_slot.specs.declared.slides.NotedWord.{NotedWord}

-- the blocks behind a cut
abbrev pub behind_cut : Option (Split Flex) → List Flex
behind_cut None = []
behind_cut (Some cut) = cut.after

-- the blocks above the anchor's, none where it has none
abbrev pub blocks_above : ℕ → Slot → List Flex
blocks_above k s = behind_cut (block_of k s)

-- a block stands at a place, and this is its anchor word
pub record LeadsTo (b : List ℕ) (place : ℕ) (noted : NotedWord) : Type 0 where
  pub stands : is_block b place ≡ true
  pub at : noted.at ≡ word b place - slot_start
  pub word : noted.word ≡ word b noted.at
  pub within : noted.at + WORD ≤ C_HEAP_PLACE

-- what is noted is the anchor word of the first of these blocks
abbrev pub NotesFirst : List ℕ → List Flex → Option NotedWord → Type 0
NotesFirst b [] None = Unit {0}
NotesFirst b [] (Some noted) = ⊥
NotesFirst b (g ∷ gs) None = ⊥
NotesFirst b (g ∷ gs) (Some noted) = (noted.at ≡ WORD * g.anchor) × (noted.word ≡ word b noted.at)

-- the count of slides behind a call that left these bytes
abbrev pub slides_noted : ℕ → Option NotedWord → List ℕ → ℕ
slides_noted n None c = n
slides_noted n (Some noted) c = if word c noted.at == noted.word then n else (n + 1) % 2 ^ 32
