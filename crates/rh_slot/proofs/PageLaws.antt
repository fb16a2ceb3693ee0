-- A flex block whose header is read in the bytes of a page.
use Rattle.rh_slot.proofs.Common.{◌≡◌, ℕ, ◌+◌, ◌-◌, ◌/◌, ◌<◌, ◌≤◌, inl, inr, true, List, length, refl, sym, ap, ◌∙◌, arith, cases_lt, PAGE, word, part, Slot}
use Rattle.rh_slot.proofs.Common.{slot_start, SlotWords, heap_place, is_block, BlockItem, length-part, Walked, row_item}
use Rattle.rh_defs.proofs.BytesLaws.{word-part}
use Rattle.rh_defs.proofs.SlotImageLaws.{is_block-yes, is_block-is}
use Rattle.rh_slot.specs.Inner.RowWalks.{Headed}
use Rattle.rh_slot.proofs.WalkLaws.{Turn, turn}

-- the first page has all anchor words
pub anchors_long : (b anchors : List ℕ) → anchors ≡ part b 0 PAGE → heap_place ≤ length anchors
anchors_long b anchors e = omega (arith, ap length e, length-part b 0 PAGE)

module _ (b anchors page : List ℕ) (start n at place : ℕ) (item : BlockItem) (first : anchors ≡ part b 0 PAGE) (rest : page ≡ part b start n)
    (e : place ≡ start + at) (h : Headed anchors page at place item) where
  long : length page ≡ n
  long = ap length rest ∙ length-part b start n

  -- a word of the header is the area's
  in_header : (k : ℕ) → k ≤ 4 → word page (at + k) ≡ word b (place + k)
  in_header k l = let w = h.whole in let z = long in ap (λ l. word l (at + k)) rest ∙ word-part b start n (at + k) (omega arith) ∙ ap (word b) (omega arith)

  head_word : word page at ≡ word b place
  head_word = ap (word page) (omega arith) ∙ in_header 0 (omega arith) ∙ ap (word b) (omega arith)

  headed_size : item.size ≡ word b (place + 4)
  headed_size = ap (λ (i : BlockItem). i.size) h.is ∙ in_header 4 (omega arith)

  anchor_word : (k : ℕ) → k ≤ heap_place → word anchors k ≡ word b k
  anchor_word k l = ap (λ l. word l k) first ∙ word-part b 0 PAGE k (omega arith) ∙ ap (word b) (omega arith)

  headed_block : is_block b place ≡ true
  headed_block =
      let w = head_word in
      let least = h.least in
      let most = h.most in
      let multiple = h.multiple in
      is_block-yes b place (record {
        least = omega arith;
        most = omega arith;
        multiple = omega arith;
        back = ap (λ a. word b (a - 32768)) (sym w) ∙ (sym (anchor_word (word page at - 32768) (omega arith)) ∙ h.back);
      })

  headed_item : item ≡ row_item b place
  headed_item =
      h.is
      ∙ (ap (λ w. let r : BlockItem = record { anchor = (w - 32768) / 4; address = 32768 + place + 8; size = word page (at + 4) } in r) head_word
      ∙ ap (λ w. let r : BlockItem = record { anchor = (word b place - 32768) / 4; address = 32768 + place + 8; size = w } in r) (in_header 4 (omega arith)))

-- a block's header that lies whole in the page
module _ (b anchors page : List ℕ) (start n at place : ℕ) (first : anchors ≡ part b 0 PAGE) (rest : page ≡ part b start n) (e : place ≡ start + at)
    (within : at + 8 ≤ n) where
  first_word : word page at ≡ word b place
  first_word = ap (λ l. word l at) rest ∙ word-part b start n at (omega arith) ∙ ap (word b) (omega arith)

  header_in : is_block b place ≡ true
      → Headed anchors page at place (record { anchor = (word page at - slot_start) / 4; address = slot_start + place + 8; size = word page (at + 4) })
  header_in t =
      let i = is_block-is b place t in
      let w = first_word in
      let least = i.least in
      let most = i.most in
      let multiple = i.multiple in
      record {
        whole = omega (arith, ap length rest, length-part b start n);
        least = omega arith;
        most = omega arith;
        multiple = omega arith;
        back = ap (λ l. word l (word page at - slot_start)) first ∙ word-part b 0 PAGE (word page at - slot_start) (omega arith) ∙ ap (word b) (omega arith)
            ∙ i.back;
        is = refl;
      }

-- where no header was found, none lies whole in the page
pub beyond : (b anchors page : List ℕ) (start n at place : ℕ) → anchors ≡ part b 0 PAGE → page ≡ part b start n → place ≡ start + at
    → ((item : BlockItem) → Headed anchors page at place item → ⊥) → is_block b place ≡ true → start + n < place + 8
beyond b anchors page start n at place first rest e none t = elim (cases_lt (start + n) (place + 8)) [
  | inl l ↦ l
  | inr l ↦ absurd (none _ (header_in b anchors page start n at place first rest e (omega arith) t))
]

-- what a walk finds in such a header
pub record Passes (b : List ℕ) (s : Slot) (place : ℕ) (item : BlockItem) : Type 0 where
  pub block : is_block b place ≡ true
  pub size : item.size ≡ word b (place + 4)
  pub is : item ≡ row_item b place
  pub turned : Turn b s place item.size

pub passes : (b anchors page : List ℕ) (s : Slot) (start n at place : ℕ) (item : BlockItem) → SlotWords b s → Walked s place → anchors ≡ part b 0 PAGE
    → page ≡ part b start n → place ≡ start + at → Headed anchors page at place item → Passes b s place item
passes b anchors page s start n at place item k w first rest e h =
    let block = headed_block b anchors page start n at place item first rest e h in
    let size = headed_size b anchors page start n at place item first rest e h in
    record {
      block = block;
      size = size;
      is = headed_item b anchors page start n at place item first rest e h;
      turned = turn b s place k w block item.size size;
    }
