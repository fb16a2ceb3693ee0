use Rattle.rh_script.proofs.Common.{◌≡◌, ℕ, suc, ◌+◌, List, [], ◌∷◌, ◌++◌, length, Ok, Err, refl, ap, decimal, flat_map, ok, block_line}
use Rattle.rh_defs.specs.declared.question.BlockItem.{BlockItem}
use Rattle.rh_defs.specs.declared.question.Numbers.TheVariants as numbers
use Rattle.rh_defs.specs.declared.refusal.Refusal.{Refusal}
use Rattle.rh_defs.specs.Chain.{Granted, ◌>>=◌}
use Rattle.rh_defs.specs.Desk.{Desk, Task, named}
use Rattle.rh_defs.specs.Questions.{Blocks, block_items, block_items_from, blocks}
use Rattle.rh_defs.specs.Slot.{Flex, weight, flex_start}
use Rattle.rh_defs.specs.Text.{answer_text, first_line, later_lines}
use Rattle.rh_tasks.specs.WorldLists.{blocks_of}
use Rattle.rh_script.proofs.PrintLemmas.{refused_alike, refused_text}
use Rattle.rh_script.proofs.listed.print_blocks.Goals as goal

items_length : (place : ℕ) (blocks : List Flex) → length (block_items_from place blocks) ≡ length blocks
items_length place [] = refl
items_length place (b ∷ blocks) = ap suc (items_length (place + weight b) blocks)

counted_text : (g : Granted Task) (items : List BlockItem) → (g >>= λ t. Ok (block_items t.slot)) ≡ Ok items
    → ok (decimal (length items) ∷ []) ++ flat_map block_line items ≡ answer_text
    (g >>= λ t. Ok (numbers.BlockCount (length t.slot.blocks), Blocks (block_items t.slot)))
unfolding ◌>>=◌ answer_text first_line later_lines
counted_text (Ok t) items e =
    let same : items ≡ block_items t.slot = cc in
    let count : length (block_items t.slot) ≡ length t.slot.blocks = items_length (flex_start t.slot) t.slot.blocks in
    rw same (ap (λ n. ok (decimal n ∷ []) ++ flat_map block_line (block_items t.slot)) count)
counted_text (Err r) items e = absurd (cc)

module _ (d : Desk) (name : List ℕ) where
  blocks_text : (items : List BlockItem) → blocks_of d name ≡ Ok items
      → ok (decimal (length items) ∷ []) ++ flat_map block_line items ≡ answer_text (blocks d name)
  unfolding blocks_of blocks
  blocks_text items e = counted_text (named name d) items e

  blocks_refused : (refusal : Refusal) → blocks_of d name ≡ Err refusal → blocks d name ≡ Err refusal
  unfolding blocks_of blocks
  blocks_refused refusal e = refused_alike (named name d) _ _ refusal e

pub returns-in-Ok : goal.returns-in-Ok
returns-in-Ok g c =
    rw (← blocks_text c.args.world.now.desk c.args.name.now _ c.in-Ok.ensures.ok, ← c.len.ensures.value, ← c.deref.ensures.0) c.print_counted.ensures

pub returns-in-Err : goal.returns-in-Err
returns-in-Err g c =
    rw (← refused_text _ _ (blocks_refused c.args.world.now.desk c.args.name.now _ c.in-Err.ensures.err.0)) c.put_first_line.ensures
