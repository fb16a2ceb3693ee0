use Rattle.rh_script.proofs.Common.{◌≡◌, ℕ, ◌+◌, List, ◌++◌, Option, Some, None, Ok, Err, refl, sym, ap, option_map, flat_map, segment_line, SegmentItem, find}
use Rattle.rh_defs.specs.declared.question.Numbers.TheVariants as numbers
use Rattle.rh_defs.specs.declared.refusal.Refusal.{Refusal}
use Rattle.rh_defs.specs.declared.refusal.Refusal.TheVariants.{NoName}
use Rattle.rh_defs.specs.declared.reply.Reply.TheVariants as reply
use Rattle.rh_defs.specs.Chain.{Granted, found_or, ◌>>=◌}
use Rattle.rh_defs.specs.Desk.{Desk, Task, has_name, named}
use Rattle.rh_defs.specs.Heap.{first_place, free_bytes, largest, segment_at}
use Rattle.rh_defs.specs.Questions.{Nothing, Segments, heap, heap_at, segment_item, segment_items, segment_items_from}
use Rattle.rh_defs.specs.Slot.{heap_start}
use Rattle.rh_defs.specs.Text.{answer_text, first_line, later_lines}
use Rattle.rh_script.specs.NamedSlots.{slot_or_empty}
use Rattle.rh_script.specs.Inner.SegmentsBehind.{segments_of_named}
use Rattle.rh_script.proofs.PrintLemmas.{ok_same, refused_alike, refused_text}
use Rattle.rh_script.proofs.segments.print_heap.Goals as goal

summed_text : (o : Option Task) (place : ℕ) (sums : ℕ × ℕ × ℕ) (item : Option SegmentItem)
    → (found_or o NoName >>= λ t. (let r : Granted ((ℕ × ℕ × ℕ) × Option SegmentItem) =
    Ok (
      (t.slot.heap.end, largest t.slot.heap, free_bytes t.slot.heap),
      option_map (λ s. segment_item (heap_start + place) s.here) (segment_at place t.slot.heap),
    ) in r)) ≡ Ok (sums, item)
    → first_line (reply.Answered (numbers.HeapSums sums.0 sums.1 sums.2)) Nothing ++ flat_map segment_line
    (segment_items_from (heap_start + first_place) (slot_or_empty o).heap.segments)
    ≡ answer_text (found_or o NoName
    >>= λ t. Ok (numbers.HeapSums t.slot.heap.end (largest t.slot.heap) (free_bytes t.slot.heap), Segments (segment_items t.slot)))
unfolding ◌>>=◌ found_or answer_text first_line later_lines
summed_text None place sums item e = absurd (cc)
summed_text (Some t) place sums item e =
    let same : sums ≡ (t.slot.heap.end, largest t.slot.heap, free_bytes t.slot.heap) =
    ap (λ (p : (ℕ × ℕ × ℕ) × Option SegmentItem). p.0) (sym (ok_same e)) in
    rw same refl

module _ (d : Desk) (name : List ℕ) where
  heap_text : (place : ℕ) (sums : ℕ × ℕ × ℕ) (item : Option SegmentItem) → heap_at d name place ≡ Ok (sums, item)
      → first_line (reply.Answered (numbers.HeapSums sums.0 sums.1 sums.2)) Nothing ++ flat_map segment_line (segments_of_named name d)
      ≡ answer_text (heap d name)
  unfolding heap_at heap named
  heap_text place sums item e = summed_text (find (has_name name) d.tasks) place sums item e

  heap_refused : (place : ℕ) (refusal : Refusal) → heap_at d name place ≡ Err refusal → heap d name ≡ Err refusal
  unfolding heap_at heap
  heap_refused place refusal e = refused_alike (named name d) _ _ refusal e

pub returns-in-Ok : goal.returns-in-Ok
returns-in-Ok g c =
    rw (← heap_text c.args.world.now.desk c.args.name.now _ _ _ (sym c.in-Ok.ensures)) c.print_sums.ensures

pub returns-in-Err : goal.returns-in-Err
returns-in-Err g c =
    rw (← refused_text _ _ (heap_refused c.args.world.now.desk c.args.name.now _ _ (sym c.in-Err.ensures))) c.put_first_line.ensures
