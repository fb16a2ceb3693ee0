-- Names that many of the proofs here cite, passed on in one place.
pub use Rattle.std.proofs.Common.{◌≡◌, ◌≢◌, ℕ, zero, suc, ◌+◌, ◌-◌, ◌*◌, ◌/◌, ◌%◌, ◌^◌, ◌<◌, ◌≤◌, ◌==◌, ◌⊎◌, inl, inr, Bool, true, false, cond}
pub use Rattle.std.proofs.Common.{List, [], ◌∷◌, ◌++◌, length, get_or, take, drop, replicate, refl, sym, ap, subst, ◌∙◌, arith, length-append, append_assoc}
pub use Rattle.std.specs.Prelude.{not, nat_le, nat_lt, ◌&&◌, ◌||◌, if◌then◌else◌, Option, Some, None, Ok, Err}
pub use Rattle.std.proofs.lemmas.Bool.{cases_eq, cases_lt}
pub use Rattle.std.proofs.lemmas.Bool.Decides.{nat_tests}
pub use Rattle.std.proofs.lemmas.List.{length-replicate}
pub use Rattle.rh_defs.specs.Bytes.{word, part, with_part, put_word, SameIn}
pub use Rattle.rh_defs.proofs.BytesLaws.{length-put, length-put_word, length-part, put_below, put_above, word_same, part_same}
pub use Rattle.rh_defs.proofs.BytesLaws.{word-put_word, word-put_word_below, word-put_word_above, get-put_word_below, get-put_word_above}
pub use Rattle.rh_wide_slot.specs.WideSlots.{IsWideSlot, Leaves, row_place, row_size, end_of, wide_weight, taken_by, has_moved, slides_if}
unfoldable pub use Rattle.rh_wide_slot.specs.WideSlots.{row_block, any_moved}
pub use Rattle.rh_wide_slot.specs.Inner.Shifts.{Edits, IsClear, Shifts, ToldBelow, moved_place, spliced, with_entry}
unfoldable pub use Rattle.rh_wide_slot.specs.Inner.Shifts.{any_from}
pub use Rattle.rh_wide_slot.specs.declared.slot.WideSlot.{WideSlot}
