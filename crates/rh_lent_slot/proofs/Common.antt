-- Names that many of the proofs here cite, passed on in one place.
pub use Rattle.std.proofs.Common.{Bool, List, ap, append_assoc, arith, cond, drop, false, length, refl, replicate, rules, subst, sym, take, true, ℕ, ◌%◌, ◌*◌}
pub use Rattle.std.proofs.Common.{◌+◌, ◌-◌, ◌/◌, ◌<◌, ◌==◌, ◌^◌, ◌∙◌, ◌≡◌, ◌≤◌}
pub use Rattle.std.proofs.lemmas.Bool.Decides.{nat_tests}
pub use Rattle.std.proofs.lemmas.List.{length-replicate, length-take-le}
pub use Rattle.std.specs.Int.{w32}
pub use Rattle.std.specs.Prelude.{Err, IsSome, None, Ok, OnErr, Option, Some, is_some, ℤ, [], ◌++◌, ◌||◌, ◌∷◌}
pub use Rattle.rh_defs.proofs.BytesLaws.{length-part}
pub use Rattle.rh_defs.specs.Bytes.{part, with_part}
pub use Rattle.rh_defs.specs.Chain.{no_answer}
pub use Rattle.rh_defs.specs.Memory.{Memory}
unfoldable pub use Rattle.rh_defs.specs.Memory.{area_set, bytes}
pub use Rattle.rh_defs.specs.Slot.{new_slot}
unfoldable pub use Rattle.rh_defs.specs.SlotImage.{slot_of}
pub use Rattle.rh_defs.specs.declared.refusal.Refusal.TheVariants.{BadRange}
pub use Rattle.rh_defs.specs.declared.sizes.TheConstants.{PAGE}
pub use Rattle.rh_lent_slot.specs.LentPages.{first_pages, lent_memory_in}
unfoldable pub use Rattle.rh_lent_slot.specs.LentPages.{lent_pages_memory, pages_memory_over, pages_memory_shown}
pub use Rattle.rh_lent_slot.specs.Slots.{IsSlotBytes, LeavesSlot, lent_slot_bytes, free_in, lent_slot_in}
unfoldable pub use Rattle.rh_lent_slot.specs.Write.{slot_write}
