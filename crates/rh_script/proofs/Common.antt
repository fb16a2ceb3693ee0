-- Names that many of the proofs here cite, passed on in one place.
pub use borrow.Author.Tests.{tests}
pub use Rattle.std.proofs.Common.{Bool, Err, List, None, Ok, Option, Result, Some, ap, append-nil, append_assoc, arith, codes, cond, drop, false, get_or}
pub use Rattle.std.proofs.Common.{length, refl, subst, suc, sym, take, true, zero, ℕ, [], ◌++◌, ◌+◌, ◌-◌, ◌<◌, ◌^◌, ◌∙◌, ◌∷◌, ◌≡◌, ◌≢◌, ◌≤◌}
pub use Rattle.std.proofs.lemmas.List.{take-append-drop, take_all}
pub use Rattle.std.specs.Fmt.{decimal}
pub use Rattle.std.specs.List.{flat_map}
pub use Rattle.std.specs.Option.{option_map}
pub use Rattle.std.specs.Prelude.{IfErr, IfOk, MatchResult, find, if◌then◌else◌, map, nat_lt, slice_get, ◌==◌}
pub use Rattle.rh_defs.specs.Questions.{area_items, in_item, out_item}
pub use Rattle.rh_defs.specs.Text.{area_line, block_line, ok, record_line, segment_line}
pub use Rattle.rh_defs.specs.declared.question.SegmentItem.{SegmentItem}
pub use Rattle.rh_tasks.specs.WorldLists.{segment_items_at}
pub use Rattle.rh_script.specs.NamedSlots.{bytes_of_named, heap_of_named}
