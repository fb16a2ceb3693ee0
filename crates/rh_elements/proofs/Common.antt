-- Names that many of the proofs here cite, passed on in one place.
pub use Rattle.std.proofs.Common.{Bool, List, Some, ap, append-nil, append_assoc, arith, drop, false, length, map, refl, suc, sym, take}
pub use Rattle.std.proofs.Common.{true, ℕ, [], ◌*◌, ◌++◌, ◌+◌, ◌-◌, ◌/◌, ◌<◌, ◌∙◌, ◌∷◌, ◌≡◌, ◌≢◌, ◌≤◌}
pub use Rattle.std.proofs.lemmas.Grind.{flat_map-append}
pub use Rattle.std.specs.Fmt.{decimal}
pub use Rattle.std.specs.List.{flat_map, join_by, range_with_len}
pub use Rattle.std.specs.Prelude.{codes, if◌then◌else◌, nat_le}
pub use Rattle.rh_figure.specs.Phrases.{cut}
pub use Rattle.rh_map.specs.MapMessages.{message_entry_text}
pub use Rattle.rh_map.specs.Replies.{lines_in}
pub use Rattle.rh_sheet.specs.Frames.{row_y}
pub use Rattle.rh_sheet.specs.Markup.{escape, escaped_byte}
pub use Rattle.rh_sheet.specs.SheetRows.{row_text}
pub use Rattle.rh_sheet.specs.SheetSteps.{remark_byte}
pub use Rattle.rh_elements.specs.Inner.DrawReplies.{behind_feeds}
pub use Rattle.rh_elements.specs.DrawRows.{plot_of}
