-- Names that many of the proofs here cite, passed on in one place.
pub use Rattle.std.proofs.Common.{Bool, List, add-one, ap, append-nil, append_assoc, arith, drop, eqb, false, length, length-append, length-take}
pub use Rattle.std.proofs.Common.{map, refl, subst, suc, sym, take, true, zero, ℕ, [], ◌*◌, ◌++◌, ◌+◌, ◌-◌, ◌/◌, ◌<◌, ◌∙◌, ◌∷◌, ◌≡◌, ◌≢◌, ◌≤◌}
pub use Rattle.std.proofs.lemmas.Bool.Decides.{nat_tests}
pub use Rattle.std.specs.Fmt.{decimal}
pub use Rattle.std.specs.List.{flat_map, range_with_len}
pub use Rattle.std.specs.Prelude.{codes, filter, find, min, nat_le, not, slice_index, ◌==◌}
pub use Rattle.rh_defs.proofs.HeapLists.{cond_false, eqb_apart}
pub use Rattle.rh_figure.specs.Map.{shown_byte, shown_line}
pub use Rattle.rh_figure.specs.Phrases.{size_text, where_so}
pub use Rattle.rh_figure.specs.Rows.{trimmed}
pub use Rattle.rh_figure.specs.declared.limits.TheConstants.{MOST_REPLY_LINES}
pub use Rattle.rh_map.specs.MapMessages.{message_entry_text}
pub use Rattle.rh_map.specs.Replies.{first_lines, lines_in}
pub use Rattle.rh_map.specs.Written.{shown_lines}
pub use Rattle.rh_map.specs.Inner.Filled.{Fills}
