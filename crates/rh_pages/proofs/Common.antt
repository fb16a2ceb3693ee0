-- Names that many of the proofs here cite, passed on in one place.
pub use Rattle.std.proofs.Common.{Bool, List, ap, append_assoc, ap₂, arith, cond, drop, false, get_or, inl, inr, length, length-append, length-drop}
pub use Rattle.std.proofs.Common.{length-take, lit≤, map, refl, replicate, set, slice_range, subst, suc, sym, take, true, w32, zero, ℕ, [], ◌%◌, ◌*◌, ◌++◌, ◌+◌}
pub use Rattle.std.proofs.Common.{◌-◌, ◌/◌, ◌<◌, ◌==◌, ◌∙◌, ◌∷◌, ◌≡◌, ◌≢◌, ◌≤◌, ◌⊎◌}
pub use Rattle.std.proofs.lemmas.Bool.{cases_eq, cases_lt}
pub use Rattle.std.proofs.lemmas.List.{get_or-set_other, get_or-set_same, get_or-take, length-replicate, length-set, length_push, take-set-le}
pub use Rattle.std.specs.Prelude.{IsSome, None, Option, Some, unwrap_or}
pub use Rattle.rh_defs.proofs.BytesLaws.{length-part, length-put, part-range, part_none}
pub use Rattle.rh_defs.proofs.MemoryLaws.{length-shrunk}
pub use Rattle.rh_defs.specs.Bytes.{with_part}
unfoldable pub use Rattle.rh_defs.specs.Bytes.{part}
pub use Rattle.rh_defs.specs.Memory.{IsOpen, Memory, area_set}
unfoldable pub use Rattle.rh_defs.specs.Memory.{bytes, grown, shrunk, with_bytes}
pub use Rattle.rh_defs.specs.declared.sizes.TheConstants.{MAX_AREAS, PAGE}
pub use Rattle.rh_store.specs.Shares.{times, times_all}
pub use Rattle.rh_pages.specs.Inner.PagedKept.{length-bytes}
pub use Rattle.rh_pages.specs.Paged.{free_of, pages_of, region_of}
pub use Rattle.rh_pages.specs.Inner.PagedLaws.{paged_numbered_law, paged_small_law, paged_whole_law}
unfoldable pub use Rattle.rh_pages.specs.Paged.{paged_memory}
pub use Rattle.rh_pages.specs.Pages.{IsPagedStore, areas_in, paged_bytes, free_in, list_at, paged_memory_in}
unfoldable pub use Rattle.rh_pages.specs.Pages.{paged_contents}
pub use Rattle.rh_pages.specs.Table.{table_rows}
unfoldable pub use Rattle.rh_pages.specs.Table.{lists_of}
pub use Rattle.rh_pages.specs.declared.paged.PagedStore.{PagedStore}
pub use Rattle.rh_pages.specs.declared.table.TheConstants.{LISTS}
