-- Names that many of the proofs here cite, passed on in one place.
pub use Rattle.std.proofs.Common.{List, ap, arith, drop, false, length, length-append, refl, replicate, subst, sym, take, ℕ, [], ◌%◌, ◌*◌, ◌++◌, ◌+◌, ◌-◌}
pub use Rattle.std.proofs.Common.{◌/◌, ◌<◌, ◌∙◌, ◌∷◌, ◌≡◌, ◌≤◌}
pub use Rattle.std.specs.Prelude.{All, IsNone, IsSome, None, Option, Some, unwrap_or, vec_capacity}
pub use Rattle.rh_defs.proofs.BytesLaws.{length-part, length-put}
pub use Rattle.rh_defs.specs.Bytes.{part, with_part}
unfoldable pub use Rattle.rh_defs.specs.Memory.{bytes}
pub use Rattle.rh_defs.specs.declared.sizes.TheConstants.{MAX_AREAS, PAGE}
pub use Rattle.rh_store.specs.Areas.{ChangedAt}
unfoldable pub use Rattle.rh_store.specs.Areas.{contents}
pub use Rattle.rh_store.specs.Inner.Kept.{numbered_areas, open_index}
unfoldable pub use Rattle.rh_store.specs.Plain.{memory_of}
pub use Rattle.rh_store.specs.declared.area.Area.{Area}
pub use Rattle.rh_store.proofs.AreasLaws.{changed, memory-rewritten, open_read, stays, written_slice}
pub use Rattle.rh_store.proofs.Slices.{written}
